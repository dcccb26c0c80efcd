-- Lanes that are served one after the other.
use Rattle.std.proofs.Common.{◌≡◌, ◌⊎◌, inl, inr, ℕ, ◌+◌, ◌-◌, ◌<◌, ◌≤◌, ◌==◌, Bool, true, false, ◌||◌, List, [], ◌∷◌, ◌++◌, length, filter, take, All, Result, refl, sym, ap, subst, ◌∙◌, append_assoc, arith}
use Rattle.std.proofs.lemmas.List.{append-nil}
use Rattle.std.proofs.Math.Seq.{take-append_seam}
use Rattle.std.proofs.lemmas.Bool.{cases_lt}
use Rattle.std.proofs.lemmas.List.Elements.{All-filter, All-map}
use Rattle.script_lang.specs.declared.request.Request.{Request}
use Rattle.script_lang.specs.Servable.{IsServable}
use Rattle.store_model.specs.declared.events.Event.{Event}
use Rattle.store_model.specs.History.{Origin, Numbered, of_lane}
use Rattle.store_model.specs.Holding.{held}
use Rattle.store_model.specs.Desk.{View}
use Rattle.system_updater.specs.Viewing.{Told}
use Rattle.system_updater.specs.Viewing as updates
use Rattle.lane_server.specs.Serving.{place_of, asks_of}
use Rattle.lane_server.specs.Serving as lanes
use Rattle.lane_server.specs.Viewing.{Does}
use Rattle.lane_server.proofs.Lanes.{SeesMore, all_wider, front_wider}
use Rattle.plain_desk.specs.Stores.{StoreOf, LeavesOthers}
use Rattle.script_server.specs.Lanes.{Fetched, ServesTo, IsAtRest, IsServed, AreServed, AreFresh, ServesLanes, place_at}

-- ---- requests

-- what can be asked of each lane can be asked of one
pub servable : (lane : ℕ) (requests : List Request) → All (λ (r : Request). IsServable r.ask) requests → All IsServable (asks_of lane requests)
servable lane requests all =
    All-map IsServable (λ (r : Request). r.ask) (filter (λ (r : Request). r.lane == lane) requests)
    (All-filter (λ (r : Request). r.lane == lane) (λ (r : Request). IsServable r.ask) requests all)

-- ---- one lane

-- A desk whose lane had no event was served.
module _ (requests : List Request) (lane : ℕ) (repo repo_now : Told) (old new : View) (F G : Type 0) (none : old.mine ≡ []) where
  from_run : (run : List Numbered) → updates.Does run old new repo repo_now F G → run ≡ new.mine
  from_run run does = sym (does.mine ∙ ap (λ (es : List Numbered). es ++ run) none)

  fetched : (run : List Numbered) → updates.Does run old new repo repo_now F G → Fetched run repo repo_now
  fetched run does = record {
    asked = does.asked;
    failed = does.failed;
    lists = does.lists;
    tells = does.tells;
    listing = does.listing;
    files = does.files;
  }

  pub serve : {A E : Type 0} (r : Result A E) (cut : Bool) → new.lane ≡ lane
      → ((events : List Numbered) → lanes.ServesTo F (place_of new) r (asks_of lane requests) events → ServesTo (place_of new) cut (asks_of lane requests) events)
      → Does (lanes.ServesTo F (place_of new) r (asks_of lane requests)) old new repo repo_now F G → IsServed requests (place_at new.origin new.seen lane) cut repo repo_now new.mine
  serve r cut here same d = record {
    serves = subst (λ (n : ℕ). ServesTo (place_at new.origin new.seen n) cut (asks_of lane requests) new.mine) here
        (subst (ServesTo (place_of new) cut (asks_of lane requests)) (from_run d.run d.does) (same d.run d.its));
    fetched = subst (λ (es : List Numbered). Fetched es repo repo_now) (from_run d.run d.does) (fetched d.run d.does);
    rests = record {
      claim = d.does.claim ∙ ap (λ (es : List Numbered). (held es).claim) none;
      tickets = d.tickets ∙ ap (λ (es : List Numbered). (held es).tickets) none;
      stage = d.stage ∙ ap (λ (es : List Numbered). (held es).stage) none;
    };
  }

-- nobody else was at the store
pub others_kept : (lane began : ℕ) (old new more : List Event) → new ≡ old ++ more → began ≡ length old → LeavesOthers lane (take began new) new → LeavesOthers lane old new
others_kept lane began old new more seen is leaves =
    subst (λ (front : List Event). LeavesOthers lane front new)
    (ap (λ (n : ℕ). take n new) is ∙ ap (take (length old)) seen ∙ take-append_seam old more) leaves

-- ---- lanes behind lanes

-- what was served of a lane is so of a longer history
served_wider : (requests : List Request) (lane : ℕ) (cut : Bool) (repo repo1 : Told) (origin origin1 : Origin) (history history1 more : List Event) (events : List Numbered) → origin1 ≡ origin → history1 ≡ history ++ more
    → IsServed requests (place_at origin history lane) cut repo repo1 events → IsServed requests (place_at origin1 history1 lane) cut repo repo1 events
served_wider requests lane cut repo repo1 origin origin1 history history1 more events same grows is = record {
  serves = go cut is.serves;
  fetched = is.fetched;
  rests = is.rests;
} where
  sees : SeesMore (place_at origin history lane) (place_at origin1 history1 lane)
  sees = record { lane = refl; origin = sym same; more = more; history = grows }

  go : (c : Bool) → ServesTo (place_at origin history lane) c (asks_of lane requests) events → ServesTo (place_at origin1 history1 lane) c (asks_of lane requests) events
  go false all = all_wider (place_at origin history lane) (place_at origin1 history1 lane) sees (Unit {0}) (Unit {0}) (λ firm. firm) (asks_of lane requests) events all
  go true front = front_wider (place_at origin history lane) (place_at origin1 history1 lane) sees (Unit {0}) (Unit {0}) (λ firm. firm) (asks_of lane requests) events front

-- no lane is left to serve
pub none_behind : (requests : List Request) (before : ℕ) (repos : List Told) (s : StoreOf) → AreFresh before s.history → ServesLanes requests before 0 false repos repos s s
none_behind requests before repos s fresh = record {
  cuts = [];
  each = refl;
  some = refl;
  served = refl;
  first = λ lane within. refl;
  fresh = subst (λ (n : ℕ). AreFresh n s.history) (omega arith) fresh;
  more = [];
  grows = sym (append-nil s.history);
  origin = refl;
}

module _ (requests : List Request) (before count : ℕ) (s s1 : StoreOf) (others : LeavesOthers (before + 1) s.history s1.history) where
  -- the lanes behind the one that was served have no event
  pub fresh_behind : AreFresh before s.history → AreFresh (before + 1) s1.history
  fresh_behind fresh lane behind = others lane (λ same. omega (arith, same, behind)) ∙ fresh lane (omega (arith, behind))

  -- one lane was served, and then those behind it
  pub one_more : (cut later starved : Bool) (repo repo1 : Told) (repos repos1 : List Told) (s2 : StoreOf) → (cut || later) ≡ starved → 0 < count
      → IsServed requests (place_at s1.origin s1.history (before + 1)) cut repo repo1 (of_lane (before + 1) s1.history) → (more : List Event) × (s1.history ≡ s.history ++ more) → s1.origin ≡ s.origin
      → ServesLanes requests (before + 1) (count - 1) later repos repos1 s1 s2 → ServesLanes requests before count starved (repo ∷ repos) (repo1 ∷ repos1) s s2
  one_more cut later starved repo repo1 repos repos1 s2 is some served grows origin rest = record {
    cuts = cut ∷ rest.cuts;
    each = omega (arith, rest.each, some);
    some = sym is ∙ ap (λ (b : Bool). cut || b) rest.some;
    served = (
      subst (IsServed requests (place_at s2.origin s2.history (before + 1)) cut repo repo1) (sym (rest.first (before + 1) (omega arith)))
          (served_wider requests (before + 1) cut repo repo1 s1.origin s2.origin s1.history s2.history rest.more (of_lane (before + 1) s1.history) rest.origin rest.grows served),
      rest.served,
    );
    first = λ lane within. rest.first lane (omega (arith, within)) ∙ others lane (λ same. omega (arith, same, within));
    fresh = subst (λ (n : ℕ). AreFresh n s2.history) (omega (arith, some)) rest.fresh;
    more = grows.0 ++ rest.more;
    grows = rest.grows ∙ ap (λ (es : List Event). es ++ rest.more) grows.1 ∙ append_assoc s.history grows.0 rest.more;
    origin = rest.origin ∙ origin;
  }

-- ---- what the lanes hold

-- a lane without an event holds nothing
pub idle : (events : List Numbered) → events ≡ [] → IsAtRest (held events)
idle events none = rw none (record { claim = refl; tickets = refl; stage = refl })

-- each lane that was served is at rest
pub rest_served : (origin : Origin) (requests : List Request) (history : List Event) (before : ℕ) (cuts : List Bool) (repos repos1 : List Told) → AreServed origin requests history before cuts repos repos1
    → (lane : ℕ) → before < lane → lane ≤ before + length cuts → IsAtRest (held (of_lane lane history))
rest_served origin requests history before [] repos repos1 are lane behind within = absurd (omega (arith, behind, within))
rest_served origin requests history before (cut ∷ cuts) [] repos1 are lane behind within = absurd are
rest_served origin requests history before (cut ∷ cuts) (repo ∷ repos) [] are lane behind within = absurd are
rest_served origin requests history before (cut ∷ cuts) (repo ∷ repos) (repo1 ∷ repos1) are lane behind within =
    go (cases_lt (before + 1) lane) (rest_served origin requests history (before + 1) cuts repos repos1 are.1 lane) where
      go : (before + 1 < lane) ⊎ (lane ≤ before + 1) → (before + 1 < lane → lane ≤ before + 1 + length cuts → IsAtRest (held (of_lane lane history))) → IsAtRest (held (of_lane lane history))
      go (inl further) later = later further (omega (arith, within))
      go (inr near) later = subst (λ (n : ℕ). IsAtRest (held (of_lane n history))) (omega (arith, near, behind)) are.0.rests
