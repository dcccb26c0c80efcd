-- The requests of a lane, one after another.
use Rattle.std.proofs.Common.{◌≡◌, ℕ, ◌+◌, ◌<◌, ◌==◌, Bool, true, false, cond, List, [], ◌∷◌, ◌++◌, length, get_or, drop, take, map, filter, refl, sym, ap, subst, ◌∙◌, append_assoc}
use Rattle.std.specs.Prelude.{All, Result, Ok, Err}
use Rattle.std.proofs.lemmas.List.{append-nil, map-append, take_more, take-append-drop}
use Rattle.std.proofs.lemmas.List.Elements.{All-head, All-take, All-drop, filter-append}
use Rattle.std.proofs.Math.Seq.{take-append_seam, drop-append_seam}
use Rattle.package_url.specs.declared.url.Url.{Url}
use Rattle.script_lang.specs.declared.request.Ask.{Ask}
use Rattle.script_lang.specs.declared.request.Ask.TheVariants as asks
use Rattle.script_lang.specs.declared.request.Request.{Request}
use Rattle.script_lang.specs.Servable.{IsServable}
use Rattle.store_model.specs.declared.events.Event.{Event}
use Rattle.store_model.specs.History.{Numbered}
use Rattle.store_model.specs.Desk.{View}
use Rattle.system_updater.specs.Serving.{joined}
use Rattle.system_updater.specs.Viewing.{Told}
use Rattle.system_updater.specs.Viewing as viewing
use Rattle.system_updater.proofs.Grown.{filled_firm}
use Rattle.system_updater.proofs.Goes.{does_none, does_then, joined_then}
use Rattle.lane_server.specs.declared.names.Binding.{Binding}
use Rattle.lane_server.specs.Serving.{Place, place_of, Serves, IsUpdated, IsCut, Leads, ServesAll, ServesFront, ServesTo, asks_of}
use Rattle.lane_server.specs.Steps.{Served, ServesOwn}
use Rattle.lane_server.specs.Viewing.{Does}

-- ---- as the lane sees more

-- the lane has seen more of the same history
pub record SeesMore (p q : Place) : Type 0 where
  pub lane : p.lane ≡ q.lane
  pub origin : p.origin ≡ q.origin
  pub more : List Event
  pub history : q.history ≡ p.history ++ more

sees_more : (run : List Numbered) (v w : View) (r s : Told) (F G : Type 0) → viewing.Does run v w r s F G → SeesMore (place_of v) (place_of w)
sees_more run v w r s F G does = record { lane = sym does.stays.lane; origin = sym does.stays.origin; more = does.more; history = does.seen }

sees_same : (p : Place) → SeesMore p p
sees_same p = record { lane = refl; origin = refl; more = []; history = sym (append-nil p.history) }

module _ (p q : Place) (k : SeesMore p q) (F G : Type 0) (f : F → G) where
  updated_wider : (url : Url) (names : List Binding) (run : List Numbered) (later : List Binding) → IsUpdated G p url names run later → IsUpdated F q url names run later
  updated_wider url names run later is = record {
    reply = is.reply;
    serves = is.serves;
    filled = record {
      old = is.filled.old;
      new = is.filled.new;
      mine = is.filled.mine;
      lane = is.filled.lane ∙ k.lane;
      origin = is.filled.origin ∙ k.origin;
      later = is.filled.later ++ k.more;
      front = k.history ∙ ap (λ (es : List Event). es ++ k.more) is.filled.front ∙ append_assoc is.filled.new.seen is.filled.later k.more;
      is = filled_firm is.filled.old is.filled.new F G is.reply f is.filled.is;
    };
    whole = is.whole;
    leads = is.leads;
  }

  serves_wider : (names : List Binding) (ask : Ask) (run : List Numbered) (later : List Binding) → Serves G p names ask run later → Serves F q names ask run later
  serves_wider names (asks.Resolve name url) run later is = is
  serves_wider names (asks.OpenPath name path) run later is = is
  serves_wider names (asks.Cat name file) run later is = is
  serves_wider names (asks.Check name file) run later is = is
  serves_wider names (asks.Close name) run later is = is
  serves_wider names asks.Collect run later is = is
  serves_wider names (asks.Retain roots) run later is = is
  serves_wider names (asks.Update url) run later is = updated_wider url names run later is
  serves_wider names asks.Commit run later is = is

  leads_wider : (names : List Binding) (all : List Ask) (runs : List (List Numbered)) (later : List Binding) → Leads G p names all runs later → Leads F q names all runs later
  leads_wider names [] [] later is = is
  leads_wider names (ask ∷ all) (run ∷ runs) later is = (is.0, serves_wider names ask run is.0 is.1, leads_wider is.0 all runs later is.2)
  leads_wider names [] (run ∷ runs) later is = absurd is
  leads_wider names (ask ∷ all) [] later is = absurd is

  pub all_wider : (all : List Ask) (events : List Numbered) → ServesAll G p all events → ServesAll F q all events
  all_wider all events is = record { runs = is.runs; later = is.later; leads = leads_wider [] all is.runs is.later is.leads; whole = is.whole }

  pub front_wider : (all : List Ask) (events : List Numbered) → ServesFront G p all events → ServesFront F q all events
  front_wider all events is = record {
    first = is.first;
    next = is.next;
    rest = is.rest;
    split = is.split;
    runs = is.runs;
    later = is.later;
    leads = leads_wider [] is.first is.runs is.later is.leads;
    last = is.last;
    cut = is.cut;
    whole = is.whole;
  }

-- ---- one behind the other

-- one run more at the end
leads_push : (F : Type 0) (p : Place) (a b c : List Binding) (asks : List Ask) (ask : Ask) (runs : List (List Numbered)) (run : List Numbered) → Leads F p a asks runs b → Serves F p b ask run c → Leads F p a (asks ++ ask ∷ []) (runs ++ run ∷ []) c
leads_push F p a b c [] ask [] run leads serves = (c, subst (λ (n : List Binding). Serves F p n ask run c) leads serves, refl)
leads_push F p a b c (x ∷ xs) ask (r ∷ rs) run leads serves = (leads.0, leads.1, leads_push F p leads.0 b c xs ask rs run leads.2 serves)
leads_push F p a b c [] ask (r ∷ rs) run leads serves = absurd leads
leads_push F p a b c (x ∷ xs) ask [] run leads serves = absurd leads

joined_push : (runs : List (List Numbered)) (run : List Numbered) → joined (runs ++ run ∷ []) ≡ joined runs ++ run
joined_push runs run = joined_then runs (run ∷ []) ∙ ap (λ (es : List Numbered). joined runs ++ es) (append-nil run)

all_behind : (xs ys : List Ask) → All IsServable (xs ++ ys) → All IsServable ys
all_behind xs ys all = subst (All IsServable) (drop-append_seam xs ys) (All-drop IsServable (length xs) (xs ++ ys) all)

all_before : (xs ys : List Ask) → All IsServable (xs ++ ys) → All IsServable xs
all_before xs ys all = subst (All IsServable) (take-append_seam xs ys) (All-take IsServable (length xs) (xs ++ ys) all)

-- nothing was asked yet
pub served_none : (names : List Binding) → names ≡ [] → (v : View) (repo : Told) (F : Type 0) → Served [] names v v repo repo F F
served_none names is v repo F = record { runs = []; leads = is; does = does_none v repo F; tickets = refl; stage = refl }

module _ (done : List Ask) (names later : List Binding) (ask : Ask) (v w u : View) (r s t : Told) (F G H : Type 0) where
  -- one request more was served
  served_push : Served done names v w r s F G → Does (λ run. Serves G (place_of u) names ask run later) w u s t G H → Served (done ++ ask ∷ []) later v u r t F H
  served_push h k = record {
    runs = h.runs ++ k.run ∷ [];
    leads = leads_push F (place_of u) [] names later done ask h.runs k.run
        (leads_wider (place_of w) (place_of u) (sees_more k.run w u s t G H k.does) F F (λ firm. firm) [] done h.runs names h.leads)
        (serves_wider (place_of u) (place_of u) (sees_same (place_of u)) F G h.does.firm.0 names ask k.run later k.its);
    does = subst (λ (es : List Numbered). viewing.Does es v u r t F H) (sym (joined_push h.runs k.run)) (does_then (joined h.runs) k.run v w u r s t F G H h.does k.does);
    tickets = k.tickets ∙ h.tickets;
    stage = k.stage ∙ h.stage;
  }

  -- the next was cut
  served_cut : (rest all : List Ask) → all ≡ done ++ ask ∷ rest → Served done names v w r s F G → Does (IsCut ask) w u s t G H → Does (ServesFront F (place_of u) all) v u r t F H
  served_cut rest all split h k = record {
    run = joined h.runs ++ k.run;
    its = record { first = done; next = ask; rest = rest; split = split; runs = h.runs; later = names; leads = leads_wider (place_of w) (place_of u) (sees_more k.run w u s t G H k.does) F F (λ firm. firm) [] done h.runs names h.leads; last = k.run; cut = k.its; whole = refl };
    does = does_then (joined h.runs) k.run v w u r s t F G H h.does k.does;
    tickets = k.tickets ∙ h.tickets;
    stage = k.stage ∙ h.stage;
  }

-- ---- the next request, if it is the lane's

-- what is asked of the lane by a request
abbrev own_asks : Bool → Ask → List Ask
own_asks true ask = ask ∷ []
own_asks false ask = []

module _ (A E : Type 0) (done : List Ask) (names later : List Binding) (own : Bool) (ask : Ask) (v w u : View) (r s t : Told) (F G H : Type 0) where
  pub own_push : (x : A) → Served done names v w r s F G → Does (λ run. ServesOwn {A = A} {E = E} G (place_of u) (Ok x) names own ask run later) w u s t G H → Served (done ++ own_asks own ask) later v u r t F H
  own_push x h k = elim own as (λ b. Does (λ run. ServesOwn {A = A} {E = E} G (place_of u) (Ok x) names b ask run later) w u s t G H → Served (done ++ own_asks b ask) later v u r t F H) [
    | true ↦ λ k. served_push done names later ask v w u r s t F G H h k
    | false ↦ λ k. passed k
  ] k where
    passed : Does (λ run. (run ≡ []) × (later ≡ names)) w u s t G H → Served (done ++ []) later v u r t F H
    passed k = record {
      runs = h.runs;
      leads = subst (λ (all : List Ask). Leads F (place_of u) [] all h.runs later) (sym (append-nil done))
          (leads_wider (place_of w) (place_of u) (sees_more k.run w u s t G H k.does) F F (λ firm. firm) [] done h.runs later (subst (λ (n : List Binding). Leads F (place_of w) [] done h.runs n) (sym k.its.1) h.leads));
      does = subst (λ (es : List Numbered). viewing.Does es v u r t F H) (ap (λ (es : List Numbered). joined h.runs ++ es) k.its.0 ∙ append-nil (joined h.runs)) (does_then (joined h.runs) k.run v w u r s t F G H h.does k.does);
      tickets = k.tickets ∙ h.tickets;
      stage = k.stage ∙ h.stage;
    }

  pub own_cut : (fault : E) (rest all : List Ask) → all ≡ done ++ (own_asks own ask ++ rest) → Served done names v w r s F G → Does (λ run. ServesOwn {A = A} {E = E} G (place_of u) (Err fault) names own ask run later) w u s t G H → Does (ServesFront F (place_of u) all) v u r t F H
  own_cut fault rest all split h k = elim own as (λ b. all ≡ done ++ (own_asks b ask ++ rest) → Does (λ run. ServesOwn {A = A} {E = E} G (place_of u) (Err fault) names b ask run later) w u s t G H → Does (ServesFront F (place_of u) all) v u r t F H) [
    | true ↦ λ split k. served_cut done names later ask v w u r s t F G H rest all split h k
    | false ↦ λ split k. absurd k.its
  ] split k

-- ---- the requests at a place

module _ (lane : ℕ) where
  asks_one : (x : Request) → asks_of lane (x ∷ []) ≡ own_asks (x.lane == lane) x.ask
  asks_one x = by_test (x.lane == lane) where
    by_test : (b : Bool) → map (λ (r : Request). r.ask) (cond b (x ∷ []) []) ≡ own_asks b x.ask
    by_test true = refl
    by_test false = refl

  asks_then : (xs ys : List Request) → asks_of lane (xs ++ ys) ≡ asks_of lane xs ++ asks_of lane ys
  asks_then xs ys =
      ap (map (λ (r : Request). r.ask)) (filter-append (λ (r : Request). r.lane == lane) xs ys)
      ∙ map-append (λ (r : Request). r.ask) (filter (λ (r : Request). r.lane == lane) xs) (filter (λ (r : Request). r.lane == lane) ys)

  module _ (requests : List Request) (i : ℕ) (x : Request) (inside : i < length requests) (is : x ≡ get_or requests i x) where
    pub asks_more : asks_of lane (take (i + 1) requests) ≡ asks_of lane (take i requests) ++ own_asks (x.lane == lane) x.ask
    asks_more =
        ap (asks_of lane) (take_more requests i x inside ∙ ap (λ (y : Request). take i requests ++ y ∷ []) (sym is))
        ∙ asks_then (take i requests) (x ∷ [])
        ∙ ap (λ (asks : List Ask). asks_of lane (take i requests) ++ asks) (asks_one x)

    pub asks_parted : asks_of lane requests ≡ asks_of lane (take i requests) ++ (own_asks (x.lane == lane) x.ask ++ asks_of lane (drop (i + 1) requests))
    asks_parted =
        ap (asks_of lane) (sym (take-append-drop (i + 1) requests)) ∙ asks_then (take (i + 1) requests) (drop (i + 1) requests)
        ∙ ap (λ (asks : List Ask). asks ++ asks_of lane (drop (i + 1) requests)) asks_more
        ∙ append_assoc (asks_of lane (take i requests)) (own_asks (x.lane == lane) x.ask) (asks_of lane (drop (i + 1) requests))

    -- where all can be served, so can this one
    pub own_servable : All IsServable (asks_of lane requests) → All IsServable (asks_of lane (x ∷ []))
    own_servable all =
        let later : All IsServable (own_asks (x.lane == lane) x.ask ++ asks_of lane (drop (i + 1) requests)) =
        all_behind (asks_of lane (take i requests)) _ (subst (All IsServable) asks_parted all) in
        subst (All IsServable) (sym (asks_one x)) (all_before (own_asks (x.lane == lane) x.ask) _ later)

-- the request of the lane itself can be served
pub this_servable : (lane : ℕ) (x : Request) → (x.lane == lane) ≡ true → All IsServable (asks_of lane (x ∷ [])) → IsServable x.ask
this_servable lane x own all =
    All-head IsServable x.ask [] (subst (All IsServable) (asks_one lane x ∙ ap (λ (b : Bool). own_asks b x.ask) own) all)

-- ---- the end

-- all were served
pub served_all : (all : List Ask) (names : List Binding) (v w : View) (r s : Told) (F G : Type 0) → Served all names v w r s F G → Does (ServesAll F (place_of w) all) v w r s F G
served_all all names v w r s F G h = record {
  run = joined h.runs;
  its = record { runs = h.runs; later = names; leads = h.leads; whole = refl };
  does = h.does;
  tickets = h.tickets;
  stage = h.stage;
}

-- the answer under another name
pub answered : (A E : Type 0) (all : List Ask) (result other : Result A E) (v w : View) (r s : Told) (F G : Type 0) → result ≡ other → Does (ServesTo F (place_of w) result all) v w r s F G → Does (ServesTo F (place_of w) other all) v w r s F G
answered A E all result other v w r s F G same does = subst (λ (x : Result A E). Does (ServesTo F (place_of w) x all) v w r s F G) same does

-- what was asked under another name
pub served_of : (asks others : List Ask) (names : List Binding) (v w : View) (r s : Told) (F G : Type 0) → others ≡ asks → Served asks names v w r s F G → Served others names v w r s F G
served_of asks others names v w r s F G same h = subst (λ (all : List Ask). Served all names v w r s F G) (sym same) h

pub all_of : (asks others : List Ask) (v w : View) (r s : Told) (F G : Type 0) → asks ≡ others → Does (ServesAll F (place_of w) asks) v w r s F G → Does (ServesAll F (place_of w) others) v w r s F G
all_of asks others v w r s F G same h = subst (λ (all : List Ask). Does (ServesAll F (place_of w) all) v w r s F G) same h
