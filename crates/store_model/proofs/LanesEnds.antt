-- A claim stays until an event ends it.
use Rattle.std.proofs.Common.{◌≡◌, ◌≢◌, ℕ, Bool, true, false, cond, not, List, [], ◌∷◌, Some, None, refl, sym, ap, subst, ◌∙◌}
use Rattle.std.specs.Option.{option_map}
use Rattle.std.proofs.lemmas.Bool.{false_from_ne_true, not_from_false, not_from_true}
use Rattle.std.proofs.lemmas.List.Folds.{find-append}
use Rattle.pkg_names.specs.declared.root.Root.{Root}
use Rattle.pkg_names.specs.Root.{root_eq}
use Rattle.pkg_names.proofs.Roots.{root_eq-true}
use Rattle.fetch_queue.specs.declared.queue.ClaimEntry.{ClaimEntry}
use Rattle.fetch_queue.specs.Fetches.{roomed, without_claim}
use Rattle.store_model.specs.declared.events.Event.{Event}
use Rattle.store_model.specs.declared.events.CallName.TheVariants as calls
use Rattle.store_model.specs.declared.events.Act.{Act}
use Rattle.store_model.specs.declared.events.Act.TheVariants.{Want, Room, Put, Land, Missed, Refused}
use Rattle.store_model.specs.declared.ends.WantEnd.TheVariants as wants
use Rattle.store_model.specs.declared.ends.Miss.TheVariants as misses
use Rattle.store_model.specs.State.{State, claim_of}
use Rattle.store_model.specs.Step.{next, next_broken, step}
use Rattle.store_model.specs.Lanes.{ended_by, ended_by_failure, ends_claim_of, with_room_by, after_room}
use Rattle.store_model.proofs.LanesLists.{find-map, find_kept, find_gone}
use Rattle.store_model.proofs.LanesLasting.{keeps_rest}
use Rattle.store_model.proofs.LanesOnce.{roomed_root}

-- ---- until it ends

other_stays : (claims : List ClaimEntry) (gone root : Root) → Some gone ≢ Some root → claim_of (without_claim claims gone) root ≡ claim_of claims root
other_stays claims gone root other =
    find_kept (λ (c : ClaimEntry). root_eq c.root root) (λ (c : ClaimEntry). not (root_eq c.root gone))
    (λ c own. not_from_false _ (false_from_ne_true _ (λ also. other (ap (λ (r : Root). Some r) (sym (root_eq-true c.root gone also) ∙ root_eq-true c.root root own)))))
    claims

stays_next : (s : State) (number lane : ℕ) (act : Act) (root : Root) (claim : ClaimEntry) → claim_of s.claims root ≡ Some claim → ended_by act ≢ Some root → claim_of (next s number lane act).claims root ≡ Some (with_room_by act claim)
stays_next s number lane (Want ticket (wants.Fetch blob)) root claim found other =
    find-append (λ (c : ClaimEntry). root_eq c.root root) s.claims (record { root = blob; lane = lane; len = None } ∷ []) ∙ rw found refl
stays_next s number lane (Want ticket wants.Opened) root claim found other = found
stays_next s number lane (Want ticket (wants.Failed cause)) root claim found other = found
stays_next s number lane (Room blob len None) root claim found other =
    find-map (λ (c : ClaimEntry). root_eq c.root root) (roomed blob len) (λ c. ap (λ (r : Root). root_eq r root) (roomed_root blob len c)) s.claims ∙ ap (option_map (roomed blob len)) found
stays_next s number lane (Room blob len (Some end)) root claim found other = other_stays s.claims blob root other ∙ found
stays_next s number lane (Put blob None) root claim found other = found
stays_next s number lane (Put blob (Some end)) root claim found other = other_stays s.claims blob root other ∙ found
stays_next s number lane (Land blob len None seen) root claim found other = other_stays s.claims blob root other ∙ found
stays_next s number lane (Land blob len (Some end) seen) root claim found other = other_stays s.claims blob root other ∙ found
stays_next s number lane (Missed blob misses.Absent) root claim found other = other_stays s.claims blob root other ∙ found
stays_next s number lane (Missed blob misses.Read) root claim found other = other_stays s.claims blob root other ∙ found
stays_next s number lane (Missed blob misses.Memory) root claim found other = other_stays s.claims blob root other ∙ found
stays_next s number lane (Refused (calls.Room blob) broken) root claim found other = other_stays s.claims blob root other ∙ found
stays_next s number lane (Refused (calls.Put blob) broken) root claim found other = other_stays s.claims blob root other ∙ found
stays_next s number lane (Refused (calls.Land blob) broken) root claim found other = other_stays s.claims blob root other ∙ found
stays_next s number lane (Refused call broken) root claim found other = found
stays_next s number lane act root claim found other =
    ap (λ (claims : List ClaimEntry). claim_of claims root) ((keeps_rest s number (record { lane = lane; act = act; broke = false })).claims refl) ∙ found

stays_broken : (s : State) (number : ℕ) (act : Act) (root : Root) (claim : ClaimEntry) → claim_of s.claims root ≡ Some claim → ended_by_failure act ≢ Some root → claim_of (next_broken s number act).claims root ≡ Some claim
stays_broken s number (Put blob reply) root claim found other = other_stays s.claims blob root other ∙ found
stays_broken s number (Land blob len reply seen) root claim found other = other_stays s.claims blob root other ∙ found
stays_broken s number act root claim found other = found

pub stays_until : (s : State) (number : ℕ) (e : Event) (root : Root) (claim : ClaimEntry) → claim_of s.claims root ≡ Some claim → ends_claim_of e ≢ Some root → claim_of (step s number e).claims root ≡ Some (after_room e claim)
stays_until s number e root claim found other = by_broke e.broke other where
  by_broke : (b : Bool) → cond b (ended_by_failure e.act) (ended_by e.act) ≢ Some root → claim_of (cond b (next_broken s number e.act) (next s number e.lane e.act)).claims root ≡ Some (cond b claim (with_room_by e.act claim))
  by_broke true differs = stays_broken s number e.act root claim found differs
  by_broke false differs = stays_next s number e.lane e.act root claim found differs

-- ---- and not longer

gone_then : (claims : List ClaimEntry) (gone root : Root) → Some gone ≡ Some root → claim_of (without_claim claims gone) root ≡ None
gone_then claims gone root is =
    let same : gone ≡ root = cc is in
    subst (λ (r : Root). claim_of (without_claim claims gone) r ≡ None) same
    (find_gone (λ (c : ClaimEntry). root_eq c.root gone) (λ (c : ClaimEntry). not (root_eq c.root gone)) (λ c own. not_from_true _ own) claims)

ended_next : (s : State) (number lane : ℕ) (act : Act) (root : Root) → ended_by act ≡ Some root → claim_of (next s number lane act).claims root ≡ None
ended_next s number lane (Room blob len (Some end)) root is = gone_then s.claims blob root is
ended_next s number lane (Put blob (Some end)) root is = gone_then s.claims blob root is
ended_next s number lane (Land blob len None seen) root is = gone_then s.claims blob root is
ended_next s number lane (Land blob len (Some end) seen) root is = gone_then s.claims blob root is
ended_next s number lane (Missed blob misses.Absent) root is = gone_then s.claims blob root is
ended_next s number lane (Missed blob misses.Read) root is = gone_then s.claims blob root is
ended_next s number lane (Missed blob misses.Memory) root is = gone_then s.claims blob root is
ended_next s number lane (Refused (calls.Room blob) broken) root is = gone_then s.claims blob root is
ended_next s number lane (Refused (calls.Put blob) broken) root is = gone_then s.claims blob root is
ended_next s number lane (Refused (calls.Land blob) broken) root is = gone_then s.claims blob root is
ended_next s number lane act root is = absurd (cc is)

ended_broken : (s : State) (number : ℕ) (act : Act) (root : Root) → ended_by_failure act ≡ Some root → claim_of (next_broken s number act).claims root ≡ None
ended_broken s number (Put blob reply) root is = gone_then s.claims blob root is
ended_broken s number (Land blob len reply seen) root is = gone_then s.claims blob root is
ended_broken s number act root is = absurd (cc is)

pub ended_then : (s : State) (number : ℕ) (e : Event) (root : Root) → ends_claim_of e ≡ Some root → claim_of (step s number e).claims root ≡ None
ended_then s number e root is = by_broke e.broke is where
  by_broke : (b : Bool) → cond b (ended_by_failure e.act) (ended_by e.act) ≡ Some root → claim_of (cond b (next_broken s number e.act) (next s number e.lane e.act)).claims root ≡ None
  by_broke true same = ended_broken s number e.act root same
  by_broke false same = ended_next s number e.lane e.act root same
