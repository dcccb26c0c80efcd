-- A claim, a ticket and a directory of one lane are looked up as before after an event of another.
use Rattle.std.proofs.Common.{◌≡◌, ◌≢◌, ℕ, ◌+◌, List, Option, Some, None, refl, sym, ap, ◌∙◌}
use Rattle.std.specs.Prelude.{find, filter, ◌==◌}
use Rattle.std.specs.Option.{option_map}
use Rattle.std.proofs.lemmas.Bool.{eq-eqb, and_parts}
use Rattle.pkg_names.specs.declared.root.Root.{Root}
use Rattle.pkg_names.specs.Root.{root_eq}
use Rattle.fetch_queue.specs.declared.queue.ClaimEntry.{ClaimEntry}
use Rattle.open_tracker.specs.declared.dirs.DirEntry.{DirEntry}
use Rattle.open_tracker.specs.Directories.{is_of, root_of}
use Rattle.store_model.specs.declared.events.Event.{Event}
use Rattle.store_model.specs.State.{State, Arrival, arrival_of, claim_of}
use Rattle.store_model.specs.Step.{IsDue, step}
use Rattle.store_model.specs.Lanes.{StandOnce, HoldsSame, unmarked, told, after_told}
use Rattle.store_model.proofs.LanesLists.{find-map, find_kept, found_mine, found_whole}
use Rattle.store_model.proofs.LanesMarks.{each}
use Rattle.store_model.proofs.LanesOnce.{once_after}
use Rattle.store_model.proofs.LanesApart.{left_alone, claims_apart, tickets_apart}

-- ---- claims

claim_found : (s t : State) (number : ℕ) (root : Root) (claim : ClaimEntry) → HoldsSame claim.lane s t → StandOnce t number → claim_of s.claims root ≡ Some claim → claim_of t.claims root ≡ Some claim
claim_found s t number root claim same once found =
    let is = λ (c : ClaimEntry). root_eq c.root root in
    let mine = λ (c : ClaimEntry). c.lane == claim.lane in
    found_whole is mine (λ (a b : ClaimEntry). a.root ≢ b.root) (claims_apart root) t.claims once.claims.roots claim
    (ap (find is) same.claims ∙ found_mine is mine s.claims claim found (eq-eqb claim.lane claim.lane refl))

pub claim_stays : (s : State) (number : ℕ) (e : Event) (root : Root) (claim : ClaimEntry) → StandOnce s number → IsDue s number e → claim_of s.claims root ≡ Some claim → e.lane ≢ claim.lane → claim_of (step s number e).claims root ≡ Some claim
claim_stays s number e root claim once due found other =
    claim_found s (step s number e) (number + 1) root claim (left_alone s number e claim.lane once due other) (once_after s number e due once) found

-- ---- tickets

-- what is found of the marked is what is found of the unmarked
from_unmarked : (found : Option Arrival) (old : Arrival) → option_map unmarked found ≡ Some (unmarked old) → (new : Arrival) × (found ≡ Some new)
from_unmarked None old is = absurd (cc is)
from_unmarked (Some new) old is = (new, refl)

ticket_found : (s t : State) (number ticket : ℕ) (old : Arrival) → HoldsSame old.lane s t → StandOnce t number → arrival_of s.arriving ticket ≡ Some old → (new : Arrival) × (arrival_of t.arriving ticket ≡ Some new)
ticket_found s t number ticket old same once found =
    let is = λ (a : Arrival). a.ticket == ticket in
    let mine = λ (a : Arrival). a.lane == old.lane in
    let before : option_map unmarked (find is (filter mine s.arriving)) ≡ Some (unmarked old) = ap (option_map unmarked) (found_mine is mine s.arriving old found (eq-eqb old.lane old.lane refl)) in
    let here = from_unmarked (find is (filter mine t.arriving)) old
    (sym (find-map is unmarked (λ a. refl) (filter mine t.arriving)) ∙ ap (find is) same.tickets ∙ find-map is unmarked (λ a. refl) (filter mine s.arriving) ∙ before) in
    (here.0, found_whole is mine (λ (a b : Arrival). a.ticket ≢ b.ticket) (tickets_apart ticket) t.arriving once.tickets.apart here.0 here.1)

pub ticket_stays : (s : State) (number : ℕ) (e : Event) (ticket : ℕ) (arrival : Arrival) → StandOnce s number → IsDue s number e → arrival_of s.arriving ticket ≡ Some arrival → e.lane ≢ arrival.lane
    → arrival_of (step s number e).arriving ticket ≡ Some (after_told s.books (told e) arrival)
ticket_stays s number e ticket arrival once due found other =
    let new = ticket_found s (step s number e) (number + 1) ticket arrival (left_alone s number e arrival.lane once due other) (once_after s number e due once) found in
    new.1 ∙ ap (λ (a : Arrival). Some a) (each s number e ticket arrival new.0 found new.1)

-- ---- directories

pub dir_stays : (s : State) (number : ℕ) (e : Event) (dir lane : ℕ) → StandOnce s number → IsDue s number e → e.lane ≢ lane → root_of (step s number e).dirs dir lane ≡ root_of s.dirs dir lane
dir_stays s number e dir lane once due other =
    let same = left_alone s number e lane once due other in
    let is = λ (d : DirEntry). is_of d dir lane in
    let mine = λ (d : DirEntry). d.lane == lane in
    let kept = λ (dirs : List DirEntry). find_kept is mine (λ d of. (and_parts _ _ of).1) dirs in
    ap (option_map (λ (d : DirEntry). d.root)) (sym (kept (step s number e).dirs) ∙ ap (find is) same.dirs ∙ kept s.dirs)
