-- A file of an open directory stays as it is while other lanes go on.
use Rattle.std.proofs.Common.{◌≡◌, ◌≢◌, ℕ, ◌+◌, List, [], ◌∷◌, ◌++◌, length, All, Some, refl, sym, ap, subst, ◌∙◌, append_assoc, arith}
use Rattle.std.proofs.lemmas.List.{append-nil}
use Rattle.std.proofs.lemmas.List.Elements.{All-head, All-tail}
use Rattle.open_tracker.specs.Directories.{root_of}
use Rattle.pkg_names.specs.declared.root.Root.{Root}
use Rattle.store_model.specs.declared.events.Event.{Event}
use Rattle.store_model.specs.State.{State}
use Rattle.store_model.specs.Step.{IsDue, step}
use Rattle.store_model.specs.History.{Origin, IsLegalFrom, IsLegal, after_from, after, start}
use Rattle.store_model.specs.Sound.{IsSameFile}
use Rattle.store_model.proofs.Histories.{after_more}
use Rattle.store_model.proofs.LanesKept.{dir_stays}
use Rattle.store_model.proofs.LanesOnce.{stand_once}
use Rattle.store_model.proofs.Sound.{files_stay}

-- the events behind a front are due behind it
due_behind : (s : State) (number : ℕ) (history : List Event) (e : Event) (later : List Event) → IsLegalFrom s number (history ++ e ∷ later) → IsDue (after_from s number history) (length history + number) e
due_behind s number [] e later legal = subst (λ (n : ℕ). IsDue s n e) (omega arith) legal.0
due_behind s number (x ∷ history) e later legal =
    let rest = due_behind (step s number x) (number + 1) history e later legal.1 in
    subst (λ (n : ℕ). IsDue (after_from s number (x ∷ history)) n e) (omega arith) rest

front_legal : (s : State) (number : ℕ) (history later : List Event) → IsLegalFrom s number (history ++ later) → IsLegalFrom s number history
front_legal s number [] later legal = tt
front_legal s number (x ∷ history) later legal = (legal.0, front_legal (step s number x) (number + 1) history later legal.1)

same_then : (a b c : State) (lane dir : ℕ) (file : List ℕ) → IsSameFile a b lane dir file → IsSameFile b c lane dir file → IsSameFile a c lane dir file
same_then a b c lane dir file h k = record { same = k.same ∙ h.same; len = k.len ∙ h.len }

-- of the history itself
pub file_stays : (origin : Origin) (seen others : List Event) (lane dir : ℕ) (root : Root) (file : List ℕ) → IsLegal origin (seen ++ others) → All (λ (e : Event). e.lane ≢ lane) others
    → root_of (after origin seen).dirs dir lane ≡ Some root → IsSameFile (after origin seen) (after origin (seen ++ others)) lane dir file
file_stays origin seen [] lane dir root file legal none there =
    subst (λ (es : List Event). IsSameFile (after origin seen) (after origin es) lane dir file) (sym (append-nil seen)) (record { same = refl; len = refl })
file_stays origin seen (e ∷ others) lane dir root file legal none there =
    let s = after origin seen in
    let due : IsDue s (length seen + 1) e = due_behind (start origin) 1 seen e others legal in
    let whole : (seen ++ e ∷ []) ++ others ≡ seen ++ e ∷ others = append_assoc seen (e ∷ []) others in
    let front = front_legal (start origin) 1 seen (e ∷ others) legal in
    let more = after_more origin seen e in
    let kept : root_of (step s (length seen + 1) e).dirs dir lane ≡ Some root =
    dir_stays s (length seen + 1) e dir lane (stand_once origin seen front) due (All-head (λ (x : Event). x.lane ≢ lane) e others none) ∙ there in
    let first : IsSameFile s (after origin (seen ++ e ∷ [])) lane dir file =
    subst (λ (t : State). IsSameFile s t lane dir file) (sym more) (files_stay origin seen e front due lane dir root there kept file) in
    let rest = file_stays origin (seen ++ e ∷ []) others lane dir root file (subst (λ (es : List Event). IsLegal origin es) (sym whole) legal) (All-tail (λ (x : Event). x.lane ≢ lane) e others none)
    (ap (λ (t : State). root_of t.dirs dir lane) more ∙ kept) in
    same_then s (after origin (seen ++ e ∷ [])) (after origin (seen ++ e ∷ others)) lane dir file first
    (subst (λ (es : List Event). IsSameFile (after origin (seen ++ e ∷ [])) (after origin es) lane dir file) whole rest)
