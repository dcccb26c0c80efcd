-- What a call at a desk makes of what its lane holds.
use Rattle.std.proofs.Common.{◌≡◌, ℕ, ◌+◌, length, List, [], ◌∷◌, ◌++◌, refl, ap, ◌∙◌}
use Rattle.store_model.specs.declared.events.Event.{Event}
use Rattle.store_model.specs.History.{Numbered}
use Rattle.store_model.specs.Holding.{Held, nothing_held, held_after_event, held_from, held}
use Rattle.store_model.specs.Desk.{View, held_by, Does, Rests}

held_from-push : (h : Held) (mine : List Numbered) (e : Numbered) → held_from h (mine ++ e ∷ []) ≡ held_after_event (held_from h mine) e.number e.event
held_from-push h [] e = refl
held_from-push h (x ∷ mine) e = held_from-push (held_after_event h x.number x.event) mine e

-- one more event of the lane
pub held-push : (mine : List Numbered) (e : Numbered) → held (mine ++ e ∷ []) ≡ held_after_event (held mine) e.number e.event
held-push mine e = held_from-push nothing_held mine e

-- a call with an event makes of what the lane holds what the event makes of it
pub held_by-Does : (old new : View) (IsIts : ℕ → Event → Type 0) (does : Does old new IsIts)
    → held_by new ≡ held_after_event (held_by old) (length (old.seen ++ does.others) + 1) does.event
held_by-Does old new IsIts does =
    ap held does.mine ∙ held-push old.mine (record { number = length (old.seen ++ does.others) + 1; event = does.event })

-- a call without an event leaves what the lane holds
pub held_by-Rests : (old new : View) → Rests old new → held_by new ≡ held_by old
held_by-Rests old new rests = ap held rests.mine
