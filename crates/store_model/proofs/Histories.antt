-- Histories that go on.
use Rattle.std.proofs.Common.{◌≡◌, ℕ, ◌+◌, List, [], ◌∷◌, ◌++◌, length, ap, subst, ◌∙◌, arith}
use Rattle.store_model.specs.declared.events.Event.{Event}
use Rattle.store_model.specs.State.{State}
use Rattle.store_model.specs.Step.{IsDue, step}
use Rattle.store_model.specs.History.{Origin, start, IsLegalFrom, IsLegal, after_from, after, GoesOn}

next_number : (number : ℕ) (es : List Event) → number + 1 + length es ≡ number + (length es + 1)
next_number number es = omega arith

after_from-more : (s : State) (number : ℕ) (history : List Event) (e : Event) → after_from s number (history ++ e ∷ []) ≡ step (after_from s number history) (number + length history) e
after_from-more s number [] e = ap (λ (n : ℕ). step s n e) (omega arith)
after_from-more s number (x ∷ history) e =
    after_from-more (step s number x) (number + 1) history e ∙ ap (λ (n : ℕ). step (after_from (step s number x) (number + 1) history) n e) (omega arith)

legal_more : (s : State) (number : ℕ) (history : List Event) (e : Event) → IsLegalFrom s number history
    → IsDue (after_from s number history) (number + length history) e → IsLegalFrom s number (history ++ e ∷ [])
legal_more s number [] e legal due = (subst (λ (n : ℕ). IsDue s n e) (omega arith) due, tt)
legal_more s number (x ∷ history) e legal due = (
  legal.0,
  legal_more (step s number x) (number + 1) history e legal.1
      (subst (λ (n : ℕ). IsDue (after_from (step s number x) (number + 1) history) n e) (omega arith) due),
)

legal_front : (s : State) (number : ℕ) (history more : List Event) → IsLegalFrom s number (history ++ more) → IsLegalFrom s number history
legal_front s number [] more legal = tt
legal_front s number (x ∷ history) more legal = (legal.0, legal_front (step s number x) (number + 1) history more legal.1)

-- the state after one event more
pub after_more : (origin : Origin) (history : List Event) (e : Event) → after origin (history ++ e ∷ []) ≡ step (after origin history) (length history + 1) e
after_more origin history e = after_from-more (start origin) 1 history e ∙ ap (λ (n : ℕ). step (after origin history) n e) (omega arith)

pub goes_on : (origin : Origin) (history : List Event) (e : Event) → IsLegal origin history → IsDue (after origin history) (length history + 1) e → GoesOn origin history e
goes_on origin history e legal due =
    let same : length history + 1 ≡ 1 + length history = omega arith in
    record {
      legal = legal_more (start origin) 1 history e legal (subst (λ (n : ℕ). IsDue (after origin history) n e) same due);
      state = after_more origin history e;
    }

pub front_is_legal : (origin : Origin) (history more : List Event) → IsLegal origin (history ++ more) → IsLegal origin history
front_is_legal origin history more legal = legal_front (start origin) 1 history more legal
