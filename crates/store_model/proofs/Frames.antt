-- What an event leaves as it is, before the books are settled.
use Rattle.std.proofs.Common.{◌≡◌, ℕ, rules}
use Rattle.store_model.specs.declared.events.Event.{Event}
use Rattle.store_model.specs.declared.events.Act.{Act}
use Rattle.store_model.specs.State.{State}
use Rattle.store_model.specs.Step.{next, next_broken, next_of}
use Rattle.store_model.specs.Footprints.{footprint_of, broken_footprint, KeepsRest}

pub keeps_next : (s : State) (number lane : ℕ) (act : Act) → KeepsRest (footprint_of act) s (next s number lane act)
keeps_next s number lane act = search rules

pub keeps_broken : (s : State) (number : ℕ) (act : Act) → KeepsRest broken_footprint s (next_broken s number act)
keeps_broken s number act = search rules

pub books_next : (s : State) (number lane : ℕ) (act : Act) → (next s number lane act).books ≡ s.books
books_next s number lane act = search rules

pub books_next_of : (s : State) (number : ℕ) (e : Event) → (next_of s number e).books ≡ s.books
books_next_of s number e = search rules
