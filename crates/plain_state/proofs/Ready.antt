-- What a store that mirrors the model's state can rest its calls on.
use Rattle.std.proofs.Common.{List, Option, is_some, sym, ap, subst, ◌∙◌}
use Rattle.package_book.specs.Books.{Meta}
use Rattle.store_model.specs.declared.events.Event.{Event}
use Rattle.store_model.specs.Mirrors.{Mirrors}
use Rattle.store_model.specs.State.{State}
use Rattle.store_model.specs.History.{Origin, IsLegal, after}
use Rattle.store_model.proofs.Sound.{books_after}
use Rattle.store_model.proofs.LanesOnce.{stand_once}
use Rattle.plain_state.specs.Learning.{IsReady}

-- so can a state that has the same books
pub ready_mirrored : (s t : State) → Mirrors s t → IsReady s → IsReady t
ready_mirrored s t h ready =
    subst (λ (u : State). IsReady u) (sym h.rest) (record {
      books = record {
        all = λ root among stored. ap (λ (m : Option Meta). is_some m) (sym (h.books root)) ∙ ready.books.all root among stored;
        among = λ root known. ready.books.among root (ap (λ (m : Option Meta). is_some m) (h.books root) ∙ known);
        there = λ root known. ready.books.there root (ap (λ (m : Option Meta). is_some m) (h.books root) ∙ known);
      };
      tickets = ready.tickets;
      dirs = ready.dirs;
    })

pub ready_after : (origin : Origin) (history : List Event) (t : State) → IsLegal origin history → Mirrors (after origin history) t → IsReady t
ready_after origin history t legal h =
    let once = stand_once origin history legal in
    ready_mirrored (after origin history) t h (record {
      books = books_after origin history legal;
      tickets = once.tickets.apart;
      dirs = once.dirs.apart;
    })
