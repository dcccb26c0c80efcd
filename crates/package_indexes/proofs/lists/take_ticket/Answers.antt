use Rattle.std.proofs.Common.{◌≡◌, ◌≢◌, ℕ, ◌<◌, Bool, true, false, not, length, get_or, Some, None, refl, sym, ap, ◌∙◌, arith, inl, inr}
use Rattle.std.specs.Prelude.{find, ◌==◌}
use Rattle.std.specs.List.{position}
use Rattle.std.proofs.lemmas.Bool.{cases_order, eqb-true, ne_eqb}
use Rattle.std.proofs.lemmas.List.Quantifiers.{position-Some}
use Rattle.std.proofs.lemmas.List.Recursion.{found_at}
use Rattle.package_indexes.specs.declared.Arriving.{Arriving}
use Rattle.package_indexes.proofs.Tickets.{placeless, none_passes, filter_all, taken, is_for}
use Rattle.package_indexes.proofs.lists.take_ticket.Goals as goal

pub returns-in-Some-clause-found : goal.returns-in-Some-clause-found
returns-in-Some-clause-found c =
    let at = position-Some (is_for c.args.ticket) c.args.arriving.now.items c.in-Some.place c.remove.result (sym (c.place_of.ensures ∙ ap (position (is_for c.args.ticket)) c.deref.ensures.value) ∙ c.in-Some.is) in
    let here : find (is_for c.args.ticket) c.args.arriving.now.items ≡ Some (get_or c.args.arriving.now.items c.in-Some.place c.remove.result) =
    found_at (find (is_for c.args.ticket)) (is_for c.args.ticket) Some None refl (λ _ _. refl) c.args.arriving.now.items c.in-Some.place c.remove.result at.0 at.2 at.1 in
    ap Some c.remove.ensures.value ∙ sym here

pub returns-in-Some-clause-left : goal.returns-in-Some-clause-left
returns-in-Some-clause-left c =
    c.remove.ensures.items ∙ sym (taken c.args.arriving.now.items c.args.ticket c.in-Some.place c.remove.result c.requires (sym (c.place_of.ensures ∙ ap (position (is_for c.args.ticket)) c.deref.ensures.value) ∙ c.in-Some.is))

pub returns-in-None-clause-found : goal.returns-in-None-clause-found
returns-in-None-clause-found c = sym (placeless (is_for c.args.ticket) c.args.arriving.now.items (sym (c.place_of.ensures ∙ ap (position (is_for c.args.ticket)) c.deref.ensures.value) ∙ c.in-None.is))

pub returns-in-None-clause-left : goal.returns-in-None-clause-left
returns-in-None-clause-left c =
    let gone = none_passes (is_for c.args.ticket) c.args.arriving.now.items (placeless (is_for c.args.ticket) c.args.arriving.now.items (sym (c.place_of.ensures ∙ ap (position (is_for c.args.ticket)) c.deref.ensures.value) ∙ c.in-None.is)) in
    sym (filter_all (λ (arrival : Arriving). not (is_for c.args.ticket arrival)) c.args.arriving.now.items (λ k d lt. ap not (gone k d lt)))
