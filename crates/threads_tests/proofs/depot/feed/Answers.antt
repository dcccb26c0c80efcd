use Rattle.std.proofs.Common.{refl, arith, length, subst, ◌++◌}
use Rattle.std.proofs.lemmas.Option.{slice_get_read}
use Rattle.pkg_merkle.specs.Hasher.{StandsFor}
use Rattle.threads_tests.proofs.Depots.{feeds, unfed, get_else}
use Rattle.threads_tests.proofs.depot.feed.Goals as goal

pub returns-in-Ok-clause-fed : goal.returns-in-Ok-clause-fed
returns-in-Ok-clause-fed c =
    let at = slice_get_read c.args.drafts.now.items (length c.args.drafts.now.items) c.args.lane c.in-Some.draft.now refl (omega (arith, c.in-Some.ensures.variant.0 refl, c.args.drafts.now.ok.0)) c.in-Some.ensures.value in
    λ e. feeds c.args.drafts.now.items c.args.lane c.in-Some.draft.now c.update.new.self c.args.piece.now at
    (λ blob stands. subst (λ z. StandsFor c.update.new.self (blob ++ z)) c.as_slice.ensures (c.in-Ok.ensures.ok blob stands))

pub returns-in-Ok-clause-others : goal.returns-in-Ok-clause-others
returns-in-Ok-clause-others c = λ l ne. get_else c.args.drafts.now.items c.args.lane l c.update.new.self ne

pub returns-in-Err-clause-others : goal.returns-in-Err-clause-others
returns-in-Err-clause-others c = λ l ne. get_else c.args.drafts.now.items c.args.lane l c.update.new.self ne

pub returns-in-Err-clause-refused : goal.returns-in-Err-clause-refused
returns-in-Err-clause-refused c =
    let at = slice_get_read c.args.drafts.now.items (length c.args.drafts.now.items) c.args.lane c.in-Some.draft.now refl (omega (arith, c.in-Some.ensures.variant.0 refl, c.args.drafts.now.ok.0)) c.in-Some.ensures.value in
    λ e. unfed c.args.drafts.now.items c.args.lane c.in-Some.draft.now c.update.new.self at (c.in-Err.ensures.err)
