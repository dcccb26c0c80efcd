use Rattle.std.proofs.Common.{rules, tests, ◌∙◌}
use Rattle.std.proofs.lemmas.Iterator.{YieldsList-from_slice}
use Rattle.std.proofs.lemmas.Iterator.Search.{find_from_yields_List}
use Rattle.pkg_names.specs.Root.{root_eq}
use Rattle.fetch_queue.specs.declared.queue.ClaimEntry.{ClaimEntry}
use Rattle.plain_state.proofs.room.claim_in.Goals as goal

pub returns : goal.returns
returns c =
    c.copied.ensures ∙ find_from_yields_List (λ (claim : ClaimEntry). root_eq claim.root c.args.root.now) _ _ c.find.result c.find.ensures.ran (YieldsList-from_slice c.args.claims.now (cc)) (λ x b q k. search (rules, tests))
