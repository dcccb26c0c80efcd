use Rattle.std.proofs.Common.{[], sym, ◌∙◌}
use Rattle.std.proofs.lemmas.Bool.{cond-true, cond-false}
use Rattle.disk_model.specs.declared.act.DiskAct.TheVariants.{Wrote}
use Rattle.disk_model.proofs.ReplayLemmas.{synced_len-more}
use Rattle.disk_model.proofs.replay.synced_len.Goals as goal
use Rattle.disk_model.proofs.replay.synced_len.Goals.{then-is_sync, else-is_sync}

pub loop-i-preserved : goal.loop-i-preserved
loop-i-preserved c =
    let more = synced_len-more c.args.acts.now c.loop-i.i (Wrote 0 []) c.loop-i-test.true in
    elim c.if-is_sync.branch [
      | then-is_sync w ↦ w.synced-is ∙ sym (more ∙ cond-true _ _ _ (sym c.is_sync.ensures ∙ w.if-is_sync.true))
      | else-is_sync w ↦ w.synced-is ∙ c.loop-i.invariant ∙ sym (more ∙ cond-false _ _ _ (sym c.is_sync.ensures ∙ w.if-is_sync.false))
    ]
