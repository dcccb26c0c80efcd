use Rattle.std.proofs.Common.{List, [], ◌∷◌, get_or, take, sym, ◌∙◌, ap}
use Rattle.std.proofs.lemmas.List.{take_more}
use Rattle.disk_model.specs.declared.act.DiskAct.{DiskAct}
use Rattle.disk_model.specs.declared.act.DiskAct.TheVariants.{Wrote}
use Rattle.disk_model.specs.Images.{contents_after}
use Rattle.disk_model.proofs.KeptLemmas.{contents_after-append}
use Rattle.disk_model.proofs.replay.replay.Goals as goal

pub loop-act-preserved : goal.loop-act-preserved
loop-act-preserved c =
    let acts = c.args.acts.now in
    let i = c.loop-act.act-index in
    let x = get_or acts i (Wrote 0 []) in
    c.apply.ensures ∙ ap (contents_after (x ∷ [])) c.loop-act.invariant ∙ sym (contents_after-append (take i acts) (x ∷ []) c.args.pages.now)
    ∙ ap (λ (l : List DiskAct). contents_after l c.args.pages.now) (sym (take_more acts i (Wrote 0 []) c.loop-act-test.true))
