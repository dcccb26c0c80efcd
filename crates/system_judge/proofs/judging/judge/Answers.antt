use Rattle.std.proofs.Common.{◌≡◌, sym, ap, subst, ◌∙◌}
use Rattle.std.specs.Prelude.{IfOk, None}
use Rattle.std.specs.Option.{option_map}
use Rattle.system_lists.specs.Judging.{Verdict}
use Rattle.system_judge.specs.declared.judging.Judgement.{Judgement}
use Rattle.system_judge.specs.Judgement.{verdict_of}
use Rattle.system_judge.proofs.Packages.{judged_by_files}
use Rattle.system_judge.proofs.judging.judge.Goals as goal

pub returns-in-Some-list : goal.returns-in-Some-list
returns-in-Some-list g c =
    subst (λ (verdict : Verdict). IfOk c.judge_files.result (λ (found : Judgement). verdict_of found ≡ verdict))
    (judged_by_files (g.E.Evidence.at_hand c.args.evidence.now) c.args.system.now _ c.in_ok-cached.cached
    (sym c.absent.ensures ∙ ap (option_map verdict_of) c.in_default.is)
    (sym c.no_book.ensures ∙ ap (option_map verdict_of) c.in_default-no_book.is)
    (sym c.in-Some-list.is ∙ c.in_ok-list.ensures) c.in_ok-cached.ensures)
    c.judge_files.ensures

pub returns-in-None : goal.returns-in-None
returns-in-None g c =
    judged_by_files (g.E.Evidence.at_hand c.args.evidence.now) c.args.system.now None c.in_ok-cached.cached
    (sym c.absent.ensures ∙ ap (option_map verdict_of) c.in_default.is)
    (sym c.no_book.ensures ∙ ap (option_map verdict_of) c.in_default-no_book.is)
    (sym c.in-None.is ∙ c.in_ok-list.ensures) c.in_ok-cached.ensures
