use Rattle.std.proofs.Common.{◌+◌, ◌<◌, [], ◌∷◌, length, drop, Option, sym, ap, ◌∙◌, arith}
use Rattle.std.specs.Option.{option_map}
use Rattle.pkg_names.specs.declared.pinned.Pinned.{Pinned}
use Rattle.system_lists.specs.declared.fault.SystemFault.TheVariants.{BadBase}
use Rattle.system_lists.specs.Judging.{Verdict, first_of, absent, no_book, missing_name, base_faults}
use Rattle.system_judge.specs.declared.judging.Judgement.{Judgement}
use Rattle.system_judge.specs.Judgement.{verdict_of, or_verdict}
use Rattle.system_judge.proofs.Packages.{one_package}
use Rattle.system_judge.proofs.judging.base_fault.Goals as goal

pub returns-in-Some : goal.returns-in-Some
returns-in-Some g c rest =
    let within : c.loop-pair.pair-index < length c.args.base.now = omega arith in
    let later : Verdict = first_of (base_faults (g.E.Evidence.at_hand c.args.evidence.now) (drop (c.loop-pair.pair-index + 1) c.args.base.now)) rest in
    ap (λ (found : Option Judgement). or_verdict (option_map verdict_of found) later) (sym c.in-Some.is)
    ∙ c.package_fault.ensures later
    ∙ ap (λ (p : Pinned). first_of (absent (g.E.Evidence.at_hand c.args.evidence.now) p.root ∷ no_book (g.E.Evidence.at_hand c.args.evidence.now) (BadBase p.root) p.root ∷ missing_name (g.E.Evidence.at_hand c.args.evidence.now) p.root ∷ []) later) c.pair-item.is
    ∙ sym (c.loop-pair.invariant rest ∙ one_package (g.E.Evidence.at_hand c.args.evidence.now) c.args.base.now c.loop-pair.pair-index c.pair-item.result within rest)

pub loop-pair-preserved : goal.loop-pair-preserved
loop-pair-preserved g c rest =
    let within : c.loop-pair.pair-index < length c.args.base.now = omega arith in
    let later : Verdict = first_of (base_faults (g.E.Evidence.at_hand c.args.evidence.now) (drop (c.loop-pair.pair-index + 1) c.args.base.now)) rest in
    c.loop-pair.invariant rest
    ∙ one_package (g.E.Evidence.at_hand c.args.evidence.now) c.args.base.now c.loop-pair.pair-index c.pair-item.result within rest
    ∙ sym (ap (λ (found : Option Judgement). or_verdict (option_map verdict_of found) later) (sym c.in_default.is)
    ∙ c.package_fault.ensures later
    ∙ ap (λ (p : Pinned). first_of (absent (g.E.Evidence.at_hand c.args.evidence.now) p.root ∷ no_book (g.E.Evidence.at_hand c.args.evidence.now) (BadBase p.root) p.root ∷ missing_name (g.E.Evidence.at_hand c.args.evidence.now) p.root ∷ []) later) c.pair-item.is)
