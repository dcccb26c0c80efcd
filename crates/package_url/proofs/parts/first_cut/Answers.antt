use Rattle.std.proofs.Common.{ap, sym, ◌∙◌, List, ℕ, Option}
use Rattle.package_url.specs.Reading.{first_cut}
use Rattle.package_url.proofs.Places.{no_cut, cut_there}
use Rattle.package_url.proofs.parts.first_cut.Goals as goal

pub returns-in-Some-clause-before : goal.returns-in-Some-clause-before
returns-in-Some-clause-before c =
    sym (ap (λ (cut : List ℕ × Option (List ℕ)). cut.0) (ap (first_cut c.args.byte) c.in-Some.ensures.found ∙ cut_there c.args.byte c.in-Some.before.now c.in-Some.after.now c.in-Some.ensures.first))

pub returns-in-Some-clause-after : goal.returns-in-Some-clause-after
returns-in-Some-clause-after c =
    sym (ap (λ (cut : List ℕ × Option (List ℕ)). cut.1) (ap (first_cut c.args.byte) c.in-Some.ensures.found ∙ cut_there c.args.byte c.in-Some.before.now c.in-Some.after.now c.in-Some.ensures.first))

pub returns-in-None-clause-before : goal.returns-in-None-clause-before
returns-in-None-clause-before c =
    sym (ap (λ (cut : List ℕ × Option (List ℕ)). cut.0) (no_cut c.args.byte c.args.text.now c.in-None.ensures.none))

pub returns-in-None-clause-after : goal.returns-in-None-clause-after
returns-in-None-clause-after c =
    sym (ap (λ (cut : List ℕ × Option (List ℕ)). cut.1) (no_cut c.args.byte c.args.text.now c.in-None.ensures.none))
