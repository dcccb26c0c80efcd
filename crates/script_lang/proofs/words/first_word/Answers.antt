use Rattle.std.proofs.Common.{ap, sym, ◌∙◌, List, ℕ, Option}
use Rattle.package_url.specs.Reading.{first_cut}
use Rattle.pkg_names.specs.Text.{space}
use Rattle.package_url.proofs.Places.{no_cut, cut_there}
use Rattle.script_lang.proofs.words.first_word.Goals as goal

pub returns-in-Some-clause-before : goal.returns-in-Some-clause-before
returns-in-Some-clause-before c =
    sym (ap (λ (cut : List ℕ × Option (List ℕ)). cut.0) (ap (first_cut space) c.in-Some.ensures.found ∙ cut_there space c.in-Some.before.now c.in-Some.after.now c.in-Some.ensures.first))

pub returns-in-Some-clause-after : goal.returns-in-Some-clause-after
returns-in-Some-clause-after c =
    sym (ap (λ (cut : List ℕ × Option (List ℕ)). cut.1) (ap (first_cut space) c.in-Some.ensures.found ∙ cut_there space c.in-Some.before.now c.in-Some.after.now c.in-Some.ensures.first))

pub returns-in-None-clause-before : goal.returns-in-None-clause-before
returns-in-None-clause-before c =
    sym (ap (λ (cut : List ℕ × Option (List ℕ)). cut.0) (no_cut space c.args.text.now c.in-None.ensures.none))

pub returns-in-None-clause-after : goal.returns-in-None-clause-after
returns-in-None-clause-after c =
    sym (ap (λ (cut : List ℕ × Option (List ℕ)). cut.1) (no_cut space c.args.text.now c.in-None.ensures.none))
