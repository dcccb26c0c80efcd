use Rattle.std.proofs.Common.{◌∷◌, [], Result, None, Some, Err, sym, ap, ◌∙◌}
use Rattle.std.specs.Prelude.{option_and_then}
use Rattle.pkg_names.specs.declared.path.PathFault.{PathFault}
use Rattle.pkg_names.specs.NameAndVariant.{NameAndVariant}
use Rattle.pkg_names.specs.Text.{slash}
use Rattle.package_url.specs.Reading.{path_in}
use Rattle.package_url.proofs.Places.{behind_lent}
use Rattle.package_url.proofs.PathTests.{path_in_only, path_in_none}
use Rattle.rewrite_rules.proofs.routing.path_behind_slash.Goals as goal

pub returns-in_default : goal.returns-in_default
returns-in_default c = ap (option_and_then path_in) (behind_lent (slash ∷ []) c.args.text.now None c.in_default.ensures.cases)

pub returns-in-Ok : goal.returns-in-Ok
returns-in-Ok c =
    sym (path_in_only c.in-Some.text.now c.in-Ok.path c.in-Ok.ensures.found)
    ∙ ap (option_and_then path_in) (behind_lent (slash ∷ []) c.args.text.now (Some c.in-Some.text) c.in-Some.ensures.cases)

pub returns-in-Err-BadName : goal.returns-in-Err-BadName
returns-in-Err-BadName c =
    sym (path_in_none c.in-Some.text.now (c.in-Err-BadName.ensures.bad_name (ap (λ (e : PathFault). let r : Result NameAndVariant PathFault = Err e in r) c.in-Err-BadName.field-0-is)))
    ∙ ap (option_and_then path_in) (behind_lent (slash ∷ []) c.args.text.now (Some c.in-Some.text) c.in-Some.ensures.cases)
