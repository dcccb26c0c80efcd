use Rattle.std.proofs.Common.{Result, Err, refl, inr, ap}
use Rattle.pkg_names.specs.declared.path.PathFault.{PathFault}
use Rattle.pkg_names.specs.NameAndVariant.{NameAndVariant}
use Rattle.package_url.proofs.PathTests.{path_in_only, path_in_none}
use Rattle.script_lang.proofs.request.path_of.Goals as goal

pub returns-in-Ok-clause-found : goal.returns-in-Ok-clause-found
returns-in-Ok-clause-found c = path_in_only c.args.text.now c.in-Ok.path c.in-Ok.ensures.found

pub returns-in-Err-BadName-clause-fault : goal.returns-in-Err-BadName-clause-fault
returns-in-Err-BadName-clause-fault c =
    inr (refl, path_in_none c.args.text.now (c.in-Err-BadName.ensures.bad_name (ap (λ (e : PathFault). let r : Result NameAndVariant PathFault = Err e in r) c.in-Err-BadName.field-0-is)))
