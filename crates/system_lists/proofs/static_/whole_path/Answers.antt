use Rattle.std.proofs.Common.{Result, Err, ap, sym, ◌∙◌}
use Rattle.pkg_names.specs.declared.path.PathFault.{PathFault}
use Rattle.pkg_names.specs.NameAndVariant.{NameAndVariant}
use Rattle.system_lists.proofs.StaticLines.{whole_path_found, whole_path_missing}
use Rattle.system_lists.proofs.static_.whole_path.Goals as goal

pub returns-in-Ok : goal.returns-in-Ok
returns-in-Ok c =
    whole_path_found c.args.text.now c.in-Ok.path (sym c.contains.ensures.value ∙ c.if-not-contains.false) c.in-Ok.ensures.found

pub returns-in-Err-BadName : goal.returns-in-Err-BadName
returns-in-Err-BadName c =
    whole_path_missing c.args.text.now (c.in-Err-BadName.ensures.bad_name (ap (λ (e : PathFault). let r : Result NameAndVariant PathFault = Err e in r) c.in-Err-BadName.field-0-is))
