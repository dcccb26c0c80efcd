use Rattle.std.proofs.Common.{◌≡◌, inl, inr, Result, Ok, Err, sym, ◌∙◌}
use Rattle.pkg_names.specs.NameAndVariant.{NameAndVariant}
use Rattle.pkg_names.specs.declared.path.PathFault.{PathFault}
use Rattle.pkg_names.specs.declared.path.PathFault.TheVariants.{NoMemory}
use Rattle.system_lists.specs.Judging.{system_path}
use Rattle.system_judge.proofs.Paths.{spells_system}
use Rattle.system_judge.proofs.judging.path_of_system.Goals as goal

pub returns-in-Ok : goal.returns-in-Ok
returns-in-Ok c =
    elim (c.read_path.ensures.only system_path spells_system) [
      | inl e ↦ same c.in-Ok.path system_path (sym c.in-Ok.is ∙ e)
      | inr e ↦ absurd (apart c.in-Ok.path (sym c.in-Ok.is ∙ e))
    ] where
      same : (path other : NameAndVariant) → ◌≡◌ {A = Result NameAndVariant PathFault} (Ok path) (Ok other) → path ≡ other
      same path other e = cc

      apart : (path : NameAndVariant) → ◌≡◌ {A = Result NameAndVariant PathFault} (Ok path) (Err NoMemory) → ⊥
      apart path e = cc
