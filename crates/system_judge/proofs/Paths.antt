-- The path of the system package.
use Rattle.std.proofs.Common.{inl, refl, lit<, lit≤}
use Rattle.std.specs.Prelude.{codes}
use Rattle.std.proofs.lemmas.List.Sums.{AllPass-from_list_all}
use Rattle.pkg_names.specs.NameAndVariant.{byte_in_name, IsName, Spells}
use Rattle.system_lists.specs.Judging.{system_path}

is_name : IsName (codes "system_image")
is_name = record {
  not_empty = lit< tt;
  not_long = lit≤ tt;
  bytes = AllPass-from_list_all byte_in_name (codes "system_image") refl;
  not_dot = λ e. absurd (cc e);
  not_dots = λ e. absurd (cc e);
}

is_variant : IsName (codes "0")
is_variant = record {
  not_empty = lit< tt;
  not_long = lit≤ tt;
  bytes = AllPass-from_list_all byte_in_name (codes "0") refl;
  not_dot = λ e. absurd (cc e);
  not_dots = λ e. absurd (cc e);
}

pub spells_system : Spells (codes "system_image/0") system_path
spells_system = ((is_name, is_variant), inl refl)
