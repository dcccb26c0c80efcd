use Rattle.std.proofs.Common.{◌≡◌, ◌<◌, length, List, ℕ, Some, ap, sym, subst, ◌∙◌, arith}
use Rattle.std.specs.Option.{option_map}
use Rattle.std.specs.Prelude.{slice_get}
use Rattle.far_archive.specs.Fields.{count, name_of}
use Rattle.far_archive.proofs.Order.{size_is, named_at}
use Rattle.far_archive.proofs.archive.Archive.name_at.Goals as goal

pub kept_name-requires-clause-within : goal.kept_name-requires-clause-within
kept_name-requires-clause-within c = omega (arith, c.requires, ap length c.self.view_is, size_is c.self.inside.bytes.items, ap count c.deref.ensures.value)

pub returns : goal.returns
returns c =
    let lt : c.args.entry < count c.self.inside.bytes.items = omega (arith, c.requires, ap length c.self.view_is, size_is c.self.inside.bytes.items) in
    subst (λ (l : List (List ℕ × List ℕ)). option_map (λ file. file.0) (slice_get l c.args.entry) ≡ Some c.kept_name.result.now) c.self.view_is
    (named_at c.self.inside.bytes.items c.args.entry lt ∙ ap Some (sym (c.kept_name.ensures ∙ ap (λ (l : List ℕ). name_of l c.args.entry) c.deref.ensures.value)))
