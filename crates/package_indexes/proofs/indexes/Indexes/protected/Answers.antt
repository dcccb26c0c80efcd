use Rattle.std.proofs.Common.{◌≡◌, refl, ap, ◌∙◌}
use Rattle.package_indexes.specs.Sets.{Sets, protected_by}
use Rattle.package_indexes.proofs.indexes.Indexes.protected.Goals as goal

pub returns : goal.returns
returns c =
    let here : Sets = record { base = c.self.inside.base.items; cached = c.self.inside.cached.items; active = c.self.inside.active.items; retained = c.self.inside.retained.items; arriving = c.self.inside.arriving.items } in
    let told : c.make.result ≡ protected_by here c.args.dirs.now =
    rw (c.make.ensures.list, c.in_ok-add_open.ensures, c.in_ok-add_arriving.ensures, c.in_ok-extend_from_slice.ensures.items, c.in_ok-add_roots-3.ensures, c.in_ok-add_roots-2.ensures, c.in_ok-add_roots.ensures, c.new-roots.ensures.items, c.entries.ensures.list, c.deref.ensures.value, c.deref-2.ensures.value, c.deref-3.ensures.value, c.deref-4.ensures.value, c.deref-5.ensures.value) refl in
    told ∙ ap (λ (v : Sets). protected_by v c.args.dirs.now) c.self.view_is
