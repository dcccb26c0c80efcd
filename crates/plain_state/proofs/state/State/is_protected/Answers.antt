use Rattle.std.proofs.Common.{◌≡◌, Bool, false, ◌||◌, List, refl, sym, ap, ◌∙◌}
use Rattle.std.specs.List.{list_any}
use Rattle.pkg_names.specs.Root.{root_eq}
use Rattle.pkg_names.specs.declared.root.Root.{Root}
use Rattle.pkg_names.specs.declared.pinned.Pinned.{Pinned}
use Rattle.open_tracker.specs.declared.dirs.DirEntry.{DirEntry}
use Rattle.package_indexes.specs.declared.Arriving.{Arriving}
use Rattle.package_indexes.specs.Indexes.{roots_of}
use Rattle.store_model.specs.State.{State, has_root}
use Rattle.plain_state.proofs.Protected.{any_of, joined_roots, arriving_roots, open_roots, protected_parts, from_base, from_cached, from_active, from_retained, from_arriving}
use Rattle.plain_state.proofs.state.State.is_protected.Goals as goal

in_pairs : (root : Root) (pairs set : List Pinned) (found : Bool) → found ≡ list_any (λ (p : Pinned). root_eq p.root root) pairs → pairs ≡ set → has_root (roots_of set) root ≡ found
in_pairs root pairs set found any same = any_of (λ (p : Pinned). p.root) set root ∙ ap (list_any (λ (p : Pinned). root_eq p.root root)) (sym same) ∙ sym any

pub returns-then-is_pinned : goal.returns-then-is_pinned
returns-then-is_pinned c =
    sym (from_base c.args.self.now c.args.root.now
    (ap (λ (s : State). has_root (roots_of s.base) c.args.root.now) (sym c.self.view_is)
    ∙ in_pairs c.args.root.now _ c.self.inside.indexes.base c.is_pinned.result c.is_pinned.ensures c.pairs.ensures ∙ c.if-is_pinned.true))

pub returns-then-is_pinned-2 : goal.returns-then-is_pinned-2
returns-then-is_pinned-2 c =
    sym (from_cached c.args.self.now c.args.root.now
    (ap (λ (s : State). has_root (roots_of s.cached) c.args.root.now) (sym c.self.view_is)
    ∙ in_pairs c.args.root.now _ c.self.inside.indexes.cached c.is_pinned-2.result c.is_pinned-2.ensures c.pairs-2.ensures ∙ c.if-is_pinned-2.true))

pub returns-then-is_pinned-3 : goal.returns-then-is_pinned-3
returns-then-is_pinned-3 c =
    sym (from_active c.args.self.now c.args.root.now
    (ap (λ (s : State). has_root (roots_of s.active) c.args.root.now) (sym c.self.view_is)
    ∙ in_pairs c.args.root.now _ c.self.inside.indexes.active c.is_pinned-3.result c.is_pinned-3.ensures c.pairs-3.ensures ∙ c.if-is_pinned-3.true))

pub returns-then-is_retained : goal.returns-then-is_retained
returns-then-is_retained c =
    sym (from_retained c.args.self.now c.args.root.now
    (ap (λ (s : State). has_root s.retained c.args.root.now) (sym c.self.view_is) ∙ sym c.is_retained.ensures ∙ c.if-is_retained.true))

pub returns-then-is_arriving : goal.returns-then-is_arriving
returns-then-is_arriving c =
    sym (from_arriving c.args.self.now c.args.root.now
    (ap (λ (s : State). has_root (arriving_roots s) c.args.root.now) (sym c.self.view_is)
    ∙ ap (λ (roots : List Root). has_root roots c.args.root.now) (joined_roots c.self.inside.indexes.arriving c.self.inside.queue.marks c.self.invariant)
    ∙ any_of (λ (a : Arriving). a.root) c.self.inside.indexes.arriving c.args.root.now
    ∙ ap (list_any (λ (a : Arriving). root_eq a.root c.args.root.now)) (sym c.arriving.ensures.list)
    ∙ sym c.is_arriving.ensures ∙ c.if-is_arriving.true))

pub returns : goal.returns
returns c =
    let base : has_root (roots_of c.args.self.now.base) c.args.root.now ≡ false =
    ap (λ (s : State). has_root (roots_of s.base) c.args.root.now) (sym c.self.view_is)
    ∙ in_pairs c.args.root.now _ c.self.inside.indexes.base c.is_pinned.result c.is_pinned.ensures c.pairs.ensures ∙ c.if-is_pinned.false in
    let cached : has_root (roots_of c.args.self.now.cached) c.args.root.now ≡ false =
    ap (λ (s : State). has_root (roots_of s.cached) c.args.root.now) (sym c.self.view_is)
    ∙ in_pairs c.args.root.now _ c.self.inside.indexes.cached c.is_pinned-2.result c.is_pinned-2.ensures c.pairs-2.ensures ∙ c.if-is_pinned-2.false in
    let active : has_root (roots_of c.args.self.now.active) c.args.root.now ≡ false =
    ap (λ (s : State). has_root (roots_of s.active) c.args.root.now) (sym c.self.view_is)
    ∙ in_pairs c.args.root.now _ c.self.inside.indexes.active c.is_pinned-3.result c.is_pinned-3.ensures c.pairs-3.ensures ∙ c.if-is_pinned-3.false in
    let retained : has_root c.args.self.now.retained c.args.root.now ≡ false =
    ap (λ (s : State). has_root s.retained c.args.root.now) (sym c.self.view_is) ∙ sym c.is_retained.ensures ∙ c.if-is_retained.false in
    let arriving : has_root (arriving_roots c.args.self.now) c.args.root.now ≡ false =
    ap (λ (s : State). has_root (arriving_roots s) c.args.root.now) (sym c.self.view_is)
    ∙ ap (λ (roots : List Root). has_root roots c.args.root.now) (joined_roots c.self.inside.indexes.arriving c.self.inside.queue.marks c.self.invariant)
    ∙ any_of (λ (a : Arriving). a.root) c.self.inside.indexes.arriving c.args.root.now
    ∙ ap (list_any (λ (a : Arriving). root_eq a.root c.args.root.now)) (sym c.arriving.ensures.list)
    ∙ sym c.is_arriving.ensures ∙ c.if-is_arriving.false in
    let open_here : has_root (open_roots c.args.self.now.dirs) c.args.root.now ≡ c.is_open.result =
    ap (λ (s : State). has_root (open_roots s.dirs) c.args.root.now) (sym c.self.view_is)
    ∙ any_of (λ (d : DirEntry). d.root) c.self.inside.dirs c.args.root.now
    ∙ ap (list_any (λ (d : DirEntry). root_eq d.root c.args.root.now)) (sym c.entries.ensures.list)
    ∙ sym c.is_open.ensures in
    sym (protected_parts c.args.self.now c.args.root.now ∙ only_last _ _ _ _ _ _ base cached active retained arriving ∙ open_here) where
      only_last : (b x a r v d : Bool) → b ≡ false → x ≡ false → a ≡ false → r ≡ false → v ≡ false → (b || x || a || r || v || d) ≡ d
      only_last b x a r v d p q s t u = rw (p, q, s, t, u) refl
