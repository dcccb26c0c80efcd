use Rattle.std.proofs.Common.{◌≡◌, true, false, not, Bool, [], ◌∷◌, length, Some, ℕ, refl, sym, ap, subst, ◌∙◌, arith}
use Rattle.pkg_names.specs.declared.root.Root.{Root}
use Rattle.pkg_names.specs.Root.{root_eq}
use Rattle.pkg_names.proofs.Roots.{root_eq-refl}
use Rattle.pkg_merkle.specs.Merkle.{merkle_root}
use Rattle.boot_core.specs.Look.{Stocked, len_in}
use Rattle.boot_tests.proofs.damaged.DamagedLookLook.look.Goals as goal

not_false : (test : Bool) → not test ≡ false → test ≡ true
not_false true h = refl
not_false false h = absurd cc

not_true : (test : Bool) → not test ≡ true → test ≡ true → ⊥
not_true true h e = absurd cc
not_true false h e = absurd cc

one_len : (own root : Root) (len : ℕ) → root_eq own root ≡ true → (let blob : Stocked = record { root = own; len = len } in len_in (blob ∷ []) root) ≡ Some len
one_len own root len same = rw same refl

pub returns-then-ne-2-clause-gives : goal.returns-then-ne-2-clause-gives
returns-then-ne-2-clause-gives c =
    let root = c.args.root.now in
    let bytes = c.args.self.now.bytes in
    let same = not_false (root_eq c.args.self.now.root root) (sym c.ne.ensures ∙ c.if-ne.false) in
    let lent : length c.as_slice-bytes.result.now ≡ length bytes = ap length c.as_slice-bytes.ensures.list in (
      record {
        len = length bytes;
        stored = one_len c.args.self.now.root root (length bytes) same;
        within = omega (arith, c.if-len-from.false, c.from.ensures, lent);
      },
      record {
        bytes = bytes;
        len = one_len c.args.self.now.root root (length bytes) same;
        has_root = sym (c.root_of-got.ensures.root ∙ ap merkle_root c.as_slice-bytes.ensures.list);
        other = λ e. not_true (root_eq c.root_of-got.result root) (sym c.ne-2.ensures ∙ c.if-ne-2.true) (subst (λ (r : Root). root_eq c.root_of-got.result r ≡ true) e (root_eq-refl c.root_of-got.result));
      },
    )
