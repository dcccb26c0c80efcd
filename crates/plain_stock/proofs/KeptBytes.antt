-- The bytes of what is stored, where a blob comes, and where it goes again.
use Rattle.std.proofs.Common.{◌≡◌, ℕ, true, false, List, [], ◌∷◌, ◌++◌, cond, is_some, Option, Some, None, inl, inr, refl, sym, ap, ◌∙◌, length}
use Rattle.std.specs.Option.{option_map}
use Rattle.std.proofs.lemmas.Bool.{cases_Bool}
use Rattle.pkg_names.specs.declared.root.Root.{Root}
use Rattle.pkg_names.specs.Root.{root_eq}
use Rattle.pkg_names.proofs.Roots.{root_eq-true, root_eq-refl}
use Rattle.pkg_merkle.specs.Merkle.{merkle_root}
use Rattle.store_model.specs.declared.events.LookedAt.{LookedAt}
use Rattle.store_model.specs.State.{Stored, is_stored, stored_len}
use Rattle.store_model.specs.Systems.{seen_bytes}
use Rattle.plain_stock.specs.Contents.{AreBytesOf, Holds}

nothing_some : {a : ℕ} → ◌≡◌ {A = Option ℕ} (Some a) None → ⊥
nothing_some e = absurd cc

last_len : (stock : List Stored) (blob : Stored) (root : Root) → stored_len stock root ≡ None → root_eq blob.root root ≡ true
    → stored_len (stock ++ blob ∷ []) root ≡ Some blob.len
last_len [] blob root none own = rw own refl
last_len (b ∷ stock) blob root none own = elim (cases_Bool (root_eq b.root root)) [
  | inl same ↦ absurd (nothing_some (rw same at none))
  | inr differs ↦ rw differs (last_len stock blob root (rw differs at none) own)
]

others_len : (stock : List Stored) (blob : Stored) (root : Root) → root_eq blob.root root ≡ false
    → stored_len (stock ++ blob ∷ []) root ≡ stored_len stock root
others_len [] blob root other = rw other refl
others_len (b ∷ stock) blob root other = elim (cases_Bool (root_eq b.root root)) [
  | inl same ↦ rw same refl
  | inr differs ↦ rw differs (others_len stock blob root other)
]

not_some : {A : Type 0} (o : Option A) → is_some o ≡ false → o ≡ None
not_some None e = refl
not_some (Some x) e = absurd cc

no_bytes : (o : Option (List ℕ)) → option_map length o ≡ None → o ≡ None
no_bytes None e = refl
no_bytes (Some x) e = absurd cc

pub bytes_landed : (root : Root) (bytes : List ℕ) {old new : List LookedAt} {stock : List Stored} → AreBytesOf old stock
    → is_stored stock root ≡ false → merkle_root bytes ≡ root → Holds root (Some bytes) old new
    → AreBytesOf new (stock ++ record { root = root; len = length bytes } ∷ [])
bytes_landed root bytes {old} {new} {stock} are missing is holds = record {
  lengths = λ other. elim (cases_Bool (root_eq root other)) [
    | inl own ↦
        ap (option_map length) (holds other ∙ ap (λ b. cond b (Some bytes) (seen_bytes old other)) own)
        ∙ sym (last_len stock blob other (none other own) own)
    | inr differs ↦
        ap (option_map length) (holds other ∙ ap (λ b. cond b (Some bytes) (seen_bytes old other)) differs)
        ∙ are.lengths other ∙ sym (others_len stock blob other differs)
  ];
  roots = λ other given there. elim (cases_Bool (root_eq root other)) [
    | inl own ↦
        let same : bytes ≡ given = some_same (sym (holds other ∙ ap (λ b. cond b (Some bytes) (seen_bytes old other)) own) ∙ there) in
        ap merkle_root (sym same) ∙ is ∙ root_eq-true root other own
    | inr differs ↦ are.roots other given (sym (holds other ∙ ap (λ b. cond b (Some bytes) (seen_bytes old other)) differs) ∙ there)
  ];
} where
  blob : Stored
  blob = record { root = root; len = length bytes }

  none : (other : Root) → root_eq root other ≡ true → stored_len stock other ≡ None
  none other own = ap (stored_len stock) (sym (root_eq-true root other own)) ∙ not_some (stored_len stock root) missing

  some_same : {a b : List ℕ} → Some a ≡ Some b → a ≡ b
  some_same e = cc

pub bytes_undone : (root : Root) (bytes : List ℕ) {old : List LookedAt} (mid : List LookedAt) {new : List LookedAt} {stock : List Stored} → AreBytesOf old stock
    → is_stored stock root ≡ false → Holds root (Some bytes) old mid → Holds root None mid new → AreBytesOf new stock
bytes_undone root bytes {old} mid {new} {stock} are missing put gone = record {
  lengths = λ other. ap (option_map length) (same other) ∙ are.lengths other;
  roots = λ other given there. are.roots other given (sym (same other) ∙ there);
} where
  same : (other : Root) → seen_bytes new other ≡ seen_bytes old other
  same other = elim (cases_Bool (root_eq root other)) [
    | inl own ↦
        gone other ∙ ap (λ b. cond b None (seen_bytes mid other)) own
        ∙ sym (no_bytes (seen_bytes old other) (are.lengths other ∙ ap (stored_len stock) (sym (root_eq-true root other own))
        ∙ not_some (stored_len stock root) missing))
    | inr differs ↦
        gone other ∙ ap (λ b. cond b None (seen_bytes mid other)) differs
        ∙ put other ∙ ap (λ b. cond b (Some bytes) (seen_bytes old other)) differs
  ]

-- ---- a place that is filled

-- what has bytes is there
pub is_there : (root : Root) (bytes : List ℕ) (old new : List LookedAt) → Holds root (Some bytes) old new → is_some (seen_bytes new root) ≡ true
is_there root bytes old new holds =
    ap is_some (holds root ∙ ap (λ b. cond b (Some bytes) (seen_bytes old root)) (root_eq-refl root))

-- the bytes that come last are those that stay
pub last_holds : (root : Root) (first last : Option (List ℕ)) (old mid new : List LookedAt) → Holds root first old mid → Holds root last mid new
    → Holds root last old new
last_holds root first last old mid new before after other =
    after other ∙ elim (cases_Bool (root_eq root other)) [
      | inl own ↦ rw own refl
      | inr differs ↦ rw differs (before other ∙ ap (λ b. cond b first (seen_bytes old other)) differs)
    ]
