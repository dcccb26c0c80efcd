-- The bytes of what is stored, once the stock has changed.
use Rattle.std.proofs.Common.{◌≡◌, ℕ, List, [], ◌∷◌, cond, Option, Some, None, inl, inr, refl, sym, ap, ◌∙◌, length}
use Rattle.std.specs.Prelude.{◌⊎◌, IfSome}
use Rattle.std.specs.Option.{option_map}
use Rattle.std.proofs.lemmas.Bool.{cases_Bool}
use Rattle.pkg_names.specs.declared.root.Root.{Root}
use Rattle.store_model.specs.declared.events.LookedAt.{LookedAt}
use Rattle.store_model.specs.State.{Stored, has_root, stored_len, without_blobs}
use Rattle.store_model.specs.Systems.{seen_bytes}
use Rattle.store_model.proofs.LanesLasting.{left_len}
use Rattle.plain_stock.specs.Contents.{AreBytesOf}
use Rattle.plain_state.specs.Learning.{seen_of}
use Rattle.plain_desk.specs.Stores.{AreRemoved}

pub bytes_left : (roots : List Root) {old new : List LookedAt} {stock : List Stored} → AreBytesOf old stock
    → AreRemoved roots old new → AreBytesOf new (without_blobs stock roots)
bytes_left roots {old} {new} {stock} are gone = record {
  lengths = λ root. elim (cases_Bool (has_root roots root)) [
    | inl goes ↦
        ap (option_map length) (gone root ∙ ap (λ b. cond b None (seen_bytes old root)) goes)
        ∙ sym (left_len stock roots root ∙ ap (λ b. cond b None (stored_len stock root)) goes)
    | inr stays ↦
        ap (option_map length) (gone root ∙ ap (λ b. cond b None (seen_bytes old root)) stays) ∙ are.lengths root
        ∙ sym (left_len stock roots root ∙ ap (λ b. cond b None (stored_len stock root)) stays)
  ];
  roots = λ root bytes is. elim (cases_Bool (has_root roots root)) [
    | inl goes ↦ absurd (none_some bytes (sym (gone root ∙ ap (λ b. cond b None (seen_bytes old root)) goes) ∙ is))
    | inr stays ↦ are.roots root bytes (sym (gone root ∙ ap (λ b. cond b None (seen_bytes old root)) stays) ∙ is)
  ];
} where
  none_some : (bytes : List ℕ) → ◌≡◌ {A = Option (List ℕ)} None (Some bytes) → ⊥
  none_some bytes e = absurd cc

-- what was looked at is the blob
pub carried : (root : Root) (bytes : List ℕ) (meta : Option (List ℕ)) → IfSome meta (λ copy. copy ≡ bytes)
    → (seen_of root meta ≡ []) ⊎ (seen_of root meta ≡ record { root = root; bytes = bytes } ∷ [])
carried root bytes None same = inl refl
carried root bytes (Some copy) same = inr (ap (λ (b : List ℕ). record { root = root; bytes = b } ∷ []) same)
