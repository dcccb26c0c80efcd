-- The bytes of a blob that was looked at are those of the first pair with its root.
use Rattle.std.proofs.Common.{◌≡◌, inl, inr, List, [], ◌∷◌, refl}
use Rattle.std.specs.Prelude.{find}
use Rattle.std.specs.Option.{option_map}
use Rattle.std.proofs.lemmas.Bool.{cases_Bool}
use Rattle.pkg_names.specs.declared.root.Root.{Root}
use Rattle.pkg_names.specs.Root.{root_eq}
use Rattle.store_model.specs.declared.events.LookedAt.{LookedAt}
use Rattle.store_model.specs.Systems.{seen_bytes}

pub seen_bytes-find : (seen : List LookedAt) (root : Root) → seen_bytes seen root ≡ option_map (λ (pair : LookedAt). pair.bytes) (find (λ (pair : LookedAt). root_eq pair.root root) seen)
seen_bytes-find [] root = refl
seen_bytes-find (pair ∷ seen) root =
    elim (cases_Bool (root_eq pair.root root)) [ inl holds ↦ rw holds refl | inr lacks ↦ rw lacks (seen_bytes-find seen root) ]
