-- What a landing gives to the books.
use Rattle.std.proofs.Common.{◌≡◌, ℕ, ◌+◌, ◌≤◌, true, false, List, [], ◌∷◌, ◌++◌, length, Option, Some, None, is_some, refl, sym, ap, subst, ◌∙◌, inl, inr}
use Rattle.std.specs.Prelude.{IsSomeAnd}
use Rattle.std.proofs.lemmas.Bool.{cases_Bool, true≢false, or_cases, or_right}
use Rattle.pkg_names.specs.declared.root.Root.{Root}
use Rattle.pkg_names.specs.Root.{root_eq}
use Rattle.pkg_names.proofs.Roots.{root_eq-true, root_eq-refl}
use Rattle.pkg_merkle.specs.Merkle.{merkle_root}
use Rattle.package_book.specs.declared.book.TheConstants.{META_LIMIT}
use Rattle.package_book.specs.Books.{Meta, Books, book_at}
use Rattle.package_book.specs.Books.Meta.{Read}
use Rattle.store_model.specs.declared.events.Act.TheVariants.{Land}
use Rattle.store_model.specs.declared.events.Event.{Event}
use Rattle.store_model.specs.declared.events.LookedAt.{LookedAt}
use Rattle.store_model.specs.State.{State, Stored, stored_len, is_stored, claim_of, has_root, protected_in}
use Rattle.store_model.specs.Settling.{with_looked, with_long, KnowsAll, HasLooked}
use Rattle.store_model.specs.Acts.Put.{IsRoomOf}
use Rattle.store_model.specs.Acts.Land.{next_land}
use Rattle.store_model.specs.Step.{IsDue, step}
use Rattle.store_model.specs.History.{Origin, IsLegal, after}
use Rattle.store_model.specs.Lanes.{AreClaims}
use Rattle.store_model.proofs.Knowing.{Knows, knows_looked, knows_long, knows_pair, kept_same}
use Rattle.store_model.proofs.LanesOnce.{stored_more, claimed_missing, stand_once}
use Rattle.store_model.proofs.LanesQuiet.{knows_always}
use Rattle.store_model.proofs.SoundBooks.{all_same}

abbrev stored_as : LookedAt → Stored
stored_as blob = record { root = blob.root; len = length blob.bytes }

abbrev landing : ℕ → LookedAt → Event
landing lane blob = record { lane = lane; act = Land blob.root (length blob.bytes) None (blob ∷ []); broke = false }

-- what isn't stored lands with its length
landed_len : (stock : List Stored) (blob : Stored) → is_stored stock blob.root ≡ false → stored_len (stock ++ blob ∷ []) blob.root ≡ Some blob.len
landed_len [] blob out = rw (root_eq-refl blob.root) refl
landed_len (b ∷ stock) blob out =
    elim (cases_Bool (root_eq b.root blob.root)) [
      | inl same ↦ absurd (cc (rw same at out))
      | inr other ↦ rw other (landed_len stock blob (rw other at out))
    ]

looks : (s : State) (blob : LookedAt) → KnowsAll s.books (protected_in s) s.stock → HasLooked (blob ∷ []) (next_land s blob.root (length blob.bytes) None)
looks s blob knows root among stored =
    let stock : List Stored = s.stock ++ stored_as blob ∷ [] in
    let looked : Books = with_looked s.books (blob ∷ []) in
    elim (cases_Bool (root_eq blob.root root)) [
      | inl same ↦ knows_long looked stock root (subst (λ (r : Root). Knows r looked) (root_eq-true blob.root root same) (knows_pair s.books blob))
      | inr other ↦ knows_long looked stock root (knows_looked s.books (blob ∷ []) root (knows root among (before other)))
    ] where
      before : root_eq blob.root root ≡ false → is_stored s.stock root ≡ true
      before other =
          elim (or_cases (is_stored s.stock root) (root_eq blob.root root) (sym (stored_more s.stock (stored_as blob) root) ∙ stored)) [
            | inl there ↦ there
            | inr here ↦ absurd (true≢false (sym here ∙ other))
          ]

lands_there : (s : State) (number lane : ℕ) (blob : LookedAt) → s.booted ≡ true → s.broken ≡ None → merkle_root blob.bytes ≡ blob.root → length blob.bytes ≤ META_LIMIT
    → IsSomeAnd (claim_of s.claims blob.root) (IsRoomOf lane (length blob.bytes)) → KnowsAll s.books (protected_in s) s.stock → AreClaims s.claims s.stock → IsDue s number (landing lane blob)
lands_there s number lane blob booted whole root short claim knows once =
    let out = claimed_missing s blob.root (IsRoomOf lane (length blob.bytes)) (claim_of s.claims blob.root) refl claim once in
    record {
      boots = rw booted refl;
      goes_on = rw whole refl;
      due = (claim, tt);
      looked = looks s blob knows;
      seen = (root, landed_len s.stock (stored_as blob) out, short, tt);
    }

pub lands : (origin : Origin) (history : List Event) (lane : ℕ) (blob : LookedAt) → IsLegal origin history → let s = after origin history in s.booted ≡ true → s.broken ≡ None → merkle_root blob.bytes ≡ blob.root → length blob.bytes ≤ META_LIMIT
    → IsSomeAnd (claim_of s.claims blob.root) (IsRoomOf lane (length blob.bytes)) → IsDue s (length history + 1) (landing lane blob)
lands origin history lane blob legal booted whole root short claim =
    lands_there (after origin history) (length history + 1) lane blob booted whole root short claim (knows_always origin history legal) (stand_once origin history legal).claims

last_book : (books : Books) (root : Root) (meta : Meta) → book_at books root ≡ None → book_at (books ++ record { root = root; meta = meta } ∷ []) root ≡ Some meta
last_book [] root meta unknown = rw (root_eq-refl root) refl
last_book (b ∷ books) root meta unknown =
    elim (cases_Bool (root_eq b.root root)) [
      | inl same ↦ absurd (cc (rw same at unknown))
      | inr other ↦ rw other (last_book books root meta (rw other at unknown))
    ]

pub known_then : (s : State) (number lane : ℕ) (blob : LookedAt) → has_root (protected_in s) blob.root ≡ true → book_at s.books blob.root ≡ None → book_at (step s number (landing lane blob)).books blob.root ≡ Some (Read blob.bytes)
known_then s number lane blob among unknown =
    let stock : List Stored = s.stock ++ stored_as blob ∷ [] in
    let more : Books = s.books ++ record { root = blob.root; meta = Read blob.bytes } ∷ [] in
    let fresh : with_looked s.books (blob ∷ []) ≡ more = rw unknown refl in
    let there : is_stored stock blob.root ≡ true = stored_more s.stock (stored_as blob) blob.root ∙ or_right (is_stored s.stock blob.root) (root_eq blob.root blob.root) (root_eq-refl blob.root) in
    let last = last_book s.books blob.root (Read blob.bytes) unknown in
    kept_same (with_long (with_looked s.books (blob ∷ [])) stock) (protected_in s) stock blob.root among there ∙ ap (λ (books : Books). book_at (with_long books stock) blob.root) fresh
    ∙ all_same more [] stock blob.root (ap (λ (m : Option Meta). is_some m) last) ∙ last
