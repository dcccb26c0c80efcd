-- Acts that leave the stock and the protected packages, or the stock alone, leave the books settled at once.
use Rattle.std.proofs.Common.{◌≡◌, ◌⊎◌, inl, inr, ℕ, Bool, true, false, cond, not, List, [], ◌∷◌, map, Option, Some, None, is_some, refl, sym, ap, ◌∙◌}
use Rattle.std.specs.Prelude.{filter}
use Rattle.std.proofs.lemmas.Bool.{cases_Bool, true≢false, or_cases, or_left, or_right}
use Rattle.std.proofs.lemmas.List.Folds.{list_any_at}
use Rattle.pkg_names.specs.declared.root.Root.{Root}
use Rattle.pkg_names.specs.declared.pinned.Pinned.{Pinned}
use Rattle.pkg_names.specs.NameAndVariant.{NameAndVariant, path_eq}
use Rattle.pkg_names.specs.Root.{root_eq}
use Rattle.pkg_names.proofs.Roots.{root_eq-true, root_eq-same}
use Rattle.abr_record.specs.declared.Slot.{Slot}
use Rattle.abr_record.specs.declared.Slot.TheVariants.{A, B, R}
use Rattle.fetch_queue.specs.declared.FetchEnd.{FetchEnd}
use Rattle.image_layout.specs.declared.Sys.{Sys}
use Rattle.open_tracker.specs.declared.dirs.DirEntry.{DirEntry}
use Rattle.package_book.specs.Books.{Books}
use Rattle.package_book.specs.Names.{names}
use Rattle.package_book.specs.Unprotected.{has_root as is_among, is_named, unprotected}
use Rattle.package_book.proofs.NameLaws.{has_itself}
use Rattle.package_indexes.specs.Indexes.{root_at, roots_of, protected, or_else}
use Rattle.store_model.specs.declared.ends.WantEnd.TheVariants as wants
use Rattle.store_model.specs.State.{State, Arrival, stored_len, is_stored, has_root, stock_roots, without_blobs, protected_in}
use Rattle.store_model.specs.Packages.{rest as unnamed, is_complete}
use Rattle.store_model.specs.Acts.Want.{next_want}
use Rattle.store_model.specs.Acts.Marking.{marked, ended, unclaimed}
use Rattle.store_model.specs.Acts.Room.{next_room}
use Rattle.store_model.specs.Acts.OpenPath.{if_complete, root_to_open, next_open_path}
use Rattle.store_model.specs.Acts.Collect.{next_collect}
use Rattle.store_model.specs.Acts.Stage.{staging}
use Rattle.store_model.specs.Acts.Seal.{next_seal}
use Rattle.store_model.specs.Acts.LeftStage.{next_left_stage}
use Rattle.store_model.specs.Acts.Commit.{next_commit}
use Rattle.store_model.proofs.LanesLasting.{left_len}
use Rattle.plain_state.specs.Learning.{IsReady, IsSettled}
use Rattle.plain_state.proofs.Protected.{by_part, from_base, from_cached, from_active, from_retained, from_arriving, from_dirs, last_has, more_has}
use Rattle.plain_state.proofs.Settled.{settles_quietly, settles_still}

-- ---- nothing that counts changes

-- an event that changes nothing
pub stays : (t : State) → IsReady t → IsSettled [] t t
stays t h = settles_still t t h.books refl refl (λ root. refl)

pub grants : (t : State) (number lane ticket : ℕ) (root : Root) → IsReady t → IsSettled [] (next_want t number lane ticket (wants.Fetch root)) (next_want t number lane ticket (wants.Fetch root))
grants t number lane ticket root h = settles_still t (next_want t number lane ticket (wants.Fetch root)) h.books refl refl (λ other. refl)

pub makes_room : (t : State) (root : Root) (len : ℕ) → IsReady t → IsSettled [] (next_room t root len None) (next_room t root len None)
makes_room t root len h = settles_still t (next_room t root len None) h.books refl refl (λ other. refl)

pub unclaims : (t : State) (root : Root) → IsReady t → IsSettled [] (unclaimed t root) (unclaimed t root)
unclaims t root h = settles_still t (unclaimed t root) h.books refl refl (λ other. refl)

-- a mark leaves a package's root
marked_root : (books : Books) (root : Root) (end : FetchEnd) (arrival : Arrival) → (marked books root end arrival).root ≡ arrival.root
marked_root books root end arrival = first (has_root (names arrival.root books) root) where
  first : (test : Bool) → (cond test (record arrival { mark = Rattle.fetch_queue.specs.Fetches.first_mark arrival.mark end }) arrival).root ≡ arrival.root
  first true = refl
  first false = refl

marked_roots : (books : Books) (root : Root) (end : FetchEnd) (arriving : List Arrival) → map (λ (a : Arrival). a.root) (map (marked books root end) arriving) ≡ map (λ (a : Arrival). a.root) arriving
marked_roots books root end [] = refl
marked_roots books root end (a ∷ arriving) = rw (marked_root books root end a, marked_roots books root end arriving) refl

-- the end of a fetch without its blob
pub ends : (t : State) (root : Root) (end : FetchEnd) → IsReady t → IsSettled [] (ended t root end) (ended t root end)
ends t root end h =
    settles_still t (ended t root end) h.books refl refl
    (λ other. ap (λ (arriving : List Root). has_root (protected t.base t.cached t.active t.retained arriving (map (λ (d : DirEntry). d.root) t.dirs)) other) (marked_roots t.books root end t.arriving))

pub stages : (t : State) (lane : ℕ) (slot : Slot) → IsReady t → IsSettled [] (staging t lane slot) (staging t lane slot)
stages t lane A h = settles_still t (staging t lane A) h.books refl refl (λ root. refl)
stages t lane B h = settles_still t (staging t lane B) h.books refl refl (λ root. refl)
stages t lane R h = settles_still t (staging t lane R) h.books refl refl (λ root. refl)

pub seals : (t : State) (lane : ℕ) (sys : Sys) → IsReady t → IsSettled [] (next_seal t lane sys None) (next_seal t lane sys None)
seals t lane sys h = settles_still t (next_seal t lane sys None) h.books refl refl (λ root. refl)

pub leaves_stage : (t : State) → IsReady t → IsSettled [] (next_left_stage t) (next_left_stage t)
leaves_stage t h = settles_still t (next_left_stage t) h.books refl refl (λ root. refl)

pub commits : (t : State) (done : Bool) → IsReady t → IsSettled [] (next_commit t done) (next_commit t done)
commits t true h = settles_still t (next_commit t true) h.books refl refl (λ root. refl)
commits t false h = stays t h

-- ---- a package that is here is opened

root_has : (pairs : List Pinned) (path : NameAndVariant) (root : Root) → root_at pairs path ≡ Some root → has_root (roots_of pairs) root ≡ true
root_has [] path root found = absurd cc
root_has (pair ∷ pairs) path root found = first (path_eq pair.path path) found (λ later. root_has pairs path root later) where
  first : (test : Bool) → cond test (Some pair.root) (root_at pairs path) ≡ Some root → (root_at pairs path ≡ Some root → has_root (roots_of pairs) root ≡ true)
      → has_root (roots_of (pair ∷ pairs)) root ≡ true
  first true e later = let same : pair.root ≡ root = cc in or_left (root_eq pair.root root) (has_root (roots_of pairs) root) (root_eq-same pair.root root same)
  first false e later = or_right (root_eq pair.root root) (has_root (roots_of pairs) root) (later e)

if_complete_is : (t : State) (found : Option Root) (root : Root) → if_complete t found ≡ Some root → found ≡ Some root
if_complete_is t None root e = absurd cc
if_complete_is t (Some other) root e = first (is_complete t other) e where
  first : (test : Bool) → cond test (Some other) None ≡ Some root → Some other ≡ Some root
  first true h = h
  first false h = absurd cc

or_else_is : (a b : Option Root) (root : Root) → or_else a b ≡ Some root → (a ≡ Some root) ⊎ (b ≡ Some root)
or_else_is None b root e = inr e
or_else_is (Some other) b root e = inl e

-- what a path opens is protected
pub opened_among : (t : State) (path : NameAndVariant) (root : Root) → root_to_open t path ≡ Some root → has_root (protected_in t) root ≡ true
opened_among t path root found =
    elim (or_else_is (root_at t.base path) (or_else (root_at t.active path) (if_complete t (root_at t.cached path))) root found) [
      | inl based ↦ from_base t root (root_has t.base path root based)
      | inr other ↦ elim (or_else_is (root_at t.active path) (if_complete t (root_at t.cached path)) root other) [
        | inl active ↦ from_active t root (root_has t.active path root active)
        | inr cached ↦
            from_cached t root
            (root_has t.cached path root (if_complete_is t (root_at t.cached path) root cached))
      ]
    ]

pub opens_path : (t : State) (number lane : ℕ) (path : NameAndVariant) (root : Root) → IsReady t → root_to_open t path ≡ Some root
    → IsSettled [] (next_open_path t number lane (Some root)) (next_open_path t number lane (Some root))
opens_path t number lane path root h found =
    let entry : DirEntry = record { number = number; lane = lane; root = root } in
    settles_quietly [] t (next_open_path t number lane (Some root)) (next_open_path t number lane (Some root)) h.books
    (record {
      books = refl;
      stays = λ other at. at.stored;
      goes = λ other at passed.
          let among : has_root (protected_in (next_open_path t number lane (Some root))) other ≡ true =
          by_part (has_root (protected_in (next_open_path t number lane (Some root))) other ≡ true) t other at.among
          (from_base (next_open_path t number lane (Some root)) other)
          (from_cached (next_open_path t number lane (Some root)) other)
          (from_active (next_open_path t number lane (Some root)) other)
          (from_retained (next_open_path t number lane (Some root)) other)
          (from_arriving (next_open_path t number lane (Some root)) other)
          (λ d. from_dirs (next_open_path t number lane (Some root)) other (more_has (λ (d : DirEntry). d.root) t.dirs entry other d)) in
          absurd (true≢false (sym among ∙ passed));
      comes = λ other at. record {
        among = by_part (has_root (protected_in t) other ≡ true) (next_open_path t number lane (Some root)) other at.among
            (from_base t other)
            (from_cached t other)
            (from_active t other)
            (from_retained t other)
            (from_arriving t other)
            (λ d. elim (last_has (λ (d : DirEntry). d.root) t.dirs entry other d) [
              | inl was ↦ from_dirs t other was
              | inr same ↦ ap (has_root (protected_in t)) (sym (root_eq-true root other same)) ∙ opened_among t path root found
            ]);
        stored = at.stored;
      };
    })
    refl (λ other. refl)

-- ---- a collection

named_itself : (packages : List Root) (books : Books) (root : Root) → has_root packages root ≡ true → is_named packages books root ≡ true
named_itself [] books root among = absurd cc
named_itself (top ∷ packages) books root among =
    elim (or_cases (root_eq top root) (has_root packages root) among) [
      | inl same ↦
          let itself = has_itself root books in
          let named = itself.named root itself.level in
          or_left (is_among (names top books) root) (is_named packages books root)
          (ap (λ (r : Root). is_among (names r books) root) (root_eq-true top root same)
          ∙ list_any_at (λ other. root_eq other root) (names root books) named.0 root named.1 (root_eq-same _ root named.2))
      | inr later ↦ or_right (is_among (names top books) root) (is_named packages books root) (named_itself packages books root later)
    ]

not_left : (p : Root → Bool) (roots : List Root) (root : Root) → p root ≡ true → has_root (filter (λ r. not (p r)) roots) root ≡ false
not_left p [] root named = refl
not_left p (other ∷ roots) root named =
    elim (cases_Bool (p other)) [
      | inl goes ↦ rw goes (not_left p roots root named)
      | inr stays ↦ elim (cases_Bool (root_eq other root)) [
        | inl same ↦ absurd (true≢false (sym named ∙ ap p (sym (root_eq-true other root same)) ∙ stays))
        | inr differs ↦ rw (stays, differs) (not_left p roots root named)
      ]
    ]

collected : (stock : List Root) (packages : List Root) (books : Books) (root : Root) → has_root packages root ≡ true → has_root (unprotected stock packages books) root ≡ false
collected stock packages books root among = not_left (is_named packages books) stock root (named_itself packages books root among)

pub collects : (t : State) → IsReady t → IsSettled [] (next_collect t (Some (unnamed t))) (next_collect t (Some (unnamed t)))
collects t h =
    settles_quietly [] t (next_collect t (Some (unnamed t))) (next_collect t (Some (unnamed t))) h.books
    (record {
      books = refl;
      stays = λ root at.
          ap (λ (o : Option ℕ). is_some o) (left_len t.stock (unnamed t) root ∙ ap (λ (test : Bool). cond test None (stored_len t.stock root)) (collected (stock_roots t.stock) (protected_in t) t.books root at.among))
          ∙ at.stored;
      goes = λ root at passed. absurd (true≢false (sym at.among ∙ passed));
      comes = λ root at. record { among = at.among; stored = was_stored root at.stored };
    })
    refl (λ root. refl) where
      was_stored : (root : Root) → is_stored (without_blobs t.stock (unnamed t)) root ≡ true → is_stored t.stock root ≡ true
      was_stored root stored = first (has_root (unnamed t) root) (sym (ap (λ (o : Option ℕ). is_some o) (left_len t.stock (unnamed t) root)) ∙ stored) where
        first : (test : Bool) → is_some (cond test None (stored_len t.stock root)) ≡ true → is_stored t.stock root ≡ true
        first true e = absurd (true≢false (sym e))
        first false e = e
