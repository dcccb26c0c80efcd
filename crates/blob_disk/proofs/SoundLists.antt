-- Entries that could stand in one table, as one more comes or one goes.
use Rattle.std.proofs.Common.{inl, inr, ◌≡◌, ℕ, suc, ◌+◌, ◌<◌, Bool, true, false, List, [], ◌∷◌, ◌++◌, length, take, drop, get_or, remove, Option, Some, None, is_some, ltb, lt-ltb, position, All, Contains, refl, sym, ap, subst, ◌∙◌, arith, length-append}
use Rattle.std.specs.List.{position_or_len}
use Rattle.std.specs.Prelude.{find}
use Rattle.blob_disk.specs.Pooled.{IsPooled}
use Rattle.std.proofs.lemmas.Bool.{cases_lt, cases_Bool, cond-true}
use Rattle.std.proofs.lemmas.List.{get_or_append_left, get_or-append-add, get_or_at, get_or_default, get_or_past, length_push, length-take, length-drop, append_assoc, take-append-drop, drop_more}
use Rattle.std.proofs.lemmas.List.Elements.{All-append, All-take, All-drop, All-push}
use Rattle.std.proofs.lemmas.List.Quantifiers.{all_pairs_push, all_pairs_remove}
use Rattle.image_layout.specs.declared.geometry.Geometry.{Geometry}
use Rattle.node_table.specs.declared.entry.Entry.{Entry}
use Rattle.pkg_names.specs.declared.root.Root.{Root}
use Rattle.pkg_names.specs.Root.{root_eq}
use Rattle.node_table.specs.Entries.{IsEntry, AreSound, AreApart, MayStandTogether, IsChained, entry_of}
use Rattle.blob_disk.specs.Chains.{draft_place}
use Rattle.page_pool.specs.Flags.{IsTaken, IsFree}
use Rattle.blob_disk.proofs.Pooling.{any_left, any_right, any_split, any_one}

pub sound_push : (g : Geometry) (entries : List Entry) (entry : Entry) → AreSound g entries → length entries < g.blobs → IsEntry g.data_pages entry → All (λ (other : Entry). MayStandTogether other entry) entries → AreSound g (entries ++ entry ∷ [])
sound_push g entries entry sound room is together =
    record {
      room = omega (arith, length_push entries entry, room);
      each = All-push (IsEntry g.data_pages) entries entry sound.each is;
      together = all_pairs_push MayStandTogether entries entry sound.together together;
    }

pub sound_remove : (g : Geometry) (entries : List Entry) (n : ℕ) → n < length entries → AreSound g entries → AreSound g (remove entries n)
sound_remove g entries n below sound =
    record {
      room = omega (arith, sound.room, length-append (take n entries) (drop (suc n) entries), length-take n entries, length-drop (suc n) entries);
      each = All-append (IsEntry g.data_pages) (take n entries) (drop (suc n) entries) (All-take (IsEntry g.data_pages) n entries sound.each) (All-drop (IsEntry g.data_pages) (suc n) entries sound.each);
      together = all_pairs_remove MayStandTogether entries n below sound.together;
    }

-- an entry in the middle has no page of the others
pub middle_apart : (g : Geometry) (xs ys : List Entry) (entry : Entry) → AreSound g (xs ++ entry ∷ ys) → (page : ℕ) → IsChained (xs ++ ys) page → Contains entry.pages page → ⊥
middle_apart g xs ys entry sound page chained mine =
    let all : List Entry = xs ++ entry ∷ ys in
    let n : ℕ = length xs in
    let size : length all ≡ n + (length ys + 1) = length-append xs (entry ∷ ys) ∙ omega arith in
    let here : (d : Entry) → get_or all n d ≡ entry = λ d. get_or_at xs entry ys d n refl in
    let Has : Entry → Type 0 = λ e. Contains e.pages page in
    elim (any_split Has xs ys chained) [
      | inl left ↦
          let other : Entry = left.1 in
          let is : get_or all left.0 other ≡ other = get_or_append_left xs (entry ∷ ys) other left.0 left.2 ∙ left.3 in
          let together = sound.together left.0 n other left.2 (omega (arith, size)) in
          let apart = subst (λ (e : Entry). AreApart e.pages entry.pages) is (subst (λ (e : Entry). AreApart (get_or all left.0 other).pages e.pages) (here other) together.chains) in
          apart page left.4 mine
      | inr right ↦
          let other : Entry = right.1 in
          let k : ℕ = n + suc right.0 in
          let is : get_or all k other ≡ other = get_or-append-add xs (entry ∷ ys) (suc right.0) other ∙ right.3 in
          let together = sound.together n k other (omega arith) (omega (arith, size, right.2)) in
          let apart = subst (λ (e : Entry). AreApart entry.pages e.pages) is (subst (λ (e : Entry). AreApart e.pages (get_or all k other).pages) (here other) together.chains) in
          apart page mine right.4
    ]

-- a page is not taken and free
taken_not_free : (flags : List Bool) (page : ℕ) → IsTaken flags page → IsFree flags page → ⊥
taken_not_free flags page taken free =
    elim (cases_lt page (length flags)) [
      | inl lt ↦
          let e : true ≡ false = sym taken ∙ get_or_default flags page false true lt ∙ free in
          absurd (cc e)
      | inr ge ↦
          let e : false ≡ true = sym (get_or_past flags page false ge) ∙ taken in
          absurd (cc e)
    ]

pub free_below : (flags : List Bool) (page : ℕ) → IsFree flags page → page < length flags
free_below flags page free =
    elim (cases_lt page (length flags)) [
      | inl lt ↦ lt
      | inr ge ↦
          let e : true ≡ false = sym (get_or_past flags page true ge) ∙ free in
          absurd (cc e)
    ]

-- pages that were free are in none of the chains that are taken
pub fresh_apart : (flags : List Bool) (entries : List Entry) (pages : List ℕ) → ((page : ℕ) → IsChained entries page → IsTaken flags page) → All (IsFree flags) pages → All (λ (other : Entry). AreApart other.pages pages) entries
fresh_apart flags entries pages taken free = λ k d below page on_other mine.
    let other : Entry = get_or entries k d in
    let chained : IsChained entries page = (k, other, below, get_or_default entries k other d below, on_other) in
    let is_free : IsFree flags page = subst (IsFree flags) mine.2 (free mine.0 page mine.1) in
    taken_not_free flags page (taken page chained) is_free

-- a list without an element of its second part
pub remove-append : {X : Type 0} (xs ys : List X) (i : ℕ) → remove (xs ++ ys) (length xs + i) ≡ xs ++ remove ys i
remove-append [] ys i = ap (remove ys) (omega arith)
remove-append (x ∷ xs) ys i =
    let e : length (x ∷ xs) + i ≡ suc (length xs + i) = omega arith in
    ap (remove ((x ∷ xs) ++ ys)) e ∙ ap (λ l. x ∷ l) (remove-append xs ys i)

-- where the entry that is found stands
pub find_place : {X : Type 0} (p : X → Bool) (xs : List X) (x : X) → find p xs ≡ Some x → (position_or_len p xs < length xs) × ((d : X) → get_or xs (position_or_len p xs) d ≡ x)
find_place p [] x found = absurd (cc found)
find_place p (y ∷ xs) x found =
    elim (cases_Bool (p y)) [
      | inl holds ↦
          let here : Some y ≡ Some x = rw holds at found in
          let same : y ≡ x = cc here in
          rw holds (omega arith, λ d. same)
      | inr lacks ↦
          let rest = find_place p xs x (rw lacks at found) in
          let n : ℕ = position_or_len p xs in
          let next : 1 + n ≡ suc n = omega arith in
          rw lacks (omega (arith, rest.0), λ d. ap (λ (k : ℕ). get_or (y ∷ xs) k d) next ∙ rest.1 d)
    ]

pub some_of : {X : Type 0} (o : Option X) → is_some o ≡ true → (x : X) × (o ≡ Some x)
some_of None some = absurd (cc some)
some_of (Some x) some = (x, refl)

-- a list split at a place
pub split_at : (es ds : List Entry) (i : ℕ) (entry : Entry) → i < length ds → ((d : Entry) → get_or ds i d ≡ entry) → es ++ ds ≡ (es ++ take i ds) ++ entry ∷ drop (suc i) ds
split_at es ds i entry below here =
    let next : i + 1 ≡ suc i = omega arith in
    let tail : drop i ds ≡ entry ∷ drop (suc i) ds = drop_more ds i entry below ∙ ap (λ (e : Entry). e ∷ drop (i + 1) ds) (here entry) ∙ ap (λ (k : ℕ). entry ∷ drop k ds) next in
    ap (λ (l : List Entry). es ++ l) (sym (take-append-drop i ds) ∙ ap (λ (l : List Entry). take i ds ++ l) tail) ∙ sym (append_assoc es (take i ds) (entry ∷ drop (suc i) ds))

-- the pages of an entry are taken
pub entry_taken : (xs ys : List Entry) (entry : Entry) (flags : List Bool) (count : ℕ) → IsPooled (xs ++ entry ∷ ys) flags count → All (IsTaken flags) entry.pages
entry_taken xs ys entry flags count pooled = λ k d below.
    let page : ℕ = get_or entry.pages k d in
    let Has : Entry → Type 0 = λ e. Contains e.pages page in
    (pooled.taken page).1 (any_right Has xs (entry ∷ ys) (any_left Has (entry ∷ []) ys (any_one Has entry (k, below, get_or_default entry.pages k page d below))))

pub entry_sound : (g : Geometry) (xs ys : List Entry) (entry : Entry) → AreSound g (xs ++ entry ∷ ys) → IsEntry g.data_pages entry
entry_sound g xs ys entry sound =
    subst (IsEntry g.data_pages) (get_or_at xs entry ys entry (length xs) refl) (sound.each (length xs) entry (omega (arith, length-append xs (entry ∷ ys))))

pub position_is : {X : Type 0} (p : X → Bool) (xs : List X) → position_or_len p xs < length xs → position p xs ≡ Some (position_or_len p xs)
position_is p xs below = cond-true (ltb (position_or_len p xs) (length xs)) (Some (position_or_len p xs)) None (lt-ltb (position_or_len p xs) (length xs) below)

-- where the entry of a root stands
pub found_place : (root : Root) (entries : List Entry) → is_some (entry_of entries root) ≡ true → (draft_place root entries < length entries) × ((d : Entry) → entry_of entries root ≡ Some (get_or entries (draft_place root entries) d)) × (position (λ (entry : Entry). root_eq root entry.root) entries ≡ Some (draft_place root entries))
found_place root entries some =
    let test : Entry → Bool = λ entry. root_eq root entry.root in
    let found = some_of (entry_of entries root) some in
    let at = find_place test entries found.0 found.1 in
    (at.0, λ d. found.1 ∙ ap (λ (e : Entry). Some e) (sym (at.1 d)), position_is test entries at.0)

pub same_place : (a b : ℕ) → Some a ≡ Some b → a ≡ b
same_place a b same = cc same

pub same_entry : (a b : Entry) → Some a ≡ Some b → a ≡ b
same_entry a b same = cc same
