-- Acts that may have to look at blobs leave the books settled, once they have learned what is told of them.
use Rattle.std.proofs.Common.{◌≡◌, inl, inr, ℕ, Bool, true, false, cond, not, ◌&&◌, ◌||◌, List, [], ◌∷◌, ◌++◌, Option, Some, None, is_some, refl, sym, ap, ◌∙◌}
use Rattle.std.specs.Prelude.{filter, nat_le}
use Rattle.std.specs.Option.{option_map}
use Rattle.std.proofs.lemmas.Bool.{cases_Bool, true≢false, and_cases, leb-false, lt-ltb}
use Rattle.pkg_names.specs.declared.root.Root.{Root}
use Rattle.pkg_names.specs.NameAndVariant.{NameAndVariant}
use Rattle.pkg_names.specs.Root.{root_eq}
use Rattle.pkg_names.proofs.Roots.{root_eq-true, root_eq-refl}
use Rattle.package_book.specs.declared.book.TheConstants.{META_LIMIT}
use Rattle.package_book.specs.Books.{Meta, Books, book_at}
use Rattle.package_book.specs.Books.Meta.{Read, Long}
use Rattle.package_indexes.specs.Sets.{each_once}
use Rattle.store_model.specs.declared.events.LookedAt.{LookedAt}
use Rattle.store_model.specs.declared.ends.BeginEnd.TheVariants as begun
use Rattle.store_model.specs.declared.ends.RetainEnd.TheVariants as retains
use Rattle.store_model.specs.Mirrors.{Mirrors}
use Rattle.store_model.specs.State.{State, Stored, Arrival, stored_len, is_stored, has_root, protected_in}
use Rattle.store_model.specs.Systems.{seen_bytes}
use Rattle.store_model.specs.Acts.Begin.{has_to_read, next_begin}
use Rattle.store_model.specs.Acts.Land.{next_land}
use Rattle.store_model.specs.Acts.Retain.{next_retain}
use Rattle.store_model.proofs.SameBooks.{with_books}
use Rattle.plain_state.specs.Learning.{first_known, looked_at, long_of, told_at, told_of, at_root, seen_of, Learns, Unlearns, IsReady, IsSettled}
use Rattle.plain_state.proofs.Protected.{by_part, in_none, from_base, from_cached, from_active, from_retained, from_arriving, from_dirs, last_has, more_has, own_has}
use Rattle.plain_state.proofs.Settled.{IsThere, settles}

never : {P : Type 0} {b : Bool} → b ≡ true → b ≡ false → P
never holds lacks = absurd (true≢false (sym holds ∙ lacks))

-- ---- what is told

none_of : (test : Bool) (m : Option Meta) → test ≡ false → cond test m None ≡ None
none_of true m e = absurd (true≢false e)
none_of false m e = refl

some_of : (test : Bool) (m : Option Meta) → test ≡ true → cond test m None ≡ m
some_of true m e = refl
some_of false m e = absurd (true≢false (sym e))

pub is_read_if : (s : State) (root : Root) (len : ℕ) → stored_len s.stock root ≡ Some len → has_to_read s root ≡ (nat_le len META_LIMIT && not (is_some (book_at s.books root)))
is_read_if s root len at = rw at refl

pub is_read_not : (s : State) (root : Root) → stored_len s.stock root ≡ None → has_to_read s root ≡ false
is_read_not s root at = rw at refl

-- a stored package that isn't known is told of, where it was read if it had to be
pub has_told : (s : State) (seen : List LookedAt) (root : Root) → (has_to_read s root ≡ true → is_some (seen_bytes seen root) ≡ true) → is_stored s.stock root ≡ true → is_some (book_at s.books root) ≡ false
    → is_some (told_at seen s.stock root) ≡ true
has_told s seen root read stored unknown = first (seen_bytes seen root) refl (stored_len s.stock root) refl where
  third : (len : ℕ) (short : Bool) → nat_le len META_LIMIT ≡ short → stored_len s.stock root ≡ Some len → is_some (seen_bytes seen root) ≡ false → is_some (long_of (Some len)) ≡ true
  third len true e at unread = never (read (is_read_if s root len at ∙ rw (e, unknown) refl)) unread
  third len false e at unread = rw (lt-ltb META_LIMIT len (leb-false len META_LIMIT e)) refl

  first : (found : Option (List ℕ)) → seen_bytes seen root ≡ found → (len : Option ℕ) → stored_len s.stock root ≡ len → is_some (first_known (option_map Read found) (long_of len)) ≡ true
  first (Some bytes) e len at = refl
  first None e None at = never stored (ap (λ (o : Option ℕ). is_some o) at)
  first None e (Some len) at = third len (nat_le len META_LIMIT) refl at (ap (λ (o : Option (List ℕ)). is_some o) e)

-- one that isn't stored isn't told of
pub has_no_tale : (seen : List LookedAt) (stock : List Stored) (root : Root) → (is_some (seen_bytes seen root) ≡ true → is_stored stock root ≡ true) → is_stored stock root ≡ false → told_at seen stock root ≡ None
has_no_tale seen stock root there missing = first (seen_bytes seen root) (stored_len stock root) there missing where
  first : (found : Option (List ℕ)) (len : Option ℕ) → (is_some found ≡ true → is_some len ≡ true) → is_some len ≡ false
      → first_known (option_map Read found) (long_of len) ≡ None
  first (Some bytes) len there missing = never (there refl) missing
  first None None there missing = refl
  first None (Some len) there missing = absurd cc

-- what was read of one package
pub seen_self : (root : Root) (bytes : List ℕ) → seen_bytes (seen_of root (Some bytes)) root ≡ Some bytes
seen_self root bytes = rw (root_eq-refl root) refl

seen_one : (root : Root) (meta : Option (List ℕ)) → is_some (seen_bytes (seen_of root meta) root) ≡ is_some meta
seen_one root None = refl
seen_one root (Some bytes) = ap (λ (o : Option (List ℕ)). is_some o) (seen_self root bytes)

is_read_so : (s : State) (root : Root) → has_to_read s root ≡ true → is_stored s.stock root ≡ true
is_read_so s root read = first (stored_len s.stock root) refl where
  first : (len : Option ℕ) → stored_len s.stock root ≡ len → is_some len ≡ true
  first None at = never read (is_read_not s root at)
  first (Some len) at = refl

-- ---- nothing was learned after all

rest_again : (t u v : State) → u ≡ record t { books = u.books } → v ≡ record u { books = v.books } → v ≡ record t { books = v.books }
rest_again t u v p q = q ∙ ap (λ (w : State). with_books w v.books) p

first_none : (m : Option Meta) → m ≡ first_known m None
first_none None = refl
first_none (Some meta) = refl

none_so : (m : Option Meta) → is_some m ≡ false → m ≡ None
none_so None h = refl
none_so (Some meta) h = absurd cc

apart_at : (m : Option Meta) (root other : Root) (learned : Option Meta) → root_eq root other ≡ false → first_known m (at_root root learned other) ≡ m
apart_at m root other learned differs = ap (first_known m) (none_of (root_eq root other) learned differs) ∙ sym (first_none m)

-- what was learned of a package that wasn't known, and is forgotten again
pub unlearned : (root : Root) (learned : Option Meta) (t u v : State) → is_some (book_at t.books root) ≡ false → Learns root learned t u → Unlearns root u v → Mirrors t v
unlearned root learned t u v unknown learns back = record {
  rest = rest_again t u v learns.rest back.rest;
  books = λ other. sym (back.books other ∙ at other (root_eq root other) refl);
} where
  at : (other : Root) (test : Bool) → root_eq root other ≡ test → cond test None (book_at u.books other) ≡ book_at t.books other
  at other true same = sym (ap (book_at t.books) (sym (root_eq-true root other same)) ∙ none_so (book_at t.books root) unknown)
  at other false same = learns.books other ∙ apart_at (book_at t.books other) root other learned same

first_of : (m later : Option Meta) → is_some m ≡ true → first_known m later ≡ m
first_of None later h = absurd cc
first_of (Some meta) later h = refl

-- a package that was known is known as before
pub known_before : (root : Root) (learned : Option Meta) (t u : State) → is_some (book_at t.books root) ≡ true → Learns root learned t u → Mirrors t u
known_before root learned t u known learns = record {
  rest = learns.rest;
  books = λ other. sym (learns.books other ∙ at other (root_eq root other) refl);
} where
  at : (other : Root) (test : Bool) → root_eq root other ≡ test → first_known (book_at t.books other) (at_root root learned other) ≡ book_at t.books other
  at other true same = first_of (book_at t.books other) (at_root root learned other) (ap (λ (r : Root). is_some (book_at t.books r)) (sym (root_eq-true root other same)) ∙ known)
  at other false same = apart_at (book_at t.books other) root other learned same

-- ---- a package arrives

pub begins : (t : State) (number lane : ℕ) (path : NameAndVariant) (root : Root) (meta : Option (List ℕ)) (new : State) → IsReady t → is_some meta ≡ has_to_read t root
    → new ≡ with_books (next_begin t number lane path (begun.Ticket root)) new.books
    → ((other : Root) → book_at new.books other ≡ first_known (book_at t.books other) (at_root root (told_at (seen_of root meta) t.stock root) other))
    → IsSettled (seen_of root meta) (next_begin t number lane path (begun.Ticket root)) new
begins t number lane path root meta new h read rest left =
    settles (seen_of root meta) (at_root root (told_at (seen_of root meta) t.stock root)) [] t (next_begin t number lane path (begun.Ticket root)) new h.books
    (record {
      books = refl;
      stays = λ other at. at.stored;
      goes = λ other at passed. never (grown other at.among) passed;
      comes = comes;
      only = only;
    })
    rest left where
      grown : (other : Root) → has_root (protected_in t) other ≡ true → has_root (protected_in (next_begin t number lane path (begun.Ticket root))) other ≡ true
      grown other among =
          by_part (has_root (protected_in (next_begin t number lane path (begun.Ticket root))) other ≡ true) t other among (from_base (next_begin t number lane path (begun.Ticket root)) other) (from_cached (next_begin t number lane path (begun.Ticket root)) other) (from_active (next_begin t number lane path (begun.Ticket root)) other) (from_retained (next_begin t number lane path (begun.Ticket root)) other)
          (λ v. from_arriving (next_begin t number lane path (begun.Ticket root)) other (more_has (λ (a : Arrival). a.root) t.arriving (record { ticket = number; lane = lane; path = path; root = root; mark = None }) other v))
          (from_dirs (next_begin t number lane path (begun.Ticket root)) other)

      own : has_root (protected_in (next_begin t number lane path (begun.Ticket root))) root ≡ true
      own = from_arriving (next_begin t number lane path (begun.Ticket root)) root (own_has (λ (a : Arrival). a.root) t.arriving (record { ticket = number; lane = lane; path = path; root = root; mark = None }) root (root_eq-refl root))

      is_told : (other : Root) → root_eq root other ≡ true → is_stored t.stock other ≡ true → is_some (book_at t.books other) ≡ false
          → (is_some (at_root root (told_at (seen_of root meta) t.stock root) other) ≡ true) × (at_root root (told_at (seen_of root meta) t.stock root) other ≡ told_at (seen_of root meta) t.stock other)
      is_told other same stored unknown =
          let is_root = root_eq-true root other same in
          let is_one = some_of (root_eq root other) (told_at (seen_of root meta) t.stock root) same in
          let told : is_some (told_at (seen_of root meta) t.stock root) ≡ true =
          has_told t (seen_of root meta) root (λ e. seen_one root meta ∙ read ∙ e)
          (ap (is_stored t.stock) is_root ∙ stored) (ap (λ (r : Root). is_some (book_at t.books r)) is_root ∙ unknown) in
          (ap (λ (m : Option Meta). is_some m) is_one ∙ told, is_one ∙ ap (told_at (seen_of root meta) t.stock) is_root)

      comes : (other : Root) → IsThere (next_begin t number lane path (begun.Ticket root)) other → is_some (book_at t.books other) ≡ false
          → (is_some (at_root root (told_at (seen_of root meta) t.stock root) other) ≡ true) × (at_root root (told_at (seen_of root meta) t.stock root) other ≡ told_at (seen_of root meta) t.stock other)
      comes other at unknown =
          let P : Type 0 = (is_some (at_root root (told_at (seen_of root meta) t.stock root) other) ≡ true) × (at_root root (told_at (seen_of root meta) t.stock root) other ≡ told_at (seen_of root meta) t.stock other) in
          let was = λ (among : has_root (protected_in t) other ≡ true). never {P = P} (h.books.all other among at.stored) unknown in
          by_part P (next_begin t number lane path (begun.Ticket root)) other at.among
          (λ b. was (from_base t other b)) (λ c. was (from_cached t other c)) (λ a. was (from_active t other a)) (λ r. was (from_retained t other r))
          (λ v. elim (last_has (λ (a : Arrival). a.root) t.arriving (record { ticket = number; lane = lane; path = path; root = root; mark = None }) other v) [
            | inl before ↦ was (from_arriving t other before)
            | inr same ↦ is_told other same at.stored unknown
          ])
          (λ d. was (from_dirs t other d))

      only : (other : Root) → (has_root (protected_in (next_begin t number lane path (begun.Ticket root))) other && is_stored t.stock other) ≡ false → is_some (book_at t.books other) ≡ false
          → (has_root [] other && not (has_root (protected_in (next_begin t number lane path (begun.Ticket root))) other)) ≡ false → at_root root (told_at (seen_of root meta) t.stock root) other ≡ None
      only other apart unknown kept =
          elim (cases_Bool (root_eq root other)) [
            | inr differs ↦ none_of (root_eq root other) (told_at (seen_of root meta) t.stock root) differs
            | inl same ↦
                let is_root = root_eq-true root other same in
                let missing : is_stored t.stock other ≡ false =
                elim (and_cases (has_root (protected_in (next_begin t number lane path (begun.Ticket root))) other) (is_stored t.stock other) apart) [
                  | inl passed ↦ never own (ap (has_root (protected_in (next_begin t number lane path (begun.Ticket root)))) is_root ∙ passed)
                  | inr missing ↦ missing
                ] in
                some_of (root_eq root other) (told_at (seen_of root meta) t.stock root) same
                ∙ has_no_tale (seen_of root meta) t.stock root
                (λ e. is_read_so t root (sym read ∙ sym (seen_one root meta) ∙ e))
                (ap (is_stored t.stock) is_root ∙ missing)
          ]

-- ---- packages are retained

other_left : (x root : Root) → root_eq x root ≡ false → (xs : List Root) → has_root (filter (λ other. not (root_eq other x)) xs) root ≡ has_root xs root
other_left x root differs [] = refl
other_left x root differs (y ∷ xs) =
    elim (cases_Bool (root_eq y x)) [
      | inl same ↦
          let is_not : root_eq y root ≡ false = ap (λ (r : Root). root_eq r root) (root_eq-true y x same) ∙ differs in
          rw (same, is_not) (other_left x root differs xs)
      | inr apart ↦ rw apart (ap (λ later. root_eq y root || later) (other_left x root differs xs))
    ]

pub once_has : (xs : List Root) (root : Root) → has_root (each_once xs) root ≡ has_root xs root
once_has [] root = refl
once_has (x ∷ xs) root =
    elim (cases_Bool (root_eq x root)) [
      | inl same ↦ rw same refl
      | inr differs ↦ rw differs (other_left x root differs (each_once xs) ∙ once_has xs root)
    ]

-- What had to be read of these packages was read, and what was read is stored.
pub record AreRead (roots : List Root) (seen : List LookedAt) (s : State) : Type 0 where
  pub all : (root : Root) → has_root roots root ≡ true → has_to_read s root ≡ true → is_some (seen_bytes seen root) ≡ true
  pub there : (root : Root) → is_some (seen_bytes seen root) ≡ true → is_stored s.stock root ≡ true

pub retains_these : (t : State) (roots : List Root) (seen : List LookedAt) (new : State) → IsReady t → AreRead roots seen t
    → new ≡ with_books (next_retain t roots retains.Done) new.books
    → ((other : Root) → book_at new.books other
    ≡ cond (has_root t.retained other && not (has_root (protected_in (next_retain t roots retains.Done)) other)) None (first_known (book_at t.books other) (told_of roots seen t.stock other)))
    → IsSettled seen (next_retain t roots retains.Done) new
retains_these t roots seen new h read rest left =
    settles seen (told_of roots seen t.stock) t.retained t (next_retain t roots retains.Done) new h.books
    (record {
      books = refl;
      stays = λ other at. at.stored;
      goes = λ other at passed.
          let none = in_none (next_retain t roots retains.Done) other passed in
          by_part (has_root t.retained other ≡ true) t other at.among
          (λ b. never b none.based) (λ c. never c none.in_cache) (λ a. never a none.is_active) (λ r. r) (λ v. never v none.arrives) (λ d. never d none.is_open);
      comes = comes;
      only = only;
    })
    rest left where
      is_told : (other : Root) → has_root roots other ≡ true → is_stored t.stock other ≡ true → is_some (book_at t.books other) ≡ false
          → (is_some (told_of roots seen t.stock other) ≡ true) × (told_of roots seen t.stock other ≡ told_at seen t.stock other)
      is_told other given stored unknown =
          let is_one = some_of (has_root roots other) (told_at seen t.stock other) given in
          (ap (λ (m : Option Meta). is_some m) is_one ∙ has_told t seen other (read.all other given) stored unknown, is_one)

      comes : (other : Root) → IsThere (next_retain t roots retains.Done) other → is_some (book_at t.books other) ≡ false
          → (is_some (told_of roots seen t.stock other) ≡ true) × (told_of roots seen t.stock other ≡ told_at seen t.stock other)
      comes other at unknown =
          let P : Type 0 = (is_some (told_of roots seen t.stock other) ≡ true) × (told_of roots seen t.stock other ≡ told_at seen t.stock other) in
          let was = λ (among : has_root (protected_in t) other ≡ true). never {P = P} (h.books.all other among at.stored) unknown in
          by_part P (next_retain t roots retains.Done) other at.among
          (λ b. was (from_base t other b)) (λ c. was (from_cached t other c)) (λ a. was (from_active t other a))
          (λ r. is_told other (sym (once_has roots other) ∙ r) at.stored unknown)
          (λ v. was (from_arriving t other v)) (λ d. was (from_dirs t other d))

      only : (other : Root) → (has_root (protected_in (next_retain t roots retains.Done)) other && is_stored t.stock other) ≡ false → is_some (book_at t.books other) ≡ false
          → (has_root t.retained other && not (has_root (protected_in (next_retain t roots retains.Done)) other)) ≡ false → told_of roots seen t.stock other ≡ None
      only other apart unknown kept =
          elim (cases_Bool (has_root roots other)) [
            | inr without ↦ none_of (has_root roots other) (told_at seen t.stock other) without
            | inl given ↦
                let among : has_root (protected_in (next_retain t roots retains.Done)) other ≡ true =
                from_retained (next_retain t roots retains.Done) other (once_has roots other ∙ given) in
                let missing : is_stored t.stock other ≡ false =
                elim (and_cases (has_root (protected_in (next_retain t roots retains.Done)) other) (is_stored t.stock other) apart) [
                  | inl passed ↦ never among passed
                  | inr missing ↦ missing
                ] in
                some_of (has_root roots other) (told_at seen t.stock other) given ∙ has_no_tale seen t.stock other (read.there other) missing
          ]

-- ---- a blob is stored

more_stored : (stock : List Stored) (blob : Stored) (root : Root) → is_stored stock root ≡ true → is_stored (stock ++ blob ∷ []) root ≡ true
more_stored [] blob root stored = absurd cc
more_stored (other ∷ stock) blob root stored =
    elim (cases_Bool (root_eq other.root root)) [
      | inl same ↦ rw same refl
      | inr differs ↦ rw differs (more_stored stock blob root (rw differs at stored))
    ]

last_len : (stock : List Stored) (blob : Stored) (root : Root) → is_stored stock root ≡ false → stored_len (stock ++ blob ∷ []) root ≡ cond (root_eq blob.root root) (Some blob.len) None
last_len [] blob root missing = refl
last_len (other ∷ stock) blob root missing =
    elim (cases_Bool (root_eq other.root root)) [
      | inl same ↦ never (let s : is_stored (other ∷ stock) root ≡ true = rw same refl in s) missing
      | inr differs ↦ rw differs (last_len stock blob root (rw differs at missing))
    ]

pub lands : (t : State) (root : Root) (len : ℕ) (seen : List LookedAt) (learned : Option Meta) (new : State) → IsReady t → is_stored t.stock root ≡ false
    → (has_root (protected_in t) root ≡ true → (is_some learned ≡ true) × (learned ≡ told_at seen (next_land t root len None).stock root))
    → (has_root (protected_in t) root ≡ false → learned ≡ None)
    → new ≡ with_books (next_land t root len None) new.books
    → ((other : Root) → book_at new.books other ≡ first_known (book_at t.books other) (at_root root learned other))
    → IsSettled seen (next_land t root len None) new
lands t root len seen learned new h missing told untold rest left =
    settles seen (at_root root learned) [] t (next_land t root len None) new h.books
    (record {
      books = refl;
      stays = λ other at. more_stored t.stock (record { root = root; len = len }) other at.stored;
      goes = λ other at passed. never at.among passed;
      comes = comes;
      only = only;
    })
    rest left where
      comes : (other : Root) → IsThere (next_land t root len None) other → is_some (book_at t.books other) ≡ false
          → (is_some (at_root root learned other) ≡ true) × (at_root root learned other ≡ told_at seen (next_land t root len None).stock other)
      comes other at unknown =
          elim (cases_Bool (root_eq root other)) [
            | inl same ↦
                let is_root = root_eq-true root other same in
                let so = told (ap (has_root (protected_in t)) is_root ∙ at.among) in
                (rw same so.0, rw same (so.1 ∙ ap (told_at seen (next_land t root len None).stock) is_root))
            | inr differs ↦
                let was : is_stored t.stock other ≡ false =
                elim (cases_Bool (is_stored t.stock other)) [
                  | inl stored ↦ never (h.books.all other at.among stored) unknown
                  | inr not_there ↦ not_there
                ] in
                let blob : Stored = record { root = root; len = len } in
                let gone : stored_len (t.stock ++ blob ∷ []) other ≡ None = last_len t.stock blob other was ∙ rw differs refl in
                never at.stored (ap (λ (o : Option ℕ). is_some o) gone)
          ]

      only : (other : Root) → (has_root (protected_in t) other && is_stored (next_land t root len None).stock other) ≡ false → is_some (book_at t.books other) ≡ false
          → (has_root [] other && not (has_root (protected_in t) other)) ≡ false → at_root root learned other ≡ None
      only other apart unknown kept =
          elim (cases_Bool (root_eq root other)) [
            | inr differs ↦ rw differs refl
            | inl same ↦
                let is_root = root_eq-true root other same in
                let blob : Stored = record { root = root; len = len } in
                let there : stored_len (t.stock ++ blob ∷ []) other ≡ Some len = last_len t.stock blob other (ap (is_stored t.stock) (sym is_root) ∙ missing) ∙ rw same refl in
                let stored : is_stored (next_land t root len None).stock other ≡ true = ap (λ (o : Option ℕ). is_some o) there in
                elim (and_cases (has_root (protected_in t) other) (is_stored (next_land t root len None).stock other) apart) [
                  | inl passed ↦ rw same (untold (ap (has_root (protected_in t)) is_root ∙ passed))
                  | inr none ↦ never stored none
                ]
          ]

-- ---- with what the store learned

pub begins_learned : (t u v : State) (number lane : ℕ) (path : NameAndVariant) (root : Root) (meta : Option (List ℕ)) → IsReady t → is_some meta ≡ has_to_read t root
    → Learns root (told_at (seen_of root meta) t.stock root) t u → v ≡ next_begin u number lane path (begun.Ticket root)
    → IsSettled (seen_of root meta) (next_begin t number lane path (begun.Ticket root)) v
begins_learned t u v number lane path root meta h read learns is =
    let same : u.books ≡ v.books = sym (ap (λ (s : State). s.books) is) in
    begins t number lane path root meta v h read
    (is ∙ ap (λ (s : State). next_begin s number lane path (begun.Ticket root)) learns.rest
    ∙ ap (with_books (next_begin t number lane path (begun.Ticket root))) same)
    (λ other. ap (λ (b : Books). book_at b other) (sym same) ∙ learns.books other)

own_len : (stock : List Stored) (root : Root) (len : ℕ) → is_stored stock root ≡ false → stored_len (stock ++ record { root = root; len = len } ∷ []) root ≡ Some len
own_len stock root len missing = last_len stock (record { root = root; len = len }) root missing ∙ rw (root_eq-refl root) refl

-- the package of the blob that is stored is protected
pub lands_learned : (t u v : State) (root : Root) (len : ℕ) (meta : Option (List ℕ)) → IsReady t → is_stored t.stock root ≡ false → has_root (protected_in t) root ≡ true → is_some meta ≡ nat_le len META_LIMIT
    → Learns root (first_known (looked_at (seen_of root meta) root) (Some (Long len))) t u → v ≡ next_land u root len None → IsSettled (seen_of root meta) (next_land t root len None) v
lands_learned t u v root len meta h missing among read learns is =
    let same : u.books ≡ v.books = sym (ap (λ (s : State). s.books) is) in
    lands t root len (seen_of root meta) (first_known (looked_at (seen_of root meta) root) (Some (Long len))) v h missing
    (λ holds. (some_at (looked_at (seen_of root meta) root), told meta read))
    (λ lacks. never among lacks)
    (is ∙ ap (λ (s : State). next_land s root len None) learns.rest ∙ ap (with_books (next_land t root len None)) same)
    (λ other. ap (λ (b : Books). book_at b other) (sym same) ∙ learns.books other) where
      some_at : (m : Option Meta) → is_some (first_known m (Some (Long len))) ≡ true
      some_at None = refl
      some_at (Some meta) = refl

      long_so : nat_le len META_LIMIT ≡ false → Some (Long len) ≡ long_of (stored_len (next_land t root len None).stock root)
      long_so long = sym (ap long_of (own_len t.stock root len missing) ∙ rw (lt-ltb META_LIMIT len (leb-false len META_LIMIT long)) refl)

      told : (meta : Option (List ℕ)) → is_some meta ≡ nat_le len META_LIMIT
          → first_known (looked_at (seen_of root meta) root) (Some (Long len)) ≡ told_at (seen_of root meta) (next_land t root len None).stock root
      told (Some bytes) read = rw (root_eq-refl root) refl
      told None read = long_so (sym read)

-- it isn't
pub lands_unlearned : (t v : State) (root : Root) (len : ℕ) (meta : Option (List ℕ)) → IsReady t → is_stored t.stock root ≡ false → has_root (protected_in t) root ≡ false
    → v ≡ next_land t root len None → IsSettled (seen_of root meta) (next_land t root len None) v
lands_unlearned t v root len meta h missing passed is =
    lands t root len (seen_of root meta) None v h missing (λ holds. never holds passed) (λ lacks. refl)
    (is ∙ ap (with_books (next_land t root len None)) (sym (ap (λ (s : State). s.books) is)))
    (λ other. ap (λ (s : State). book_at s.books other) is ∙ first_none (book_at t.books other) ∙ ap (first_known (book_at t.books other)) (sym (none_at other (root_eq root other)))) where
      none_at : (other : Root) (test : Bool) → cond test (let none : Option Meta = None in none) None ≡ None
      none_at other true = refl
      none_at other false = refl
