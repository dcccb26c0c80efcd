-- What the store has of a system once it has learned what it looked at is what the model has of it.
use Rattle.std.proofs.Common.{◌≡◌, ℕ, Bool, true, false, cond, not, ◌||◌, List, [], ◌∷◌, Option, Some, None, is_some, refl, sym, ap, subst, ◌∙◌}
use Rattle.std.proofs.Math.Path.{fun_ext}
use Rattle.std.specs.Prelude.{nat_lt, option_and_then}
use Rattle.pkg_names.specs.declared.root.Root.{Root}
use Rattle.pkg_names.specs.Root.{root_eq}
use Rattle.package_book.specs.declared.book.TheConstants.{META_LIMIT}
use Rattle.package_book.specs.Books.{Meta, Books, book_at}
use Rattle.package_book.specs.Books.Meta.{Long}
use Rattle.package_book.specs.Book.{MetaAndFiles, each_once}
use Rattle.package_book.specs.Names.{names, listed_roots, roots_known}
use Rattle.store_model.specs.declared.events.LookedAt.{LookedAt}
use Rattle.store_model.specs.State.{State, Stored, stored_len, has_root}
use Rattle.store_model.specs.Packages.{book_of, the_book, known_book}
use Rattle.store_model.specs.Settling.{looked_books}
use Rattle.store_model.specs.Systems.{seen_bytes, at_hand}
use Rattle.store_model.proofs.SameBooks.{with_books}
use Rattle.plain_state.specs.Learning.{first_known, looked_at}
use Rattle.plain_state.specs.Looking.{LearnsAll}
use Rattle.plain_state.specs.Judged.{hand_of, outer_in}
use Rattle.plain_state.proofs.Settled.{long_at, looked_books_at}

-- a length is no book, and names nothing
long_is_none : (stock : List Stored) (root : Root) → option_and_then (λ meta. the_book (book_of meta)) (long_at stock root) ≡ None
long_is_none [] root = refl
long_is_none (blob ∷ stock) root = first (root_eq blob.root root) (nat_lt META_LIMIT blob.len) (long_is_none stock root) where
  first : (here long : Bool) → option_and_then (λ meta. the_book (book_of meta)) (long_at stock root) ≡ None
      → option_and_then (λ meta. the_book (book_of meta)) (cond here (cond long (Some (Long blob.len)) (long_at stock root)) (long_at stock root)) ≡ None
  first true true rest = refl
  first true false rest = rest
  first false long rest = rest

long_names_none : (stock : List Stored) (root : Root) → roots_known (long_at stock root) ≡ []
unfolding listed_roots
long_names_none [] root = refl
long_names_none (blob ∷ stock) root = first (root_eq blob.root root) (nat_lt META_LIMIT blob.len) (long_names_none stock root) where
  first : (here long : Bool) → roots_known (long_at stock root) ≡ []
      → roots_known (cond here (cond long (Some (Long blob.len)) (long_at stock root)) (long_at stock root)) ≡ []
  first true true rest = refl
  first true false rest = rest
  first false long rest = rest

book_without : (m : Option Meta) (stock : List Stored) (root : Root)
    → option_and_then (λ meta. the_book (book_of meta)) m ≡ option_and_then (λ meta. the_book (book_of meta)) (first_known m (long_at stock root))
book_without (Some meta) stock root = refl
book_without None stock root = sym (long_is_none stock root)

names_without : (m : Option Meta) (stock : List Stored) (root : Root) → roots_known m ≡ roots_known (first_known m (long_at stock root))
names_without (Some meta) stock root = refl
names_without None stock root = sym (long_names_none stock root)

names_by : (root : Root) (books others : Books) → roots_known (book_at books root) ≡ roots_known (book_at others root) → names root books ≡ names root others
unfolding names
names_by root books others same = ap (λ (roots : List Root). each_once (root ∷ roots)) same

thrice : (a b c : Option Meta) → first_known (first_known a b) c ≡ first_known a (first_known b c)
thrice None b c = refl
thrice (Some meta) b c = refl

outer_so : (t : State) (seen : List LookedAt) (is_kept : Root → Bool) (root : Root) (path : List ℕ) (found : Option MetaAndFiles) → known_book (looked_books seen t) root ≡ found
    → outer_in (known_book (looked_books seen t) root) path ≡ (at_hand t seen is_kept).outer root path
outer_so t seen is_kept root path None e = rw e refl
outer_so t seen is_kept root path (Some found) e = rw e refl

hand_with : (t : State) (books : Books) (seen : List LookedAt) (retained : Bool) (is_kept : Root → Bool)
    → ((root : Root) → book_at books root ≡ first_known (book_at t.books root) (looked_at seen root))
    → ((root : Root) → (not retained || has_root t.retained root) ≡ is_kept root) → hand_of (with_books t books) seen retained ≡ at_hand t seen is_kept
hand_with t books seen retained is_kept learned kept =
    let more : (root : Root) → first_known (book_at books root) (long_at t.stock root) ≡ book_at (looked_books seen t) root =
    λ root. ap (λ (m : Option Meta). first_known m (long_at t.stock root)) (learned root)
    ∙ thrice (book_at t.books root) (looked_at seen root) (long_at t.stock root)
    ∙ sym (looked_books_at seen t root) in
    let book : (root : Root) → known_book books root ≡ known_book (looked_books seen t) root =
    λ root. book_without (book_at books root) t.stock root ∙ ap (option_and_then (λ meta. the_book (book_of meta))) (more root) in
    let named : (root : Root) → names root books ≡ names root (looked_books seen t) =
    λ root. names_by root books (looked_books seen t) (names_without (book_at books root) t.stock root ∙ ap roots_known (more root)) in
    let are_kept : (hand_of (with_books t books) seen retained).is_kept ≡ is_kept = fun_ext kept in
    let are_books : (hand_of (with_books t books) seen retained).is_book ≡ (at_hand t seen is_kept).is_book =
    fun_ext (λ root. ap (λ (o : Option MetaAndFiles). is_some o) (book root)) in
    let are_names : (hand_of (with_books t books) seen retained).names ≡ (at_hand t seen is_kept).names = fun_ext named in
    let are_outer : (hand_of (with_books t books) seen retained).outer ≡ (at_hand t seen is_kept).outer =
    fun_ext (λ root. fun_ext (λ path. ap (λ (o : Option MetaAndFiles). outer_in o path) (book root) ∙ outer_so t seen is_kept root path (known_book (looked_books seen t) root) refl)) in
    λ i. record {
      len = stored_len t.stock;
      is_kept = are_kept i;
      is_book = are_books i;
      names = are_names i;
      outer = are_outer i;
      bytes = seen_bytes seen;
    }

pub hand_so : (t u : State) (seen : List LookedAt) (retained : Bool) (is_kept : Root → Bool) → LearnsAll seen t u
    → ((root : Root) → (not retained || has_root t.retained root) ≡ is_kept root) → hand_of u seen retained ≡ at_hand t seen is_kept
hand_so t u seen retained is_kept learned kept =
    subst (λ (v : State). hand_of v seen retained ≡ at_hand t seen is_kept) (sym learned.rest) (hand_with t u.books seen retained is_kept learned.books kept)
