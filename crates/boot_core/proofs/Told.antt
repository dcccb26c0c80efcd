-- What was looked at is known by the bytes of all blobs, where these are told.
use Rattle.std.proofs.Common.{◌≡◌, ◌⊎◌, inl, inr, ℕ, ◌<◌, ◌≤◌, false, List, [], ◌∷◌, length, Option, Some, None, IfSome, refl, sym, ap, ◌∙◌, subst, arith}
use Rattle.std.specs.Prelude.{Result, Ok, Err, IfOk}
use Rattle.std.specs.Option.{option_map}
use Rattle.std.proofs.lemmas.Bool.{cases_Bool}
use Rattle.pkg_names.specs.declared.root.Root.{Root}
use Rattle.pkg_names.specs.Root.{root_eq}
use Rattle.package_book.specs.declared.book.TheConstants.{META_LIMIT}
use Rattle.package_book.specs.Books.{Meta, book_at}
use Rattle.package_book.specs.Books.Meta.{Read, Long}
use Rattle.system_lists.specs.Judging.{Verdict, judged}
use Rattle.system_lists.specs.Judging.Verdict.{Whole}
use Rattle.boot_core.specs.declared.looking.SeenBlob.{SeenBlob}
use Rattle.boot_core.specs.declared.seen.Seen.{Seen}
use Rattle.boot_core.specs.declared.wholeness.BaseOf.{BaseOf}
use Rattle.boot_core.specs.declared.wholeness.WholeFault.{WholeFault}
use Rattle.boot_core.specs.Look.{Stocked, bytes_in, stock_of}
use Rattle.boot_core.specs.Seen.{meta_of, books_in, hand, IsEntry, IsToldEntry, AreEntries, AreSeen}
use Rattle.boot_core.specs.Whole.{is_open, said, plainly, verdict_on, IsBySeen}
use Rattle.boot_core.proofs.Alike.{judged_told}

book_in : (all : List SeenBlob) (root : Root) → book_at (books_in all) root ≡ option_map meta_of (bytes_in all root)
book_in [] root = refl
book_in (blob ∷ all) root = elim (cases_Bool (root_eq blob.root root)) [
  | inl here ↦ rw here refl
  | inr other ↦ rw other (book_in all root)
]

short_meta : (bytes : List ℕ) → length bytes ≤ META_LIMIT → meta_of bytes ≡ Read bytes
short_meta bytes short = grind (arith, short)

long_meta : (bytes : List ℕ) → META_LIMIT < length bytes → meta_of bytes ≡ Long (length bytes)
long_meta bytes long = grind (arith, long)

module _ (stock : List Stocked) (all : List SeenBlob) (root : Root) where
  told_book : (meta : Option Meta) (bytes : Option (List ℕ)) → IsEntry stock root meta bytes → IsToldEntry all root meta bytes → (meta ≡ None) ⊎ (meta ≡ book_at (books_in all) root)
  told_book None bytes entry told = inl refl
  told_book (Some (Read text)) None entry told = absurd entry
  told_book (Some (Read text)) (Some bytes) entry told =
      let short : length text ≤ META_LIMIT = subst (λ (l : List ℕ). length l ≤ META_LIMIT) (sym entry.0) entry.1 in
      inr (sym (book_in all root ∙ ap (option_map meta_of) told ∙ ap Some (short_meta text short)))
  told_book (Some (Long len)) (Some bytes) entry told = absurd entry
  told_book (Some (Long len)) None entry told =
      let long : META_LIMIT < length told.0 = subst (λ (n : ℕ). META_LIMIT < n) (sym told.2) entry.0 in
      inr (sym (book_in all root ∙ ap (option_map meta_of) told.1 ∙ ap Some (long_meta told.0 long ∙ ap Long told.2)))

  told_bytes : (meta : Option Meta) (bytes : Option (List ℕ)) → IsEntry stock root meta bytes → IsToldEntry all root meta bytes → (bytes ≡ None) ⊎ (bytes ≡ bytes_in all root)
  told_bytes meta None entry told = inl refl
  told_bytes None (Some bytes) entry told = absurd entry
  told_bytes (Some (Read text)) (Some bytes) entry told = inr (sym (told ∙ ap Some entry.0))
  told_bytes (Some (Long len)) (Some bytes) entry told = absurd entry

-- A judgement by what was looked at is the one by all blobs, where it doesn't rest on another one.
pub seen_verdict : (stock : List Stocked) (told : Option (List SeenBlob)) (seen : Seen) (system : Root) → IfSome told (λ all. stock ≡ stock_of all) → AreSeen stock told seen → is_open stock seen.books system (judged (hand stock seen.books seen.blobs.items) system) ≡ false → IfSome told (λ all. plainly (judged (hand stock seen.books seen.blobs.items) system) ≡ verdict_on all stock system)
seen_verdict stock None seen system agree is closed = tt
seen_verdict stock (Some all) seen system agree is closed =
    ap plainly (judged_told stock seen.books (books_in all) seen.blobs.items all system
    (λ root. told_book stock all root (book_at seen.books root) (bytes_in seen.blobs.items root) (is.entries root) (is.as_told root))
    (λ root. told_bytes stock all root (book_at seen.books root) (bytes_in seen.blobs.items root) (is.entries root) (is.as_told root))
    agree closed)

-- ---- answers

module _ (stock : List Stocked) (seen : Seen) (system : Root) (verdict : Verdict) (result : Result BaseOf WholeFault)
    (is : verdict ≡ judged (hand stock seen.books seen.blobs.items) system) (says : said result ≡ Some (plainly verdict)) where
  by_seen : AreEntries stock seen.books seen.blobs.items → IsBySeen stock seen.blobs.items system (plainly verdict)
  by_seen entries = record { books = seen.books; entries = entries; is = ap plainly is }

  pub answer_judged : AreEntries stock seen.books seen.blobs.items → IfSome (said result) (λ v. (blobs : List SeenBlob) × IsBySeen stock blobs system v)
  answer_judged entries = subst (λ (s : Option Verdict). IfSome s (λ v. (blobs : List SeenBlob) × IsBySeen stock blobs system v)) (sym says) (seen.blobs.items, by_seen entries)

  pub answer_told : (told : Option (List SeenBlob)) → IfSome told (λ all. plainly (judged (hand stock seen.books seen.blobs.items) system) ≡ verdict_on all stock system) → IfSome told (λ all. IfSome (said result) (λ v. v ≡ verdict_on all stock system))
  answer_told None h = tt
  answer_told (Some all) h = subst (λ (s : Option Verdict). IfSome s (λ v. v ≡ verdict_on all stock system)) (sym says) (ap plainly is ∙ h)

pub answer_seen : (stock : List Stocked) (seen : Seen) (system : Root) (verdict : Verdict) (result : Result BaseOf WholeFault) → verdict ≡ judged (hand stock seen.books seen.blobs.items) system → said result ≡ Some (plainly verdict) → AreEntries stock seen.books seen.blobs.items → IfOk result (λ found. found.seen ≡ seen.blobs.items) → IfOk result (λ found. IsBySeen stock found.seen system (Whole found.base found.cached))
answer_seen stock seen system verdict (Err why) is says entries same = tt
answer_seen stock seen system verdict (Ok found) is says entries same =
    let e : Whole found.base found.cached ≡ plainly verdict = cc in
    subst (λ (l : List SeenBlob). IsBySeen stock l system (Whole found.base found.cached)) (sym same)
    (record { books = seen.books; entries = entries; is = e ∙ ap plainly is })
