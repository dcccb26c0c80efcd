-- The lengths and the pages of a stock, as blobs come and go.
use Rattle.std.proofs.Common.{◌≡◌, inl, inr, ℕ, ◌+◌, ◌-◌, ◌^◌, ◌<◌, min, length, take, get_or, ◌||◌, Bool, true, false, cond, List, [], ◌∷◌, ◌++◌, filter, Option, Some, None, is_some, All, refl, sym, ap, subst, ◌∙◌, arith, length-append}
use Rattle.std.specs.Ordering.{is_eq}
use Rattle.std.specs.Map.{lookup}
use Rattle.std.specs.BTreeMap.{BTreeMap, get, is_at}
use Rattle.std.proofs.lemmas.Bool.{cases_Bool}
use Rattle.std.proofs.lemmas.List.{take_more, take_at}
use Rattle.std.proofs.lemmas.List.Elements.{All-nil, All-cons, All-head, All-tail, All-weaker}
use Rattle.std.proofs.lemmas.Map.Text.{is_eq-slice_cmp}
use Rattle.pkg_names.specs.declared.root.Root.{Root}
use Rattle.pkg_names.specs.Root.{root_eq}
use Rattle.pkg_names.proofs.Roots.{root_eq-true, root_eq-refl}
use Rattle.fetch_queue.specs.declared.queue.ClaimEntry.{ClaimEntry}
use Rattle.store_model.specs.State.{Stored, stored_len, is_stored, without_blobs, has_root}
use Rattle.store_model.specs.Packages.{pages_of, stock_pages, room_pages, claim_pages}
use Rattle.store_model.proofs.LanesLasting.{left_len}
use Rattle.plain_stock.specs.Stocks.{root_cmp, first_len, IsStock}

pub is_eq-root_cmp : (a b : Root) → is_eq (root_cmp a b) ≡ root_eq a b
is_eq-root_cmp a b = is_eq-slice_cmp a.0 b.0

first_known : (a b : Option ℕ) → is_some a ≡ true → a ≡ first_len a b
first_known (Some len) b h = refl
first_known None b h = absurd cc

first_alone : (a : Option ℕ) → a ≡ first_len a None
first_alone (Some len) = refl
first_alone None = refl

pub none_found : (found : Option ℕ) → is_some found ≡ false → found ≡ None
none_found None h = refl
none_found (Some len) h = absurd cc

-- ---- totals over a list

total_last : {A : Type 0} (f : List A → ℕ) (g : A → ℕ) → f [] ≡ 0 → ((x : A) (xs : List A) → f (x ∷ xs) ≡ g x + f xs) → (xs : List A) (x : A)
    → f (xs ++ x ∷ []) ≡ f xs + g x
total_last f g none more [] x = omega (arith, none, more x [])
total_last f g none more (y ∷ xs) x = omega (arith, more y (xs ++ x ∷ []), more y xs, total_last f g none more xs x)

total_more : {A : Type 0} (f : List A → ℕ) (g : A → ℕ) → f [] ≡ 0 → ((x : A) (xs : List A) → f (x ∷ xs) ≡ g x + f xs) → (xs : List A) (i : ℕ) (d : A)
    → i < length xs → f (take (i + 1) xs) ≡ f (take i xs) + g (get_or xs i d)
total_more f g none more xs i d lt = ap f (take_more xs i d lt) ∙ total_last f g none more (take i xs) (get_or xs i d)

-- ---- a length is noted

abbrev pub Notes : Root → ℕ → BTreeMap Root ℕ → BTreeMap Root ℕ → Type 0
Notes root len old new =
    (other : Root) → get root_cmp new other ≡ first_len (get root_cmp old other) (cond (root_eq root other) (Some len) None)

pub noted_before : (lens : BTreeMap Root ℕ) (root : Root) (len : ℕ) → is_some (get root_cmp lens root) ≡ true → Notes root len lens lens
noted_before lens root len known other = elim (cases_Bool (root_eq root other)) [
  | inl same ↦
      rw same (first_known (get root_cmp lens other) (Some len) (subst (λ (r : Root). is_some (get root_cmp lens r) ≡ true) (root_eq-true root other same) known))
  | inr differs ↦ rw differs (first_alone (get root_cmp lens other))
]

pub noted_now : (old new : BTreeMap Root ℕ) (root : Root) (len : ℕ) → get root_cmp old root ≡ None
    → ((other : Root) → get root_cmp new other ≡ cond (is_at (root_cmp root) other) (Some len) (get root_cmp old other)) → Notes root len old new
noted_now old new root len unknown updated other =
    updated other ∙ elim (cases_Bool (root_eq root other)) [
      | inl same ↦
          let none : get root_cmp old other ≡ None = subst (λ (r : Root). get root_cmp old r ≡ None) (root_eq-true root other same) unknown in
          rw (is_eq-root_cmp root other ∙ same, same) (ap (λ (found : Option ℕ). first_len found (Some len)) (sym none))
      | inr differs ↦ rw (is_eq-root_cmp root other ∙ differs, differs) (first_alone (get root_cmp old other))
    ]

-- ---- a blob comes

stored_last : (blobs : List Stored) (blob : Stored) (root : Root)
    → stored_len (blobs ++ blob ∷ []) root ≡ first_len (stored_len blobs root) (cond (root_eq blob.root root) (Some blob.len) None)
stored_last [] blob root = refl
stored_last (b ∷ blobs) blob root = elim (cases_Bool (root_eq b.root root)) [
  | inl same ↦ rw same refl
  | inr differs ↦ rw differs (stored_last blobs blob root)
]

pages_last : (blobs : List Stored) (blob : Stored) → stock_pages (blobs ++ blob ∷ []) ≡ stock_pages blobs + pages_of blob.len
pages_last blobs blob = total_last stock_pages (λ (b : Stored). pages_of b.len) refl (λ b bs. refl) blobs blob

pub stock_pages_more : (blobs : List Stored) (i : ℕ) (d : Stored) → i < length blobs → stock_pages (take (i + 1) blobs) ≡ stock_pages (take i blobs) + pages_of (get_or blobs i d).len
stock_pages_more blobs i d lt = total_more stock_pages (λ (b : Stored). pages_of b.len) refl (λ b bs. refl) blobs i d lt

pub claim_pages_more : (claims : List ClaimEntry) (i : ℕ) (d : ClaimEntry) → i < length claims → claim_pages (take (i + 1) claims) ≡ claim_pages (take i claims) + room_pages (get_or claims i d).len
claim_pages_more claims i d lt = total_more claim_pages (λ (c : ClaimEntry). room_pages c.len) refl (λ c cs. refl) claims i d lt

pub stock_with : (blobs : List Stored) (lens new : BTreeMap Root ℕ) (pages : ℕ) (blob : Stored) → IsStock blobs lens pages → Notes blob.root blob.len lens new
    → IsStock (blobs ++ blob ∷ []) new (min (pages + pages_of blob.len) (2 ^ 64 - 1))
stock_with blobs lens new pages blob is notes = record {
  known = λ root.
      notes root
      ∙ ap (λ (found : Option ℕ). first_len found (cond (root_eq blob.root root) (Some blob.len) None)) (is.known root)
      ∙ sym (stored_last blobs blob root);
  count = omega (arith, is.count, pages_last blobs blob);
}

-- a blob that was put goes again
pub popped_last : (blobs pushed : List Stored) (blob : Stored) → pushed ≡ blobs ++ blob ∷ [] → take (length pushed - 1) pushed ≡ blobs
popped_last blobs pushed blob is = ap (λ (bs : List Stored). take (length bs - 1) bs) is ∙ front blobs where
  front : (bs : List Stored) → take (length (bs ++ blob ∷ []) - 1) (bs ++ blob ∷ []) ≡ bs
  front bs = take_at bs (blob ∷ []) (length (bs ++ blob ∷ []) - 1) (omega (arith, length-append bs (blob ∷ [])))

pub same_stock : (blobs others : List Stored) (lens new : BTreeMap Root ℕ) (pages : ℕ) → IsStock blobs lens pages → others ≡ blobs → new.entries ≡ lens.entries → IsStock others new pages
same_stock blobs others lens new pages is same entries = record {
  known = λ root.
      ap (λ (es : List (Root × ℕ)). lookup (is_at (root_cmp root)) es) entries ∙ is.known root ∙ ap (λ (bs : List Stored). stored_len bs root) (sym same);
  count = is.count ∙ ap (λ (bs : List Stored). min (stock_pages bs) (2 ^ 64 - 1)) (sym same);
}

-- ---- blobs go

abbrev pub Forgets : List Root → BTreeMap Root ℕ → BTreeMap Root ℕ → Type 0
Forgets roots old new = (root : Root) → get root_cmp new root ≡ cond (has_root roots root) None (get root_cmp old root)

still_stored : (blob : Stored) (blobs : List Stored) (other : Stored) → is_stored blobs other.root ≡ true → is_stored (blob ∷ blobs) other.root ≡ true
still_stored blob blobs other h = elim (cases_Bool (root_eq blob.root other.root)) [ inl same ↦ rw same refl | inr differs ↦ rw differs h ]

all_stored : (blobs : List Stored) → All (λ (blob : Stored). is_stored blobs blob.root ≡ true) blobs
all_stored [] = All-nil (λ (blob : Stored). is_stored [] blob.root ≡ true)
all_stored (blob ∷ blobs) =
    All-cons (λ (b : Stored). is_stored (blob ∷ blobs) b.root ≡ true) blob blobs
    (rw (root_eq-refl blob.root) refl)
    (All-weaker (λ (b : Stored). is_stored blobs b.root ≡ true) (λ (b : Stored). is_stored (blob ∷ blobs) b.root ≡ true) (still_stored blob blobs) blobs (all_stored blobs))

pub both_gone : (a b : Bool) (found : Option ℕ) → cond a None (cond b None found) ≡ cond (b || a) None found
both_gone true true found = refl
both_gone true false found = refl
both_gone false true found = refl
both_gone false false found = refl

kept_among : (stock : List Stored) (new : BTreeMap Root ℕ) (roots : List Root)
    → ((root : Root) → get root_cmp new root ≡ cond (has_root roots root) None (stored_len stock root))
    → (blobs : List Stored) → All (λ (blob : Stored). is_stored stock blob.root ≡ true) blobs
    → filter (λ (blob : Stored). is_some (get root_cmp new blob.root)) blobs ≡ without_blobs blobs roots
kept_among stock new roots left [] stored = refl
kept_among stock new roots left (blob ∷ blobs) stored =
    let rest = kept_among stock new roots left blobs (All-tail (λ (b : Stored). is_stored stock b.root ≡ true) blob blobs stored) in
    let here : is_stored stock blob.root ≡ true = All-head (λ (b : Stored). is_stored stock b.root ≡ true) blob blobs stored in
    let kept = filter (λ (b : Stored). is_some (get root_cmp new b.root)) blobs in
    ap (λ (test : Bool). cond test (blob ∷ kept) kept) (ap (λ (found : Option ℕ). is_some found) (left blob.root)) ∙
    elim (cases_Bool (has_root roots blob.root)) [
      | inl goes ↦ rw goes rest
      | inr stays ↦ rw (stays, here) (ap (λ (bs : List Stored). blob ∷ bs) rest)
    ]

pub kept_without : (blobs : List Stored) (lens new : BTreeMap Root ℕ) (pages : ℕ) (roots : List Root) → IsStock blobs lens pages → Forgets roots lens new
    → filter (λ (blob : Stored). is_some (get root_cmp new blob.root)) blobs ≡ without_blobs blobs roots
kept_without blobs lens new pages roots is forgets =
    kept_among blobs new roots (λ root. forgets root ∙ ap (λ (found : Option ℕ). cond (has_root roots root) None found) (is.known root)) blobs (all_stored blobs)

pub stock_without : (blobs : List Stored) (lens new : BTreeMap Root ℕ) (pages count : ℕ) (roots : List Root) → IsStock blobs lens pages → Forgets roots lens new
    → count ≡ min (stock_pages (without_blobs blobs roots)) (2 ^ 64 - 1) → IsStock (without_blobs blobs roots) new count
stock_without blobs lens new pages count roots is forgets counted = record {
  known = λ root.
      forgets root ∙ ap (λ (found : Option ℕ). cond (has_root roots root) None found) (is.known root) ∙ sym (left_len blobs roots root);
  count = counted;
}
