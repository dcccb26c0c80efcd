-- Files that are taken one after another.
use Rattle.std.proofs.Common.{◌≡◌, ◌≢◌, ℕ, suc, ◌+◌, ◌≤◌, Bool, true, false, not, cond, List, [], ◌∷◌, ◌++◌, length, Option, Some, None, refl, sym, ap, subst, ◌∙◌, arith, append_assoc}
use Rattle.std.specs.Prelude.{nat_lt}
use Rattle.std.specs.List.{All, AllPairs}
use Rattle.std.specs.Str.{bytes_eq}
use Rattle.std.specs.Ordering.{nat_cmp, is_lt}
use Rattle.std.specs.Cmp.Lexicographic.{slice_cmp}
use Rattle.std.specs.declared.cmp.Ordering.{Ordering}
use Rattle.std.specs.declared.cmp.Ordering.TheVariants.{Less, Equal, Greater}
use Rattle.std.proofs.lemmas.Bool.{false≢true, ltb-false}
use Rattle.std.proofs.lemmas.Cmp.{nat_list_cmp_total}
use Rattle.std.proofs.lemmas.List.{append-nil}
use Rattle.std.proofs.lemmas.List.Elements.{All-nil, All-cons, All-head, All-push}
use Rattle.std.proofs.lemmas.List.Quantifiers.{all_pairs_push}
use Rattle.std.proofs.lemmas.Slice.Eq.{bytes_eq-Decides}
use Rattle.far_archive.specs.declared.write.FarEntry.{FarEntry}
use Rattle.package_book.specs.Book.{contents_name}
use Rattle.pkg_merkle.specs.declared.hasher.TheConstants.{BYTES_LIMIT}
use Rattle.repo_publish.specs.declared.publishing.PublishEnd.{PublishEnd}
use Rattle.repo_publish.specs.declared.publishing.PublishEnd.TheVariants.{Order, Reserved, TooLarge, TooMany}
use Rattle.repo_publish.specs.Refusals.{last_name, is_behind, has_room, file_refusal, or_else, refusal_behind}
use Rattle.repo_publish.specs.Steps.{AreFine, IsRefusal}

-- the refusals of files behind those that have none
pub refusal_then : (before done : List FarEntry) (file : FarEntry) (rest : List FarEntry) → refusal_behind before done ≡ None
    → refusal_behind before (done ++ file ∷ rest) ≡ or_else (file_refusal (before ++ done) file) (refusal_behind ((before ++ done) ++ file ∷ []) rest)
refusal_then before [] file rest none =
    ap (λ (b : List FarEntry). or_else (file_refusal b file) (refusal_behind (b ++ file ∷ []) rest)) (sym (append-nil before))
refusal_then before (x ∷ done) file rest none =
    let parts : (o : Option PublishEnd) → or_else o (refusal_behind (before ++ x ∷ []) done) ≡ None → o ≡ None =
    λ o. elim o as (λ p. or_else p (refusal_behind (before ++ x ∷ []) done) ≡ None → p ≡ None) [ None ↦ λ _. refl | Some end ↦ λ e. absurd (cc e) ] in
    let first : file_refusal before x ≡ None = parts (file_refusal before x) none in
    let others : refusal_behind (before ++ x ∷ []) done ≡ None = ap (λ (o : Option PublishEnd). or_else o (refusal_behind (before ++ x ∷ []) done)) (sym first) ∙ none in
    ap (λ (o : Option PublishEnd). or_else o (refusal_behind (before ++ x ∷ []) (done ++ file ∷ rest))) first
    ∙ refusal_then (before ++ x ∷ []) done file rest others
    ∙ ap (λ (b : List FarEntry). or_else (file_refusal b file) (refusal_behind (b ++ file ∷ []) rest)) (append_assoc before (x ∷ []) done)

pub last_pushed : (done : List FarEntry) (file : FarEntry) → last_name (done ++ file ∷ []) ≡ Some file.name
last_pushed [] file = refl
last_pushed (x ∷ []) file = refl
last_pushed (x ∷ y ∷ done) file = last_pushed (y ∷ done) file

pub is_less : (o : Ordering) → is_lt o ≡ true → o ≡ Less
is_less Less e = refl
is_less Equal e = absurd (false≢true e)
is_less Greater e = absurd (false≢true e)

-- all names are less than one that comes behind the last
pub all_less : (done : List FarEntry) (name : List ℕ) → AllPairs (λ (a b : FarEntry). slice_cmp nat_cmp a.name b.name ≡ Less) done
    → is_behind (last_name done) name ≡ true → All (λ (file : FarEntry). slice_cmp nat_cmp file.name name ≡ Less) done
all_less [] name ascend behind = All-nil (λ (file : FarEntry). slice_cmp nat_cmp file.name name ≡ Less)
all_less (x ∷ []) name ascend behind =
    All-cons (λ (file : FarEntry). slice_cmp nat_cmp file.name name ≡ Less) x [] (is_less (slice_cmp nat_cmp x.name name) behind) (All-nil (λ (file : FarEntry). slice_cmp nat_cmp file.name name ≡ Less))
all_less (x ∷ y ∷ done) name ascend behind =
    let P = λ (file : FarEntry). slice_cmp nat_cmp file.name name ≡ Less in
    let others : All P (y ∷ done) = all_less (y ∷ done) name (λ i j d before lt. ascend (suc i) (suc j) d (omega (arith, before)) (omega (arith, lt))) behind in
    let here : slice_cmp nat_cmp x.name y.name ≡ Less = ascend 0 1 x (omega arith) (omega arith) in
    All-cons P x (y ∷ done) (nat_list_cmp_total.trans x.name y.name name here (All-head P y done others)) others

-- what holds of a file that isn't refused
pub record IsUnrefused (before : List FarEntry) (file : FarEntry) : Type 0 where
  pub behind : is_behind (last_name before) file.name ≡ true
  pub not_reserved : bytes_eq file.name contents_name ≡ false
  pub small : length file.bytes ≤ BYTES_LIMIT
  pub room : has_room before file ≡ true

chosen : (a b c d : Bool) (one two three four : PublishEnd) → cond (not a) (Some one) (cond b (Some two) (cond c (Some three) (cond d None (Some four)))) ≡ None → (a ≡ true) × (b ≡ false) × (c ≡ false) × (d ≡ true)
chosen true false false true one two three four e = (refl, refl, refl, refl)
chosen true false false false one two three four e = absurd (cc e)
chosen true false true d one two three four e = absurd (cc e)
chosen true true c d one two three four e = absurd (cc e)
chosen false b c d one two three four e = absurd (cc e)

pub unrefused : (before : List FarEntry) (file : FarEntry) → file_refusal before file ≡ None → IsUnrefused before file
unrefused before file none =
    let n = length before + 1 in
    let is = chosen (is_behind (last_name before) file.name) (bytes_eq file.name contents_name) (nat_lt BYTES_LIMIT (length file.bytes)) (has_room before file)
    (Order n) (Reserved n) (TooLarge n (length file.bytes)) TooMany none in
    record { behind = is.0; not_reserved = is.1; small = ltb-false BYTES_LIMIT (length file.bytes) is.2; room = is.3 }

-- what refuses a file is a refusal
named : (a b c d : Bool) (n len : ℕ) (end : PublishEnd) → cond (not a) (Some (Order n)) (cond b (Some (Reserved n)) (cond c (Some (TooLarge n len)) (cond d None (Some TooMany)))) ≡ Some end → IsRefusal end
named false b c d n len end e = subst IsRefusal {x = Order n} {y = end} (cc e) tt
named true true c d n len end e = subst IsRefusal {x = Reserved n} {y = end} (cc e) tt
named true false true d n len end e = subst IsRefusal {x = TooLarge n len} {y = end} (cc e) tt
named true false false false n len end e = subst IsRefusal {x = TooMany} {y = end} (cc e) tt
named true false false true n len end e = absurd (cc e)

pub is_refusal : (before : List FarEntry) (file : FarEntry) (end : PublishEnd) → file_refusal before file ≡ Some end → IsRefusal end
is_refusal before file end refused =
    named (is_behind (last_name before) file.name) (bytes_eq file.name contents_name) (nat_lt BYTES_LIMIT (length file.bytes)) (has_room before file) (length before + 1) (length file.bytes) end refused

differ : (a b : List ℕ) → bytes_eq a b ≡ false → a ≢ b
differ a b apart e = false≢true (sym apart ∙ (bytes_eq-Decides a b).1 e)

-- one file more
pub fine_more : (done : List FarEntry) (file : FarEntry) → AreFine done → file_refusal done file ≡ None → AreFine (done ++ file ∷ [])
fine_more done file fine none =
    let is = unrefused done file none in
    record {
      refused = refusal_then [] done file [] fine.refused ∙ ap (λ (o : Option PublishEnd). or_else o None) none;
      ascend = all_pairs_push (λ (a b : FarEntry). slice_cmp nat_cmp a.name b.name ≡ Less) done file fine.ascend (all_less done file.name fine.ascend is.behind);
      not_reserved = All-push (λ (f : FarEntry). f.name ≢ contents_name) done file fine.not_reserved (differ file.name contents_name is.not_reserved);
      small = All-push (λ (f : FarEntry). length f.bytes ≤ BYTES_LIMIT) done file fine.small is.small;
    }
