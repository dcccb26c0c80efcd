-- A page that is spelled as the header of a system names it.
use Rattle.std.proofs.Common.{◌≡◌, ℕ, ◌+◌, ◌-◌, List, [], ◌++◌, length, take, drop, codes, sym, refl, ◌∙◌, ap, arith, length-append, length-drop, take-take, take_at, drop_at}
use Rattle.std.specs.Int.{w64, to_le_bytes, from_le_bytes}
use Rattle.std.proofs.lemmas.List.{drop-take, drop-drop, drop_all, append-nil}
use borrow.Rule.Slice.PartMut.{put_mid}
use Rattle.std.proofs.lemmas.Nat.{from_le_bytes-to_le_bytes_8}
use Rattle.sha2.specs.Sha256.{sha256}
use Rattle.sha2.proofs.Facts256.{length-sha256}
use Rattle.image_layout.specs.declared.ImageSum.{ImageSum}
use Rattle.image_layout.specs.declared.Sys.{Sys}
use Rattle.slot_disk.specs.Header.{sum_at, IsHeader, IsSum, IsSys, sum_text, header_text}

-- what is known of a front is known of its parts
parts : (page xs ys : List ℕ) (n k : ℕ) → take (n + k) page ≡ xs ++ ys → length xs ≡ n → (take n page ≡ xs) × (take k (drop n page) ≡ ys)
parts page xs ys n k e size =
    (sym (take-take n (n + k) page (omega arith)) ∙ ap (take n) e ∙ take_at xs ys n size, sym (drop-take n k page) ∙ ap (drop n) e ∙ drop_at xs ys n size)

pub length-sum_text : (sum : ImageSum) → IsSum sum → length (sum_text sum) ≡ 40
unfolding sum_text
length-sum_text sum is = length-append (to_le_bytes w64 sum.len) sum.sha ∙ ap (λ (n : ℕ). 8 + n) is.sha

same_sum : (sum : ImageSum) (len : ℕ) (sha : List ℕ) → len ≡ sum.len → sha ≡ sum.sha → sum ≡ record { len = len; sha = sha }
same_sum sum len sha e f =
    ap (λ (n : ℕ). let s : ImageSum = record { len = n; sha = sum.sha } in s) (sym e) ∙ ap (λ (l : List ℕ). let s : ImageSum = record { len = len; sha = l } in s) (sym f)

-- the sum at a place where it is spelled
sum_read : (page : List ℕ) (at : ℕ) (sum : ImageSum) → IsSum sum → take 40 (drop at page) ≡ sum_text sum → sum ≡ record { len = from_le_bytes w64 (take 8 (drop at page)); sha = take 32 (drop (at + 8) page) }
unfolding sum_text
sum_read page at sum is e =
    let both = parts (drop at page) (to_le_bytes w64 sum.len) sum.sha 8 32 e refl in
    let len : from_le_bytes w64 (take 8 (drop at page)) ≡ sum.len = ap (from_le_bytes w64) both.0 ∙ from_le_bytes-to_le_bytes_8 sum.len is.len in
    let sha : take 32 (drop (at + 8) page) ≡ sum.sha = ap (take 32) (sym (drop-drop 8 at page)) ∙ both.1 in
    same_sum sum (from_le_bytes w64 (take 8 (drop at page))) (take 32 (drop (at + 8) page)) len sha

same_sys : (sys : Sys) (system : List ℕ) (epoch : ℕ) (zbi vbmeta : ImageSum) → system ≡ sys.system.0 → epoch ≡ sys.epoch → sys.zbi ≡ zbi → sys.vbmeta ≡ vbmeta → sys ≡ record { system = record { 0 = system }; epoch = epoch; zbi = zbi; vbmeta = vbmeta }
same_sys sys system epoch zbi vbmeta e f g h =
    ap (λ (l : List ℕ). let s : Sys = record { system = record { 0 = l }; epoch = sys.epoch; zbi = sys.zbi; vbmeta = sys.vbmeta } in s) (sym e)
    ∙ ap (λ (n : ℕ). let s : Sys = record { system = record { 0 = system }; epoch = n; zbi = sys.zbi; vbmeta = sys.vbmeta } in s) (sym f)
    ∙ ap (λ (i : ImageSum). let s : Sys = record { system = record { 0 = system }; epoch = epoch; zbi = i; vbmeta = sys.vbmeta } in s) g
    ∙ ap (λ (i : ImageSum). let s : Sys = record { system = record { 0 = system }; epoch = epoch; zbi = zbi; vbmeta = i } in s) h

pub length-header_text : (sys : Sys) → IsSys sys → length (header_text sys) ≡ 124
unfolding header_text
length-header_text sys is =
    let name : List ℕ = codes "SLOT" ++ to_le_bytes w64 sys.epoch ++ sys.system.0 in
    let long : length name ≡ 44 = length-append (codes "SLOT" ++ to_le_bytes w64 sys.epoch) sys.system.0 ∙ ap (λ (n : ℕ). 12 + n) is.system in
    omega (arith, length-append name (sum_text sys.zbi ++ sum_text sys.vbmeta), length-append (sum_text sys.zbi) (sum_text sys.vbmeta), long, length-sum_text sys.zbi is.zbi, length-sum_text sys.vbmeta is.vbmeta)

pub header_named : (page : List ℕ) (sys : Sys) → IsSys sys → take 156 page ≡ header_text sys ++ sha256 (header_text sys) → IsHeader page sys
unfolding header_text
header_named page sys is e =
    let magic : List ℕ = codes "SLOT" in
    let epoch : List ℕ = to_le_bytes w64 sys.epoch in
    let sums : List ℕ = sum_text sys.zbi ++ sum_text sys.vbmeta in
    let name_long : length (magic ++ epoch ++ sys.system.0) ≡ 44 = length-append (magic ++ epoch) sys.system.0 ∙ ap (λ (n : ℕ). 12 + n) is.system in
    let whole = parts page (header_text sys) (sha256 (header_text sys)) 124 32 e (length-header_text sys is) in
    let body = parts page (magic ++ epoch ++ sys.system.0) sums 44 80 whole.0 name_long in
    let both = parts (drop 44 page) (sum_text sys.zbi) (sum_text sys.vbmeta) 40 40 body.1 (length-sum_text sys.zbi is.zbi) in
    let name = parts page (magic ++ epoch) sys.system.0 12 32 body.0 refl in
    let first = parts page magic epoch 4 8 name.0 refl in
    let number : from_le_bytes w64 (take 8 (drop 4 page)) ≡ sys.epoch = ap (from_le_bytes w64) first.1 ∙ from_le_bytes-to_le_bytes_8 sys.epoch is.epoch in
    let last : take 40 (drop 84 page) ≡ sum_text sys.vbmeta = ap (take 40) (sym (drop-drop 40 44 page)) ∙ both.1 in
    record {
      marked = record { magic = first.0; digest = whole.1 ∙ ap sha256 (sym whole.0) };
      names = same_sys sys (take 32 (drop 12 page)) (from_le_bytes w64 (take 8 (drop 4 page))) (sum_at page 44) (sum_at page 84) name.1 number (sum_read page 44 sys.zbi is.zbi both.0) (sum_read page 84 sys.vbmeta is.vbmeta last);
    }

pub length-head : (head : List ℕ) (sys : Sys) → IsSys sys → head ≡ header_text sys ++ sha256 (header_text sys) → length head ≡ 156
length-head head sys is e = ap length e ∙ length-append (header_text sys) (sha256 (header_text sys)) ∙ omega (arith, length-header_text sys is, length-sha256 (header_text sys))

-- the head before the rest of a page of zeros
pub page_headed : (head zeros : List ℕ) (sys : Sys) → IsSys sys → head ≡ header_text sys ++ sha256 (header_text sys) → take 156 (head ++ drop 156 zeros) ≡ header_text sys ++ sha256 (header_text sys)
page_headed head zeros sys is e = take_at head (drop 156 zeros) 156 (length-head head sys is e) ∙ e

-- Two lists that fill all of a third.
pub put_both : (front back was out : List ℕ) → length was ≡ length front + length back → out ≡ front ++ drop (length front) was → put_mid (length front) (length was - length front) out back ≡ front ++ back
put_both front back was out size is =
    let first : take (length front) out ≡ front = ap (take (length front)) is ∙ take_at front (drop (length front) was) (length front) refl in
    let none : drop (length was - length front) (drop (length front) out) ≡ [] = drop_all (length was - length front) (drop (length front) out) (omega (arith, length-drop (length front) out, ap length is, length-append front (drop (length front) was), length-drop (length front) was)) in
    ap (λ (l : List ℕ). l ++ (back ++ drop (length was - length front) (drop (length front) out))) first
    ∙ ap (λ (l : List ℕ). front ++ (back ++ l)) none ∙ ap (λ (l : List ℕ). front ++ l) (append-nil back)
