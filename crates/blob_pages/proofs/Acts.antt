-- The acts of a landing: the writes of the pages of a blob, one after another, and what settles it.
use Rattle.std.proofs.Common.{◌≡◌, ◌⊎◌, inl, inr, ℕ, zero, suc, ◌+◌, ◌-◌, ◌/◌, ◌≤◌, List, [], ◌∷◌, ◌++◌, length, map, Option, Some, None, sym, ◌∙◌, ap, arith, append_assoc}
use Rattle.std.specs.List.{range_with_len}
use Rattle.std.proofs.lemmas.List.FromFn.{map-range_with_len_more}
use Rattle.disk_model.specs.declared.act.DiskAct.{DiskAct}
use Rattle.disk_model.specs.declared.act.DiskAct.TheVariants.{Wrote, Failed, Synced}
use Rattle.disk_model.specs.Past.{Page, Past, with_act}
use Rattle.disk_model.specs.Images.{with_acts}
use Rattle.blob_pages.specs.Pages.{page_of, open_page, page_count}
use Rattle.blob_pages.specs.Written.{place, page_acts, settling_acts}
use Rattle.blob_pages.proofs.Writing.{open_none, open_some}

pub with_acts-more : (told mid new : Option Past) (acts : List DiskAct) (act : DiskAct) → mid ≡ with_acts told acts → new ≡ with_act mid act → new ≡ with_acts told (acts ++ act ∷ [])
with_acts-more None mid new acts act e next = next ∙ ap (λ (o : Option Past). with_act o act) e
with_acts-more (Some past) mid new acts act e next =
    next ∙ ap (λ (o : Option Past). with_act o act) e
    ∙ ap (λ (t : List DiskAct). Some (record { start = past.start; trail = t })) (append_assoc past.trail acts (act ∷ []))

page_acts-more : (start : ℕ) (chain blob : List ℕ) (from k : ℕ) → from ≤ k → page_acts start chain blob from (k + 1) ≡ page_acts start chain blob from k ++ Wrote (place start chain k) (page_of blob k) ∷ []
page_acts-more start chain blob from k le =
    let write : ℕ → DiskAct = λ i. Wrote (place start chain i) (page_of blob i) in
    let more : k + 1 - from ≡ k - from + 1 = omega arith in
    ap (λ (n : ℕ). map write (range_with_len from n)) more ∙ map-range_with_len_more write from (k - from) k (omega arith)

-- the next page was written
pub acts_page : (told mid new : Option Past) (start : ℕ) (chain blob : List ℕ) (from k page : ℕ) (bytes : Page) → from ≤ k → page ≡ place start chain k → bytes ≡ page_of blob k → mid ≡ with_acts told (page_acts start chain blob from k) → new ≡ with_act mid (Wrote page bytes) → new ≡ with_acts told (page_acts start chain blob from (k + 1))
acts_page told mid new start chain blob from k page bytes le at is e wrote =
    let act : new ≡ with_act mid (Wrote (place start chain k) (page_of blob k)) =
    wrote ∙ ap (λ (n : ℕ). with_act mid (Wrote n bytes)) at ∙ ap (λ (b : Page). with_act mid (Wrote (place start chain k) b)) is in
    with_acts-more told mid new (page_acts start chain blob from k) (Wrote (place start chain k) (page_of blob k)) e act
    ∙ ap (with_acts told) (sym (page_acts-more start chain blob from k le))

-- where the write of the next page failed
pub acts_broke : (told mid new : Option Past) (start : ℕ) (chain blob : List ℕ) (from k page : ℕ) (bytes : Page) → page ≡ place start chain k → bytes ≡ page_of blob k → mid ≡ with_acts told (page_acts start chain blob from k) → (new ≡ with_act mid (Failed page bytes)) ⊎ (new ≡ mid) → (new ≡ with_acts told (page_acts start chain blob from k)) ⊎ (new ≡ with_act (with_acts told (page_acts start chain blob from k)) (Failed (place start chain k) (page_of blob k)))
acts_broke told mid new start chain blob from k page bytes at is e (inl failed) =
    inr (failed ∙ ap (λ (n : ℕ). with_act mid (Failed n bytes)) at ∙ ap (λ (b : Page). with_act mid (Failed (place start chain k) b)) is
    ∙ ap (λ (o : Option Past). with_act o (Failed (place start chain k) (page_of blob k))) e)
acts_broke told mid new start chain blob from k page bytes at is e (inr same) = inl (same ∙ e)

writes_append : (write : ℕ → DiskAct) (a n m : ℕ) → map write (range_with_len a n) ++ map write (range_with_len (a + n) m) ≡ map write (range_with_len a (n + m))
writes_append write a zero m =
    ap (λ (k : ℕ). map write (range_with_len k m)) {x = a + 0} {y = a} (omega arith) ∙ ap (λ (k : ℕ). map write (range_with_len a k)) {x = m} {y = 0 + m} (omega arith)
writes_append write a (suc n) m =
    ap (λ (k : ℕ). write a ∷ (map write (range_with_len (a + 1) n) ++ map write (range_with_len k m))) {x = a + suc n} {y = a + 1 + n} (omega arith)
    ∙ ap (λ (l : List DiskAct). write a ∷ l) (writes_append write (a + 1) n m)
    ∙ ap (λ (k : ℕ). map write (range_with_len a k)) {x = suc (n + m)} {y = suc n + m} (omega arith)

-- the writes of pages up to one, and from there on
pub page_acts-append : (start : ℕ) (chain blob : List ℕ) (from mid to : ℕ) → from ≤ mid → mid ≤ to → page_acts start chain blob from mid ++ page_acts start chain blob mid to ≡ page_acts start chain blob from to
page_acts-append start chain blob from mid to low high =
    let write : ℕ → DiskAct = λ i. Wrote (place start chain i) (page_of blob i) in
    ap (λ (k : ℕ). map write (range_with_len from (mid - from)) ++ map write (range_with_len k (to - mid))) {x = mid} {y = from + (mid - from)} (omega arith)
    ∙ writes_append write from (mid - from) (to - mid)
    ∙ ap (λ (k : ℕ). map write (range_with_len from k)) {x = mid - from + (to - mid)} {y = to - from} (omega arith)

-- a landing writes each page of the blob once, in order
pub landing_acts : (start : ℕ) (chain blob : List ℕ) (left : Option (List ℕ)) → left ≡ open_page blob → page_acts start chain blob 0 (length blob / 4096) ++ settling_acts start chain (length blob) left ≡ page_acts start chain blob 0 (page_count (length blob)) ++ Synced ∷ []
landing_acts start chain blob None is =
    ap (λ (n : ℕ). page_acts start chain blob 0 n ++ Synced ∷ []) (sym (open_none blob is))
landing_acts start chain blob (Some page) is =
    let k : ℕ = length blob / 4096 in
    let some = open_some blob page is in
    let full : List DiskAct = page_acts start chain blob 0 k in
    ap (λ (p : Page). full ++ (Wrote (place start chain k) p ∷ Synced ∷ [])) some.0
    ∙ sym (append_assoc full (Wrote (place start chain k) (page_of blob k) ∷ []) (Synced ∷ []))
    ∙ ap (λ (l : List DiskAct). l ++ Synced ∷ []) (sym (page_acts-more start chain blob 0 k (omega arith)))
    ∙ ap (λ (n : ℕ). page_acts start chain blob 0 n ++ Synced ∷ []) (sym some.1)
