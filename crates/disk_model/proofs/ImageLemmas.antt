-- What an act makes of the images.
use Rattle.std.proofs.Common.{◌≡◌, ◌⊎◌, ℕ, ◌+◌, ◌<◌, List, [], ◌∷◌, length, get_or, set, map, sym, refl, ◌∙◌, ap, subst, inl, inr, arith, Contains, zero, suc, add-zero, length-set, get_or-set_same, get_or-set_other, set-set, ext_get_or}
use Rattle.std.proofs.lemmas.Bool.{cases_lt, cases_eq}
use Rattle.std.proofs.lemmas.List.{set-get_or, get_or-map, length-map}
use Rattle.std.specs.List.{AllByRecursion}
use Rattle.std.proofs.lemmas.List.Elements.{All-from_recursion, recursion_from_All, All-from_get_or}
use Rattle.disk_model.specs.declared.act.DiskAct.{DiskAct}
use Rattle.disk_model.specs.declared.act.DiskAct.TheVariants.{Wrote, Failed, Synced}
use Rattle.disk_model.specs.Past.{Page, Pages, page_at, PageState, Past, IsPage, HasPage, IsPast, then_act, after_synced, after_act, after_acts, state_of, IsPossible, IsLatest}
use Rattle.disk_model.specs.Images.{IsImage, IsLatestImage, contents_after, contents}
use Rattle.disk_model.proofs.StateLemmas.{state_of-then_act, possible_wrote, possible_failed, came_synced, other_wrote, other_failed, same_wrote, same_failed, nothing}

-- a page of an image takes any other value that is possible there
pub image_mix : (past : Past) (image : Pages) (n : ℕ) (value : Page) → IsImage past image → IsPossible (state_of past n) value → IsImage past (set image n value)
image_mix past image n value is p =
    let goal : (k : ℕ) → Type 0 = λ k. IsPossible (state_of past k) (get_or (set image n value) k []) in
    let inside : (k : ℕ) → k < length past.start → goal k =
    λ k lt. elim (cases_eq k n) [
      | inl e ↦ subst goal (sym e) (subst (IsPossible (state_of past n)) (sym (get_or-set_same image n value [] (omega (arith, is.size, e)))) p)
      | inr ne ↦ subst (IsPossible (state_of past k)) (sym (get_or-set_other image n k value [] ne)) (is.each k lt)
    ] in
    record { size = length-set image n value ∙ is.size; each = inside }

-- An act that makes at most one value of one page possible leaves an image as it was, or with that value there.
pub image_changed : (past next : Past) (page : ℕ) (bytes : Page) → next.start ≡ past.start → ((n : ℕ) (value : Page) → IsPossible (state_of next n) value → IsPossible (state_of past n) value ⊎ ((page ≡ n) × (value ≡ bytes))) → (image : Pages) → IsImage next image → IsImage past image ⊎ ((old : Pages) × (page < length old) × IsImage past old × (image ≡ set old page bytes))
image_changed past next page bytes starts came image is =
    let size : length image ≡ length past.start = is.size ∙ ap length starts in
    let new : (n : ℕ) → n < length past.start → IsPossible (state_of past n) (page_at image n) ⊎ ((page ≡ n) × (page_at image n ≡ bytes)) =
    λ n lt. came n (page_at image n) (is.each n (omega (arith, ap length starts))) in
    let same : ((n : ℕ) → n < length past.start → IsPossible (state_of past n) (page_at image n)) → IsImage past image = λ each. record { size = size; each = each } in
    elim (cases_lt page (length past.start)) [
      | inl inside ↦ elim (new page inside) [
        | inl p ↦ inl (same (λ n lt. elim (new n lt) [ inl q ↦ q | inr e ↦ subst (λ (k : ℕ). IsPossible (state_of past k) (page_at image k)) e.0 p ]))
        | inr here ↦
            let now = (state_of past page).now in
            let old = set image page now in
            let each : (n : ℕ) → n < length past.start → IsPossible (state_of past n) (page_at old n) =
            λ n lt. elim (cases_eq n page) [
              | inl e ↦ subst (λ (k : ℕ). IsPossible (state_of past k) (page_at old k)) (sym e) (inl (get_or-set_same image page now [] (omega (arith, size))))
              | inr ne ↦ subst (IsPossible (state_of past n)) (sym (get_or-set_other image page n now [] ne)) (elim (new n lt) [ inl q ↦ q | inr e ↦ absurd (ne (sym e.0)) ])
            ] in
            let back : image ≡ set old page bytes = sym (set-set image page now bytes ∙ ap (set image page) (sym here.1) ∙ set-get_or image page []) in
            inr (old, omega (arith, size, length-set image page now), record { size = length-set image page now ∙ size; each = each }, back)
      ]
      | inr outside ↦ inl (same (λ n lt. elim (new n lt) [ inl q ↦ q | inr e ↦ absurd (omega (arith, e.0)) ]))
    ]

pub image_wrote : (past : Past) (page : ℕ) (bytes : Page) (image : Pages) → IsImage (then_act past (Wrote page bytes)) image → IsImage past image ⊎ ((old : Pages) × (page < length old) × IsImage past old × (image ≡ set old page bytes))
image_wrote past page bytes image is =
    image_changed past (then_act past (Wrote page bytes)) page bytes refl
    (λ n value p. possible_wrote n page (state_of past n) bytes value (subst (λ s. IsPossible s value) (state_of-then_act past (Wrote page bytes) n) p)) image is

pub image_failed : (past : Past) (page : ℕ) (bytes : Page) (image : Pages) → IsImage (then_act past (Failed page bytes)) image → IsImage past image ⊎ ((old : Pages) × (page < length old) × IsImage past old × (image ≡ set old page bytes))
image_failed past page bytes image is =
    image_changed past (then_act past (Failed page bytes)) page bytes refl
    (λ n value p. possible_failed n page (state_of past n) bytes value (subst (λ s. IsPossible s value) (state_of-then_act past (Failed page bytes) n) p)) image is

-- a sync only takes images away
pub image_synced : (past : Past) (image : Pages) → IsImage (then_act past Synced) image → IsImage past image
image_synced past image is = record {
  size = is.size;
  each = λ n lt. came_synced (state_of past n) (page_at image n) (subst (λ s. IsPossible s (page_at image n)) (state_of-then_act past Synced n) (is.each n lt));
}

-- and leaves those whose pages have each a value that it doesn't end
pub latest_synced : (s : PageState) (v : Page) → IsPossible (after_synced s) v → IsLatest s v
latest_synced s v (inl e) = inl e
latest_synced s v (inr (inl c)) = inr c
latest_synced s v (inr (inr c)) = absurd (nothing c)

pub synced_latest : (s : PageState) (v : Page) → IsLatest s v → IsPossible (after_synced s) v
synced_latest s v (inl e) = inl e
synced_latest s v (inr c) = inr (inl c)

pub image-latest : (past : Past) (image : Pages) → IsImage (then_act past Synced) image → IsLatestImage past image
image-latest past image is = record {
  size = is.size;
  each = λ n lt. latest_synced (state_of past n) (page_at image n) (subst (λ s. IsPossible s (page_at image n)) (state_of-then_act past Synced n) (is.each n lt));
}

pub latest-image : (past : Past) (image : Pages) → IsLatestImage past image → IsImage (then_act past Synced) image
latest-image past image is = record {
  size = is.size;
  each = λ n lt. subst (λ s. IsPossible s (page_at image n)) (sym (state_of-then_act past Synced n)) (synced_latest (state_of past n) (page_at image n) (is.each n lt));
}

-- The pages decide apart from each other: any choice of possible values is an image.
numbers : ℕ → ℕ → List ℕ
numbers from zero = []
numbers from (suc count) = from ∷ numbers (from + 1) count

length-numbers : (from count : ℕ) → length (numbers from count) ≡ count
unfolding numbers
length-numbers from zero = refl
length-numbers from (suc count) = ap suc (length-numbers (from + 1) count)

get_or-numbers : (from count i : ℕ) → i < count → get_or (numbers from count) i 0 ≡ from + i
unfolding numbers
get_or-numbers from zero i lt = absurd (omega (arith, lt))
get_or-numbers from (suc count) zero lt = sym (add-zero from)
get_or-numbers from (suc count) (suc i) lt = get_or-numbers (from + 1) count i (omega (arith, lt)) ∙ omega arith

pub image_choose : (past : Past) (value : ℕ → Page) → ((n : ℕ) → n < length past.start → IsPossible (state_of past n) (value n)) → (image : Pages) × IsImage past image × ((n : ℕ) → n < length past.start → page_at image n ≡ value n)
image_choose past value possible =
    let count = length past.start in
    let all = numbers 0 count in
    let image = map value all in
    let is : (n : ℕ) → n < count → page_at image n ≡ value n =
    λ n lt. get_or-map value all n 0 [] (omega (arith, length-numbers 0 count)) ∙ ap value (get_or-numbers 0 count n lt ∙ omega arith) in
    (image, record { size = length-map all value ∙ length-numbers 0 count; each = λ n lt. subst (IsPossible (state_of past n)) (sym (is n lt)) (possible n lt) }, is)

-- a value that is possible at a page stands there in some image
pub image_of : (past : Past) (n : ℕ) (value : Page) → n < length past.start → IsPossible (state_of past n) value → (image : Pages) × IsImage past image × (page_at image n ≡ value)
image_of past n value lt p =
    let now = image_choose past (λ k. (state_of past k).now) (λ k _. inl refl) in
    (set now.0 n value, image_mix past now.0 n value now.1 p, get_or-set_same now.0 n value [] (omega (arith, now.1.size)))

-- what stands on the pages is an image
pub now_after : (n : ℕ) (acts : List DiskAct) (s : PageState) (pages : Pages) → n < length pages → s.now ≡ page_at pages n → (after_acts n s acts).now ≡ page_at (contents_after acts pages) n
now_after n [] s pages lt e = e
now_after n (Wrote page bytes ∷ acts) s pages lt e =
    now_after n acts (after_act n s (Wrote page bytes)) (set pages page bytes) (omega (arith, lt, length-set pages page bytes))
    (elim (cases_eq page n) [
      | inl same ↦ subst (λ (k : ℕ). (after_act n s (Wrote k bytes)).now ≡ page_at (set pages k bytes) n) (sym same) (ap (λ (t : PageState). t.now) (same_wrote n s bytes) ∙ sym (get_or-set_same pages n bytes [] lt))
      | inr ne ↦ ap (λ (t : PageState). t.now) (other_wrote n page s bytes ne) ∙ e ∙ sym (get_or-set_other pages page n bytes [] (λ same. ne (sym same)))
    ])
now_after n (Failed page bytes ∷ acts) s pages lt e =
    now_after n acts (after_act n s (Failed page bytes)) pages lt
    (elim (cases_eq page n) [
      | inl same ↦ subst (λ (k : ℕ). (after_act n s (Failed k bytes)).now ≡ page_at pages n) (sym same) (ap (λ (t : PageState). t.now) (same_failed n s bytes) ∙ e)
      | inr ne ↦ ap (λ (t : PageState). t.now) (other_failed n page s bytes ne) ∙ e
    ])
now_after n (Synced ∷ acts) s pages lt e = now_after n acts (record s { older = [] }) pages lt e

pub now-contents : (past : Past) (n : ℕ) → n < length past.start → (state_of past n).now ≡ page_at (contents past) n
now-contents past n lt = now_after n past.trail _ past.start lt refl

pub length-contents_after : (acts : List DiskAct) (pages : Pages) → length (contents_after acts pages) ≡ length pages
length-contents_after [] pages = refl
length-contents_after (Wrote page bytes ∷ acts) pages = length-contents_after acts (set pages page bytes) ∙ length-set pages page bytes
length-contents_after (Failed page bytes ∷ acts) pages = length-contents_after acts pages
length-contents_after (Synced ∷ acts) pages = length-contents_after acts pages

pub contents-is_image : (past : Past) → IsImage past (contents past)
contents-is_image past = record {
  size = length-contents_after past.trail past.start;
  each = λ n lt. inl (sym (now-contents past n lt));
}

-- after a sync a page whose writes have not failed since the last that succeeded has one value
pub synced_page : (past : Past) (n : ℕ) (value : Page) → n < length past.start → (state_of past n).now ≡ value → (state_of past n).failed ≡ [] → (image : Pages) → IsImage (then_act past Synced) image → page_at image n ≡ value
synced_page past n value lt now none image is =
    let p : IsPossible (record (state_of past n) { older = [] }) (page_at image n) = subst (λ s. IsPossible s (page_at image n)) (state_of-then_act past Synced n) (is.each n lt) in
    elim p [
      | inl e ↦ e ∙ now
      | inr r ↦ elim r [
        | inl f ↦ absurd (nothing (subst (λ l. Contains l (page_at image n)) none f))
        | inr o ↦ absurd (nothing o)
      ]
    ]

-- what is possible at a page of a told past is a page
page_after_act : (n : ℕ) (s : PageState) (x : DiskAct) → HasPage x → ((v : Page) → IsPossible s v → IsPage v) → (v : Page) → IsPossible (after_act n s x) v → IsPage v
page_after_act n s (Wrote page bytes) is all v p = elim (possible_wrote n page s bytes v p) [ inl q ↦ all v q | inr e ↦ subst IsPage (sym e.1) is ]
page_after_act n s (Failed page bytes) is all v p = elim (possible_failed n page s bytes v p) [ inl q ↦ all v q | inr e ↦ subst IsPage (sym e.1) is ]
page_after_act n s Synced is all v p = all v (came_synced s v p)

page_after_acts : (n : ℕ) (acts : List DiskAct) (s : PageState) → AllByRecursion HasPage acts → ((v : Page) → IsPossible s v → IsPage v) → (v : Page) → IsPossible (after_acts n s acts) v → IsPage v
page_after_acts n [] s are all v p = all v p
page_after_acts n (x ∷ acts) s are all v p = page_after_acts n acts (after_act n s x) are.1 (page_after_act n s x are.0 all) v p

pub possible-is_page : (count : ℕ) (past : Past) (n : ℕ) (v : Page) → IsPast count past → n < count → IsPossible (state_of past n) v → IsPage v
possible-is_page count past n v told lt p =
    let first : IsPage (page_at past.start n) = All-from_recursion IsPage past.start told.start n [] (omega (arith, told.size)) in
    page_after_acts n past.trail (record { older = []; now = page_at past.start n; failed = [] }) told.bytes
    (λ w q. elim q [ inl e ↦ subst IsPage (sym e) first | inr r ↦ elim r [ inl c ↦ absurd (nothing c) | inr c ↦ absurd (nothing c) ] ]) v p

-- an image has pages
pub image-are_pages : (count : ℕ) (past : Past) (image : Pages) → IsPast count past → IsImage past image → AllByRecursion IsPage image
image-are_pages count past image told is =
    recursion_from_All IsPage image (All-from_get_or IsPage image [] (λ n lt. possible-is_page count past n (page_at image n) told (omega (arith, is.size, told.size)) (is.each n (omega (arith, is.size)))))

-- a disk without acts has one image
pub fresh_image : (start image : Pages) → IsImage (record { start = start; trail = [] }) image → image ≡ start
fresh_image start image is =
    ext_get_or [] image start is.size (λ n lt. elim (is.each n (omega (arith, is.size))) [
      | inl e ↦ e
      | inr r ↦ elim r [ inl c ↦ absurd (nothing c) | inr c ↦ absurd (nothing c) ]
    ])
