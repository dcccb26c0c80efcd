-- What a disk in memory keeps stays true with each act.
use Rattle.std.proofs.Common.{◌≡◌, ℕ, ◌<◌, ◌^◌, List, [], ◌∷◌, ◌++◌, length, get_or, set, replicate, sym, refl, ◌∙◌, ap, subst, arith, zero, suc, inl}
use Rattle.std.specs.List.{AllByRecursion}
use Rattle.std.proofs.lemmas.List.{length-replicate}
use Rattle.disk_model.specs.declared.act.DiskAct.{DiskAct}
use Rattle.disk_model.specs.declared.act.DiskAct.TheVariants.{Wrote, Failed, Synced}
use Rattle.disk_model.specs.Past.{Page, Pages, page_at, zero_page, zero_pages, Past, IsPage, IsActIn, HasPage, IsPast, then_act, state_of, MayRead}
use Rattle.disk_model.specs.Images.{contents_after, contents}
use Rattle.disk_model.specs.Disks.{IsKept}
use Rattle.disk_model.proofs.Regions.{all_push}
use Rattle.disk_model.proofs.ImageLemmas.{now-contents, length-contents_after}

zeros_below : (count i : ℕ) → get_or (replicate {A = ℕ} count 0) i 0 < 256
zeros_below zero i = omega arith
zeros_below (suc count) zero = omega arith
zeros_below (suc count) (suc i) = zeros_below count i

pub zero_page-is_page : IsPage zero_page
unfolding zero_page
zero_page-is_page = record { size = length-replicate {A = ℕ} 4096 0; bytes = zeros_below 4096 }

pub all_zero : (count : ℕ) → AllByRecursion IsPage (zero_pages count)
all_zero zero = tt
all_zero (suc count) = (zero_page-is_page, all_zero count)

-- a disk with no acts yet
pub kept_start : (start current : Pages) (trail : List DiskAct) → length start < 2 ^ 32 → AllByRecursion IsPage start → current ≡ start → trail ≡ [] → IsKept (record { start = start; trail = trail }) current
kept_start start current trail small pages same none =
    subst (λ (acts : List DiskAct). IsKept (record { start = start; trail = acts }) current) (sym none)
    (record { told = record { size = refl; start = pages; range = tt; bytes = tt }; small = small; now = same })

pub kept_zero : (start current : Pages) (trail : List DiskAct) (count : ℕ) → count < 2 ^ 32 → start ≡ zero_pages count → current ≡ zero_pages count → trail ≡ [] → IsKept (record { start = start; trail = trail }) current
kept_zero start current trail count small zeros same none =
    kept_start start current trail (omega (arith, ap length zeros, length-replicate count zero_page)) (subst (AllByRecursion IsPage) (sym zeros) (all_zero count)) (same ∙ sym zeros) none

pub contents_after-append : (xs ys : List DiskAct) (pages : Pages) → contents_after (xs ++ ys) pages ≡ contents_after ys (contents_after xs pages)
contents_after-append [] ys pages = refl
contents_after-append (Wrote n bytes ∷ xs) ys pages = contents_after-append xs ys (set pages n bytes)
contents_after-append (Failed n bytes ∷ xs) ys pages = contents_after-append xs ys pages
contents_after-append (Synced ∷ xs) ys pages = contents_after-append xs ys pages

pub told_act : (count : ℕ) (past : Past) (act : DiskAct) → IsPast count past → IsActIn (λ n. n < count) act → HasPage act → IsPast count (then_act past act)
told_act count past act told within page = record {
  size = told.size;
  start = told.start;
  range = all_push (IsActIn (λ n. n < count)) past.trail act told.range within;
  bytes = all_push HasPage past.trail act told.bytes page;
}

-- with one act more
pub kept_act : (past : Past) (current next : Pages) (act : DiskAct) → IsKept past current → IsActIn (λ n. n < length past.start) act → HasPage act → next ≡ contents_after (act ∷ []) current → IsKept (then_act past act) next
kept_act past current next act kept within page is = record {
  told = told_act (length past.start) past act kept.told within page;
  small = kept.small;
  now = is ∙ ap (contents_after (act ∷ [])) kept.now ∙ sym (contents_after-append past.trail (act ∷ []) past.start);
}

-- what stands on a page may be read there
pub may_read : (past : Past) (n : ℕ) (out : Page) → n < length past.start → out ≡ page_at (contents past) n → MayRead (state_of past n) out
may_read past n out lt is =
    let now : out ≡ (state_of past n).now = is ∙ sym (now-contents past n lt) in
    record { possible = inl now; written = λ _. now }

pub kept_length : (past : Past) (current : Pages) → IsKept past current → length current ≡ length past.start
kept_length past current kept = ap length kept.now ∙ length-contents_after past.trail past.start

-- the same, where the trail is named
pub kept_act_to : (start : Pages) (old new : List DiskAct) (current next : Pages) (act : DiskAct) → IsKept (record { start = start; trail = old }) current → IsActIn (λ n. n < length start) act → HasPage act → new ≡ old ++ act ∷ [] → next ≡ contents_after (act ∷ []) current → IsKept (record { start = start; trail = new }) next
kept_act_to start old new current next act kept within page longer is =
    subst (λ (trail : List DiskAct). IsKept (record { start = start; trail = trail }) next) (sym longer) (kept_act (record { start = start; trail = old }) current next act kept within page is)
