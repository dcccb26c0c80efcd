-- How many data pages a landing writes.
use Rattle.std.proofs.Common.{◌≡◌, ℕ, ◌+◌, ◌/◌, ◌<◌, ◌≤◌, leb, List, [], ◌∷◌, ◌++◌, Option, Some, None, ap, ◌∙◌, arith, inl, inr}
use Rattle.std.specs.List.{AllByRecursion}
use Rattle.std.proofs.lemmas.Bool.{cases_Bool, lt-leb}
use Rattle.disk_model.specs.declared.act.DiskAct.{DiskAct}
use Rattle.disk_model.specs.declared.act.DiskAct.TheVariants.{Wrote, Failed, Synced}
use Rattle.disk_model.specs.Past.{Past, IsActIn}
use Rattle.disk_model.specs.Images.{WritesOnly, with_acts}
use Rattle.blob_pages.specs.Written.{place, settling_acts}
use Rattle.blob_disk.specs.Writes.{writes_from, AddsOnePage}

from_append : (start : ℕ) (xs ys : List DiskAct) → writes_from start (xs ++ ys) ≡ writes_from start xs + writes_from start ys
from_append start [] ys = omega arith
from_append start (Wrote n bytes ∷ xs) ys = omega (arith, from_append start xs ys)
from_append start (Failed n bytes ∷ xs) ys = omega (arith, from_append start xs ys)
from_append start (Synced ∷ xs) ys = from_append start xs ys

-- writes of pages before it are none
from_before : (start : ℕ) (region : ℕ → Type 0) → ((n : ℕ) → region n → n < start) → (acts : List DiskAct) → AllByRecursion (IsActIn region) acts → writes_from start acts ≡ 0
from_before start region before [] all = omega arith
from_before start region before (Wrote n bytes ∷ acts) all =
    rw (lt-leb start n (before n all.0)) (omega (arith, from_before start region before acts all.1))
from_before start region before (Failed n bytes ∷ acts) all =
    rw (lt-leb start n (before n all.0)) (omega (arith, from_before start region before acts all.1))
from_before start region before (Synced ∷ acts) all = from_before start region before acts all.1

-- a blob is settled by one write at most
settling_few : (start first : ℕ) (chain : List ℕ) (len : ℕ) (page : Option (List ℕ)) → writes_from start (settling_acts first chain len page) ≤ 1
settling_few start first chain len None = omega arith
settling_few start first chain len (Some page) =
    elim (cases_Bool (leb start (place first chain (len / 4096)))) [
      | inl from ↦ rw from (omega arith)
      | inr below ↦ rw below (omega arith)
    ]

-- first a blob is settled, and then only pages before the data are written
pub few_writes : (start first : ℕ) (chain : List ℕ) (len : ℕ) (page : Option (List ℕ)) (region : ℕ → Type 0) (old mid new : Option Past) → ((n : ℕ) → region n → n < start) → mid ≡ with_acts old (settling_acts first chain len page) → WritesOnly mid new region → AddsOnePage start old new
few_writes start first chain len page region None None None before is only = tt
few_writes start first chain len page region None (Some mid) new before is only = absurd (cc is)
few_writes start first chain len page region None None (Some new) before is only = only
few_writes start first chain len page region (Some old) None new before is only = absurd (cc is)
few_writes start first chain len page region (Some old) (Some mid) None before is only = only
few_writes start first chain len page region (Some old) (Some mid) (Some new) before is only =
    let acts : List DiskAct = only.trail.0 in
    let settling : List DiskAct = settling_acts first chain len page in
    let some : Some mid ≡ Some (record old { trail = old.trail ++ settling }) = is in
    let mid_is : mid ≡ record old { trail = old.trail ++ settling } = cc some in
    let trail : new.trail ≡ (old.trail ++ settling) ++ acts = only.trail.1 ∙ ap (λ (p : Past). p.trail ++ acts) mid_is in
    omega (arith, ap (writes_from start) trail, from_append start (old.trail ++ settling) acts, from_append start old.trail settling, settling_few start first chain len page, from_before start region before acts only.trail.2)
