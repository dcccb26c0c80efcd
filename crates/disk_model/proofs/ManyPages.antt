-- Many pages that are written one after another, and settled by one sync.
use Rattle.std.proofs.Common.{◌≡◌, ◌≢◌, ℕ, ◌+◌, ◌<◌, sym, subst, inl, inr, arith, Option, IfSome}
use Rattle.std.proofs.lemmas.Bool.{cases_eq}
use Rattle.disk_model.specs.declared.act.DiskAct.TheVariants.{Wrote, Synced}
use Rattle.disk_model.specs.Past.{Page, page_at, Past, IsPast, with_act}
use Rattle.disk_model.specs.Images.{EachImage, IsWritten, AllWritten, AllSettled, SettlesOthers, WritesOnly}
use Rattle.disk_model.proofs.Moments.{Tried, Ended, written, written_write, written_sync, settled, each_all, at_end}
use Rattle.disk_model.proofs.Regions.{written_outside, settled_outside}

-- Nothing is written yet.
pub all_written_none : (place : ℕ → ℕ) (value : ℕ → Page) (told : Option Past) → AllWritten told place value 0
all_written_none place value told = λ i lt. absurd (omega (arith, lt))

-- The next page is written, which is none of those before it.
pub all_written_more : (place : ℕ → ℕ) (value : ℕ → Page) (k : ℕ) (old new : Option Past) → ((i : ℕ) → i < k → place k ≢ place i) → new ≡ with_act old (Wrote (place k) (value k)) → AllWritten old place value k → AllWritten new place value (k + 1)
all_written_more place value k old new apart e all = λ i lt.
    elim (cases_eq i k) [
      | inl same ↦ subst (λ (j : ℕ). IsWritten new (place j) (value j)) (sym same) (written (place k) (value k) old new e)
      | inr ne ↦
          let below : i < k = omega (arith, ne, lt) in
          written_write (place i) (value i) (place k) (value k) old new (apart i below) (inl e) (all i below)
    ]

-- A write of another page leaves them written, a sync does, and so does a run that writes none of them.
pub all_written_write : (place : ℕ → ℕ) (value : ℕ → Page) (k page : ℕ) (bytes : Page) (old new : Option Past) → ((i : ℕ) → i < k → page ≢ place i) → Tried page bytes old new → AllWritten old place value k → AllWritten new place value k
all_written_write place value k page bytes old new apart tried all = λ i lt. written_write (place i) (value i) page bytes old new (apart i lt) tried (all i lt)

pub all_written_sync : (place : ℕ → ℕ) (value : ℕ → Page) (k : ℕ) (old new : Option Past) → Ended old new → AllWritten old place value k → AllWritten new place value k
all_written_sync place value k old new ended all = λ i lt. written_sync (place i) (value i) old new ended (all i lt)

pub all_written_outside : (region : ℕ → Type 0) (place : ℕ → ℕ) (value : ℕ → Page) (k : ℕ) (old new : Option Past) → ((i : ℕ) → i < k → region (place i) → ⊥) → WritesOnly old new region → AllWritten old place value k → AllWritten new place value k
all_written_outside region place value k old new not_in w all = λ i lt. written_outside region (place i) (value i) old new (not_in i lt) (all i lt) w

-- A sync settles each of them, whoever asked for it.
pub all_settled : (place : ℕ → ℕ) (value : ℕ → Page) (k count : ℕ) (old new : Option Past) → ((i : ℕ) → i < k → place i < count) → IfSome old (IsPast count) → new ≡ with_act old Synced → AllWritten old place value k → AllSettled new place value k
all_settled place value k count old new room fits e all = λ i lt. settled (place i) (value i) count old new (room i lt) fits (all i lt) e

-- They stay settled over a run that writes none of them.
pub all_settled_outside : (region : ℕ → Type 0) (place : ℕ → ℕ) (value : ℕ → Page) (k : ℕ) (old new : Option Past) → ((i : ℕ) → i < k → region (place i) → ⊥) → WritesOnly old new region → AllSettled old place value k → AllSettled new place value k
all_settled_outside region place value k old new not_in w all = λ i lt.
    at_end (λ image. page_at image (place i) ≡ value i) old new (settled_outside region (place i) (value i) old new (not_in i lt) (all i lt) w)

-- Then each image has them all.
pub each_settled : (place : ℕ → ℕ) (value : ℕ → Page) (k : ℕ) (told : Option Past) → AllSettled told place value k → EachImage told (λ image. (i : ℕ) → i < k → page_at image (place i) ≡ value i)
each_settled place value k told all = each_all (λ i image. page_at image (place i) ≡ value i) k told all

-- A sync settles what was written before and was left alone since, also by those who didn't write it.
pub settles_sync : (region : ℕ → Type 0) (count : ℕ) (old mid new : Option Past) → IfSome mid (IsPast count) → WritesOnly old mid region → new ≡ with_act mid Synced → SettlesOthers old new region count
settles_sync region count old mid new fits w e = λ n value lt not_in h. settled n value count mid new lt fits (written_outside region n value old mid not_in h w) e

-- It stays so over a run that writes the same region, and holds if that comes first.
pub settles_then : (region : ℕ → Type 0) (count : ℕ) (old mid new : Option Past) → SettlesOthers old mid region count → WritesOnly mid new region → SettlesOthers old new region count
settles_then region count old mid new all w = λ n value lt not_in h.
    at_end (λ image. page_at image n ≡ value) mid new (settled_outside region n value mid new not_in (all n value lt not_in h) w)

pub settles_before : (region : ℕ → Type 0) (count : ℕ) (old mid new : Option Past) → WritesOnly old mid region → SettlesOthers mid new region count → SettlesOthers old new region count
settles_before region count old mid new w all = λ n value lt not_in h. all n value lt not_in (written_outside region n value old mid not_in h w)

-- The same of a wider region.
pub settles_wider : (region wide : ℕ → Type 0) (count : ℕ) (old new : Option Past) → ((n : ℕ) → region n → wide n) → SettlesOthers old new region count → SettlesOthers old new wide count
settles_wider region wide count old new within all = λ n value lt not_in h. all n value lt (λ is. not_in (within n is)) h
