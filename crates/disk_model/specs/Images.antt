-- What a power loss may leave of a disk, at each moment of its past.
use Rattle.std.specs.Prelude.{ℕ, ◌≡◌, ◌+◌, ◌<◌, ◌≤◌, ⊤, List, [], ◌++◌, length, take, ◌∷◌, slice_set, Option, Some, None, IfSome}
use Rattle.std.specs.Option.{option_map}
use Rattle.std.specs.List.{AllByRecursion}
use Rattle.disk_model.specs.declared.act.DiskAct.{DiskAct}
use Rattle.disk_model.specs.declared.act.DiskAct.TheVariants.{Wrote, Failed, Synced}
use Rattle.disk_model.specs.Past.{Page, Pages, page_at, Past, IsActIn, state_of, IsPossible, IsLatest}

-- Each page has a possible value of its own.
pub record IsImage (past : Past) (image : Pages) : Type 0 where
  pub size : length image ≡ length past.start
  pub each : (n : ℕ) → n < length past.start → IsPossible (state_of past n) (page_at image n)

-- Each page has what was written last, or the value of a write that failed since.
pub record IsLatestImage (past : Past) (image : Pages) : Type 0 where
  pub size : length image ≡ length past.start
  pub each : (n : ℕ) → n < length past.start → IsLatest (state_of past n) (page_at image n)

-- what stands on the pages where each write that succeeded was made, and no other
abbrev pub contents_after : List DiskAct → Pages → Pages
contents_after [] pages = pages
contents_after (Wrote n bytes ∷ acts) pages = contents_after acts (slice_set pages n bytes)
contents_after (Failed n bytes ∷ acts) pages = contents_after acts pages
contents_after (Synced ∷ acts) pages = contents_after acts pages

abbrev pub contents : Past → Pages
contents past = contents_after past.trail past.start

-- each image has P, where the past is told
abbrev pub EachImage : Option Past → (Pages → Type 0) → Type 0
EachImage told P = IfSome told (λ past. (image : Pages) → IsImage past image → P image)

-- some image has P, where the past is told
abbrev pub SomeImage : Option Past → (Pages → Type 0) → Type 0
SomeImage told P = IfSome told (λ past. (image : Pages) × IsImage past image × P image)

-- in each image the page has this value
abbrev pub IsSettled : Option Past → ℕ → Page → Type 0
IsSettled told n value = EachImage told (λ image. page_at image n ≡ value)

-- The page's last write succeeded and wrote this. So it has this value after the next sync.
abbrev pub IsWritten : Option Past → ℕ → Page → Type 0
IsWritten told n value = IfSome told (λ past. ((state_of past n).now ≡ value) × ((state_of past n).failed ≡ []))

-- The first `count` of these values are written, or settled, each at the page of its place.
abbrev pub AllWritten : Option Past → (ℕ → ℕ) → (ℕ → Page) → ℕ → Type 0
AllWritten told place value count = (i : ℕ) → i < count → IsWritten told (place i) (value i)

abbrev pub AllSettled : Option Past → (ℕ → ℕ) → (ℕ → Page) → ℕ → Type 0
AllSettled told place value count = (i : ℕ) → i < count → IsSettled told (place i) (value i)

-- the same of pages in a row, from the one numbered first
abbrev pub RowIsWritten : Option Past → ℕ → Pages → Type 0
RowIsWritten told first pages = AllWritten told (λ i. first + i) (page_at pages) (length pages)

abbrev pub RowIsSettled : Option Past → ℕ → Pages → Type 0
RowIsSettled told first pages = AllSettled told (λ i. first + i) (page_at pages) (length pages)

-- Each page below count and outside the region that was written in old is settled in new.
abbrev pub SettlesOthers : Option Past → Option Past → (ℕ → Type 0) → ℕ → Type 0
SettlesOthers old new region count =
    (n : ℕ) (value : Page) → n < count → ¬ region n → IsWritten old n value → IsSettled new n value

-- the numbers of the pages of a row
pub record IsInRow (first count n : ℕ) : Type 0 where
  pub from : first ≤ n
  pub below : n < first + count

-- the writes of a row, each with success
abbrev pub row_acts : ℕ → Pages → List DiskAct
row_acts first [] = []
row_acts first (page ∷ pages) = Wrote first page ∷ row_acts (first + 1) pages

-- the past with more acts, where it is told
abbrev pub then_acts : Past → List DiskAct → Past
then_acts past acts = record past { trail = past.trail ++ acts }

abbrev pub with_acts : Option Past → List DiskAct → Option Past
with_acts told acts = option_map (λ past. then_acts past acts) told

-- the past as it was after this number of acts
abbrev pub moment : Past → ℕ → Past
moment past count = record past { trail = take count past.trail }

-- new is old and what was done since
pub record GoesOn (old new : Past) : Type 0 where
  pub start : new.start ≡ old.start
  pub trail : (acts : List DiskAct) × (new.trail ≡ old.trail ++ acts)

-- new is old and what was done since, which wrote only pages of the region
pub record WritesIn (region : ℕ → Type 0) (old new : Past) : Type 0 where
  pub start : new.start ≡ old.start
  pub trail : (acts : List DiskAct) × (new.trail ≡ old.trail ++ acts) × AllByRecursion (IsActIn region) acts

-- new goes on from old, and at each moment from old on each image has P
pub record Keeps (P : Pages → Type 0) (old new : Past) : Type 0 where
  pub goes_on : GoesOn old new
  pub each :
      (count : ℕ) → length old.trail ≤ count → count ≤ length new.trail →
      (image : Pages) → IsImage (moment new count) image → P image

-- both are told and R holds of them, or neither is
abbrev pub Both : (Past → Past → Type 0) → Option Past → Option Past → Type 0
Both R None None = ⊤
Both R (Some old) (Some new) = R old new
Both R None (Some new) = ⊥
Both R (Some old) None = ⊥

-- at each moment from old on, each image has P
abbrev pub AtEach : Option Past → Option Past → (Pages → Type 0) → Type 0
AtEach old new P = Both (Keeps P) old new

-- from old on, only pages of the region were written
abbrev pub WritesOnly : Option Past → Option Past → (ℕ → Type 0) → Type 0
WritesOnly old new region = Both (WritesIn region) old new

-- P lasts over each write of a page of the region
abbrev pub LastsOver : (ℕ → Type 0) → (Pages → Type 0) → Type 0
LastsOver region P =
    (image : Pages) (n : ℕ) (bytes : Page) → region n → n < length image → P image → P (slice_set image n bytes)
