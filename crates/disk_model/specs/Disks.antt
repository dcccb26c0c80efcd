-- What contracts see of the disks in memory.
use Rattle.std.specs.Prelude.{ℕ, ◌≡◌, ◌⊎◌, ◌↔◌, ◌+◌, ◌-◌, ◌^◌, ◌<◌, ◌≤◌, min, Bool, true, false, List, [], ◌∷◌, ◌++◌, length, drop, Option, None, Some, Result, IsErr, OnOk, OnErr}
use Rattle.std.specs.List.{Contains}
use Rattle.disk_model.specs.declared.act.DiskAct.{DiskAct}
use Rattle.disk_model.specs.declared.act.DiskAct.TheVariants.{Wrote, Failed, Synced}
use Rattle.disk_model.specs.Past.{Page, Pages, page_at, Past, IsPast, then_act, state_of, MayRead}
use Rattle.disk_model.specs.Images.{contents}

-- a count after one more, which stands still at the last value of its type
abbrev pub one_more : ℕ → ℕ
one_more count = min (count + 1) (2 ^ 64 - 1)

-- a `QuietDisk`: its pages, and how often it was read
pub record Quiet : Type 0 where
  pub pages : Pages
  pub reads : ℕ

-- A `MemDisk`: its past, the numbers of the calls that are to fail, those of them that it was made with, how
-- many calls came so far, the counts of failures and of reads, and whether memory was wanting for an act.
pub record Mem : Type 0 where
  pub past : Past
  pub failing : List ℕ
  pub made_failing : List ℕ
  pub calls : ℕ
  pub faults : ℕ
  pub reads : ℕ
  pub starved : Bool

-- a new disk that begins with these pages
abbrev pub new_mem : Pages → List ℕ → Mem
new_mem start failing = record {
  past = record { start = start; trail = [] };
  failing = failing;
  made_failing = failing;
  calls = 0;
  faults = 0;
  reads = 0;
  starved = false;
}

-- the calls that are to fail: those that the disk was made with, and maybe one that was named later
abbrev pub all_failing : List ℕ → Option ℕ → List ℕ
all_failing made None = made
all_failing made (Some call) = made ++ call ∷ []

-- the number of the call after this many further ones
abbrev pub call_after : ℕ → Mem → ℕ
call_after count disk = min (disk.calls + count + 1) (2 ^ 64 - 1)

-- the next call is to fail
abbrev pub IsNextListed : Mem → Type 0
IsNextListed disk = Contains disk.failing (one_more disk.calls)

-- after one more call, after one more failure, and where memory was wanting for the act
abbrev pub after_call : Mem → Mem
after_call disk = record disk { calls = one_more disk.calls }

abbrev pub after_fault : Mem → Mem
after_fault disk = record disk { faults = one_more disk.faults }

abbrev pub after_want : Mem → Mem
after_want disk = record disk { faults = one_more disk.faults; starved = true }

-- what a `MemDisk` keeps: the past of a disk, and what stands on its pages now
pub record IsKept (past : Past) (current : Pages) : Type 0 where
  pub told : IsPast (length past.start) past
  pub small : length past.start < 2 ^ 32
  pub now : current ≡ contents past

-- A write that fails adds its act, or finds no memory for it.
abbrev pub FailsWrite : ℕ → Page → Mem → Mem → Type 0
FailsWrite page bytes old new =
    (new ≡ record (after_fault old) { past = then_act old.past (Failed page bytes) }) ⊎ (new ≡ after_want old)

-- What a read of a `MemDisk`, a write and a sync do to it.
pub record ReadsMem {T E : Type 0} (page : ℕ) (old new : Mem) (out : Page) (result : Result T E) : Type 0 where
  pub listed : IsErr result ↔ IsNextListed old
  pub value : OnOk result (out ≡ page_at (contents old.past) page)
  pub ok : OnOk result (new ≡ record (after_call old) { reads = one_more old.reads })
  pub err : OnErr result (new ≡ record (after_fault (after_call old)) { reads = one_more old.reads })

pub record WritesMem {T E : Type 0} (page : ℕ) (bytes : Page) (old new : Mem) (result : Result T E) : Type 0 where
  pub listed : IsNextListed old → IsErr result
  pub wrote : OnOk result (new ≡ record (after_call old) { past = then_act old.past (Wrote page bytes) })
  pub failed : OnErr result
      ((IsNextListed old × FailsWrite page bytes (after_call old) new)
      ⊎ ((¬ IsNextListed old) × (new ≡ after_want (after_call old))))

pub record SyncsMem {T E : Type 0} (old new : Mem) (result : Result T E) : Type 0 where
  pub listed : IsNextListed old → IsErr result
  pub synced : OnOk result (new ≡ record (after_call old) { past = then_act old.past Synced })
  pub failed : OnErr result
      ((IsNextListed old × (new ≡ after_fault (after_call old)))
      ⊎ ((¬ IsNextListed old) × (new ≡ after_want (after_call old))))

-- A `FuseDisk`: the disk within, how many writes and syncs it still passes on, whether it has failed
-- one, and, as it was made, how many it was to pass on, and the acts and faults of the disk within.
pub record Fuse : Type 0 where
  pub inner : Mem
  pub left : ℕ
  pub blown : Bool
  pub allowed : ℕ
  pub acts_before : ℕ
  pub faults_before : ℕ

-- a new fuse
abbrev pub new_fuse : Mem → ℕ → Fuse
new_fuse inner left = record {
  inner = inner;
  left = left;
  blown = false;
  allowed = left;
  acts_before = length inner.past.trail;
  faults_before = inner.faults;
}

-- what no call of a fuse changes
abbrev pub fuse_tie : Fuse → List ℕ
fuse_tie fuse = fuse.allowed ∷ fuse.acts_before ∷ fuse.faults_before ∷ fuse.inner.failing

-- it passes on the next write or sync; it doesn't
pub record PassesOn (fuse : Fuse) : Type 0 where
  pub whole : fuse.blown ≡ false
  pub more : 0 < fuse.left

abbrev pub Blows : Fuse → Type 0
Blows fuse = (fuse.blown ≡ true) ⊎ (fuse.left ≡ 0)

-- how many of the acts are writes and syncs that succeeded
abbrev pub passed_count : List DiskAct → ℕ
passed_count [] = 0
passed_count (Wrote n bytes ∷ acts) = passed_count acts + 1
passed_count (Failed n bytes ∷ acts) = passed_count acts
passed_count (Synced ∷ acts) = passed_count acts + 1

-- how many the fuse has passed on that succeeded within
abbrev pub passed_by : Fuse → ℕ
passed_by fuse = passed_count (drop fuse.acts_before fuse.inner.past.trail)

-- No call is to fail, and none found memory wanting.
pub record IsSound (disk : Mem) : Type 0 where
  pub failing : disk.failing ≡ []
  pub starved : disk.starved ≡ false

-- How a fuse's trail goes with its count. It has passed on what it was allowed to at most. Where the disk
-- within is sound it has passed on just what isn't left, and as long as it isn't blown no call has failed.
pub record IsFuse (fuse : Fuse) : Type 0 where
  pub acts : fuse.acts_before ≤ length fuse.inner.past.trail
  pub most : passed_by fuse + fuse.left ≤ fuse.allowed
  pub exact : IsSound fuse.inner → passed_by fuse + fuse.left ≡ fuse.allowed
  pub blown : fuse.blown ≡ true → fuse.left ≡ 0
  pub quiet : IsSound fuse.inner → fuse.blown ≡ false → fuse.inner.faults ≡ fuse.faults_before

-- the first pages as a disk with this past may give them
pub record ReadsPages (past : Past) (count : ℕ) (pages : Pages) : Type 0 where
  pub size : length pages ≡ count
  pub each : (n : ℕ) → n < count → MayRead (state_of past n) (page_at pages n)
