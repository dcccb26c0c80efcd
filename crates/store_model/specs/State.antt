-- The state of the store: lists, and look-ups in them.
use Rattle.std.specs.Prelude.{◌≡◌, ℕ, ◌==◌, ◌&&◌, ◌||◌, not, Bool, true, false, List, [], ◌∷◌, map, filter, find, replicate, Option, Some, None, is_some, if◌then◌else◌}
use Rattle.std.specs.List.{list_any}
use Rattle.abr_record.specs.declared.Record.{Record}
use Rattle.abr_record.specs.declared.Slot.{Slot}
use Rattle.abr_record.specs.declared.Slot.TheVariants.{A, B, R}
use Rattle.abr_record.specs.Boot.{is_bootable}
use Rattle.abr_record.specs.Marks.{unbootable_slot}
use Rattle.image_layout.specs.declared.geometry.Geometry.{Geometry}
use Rattle.image_layout.specs.declared.Sys.{Sys}
use Rattle.image_layout.specs.Sums.{image_sum}
use Rattle.fetch_queue.specs.declared.FetchEnd.{FetchEnd}
use Rattle.fetch_queue.specs.declared.queue.ClaimEntry.{ClaimEntry}
use Rattle.open_tracker.specs.declared.dirs.DirEntry.{DirEntry}
use Rattle.pkg_names.specs.NameAndVariant.{NameAndVariant}
use Rattle.pkg_names.specs.declared.root.Root.{Root}
use Rattle.pkg_names.specs.declared.pinned.Pinned.{Pinned}
use Rattle.pkg_names.specs.Root.{root_eq}
use Rattle.package_book.specs.Books.{Books}
use Rattle.package_indexes.specs.Indexes.{protected}

-- a blob that is stored
pub record Stored : Type 0 where
  pub root : Root
  pub len : ℕ

-- a package that arrives: its ticket, who holds it, and how the fetch of one of its blobs ended
pub record Arrival : Type 0 where
  pub ticket : ℕ
  pub lane : ℕ
  pub path : NameAndVariant
  pub root : Root
  pub mark : Option FetchEnd

-- how far an update has come
pub data Phase : Type 0 where
  Filling : Phase
  Sealed : Sys → Phase
  Done : Phase

pub record Stage : Type 0 where
  pub lane : ℕ
  pub phase : Phase

-- what lasts: the stock, the boot record, and the systems of A and B
pub record Standing : Type 0 where
  pub stock : List Stored
  pub abr : Record
  pub a : Option Sys
  pub b : Option Sys

pub record State : Type 0 where
  -- never changes
  pub geometry : Geometry
  -- the boot is over
  pub booted : Bool
  pub stock : List Stored
  pub books : Books
  -- the blobs that lanes fetch, each with the length of the room that was made for it
  pub claims : List ClaimEntry
  pub arriving : List Arrival
  pub base : List Pinned
  pub cached : List Pinned
  pub active : List Pinned
  pub retained : List Root
  pub dirs : List DirEntry
  pub abr : Record
  pub a : Option Sys
  pub b : Option Sys
  pub running : Slot
  pub stage : Option Stage
  -- the base of the system that the next boot starts, where an update has activated one
  pub staged : Option (List Pinned)
  -- the number of the event in which a write to the disk failed
  pub broken : Option ℕ

-- ---- how it begins, and what of it lasts

-- the state before the boot
abbrev pub opened : Geometry → Standing → State
opened g d = record {
  geometry = g;
  booted = false;
  stock = d.stock;
  books = [];
  claims = [];
  arriving = [];
  base = [];
  cached = [];
  active = [];
  retained = [];
  dirs = [];
  abr = d.abr;
  a = d.a;
  b = d.b;
  running = R;
  stage = None;
  staged = None;
  broken = None;
}

-- The state in which a first image is made: nothing is stored, and B runs, as a system of no files and
-- of epoch 0.
abbrev pub factory : Geometry → State
factory g = record (opened g (record {
  stock = [];
  abr = record {
    a = unbootable_slot;
    b = record { priority = 15; tries = 0; successful = true };
    one_shot = 0;
  };
  a = None;
  b = Some (record { system = record { 0 = replicate 32 0 }; epoch = 0; zbi = image_sum []; vbmeta = image_sum [] });
})) { booted = true; running = B }

-- what the state leaves to the next boot; a slot that can't be booted has no system
abbrev pub durable : State → Standing
durable s = record {
  stock = s.stock;
  abr = s.abr;
  a = if is_bootable s.abr.a then s.a else None;
  b = if is_bootable s.abr.b then s.b else None;
}

-- ---- the stock

-- the length of a stored blob
abbrev pub stored_len : List Stored → Root → Option ℕ
stored_len [] root = None
stored_len (blob ∷ blobs) root = if root_eq blob.root root then Some blob.len else stored_len blobs root

abbrev pub is_stored : List Stored → Root → Bool
is_stored stock root = is_some (stored_len stock root)

abbrev pub stock_roots : List Stored → List Root
stock_roots stock = map (λ (blob : Stored). blob.root) stock

-- a root is in a list
abbrev pub has_root : List Root → Root → Bool
has_root roots root = list_any (λ other. root_eq other root) roots

-- the stock but these blobs
abbrev pub without_blobs : List Stored → List Root → List Stored
without_blobs stock roots = filter (λ (blob : Stored). not (has_root roots blob.root)) stock

-- ---- claims, tickets, stages

-- the claim of a root
abbrev pub claim_of : List ClaimEntry → Root → Option ClaimEntry
claim_of claims root = find (λ (claim : ClaimEntry). root_eq claim.root root) claims

-- the lane holds a claim
abbrev pub holds_claim : List ClaimEntry → ℕ → Bool
holds_claim claims lane = list_any (λ (claim : ClaimEntry). claim.lane == lane) claims

-- the arrival with a ticket
abbrev pub arrival_of : List Arrival → ℕ → Option Arrival
arrival_of arriving ticket = find (λ (arrival : Arrival). arrival.ticket == ticket) arriving

-- the arrivals but that of a ticket
abbrev pub without_ticket : List Arrival → ℕ → List Arrival
without_ticket arriving ticket = filter (λ (arrival : Arrival). not (arrival.ticket == ticket)) arriving

-- the update is this lane's, and has come so far
abbrev pub IsStageOf : State → ℕ → Phase → Type 0
IsStageOf s lane phase = s.stage ≡ Some (record { lane = lane; phase = phase })

-- ---- slots

abbrev pub is_recovery : Slot → Bool
is_recovery A = false
is_recovery B = false
is_recovery R = true

-- the other slot of A and B; R has none
abbrev pub other_slot : Slot → Slot
other_slot A = B
other_slot B = A
other_slot R = R

-- the slot is marked successful
abbrev pub is_successful : Record → Slot → Bool
is_successful abr A = abr.a.successful
is_successful abr B = abr.b.successful
is_successful abr R = false

-- one of A and B that doesn't run can be booted
abbrev pub is_other_bootable : Record → Slot → Bool
is_other_bootable abr A = is_bootable abr.b
is_other_bootable abr B = is_bootable abr.a
is_other_bootable abr R = is_bootable abr.a || is_bootable abr.b

-- the system in a slot, where one is sealed there
abbrev pub sys_of : State → Slot → Option Sys
sys_of s A = s.a
sys_of s B = s.b
sys_of s R = None

abbrev pub with_sys : State → Slot → Option Sys → State
with_sys s A sys = record s { a = sys }
with_sys s B sys = record s { b = sys }
with_sys s R sys = s

abbrev epoch_in : Option Sys → ℕ
epoch_in None = 0
epoch_in (Some sys) = sys.epoch

-- the epoch of the running system
abbrev pub running_epoch : State → ℕ
running_epoch s = epoch_in (sys_of s s.running)

-- ---- what is protected, and whether the running system is to stay

-- the packages that the state protects
abbrev pub protected_in : State → List Root
protected_in s =
    protected s.base s.cached s.active s.retained (map (λ (a : Arrival). a.root) s.arriving)
    (map (λ (d : DirEntry). d.root) s.dirs)

-- The running system has succeeded, and no other is booted next but one that an update has activated.
abbrev pub is_committed : State → Bool
is_committed s = is_successful s.abr s.running && (not (is_other_bootable s.abr s.running) || is_some s.staged)

-- A or B runs, and isn't committed
abbrev pub is_pending : State → Bool
is_pending s = not (is_recovery s.running) && not (is_committed s)
