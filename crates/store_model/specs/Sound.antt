-- What holds of the state after each history that is legal from a well-formed beginning.
use Rattle.std.specs.Prelude.{◌≡◌, ℕ, ◌+◌, ◌≤◌, true, false, List, All, length, filter, Some, is_some, IfSome, IsSomeAnd}
use Rattle.pkg_names.specs.declared.root.Root.{Root}
use Rattle.pkg_names.specs.declared.pinned.Pinned.{Pinned}
use Rattle.pkg_merkle.specs.declared.hasher.TheConstants.{BYTES_LIMIT}
use Rattle.abr_record.specs.Boot.{is_bootable}
use Rattle.image_layout.specs.declared.geometry.Geometry.{Geometry}
use Rattle.image_layout.specs.declared.Sys.{Sys}
use Rattle.fetch_queue.specs.declared.queue.ClaimEntry.{ClaimEntry}
use Rattle.open_tracker.specs.declared.dirs.DirEntry.{DirEntry}
use Rattle.package_book.specs.Books.{Books, book_at}
use Rattle.package_indexes.specs.Indexes.{root_at}
use Rattle.system_lists.specs.Judging.{system_path}
use Rattle.store_model.specs.State.{Stored, Standing, State, Phase, Stage, is_stored, has_root, sys_of, other_slot, is_recovery, is_successful, is_other_bootable, protected_in}
use Rattle.store_model.specs.State.Phase.{Filling, Sealed, Done}
use Rattle.store_model.specs.Packages.{stock_pages, claim_pages, is_complete}
use Rattle.store_model.specs.Settling.{KnowsAll}
use Rattle.store_model.specs.Files.{found, found_len}
use Rattle.store_model.specs.Lanes.{AreBlobs, AreClaims}
use Rattle.store_model.specs.History.{Beginning, Origin}
use Rattle.store_model.specs.History.Beginning.{Lasted, Factory}

-- ---- beginnings

-- A store can begin with this: no blob stands twice, none is too long, pages and entries suffice, and a
-- slot has a system exactly where it can be booted.
pub record IsStanding (g : Geometry) (d : Standing) : Type 0 where
  pub blobs : AreBlobs d.stock
  pub lengths : All (λ (blob : Stored). blob.len ≤ BYTES_LIMIT) d.stock
  pub pages : stock_pages d.stock ≤ g.data_pages
  pub nodes : length d.stock ≤ g.blobs
  pub a : is_some d.a ≡ is_bootable d.abr.a
  pub b : is_some d.b ≡ is_bootable d.abr.b

abbrev pub CanBegin : Geometry → Beginning → Type 0
CanBegin g (Lasted d) = IsStanding g d
CanBegin g Factory = Unit {0}

-- what lasted is well formed; a first image can always be made
abbrev pub IsWellFormed : Origin → Type 0
IsWellFormed origin = CanBegin origin.geometry origin.beginning

-- ---- the stock and the claims

-- What is stored and what room was made for is short enough, and has its pages and its entries.
pub record IsInRoom (g : Geometry) (stock : List Stored) (claims : List ClaimEntry) : Type 0 where
  pub lengths : All (λ (blob : Stored). blob.len ≤ BYTES_LIMIT) stock
  pub rooms : All (λ (claim : ClaimEntry). IfSome claim.len (λ len. len ≤ BYTES_LIMIT)) claims
  pub pages : stock_pages stock + claim_pages claims ≤ g.data_pages
  pub nodes : length stock + length (filter (λ (claim : ClaimEntry). is_some claim.len) claims) ≤ g.blobs

-- ---- books and packages

-- the books know each of these packages that is stored, and no other
pub record KnowsExactly (books : Books) (packages : List Root) (stock : List Stored) : Type 0 where
  pub all : KnowsAll books packages stock
  pub among : (root : Root) → is_some (book_at books root) ≡ true → has_root packages root ≡ true
  pub there : (root : Root) → is_some (book_at books root) ≡ true → is_stored stock root ≡ true

-- each package of the base, each active one and each open one is complete
pub record AreComplete (s : State) : Type 0 where
  pub base : All (λ (pair : Pinned). is_complete s pair.root ≡ true) s.base
  pub active : All (λ (pair : Pinned). is_complete s pair.root ≡ true) s.active
  pub dirs : All (λ (dir : DirEntry). is_complete s dir.root ≡ true) s.dirs

-- the lane's file is found as before, and has its length
pub record IsSameFile (old new : State) (lane dir : ℕ) (file : List ℕ) : Type 0 where
  pub same : found new lane dir file ≡ found old lane dir file
  pub len : found_len new (found new lane dir file) ≡ found_len old (found old lane dir file)

-- ---- slots and updates

-- a slot that can be booted has a system, and so has the one that runs
pub record HaveSystems (s : State) : Type 0 where
  pub a : is_bootable s.abr.a ≡ true → is_some s.a ≡ true
  pub b : is_bootable s.abr.b ≡ true → is_some s.b ≡ true
  pub running : is_recovery s.running ≡ false → is_some (sys_of s s.running) ≡ true

-- where A or B runs, the base is that of its system
pub record RunsItsSystem (s : State) : Type 0 where
  pub base : is_recovery s.running ≡ false
      → IsSomeAnd (sys_of s s.running) (λ (sys : Sys). root_at s.base system_path ≡ Some sys.system)

-- the package is retained and complete
pub record IsKept (s : State) (pair : Pinned) : Type 0 where
  pub retained : has_root s.retained pair.root ≡ true
  pub complete : is_complete s pair.root ≡ true

-- An update has activated the system with this base: the running slot has succeeded, and the other one
-- has the system and can be booted. Its packages are retained and complete.
pub record IsActivated (s : State) (base : List Pinned) : Type 0 where
  pub running : is_successful s.abr s.running ≡ true
  pub other : is_other_bootable s.abr s.running ≡ true
  pub system : IsSomeAnd (sys_of s (other_slot s.running)) (λ (sys : Sys). root_at base system_path ≡ Some sys.system)
  pub packages : All (IsKept s) base

-- The other slot is being filled, or is sealed: the running one has succeeded, and the other can't be booted.
pub record IsUnderWay (s : State) : Type 0 where
  pub running : is_successful s.abr s.running ≡ true
  pub other : is_other_bootable s.abr s.running ≡ false

abbrev pub IsInPhase : State → Phase → Type 0
IsInPhase s Filling = IsUnderWay s
IsInPhase s (Sealed sys) = IsUnderWay s
IsInPhase s Done = Unit {0}

-- ---- all of it

pub record IsSound (s : State) : Type 0 where
  pub blobs : AreBlobs s.stock
  pub claims : AreClaims s.claims s.stock
  pub room : IsInRoom s.geometry s.stock s.claims
  pub books : KnowsExactly s.books (protected_in s) s.stock
  pub packages : AreComplete s
  pub slots : HaveSystems s
  pub staged : IfSome s.staged (IsActivated s)
  pub stage : IfSome s.stage (λ (stage : Stage). IsInPhase s stage.phase)
