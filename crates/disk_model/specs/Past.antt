-- What a disk tells of its past, and what each act since the start makes of a page.
use Rattle.std.specs.Prelude.{ℕ, ◌≡◌, ◌+◌, ◌^◌, ◌-◌, ◌<◌, ◌≤◌, ◌==◌, ◌⊎◌, ⊤, min, if◌then◌else◌, List, [], ◌∷◌, ◌++◌, length, slice_index, slice_index_or, Option, replicate}
use Rattle.std.specs.Option.{option_map}
use Rattle.std.specs.List.{AllByRecursion, Contains}
use Rattle.disk_model.specs.declared.act.DiskAct.{DiskAct}
use Rattle.disk_model.specs.declared.act.DiskAct.TheVariants.{Wrote, Failed, Synced}

-- the bytes of a page; the pages of a disk, in order
abbrev pub Page : Type 0
Page = List ℕ

abbrev pub Pages : Type 0
Pages = List Page

-- the page of this number
abbrev pub page_at : Pages → ℕ → Page
page_at pages n = slice_index_or pages n []

-- a page of zeros, and this number of them
unfoldable pub zero_page : Page
zero_page = replicate 4096 0

abbrev pub zero_pages : ℕ → Pages
zero_pages count = replicate count zero_page

-- the pages that a disk began with, and what was done to it since, in order
pub record Past : Type 0 where
  pub start : Pages
  pub trail : List DiskAct

-- a page has 4096 bytes
pub record IsPage (page : Page) : Type 0 where
  pub size : length page ≡ 4096
  pub bytes : (i : ℕ) → slice_index page i < 256

-- the act writes a page of the region, or none
abbrev pub IsActIn : (ℕ → Type 0) → DiskAct → Type 0
IsActIn region (Wrote n bytes) = region n
IsActIn region (Failed n bytes) = region n
IsActIn region Synced = ⊤

-- the act has the bytes of a page, or none
abbrev pub HasPage : DiskAct → Type 0
HasPage (Wrote n bytes) = IsPage bytes
HasPage (Failed n bytes) = IsPage bytes
HasPage Synced = ⊤

-- the past of a disk with this number of pages
pub record IsPast (count : ℕ) (past : Past) : Type 0 where
  pub size : length past.start ≡ count
  pub start : AllByRecursion IsPage past.start
  pub range : AllByRecursion (IsActIn (λ n. n < count)) past.trail
  pub bytes : AllByRecursion HasPage past.trail

-- the past with one more act, where it is told
abbrev pub then_act : Past → DiskAct → Past
then_act past act = record past { trail = past.trail ++ act ∷ [] }

abbrev pub with_act : Option Past → DiskAct → Option Past
with_act told act = option_map (λ past. then_act past act) told

-- What may be found at a page: the value written last (or that of the start), the values of the
-- writes that failed since, and older values that no sync has ended yet.
pub record PageState : Type 0 where
  pub older : List Page
  pub now : Page
  pub failed : List Page

-- the state after a write that succeeded, after one that failed, and after a sync
abbrev pub after_wrote : PageState → Page → PageState
after_wrote state bytes = record { older = state.older ++ (state.failed ++ state.now ∷ []); now = bytes; failed = [] }

abbrev pub after_failed : PageState → Page → PageState
after_failed state bytes = record state { failed = state.failed ++ bytes ∷ [] }

abbrev pub after_synced : PageState → PageState
after_synced state = record state { older = [] }

-- what an act makes of the state of page n
abbrev pub after_act : ℕ → PageState → DiskAct → PageState
after_act n state (Wrote page bytes) = if page == n then after_wrote state bytes else state
after_act n state (Failed page bytes) = if page == n then after_failed state bytes else state
after_act n state Synced = after_synced state

abbrev pub after_acts : ℕ → PageState → List DiskAct → PageState
after_acts n state [] = state
after_acts n state (act ∷ acts) = after_acts n (after_act n state act) acts

abbrev pub state_of : Past → ℕ → PageState
state_of past n = after_acts n (record { older = []; now = page_at past.start n; failed = [] }) past.trail

-- a value that a power loss may leave at the page
abbrev pub IsPossible : PageState → Page → Type 0
IsPossible state value = (value ≡ state.now) ⊎ (Contains state.failed value ⊎ Contains state.older value)

-- What was written last, or the value of a write that failed since: a value that no sync ends.
abbrev pub IsLatest : PageState → Page → Type 0
IsLatest state value = (value ≡ state.now) ⊎ Contains state.failed value

-- A read gives what was written last. Where a write has failed since, it gives a possible value.
pub record MayRead (state : PageState) (value : Page) : Type 0 where
  pub possible : IsPossible state value
  pub written : state.failed ≡ [] → value ≡ state.now

-- A count rose by one at least. It stands still at the last value of its type.
abbrev pub Rose : ℕ → ℕ → Type 0
Rose before after = min (before + 1) (2 ^ 64 - 1) ≤ after

abbrev pub RoseBy : ℕ → ℕ → ℕ → Type 0
RoseBy k before after = min (before + k) (2 ^ 64 - 1) ≤ after
