-- Which crash image a restart is asked for.
use Rattle.std.specs.Prelude.{ℕ, ◌≡◌, ◌≢◌, ◌+◌, ◌<◌, ◌≤◌, ◌==◌, ⊤, if◌then◌else◌, Bool, true, false, List, [], ◌∷◌, length, take, nat_lt, slice_get, slice_set, slice_index_or, Option, Some, None, IsSome}
use Rattle.std.specs.List.{All, AllPairs, Contains}
use Rattle.disk_model.specs.declared.act.DiskAct.{DiskAct}
use Rattle.disk_model.specs.declared.act.DiskAct.TheVariants.{Wrote, Failed, Synced}
use Rattle.disk_model.specs.declared.power_loss.Pick.{Pick}
use Rattle.disk_model.specs.declared.power_loss.RestartFault.{RestartFault}
use Rattle.disk_model.specs.declared.power_loss.RestartFault.TheVariants.{BadPick, NoMemory}
use Rattle.disk_model.specs.Past.{Page, Pages, page_at, Past}
use Rattle.disk_model.specs.Images.{contents_after}

abbrev pub is_sync : DiskAct → Bool
is_sync (Wrote n bytes) = false
is_sync (Failed n bytes) = false
is_sync Synced = true

-- how many acts there are up to the last sync, with it; 0 where there is none
abbrev pub synced_len : List DiskAct → ℕ
synced_len [] = 0
synced_len (act ∷ acts) = if nat_lt 0 (synced_len acts) then synced_len acts + 1 else (if is_sync act then 1 else 0)

-- what stood on the pages at the last sync
abbrev pub synced_contents : Past → Pages
synced_contents past = contents_after (take (synced_len past.trail) past.trail) past.start

-- what the act writes to this page, made or failed
abbrev pub value_on : ℕ → Option DiskAct → Option Page
value_on page (Some (Wrote n bytes)) = if n == page then Some bytes else None
value_on page (Some (Failed n bytes)) = if n == page then Some bytes else None
value_on page (Some Synced) = None
value_on page None = None

-- the value of a pick: its act comes after the last sync and writes its page
abbrev pub pick_value : List DiskAct → Pick → Option Page
pick_value trail pick =
    if nat_lt pick.act (synced_len trail) then None else value_on pick.page (slice_get trail pick.act)

-- each pick has a value, and no page is picked twice
pub record AreGood (trail : List DiskAct) (picks : List Pick) : Type 0 where
  pub each : All (λ pick. IsSome (pick_value trail pick)) picks
  pub apart : AllPairs (λ a b. a.page ≢ b.page) picks

-- The picks before this one are good, and with it they aren't.
pub record IsFirstBad (trail : List DiskAct) (picks : List Pick) (n : ℕ) : Type 0 where
  pub before : AreGood trail (take n picks)
  pub bad : AreGood trail (take (n + 1) picks) → ⊥

-- why a restart fails
abbrev pub HasCause : List DiskAct → List Pick → RestartFault → Type 0
HasCause trail picks (BadPick n) = IsFirstBad trail picks n
HasCause trail picks NoMemory = ⊤

-- new is old with the value of each pick on its page
pub record Takes (trail : List DiskAct) (picks : List Pick) (old new : Pages) : Type 0 where
  pub size : length new ≡ length old
  pub picked : All (λ pick. pick_value trail pick ≡ Some (page_at new pick.page)) picks
  pub others : (n : ℕ) → All (λ pick. pick.page ≢ n) picks → page_at new n ≡ page_at old n

-- No act after that of the pick writes its page, made or failed, and no sync comes after it.
pub record IsLastPick (trail : List DiskAct) (pick : Pick) : Type 0 where
  pub writes : IsSome (pick_value trail pick)
  pub last : (act : ℕ) → pick.act < act → value_on pick.page (slice_get trail act) ≡ None

-- these and no other picks are such, and they stand in the order of their pages
pub record AreLastPicks (trail : List DiskAct) (picks : List Pick) : Type 0 where
  pub each : All (IsLastPick trail) picks
  pub all : (pick : Pick) → IsLastPick trail pick → Contains picks pick
  pub order : AllPairs (λ a b. a.page < b.page) picks

-- The last act that writes the page, made or failed, where there is one. It serves the proof, with what follows.
abbrev pub IsLastAct : List DiskAct → ℕ → Option ℕ → Type 0
IsLastAct trail page None = (act : ℕ) → value_on page (slice_get trail act) ≡ None
IsLastAct trail page (Some last) =
    IsSome (value_on page (slice_get trail last))
    × ((act : ℕ) → last < act → value_on page (slice_get trail act) ≡ None)

-- the number of an act, noted at the page that it writes
abbrev pub noted : DiskAct → ℕ → List (Option ℕ) → List (Option ℕ)
noted (Wrote n bytes) act last = slice_set last n (Some act)
noted (Failed n bytes) act last = slice_set last n (Some act)
noted Synced act last = last

-- the pick of a page with this last act, where that comes after the last sync
abbrev pub picked : ℕ → ℕ → Option ℕ → List Pick
picked synced page None = []
picked synced page (Some act) = if nat_lt act synced then [] else (record { page = page; act = act } ∷ [])

-- the picks of the first pages, by the last act of each
pub record HasPicks (last : List (Option ℕ)) (synced count : ℕ) (picks : List Pick) : Type 0 where
  pub each : All (λ pick. slice_index_or last pick.page None ≡ Some pick.act) picks
  pub late : All (λ pick. synced ≤ pick.act) picks
  pub below : All (λ pick. pick.page < count) picks
  pub all :
      (pick : Pick) → pick.page < count → synced ≤ pick.act → slice_index_or last pick.page None ≡ Some pick.act →
      Contains picks pick
  pub order : AllPairs (λ a b. a.page < b.page) picks
