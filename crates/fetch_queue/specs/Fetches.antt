-- The fetches under way: the claims and the marks, each a list in the order in which they came.
use Rattle.std.specs.Prelude.{◌≢◌, ℕ, ◌==◌, not, Bool, List, map, filter, find, Option, Some, None, option_and_then, if◌then◌else◌}
use Rattle.std.specs.List.{AllPairs, list_any}
use Rattle.pkg_names.specs.declared.root.Root.{Root}
use Rattle.pkg_names.specs.Root.{root_eq}
use Rattle.fetch_queue.specs.declared.FetchEnd.{FetchEnd}
use Rattle.fetch_queue.specs.declared.queue.ClaimEntry.{ClaimEntry}
use Rattle.fetch_queue.specs.declared.queue.MarkEntry.{MarkEntry}

pub record Fetches : Type 0 where
  pub claims : List ClaimEntry
  pub marks : List MarkEntry

-- a root has one claim at most, and a ticket stands once
pub record IsFetches (claims : List ClaimEntry) (marks : List MarkEntry) : Type 0 where
  pub roots : AllPairs (λ (a b : ClaimEntry). a.root ≢ b.root) claims
  pub tickets : AllPairs (λ (a b : MarkEntry). a.ticket ≢ b.ticket) marks

-- ---- claims

-- a lane fetches the blob
abbrev pub is_claimed : List ClaimEntry → Root → Bool
is_claimed claims root = list_any (λ (claim : ClaimEntry). root_eq claim.root root) claims

-- the first of the roots that nobody has claimed
abbrev pub first_unclaimed : List ClaimEntry → List Root → Option Root
first_unclaimed claims wanted = find (λ root. not (is_claimed claims root)) wanted

-- the claim, with room of this length if it is the root's
abbrev pub roomed : Root → ℕ → ClaimEntry → ClaimEntry
roomed root len claim = if root_eq claim.root root then record claim { len = Some len } else claim

abbrev pub with_room : List ClaimEntry → Root → ℕ → List ClaimEntry
with_room claims root len = map (roomed root len) claims

-- the claims but the root's
abbrev pub without_claim : List ClaimEntry → Root → List ClaimEntry
without_claim claims root = filter (λ (claim : ClaimEntry). not (root_eq claim.root root)) claims

-- ---- marks

-- how the first fetch ended that ended without its blob; a later end changes nothing
abbrev pub first_mark : Option FetchEnd → FetchEnd → Option FetchEnd
first_mark (Some first) end = Some first
first_mark None end = Some end

-- the ticket's entry gets the mark, if it has none
abbrev pub marked : ℕ → FetchEnd → MarkEntry → MarkEntry
marked ticket end mark = if mark.ticket == ticket then record mark { end = first_mark mark.end end } else mark

abbrev pub with_mark : List MarkEntry → ℕ → FetchEnd → List MarkEntry
with_mark marks ticket end = map (marked ticket end) marks

-- the mark of a ticket, if it has one
abbrev pub mark_of : List MarkEntry → ℕ → Option FetchEnd
mark_of marks ticket =
    option_and_then (λ (mark : MarkEntry). mark.end) (find (λ (mark : MarkEntry). mark.ticket == ticket) marks)

-- the marks but the ticket's
abbrev pub without_ticket : List MarkEntry → ℕ → List MarkEntry
without_ticket marks ticket = filter (λ (mark : MarkEntry). not (mark.ticket == ticket)) marks
