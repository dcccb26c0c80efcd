-- Room is made for a blob that the lane has claimed, or the fetch ends.
use Rattle.std.specs.Prelude.{◌≡◌, ℕ, nat_le, nat_lt, Option, Some, None, IsSomeAnd, if◌then◌else◌}
use Rattle.pkg_names.specs.declared.root.Root.{Root}
use Rattle.pkg_merkle.specs.declared.hasher.TheConstants.{BYTES_LIMIT}
use Rattle.fetch_queue.specs.declared.FetchEnd.{FetchEnd}
use Rattle.fetch_queue.specs.declared.FetchEnd.TheVariants.{TooLarge, NoNode, NoSpace}
use Rattle.fetch_queue.specs.declared.queue.ClaimEntry.{ClaimEntry}
use Rattle.fetch_queue.specs.Fetches.{with_room}
use Rattle.store_model.specs.State.{State, claim_of}
use Rattle.store_model.specs.Packages.{pages_of, free_pages, nodes}
use Rattle.store_model.specs.Acts.Marking.{ended}

-- why there is no room, or none where there is: the blob is too large, the table is full, or too few
-- pages are free
abbrev pub room_end : State → ℕ → Option FetchEnd
room_end s len =
    if nat_lt BYTES_LIMIT len then Some (TooLarge len)
    else if nat_le s.geometry.blobs (nodes s) then Some NoNode
    else if nat_lt (free_pages s) (pages_of len) then Some (NoSpace (pages_of len) (free_pages s))
    else None

pub record IsRoomless (by : ℕ) (claim : ClaimEntry) : Type 0 where
  pub lane : claim.lane ≡ by
  pub len : claim.len ≡ None

abbrev pub IsDueRoom : State → ℕ → Root → ℕ → Option FetchEnd → Type 0
IsDueRoom s lane root len reply = IsSomeAnd (claim_of s.claims root) (IsRoomless lane) × (reply ≡ room_end s len)

abbrev pub next_room : State → Root → ℕ → Option FetchEnd → State
next_room s root len None = record s { claims = with_room s.claims root len }
next_room s root len (Some end) = ended s root end
