-- What lanes have put together of the blobs that they fetch.
use Rattle.std.specs.Prelude.{◌≡◌, ◌-◌, ◌&&◌, ◌==◌, nat_le, not, filter, find, ℕ, List, [], ◌++◌, length, Option, Some, None, if◌then◌else◌}

-- the room that a lane has for a blob, and the bytes that it has put there
pub record DraftOf : Type 0 where
  pub lane : ℕ
  pub room : ℕ
  pub bytes : List ℕ

abbrev pub draft_with : List DraftOf → ℕ → Option DraftOf
draft_with drafts lane = find (λ (draft : DraftOf). draft.lane == lane) drafts

abbrev pub bytes_in : Option DraftOf → List ℕ
bytes_in None = []
bytes_in (Some draft) = draft.bytes

abbrev pub len_in : Option DraftOf → ℕ
len_in None = 0
len_in (Some draft) = draft.room

-- the bytes under the lane's claim; without a draft there are none
abbrev pub draft_of : List DraftOf → ℕ → List ℕ
draft_of drafts lane = bytes_in (draft_with drafts lane)

-- the room that the lane has for them
abbrev pub room_in : List DraftOf → ℕ → ℕ
room_in drafts lane = len_in (draft_with drafts lane)

-- these bytes come behind those of the draft, if it is the lane's and has room for them
abbrev pub added : ℕ → List ℕ → DraftOf → DraftOf
added lane bytes draft =
    if (draft.lane == lane) && nat_le (length bytes) (draft.room - length draft.bytes)
    then record draft { bytes = draft.bytes ++ bytes } else draft

-- the drafts but the lane's
abbrev pub without_draft : List DraftOf → ℕ → List DraftOf
without_draft drafts lane = filter (λ (draft : DraftOf). not (draft.lane == lane)) drafts

-- the new drafts are the old ones, but this lane has this room and these bytes
pub record Drafted (lane room : ℕ) (bytes : List ℕ) (old new : List DraftOf) : Type 0 where
  pub rooms : (other : ℕ) → room_in new other ≡ (if lane == other then room else room_in old other)
  pub drafts : (other : ℕ) → draft_of new other ≡ (if lane == other then bytes else draft_of old other)
