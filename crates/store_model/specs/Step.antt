-- Which event is due in a state, and the state after it.
use Rattle.std.specs.Prelude.{◌≡◌, ℕ, ◌||◌, not, Bool, true, false, List, [], Some, None, is_some, IsSomeAnd, if◌then◌else◌}
use Rattle.fetch_queue.specs.Fetches.{without_claim}
use Rattle.fetch_queue.specs.declared.queue.ClaimEntry.{ClaimEntry}
use Rattle.store_model.specs.declared.events.Event.{Event}
use Rattle.store_model.specs.declared.events.Act.{Act}
use Rattle.store_model.specs.declared.events.Act.TheVariants.{Boot, Begin, Want, Room, Put, Land, Missed, GaveUp, OpenPath, Read, Check, Close, Collect, Retain, Stage, Copy, Seal, Activate, LeftStage, Commit, Reject, Refused}
use Rattle.store_model.specs.declared.events.LookedAt.{LookedAt}
use Rattle.store_model.specs.State.{State, Standing, durable, claim_of, IsStageOf}
use Rattle.store_model.specs.State.Phase.{Filling}
use Rattle.store_model.specs.Settling.{settle, HasLooked, IsSeen}
use Rattle.store_model.specs.Acts.Boot.{IsDueBoot, next_boot}
use Rattle.store_model.specs.Acts.Begin.{IsDueBegin, next_begin}
use Rattle.store_model.specs.Acts.Want.{IsDueWant, next_want}
use Rattle.store_model.specs.Acts.Room.{IsDueRoom, next_room}
use Rattle.store_model.specs.Acts.Put.{IsDuePut, IsRoomOf, next_put}
use Rattle.store_model.specs.Acts.Land.{IsDueLand, next_land}
use Rattle.store_model.specs.Acts.Missed.{IsDueMissed, next_missed}
use Rattle.store_model.specs.Acts.GaveUp.{IsDueGaveUp, next_gave_up}
use Rattle.store_model.specs.Acts.OpenPath.{IsDueOpenPath, next_open_path}
use Rattle.store_model.specs.Acts.Read.{IsDueRead}
use Rattle.store_model.specs.Acts.Check.{IsDueCheck}
use Rattle.store_model.specs.Acts.Close.{IsDueClose, next_close}
use Rattle.store_model.specs.Acts.Collect.{IsDueCollect, next_collect}
use Rattle.store_model.specs.Acts.Retain.{IsDueRetain, next_retain}
use Rattle.store_model.specs.Acts.Stage.{IsDueStage, next_stage}
use Rattle.store_model.specs.Acts.Copy.{IsDueCopy, copy_end}
use Rattle.store_model.specs.Acts.Seal.{IsDueSeal, next_seal}
use Rattle.store_model.specs.Acts.Activate.{IsDueActivate, next_activate}
use Rattle.store_model.specs.Acts.LeftStage.{IsDueLeftStage, next_left_stage}
use Rattle.store_model.specs.Acts.Commit.{IsDueCommit, next_commit}
use Rattle.store_model.specs.Acts.Refused.{IsDueRefused, next_refused}

-- the blobs that an act first looked at
abbrev pub seen_by : Act → List LookedAt
seen_by (Boot slot seen) = seen
seen_by (Begin path choice reply seen) = seen
seen_by (Land root len reply seen) = seen
seen_by (Retain roots reply seen) = seen
seen_by (Activate reply seen) = seen
seen_by act = []

-- the state that the act leaves, but for the books
abbrev pub next : State → ℕ → ℕ → Act → State
next s number lane (Boot slot seen) = next_boot s seen
next s number lane (Begin path choice reply seen) = next_begin s number lane path reply
next s number lane (Want ticket reply) = next_want s number lane ticket reply
next s number lane (Room root len reply) = next_room s root len reply
next s number lane (Put root reply) = next_put s root reply
next s number lane (Land root len reply seen) = next_land s root len reply
next s number lane (Missed root why) = next_missed s root why
next s number lane (GaveUp ticket) = next_gave_up s ticket
next s number lane (OpenPath path reply) = next_open_path s number lane reply
next s number lane (Read dir file reply) = s
next s number lane (Check dir file reply) = s
next s number lane (Close dir closed) = next_close s lane dir
next s number lane (Collect reply) = next_collect s reply
next s number lane (Retain roots reply seen) = next_retain s roots reply
next s number lane (Stage epoch reply) = next_stage s lane reply
next s number lane (Copy image dir file reply) = s
next s number lane (Seal sys reply) = next_seal s lane sys reply
next s number lane (Activate reply seen) = next_activate s lane seen reply
next s number lane LeftStage = next_left_stage s
next s number lane (Commit done) = next_commit s done
next s number lane (Reject file why) = s
next s number lane (Refused call broken) = next_refused s call

-- the act's own condition
abbrev pub IsActDue : State → ℕ → Act → Type 0
IsActDue s lane (Boot slot seen) = IsDueBoot s lane slot seen
IsActDue s lane (Begin path choice reply seen) = IsDueBegin s path choice reply
IsActDue s lane (Want ticket reply) = IsDueWant s lane ticket reply
IsActDue s lane (Room root len reply) = IsDueRoom s lane root len reply
IsActDue s lane (Put root reply) = IsDuePut s lane root reply
IsActDue s lane (Land root len reply seen) = IsDueLand s lane root len reply
IsActDue s lane (Missed root why) = IsDueMissed s lane root
IsActDue s lane (GaveUp ticket) = IsDueGaveUp s lane ticket
IsActDue s lane (OpenPath path reply) = IsDueOpenPath s path reply
IsActDue s lane (Read dir file reply) = IsDueRead s lane dir file reply
IsActDue s lane (Check dir file reply) = IsDueCheck s lane dir file reply
IsActDue s lane (Close dir closed) = IsDueClose s lane dir closed
IsActDue s lane (Collect reply) = IsDueCollect s reply
IsActDue s lane (Retain roots reply seen) = IsDueRetain s roots reply
IsActDue s lane (Stage epoch reply) = IsDueStage s epoch reply
IsActDue s lane (Copy image dir file reply) = IsDueCopy s lane image dir file reply
IsActDue s lane (Seal sys reply) = IsDueSeal s lane sys reply
IsActDue s lane (Activate reply seen) = IsDueActivate s lane seen reply
IsActDue s lane LeftStage = IsDueLeftStage s lane
IsActDue s lane (Commit done) = IsDueCommit s done
IsActDue s lane (Reject file why) = Unit {0}
IsActDue s lane (Refused call broken) = IsDueRefused s lane call broken

-- ---- a write that fails

-- what the act leaves in the record or the stock is new
abbrev pub Changes : State → State → Type 0
Changes old new = new.abr ≡ old.abr → new.stock ≡ old.stock → ⊥

-- The call may write to the disk in this state: bytes of a blob that has room, an image of a slot that is
-- filled, or else what its answer changes in the record or the stock. Such an event has the answer that
-- was meant.
abbrev pub MayWrite : State → ℕ → ℕ → Act → Type 0
MayWrite s number lane (Put root reply) =
    (reply ≡ None) × ((len : ℕ) × IsSomeAnd (claim_of s.claims root) (IsRoomOf lane len))
MayWrite s number lane (Land root len reply seen) =
    (reply ≡ None) × (seen ≡ []) × IsSomeAnd (claim_of s.claims root) (IsRoomOf lane len)
MayWrite s number lane (Copy image dir file reply) =
    (reply ≡ None) × IsStageOf s lane Filling × (copy_end s lane image dir file ≡ None)
MayWrite s number lane (Seal sys reply) = (reply ≡ None) × IsStageOf s lane Filling
MayWrite s number lane act = IsActDue s lane act × Changes s (next s number lane act)

-- the claim that a call was handed goes, and marks nothing
abbrev claims_after_break : List ClaimEntry → Act → List ClaimEntry
claims_after_break claims (Put root reply) = without_claim claims root
claims_after_break claims (Land root len reply seen) = without_claim claims root
claims_after_break claims act = claims

-- the state after a call in which a write failed, but for the books
abbrev pub next_broken : State → ℕ → Act → State
next_broken s number act =
    record s { claims = claims_after_break s.claims act; broken = Some number }

-- what would last if the write had not failed; of bytes and images that are only on their way nothing would
abbrev pub meant : State → ℕ → ℕ → Act → Standing
meant s number lane (Put root reply) = durable s
meant s number lane (Copy image dir file reply) = durable s
meant s number lane (Seal sys reply) = durable s
meant s number lane act = durable (next s number lane act)

-- ---- the event

abbrev pub next_of : State → ℕ → Event → State
next_of s number e = if e.broke then next_broken s number e.act else next s number e.lane e.act

-- the state after the event of this number
abbrev pub step : State → ℕ → Event → State
step s number e = settle (seen_by e.act) (next_of s number e)

abbrev pub is_boot : Act → Bool
is_boot (Boot slot seen) = true
is_boot act = false

-- an end of what a lane holds, or a refusal: these come after a write that failed, too
abbrev pub is_end : Act → Bool
is_end (Missed root why) = true
is_end (GaveUp ticket) = true
is_end (Close dir closed) = true
is_end LeftStage = true
is_end (Refused call broken) = true
is_end act = false

-- its own condition is met, or it may write and a write failed
abbrev pub IsActDueIf : Bool → State → ℕ → ℕ → Act → Type 0
IsActDueIf false s number lane act = IsActDue s lane act
IsActDueIf true s number lane act = MayWrite s number lane act × (s.broken ≡ None)

-- the event may come in the state, as the one of this number
pub record IsDue (s : State) (number : ℕ) (e : Event) : Type 0 where
  -- the boot comes first, and once
  pub boots : is_boot e.act ≡ not s.booted
  pub goes_on : (is_end e.act || not (is_some s.broken)) ≡ true
  pub due : IsActDueIf e.broke s number e.lane e.act
  -- it looked at each protected package that it has to know, and what it saw is there
  pub looked : HasLooked (seen_by e.act) (next_of s number e)
  pub seen : IsSeen (seen_by e.act) (next_of s number e).stock
