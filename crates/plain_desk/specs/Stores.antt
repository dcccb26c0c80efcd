-- A store, as contracts see it, and what a lane's desk at it is seen as.
use Rattle.std.specs.Prelude.{All, Bool, drop, true, false, ◌⊎◌, ◌≡◌, ◌≢◌, ◌<◌, ◌≤◌, ◌&&◌, ℕ, ◌==◌, List, [], ◌∷◌, ◌++◌, length, Option, Some, None, IfSome, if◌then◌else◌}
use Rattle.std.specs.List.{list_all}
use Rattle.image_layout.specs.declared.ImageKind.{ImageKind}
use Rattle.pkg_merkle.specs.declared.hasher.TheConstants.{BYTES_LIMIT}
use Rattle.store_model.specs.declared.events.Event.{Event}
use Rattle.store_model.specs.declared.events.LookedAt.{LookedAt}
use Rattle.pkg_names.specs.NameAndVariant.{NameAndVariant}
use Rattle.package_indexes.specs.declared.Choice.{Choice}
use Rattle.store_model.specs.declared.events.Act.TheVariants as acts
use Rattle.pkg_names.specs.Root.{root_eq}
use Rattle.pkg_merkle.specs.Merkle.{merkle_root}
use Rattle.fetch_queue.specs.declared.FetchEnd.{FetchEnd}
use Rattle.fetch_queue.specs.declared.FetchEnd.TheVariants as ends
use Rattle.store_model.specs.declared.ends.BeginEnd.{BeginEnd}
use Rattle.store_model.specs.declared.ends.BeginEnd.TheVariants as begins
use Rattle.store_model.specs.declared.replies.BeginReply.{BeginReply}
use Rattle.store_model.specs.declared.ends.ReadEnd.{ReadEnd}
use Rattle.store_model.specs.declared.ends.CheckEnd.{CheckEnd}
use Rattle.store_model.specs.declared.replies.ReadReply.{ReadReply}
use Rattle.store_model.specs.declared.replies.CheckReply.{CheckReply}
use Rattle.store_model.specs.State.{State, has_root, is_stored}
use Rattle.store_model.specs.Files.{found}
use Rattle.store_model.specs.Files.Found.{Outer}
use Rattle.store_model.specs.Replies.{Acts, Looks, IsBegun, IsRead, IsChecked}
use Rattle.store_model.specs.History.{Origin, of_lane}
use Rattle.store_model.specs.Holding.{HeldClaim, held}
use Rattle.pkg_names.specs.declared.root.Root.{Root}
use Rattle.store_model.specs.Desk.{View, Keeping, filler_of}
use Rattle.store_model.specs.Desk.Keeping.{Blob, Image}
use Rattle.store_model.specs.Calls.{HasByteOf}
use Rattle.plain_stock.specs.Contents.{AreBytesOf}
use Rattle.store_model.specs.Systems.{seen_bytes}
use Rattle.store_model.specs.declared.events.Act.{Act}
use Rattle.plain_ledger.specs.Ledgers.{LedgerOf, Agrees, Notes, event_by, next_number}
pub use Rattle.plain_drafts.specs.Drafts.{DraftOf, Drafted, added, bytes_in, len_in, draft_of, draft_with}
pub use Rattle.plain_drafts.specs.Drafts.{room_in, without_draft}
pub use Rattle.plain_drafts.specs.Images.{ImagesOf, IsAppended, image_of, without_fillers}
pub use Rattle.plain_desk.specs.Memory.{AreOfMemory, InMemory, IsOfMemory, is_of_memory}
pub use Rattle.plain_desk.specs.Memory.{checks_in_memory, reads_in_memory}

-- what contracts see of a store
pub record StoreOf : Type 0 where
  pub origin : Origin
  pub history : List Event
  pub drafts : List DraftOf
  pub images : ImagesOf

-- what is seen of a lane's desk at the store, which has this tie
abbrev pub view_of : List ℕ → ℕ → StoreOf → View
view_of tie lane s = record {
  lane = lane;
  tie = tie;
  origin = s.origin;
  seen = s.history;
  mine = of_lane lane s.history;
  fillers = s.images.fillers;
}

-- What came to the history is the lane's, and tells of no disk.
pub record AddsOwn (lane : ℕ) (old new : List Event) : Type 0 where
  pub more : List Event
  pub own : All (λ (e : Event). e.lane ≡ lane) more
  pub steady : AreOfMemory more
  pub history : new ≡ old ++ more

-- each event behind the first so many is the lane's, and tells of no disk
abbrev pub are_own : ℕ → ℕ → List Event → Bool
are_own lane began history =
    list_all (λ (e : Event). e.lane == lane) (drop began history) && list_all is_of_memory (drop began history)

-- Each other lane's events are what they were.
abbrev pub LeavesOthers : ℕ → List Event → List Event → Type 0
LeavesOthers lane old new = (other : ℕ) → lane ≢ other → of_lane other new ≡ of_lane other old

-- Each other lane has the room that it had, and has put the same bytes there.
abbrev pub LeavesDrafts : ℕ → List DraftOf → List DraftOf → Type 0
LeavesDrafts lane old new =
    (other : ℕ) → lane ≢ other
    → (room_in new other ≡ room_in old other) × (draft_of new other ≡ draft_of old other)

-- The call was the lane's: what came is its own, and what other lanes have put stays.
pub record IsOwnCall (lane : ℕ) (old new : StoreOf) : Type 0 where
  pub events : AddsOwn lane old.history new.history
  pub drafts : LeavesDrafts lane old.drafts new.drafts

-- the bytes that the lane's desk stands for
abbrev pub kept_for : ℕ → StoreOf → Keeping → List ℕ → Type 0
kept_for lane s Blob bytes = bytes ≡ draft_of s.drafts lane
kept_for lane s (Image image) bytes = bytes ≡ image_of s.images image

-- ---- what holds of the parts of each store

abbrev number_or_zero : Option ℕ → ℕ
number_or_zero None = 0
number_or_zero (Some n) = n

abbrev pub len_of : Option HeldClaim → ℕ
len_of None = 0
len_of (Some claim) = number_or_zero claim.len

-- the length of the room that was made for the lane's claim
abbrev pub room_of : ℕ → List Event → ℕ
room_of lane history = len_of (held (of_lane lane history)).claim

-- Each lane's draft has the room that was made for its claim, and no more bytes. No room is larger than a blob may be.
pub record HaveRoom (drafts : List DraftOf) (history : List Event) : Type 0 where
  pub rooms : (lane : ℕ) → room_in drafts lane ≡ room_of lane history
  pub enough : (lane : ℕ) → length (draft_of drafts lane) ≤ room_in drafts lane
  pub short : (lane : ℕ) → room_in drafts lane ≤ BYTES_LIMIT

-- an image with a filler is made of files with its root
abbrev pub AreFilled : ImagesOf → Type 0
AreFilled s = (image : ImageKind) → IfSome (filler_of s.fillers image)
    (λ root. (place : ℕ) → place < length (image_of s image) → HasByteOf root (image_of s image) place)

-- The ledger's history is legal and its state the one after it. The bytes are those of its stock. No write failed,
-- and no event tells of a disk.
pub record IsStore (l : LedgerOf) (blobs : List LookedAt) (drafts : List DraftOf) (images : ImagesOf) : Type 0 where
  pub holds : Agrees l
  pub stored : AreBytesOf blobs l.state.stock
  pub roomy : HaveRoom drafts l.history
  pub filled : AreFilled images
  pub unbroken : l.state.broken ≡ None
  pub steady : AreOfMemory l.history

-- these blobs have no bytes any more, and the others have theirs
abbrev pub AreRemoved : List Root → List LookedAt → List LookedAt → Type 0
AreRemoved roots old new =
    (other : Root) → seen_bytes new other ≡ (if has_root roots other then None else seen_bytes old other)

-- The lane's event came, of which this is so, and what is claimed stays.
pub record Clears (lane : ℕ) (IsIts : ℕ → Event → Type 0) (old new : LedgerOf) : Type 0 where
  pub act : Act
  pub its : IsIts (next_number old) (event_by lane act)
  pub notes : Notes old lane act new
  pub claims : new.state.claims ≡ old.state.claims

-- the room that a lane has once it has asked for it
abbrev pub room_after : ℕ → Option FetchEnd → ℕ
room_after len None = len
room_after len (Some end) = 0

-- too few bytes, or others
abbrev pub IsLandingEnd : Root → ℕ → List ℕ → FetchEnd → Type 0
IsLandingEnd root len bytes (ends.Short have) = (have ≡ length bytes) × (length bytes < len)
IsLandingEnd root len bytes (ends.Wrong got) =
    (length bytes ≡ len) × (merkle_root bytes ≡ got) × (root_eq root got ≡ false)
IsLandingEnd root len bytes end = ⊥

-- The lane's claimed blob was stored. If something was looked at, it was the blob.
pub record HasLanded (lane : ℕ) (root : Root) (bytes : List ℕ) (old new : LedgerOf) : Type 0 where
  pub seen : List LookedAt
  pub notes : Notes old lane (acts.Land root (length bytes) None seen) new
  pub carries : (seen ≡ []) ⊎ (seen ≡ record { root = root; bytes = bytes } ∷ [])

-- the lane's bytes, in this room, were stored, or were too few or others
abbrev pub IsLandedAs : ℕ → Root → ℕ → List ℕ → Option FetchEnd → LedgerOf → LedgerOf → Type 0
IsLandedAs lane root len bytes None old new =
    (length bytes ≡ len) × (merkle_root bytes ≡ root) × HasLanded lane root bytes old new
IsLandedAs lane root len bytes (Some end) old new =
    IsLandingEnd root len bytes end × Notes old lane (acts.Land root len (Some end) []) new

-- ---- replies

-- why nothing arrives, though nothing failed
abbrev pub IsRefusal : BeginEnd → Type 0
IsRefusal begins.InRecovery = Unit {0}
IsRefusal begins.NotFound = Unit {0}
IsRefusal begins.ListingFault = Unit {0}
IsRefusal reply = ⊥

-- the reply tells this end
abbrev pub IsBegunAs : BeginEnd → BeginReply → Type 0
IsBegunAs end reply = (path : NameAndVariant) (choice : Choice) (number : ℕ) (e : Event)
    → Looks (acts.Begin path choice end) e → IsBegun path choice reply number e

abbrev pub IsReadAs : ReadEnd → ReadReply → Type 0
IsReadAs end reply = (dir : ℕ) (file : List ℕ) (number : ℕ) (e : Event)
    → Acts (acts.Read dir file end) e → IsRead dir file reply number e

abbrev pub IsCheckedAs : CheckEnd → CheckReply → Type 0
IsCheckedAs end reply = (dir : ℕ) (file : List ℕ) (number : ℕ) (e : Event)
    → Acts (acts.Check dir file end) e → IsChecked dir file reply number e

-- a file that is a blob of its own is stored
abbrev pub IsFileThere : State → ℕ → ℕ → List ℕ → Type 0
IsFileThere s lane dir file = (root : Root) → found s lane dir file ≡ Outer root → is_stored s.stock root ≡ true
