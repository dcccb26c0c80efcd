-- What a copy of a file makes of an image.
use Rattle.std.specs.Prelude.{◌≡◌, ℕ, ◌<◌, ◌≤◌, List, take, drop, length, Some, None}
use Rattle.image_layout.specs.declared.ImageKind.{ImageKind}
use Rattle.pkg_names.specs.declared.root.Root.{Root}
use Rattle.pkg_merkle.specs.Merkle.{merkle_root}
use Rattle.store_model.specs.declared.ends.TheConstants.{PIECE_LIMIT}
use Rattle.store_model.specs.declared.replies.CopyReply.{CopyReply}
use Rattle.store_model.specs.declared.replies.CopyReply.TheVariants as copy
use Rattle.store_model.specs.State.{State}
use Rattle.store_model.specs.Files.{Found, found, found_len}
use Rattle.store_model.specs.Files.Found.{Inner}
use Rattle.store_model.specs.Acts.Copy.{copy_end}
use Rattle.store_model.specs.Replies.{IsCopied}
use Rattle.store_model.specs.Calls.{HasFileRoot}
use Rattle.plain_ledger.specs.Ledgers.{LedgerOf, Stays, Tells}
use Rattle.plain_desk.specs.Memory.{InMemory}
use Rattle.plain_desk.specs.Stores.{ImagesOf, IsAppended, image_of}

-- what comes of a file after this place, at most a piece
abbrev pub next_part : List ℕ → ℕ → List ℕ
next_part bytes place = take PIECE_LIMIT (drop place bytes)

-- The next part of these bytes, which have this root, came behind those of the image. It has so many now.
pub record CameFrom (image : ImageKind) (root : Root) (bytes : List ℕ) (have : ℕ) (old new : ImagesOf) : Type 0 where
  pub appended : IsAppended image root (next_part bytes (length (image_of old image))) old new
  pub size : have ≡ length (image_of new image)

-- There is more of the file exactly where its length isn't reached.
abbrev pub IsCopiedFrom : ImageKind → Root → List ℕ → ImagesOf → ImagesOf → CopyReply → Type 0
IsCopiedFrom image root bytes old new (copy.More have) = (have < length bytes) × CameFrom image root bytes have old new
IsCopiedFrom image root bytes old new (copy.Whole len) = (length bytes ≤ len) × CameFrom image root bytes len old new
IsCopiedFrom image root bytes old new reply = ⊥

-- a file in an archive has these bytes
abbrev pub HasBytes : Found → List ℕ → Type 0
HasBytes (Inner own) bytes = own ≡ bytes
HasBytes file bytes = Unit {0}

-- these are the file's root and its bytes
pub record IsSource (s : State) (file : Found) (root : Root) (bytes : List ℕ) : Type 0 where
  pub is_root : HasFileRoot file root
  pub own : merkle_root bytes ≡ root
  pub len : found_len s file ≡ Some (length bytes)
  pub inner : HasBytes file bytes

-- a part of the file was copied
abbrev pub IsCopiedFile : State → Found → ImageKind → ImagesOf → ImagesOf → CopyReply → Type 0
IsCopiedFile s file image old new reply =
    (root : Root) × (bytes : List ℕ) × IsSource s file root bytes × IsCopiedFrom image root bytes old new reply

-- a part of the lane's file was copied, without an event
pub record IsCopiedBy (lane : ℕ) (image : ImageKind) (dir : ℕ) (file : List ℕ) (l l2 : LedgerOf) (old new : ImagesOf)
    (reply : CopyReply) : Type 0 where
  pub ledger : l2 ≡ l
  pub fits : copy_end l.state lane image dir file ≡ None
  pub copied : IsCopiedFile l.state (found l.state lane dir file) image old new reply

-- a part was copied, or the event says why not, or memory was wanting
abbrev pub CopiedBy : ℕ → ImageKind → ℕ → List ℕ → LedgerOf → LedgerOf → ImagesOf → ImagesOf → CopyReply → Type 0
CopiedBy lane image dir file l l2 old new (copy.More have) =
    IsCopiedBy lane image dir file l l2 old new (copy.More have)
CopiedBy lane image dir file l l2 old new (copy.Whole len) =
    IsCopiedBy lane image dir file l l2 old new (copy.Whole len)
CopiedBy lane image dir file l l2 old new copy.NoMemory = Stays l l2 × (new ≡ old)
CopiedBy lane image dir file l l2 old new reply =
    Tells lane (InMemory (IsCopied image dir file reply)) l l2 × (new ≡ old)
