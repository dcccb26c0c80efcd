-- What comes of an update at a store.
use Rattle.std.specs.Prelude.{ℕ, List, [], Some}
use Rattle.image_layout.specs.declared.ImageKind.{ImageKind}
use Rattle.image_layout.specs.declared.Sys.{Sys}
use Rattle.store_model.specs.declared.ends.ActivateEnd.{ActivateEnd}
use Rattle.store_model.specs.declared.ends.CopyEnd.{CopyEnd}
use Rattle.store_model.specs.declared.ends.StageEnd.{StageEnd}
use Rattle.store_model.specs.declared.ends.StageEnd.TheVariants as stages
use Rattle.store_model.specs.declared.events.Act.TheVariants as acts
use Rattle.store_model.specs.declared.events.Event.{Event}
use Rattle.store_model.specs.declared.replies.ActivateReply.{ActivateReply}
use Rattle.store_model.specs.declared.replies.CopyReply.{CopyReply}
use Rattle.store_model.specs.declared.replies.SealReply.{SealReply}
use Rattle.store_model.specs.declared.replies.SealReply.TheVariants as seal
use Rattle.store_model.specs.declared.replies.StageReply.{StageReply}
use Rattle.store_model.specs.declared.replies.StageReply.TheVariants as stage
use Rattle.store_model.specs.Desk.{no_fillers}
use Rattle.store_model.specs.Replies.{Acts, Looks, IsActivated, IsCopied, IsStaged}
use Rattle.plain_ledger.specs.Ledgers.{LedgerOf, Stays, Tells}
use Rattle.plain_desk.specs.Memory.{InMemory}
use Rattle.plain_desk.specs.Stores.{ImagesOf}
pub use Rattle.plain_drafts.specs.Images.{HaveSums, HaveSumsBefore, IsDifference}

-- ---- replies

-- no update begins
abbrev pub IsUnstaged : StageEnd → Type 0
IsUnstaged (stages.Turn slot) = ⊥
IsUnstaged end = Unit {0}

-- the reply tells this end
abbrev pub IsStagedAs : StageEnd → StageReply → Type 0
IsStagedAs end reply = (epoch number : ℕ) (e : Event) → Acts (acts.Stage epoch end) e → IsStaged epoch reply number e

abbrev pub IsActivatedAs : ActivateEnd → ActivateReply → Type 0
IsActivatedAs end reply = (number : ℕ) (e : Event) → Looks (acts.Activate end) e → IsActivated reply number e

abbrev pub IsCopiedAs : CopyEnd → CopyReply → Type 0
IsCopiedAs end reply = (image : ImageKind) (dir : ℕ) (file : List ℕ) (number : ℕ) (e : Event)
    → Acts (acts.Copy image dir file (Some end)) e → IsCopied image dir file reply number e

-- the event of `stage` came, or for want of memory none
abbrev pub StagedBy : ℕ → ℕ → StageReply → LedgerOf → LedgerOf → Type 0
StagedBy lane epoch stage.NoMemory old new = Stays old new
StagedBy lane epoch reply old new = Tells lane (InMemory (IsStaged epoch reply)) old new

-- ---- images

-- an update begins with two images without bytes
abbrev pub images_at_stage : StageReply → ImagesOf → ImagesOf
images_at_stage (stage.Turn slot) old = record { zbi = []; vbmeta = []; fillers = no_fillers }
images_at_stage reply old = old

-- what is answered tells what the images are
abbrev pub IsSealedOf : Sys → ImagesOf → SealReply → Type 0
IsSealedOf sys i seal.Sealed = HaveSums sys i
IsSealedOf sys i (seal.Differs image got) = IsDifference sys i (record { image = image; got = got })
IsSealedOf sys i reply = ⊥
