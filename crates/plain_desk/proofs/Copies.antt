-- A copy, as it is promised at a desk.
use Rattle.std.proofs.Common.{◌≡◌, ◌≤◌, ℕ, List, length, Option, Some, None, refl, sym, ap, subst, ◌∙◌}
use Rattle.std.specs.Prelude.{IfSome}
use Rattle.pkg_merkle.specs.Merkle.{merkle_root}
use Rattle.image_layout.specs.declared.ImageKind.{ImageKind}
use Rattle.pkg_names.specs.declared.root.Root.{Root}
use Rattle.store_model.specs.declared.events.LookedAt.{LookedAt}
use Rattle.store_model.specs.declared.replies.CopyReply.{CopyReply}
use Rattle.store_model.specs.declared.replies.CopyReply.TheVariants as copy
use Rattle.store_model.specs.State.{State}
use Rattle.store_model.specs.Files.{Found, found, found_len}
use Rattle.store_model.specs.Acts.Copy.{copy_end}
use Rattle.store_model.specs.History.{after}
use Rattle.store_model.specs.Desk.{Fillers, IsUnbroken, Keeps, Rests, filler_of}
use Rattle.store_model.specs.Replies.{IsCopied}
use Rattle.store_model.specs.Calls.{Copies, CopiesPart, IsMadeOf, IsWholeFile, KeepsAtCopy}
use Rattle.store_model.proofs.SameBooks.{copy_same, found_same}
use Rattle.plain_ledger.specs.Ledgers.{LedgerOf, Agrees}
use Rattle.plain_desk.specs.Stores.{AreFilled, DraftOf, ImagesOf, StoreOf, IsStore, image_of, kept_for, view_of}
use Rattle.plain_desk.specs.Copying.{CameFrom, CopiedBy, IsSource}
use Rattle.plain_desk.proofs.Stores.{moved, rests, stays_moves, still, store_of, tells, tells_moves, unbroken_at, view_at}
use Rattle.plain_desk.proofs.Filled.{all_kept}
use Rattle.plain_desk.proofs.Copied.{AreOf, copies_part, filled_on, filler_is}

-- ---- the file, as the desk sees it

-- what a part of the lane's file is of
record IsSeen (l : LedgerOf) (lane : ℕ) (image : ImageKind) (dir : ℕ) (file : List ℕ) : Type 0 where
  pub file_is : found (after l.origin l.history) lane dir file ≡ found l.state lane dir file
  pub len_is : found_len (after l.origin l.history) (found (after l.origin l.history) lane dir file) ≡ found_len l.state (found l.state lane dir file)
  pub end_is : copy_end (after l.origin l.history) lane image dir file ≡ copy_end l.state lane image dir file

seen_file : (l : LedgerOf) (lane : ℕ) (image : ImageKind) (dir : ℕ) (file : List ℕ) → Agrees l → IsSeen l lane image dir file
seen_file l lane image dir file a =
    let t : State = after l.origin l.history in
    let same : found t lane dir file ≡ found l.state lane dir file =
    found_same t l.state.books a.mirrors.books lane dir file ∙ ap (λ (s : State). found s lane dir file) (sym a.mirrors.rest) in
    record {
      file_is = same;
      len_is = ap (found_len t) same ∙ sym (ap (λ (s : State). found_len s (found l.state lane dir file)) a.mirrors.rest);
      end_is = copy_same t l.state.books a.mirrors.books lane image dir file ∙ ap (λ (s : State). copy_end s lane image dir file) (sym a.mirrors.rest);
    }

-- ---- the event, or none

rests_whole : (tie : List ℕ) (lane : ℕ) (old new : LedgerOf) (drafts : List DraftOf) (i : ImagesOf) (was : StoreOf) (fillers : Fillers)
    → store_of old drafts i ≡ was → Agrees old → old.state.broken ≡ None → new ≡ old
    → Rests (view_of tie lane was) (view_at tie lane new fillers) × IsUnbroken (view_at tie lane new fillers)
rests_whole tie lane old new drafts i was fillers is a none same =
    subst (λ (l : LedgerOf). Rests (view_of tie lane was) (view_at tie lane l fillers) × IsUnbroken (view_at tie lane l fillers)) (sym same)
    (rests is (still a), unbroken_at a none)

pub copied_event : (tie : List ℕ) (lane : ℕ) (image : ImageKind) (dir : ℕ) (file : List ℕ) (reply : CopyReply) (old new : LedgerOf) (drafts : List DraftOf) (i i2 : ImagesOf) (was : StoreOf) (fillers : Fillers)
    → store_of old drafts i ≡ was → Agrees old → old.state.broken ≡ None → CopiedBy lane image dir file old new i i2 reply
    → Copies image dir file reply (view_of tie lane was) (view_at tie lane new fillers)
copied_event tie lane image dir file (copy.More have) old new drafts i i2 was fillers is a none by = rests_whole tie lane old new drafts i was fillers is a none by.ledger
copied_event tie lane image dir file (copy.Whole len) old new drafts i i2 was fillers is a none by = rests_whole tie lane old new drafts i was fillers is a none by.ledger
copied_event tie lane image dir file copy.NoMemory old new drafts i i2 was fillers is a none by = rests is by.0
copied_event tie lane image dir file reply old new drafts i i2 was fillers is a none by = tells (IsCopied image dir file reply) is by.0

-- ---- what holds of the store

same_store : {old new : LedgerOf} {blobs : List LookedAt} {drafts : List DraftOf} {i i2 : ImagesOf} → IsStore old blobs drafts i → new ≡ old → AreFilled i2
    → IsStore new blobs drafts i2
same_store {old} {new} {blobs} {drafts} {i} {i2} is same filled = subst (λ (l : LedgerOf). IsStore l blobs drafts i2) (sym same)
    (record { holds = is.holds; stored = is.stored; roomy = is.roomy; filled = filled; unbroken = is.unbroken; steady = is.steady })

came_filled : (image : ImageKind) (s : State) (f : Found) (root : Root) (bytes : List ℕ) (have : ℕ) (i i2 : ImagesOf) → IsSource s f root bytes → CameFrom image root bytes have i i2 → AreFilled i → AreFilled i2
came_filled image s f root bytes have i i2 source came filled = λ kind. filled_on image kind root bytes i i2 source.own came.appended filled

pub copied_store : (lane : ℕ) (image : ImageKind) (dir : ℕ) (file : List ℕ) (reply : CopyReply) {old new : LedgerOf} {blobs : List LookedAt} {drafts : List DraftOf} {i i2 : ImagesOf}
    → IsStore old blobs drafts i → CopiedBy lane image dir file old new i i2 reply → IsStore new blobs drafts i2
copied_store lane image dir file (copy.More have) {i = i} {i2 = i2} is by =
    same_store is by.ledger (came_filled image _ _ by.copied.0 by.copied.1 have i i2 by.copied.2 by.copied.3.1 is.filled)
copied_store lane image dir file (copy.Whole len) {i = i} {i2 = i2} is by =
    same_store is by.ledger (came_filled image _ _ by.copied.0 by.copied.1 len i i2 by.copied.2 by.copied.3.1 is.filled)
copied_store lane image dir file copy.NoMemory {new = new} {blobs = blobs} {drafts = drafts} is by = subst (IsStore new blobs drafts) (sym by.1) (moved is (stays_moves by.0))
copied_store lane image dir file reply {new = new} {blobs = blobs} {drafts = drafts} is by = subst (IsStore new blobs drafts) (sym by.1) (moved is (tells_moves is.holds by.0))

-- ---- what is kept

same_kept : (lane : ℕ) (old new : LedgerOf) (drafts : List DraftOf) (i i2 : ImagesOf) → i2 ≡ i
    → Keeps (kept_for lane (store_of old drafts i)) (kept_for lane (store_of new drafts i2)) × (i2.fillers ≡ i.fillers)
same_kept lane old new drafts i i2 same = (
  subst (λ (x : ImagesOf). Keeps (kept_for lane (store_of old drafts i)) (kept_for lane (store_of new drafts x))) (sym same) (all_kept {i = i} lane old new refl),
  ap (λ (x : ImagesOf). x.fillers) same,
)

part_kept : (lane : ℕ) (image : ImageKind) (dir : ℕ) (file : List ℕ) (root : Root) (bytes : List ℕ) (have : ℕ) (l l2 : LedgerOf) (drafts : List DraftOf) (i i2 : ImagesOf)
    → Agrees l → IsSource l.state (found l.state lane dir file) root bytes → CameFrom image root bytes have i i2
    → CopiesPart image (found (after l.origin l.history) lane dir file) (length bytes) have i.fillers i2.fillers (kept_for lane (store_of l drafts i)) (kept_for lane (store_of l2 drafts i2))
part_kept lane image dir file root bytes have l l2 drafts i i2 a source came =
    subst (λ (f : Found). CopiesPart image f (length bytes) have i.fillers i2.fillers (kept_for lane (store_of l drafts i)) (kept_for lane (store_of l2 drafts i2)))
    (sym (seen_file l lane image dir file a).file_is)
    (copies_part lane image (found l.state lane dir file) root bytes have i i2 l l2 drafts source.is_root source.inner came)

kept_so : (lane : ℕ) (image : ImageKind) (dir : ℕ) (file : List ℕ) (reply : CopyReply) (old new : LedgerOf) (drafts : List DraftOf) (i i2 : ImagesOf)
    → Agrees old → CopiedBy lane image dir file old new i i2 reply
    → KeepsAtCopy (after new.origin new.history) lane image dir file reply i.fillers i2.fillers (kept_for lane (store_of old drafts i)) (kept_for lane (store_of new drafts i2))
kept_so lane image dir file (copy.More have) old new drafts i i2 a by =
    let seen = seen_file old lane image dir file a in
    subst (λ (l : LedgerOf). KeepsAtCopy (after l.origin l.history) lane image dir file (copy.More have) i.fillers i2.fillers (kept_for lane (store_of old drafts i)) (kept_for lane (store_of l drafts i2)))
    (sym by.ledger) (
      length by.copied.1,
      seen.len_is ∙ by.copied.2.len,
      by.copied.3.0,
      seen.end_is ∙ by.fits,
      part_kept lane image dir file by.copied.0 by.copied.1 have old old drafts i i2 a by.copied.2 by.copied.3.1,
    )
kept_so lane image dir file (copy.Whole have) old new drafts i i2 a by =
    let seen = seen_file old lane image dir file a in
    subst (λ (l : LedgerOf). KeepsAtCopy (after l.origin l.history) lane image dir file (copy.Whole have) i.fillers i2.fillers (kept_for lane (store_of old drafts i)) (kept_for lane (store_of l drafts i2)))
    (sym by.ledger) (
      length by.copied.1,
      seen.len_is ∙ by.copied.2.len,
      by.copied.3.0,
      seen.end_is ∙ by.fits,
      part_kept lane image dir file by.copied.0 by.copied.1 have old old drafts i i2 a by.copied.2 by.copied.3.1,
    )
kept_so lane image dir file (copy.Broken broken) old new drafts i i2 a by = (λ bytes is. is, ap (λ (x : ImagesOf). x.fillers) by.1)
kept_so lane image dir file reply old new drafts i i2 a by = same_kept lane old new drafts i i2 by.1

pub copied_keeps : (lane : ℕ) (image : ImageKind) (dir : ℕ) (file : List ℕ) (reply : CopyReply) (old new : LedgerOf) (drafts : List DraftOf) (i i2 : ImagesOf) (was : StoreOf)
    → store_of old drafts i ≡ was → Agrees old → CopiedBy lane image dir file old new i i2 reply
    → KeepsAtCopy (after new.origin new.history) lane image dir file reply was.images.fillers i2.fillers (kept_for lane was) (kept_for lane (store_of new drafts i2))
copied_keeps lane image dir file reply old new drafts i i2 was is a by =
    subst (λ (s : StoreOf). KeepsAtCopy (after new.origin new.history) lane image dir file reply s.images.fillers i2.fillers (kept_for lane s) (kept_for lane (store_of new drafts i2))) is
    (kept_so lane image dir file reply old new drafts i i2 a by)

-- ---- a whole file

made_of : (image : ImageKind) (root own : Root) (bytes : List ℕ) (len : ℕ) (i i2 : ImagesOf) → merkle_root bytes ≡ own → length bytes ≤ len → CameFrom image own bytes len i i2
    → AreFilled i2 → filler_of i2.fillers image ≡ Some root → IsMadeOf root (image_of i2 image)
made_of image root own bytes len i i2 is_root whole came filled is = record {
  file = bytes;
  is_root = is_root ∙ sym (filler_is image own root (length (image_of i image)) i.fillers i2.fillers came.appended.fillers is);
  enough = subst (λ (n : ℕ). length bytes ≤ n) came.size whole;
  each = subst (λ (o : Option Root). IfSome o (λ r. AreOf r (image_of i2 image))) is (filled image);
}

pub copied_whole : (lane : ℕ) (image : ImageKind) (dir : ℕ) (file : List ℕ) (reply : CopyReply) (old new : LedgerOf) (blobs : List LookedAt) (drafts : List DraftOf) (i i2 : ImagesOf)
    → IsStore old blobs drafts i → CopiedBy lane image dir file old new i i2 reply → IsWholeFile image reply i2.fillers (kept_for lane (store_of new drafts i2))
copied_whole lane image dir file (copy.Whole len) old new blobs drafts i i2 is by = λ root filler.
    let filled : AreFilled i2 = came_filled image _ _ by.copied.0 by.copied.1 len i i2 by.copied.2 by.copied.3.1 is.filled in
    (image_of i2 image, refl, made_of image root by.copied.0 by.copied.1 len i i2 by.copied.2.own by.copied.3.0 by.copied.3.1 filled filler)
copied_whole lane image dir file reply old new blobs drafts i i2 is by = tt
