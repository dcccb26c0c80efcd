-- The parts of a file that are copied come to its bytes.
use Rattle.std.proofs.Common.{inl, inr, ◌≡◌, ◌≤◌, ℕ, ◌+◌, ◌-◌, ◌==◌, Bool, true, false, cond, List, [], ◌∷◌, ◌++◌, length, length-append, take, drop, Option, Some, None, refl, sym, ap, subst, ◌∙◌, append_assoc, arith, min}
use Rattle.std.proofs.lemmas.List.{append-nil, take-append-drop}
use Rattle.std.proofs.Math.Seq.{drop-append_seam}
use Rattle.image_layout.specs.declared.ImageKind.{ImageKind}
use Rattle.image_layout.specs.declared.ImageKind.TheVariants as images
use Rattle.open_tracker.specs.Directories.{root_of}
use Rattle.pkg_names.specs.declared.root.Root.{Root}
use Rattle.pkg_names.proofs.Roots.{root_eq-refl}
use Rattle.store_model.specs.declared.ends.TheConstants.{PIECE_LIMIT}
use Rattle.store_model.specs.declared.events.Event.{Event}
use Rattle.store_model.specs.declared.replies.CopyReply.TheVariants as copy
use Rattle.store_model.specs.State.{State}
use Rattle.store_model.specs.History.{Origin, IsLegal, Numbered, of_lane, after as state_after}
use Rattle.store_model.specs.Files.{Found, found, found_len}
use Rattle.store_model.specs.Files.Found.{NotOpen, NoSuchFile, Inner, Outer}
use Rattle.store_model.specs.Holding.{held}
use Rattle.store_model.specs.Held.{HasHandles}
use Rattle.store_model.specs.Sound.{IsSameFile}
use Rattle.store_model.specs.Desk.{View, Rests, Fillers, Kept, state_of, held_by, filler_of, with_filler, filler_after}
use Rattle.store_model.specs.Desk.Keeping.{Image}
use Rattle.store_model.specs.Calls.{HasFileRoot, IsPartOf, CopiesPart, KeepsAtCopy, IsWholeFile}
use Rattle.store_model.proofs.HoldingThere.{handles_there}
use Rattle.system_updater.specs.Filled.{IsBytesOf, IsMadeBy, HasBytesOf, IsFrontOf, IsCopiedTo, IsBegun}
use Rattle.system_updater.proofs.Stays.{file_stays}

-- ---- one part more

filler_back : (fillers : Fillers) (kind : ImageKind) (filler : Option Root) → filler_of (with_filler fillers kind filler) kind ≡ filler
filler_back fillers images.Zbi filler = refl
filler_back fillers images.Vbmeta filler = refl

same_if : (first same : Bool) (root : Root) → same ≡ true → ◌≡◌ {A = Option Root} (cond first (Some root) (cond same (Some root) None)) (Some root)
same_if true same root is = refl
same_if false true root is = refl
same_if false false root is = absurd (cc is)

still_fills : (place : ℕ) (root blob : Root) → root ≡ blob → filler_after place root (Some blob) ≡ Some blob
still_fills place root blob is = subst (λ (r : Root). filler_after place r (Some blob) ≡ Some blob) (sym is) (same_if (place == 0) _ blob (root_eq-refl blob))

part_first : (place : Found) (root : Root) (part : List ℕ) → HasFileRoot place root → IsPartOf place 0 part → IsFrontOf place (Some root) part
part_first NotOpen root part is_root is = is_root
part_first NoSuchFile root part is_root is = is_root
part_first (Inner all) root part is_root is = (drop (length part) all, sym (ap (λ (front : List ℕ). front ++ drop (length part) all) is ∙ take-append-drop (length part) all))
part_first (Outer blob) root part is_root is = ap Some is_root

part_more : (place : Found) (root : Root) (filler : Option Root) (bytes part : List ℕ) → HasFileRoot place root → IsPartOf place (length bytes) part → IsFrontOf place filler bytes
    → IsFrontOf place (filler_after (length bytes) root filler) (bytes ++ part)
part_more NotOpen root filler bytes part is_root is front = front
part_more NoSuchFile root filler bytes part is_root is front = front
part_more (Inner all) root filler bytes part is_root is front =
    let rest = front.0 in
    let dropped : drop (length bytes) all ≡ rest = ap (drop (length bytes)) front.1 ∙ drop-append_seam bytes rest in
    let next : rest ≡ part ++ drop (length part) rest =
    sym (take-append-drop (length part) rest) ∙ ap (λ (front : List ℕ). front ++ drop (length part) rest) (sym (is ∙ ap (take (length part)) dropped)) in
    (drop (length part) rest, front.1 ∙ ap (λ (more : List ℕ). bytes ++ more) next ∙ sym (append_assoc bytes part (drop (length part) rest)))
part_more (Outer blob) root filler bytes part is_root is front =
    subst (λ (o : Option Root). filler_after (length bytes) root o ≡ Some blob) (sym front) (still_fills (length bytes) root blob is_root)

part_fits : (bytes part : List ℕ) (len : ℕ) → length bytes ≤ len → length part ≡ min PIECE_LIMIT (len - length bytes) → length (bytes ++ part) ≤ len
part_fits bytes part len fits size = omega (arith, fits, size, length-append bytes part)

-- ---- the image after a part

record HasFront (after : Kept) (fillers : Fillers) (kind : ImageKind) (place : Found) (len have : ℕ) : Type 0 where
  bytes : List ℕ
  there : after (Image kind) bytes
  is_have : length bytes ≡ have
  fits : length bytes ≤ len
  front : IsFrontOf place (filler_of fillers kind) bytes

first_front : (kind : ImageKind) (place : Found) (len have : ℕ) (old new : Fillers) (before after : Kept) → CopiesPart kind place len have old new before after → before (Image kind) [] → HasFront after new kind place len have
first_front kind place len have old new before after copied empty =
    let at : have ≡ 0 + length copied.part = copied.place [] empty in
    let filler : filler_of new kind ≡ Some copied.root = ap (λ (f : Fillers). filler_of f kind) (copied.filler [] empty) ∙ filler_back old kind (Some copied.root) in
    record {
      bytes = copied.part;
      there = copied.appended [] empty;
      is_have = omega (arith, at);
      fits = part_fits [] copied.part len (omega arith) (copied.size [] empty);
      front = subst (λ (o : Option Root). IsFrontOf place o copied.part) (sym filler) (part_first place copied.root copied.part copied.is_root (copied.bytes [] empty));
    }

next_front : (kind : ImageKind) (place : Found) (len have : ℕ) (old new : Fillers) (before after : Kept) (bytes : List ℕ) → CopiesPart kind place len have old new before after → before (Image kind) bytes
    → length bytes ≤ len → IsFrontOf place (filler_of old kind) bytes → HasFront after new kind place len have
next_front kind place len have old new before after bytes copied there fits front =
    let filler : filler_of new kind ≡ filler_after (length bytes) copied.root (filler_of old kind) =
    ap (λ (f : Fillers). filler_of f kind) (copied.filler bytes there) ∙ filler_back old kind (filler_after (length bytes) copied.root (filler_of old kind)) in
    record {
      bytes = bytes ++ copied.part;
      there = copied.appended bytes there;
      is_have = length-append bytes copied.part ∙ sym (copied.place bytes there);
      fits = part_fits bytes copied.part len fits (copied.size bytes there);
      front = subst (λ (o : Option Root). IsFrontOf place o (bytes ++ copied.part)) (sym filler)
          (part_more place copied.root (filler_of old kind) bytes copied.part copied.is_root (copied.bytes bytes there) front);
    }

some_same : (a b : ℕ) → ◌≡◌ {A = Option ℕ} (Some a) (Some b) → a ≡ b
some_same a b is = cc is

-- ---- the whole file

nothing_left : (bytes rest : List ℕ) → length (bytes ++ rest) ≡ length bytes → bytes ++ rest ≡ bytes
nothing_left bytes [] same = append-nil bytes
nothing_left bytes (x ∷ rest) same = absurd (omega (arith, same, length-append bytes (x ∷ rest)))

whole_bytes : (s : State) (place : Found) (filler : Option Root) (len : ℕ) (bytes : List ℕ) → found_len s place ≡ Some len → length bytes ≡ len → IsFrontOf place filler bytes → IsBytesOf s place bytes
whole_bytes s NotOpen filler len bytes is_len same front = front
whole_bytes s NoSuchFile filler len bytes is_len same front = front
whole_bytes s (Inner all) filler len bytes is_len same front =
    let all_len : length all ≡ len = cc is_len in
    let both : length (bytes ++ front.0) ≡ length bytes = ap length (sym front.1) ∙ all_len ∙ sym same in
    sym (front.1 ∙ nothing_left bytes front.0 both)
whole_bytes s (Outer root) filler len bytes is_len same front = is_len ∙ ap Some (sym same)

made_by : (kind : ImageKind) (place : Found) (have : ℕ) (fillers : Fillers) (after : Kept) (bytes : List ℕ) → IsFrontOf place (filler_of fillers kind) bytes → IsWholeFile kind (copy.Whole have) fillers after → IsMadeBy after kind place
made_by kind NotOpen have fillers after bytes front whole = tt
made_by kind NoSuchFile have fillers after bytes front whole = tt
made_by kind (Inner all) have fillers after bytes front whole = tt
made_by kind (Outer root) have fillers after bytes front whole = whole root front

-- ---- a call

-- what the lane holds open is open
open_now : (v : View) (dir : ℕ) (root : Root) → v.mine ≡ of_lane v.lane v.seen → IsLegal v.origin v.seen → root_of (held_by v).dirs dir v.lane ≡ Some root → root_of (state_of v).dirs dir v.lane ≡ Some root
open_now v dir root own legal open_ =
    sym ((subst (λ (es : List Numbered). HasHandles v.lane (held es) (state_of v)) (sym own) (handles_there v.origin v.seen v.lane legal)).dir dir) ∙ open_

module _ (kind : ImageKind) (dir : ℕ) (file : List ℕ) (old new : View) (before after : Kept) (root : Root) (rests : Rests old new) (open_ : root_of (held_by old).dirs dir old.lane ≡ Some root) where
  -- while the lane has it open the file stays
  same_place : IsCopiedTo before old kind dir file → IsSameFile (state_of old) (state_of new) old.lane dir file
  same_place copied =
      let legal : IsLegal old.origin (old.seen ++ rests.others) = subst (λ (es : List Event). IsLegal old.origin es) rests.seen (subst (λ (o : Origin). IsLegal o new.seen) rests.stays.origin rests.legal) in
      let stays = file_stays old.origin old.seen rests.others old.lane dir root file legal rests.are_others (open_now old dir root copied.own copied.legal open_) in
      subst (λ (o : Origin). IsSameFile (state_of old) (state_after o new.seen) old.lane dir file) (sym rests.stays.origin)
      (subst (λ (es : List Event). IsSameFile (state_of old) (state_after old.origin es) old.lane dir file) (sym rests.seen) stays)

  -- the image has a front of the file, as the lane has it open now
  fronted : (len have : ℕ) → found_len (state_of new) (found (state_of new) old.lane dir file) ≡ Some len
      → CopiesPart kind (found (state_of new) old.lane dir file) len have old.fillers new.fillers before after → IsBegun before old kind dir file
      → HasFront after new.fillers kind (found (state_of new) old.lane dir file) len have
  fronted len have is_len copied begun =
      let place = found (state_of new) old.lane dir file in
      elim begun [
        | inl empty ↦ first_front kind place len have old.fillers new.fillers before after copied empty
        | inr c ↦
            let same = same_place c in
            let lens : c.len ≡ len = some_same c.len len (sym c.is_len ∙ sym same.len ∙ is_len) in
            next_front kind place len have old.fillers new.fillers before after c.bytes copied c.there (subst (λ (n : ℕ). length c.bytes ≤ n) lens c.fits)
            (subst (λ (p : Found). IsFrontOf p (filler_of old.fillers kind) c.bytes) (sym same.same) c.front)
      ]

  pub copied_more : (have : ℕ) → KeepsAtCopy (state_of new) old.lane kind dir file (copy.More have) old.fillers new.fillers before after → IsBegun before old kind dir file → IsCopiedTo after new kind dir file
  copied_more have keeps begun =
      let h = fronted keeps.0 have keeps.1 keeps.4 begun in record {
        own = rests.own;
        legal = rests.legal;
        bytes = h.bytes;
        there = h.there;
        len = keeps.0;
        is_len = subst (λ (l : ℕ). found_len (state_of new) (found (state_of new) l dir file) ≡ Some keeps.0) (sym rests.stays.lane) keeps.1;
        fits = h.fits;
        front = subst (λ (l : ℕ). IsFrontOf (found (state_of new) l dir file) (filler_of new.fillers kind) h.bytes) (sym rests.stays.lane) h.front;
      }

  pub copied_whole : (firm : Type 0) (have : ℕ) → KeepsAtCopy (state_of new) old.lane kind dir file (copy.Whole have) old.fillers new.fillers before after → (firm → IsWholeFile kind (copy.Whole have) new.fillers after)
      → IsBegun before old kind dir file → HasBytesOf firm after new kind dir file
  copied_whole firm have keeps whole begun =
      let h = fronted keeps.0 have keeps.1 keeps.4 begun in
      let enough = keeps.2 in
      let fits = h.fits in
      let is_have = h.is_have in
      let all : length h.bytes ≡ keeps.0 = omega (arith, enough, fits, is_have) in
      let is = whole_bytes (state_of new) (found (state_of new) old.lane dir file) (filler_of new.fillers kind) keeps.0 h.bytes keeps.1 all h.front in record {
        seen = new.seen;
        later = [];
        front = sym (append-nil new.seen);
        bytes = h.bytes;
        there = h.there;
        is = subst (λ (l : ℕ). IsBytesOf (state_of new) (found (state_of new) l dir file) h.bytes) (sym rests.stays.lane) is;
        made = λ is_firm. subst (λ (l : ℕ). IsMadeBy after kind (found (state_of new) l dir file)) (sym rests.stays.lane)
            (made_by kind (found (state_of new) old.lane dir file) have new.fillers after h.bytes h.front (whole is_firm));
      }
