-- Copies of files into images.
use Rattle.std.proofs.Common.{◌≡◌, ◌<◌, ◌≤◌, ℕ, ◌+◌, ◌-◌, Bool, true, false, cond, inl, inr, List, ◌++◌, length, take, drop, get_or, Option, Some, None, refl, sym, ap, subst, arith, length-append, length-take, length-drop, ◌∙◌}
use Rattle.std.specs.Prelude.{min, IfSome, ◌==◌}
use Rattle.std.proofs.lemmas.List.{take_min, get_or_append_left, get_or-append_right, get_or-take, get_or-drop}
use Rattle.std.proofs.lemmas.Bool.{cases_lt, eqb-true}
use Rattle.store_model.specs.declared.ends.TheConstants.{PIECE_LIMIT}
use Rattle.pkg_names.specs.declared.root.Root.{Root}
use Rattle.pkg_names.specs.Root.{root_eq}
use Rattle.pkg_names.proofs.Roots.{root_eq-true}
use Rattle.pkg_merkle.specs.Merkle.{merkle_root}
use Rattle.image_layout.specs.declared.ImageKind.{ImageKind}
use Rattle.image_layout.specs.declared.ImageKind.TheVariants as images
use Rattle.store_model.specs.Files.{Found}
use Rattle.store_model.specs.Files.Found.{Inner}
use Rattle.store_model.specs.Desk.{Fillers, filler_after, filler_of, with_filler}
use Rattle.store_model.specs.Calls.{CopiesPart, HasByteOf, HasFileRoot, IsPartOf}
use Rattle.plain_ledger.specs.Ledgers.{LedgerOf}
use Rattle.plain_desk.specs.Stores.{AreFilled, DraftOf, ImagesOf, IsAppended, image_of, kept_for}
use Rattle.plain_desk.specs.Copying.{CameFrom, HasBytes, next_part}
use Rattle.plain_desk.proofs.Stores.{store_of}

pub part_as : (place : ℕ) (bytes : List ℕ) (len : ℕ) → len ≡ min (length bytes - place) PIECE_LIMIT
    → take (place + len - place) (drop place bytes) ≡ next_part bytes place
part_as place bytes len is =
    let all : place + len - place ≡ min PIECE_LIMIT (length (drop place bytes)) = omega (arith, is, length-drop place bytes) in
    ap (λ (n : ℕ). take n (drop place bytes)) all ∙ take_min PIECE_LIMIT (drop place bytes)

-- ---- the bytes of an image that one file has filled

-- each byte is that of a file with this root, at its place
abbrev pub AreOf : Root → List ℕ → Type 0
AreOf root image = (place : ℕ) → place < length image → HasByteOf root image place

-- the bytes that were there stay what they were
old_byte : (root : Root) (image part : List ℕ) (place : ℕ) → place < length image → HasByteOf root image place
    → HasByteOf root (image ++ part) place
old_byte root image part place within b = record {
  file = b.file;
  is_root = b.is_root;
  within = b.within;
  byte = get_or_append_left image part 0 place within ∙ b.byte;
}

-- those that came are the file's
new_byte : (root : Root) (image bytes : List ℕ) (place : ℕ) → merkle_root bytes ≡ root → length image ≤ place
    → place < length (image ++ next_part bytes (length image)) → HasByteOf root (image ++ next_part bytes (length image)) place
new_byte root image bytes place own past within =
    let size : length (image ++ next_part bytes (length image)) ≡ length image + min PIECE_LIMIT (length bytes - length image) =
    length-append image (next_part bytes (length image))
    ∙ ap (λ (n : ℕ). length image + n) (length-take PIECE_LIMIT (drop (length image) bytes) ∙ ap (min PIECE_LIMIT) (length-drop (length image) bytes)) in
    let below : place - length image < PIECE_LIMIT = omega (arith, size, within, past) in
    let there : length image + (place - length image) ≡ place = omega (arith, past) in
    record {
      file = bytes;
      is_root = own;
      within = omega (arith, size, within);
      byte = get_or-append_right image (next_part bytes (length image)) (length image) place 0 refl past
          ∙ get_or-take PIECE_LIMIT (drop (length image) bytes) (place - length image) 0 below
          ∙ get_or-drop (length image) bytes (place - length image) 0
          ∙ ap (λ (n : ℕ). get_or bytes n 0) there;
    }

-- a part came behind bytes of files with its root
pub part_of : (root : Root) (image bytes : List ℕ) → merkle_root bytes ≡ root → AreOf root image
    → AreOf root (image ++ next_part bytes (length image))
part_of root image bytes own are = λ place within. elim (cases_lt place (length image)) [
  | inl old ↦ old_byte root image (next_part bytes (length image)) place old (are place old)
  | inr past ↦ new_byte root image bytes place own past within
]

none_filled : (root : Root) (image bytes : List ℕ) (t : Bool) → merkle_root bytes ≡ root → (t ≡ true → length image ≡ 0)
    → IfSome (cond t (Some root) None) (λ r. AreOf r (image ++ next_part bytes (length image)))
none_filled root image bytes true own empty =
    part_of root image bytes own (λ place within. absurd (omega (arith, within, empty refl)))
none_filled root image bytes false own empty = tt

some_filled : (root r : Root) (image bytes : List ℕ) (t u : Bool) → merkle_root bytes ≡ root → (t ≡ true → length image ≡ 0) → (u ≡ true → r ≡ root)
    → AreOf r image → IfSome (cond t (Some root) (cond u (Some r) None)) (λ x. AreOf x (image ++ next_part bytes (length image)))
some_filled root r image bytes true u own empty same are =
    part_of root image bytes own (λ place within. absurd (omega (arith, within, empty refl)))
some_filled root r image bytes false true own empty same are = part_of r image bytes (own ∙ sym (same refl)) are
some_filled root r image bytes false false own empty same are = tt

one_filled : (root : Root) (image bytes : List ℕ) (filler : Option Root) → merkle_root bytes ≡ root → IfSome filler (λ r. AreOf r image)
    → IfSome (filler_after (length image) root filler) (λ r. AreOf r (image ++ next_part bytes (length image)))
one_filled root image bytes None own are = none_filled root image bytes (length image == 0) own (eqb-true (length image) 0)
one_filled root image bytes (Some r) own are =
    some_filled root r image bytes (length image == 0) (root_eq r root) own (eqb-true (length image) 0) (root_eq-true r root) are

moved_to : {o o2 : Option Root} {xs ys : List ℕ} → o2 ≡ o → ys ≡ xs → IfSome o (λ r. AreOf r xs) → IfSome o2 (λ r. AreOf r ys)
moved_to {o} {o2} {xs} {ys} filler bytes are =
    subst (λ (x : Option Root). IfSome x (λ r. AreOf r ys)) (sym filler) (subst (λ (z : List ℕ). IfSome o (λ r. AreOf r z)) (sym bytes) are)

-- each image stays made of its file, as a part comes
pub filled_on : (image kind : ImageKind) (root : Root) (bytes : List ℕ) (old new : ImagesOf) → merkle_root bytes ≡ root
    → IsAppended image root (next_part bytes (length (image_of old image))) old new → AreFilled old
    → IfSome (filler_of new.fillers kind) (λ r. AreOf r (image_of new kind))
filled_on images.Zbi images.Zbi root bytes old new own a filled =
    moved_to (ap (λ (f : Fillers). filler_of f images.Zbi) a.fillers) a.bytes (one_filled root old.zbi bytes old.fillers.zbi own (filled images.Zbi))
filled_on images.Zbi images.Vbmeta root bytes old new own a filled =
    moved_to (ap (λ (f : Fillers). filler_of f images.Vbmeta) a.fillers)
    (a.others images.Vbmeta (λ (e : images.Vbmeta ≡ images.Zbi). absurd cc)) (filled images.Vbmeta)
filled_on images.Vbmeta images.Zbi root bytes old new own a filled =
    moved_to (ap (λ (f : Fillers). filler_of f images.Zbi) a.fillers)
    (a.others images.Zbi (λ (e : images.Zbi ≡ images.Vbmeta). absurd cc)) (filled images.Zbi)
filled_on images.Vbmeta images.Vbmeta root bytes old new own a filled =
    moved_to (ap (λ (f : Fillers). filler_of f images.Vbmeta) a.fillers) a.bytes (one_filled root old.vbmeta bytes old.fillers.vbmeta own (filled images.Vbmeta))

-- the filler is the file of the last part
none_before : (own root : Root) (t : Bool) → cond t (Some own) None ≡ Some root → root ≡ own
none_before own root true is = cc
none_before own root false is = absurd cc

one_before : (own root r : Root) (t u : Bool) → (u ≡ true → r ≡ own) → cond t (Some own) (cond u (Some r) None) ≡ Some root → root ≡ own
one_before own root r true u same is = cc
one_before own root r false true same is = let here : r ≡ own = same refl in cc
one_before own root r false false same is = absurd cc

filler_from : (place : ℕ) (own root : Root) (filler : Option Root) → filler_after place own filler ≡ Some root → root ≡ own
filler_from place own root None is = none_before own root (place == 0) is
filler_from place own root (Some r) is = one_before own root r (place == 0) (root_eq r own) (root_eq-true r own) is

in_images : (image : ImageKind) (f : Fillers) (x : Option Root) → filler_of (with_filler f image x) image ≡ x
in_images images.Zbi f x = refl
in_images images.Vbmeta f x = refl

pub filler_is : (image : ImageKind) (own root : Root) (place : ℕ) (f f2 : Fillers) → f2 ≡ with_filler f image (filler_after place own (filler_of f image))
    → filler_of f2 image ≡ Some root → root ≡ own
filler_is image own root place f f2 came is =
    filler_from place own root (filler_of f image) (sym (in_images image f (filler_after place own (filler_of f image))) ∙ sym (ap (λ (x : Fillers). filler_of x image) came) ∙ is)

-- ---- what is kept

is_part : (f : Found) (bytes : List ℕ) (place n : ℕ) → HasBytes f bytes → place ≡ n → IsPartOf f place (next_part bytes n)
is_part (Inner own) bytes place n same at =
    let part = next_part bytes n in
    let all : take (length part) (drop n bytes) ≡ part =
    ap (λ (k : ℕ). take k (drop n bytes)) (length-take PIECE_LIMIT (drop n bytes)) ∙ take_min PIECE_LIMIT (drop n bytes) in
    sym all ∙ ap (λ (m : ℕ). take (length part) (drop m bytes)) (sym at) ∙ ap (λ (b : List ℕ). take (length part) (drop place b)) (sym same)
is_part f bytes place n same at = tt

pub copies_part : (lane : ℕ) (image : ImageKind) (f : Found) (root : Root) (bytes : List ℕ) (have : ℕ) (old new : ImagesOf) (l l2 : LedgerOf) (drafts : List DraftOf)
    → HasFileRoot f root → HasBytes f bytes → CameFrom image root bytes have old new
    → CopiesPart image f (length bytes) have old.fillers new.fillers (kept_for lane (store_of l drafts old)) (kept_for lane (store_of l2 drafts new))
copies_part lane image f root bytes have old new l l2 drafts is_root inner came =
    let place : ℕ = length (image_of old image) in
    let part : List ℕ = next_part bytes place in
    record {
      part = part;
      root = root;
      is_root = is_root;
      appended = λ xs is. ap (λ (z : List ℕ). z ++ part) is ∙ sym came.appended.bytes;
      size = λ xs is. length-take PIECE_LIMIT (drop place bytes)
          ∙ ap (min PIECE_LIMIT) (length-drop place bytes ∙ ap (λ (m : ℕ). length bytes - m) (ap length (sym is)));
      place = λ xs is. came.size ∙ ap length came.appended.bytes ∙ length-append (image_of old image) part
          ∙ ap (λ (n : ℕ). n + length part) (ap length (sym is));
      bytes = λ xs is. is_part f bytes (length xs) place inner (ap length is);
      filler = λ xs is. came.appended.fillers
          ∙ ap (λ (n : ℕ). with_filler old.fillers image (filler_after n root (filler_of old.fillers image))) (ap length (sym is));
      blob = λ xs is. is;
      other = λ kind xs differs is. is ∙ sym (came.appended.others kind differs);
    }
