-- What is found of entries is what they list.
use Rattle.std.proofs.Common.{◌≡◌, ℕ, ◌+◌, ◌<◌, ◌≤◌, Bool, true, false, cond, leb, List, [], ◌∷◌, ◌++◌, length, Option, Some, None, Ok, Err, refl, sym, ap, ◌∙◌, arith}
use Rattle.std.specs.Prelude.{◌||◌, is_some}
use Rattle.std.specs.Option.{option_len}
use Rattle.std.proofs.lemmas.Bool.{lt-leb}
use Rattle.std.proofs.lemmas.List.{length-append}
use Rattle.system_lists.specs.declared.list.ListFault.{ListFault}
use Rattle.system_lists.specs.declared.list.ListFault.TheVariants.{Bad, Repeat}
use Rattle.system_lists.specs.declared.fault.ManifestFault.{ManifestFault}
use Rattle.system_lists.specs.declared.fault.ManifestFault.TheVariants.{Entry, Twice}
use Rattle.system_lists.specs.Entries.{stands_among, placed, listed}
use Rattle.system_lists.proofs.Listing.{goes_on, ends, is_done}
use Rattle.update_manifest.specs.declared.image.ImageRef.{ImageRef}
use Rattle.update_manifest.specs.declared.found.Found.{Found}
use Rattle.update_manifest.specs.declared.partition.Partition.{Partition}
use Rattle.update_manifest.specs.declared.partition.PartitionSlot.{PartitionSlot}
use Rattle.update_manifest.specs.declared.partition.PartitionSlot.TheVariants.{Fuchsia, Recovery}
use Rattle.update_manifest.specs.declared.partition.PartitionType.{PartitionType}
use Rattle.update_manifest.specs.declared.partition.PartitionType.TheVariants.{Zbi, Vbmeta}
use Rattle.update_manifest.specs.Partition.{is_of, is_same}
use Rattle.update_manifest.specs.Images.{image_at, partition_fault}
use Rattle.update_manifest.specs.Found.{found_of, count, place_of, put_at, found_with}

-- ---- one partition more

chosen : (test : Bool) (x y : ImageRef) (rest longer : Option ImageRef) → (rest ≡ None → longer ≡ Some y) → cond test (Some x) rest ≡ None → cond test (Some x) longer ≡ Some y
chosen true x y rest longer more none = absurd cc
chosen false x y rest longer more none = more none

image_here : (slot : PartitionSlot) (kind : PartitionType) (front : List Partition) (p : Partition) → is_of slot kind p ≡ true → image_at slot kind front ≡ None → image_at slot kind (front ++ p ∷ []) ≡ Some p.image
image_here slot kind [] p on none = rw on refl
image_here slot kind (q ∷ front) p on none =
    chosen (is_of slot kind q) q.image p.image (image_at slot kind front) (image_at slot kind (front ++ p ∷ [])) (image_here slot kind front p on) none

image_there : (slot : PartitionSlot) (kind : PartitionType) (front : List Partition) (p : Partition) → is_of slot kind p ≡ false → image_at slot kind (front ++ p ∷ []) ≡ image_at slot kind front
image_there slot kind [] p off = rw off refl
image_there slot kind (q ∷ front) p off = ap (λ (o : Option ImageRef). cond (is_of slot kind q) (Some q.image) o) (image_there slot kind front p off)

some_cond : (test : Bool) (x : ImageRef) (rest : Option ImageRef) (more : Bool) → is_some rest ≡ more → is_some (cond test (Some x) rest) ≡ (test || more)
some_cond true x rest more e = refl
some_cond false x rest more e = e

image_among : (p : Partition) (front : List Partition) → is_some (image_at p.slot p.kind front) ≡ stands_among is_same p front
image_among p [] = refl
image_among p (q ∷ front) = some_cond (is_of p.slot p.kind q) q.image (image_at p.slot p.kind front) (stands_among is_same p front) (image_among p front)

place_image : (slot : PartitionSlot) (kind : PartitionType) (front : List Partition) → place_of slot kind (found_of front) ≡ image_at slot kind front
place_image Fuchsia Zbi front = refl
place_image Fuchsia Vbmeta front = refl
place_image Recovery Zbi front = refl
place_image Recovery Vbmeta front = refl

abbrev these : Option ImageRef → Option ImageRef → Option ImageRef → Option ImageRef → Found
these zbi vbmeta recovery_zbi recovery_vbmeta = record { zbi = zbi; vbmeta = vbmeta; recovery_zbi = recovery_zbi; recovery_vbmeta = recovery_vbmeta }

alike : (a b c d e f g h : Option ImageRef) → a ≡ e → b ≡ f → c ≡ g → d ≡ h → these a b c d ≡ these e f g h
alike a b c d e f g h p q r s =
    ap (λ (x : Option ImageRef). these x b c d) p ∙ ap (λ (x : Option ImageRef). these e x c d) q
    ∙ ap (λ (x : Option ImageRef). these e f x d) r ∙ ap (λ (x : Option ImageRef). these e f g x) s

abbrev partition : PartitionSlot → PartitionType → ImageRef → Partition
partition slot kind image = record { slot = slot; kind = kind; image = image }

put_found : (slot : PartitionSlot) (kind : PartitionType) (image : ImageRef) (front : List Partition) → image_at slot kind front ≡ None → put_at slot kind image (found_of front) ≡ found_of (front ++ partition slot kind image ∷ [])
put_found Fuchsia Zbi image front none =
    let p = partition Fuchsia Zbi image in
    alike _ _ _ _ _ _ _ _ (sym (image_here Fuchsia Zbi front p refl none)) (sym (image_there Fuchsia Vbmeta front p refl)) (sym (image_there Recovery Zbi front p refl)) (sym (image_there Recovery Vbmeta front p refl))
put_found Fuchsia Vbmeta image front none =
    let p = partition Fuchsia Vbmeta image in
    alike _ _ _ _ _ _ _ _ (sym (image_there Fuchsia Zbi front p refl)) (sym (image_here Fuchsia Vbmeta front p refl none)) (sym (image_there Recovery Zbi front p refl)) (sym (image_there Recovery Vbmeta front p refl))
put_found Recovery Zbi image front none =
    let p = partition Recovery Zbi image in
    alike _ _ _ _ _ _ _ _ (sym (image_there Fuchsia Zbi front p refl)) (sym (image_there Fuchsia Vbmeta front p refl)) (sym (image_here Recovery Zbi front p refl none)) (sym (image_there Recovery Vbmeta front p refl))
put_found Recovery Vbmeta image front none =
    let p = partition Recovery Vbmeta image in
    alike _ _ _ _ _ _ _ _ (sym (image_there Fuchsia Zbi front p refl)) (sym (image_there Fuchsia Vbmeta front p refl)) (sym (image_there Recovery Zbi front p refl)) (sym (image_here Recovery Vbmeta front p refl none))

-- ---- how many there are

len_few : (o : Option ImageRef) → option_len o ≤ 1
len_few None = omega arith
len_few (Some x) = omega arith

count_few : (found : Found) → count found ≤ 4
count_few found = omega (arith, len_few found.zbi, len_few found.vbmeta, len_few found.recovery_zbi, len_few found.recovery_vbmeta)

count_put : (slot : PartitionSlot) (kind : PartitionType) (image : ImageRef) (found : Found) → place_of slot kind found ≡ None → count (put_at slot kind image found) ≡ count found + 1
count_put Fuchsia Zbi image found none = rw none (omega arith)
count_put Fuchsia Vbmeta image found none = rw none (omega arith)
count_put Recovery Zbi image found none = rw none (omega arith)
count_put Recovery Vbmeta image found none = rw none (omega arith)

-- ---- an entry

free : (place : Option ImageRef) (fault : ManifestFault) (made new : Found) → cond (is_some place) (Err fault) (Ok made) ≡ Ok new → (place ≡ None) × (made ≡ new)
free None fault made new e =
    let same : made ≡ new = cc in
    (refl, same)
free (Some x) fault made new e = absurd cc

taken : (place : Option ImageRef) (fault why : ManifestFault) (made : Found) → cond (is_some place) (Err fault) (Ok made) ≡ Err why → (is_some place ≡ true) × (fault ≡ why)
taken None fault why made e = absurd cc
taken (Some x) fault why made e =
    let same : fault ≡ why = cc in
    (refl, same)

-- the entry was placed, and what was found is that of one partition more
pub record Places (front : List Partition) (entry : Option Partition) (new : Found) : Type 0 where
  pub item : Partition
  pub said : placed is_same front entry ≡ Ok item
  pub is : new ≡ found_of (front ++ item ∷ [])
  pub counted : length (front ++ item ∷ []) ≡ count new

pub places : (front : List Partition) (entry : Option Partition) (new : Found) → length front ≡ count (found_of front) → found_with (found_of front) entry ≡ Ok new → Places front entry new
places front None new counted e = absurd cc
places front (Some p) new counted e =
    let both = free (place_of p.slot p.kind (found_of front)) (Twice (count (found_of front) + 1)) (put_at p.slot p.kind p.image (found_of front)) new e in
    let none : image_at p.slot p.kind front ≡ None = sym (place_image p.slot p.kind front) ∙ both.0 in
    let fresh : stands_among is_same p front ≡ false = sym (image_among p front) ∙ ap (λ (o : Option ImageRef). is_some o) none in
    let below : length front < 4096 = omega (arith, count_few (found_of front)) in
    let few : leb 4096 (length front) ≡ false = lt-leb 4096 (length front) below in
    let more : count new ≡ count (found_of front) + 1 = ap count (sym both.1) ∙ count_put p.slot p.kind p.image (found_of front) both.0 in
    record {
      item = p;
      said = rw (few, fresh) refl;
      is = sym both.1 ∙ put_found p.slot p.kind p.image front none;
      counted = omega (arith, length-append front (p ∷ []));
    }

-- the entry was refused
pub record Refuses (front : List Partition) (entry : Option Partition) (fault : ManifestFault) : Type 0 where
  pub why : ListFault
  pub said : placed is_same front entry ≡ Err why
  pub is : fault ≡ partition_fault why

pub refuses : (front : List Partition) (entry : Option Partition) (fault : ManifestFault) → length front ≡ count (found_of front) → found_with (found_of front) entry ≡ Err fault → Refuses front entry fault
refuses front None fault counted e =
    let same : Entry (count (found_of front) + 1) ≡ fault = cc in
    record { why = Bad (length front + 1); said = refl; is = sym same ∙ ap (λ (n : ℕ). Entry (n + 1)) (sym counted) }
refuses front (Some p) fault counted e =
    let both = taken (place_of p.slot p.kind (found_of front)) (Twice (count (found_of front) + 1)) fault (put_at p.slot p.kind p.image (found_of front)) e in
    let among : stands_among is_same p front ≡ true = sym (image_among p front) ∙ ap (λ (o : Option ImageRef). is_some o) (sym (place_image p.slot p.kind front)) ∙ both.0 in
    let below : length front < 4096 = omega (arith, count_few (found_of front)) in
    let few : leb 4096 (length front) ≡ false = lt-leb 4096 (length front) below in
    record { why = Repeat (length front + 1); said = rw (few, among) refl; is = sym both.1 ∙ ap (λ (n : ℕ). Twice (n + 1)) (sym counted) }

-- ---- the loop

-- what was found of the entries so far, and that the others are judged behind them
pub record Reached (found : Found) (rest all : List (Option Partition)) : Type 0 where
  pub front : List Partition
  pub is : found ≡ found_of front
  pub counted : length front ≡ count found
  pub left : listed is_same front rest ≡ listed is_same [] all

pub advanced : (found new : Found) (entry : Option Partition) (rest all : List (Option Partition)) → Reached found (entry ∷ rest) all → found_with found entry ≡ Ok new → Reached new rest all
advanced found new entry rest all so_far e =
    let one = places so_far.front entry new (so_far.counted ∙ ap count so_far.is) (ap (λ (f : Found). found_with f entry) (sym so_far.is) ∙ e) in
    record {
      front = so_far.front ++ one.item ∷ [];
      is = one.is;
      counted = one.counted;
      left = goes_on is_same so_far.front (so_far.front ++ one.item ∷ []) entry rest one.item (listed is_same [] all) one.said refl so_far.left;
    }

pub refused_there : (found : Found) (entry : Option Partition) (rest all : List (Option Partition)) (fault : ManifestFault) → Reached found (entry ∷ rest) all → found_with found entry ≡ Err fault
    → (why : ListFault) × (listed is_same [] all ≡ Err why) × (fault ≡ partition_fault why)
refused_there found entry rest all fault so_far e =
    let one = refuses so_far.front entry fault (so_far.counted ∙ ap count so_far.is) (ap (λ (f : Found). found_with f entry) (sym so_far.is) ∙ e) in
    (one.why, sym (ends is_same so_far.front entry rest one.why (listed is_same [] all) one.said so_far.left), one.is)

pub all_found : (found : Found) (all : List (Option Partition)) → Reached found [] all → (list : List Partition) × (listed is_same [] all ≡ Ok list) × (found ≡ found_of list)
all_found found all so_far = (so_far.front, sym (is_done is_same so_far.front (listed is_same [] all) so_far.left), so_far.is)
