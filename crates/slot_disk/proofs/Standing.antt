-- What crates above need to know of the record and the slots of an image.
use Rattle.std.proofs.Common.{◌≡◌, ◌⊎◌, ℕ, ◌<◌, ◌≤◌, Bool, true, false, refl, sym, ◌∙◌, ap, subst, inl, inr, Option, Some, None, IfSome}
use Rattle.std.specs.Prelude.{IsSomeAnd}
use Rattle.abr_record.specs.declared.Slot.{Slot}
use Rattle.abr_record.specs.declared.Slot.TheVariants.{A, B, R}
use Rattle.abr_record.specs.declared.Record.{Record}
use Rattle.disk_model.specs.Past.{Pages, page_at, Past}
use Rattle.disk_model.specs.Images.{LastsOver, EachImage, SomeImage, AtEach, WritesOnly}
use Rattle.disk_model.proofs.Regions.{outside, lasts_apart}
use Rattle.image_layout.specs.declared.geometry.Geometry.{Geometry}
use Rattle.image_layout.specs.declared.geometry.TheConstants.{RECORD_PAGE}
use Rattle.image_layout.specs.declared.Sys.{Sys}
use Rattle.image_layout.specs.Geometry.{IsIn, slot_region, slot_start, data_start}
use Rattle.slot_disk.specs.Header.{record_on}
use Rattle.slot_disk.specs.Slots.{SlotsView, sys_of, with_sys, with_boot, with_broken, is_needed, HasSystem, IsGood, HasNeeded, Has, IsBad, IsDamaged, Fits, HaveOneView, IsSlotsPage}
use Rattle.slot_disk.proofs.SystemLemmas as systems
use Rattle.slot_disk.proofs.SystemLemmas.{slot_bounds}

pub some_weaker_sys : (o : Option Sys) (P Q : Sys → Type 0) → ((s : Sys) → P s → Q s) → IsSomeAnd o P → IsSomeAnd o Q
some_weaker_sys None P Q f h = h
some_weaker_sys (Some s) P Q f h = f s h

-- ---- a slot

-- A slot has one system. It depends on the slot's pages alone, so writes elsewhere leave it.
pub system_is_one : (g : Geometry) (slot : Slot) (s t : Sys) (image : Pages) → HasSystem g slot s image → HasSystem g slot t image → s ≡ t
system_is_one g slot s t image x y = systems.system_is_one g slot s t image x y

pub system_depends : (g : Geometry) (slot : Slot) (sys : Sys) (image other : Pages) → ((n : ℕ) → IsIn (slot_region g slot) n → page_at image n ≡ page_at other n) → HasSystem g slot sys image → HasSystem g slot sys other
system_depends g slot sys image other same has = systems.system_depends g slot sys image other same has

pub system_lasts : (region : ℕ → Type 0) (g : Geometry) (slot : Slot) (sys : Sys) → ((n : ℕ) → region n → IsIn (slot_region g slot) n → ⊥) → LastsOver region (HasSystem g slot sys)
system_lasts region g slot sys apart =
    lasts_apart region (IsIn (slot_region g slot)) (HasSystem g slot sys) apart (λ image other size same has. system_depends g slot sys image other same has)

pub system_outside : (region : ℕ → Type 0) (g : Geometry) (slot : Slot) (sys : Sys) (old new : Option Past) → ((n : ℕ) → region n → IsIn (slot_region g slot) n → ⊥) → EachImage old (HasSystem g slot sys) → WritesOnly old new region → AtEach old new (HasSystem g slot sys)
system_outside region g slot sys old new apart each only = outside region (HasSystem g slot sys) old new (system_lasts region g slot sys apart) each only

-- ---- the record and the slots

-- They depend on their own pages alone.
pub needed_depends : (s : SlotsView) (boot : Record) (image other : Pages) → ((slot : Slot) → is_needed boot slot ≡ true → (n : ℕ) → IsIn (slot_region s.geometry slot) n → page_at image n ≡ page_at other n) → HasNeeded s boot image → HasNeeded s boot other
needed_depends s boot image other same has = λ slot need.
    some_weaker_sys (sys_of s slot) (λ sys. HasSystem s.geometry slot sys image) (λ sys. HasSystem s.geometry slot sys other)
    (λ sys is. system_depends s.geometry slot sys image other (same slot need) is) (has slot need)

pub has_depends : (s : SlotsView) (image other : Pages) → ((n : ℕ) → IsSlotsPage s n → page_at image n ≡ page_at other n) → Has s image → Has s other
has_depends s image other same has = record {
  boot = ap record_on (sym (same RECORD_PAGE (inl refl))) ∙ has.boot;
  needed = needed_depends s s.boot image other (λ slot need n within. same n (inr (slot, need, within))) has.needed;
}

-- So writes elsewhere leave them, in each image and at each moment.
pub has_lasts : (region : ℕ → Type 0) (s : SlotsView) → ((n : ℕ) → region n → IsSlotsPage s n → ⊥) → LastsOver region (Has s)
has_lasts region s apart = lasts_apart region (IsSlotsPage s) (Has s) apart (λ image other size same has. has_depends s image other same has)

pub has_outside : (region : ℕ → Type 0) (s : SlotsView) (old new : Option Past) → ((n : ℕ) → region n → IsSlotsPage s n → ⊥) → Fits old s → WritesOnly old new region → AtEach old new (Has s)
has_outside region s old new apart fits only = outside region (Has s) old new (has_lasts region s apart) fits only

-- Their pages are the record page, and pages between the table and the data.
pub slots_pages : (s : SlotsView) (n : ℕ) → IsSlotsPage s n → (n ≡ RECORD_PAGE) ⊎ ((slot_start s.geometry A ≤ n) × (n < data_start s.geometry))
slots_pages s n (inl e) = inl e
slots_pages s n (inr own) = inr (slot_bounds s.geometry own.0 n own.2)

-- ---- one view

-- An image has one record, and one system for each slot that has to be good.
same_systems : (g : Geometry) (slot : Slot) (o p : Option Sys) (image : Pages) → IsSomeAnd o (λ sys. HasSystem g slot sys image) → IsSomeAnd p (λ sys. HasSystem g slot sys image) → o ≡ p
same_systems g slot None p image x y = absurd x
same_systems g slot (Some s) None image x y = absurd y
same_systems g slot (Some s) (Some t) image x y = ap (λ (k : Sys). Some k) (system_is_one g slot s t image x y)

pub boot_is_one : (s t : SlotsView) (image : Pages) → Has s image → Has t image → s.boot ≡ t.boot
boot_is_one s t image x y = sym x.boot ∙ y.boot

pub systems_are_one : (s t : SlotsView) (image : Pages) → s.geometry ≡ t.geometry → Has s image → Has t image → (slot : Slot) → is_needed s.boot slot ≡ true → sys_of s slot ≡ sys_of t slot
systems_are_one s t image same x y slot need =
    let there : is_needed t.boot slot ≡ true = subst (λ (r : Record). is_needed r slot ≡ true) (boot_is_one s t image x y) need in
    same_systems s.geometry slot (sys_of s slot) (sys_of t slot) image (x.needed slot need)
    (subst (λ (g : Geometry). IsSomeAnd (sys_of t slot) (λ sys. HasSystem g slot sys image)) (sym same) (y.needed slot there))

-- What one value has of an image, another has that has some image in common with it.
pub has_same : (s t : SlotsView) (image other : Pages) → s.geometry ≡ t.geometry → Has s image → Has t image → Has s other → Has t other
has_same s t image other same x y has = record {
  boot = has.boot ∙ boot_is_one s t image x y;
  needed = λ slot need.
      let here : is_needed s.boot slot ≡ true = subst (λ (r : Record). is_needed r slot ≡ true) (sym (boot_is_one s t image x y)) need in
      subst (λ (o : Option Sys). IsSomeAnd o (λ sys. HasSystem t.geometry slot sys other)) (systems_are_one s t image same x y slot here)
      (subst (λ (g : Geometry). IsSomeAnd (sys_of s slot) (λ sys. HasSystem g slot sys other)) same (has.needed slot here));
}

-- Where all images have one view, it is that of each value that some image has.
pub each_from_some : (t : SlotsView) (told : Option Past) → HaveOneView told t.geometry → SomeImage told (Has t) → Fits told t
each_from_some t None one some = tt
each_from_some t (Some past) one some = λ image is.
    has_same one.0 t some.0 image one.1 (one.2 some.0 some.1) some.2 (one.2 image is)

-- An image that has a value is not damaged, so none is where all have one view.
pub good_of : (g : Geometry) (slot : Slot) (o : Option Sys) (image : Pages) → IsSomeAnd o (λ sys. HasSystem g slot sys image) → IsGood g slot image
good_of g slot None image h = absurd h
good_of g slot (Some s) image h = (s, h)

not_bad : (s : SlotsView) (slot : Slot) (image : Pages) → Has s image → IsBad s.geometry slot image → ⊥
not_bad s slot image has bad =
    bad.bad (good_of s.geometry slot (sys_of s slot) image (has.needed slot (subst (λ (r : Record). is_needed r slot ≡ true) has.boot bad.needed)))

pub has_not_damaged : (s : SlotsView) (slot : Slot) (image : Pages) → Has s image → IsDamaged s.geometry slot image → ⊥
has_not_damaged s R image has damaged = not_bad s R image has damaged
has_not_damaged s A image has damaged = not_bad s A image has damaged.1
has_not_damaged s B image has damaged = not_bad s B image has damaged.2

pub never_damaged : (g : Geometry) (slot : Slot) (told : Option Past) → HaveOneView told g → SomeImage told (IsDamaged g slot) → IfSome told (λ past. ⊥)
never_damaged g slot None one some = tt
never_damaged g slot (Some past) one some =
    has_not_damaged one.0 slot some.0 (one.2 some.0 some.1) (subst (λ (h : Geometry). IsDamaged h slot some.0) (sym one.1) some.2)

-- ---- values that differ

-- The systems of a value are those of the value with another record, and of the value that broke.
pub needed_boot : (s : SlotsView) (value boot : Record) (image : Pages) → HasNeeded s boot image → HasNeeded (with_boot value s) boot image
needed_boot s value boot image has A need = has A need
needed_boot s value boot image has B need = has B need
needed_boot s value boot image has R need = has R need

needed_broken : (s : SlotsView) (boot : Record) (image : Pages) → HasNeeded s boot image → HasNeeded (with_broken s) boot image
needed_broken s boot image has A need = has A need
needed_broken s boot image has B need = has B need
needed_broken s boot image has R need = has R need

pub has_broken : (s : SlotsView) (image : Pages) → Has s image → Has (with_broken s) image
has_broken s image has = record { boot = has.boot; needed = needed_broken s s.boot image has.needed }

clash : (b : Bool) → b ≡ true → b ≡ false → ⊥
clash b t f = cc

without_a : (s : SlotsView) (sys : Sys) (image : Pages) → is_needed s.boot A ≡ false → HasNeeded s s.boot image → HasNeeded (with_sys A sys s) s.boot image
without_a s sys image spare has A need = absurd (clash (is_needed s.boot A) need spare)
without_a s sys image spare has B need = has B need
without_a s sys image spare has R need = has R need

without_b : (s : SlotsView) (sys : Sys) (image : Pages) → is_needed s.boot B ≡ false → HasNeeded s s.boot image → HasNeeded (with_sys B sys s) s.boot image
without_b s sys image spare has A need = has A need
without_b s sys image spare has B need = absurd (clash (is_needed s.boot B) need spare)
without_b s sys image spare has R need = has R need

-- The system of a slot that isn't needed may become another one.
pub has_with_sys : (s : SlotsView) (slot : Slot) (sys : Sys) (image : Pages) → is_needed s.boot slot ≡ false → Has s image → Has (with_sys slot sys s) image
has_with_sys s A sys image spare has = record { boot = has.boot; needed = without_a s sys image spare has.needed }
has_with_sys s B sys image spare has = record { boot = has.boot; needed = without_b s sys image spare has.needed }
has_with_sys s R sys image spare has = absurd (clash true refl spare)
