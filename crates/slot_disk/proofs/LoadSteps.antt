-- What is loaded, slot by slot, stands together in some image.
use Rattle.std.proofs.Common.{◌≡◌, ℕ, Bool, true, false, refl, sym, ◌∙◌, ap, subst, arith, Option, Some, is_some, IfSome}
use Rattle.abr_record.specs.declared.Slot.{Slot}
use Rattle.abr_record.specs.declared.Slot.TheVariants.{A, B, R}
use Rattle.abr_record.specs.declared.Record.{Record}
use Rattle.abr_record.specs.Boot.{is_bootable}
use Rattle.disk_model.specs.Past.{Pages, page_at, Past, IsPast}
use Rattle.disk_model.specs.Images.{SomeImage}
use Rattle.disk_model.proofs.ReadPages.{some_each, some_weaker}
use Rattle.image_layout.specs.declared.geometry.Geometry.{Geometry}
use Rattle.image_layout.specs.declared.geometry.TheConstants.{RECORD_PAGE}
use Rattle.image_layout.specs.declared.Sys.{Sys}
use Rattle.image_layout.specs.Geometry.{IsIn, slot_region, slot_start}
use Rattle.slot_disk.specs.declared.answers.SlotFault.{SlotFault}
use Rattle.slot_disk.specs.declared.answers.SlotFault.TheVariants.{Read, Damaged}
use Rattle.slot_disk.specs.declared.load.Loaded.{Loaded}
use Rattle.slot_disk.specs.Header.{record_on}
use Rattle.slot_disk.specs.Slots.{SlotsView, is_needed, HasSystem, IsGood, HasRecord, HasNeeded, Has, IsDamaged, KnowsNeeded, HasCause}
use Rattle.slot_disk.specs.Steps.{FoundIf, HasCauseAt, loaded_view, Stands}
use Rattle.slot_disk.proofs.Joined.{Below, From, some_split, each_any}
use Rattle.slot_disk.proofs.Standing.{some_weaker_sys, good_of, system_depends}

-- P depends on the pages of a slot alone
abbrev pub DependsOn : Geometry → Slot → (Pages → Type 0) → Type 0
DependsOn g slot P = (image other : Pages) → ((n : ℕ) → IsIn (slot_region g slot) n → page_at image n ≡ page_at other n) → P image → P other

pub any_depends : (g : Geometry) (slot : Slot) → DependsOn g slot (λ image. Unit {0})
any_depends g slot = λ image other same u. u

pub found_depends : (needed : Bool) (g : Geometry) (slot : Slot) (found : Option Sys) → DependsOn g slot (FoundIf needed g slot found)
found_depends needed g slot found = λ image other same has need.
    some_weaker_sys found (λ sys. HasSystem g slot sys image) (λ sys. HasSystem g slot sys other) (λ sys is. system_depends g slot sys image other same is) (has need)

pub bad_depends : (g : Geometry) (slot : Slot) → DependsOn g slot (λ image. IsGood g slot image → ⊥)
bad_depends g slot = λ image other same bad good. bad (good.0, system_depends g slot good.0 other image (λ n within. sym (same n within)) good.1)

record_below : (boot : Record) → Below 3 (HasRecord boot)
record_below boot = λ image other same has. ap record_on (sym (same RECORD_PAGE (omega arith))) ∙ has

some_any : (told : Option Past) → SomeImage told (λ image. Unit {0})
some_any told = some_each (λ image. Unit {0}) told (each_any told)

-- The record and three slots stand together.
pub slots_joined : (g : Geometry) (boot : Record) (P Q S : Pages → Type 0) (count : ℕ) (told : Option Past) → IfSome told (IsPast count) → DependsOn g A P → DependsOn g B Q → DependsOn g R S → SomeImage told (HasRecord boot) → SomeImage told P → SomeImage told Q → SomeImage told S → SomeImage told (λ image. HasRecord boot image × (P image × (Q image × S image)))
slots_joined g boot P Q S count told fits on_a on_b on_r record_found a b r =
    let Last : Pages → Type 0 = λ image. Q image × S image in
    let Three : Pages → Type 0 = λ image. P image × Last image in
    let last_from : From (slot_start g B) Last = λ image other same has. (
      on_b image other (λ n within. same n (omega (arith, within.0))) has.0,
      on_r image other (λ n within. same n (omega (arith, within.0))) has.1,
    ) in
    let last : SomeImage told Last =
    some_split (slot_start g R) count Q S told fits (λ image other same q. on_b image other (λ n within. same n (omega (arith, within.1))) q) (λ image other same s. on_r image other (λ n within. same n (omega (arith, within.0))) s) b r in
    let three : SomeImage told Three =
    some_split (slot_start g B) count P Last told fits (λ image other same p. on_a image other (λ n within. same n (omega (arith, within.1))) p) last_from a last in
    some_split 3 count (HasRecord boot) Three told fits (record_below boot)
    (λ image other same has. (
      on_a image other (λ n within. same n (omega (arith, within.0))) has.0,
      last_from image other (λ n le. same n (omega (arith, le))) has.1,
    )) record_found three

-- ---- what was found

-- a slot that was read and is good, or isn't needed
pub found_good : (needed : Bool) (g : Geometry) (slot : Slot) (sys : Sys) (told : Option Past) → SomeImage told (Stands g slot (Some sys)) → SomeImage told (FoundIf needed g slot (Some sys))
found_good needed g slot sys told some = some_weaker (HasSystem g slot sys) (FoundIf needed g slot (Some sys)) told (λ image has need. has) some

clash : (b : Bool) → b ≡ false → b ≡ true → ⊥
clash b f t = cc

pub found_none : (needed : Bool) (g : Geometry) (slot : Slot) (found : Option Sys) (told : Option Past) → needed ≡ false → SomeImage told (FoundIf needed g slot found)
found_none needed g slot found told off = some_weaker (λ image. Unit {0}) (FoundIf needed g slot found) told (λ image _ need. absurd (clash needed off need)) (some_any told)

pub knows_all : (s : SlotsView) → is_some s.a ≡ is_bootable s.boot.a → is_some s.b ≡ is_bootable s.boot.b → is_some s.recovery ≡ true → KnowsNeeded s
knows_all s a b r A = a
knows_all s a b r B = b
knows_all s a b r R = r

has_all : (s : SlotsView) (image : Pages) → HasRecord s.boot image → FoundIf (is_bootable s.boot.a) s.geometry A s.a image → FoundIf (is_bootable s.boot.b) s.geometry B s.b image → FoundIf true s.geometry R s.recovery image → HasNeeded s s.boot image
has_all s image boot a b r A need = a need
has_all s image boot a b r B need = b need
has_all s image boot a b r R need = r refl

module _ (g : Geometry) (loaded : Loaded) (need_a need_b : Bool) (count : ℕ) (told : Option Past) (fits : IfSome told (IsPast count)) (is_a : need_a ≡ is_bootable loaded.boot.a) (is_b : need_b ≡ is_bootable loaded.boot.b) where
  pub all_loaded : SomeImage told (HasRecord loaded.boot) → SomeImage told (FoundIf need_a g A loaded.a) → SomeImage told (FoundIf need_b g B loaded.b) → SomeImage told (FoundIf true g R loaded.recovery) → SomeImage told (Has (loaded_view g loaded))
  all_loaded boot a b r =
      some_weaker (λ image. HasRecord loaded.boot image × (FoundIf need_a g A loaded.a image × (FoundIf need_b g B loaded.b image × FoundIf true g R loaded.recovery image))) (Has (loaded_view g loaded)) told
      (λ image all. record {
        boot = all.0;
        needed = has_all (loaded_view g loaded) image all.0
            (subst (λ (n : Bool). FoundIf n g A loaded.a image) is_a all.1.0)
            (subst (λ (n : Bool). FoundIf n g B loaded.b image) is_b all.1.1.0) all.1.1.1;
      })
      (slots_joined g loaded.boot (FoundIf need_a g A loaded.a) (FoundIf need_b g B loaded.b) (FoundIf true g R loaded.recovery) count told fits
      (found_depends need_a g A loaded.a) (found_depends need_b g B loaded.b) (found_depends true g R loaded.recovery) boot a b r)

-- ---- what is damaged

needed_by : (boot : Record) (slot : Slot) (image : Pages) → HasRecord boot image → is_needed boot slot ≡ true → is_needed (record_on (page_at image RECORD_PAGE)) slot ≡ true
needed_by boot slot image has need = subst (λ (r : Record). is_needed r slot ≡ true) (sym has) need

pub cause_r : (g : Geometry) (told : Option Past) (fault : SlotFault) → HasCauseAt told g R true fault → HasCause told g fault
cause_r g told Read cause = tt
cause_r g told (Damaged bad) cause =
    subst (λ (s : Slot). SomeImage told (IsDamaged g s)) (sym cause.0)
    (some_weaker (λ image. IsGood g R image → ⊥) (IsDamaged g R) told (λ image not. record { needed = refl; bad = not }) cause.2)

module _ (g : Geometry) (boot : Record) (recovery : Option Sys) (count : ℕ) (told : Option Past) (fits : IfSome told (IsPast count)) (has_boot : SomeImage told (HasRecord boot)) (has_r : SomeImage told (FoundIf true g R recovery)) where
  pub cause_a : (needed : Bool) (fault : SlotFault) → needed ≡ is_bootable boot.a → HasCauseAt told g A needed fault → HasCause told g fault
  cause_a needed Read is cause = tt
  cause_a needed (Damaged bad) is cause =
      subst (λ (s : Slot). SomeImage told (IsDamaged g s)) (sym cause.0)
      (some_weaker (λ image. HasRecord boot image × ((IsGood g A image → ⊥) × (Unit {0} × FoundIf true g R recovery image))) (IsDamaged g A) told
      (λ image all. (good_of g R recovery image (all.1.1.1 refl), record { needed = needed_by boot A image all.0 (sym is ∙ cause.1); bad = all.1.0 }))
      (slots_joined g boot (λ image. IsGood g A image → ⊥) (λ image. Unit {0}) (FoundIf true g R recovery) count told fits
      (bad_depends g A) (any_depends g B) (found_depends true g R recovery) has_boot cause.2 (some_any told) has_r))

  pub cause_b : (a : Option Sys) (need_a needed : Bool) (fault : SlotFault) → need_a ≡ is_bootable boot.a → needed ≡ is_bootable boot.b → SomeImage told (FoundIf need_a g A a) → HasCauseAt told g B needed fault → HasCause told g fault
  cause_b a need_a needed Read is_a is found cause = tt
  cause_b a need_a needed (Damaged bad) is_a is found cause =
      subst (λ (s : Slot). SomeImage told (IsDamaged g s)) (sym cause.0)
      (some_weaker (λ image. HasRecord boot image × (FoundIf need_a g A a image × ((IsGood g B image → ⊥) × FoundIf true g R recovery image))) (IsDamaged g B) told
      (λ image all. (
        good_of g R recovery image (all.1.1.1 refl),
        (λ need. good_of g A a image (all.1.0 (is_a ∙ subst (λ (r : Record). is_needed r A ≡ true) all.0 need))),
        record { needed = needed_by boot B image all.0 (sym is ∙ cause.1); bad = all.1.1.0 },
      ))
      (slots_joined g boot (FoundIf need_a g A a) (λ image. IsGood g B image → ⊥) (FoundIf true g R recovery) count told fits
      (found_depends need_a g A a) (bad_depends g B) (found_depends true g R recovery) has_boot found cause.2 has_r))
