-- What crates above need to know of the table of an image.
use Rattle.std.proofs.Common.{◌≡◌, ℕ, ◌<◌, Bool, List, inl, inr, arith, Option, Some, None, IfSome}
use Rattle.disk_model.specs.Past.{Pages, page_at, Past}
use Rattle.disk_model.specs.Images.{LastsOver, EachImage, SomeImage, AtEach, WritesOnly}
use Rattle.disk_model.proofs.Regions.{outside}
use Rattle.image_layout.specs.declared.geometry.Geometry.{Geometry}
use Rattle.image_layout.specs.declared.Place.{Place}
use Rattle.image_layout.specs.Geometry.{IsWithinLimits, data_start}
use Rattle.node_table.specs.declared.entry.Entry.{Entry}
use Rattle.node_table.specs.Table.{HasTable, IsDamaged, HaveOneTable, IsTablePage}
use Rattle.node_table.proofs.TableLemmas.{one_table, not_damaged, depends, lasts, own_table, region_below}

-- An image has one table, and one that has a table is not damaged.
pub table_is_one : (g : Geometry) (s t : Bool) (a b : List Entry) (image : Pages) → HasTable g s a image → HasTable g t b image → (s ≡ t) × (a ≡ b)
table_is_one g s t a b image x y = one_table g s t a b image x y

pub table_not_damaged : (g : Geometry) (second : Bool) (entries : List Entry) (found : Place) (image : Pages) → HasTable g second entries image → IsDamaged g found image → ⊥
table_not_damaged g second entries found image has damage = not_damaged g second entries found image has damage

-- So where all images have one table, none is damaged.
pub never_damaged : (g : Geometry) (found : Place) (told : Option Past) → HaveOneTable told g → SomeImage told (IsDamaged g found) → IfSome told (λ past. ⊥)
never_damaged g found None one some = tt
never_damaged g found (Some past) one some = not_damaged g one.0 one.1 found some.0 (one.2 some.0 some.1) some.2

-- It depends on its own pages alone.
pub table_depends : (g : Geometry) (second : Bool) (entries : List Entry) → IsWithinLimits g → (image other : Pages) → ((n : ℕ) → IsTablePage g n → page_at image n ≡ page_at other n) → HasTable g second entries image → HasTable g second entries other
table_depends g second entries limits image other same has = depends g second entries limits image other (λ n own. same n (own_table g second n own)) has

-- Writes elsewhere leave it, and leave it in each image at each moment.
pub table_lasts : (region : ℕ → Type 0) (g : Geometry) (second : Bool) (entries : List Entry) → IsWithinLimits g → ((n : ℕ) → region n → IsTablePage g n → ⊥) → LastsOver region (HasTable g second entries)
table_lasts region g second entries limits apart = lasts region g second entries limits (λ n within own. apart n within (own_table g second n own))

pub table_outside : (region : ℕ → Type 0) (g : Geometry) (second : Bool) (entries : List Entry) (old new : Option Past) → IsWithinLimits g → ((n : ℕ) → region n → IsTablePage g n → ⊥) → EachImage old (HasTable g second entries) → WritesOnly old new region → AtEach old new (HasTable g second entries)
table_outside region g second entries old new limits apart each only = outside region (HasTable g second entries) old new (table_lasts region g second entries limits apart) each only

-- Its pages lie before the data.
pub table_before_data : (g : Geometry) (n : ℕ) → IsTablePage g n → n < data_start g
table_before_data g n (inl e) = omega (arith, e)
table_before_data g n (inr within) = region_below g within.0 n within.1
