-- The parts of a commit.
use Rattle.std.proofs.Common.{◌≡◌, ◌≢◌, ◌⊎◌, ℕ, ◌≤◌, Bool, true, false, not, List, length, All, AllPairs, sym, refl, subst, inl, Option}
use Rattle.std.specs.Option.{ForSome}
use Rattle.disk_model.specs.Past.{Past}
use Rattle.disk_model.specs.Images.{EachImage, AtEach, WritesOnly}
use Rattle.disk_model.proofs.Moments.{at_start, at_weaker}
use Rattle.pkg_names.specs.declared.root.Root.{Root}
use Rattle.image_layout.specs.declared.geometry.Geometry.{Geometry}
use Rattle.node_table.specs.declared.entry.Entry.{Entry}
use Rattle.node_table.specs.Entries.{IsEntry, MayStandTogether, AreSound, MayCome, without, with_added}
use Rattle.node_table.specs.Table.{TableView, HasTable, Has, Fits, committed, IsCommitPage}
use Rattle.node_table.specs.Steps.{IsSwitchPage}
use Rattle.node_table.proofs.Listing.{stands_last}
use Rattle.node_table.proofs.LayLemmas.{sound_committed}

-- What comes stands beside the entries.
pub comes_beside : (g : Geometry) (entries : List Entry) (add : Option Entry) (count : ℕ) → count ≡ g.data_pages → ForSome add (MayCome g entries) → ForSome add (λ entry. IsEntry count entry × All (λ other. MayStandTogether other entry) entries)
comes_beside g entries add count e may entry is =
    let m = may entry is in
    (subst (λ (n : ℕ). IsEntry n entry) (sym e) m.entry, stands_last entries entry m.fresh m.free)

pub roots_differ : (g : Geometry) (entries : List Entry) → AreSound g entries → AllPairs (λ a b. a.root ≢ b.root) entries
roots_differ g entries sound i j d before lt = (sound.together i j d before lt).roots

not-not : (b : Bool) → not (not b) ≡ b
not-not true = refl
not-not false = refl

-- The copy that counts is the one that a switch leaves alone.
pub counts_before : (g : Geometry) (second : Bool) (entries : List Entry) (told : Option Past) → EachImage told (HasTable g second entries) → EachImage told (HasTable g (not (not second)) entries)
counts_before g second entries told each = subst (λ (b : Bool). EachImage told (HasTable g b entries)) (sym (not-not second)) each

pub counts_either : (g : Geometry) (second : Bool) (before after : List Entry) (old new : Option Past) → AtEach old new (λ image. HasTable g (not (not second)) before image ⊎ HasTable g (not second) after image) → AtEach old new (λ image. HasTable g second before image ⊎ HasTable g (not second) after image)
counts_either g second before after old new at = subst (λ (b : Bool). AtEach old new (λ image. HasTable g b before image ⊎ HasTable g (not second) after image)) (not-not second) at

-- Nothing was done.
pub nothing_done : (g : Geometry) (second other : Bool) (before after : List Entry) (told : Option Past) → EachImage told (HasTable g second before) → AtEach told told (λ image. HasTable g second before image ⊎ HasTable g other after image)
nothing_done g second other before after told each = at_weaker (HasTable g second before) (λ image. HasTable g second before image ⊎ HasTable g other after image) told told (λ image has. inl has) (at_start (HasTable g second before) told each)

-- The entries after the commit are sound, and laid out as a table's.
pub sound_after : (g : Geometry) (gone : List Root) (entries : List Entry) (add : Option Entry) (count : ℕ) → AreSound g entries → ForSome add (MayCome g entries) → count ≡ g.blobs → length (with_added add (without gone entries)) ≤ count → AreSound g (with_added add (without gone entries))
sound_after g gone entries add count sound may e fits = sound_committed g gone entries add sound may (subst (λ (n : ℕ). length (with_added add (without gone entries)) ≤ n) e fits)

-- What was said of a table's fields is said of its value.
module _ (t : TableView) (g : Geometry) (second broken : Bool) (entries es : List Entry) (is : (let v : TableView = record { geometry = g; second = second; entries = entries; broken = broken } in v) ≡ t) (same : es ≡ entries) (old new : Option Past) where
  pub view_moment : (add : Option Entry) (gone : List Root) → (EachImage old (HasTable g second es) → AtEach old new (λ image. HasTable g second es image ⊎ HasTable g (not second) (with_added add (without gone es)) image)) → Fits old t → AtEach old new (λ image. Has t image ⊎ Has (committed t add gone) image)
  view_moment add gone h =
      subst (λ (v : TableView). Fits old v → AtEach old new (λ image. Has v image ⊎ Has (committed v add gone) image)) is
      (subst (λ (l : List Entry). EachImage old (HasTable g second l) → AtEach old new (λ image. HasTable g second l image ⊎ HasTable g (not second) (with_added add (without gone l)) image)) same h)

  pub view_only : WritesOnly old new (IsSwitchPage g (not second)) → WritesOnly old new (IsCommitPage t)
  view_only only = subst (λ (v : TableView). WritesOnly old new (IsCommitPage v)) is only
