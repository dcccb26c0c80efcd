-- How a store opens, from what lasted.
use Rattle.std.specs.Prelude.{◌≡◌, List, [], ◌∷◌}
use Rattle.abr_record.specs.declared.Slot.{Slot}
use Rattle.image_layout.specs.declared.geometry.Geometry.{Geometry}
use Rattle.store_model.specs.declared.events.Act.TheVariants as acts
use Rattle.store_model.specs.declared.events.LookedAt.{LookedAt}
use Rattle.store_model.specs.State.{Standing, opened}
use Rattle.store_model.specs.Acts.Boot.{IsDueBoot}
use Rattle.plain_boot.specs.declared.starting.BootEnd.TheVariants as boots
use Rattle.plain_boot.specs.Starting.{Starts}
use Rattle.plain_ledger.specs.Ledgers.{origin_of, event_by}
use Rattle.plain_desk.specs.Stores.{StoreOf, ImagesOf, without_fillers}
use Rattle.plain_desk.specs.declared.opening.Opening.{Opening}
use Rattle.plain_desk.specs.declared.opening.Opening.TheVariants.{Booted, NoSystem, Missing, Faulty}

-- The store begins with what lasted, and with its boot, which was due. No lane has put anything together. The images
-- are there, and no file is known of them.
pub record HasBooted (given : ImagesOf) (g : Geometry) (d : Standing) (s : StoreOf) : Type 0 where
  pub slot : Slot
  pub seen : List LookedAt
  pub due : IsDueBoot (opened g d) 0 slot seen
  pub origin : s.origin ≡ origin_of g d
  pub history : s.history ≡ event_by 0 (acts.Boot slot seen) ∷ []
  pub drafts : s.drafts ≡ []
  pub images : s.images ≡ without_fillers given

abbrev pub Opens : List LookedAt → ImagesOf → Geometry → Standing → Opening → Type 0
Opens contents images g d (Booted store) = HasBooted images g d store
Opens contents images g d (NoSystem slot) = Starts contents (opened g d) (boots.NoSystem slot)
Opens contents images g d (Missing slot root) = Starts contents (opened g d) (boots.Missing slot root)
Opens contents images g d (Faulty slot why) = Starts contents (opened g d) (boots.Faulty slot why)
