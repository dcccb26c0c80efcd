-- Which parts of the state an event can change.
use Rattle.std.specs.Prelude.{◌≡◌, Bool, true, false, if◌then◌else◌}
use Rattle.store_model.specs.declared.events.Event.{Event}
use Rattle.store_model.specs.declared.events.Act.{Act}
use Rattle.store_model.specs.declared.events.Act.TheVariants.{Boot, Begin, Want, Room, Put, Land, Missed, GaveUp, OpenPath, Close, Collect, Retain, Stage, Seal, Activate, LeftStage, Commit, Refused}
use Rattle.store_model.specs.State.{State}

-- The parts that may change. The books may change with any event.
pub record Footprint : Type 0 where
  pub booted : Bool
  pub stock : Bool
  pub claims : Bool
  pub arriving : Bool
  pub system : Bool
  pub active : Bool
  pub retained : Bool
  pub dirs : Bool
  pub abr : Bool
  pub slots : Bool
  pub stage : Bool
  pub broken : Bool

abbrev nothing : Footprint
nothing = record {
  booted = false;
  stock = false;
  claims = false;
  arriving = false;
  system = false;
  active = false;
  retained = false;
  dirs = false;
  abr = false;
  slots = false;
  stage = false;
  broken = false;
}

abbrev pub footprint_of : Act → Footprint
footprint_of (Boot slot seen) = record nothing { booted = true; abr = true; system = true }
footprint_of (Begin path choice reply seen) = record nothing { arriving = true }
footprint_of (Want ticket reply) = record nothing { claims = true; arriving = true; active = true; dirs = true }
footprint_of (Room root len reply) = record nothing { claims = true; arriving = true }
footprint_of (Put root reply) = record nothing { claims = true; arriving = true }
footprint_of (Land root len reply seen) = record nothing { stock = true; claims = true; arriving = true }
footprint_of (Missed root why) = record nothing { claims = true; arriving = true }
footprint_of (GaveUp ticket) = record nothing { arriving = true }
footprint_of (OpenPath path reply) = record nothing { dirs = true }
footprint_of (Close dir closed) = record nothing { dirs = true }
footprint_of (Collect reply) = record nothing { stock = true }
footprint_of (Retain roots reply seen) = record nothing { retained = true }
footprint_of (Stage epoch reply) = record nothing { abr = true; slots = true; stage = true }
footprint_of (Seal sys reply) = record nothing { stage = true }
footprint_of (Activate reply seen) = record nothing { abr = true; slots = true; stage = true }
footprint_of LeftStage = record nothing { stage = true }
footprint_of (Commit done) = record nothing { abr = true }
footprint_of (Refused call broken) = record nothing { claims = true; arriving = true }
footprint_of act = nothing

-- a call in which a write failed
abbrev pub broken_footprint : Footprint
broken_footprint = record nothing { claims = true; broken = true }

abbrev pub footprint : Event → Footprint
footprint e = if e.broke then broken_footprint else footprint_of e.act

-- The new state has each part of the old one that isn't in the footprint. The geometry never changes.
pub record KeepsRest (f : Footprint) (old new : State) : Type 0 where
  pub geometry : new.geometry ≡ old.geometry
  pub booted : f.booted ≡ false → new.booted ≡ old.booted
  pub stock : f.stock ≡ false → new.stock ≡ old.stock
  pub claims : f.claims ≡ false → new.claims ≡ old.claims
  pub arriving : f.arriving ≡ false → new.arriving ≡ old.arriving
  pub base : f.system ≡ false → new.base ≡ old.base
  pub cached : f.system ≡ false → new.cached ≡ old.cached
  pub running : f.system ≡ false → new.running ≡ old.running
  pub active : f.active ≡ false → new.active ≡ old.active
  pub retained : f.retained ≡ false → new.retained ≡ old.retained
  pub dirs : f.dirs ≡ false → new.dirs ≡ old.dirs
  pub abr : f.abr ≡ false → new.abr ≡ old.abr
  pub a : f.slots ≡ false → new.a ≡ old.a
  pub b : f.slots ≡ false → new.b ≡ old.b
  pub stage : f.stage ≡ false → new.stage ≡ old.stage
  pub staged : f.slots ≡ false → new.staged ≡ old.staged
  pub broken : f.broken ≡ false → new.broken ≡ old.broken
