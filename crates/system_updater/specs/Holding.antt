-- What the lane holds at each point of an update, besides what it held before.
use Rattle.std.specs.Prelude.{◌≡◌, ℕ, [], ◌∷◌, ◌++◌, Some, None}
use Rattle.pkg_names.specs.declared.root.Root.{Root}
use Rattle.store_model.specs.declared.replies.Dir.{Dir}
use Rattle.store_model.specs.State.{Phase}
use Rattle.store_model.specs.State.Phase.{Filling as Fills, Sealed}
use Rattle.store_model.specs.Holding.{Held}
use Rattle.store_model.specs.Desk.{View, held_by}
use Rattle.system_updater.specs.Serving.{Point, CanCome}
use Rattle.system_updater.specs.Serving.Point.{Asking, Reading, Rejecting, Staging, Retaining, Fetching, Filling, Copying, Activating, Closing, Leaving, Ended}

-- besides, this directory of some package
pub record WithDir (lane : ℕ) (dir : Dir) (less more : Held) : Type 0 where
  pub root : Root
  pub is : more ≡ record less { dirs = less.dirs ++ record { number = dir.number; lane = lane; root = root } ∷ [] }

-- besides, an update in this phase
pub record WithStage (phase : Phase) (less more : Held) : Type 0 where
  pub none : less.stage ≡ None
  pub is : more ≡ record less { stage = Some phase }

-- the update package is open
abbrev pub IsOpen : ℕ → Dir → Held → Held → Type 0
IsOpen lane dir base now = WithDir lane dir base now

-- the update package is open, and an update is in this phase
abbrev pub IsStaged : ℕ → Dir → Phase → Held → Held → Type 0
IsStaged lane dir phase base now = (open_ : Held) × WithDir lane dir base open_ × WithStage phase open_ now

-- What the lane holds at a point: the update package from its resolve on, a stage while a slot is filled, and the
-- directory of an image while it is copied. What a point goes on to after a close or a leave, it holds less that. By
-- what is held some replies don't come.
abbrev pub IsHeldAt : ℕ → Point → Held → Held → Type 0
IsHeldAt lane (Asking path pin) base now = now ≡ base
IsHeldAt lane (Reading dir prior) base now = IsOpen lane dir base now
IsHeldAt lane (Rejecting dir file why) base now = IsOpen lane dir base now
IsHeldAt lane (Staging dir plan) base now = IsOpen lane dir base now
IsHeldAt lane (Retaining dir plan) base now = IsStaged lane dir Fills base now
IsHeldAt lane (Fetching dir plan later) base now = IsStaged lane dir Fills base now
IsHeldAt lane (Filling dir plan later) base now = IsStaged lane dir Fills base now
IsHeldAt lane (Copying dir plan task from later) base now =
    (less : Held) × IsStaged lane dir Fills base less × WithDir lane from less now
IsHeldAt lane (Activating dir sys) base now = IsStaged lane dir (Sealed sys) base now
IsHeldAt lane (Closing dir next) base now = (less : Held) × IsHeldAt lane next base less × WithDir lane dir less now
IsHeldAt lane (Leaving next) base now =
    (less : Held) × IsHeldAt lane next base less × ((phase : Phase) × WithStage phase less now)
IsHeldAt lane (Ended reply) base now = CanCome reply × (now ≡ base)

-- so it is at this desk, and the lane fetches nothing
pub record HoldsAt (point : Point) (v : View) : Type 0 where
  pub base : Held
  pub free : base.claim ≡ None
  pub is : IsHeldAt v.lane point base (held_by v)
