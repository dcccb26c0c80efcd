-- How a history serves a script.
use Rattle.std.specs.Prelude.{◌≡◌, ℕ, ◌+◌, Bool, List, [], ◌∷◌, ◌++◌, length, Option, Some, None, IfSome}
use Rattle.abr_record.specs.declared.Slot.{Slot}
use Rattle.pkg_names.specs.declared.root.Root.{Root}
use Rattle.pkg_merkle.specs.Merkle.{merkle_root}
use Rattle.store_model.specs.declared.events.Event.{Event}
use Rattle.store_model.specs.declared.events.LookedAt.{LookedAt}
use Rattle.store_model.specs.declared.events.Act.TheVariants as acts
use Rattle.store_model.specs.declared.ends.ReadEnd.TheVariants as reads
use Rattle.store_model.specs.State.{State, Standing, without_blobs}
use Rattle.store_model.specs.Files.{Found, found}
use Rattle.store_model.specs.Files.Found.{Inner, Outer}
use Rattle.store_model.specs.Packages.{rest}
use Rattle.store_model.specs.Step.{step}
use Rattle.store_model.specs.History.{Origin, IsLegal, Numbered, after, of_lane}
use Rattle.store_model.specs.Lanes.{claims_of, tickets_of, stage_of}
use Rattle.plain_ledger.specs.Ledgers.{origin_of, event_by}
use Rattle.plain_desk.specs.Memory.{AreOfMemory}
use Rattle.script_lang.specs.declared.request.Request.{Request}
use Rattle.script_lang.specs.Scripts.{IsScript, IsGreatestLane}
use Rattle.system_updater.specs.Viewing.{Told}
use Rattle.first_store.specs.Start.{IsStart, start_geometry}
use Rattle.script_server.specs.Lanes.{AreServed, AreFresh, some_cut}

-- ---- what a history says

-- the store booted, once
abbrev pub IsBoot : List Numbered → Type 0
IsBoot events =
    (slot : Slot) × (seen : List LookedAt)
    × (events ≡ record { number = 1; event = event_by 0 (acts.Boot slot seen) } ∷ [])

-- the bytes are the file's: those that lie in the package's archive, or bytes with the root that its list has
abbrev pub AreBytesOf : Found → List ℕ → Type 0
AreBytesOf (Inner own) bytes = bytes ≡ own
AreBytesOf (Outer root) bytes = merkle_root bytes ≡ root
AreBytesOf file bytes = ⊥

-- whatever was read are the bytes of the file that was asked for
abbrev pub ReadsFiles : Origin → List Event → Type 0
ReadsFiles origin history =
    (first later : List Event) (lane dir : ℕ) (file bytes : List ℕ)
    → history ≡ first ++ event_by lane (acts.Read dir file (reads.Got bytes)) ∷ later
    → AreBytesOf (found (after origin first) lane dir file) bytes

-- what was collected is what no protected package names, and just that is gone
pub record IsCollected (s : State) (number lane : ℕ) (roots : List Root) : Type 0 where
  pub due : roots ≡ rest s
  pub gone : (step s number (event_by lane (acts.Collect (Some roots)))).stock ≡ without_blobs s.stock roots

abbrev pub CollectsRest : Origin → List Event → Type 0
CollectsRest origin history =
    (first later : List Event) (lane : ℕ) (roots : List Root)
    → history ≡ first ++ event_by lane (acts.Collect (Some roots)) ∷ later
    → IsCollected (after origin first) (length first + 1) lane roots

-- the lane claims nothing, has no ticket, and updates nothing
pub record RestsIn (lane : ℕ) (s : State) : Type 0 where
  pub claims : claims_of lane s ≡ []
  pub tickets : tickets_of lane s ≡ []
  pub stage : stage_of lane s ≡ None

-- The history is legal from the store that the program begins with, and tells of no disk. After the boot, each
-- lane's events serve its requests of the script, by the repository at its place, and no other event is there. At the
-- end no lane holds anything but directories.
pub record ServesScript (text : Option (List ℕ)) (starved : Bool) (history : List Event) (repos repos_now : List Told)
    : Type 0 where
  pub start : Standing
  pub is_start : IsStart start
  pub legal : IsLegal (origin_of start_geometry start) history
  pub steady : AreOfMemory history
  pub boot : IsBoot (of_lane 0 history)
  pub requests : List Request
  pub asked : IfSome text (λ bytes. IsScript bytes requests)
  pub lanes : ℕ
  pub greatest : IsGreatestLane requests lanes
  pub cuts : List Bool
  pub each : length cuts ≡ lanes
  pub some : starved ≡ some_cut cuts
  pub served : AreServed (origin_of start_geometry start) requests history 0 cuts repos repos_now
  pub none : AreFresh lanes history
  pub reads : ReadsFiles (origin_of start_geometry start) history
  pub collects : CollectsRest (origin_of start_geometry start) history
  pub rests : (lane : ℕ) → RestsIn lane (after (origin_of start_geometry start) history)
