-- A history that is being printed: some lines are written, and some are gathered.
use Rattle.std.specs.Prelude.{◌≡◌, ℕ, List, ◌++◌, ◌⊎◌, Option, Result, Ok, Err}
use Rattle.pkg_names.specs.Streams.{Rose}
use Rattle.pkg_tool.specs.declared.running.Status.{Status}
use Rattle.pkg_tool.specs.declared.running.Status.TheVariants.{SinkFault, NoMemory}
use Rattle.pkg_tool.specs.Written.{Wrote, WroteFront}

-- Some bytes are written, others are gathered, and together they are these.
pub record Prints (first now : Option (List ℕ)) (gathered bytes : List ℕ) : Type 0 where
  pub given : List ℕ
  pub wrote : Wrote first given now
  pub all : given ++ gathered ≡ bytes

-- It ends before the next piece is gathered: a front of all is written, and where memory was short all but the piece.
pub record Ends (status : Status) (first now : Option (List ℕ)) (bytes piece : List ℕ) : Type 0 where
  pub front : WroteFront first (bytes ++ piece) now
  pub lines : status ≡ NoMemory → Wrote first bytes now

-- the printing ends so: memory was short, or the sink failed
abbrev pub IsCutOff : Status → ℕ → ℕ → Type 0
IsCutOff status faults faults_now = (status ≡ NoMemory) ⊎ ((status ≡ SinkFault) × Rose faults faults_now)

-- the next piece is gathered too, or it ends
abbrev pub Goes : {A : Type 0} → Result A Status → Option (List ℕ) → Option (List ℕ) → List ℕ → List ℕ → List ℕ → Type 0
Goes (Ok done) first now gathered bytes piece = Prints first now gathered (bytes ++ piece)
Goes (Err status) first now gathered bytes piece = Ends status first now bytes piece

-- the last bytes are written, or the sink failed
abbrev pub IsClosed : Status → Status → Option (List ℕ) → List ℕ → Option (List ℕ) → ℕ → ℕ → Type 0
IsClosed status good first bytes now faults faults_now =
    ((status ≡ good) × Wrote first bytes now) ⊎ ((status ≡ SinkFault) × Rose faults faults_now)
