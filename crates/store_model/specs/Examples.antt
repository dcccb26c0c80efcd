-- Small states and histories, for the laws that say by example what the definitions come to.
use Rattle.std.specs.Prelude.{ℕ, true, false, List, [], ◌∷◌, replicate, codes, Option, Some, None, if◌then◌else◌}
use Rattle.std.specs.Str.{bytes_eq}
use Rattle.abr_record.specs.declared.Record.{Record}
use Rattle.abr_record.specs.declared.Slot.TheVariants.{B}
use Rattle.abr_record.specs.Boot.{factory_record}
use Rattle.abr_record.specs.Marks.{active_record}
use Rattle.abr_record.specs.Settling.{record_after}
use Rattle.image_layout.specs.declared.geometry.Geometry.{Geometry}
use Rattle.image_layout.specs.declared.Sys.{Sys}
use Rattle.package_book.specs.Books.Meta.{Long}
use Rattle.package_indexes.specs.declared.Choice.TheVariants.{Pinned}
use Rattle.pkg_names.specs.declared.root.Root.{Root}
use Rattle.system_lists.specs.Judging.{AtHand, static_name}
use Rattle.store_model.specs.declared.ends.ActivateEnd.TheVariants.{Active}
use Rattle.store_model.specs.declared.ends.BeginEnd.TheVariants.{Ticket}
use Rattle.store_model.specs.declared.ends.Miss.{Miss}
use Rattle.store_model.specs.declared.ends.RetainEnd.TheVariants.{Done}
use Rattle.store_model.specs.declared.ends.StageEnd.TheVariants.{Turn}
use Rattle.store_model.specs.declared.ends.WantEnd.TheVariants.{Fetch}
use Rattle.store_model.specs.declared.events.Act.{Act}
use Rattle.store_model.specs.declared.events.Act.TheVariants as acts
use Rattle.store_model.specs.declared.events.CallName.TheVariants as calls
use Rattle.store_model.specs.declared.events.Event.{Event}
use Rattle.store_model.specs.State.{State, opened, factory}
use Rattle.store_model.specs.Settling.{settle}
use Rattle.store_model.specs.History.{Origin, Beginning}
use Rattle.store_model.specs.Acts.Boot.{next_boot}
use Rattle.store_model.specs.Acts.Stage.{next_stage}
use Rattle.store_model.specs.Acts.Seal.{next_seal}
use Rattle.store_model.specs.Acts.Activate.{next_activate}
use Rattle.store_model.specs.Acts.LeftStage.{next_left_stage}
use Rattle.store_model.specs.Acts.Commit.{next_commit}
use Rattle.store_model.specs.Acts.Close.{next_close}
use Rattle.store_model.specs.Acts.Retain.{next_retain}

abbrev pub small : Geometry
small = record { blobs = 64; data_pages = 1024; slot_pages = 8 }

-- a root of one byte, again and again
abbrev pub root_like : ℕ → Root
root_like byte = record { 0 = replicate 32 byte }

abbrev pub did : ℕ → Act → Event
did by act = record { lane = by; act = act; broke = false }

-- ---- systems

-- the state after a boot of an empty store with this record and these systems
abbrev pub booted_by : Record → Sys → Sys → State
booted_by abr a b = next_boot (opened small (record { stock = []; abr = abr; a = Some a; b = Some b })) []

-- A runs this system, as the factory record says
abbrev pub running_a : Sys → State
running_a sys = next_boot (opened small (record { stock = []; abr = factory_record; a = Some sys; b = None })) []

-- and lane 1 fills B
abbrev pub filling_b : Sys → State
filling_b sys = next_stage (running_a sys) 1 (Turn B)

-- and has sealed and activated another system in it, and left the stage
abbrev pub updated : Sys → Sys → State
updated sys other = next_left_stage (next_activate (next_seal (filling_b sys) 1 other None) 1 [] (Active B))

-- the record that this update leaves
abbrev pub updated_record : Record
updated_record = active_record B factory_record

-- the state after the seventh boot with this record, and after the eighth
abbrev pub seventh : Sys → Sys → State
seventh a b = booted_by (record_after 6 updated_record) a b

abbrev pub eighth : Sys → Sys → State
eighth a b = booted_by (record_after 7 updated_record) a b

-- the seventh boot's system is committed
abbrev pub kept_at_last : Sys → Sys → State
kept_at_last a b = next_commit (seventh a b) true

-- recovery was asked for once
abbrev pub recovery : Sys → Sys → State
recovery a b = booted_by (record factory_record { one_shot = 1 }) a b

-- ---- judgements

abbrev only_at : List ℕ → Root → List ℕ → Option Root
only_at name root path = if bytes_eq path name then Some root else None

-- Every package is there, may be counted on, is a book and names itself alone. The list of a system's
-- packages is blob 2, and is empty.
abbrev pub all_there : AtHand
all_there = record {
  len = λ root. Some 0;
  is_kept = λ root. true;
  is_book = λ root. true;
  names = λ root. root ∷ [];
  outer = λ root. only_at static_name (root_like 2);
  bytes = λ root. Some [];
}

-- ---- one package

abbrev pub from_factory : Origin
from_factory = record { geometry = small; beginning = Beginning.Factory }

abbrev pub wanted : Root
wanted = root_like 7

-- the lane asks for it
abbrev pub asks : ℕ → Event
asks by =
    did by (acts.Begin (record { name = codes "example"; variant = codes "0" }) (Pinned wanted) (Ticket wanted) [])

-- lane 1 is to fetch its blob
abbrev pub granted : Event
granted = did 1 (acts.Want 1 (Fetch wanted))

-- lane 1 fetches it
abbrev pub fetching : List Event
fetching = asks 1 ∷ granted ∷ did 1 (acts.Room wanted 12288 None) ∷ []

-- a write of its bytes fails
abbrev pub failed_put : Event
failed_put = record { lane = 1; act = acts.Put wanted None; broke = true }

-- the ticket is given up, and a collection is refused
abbrev pub afterwards : List Event
afterwards = did 1 (acts.GaveUp 1) ∷ did 1 (acts.Refused calls.Collect 4) ∷ []

-- its blob lands, and is longer than any meta blob may be
abbrev pub a_long_package : List Event
a_long_package =
    asks 1 ∷ granted ∷ did 1 (acts.Room wanted 1048577 None) ∷ did 1 (acts.Land wanted 1048577 None []) ∷ []

-- lane 2 asks for it too, and then lane 1 is to fetch its blob
abbrev pub both_asked : List Event
both_asked = asks 1 ∷ asks 2 ∷ granted ∷ []

-- and that ends without bytes
abbrev pub both_missed : Miss → List Event
both_missed why = asks 1 ∷ asks 2 ∷ granted ∷ did 1 (acts.Missed wanted why) ∷ []

-- ---- collections and room

-- nothing is stored, and there may be so many blobs and pages of blobs
abbrev pub with_space : ℕ → ℕ → State
with_space blobs pages = factory (record { blobs = blobs; data_pages = pages; slot_pages = 8 })

-- a package that lane 1 has open under the number 2, and a blob that no package names
abbrev pub one_open : State
one_open = record (factory small) {
  stock = record { root = root_like 1; len = 1048577 } ∷ record { root = root_like 2; len = 5 } ∷ [];
  books = record { root = root_like 1; meta = Long 1048577 } ∷ [];
  dirs = record { number = 2; lane = 1; root = root_like 1 } ∷ [];
}

-- a lane closes that number
abbrev pub closed_by : ℕ → State
closed_by lane = settle [] (next_close one_open lane 2)

-- the package is retained before lane 1 closes it
abbrev pub retained_then_closed : State
retained_then_closed = settle [] (next_close (settle [] (next_retain one_open (root_like 1 ∷ []) Done)) 1 2)
