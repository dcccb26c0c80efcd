-- What the parts in memory are seen as.
use Rattle.std.specs.Prelude.{◌≡◌, List, [], ◌∷◌, Option}
use Rattle.package_indexes.specs.declared.Arriving.{Arriving}
use Rattle.fetch_queue.specs.declared.FetchEnd.{FetchEnd}
use Rattle.fetch_queue.specs.declared.queue.MarkEntry.{MarkEntry}
use Rattle.store_model.specs.State.{Arrival, Phase}
use Rattle.store_model.specs.State.Phase.{Filling, Sealed, Done}
use Rattle.plain_state.specs.declared.turns.PhaseOf.{PhaseOf}
use Rattle.plain_state.specs.declared.turns.PhaseOf.TheVariants as phases

abbrev pub phase_by : PhaseOf → Phase
phase_by phases.Filling = Filling
phase_by (phases.Sealed sys) = Sealed sys
phase_by phases.Done = Done

-- a package that arrives, with its mark
abbrev pub with_mark : Option FetchEnd → Arriving → Arrival
with_mark mark arrival = record {
  ticket = arrival.ticket;
  lane = arrival.lane;
  path = arrival.path;
  root = arrival.root;
  mark = mark;
}

-- the packages that arrive, each with its mark
abbrev pub joined : List Arriving → List MarkEntry → List Arrival
joined [] marks = []
joined (arrival ∷ arriving) [] = []
joined (arrival ∷ arriving) (mark ∷ marks) = with_mark mark.end arrival ∷ joined arriving marks

-- each package that arrives has its mark, at the same place
abbrev pub AreMarked : List Arriving → List MarkEntry → Type 0
AreMarked [] [] = Unit {0}
AreMarked [] (mark ∷ marks) = ⊥
AreMarked (arrival ∷ arriving) [] = ⊥
AreMarked (arrival ∷ arriving) (mark ∷ marks) = (arrival.ticket ≡ mark.ticket) × AreMarked arriving marks
