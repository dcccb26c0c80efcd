-- What a lane holds, by its own events alone.
use Rattle.std.specs.Prelude.{ℕ, ◌==◌, not, List, [], ◌∷◌, ◌++◌, find, filter, Option, Some, None, if◌then◌else◌}
use Rattle.std.specs.Option.{option_map}
use Rattle.pkg_names.specs.NameAndVariant.{NameAndVariant}
use Rattle.pkg_names.specs.declared.root.Root.{Root}
use Rattle.open_tracker.specs.declared.dirs.DirEntry.{DirEntry}
use Rattle.open_tracker.specs.Directories.{without}
use Rattle.store_model.specs.declared.events.Event.{Event}
use Rattle.store_model.specs.declared.events.Act.{Act}
use Rattle.store_model.specs.declared.events.Act.TheVariants as acts
use Rattle.store_model.specs.declared.events.CallName.{CallName}
use Rattle.store_model.specs.declared.events.CallName.TheVariants as calls
use Rattle.store_model.specs.declared.ends.BeginEnd.TheVariants as begins
use Rattle.store_model.specs.declared.ends.WantEnd.TheVariants as wants
use Rattle.store_model.specs.declared.ends.StageEnd.TheVariants as stages
use Rattle.store_model.specs.declared.ends.ActivateEnd.TheVariants as activations
use Rattle.store_model.specs.State.{Phase}
use Rattle.store_model.specs.State.Phase.{Filling, Sealed, Done}
use Rattle.store_model.specs.History.{Numbered}

-- a ticket with the package that arrives
pub record HeldTicket : Type 0 where
  pub number : ℕ
  pub path : NameAndVariant
  pub root : Root

-- a blob that the lane fetches, with the length of its room
pub record HeldClaim : Type 0 where
  pub root : Root
  pub len : Option ℕ

pub record Held : Type 0 where
  pub tickets : List HeldTicket
  pub claim : Option HeldClaim
  pub dirs : List DirEntry
  pub stage : Option Phase

abbrev pub nothing_held : Held
nothing_held = record { tickets = []; claim = None; dirs = []; stage = None }

-- ---- what each act makes of it

abbrev pub without_number : List HeldTicket → ℕ → List HeldTicket
without_number tickets number = filter (λ (ticket : HeldTicket). not (ticket.number == number)) tickets

abbrev pub ticket_with : List HeldTicket → ℕ → Option HeldTicket
ticket_with tickets number = find (λ (ticket : HeldTicket). ticket.number == number) tickets

abbrev pub dir_of : ℕ → ℕ → Option HeldTicket → List DirEntry
dir_of number lane None = []
dir_of number lane (Some ticket) = record { number = number; lane = lane; root = ticket.root } ∷ []

abbrev pub with_len : ℕ → HeldClaim → HeldClaim
with_len len claim = record claim { len = Some len }

-- a call that ends a ticket or a claim, answered or refused
abbrev pub held_after_call : Held → CallName → Held
held_after_call h (calls.Want ticket) = record h { tickets = without_number h.tickets ticket }
held_after_call h (calls.Room root) = record h { claim = None }
held_after_call h (calls.Put root) = record h { claim = None }
held_after_call h (calls.Land root) = record h { claim = None }
held_after_call h call = h

abbrev pub held_after_act : Held → ℕ → ℕ → Act → Held
held_after_act h number lane (acts.Begin path choice (begins.Ticket root) seen) =
    record h { tickets = h.tickets ++ record { number = number; path = path; root = root } ∷ [] }
held_after_act h number lane (acts.Want ticket (wants.Fetch root)) =
    record h { claim = Some (record { root = root; len = None }) }
held_after_act h number lane (acts.Want ticket wants.Opened) = record h {
  tickets = without_number h.tickets ticket;
  dirs = h.dirs ++ dir_of number lane (ticket_with h.tickets ticket);
}
held_after_act h number lane (acts.Want ticket (wants.Failed cause)) =
    record h { tickets = without_number h.tickets ticket }
held_after_act h number lane (acts.Room root len None) = record h { claim = option_map (with_len len) h.claim }
held_after_act h number lane (acts.Room root len (Some end)) = record h { claim = None }
held_after_act h number lane (acts.Put root reply) = record h { claim = None }
held_after_act h number lane (acts.Land root len reply seen) = record h { claim = None }
held_after_act h number lane (acts.Missed root why) = record h { claim = None }
held_after_act h number lane (acts.GaveUp ticket) = record h { tickets = without_number h.tickets ticket }
held_after_act h number lane (acts.OpenPath path (Some root)) =
    record h { dirs = h.dirs ++ record { number = number; lane = lane; root = root } ∷ [] }
held_after_act h number lane (acts.Close dir closed) = record h { dirs = without h.dirs dir lane }
held_after_act h number lane (acts.Stage epoch (stages.Turn slot)) = record h { stage = Some Filling }
held_after_act h number lane (acts.Seal sys None) = record h { stage = Some (Sealed sys) }
held_after_act h number lane (acts.Activate (activations.Active slot) seen) = record h { stage = Some Done }
held_after_act h number lane acts.LeftStage = record h { stage = None }
held_after_act h number lane (acts.Refused call broken) = held_after_call h call
held_after_act h number lane act = h

-- a call in which a write failed ends the claim that it was handed, and nothing else
abbrev pub held_after_break : Held → Act → Held
held_after_break h (acts.Put root reply) = record h { claim = None }
held_after_break h (acts.Land root len reply seen) = record h { claim = None }
held_after_break h act = h

abbrev pub held_after_event : Held → ℕ → Event → Held
held_after_event h number e =
    if e.broke then held_after_break h e.act else held_after_act h number e.lane e.act

abbrev pub held_from : Held → List Numbered → Held
held_from h [] = h
held_from h (e ∷ es) = held_from (held_after_event h e.number e.event) es

-- what a lane with these events holds
abbrev pub held : List Numbered → Held
held mine = held_from nothing_held mine
