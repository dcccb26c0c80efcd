-- Which handles a lane has after a call: the ticket and the directory that it was given, and those that it had.
use Rattle.std.proofs.Common.{◌≡◌, ◌≢◌, ◌+◌, ◌<◌, ℕ, Bool, false, not, List, [], ◌∷◌, ◌++◌, length, All, Option, Some, refl, sym, ap, subst, ◌∙◌, arith}
use Rattle.std.specs.Prelude.{◌==◌, IsSomeAnd}
use Rattle.std.specs.Option.{option_map}
use Rattle.std.proofs.lemmas.Bool.{eq-eqb, ne_eqb, eqb-true, and_left, and_from, not_from_false}
use Rattle.std.proofs.lemmas.List.Elements.{All-weaker}
use Rattle.pkg_names.specs.NameAndVariant.{NameAndVariant}
use Rattle.pkg_names.specs.declared.root.Root.{Root}
use Rattle.package_indexes.specs.declared.Choice.{Choice}
use Rattle.open_tracker.specs.declared.dirs.DirEntry.{DirEntry}
use Rattle.open_tracker.specs.Directories.{is_of, root_of}
use Rattle.store_model.specs.declared.replies.Ticket.{Ticket}
use Rattle.store_model.specs.declared.replies.Dir.{Dir}
use Rattle.store_model.specs.declared.replies.BeginReply.{BeginReply}
use Rattle.store_model.specs.declared.replies.BeginReply.TheVariants as begin
use Rattle.store_model.specs.declared.replies.WantReply.{WantReply}
use Rattle.store_model.specs.declared.replies.WantReply.TheVariants as want
use Rattle.store_model.specs.declared.replies.OpenReply.TheVariants as opening
use Rattle.store_model.specs.Holding.{HeldTicket, Held, ticket_with, without_number, dir_of}
use Rattle.store_model.specs.HeldAfter.{held_after_begin, held_after_want}
use Rattle.store_model.specs.Desk.{View, held_by, Does}
use Rattle.store_model.specs.Replies.{IsBegun, IsWanted, IsOpened, IsGivenUp}
use Rattle.store_model.specs.Calls.{HoldsTicket, Begins, Wants, Opens}
use Rattle.store_model.proofs.HoldingLists.{some_and, find_last, find_first}
use Rattle.store_model.proofs.LanesLists.{find_kept}
use Rattle.store_model.proofs.HoldingThere.{in_some}
use Rattle.store_model.proofs.Views.{tickets_before-Does, dirs_before-Does}
use Rattle.store_model.proofs.CallsHeld.{begun, wanted, given_up, opened}

below_apart : (a b next : ℕ) → a < next → b ≡ next → a ≡ b → ⊥
below_apart a b next lt is same = omega arith

-- ---- tickets

abbrev has_number : ℕ → HeldTicket → Bool
has_number number ticket = ticket.number == number

abbrev IsHeldTicket : Root → HeldTicket → Type 0
IsHeldTicket root held = held.root ≡ root

-- the ticket that was made is the lane's
pub ticket_made : (path : NameAndVariant) (choice : Choice) (ticket : Ticket) (old new : View) → Begins path choice (begin.Made ticket) old new → HoldsTicket new ticket
ticket_made path choice ticket old new does =
    let t : HeldTicket = record { number = ticket.number; path = path; root = ticket.root } in
    let fails : All (λ (x : HeldTicket). has_number ticket.number x ≡ false) (held_by old).tickets =
    All-weaker (λ (x : HeldTicket). x.number < length (old.seen ++ does.others) + 1) (λ (x : HeldTicket). has_number ticket.number x ≡ false)
    (λ x lt. ne_eqb x.number ticket.number (below_apart x.number ticket.number (length (old.seen ++ does.others) + 1) lt does.its.0))
    (held_by old).tickets (tickets_before-Does old new (IsBegun path choice (begin.Made ticket)) does) in
    in_some (ticket_with (held_by new).tickets ticket.number) (IsHeldTicket ticket.root) t
    (ap (λ (h : Held). ticket_with h.tickets ticket.number) (begun path choice (begin.Made ticket) old new does) ∙ find_last (has_number ticket.number) (held_by old).tickets t fails (eq-eqb ticket.number ticket.number refl))
    refl

-- a call that leaves the tickets leaves each of them
pub ticket_stays : (ticket : Ticket) (old new : View) → (held_by new).tickets ≡ (held_by old).tickets → HoldsTicket old ticket → HoldsTicket new ticket
ticket_stays ticket old new same holds =
    subst (λ (ts : List HeldTicket). IsSomeAnd (ticket_with ts ticket.number) (IsHeldTicket ticket.root)) (sym same) holds

after_begin : (number : ℕ) (root : Root) (path : NameAndVariant) (reply : BeginReply) (h : Held) → IsSomeAnd (ticket_with h.tickets number) (IsHeldTicket root)
    → IsSomeAnd (ticket_with (held_after_begin path reply h).tickets number) (IsHeldTicket root)
after_begin number root path (begin.Made ticket) h holds =
    let t : HeldTicket = record { number = ticket.number; path = path; root = ticket.root } in
    let found = some_and (ticket_with h.tickets number) (IsHeldTicket root) holds in
    in_some (ticket_with (h.tickets ++ t ∷ []) number) (IsHeldTicket root) found.0 (find_first (has_number number) h.tickets found.0 t found.1) found.2
after_begin number root path reply h holds = holds

-- `begin` ends no ticket
pub ticket_stays-Begins : (ticket : Ticket) (path : NameAndVariant) (choice : Choice) (reply : BeginReply) (old new : View) → Begins path choice reply old new → HoldsTicket old ticket → HoldsTicket new ticket
ticket_stays-Begins ticket path choice reply old new does holds =
    subst (λ (h : Held). IsSomeAnd (ticket_with h.tickets ticket.number) (IsHeldTicket ticket.root)) (sym (begun path choice reply old new does))
    (after_begin ticket.number ticket.root path reply (held_by old) holds)

without_other : (number other : ℕ) (root : Root) (tickets : List HeldTicket) → number ≢ other → IsSomeAnd (ticket_with tickets number) (IsHeldTicket root)
    → IsSomeAnd (ticket_with (without_number tickets other) number) (IsHeldTicket root)
without_other number other root tickets ne holds =
    subst (λ (o : Option HeldTicket). IsSomeAnd o (IsHeldTicket root))
    (sym (find_kept (has_number number) (λ (t : HeldTicket). not (has_number other t))
    (λ t is. not_from_false _ (ne_eqb t.number other (λ same. ne (sym (eqb-true t.number number is) ∙ same)))) tickets))
    holds

after_want : (number other lane : ℕ) (root : Root) (reply : WantReply) (h : Held) → number ≢ other → IsSomeAnd (ticket_with h.tickets number) (IsHeldTicket root)
    → IsSomeAnd (ticket_with (held_after_want lane other reply h).tickets number) (IsHeldTicket root)
after_want number other lane root (want.Failed cause) h ne holds = without_other number other root h.tickets ne holds
after_want number other lane root (want.Opened dir) h ne holds = without_other number other root h.tickets ne holds
after_want number other lane root (want.Fetch back claim) h ne holds = holds
after_want number other lane root (want.NotYet back bell) h ne holds = holds
after_want number other lane root (want.Broken broken) h ne holds = without_other number other root h.tickets ne holds
after_want number other lane root (want.NoMemory back) h ne holds = holds

-- `want` and `give_up` end no other ticket
pub ticket_stays-Wants : (ticket other : Ticket) (reply : WantReply) (old new : View) → Wants other reply old new → ticket.number ≢ other.number → HoldsTicket old ticket → HoldsTicket new ticket
ticket_stays-Wants ticket other reply old new does ne holds =
    subst (λ (h : Held). IsSomeAnd (ticket_with h.tickets ticket.number) (IsHeldTicket ticket.root)) (sym (wanted other reply old new does))
    (after_want ticket.number other.number old.lane ticket.root reply (held_by old) ne holds)

pub ticket_stays-IsGivenUp : (ticket : Ticket) (other : ℕ) (old new : View) → Does old new (IsGivenUp other) → ticket.number ≢ other → HoldsTicket old ticket → HoldsTicket new ticket
ticket_stays-IsGivenUp ticket other old new does ne holds =
    subst (λ (h : Held). IsSomeAnd (ticket_with h.tickets ticket.number) (IsHeldTicket ticket.root)) (sym (given_up other old new does))
    (without_other ticket.number other ticket.root (held_by old).tickets ne holds)

-- the holder that is to fetch or to wait has its ticket still
pub ticket_back : (ticket : Ticket) (reply : WantReply) (old new : View) → Wants ticket reply old new → (held_after_want old.lane ticket.number reply (held_by old)).tickets ≡ (held_by old).tickets
    → HoldsTicket old ticket → HoldsTicket new ticket
ticket_back ticket reply old new does same holds =
    ticket_stays ticket old new (ap (λ (h : Held). h.tickets) (wanted ticket reply old new does) ∙ same) holds

-- ---- directories

abbrev is_dir : ℕ → ℕ → DirEntry → Bool
is_dir number lane dir = is_of dir number lane

dir_last : (number lane next : ℕ) (root : Root) (dirs : List DirEntry) → number ≡ next → All (λ (d : DirEntry). d.number < next) dirs
    → root_of (dirs ++ record { number = number; lane = lane; root = root } ∷ []) number lane ≡ Some root
dir_last number lane next root dirs is below =
    let d : DirEntry = record { number = number; lane = lane; root = root } in
    ap (option_map (λ (x : DirEntry). x.root))
    (find_last (is_dir number lane) dirs d
    (All-weaker (λ (x : DirEntry). x.number < next) (λ (x : DirEntry). is_dir number lane x ≡ false)
    (λ x lt. and_left _ _ (ne_eqb x.number number (below_apart x.number number next lt is))) dirs below)
    (and_from _ _ (eq-eqb number number refl) (eq-eqb lane lane refl)))

-- the directory of the package that arrived
pub dir_of_ticket : (ticket : Ticket) (dir : Dir) (old new : View) → Wants ticket (want.Opened dir) old new → HoldsTicket old ticket
    → root_of (held_by new).dirs dir.number old.lane ≡ Some ticket.root
dir_of_ticket ticket dir old new does holds =
    let found = some_and (ticket_with (held_by old).tickets ticket.number) (IsHeldTicket ticket.root) holds in
    let same : (held_by new).dirs ≡ (held_by old).dirs ++ record { number = dir.number; lane = old.lane; root = ticket.root } ∷ [] =
    ap (λ (h : Held). h.dirs) (wanted ticket (want.Opened dir) old new does) ∙ ap (λ (o : Option HeldTicket). (held_by old).dirs ++ dir_of dir.number old.lane o) found.1 ∙
    ap (λ (r : Root). (held_by old).dirs ++ dir_at dir.number old.lane r ∷ []) found.2 in
    ap (λ (ds : List DirEntry). root_of ds dir.number old.lane) same ∙
    dir_last dir.number old.lane (length (old.seen ++ does.others) + 1) ticket.root (held_by old).dirs does.its.0 (dirs_before-Does old new (IsWanted ticket.number (want.Opened dir)) does) where
      dir_at : ℕ → ℕ → Root → DirEntry
      dir_at number lane root = record { number = number; lane = lane; root = root }

-- the directory of a package that was here
pub dir_of_path : (path : NameAndVariant) (dir : Dir) (old new : View) → Opens path (opening.Opened dir) old new
    → (root : Root) × (root_of (held_by new).dirs dir.number old.lane ≡ Some root)
dir_of_path path dir old new does =
    let is = opened path (opening.Opened dir) old new does in
    (is.0, ap (λ (h : Held). root_of h.dirs dir.number old.lane) is.1 ∙ dir_last dir.number old.lane (length (old.seen ++ does.others) + 1) is.0 (held_by old).dirs does.its.0 (dirs_before-Does old new (IsOpened path (opening.Opened dir)) does))
