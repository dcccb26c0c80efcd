-- A package is asked for.
use Rattle.std.specs.Prelude.{◌≡◌, ℕ, ◌&&◌, not, nat_le, Bool, true, false, List, [], ◌∷◌, ◌++◌, Option, Some, None, is_some, if◌then◌else◌}
use Rattle.pkg_names.specs.NameAndVariant.{NameAndVariant}
use Rattle.pkg_names.specs.declared.root.Root.{Root}
use Rattle.pkg_names.specs.Root.{root_eq}
use Rattle.package_book.specs.declared.book.TheConstants.{META_LIMIT}
use Rattle.package_book.specs.Books.{book_at}
use Rattle.package_indexes.specs.declared.Choice.{Choice}
use Rattle.package_indexes.specs.declared.Choice.TheVariants as choices
use Rattle.package_indexes.specs.Indexes.{chosen}
use Rattle.store_model.specs.declared.ends.BeginEnd.{BeginEnd}
use Rattle.store_model.specs.declared.ends.BeginEnd.TheVariants.{Ticket, InRecovery, NotFound, ListingFault, DiskRead, Rotten}
use Rattle.store_model.specs.State.{State, Arrival, stored_len, is_recovery}

-- a root, or why there is none
abbrev pub ticket_for : Choice → Option Root → BeginEnd
ticket_for choice (Some root) = Ticket root
ticket_for choices.Failed None = ListingFault
ticket_for choice None = NotFound

-- the answer, if no read fails
abbrev pub begin_answer : State → NameAndVariant → Choice → BeginEnd
begin_answer s path choice =
    if is_recovery s.running then InRecovery else ticket_for choice (chosen s.base s.cached path choice)

abbrev is_short : Option ℕ → Bool
is_short (Some len) = nat_le len META_LIMIT
is_short None = false

-- the package's meta blob is stored, is short enough, and isn't known
abbrev pub has_to_read : State → Root → Bool
has_to_read s root = is_short (stored_len s.stock root) && not (is_some (book_at s.books root))

-- the blob of the package that would arrive has to be read
pub record IsReadFor (s : State) (path : NameAndVariant) (choice : Choice) (root : Root) : Type 0 where
  pub answer : begin_answer s path choice ≡ Ticket root
  pub read : has_to_read s root ≡ true

abbrev pub IsDueBegin : State → NameAndVariant → Choice → BeginEnd → Type 0
IsDueBegin s path choice DiskRead = (root : Root) × IsReadFor s path choice root
IsDueBegin s path choice (Rotten root got) = IsReadFor s path choice root × (root_eq root got ≡ false)
IsDueBegin s path choice reply = reply ≡ begin_answer s path choice

abbrev pub arriving_after_begin : State → ℕ → ℕ → NameAndVariant → BeginEnd → List Arrival
arriving_after_begin s number lane path (Ticket root) =
    s.arriving ++ record { ticket = number; lane = lane; path = path; root = root; mark = None } ∷ []
arriving_after_begin s number lane path reply = s.arriving

abbrev pub next_begin : State → ℕ → ℕ → NameAndVariant → BeginEnd → State
next_begin s number lane path reply = record s { arriving = arriving_after_begin s number lane path reply }
