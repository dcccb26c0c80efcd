-- What the end of a fetch without its blob leaves.
use Rattle.std.specs.Prelude.{List, map, if◌then◌else◌}
use Rattle.pkg_names.specs.declared.root.Root.{Root}
use Rattle.fetch_queue.specs.declared.FetchEnd.{FetchEnd}
use Rattle.fetch_queue.specs.Fetches.{first_mark, without_claim}
use Rattle.package_book.specs.Books.{Books}
use Rattle.package_book.specs.Names.{names}
use Rattle.store_model.specs.State.{State, Arrival, has_root}

-- a package that names the blob is marked; a first mark stays
abbrev pub marked : Books → Root → FetchEnd → Arrival → Arrival
marked books root end arrival =
    if has_root (names arrival.root books) root
    then record arrival { mark = first_mark arrival.mark end } else arrival

abbrev pub marked_arrivals : State → Root → FetchEnd → List Arrival
marked_arrivals s root end = map (marked s.books root end) s.arriving

-- the claim goes
abbrev pub unclaimed : State → Root → State
unclaimed s root = record s { claims = without_claim s.claims root }

-- the claim goes, and the packages that name the blob are marked
abbrev pub ended : State → Root → FetchEnd → State
ended s root end = record s { claims = without_claim s.claims root; arriving = marked_arrivals s root end }
