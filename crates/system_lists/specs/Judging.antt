-- Whether a system is whole: its package, its two lists and the packages of its base. In this order the
-- first thing that is wrong counts.
use Rattle.std.specs.Prelude.{ℕ, ◌&&◌, not, nat_lt, Bool, true, false, List, [], ◌∷◌, map, find, codes, Option, Some, None, is_some, Result, Ok, Err, if◌then◌else◌}
use Rattle.std.specs.Option.{option_map}
use Rattle.pkg_names.specs.declared.root.Root.{Root}
use Rattle.pkg_names.specs.declared.pinned.Pinned.{Pinned}
use Rattle.pkg_names.specs.NameAndVariant.{NameAndVariant}
use Rattle.system_lists.specs.declared.list.TheConstants.{LIST_LIMIT}
use Rattle.system_lists.specs.declared.fault.StaticFault.{StaticFault}
use Rattle.system_lists.specs.declared.fault.CachedFault.{CachedFault}
use Rattle.system_lists.specs.declared.fault.SystemFault.{SystemFault}
use Rattle.system_lists.specs.declared.fault.SystemFault.TheVariants.{NoBook, NoStatic, BadStatic, BadCached, LongList, BadBase}
use Rattle.system_lists.specs.Static.{static_of}
use Rattle.system_lists.specs.Cached.{cached_of}

-- what is at hand when a system is judged
pub record AtHand : Type 0 where
  -- the length of a stored blob
  pub len : Root → Option ℕ
  -- the package may be counted on
  pub is_kept : Root → Bool
  -- the package's meta blob is a book
  pub is_book : Root → Bool
  -- the blobs that the package names
  pub names : Root → List Root
  -- the root of the package's outer file of this path
  pub outer : Root → List ℕ → Option Root
  -- the bytes of a list that was read
  pub bytes : Root → Option (List ℕ)

pub data Verdict : Type 0 where
  -- this package or blob isn't there
  Missing : Root → Verdict
  Faulty : SystemFault → Verdict
  -- this list has to be read
  Unread : Root → Verdict
  -- the base, with the system package first, and the cached set
  Whole : List Pinned → List Pinned → Verdict

-- the path that the system package has in the base
abbrev pub system_path : NameAndVariant
system_path = record { name = codes "system_image"; variant = codes "0" }

-- the paths of the two lists in the system package
abbrev pub static_name : List ℕ
static_name = codes "data/static_packages"

abbrev pub cached_name : List ℕ
cached_name = codes "data/cache_packages.json"

-- the first that is wrong, or else the rest's verdict
abbrev pub first_of : List (Option Verdict) → Verdict → Verdict
first_of [] rest = rest
first_of (None ∷ faults) rest = first_of faults rest
first_of (Some fault ∷ faults) rest = fault

-- ---- a package

abbrev pub absent : AtHand → Root → Option Verdict
absent at root = if is_some (at.len root) && at.is_kept root then None else Some (Missing root)

abbrev pub no_book : AtHand → SystemFault → Root → Option Verdict
no_book at fault root = if at.is_book root then None else Some (Faulty fault)

-- the first blob that the package names and that isn't stored
abbrev pub missing_name : AtHand → Root → Option Verdict
missing_name at root = option_map Missing (find (λ name. not (is_some (at.len name))) (at.names root))

-- ---- the lists

-- the length of a list that is too long to be read
abbrev pub long_len : Option ℕ → Option ℕ
long_len None = None
long_len (Some len) = if nat_lt LIST_LIMIT len then Some len else None

abbrev pub unread_text : Root → Option ℕ → Option (List ℕ) → Option Verdict
unread_text root None None = Some (Unread root)
unread_text root long text = None

-- a list that isn't too long has to be read
abbrev pub unread : AtHand → Root → Option Verdict
unread at root = unread_text root (long_len (at.len root)) (at.bytes root)

abbrev pub unread_named : AtHand → Option Root → Option Verdict
unread_named at None = None
unread_named at (Some root) = unread at root

abbrev pub static_from : Option ℕ → Result (List Pinned) StaticFault → Result (List Pinned) SystemFault
static_from (Some len) list = Err (LongList len)
static_from None (Ok list) = Ok list
static_from None (Err fault) = Err (BadStatic fault)

abbrev pub cached_from : Option ℕ → Result (List Pinned) CachedFault → Result (List Pinned) SystemFault
cached_from (Some len) list = Err (LongList len)
cached_from None (Ok list) = Ok list
cached_from None (Err fault) = Err (BadCached fault)

-- the bytes that were read
abbrev pub text_of : Option (List ℕ) → List ℕ
text_of None = []
text_of (Some text) = text

abbrev pub static_list : AtHand → Root → Result (List Pinned) SystemFault
static_list at root = static_from (long_len (at.len root)) (static_of (text_of (at.bytes root)))

-- without a cached list nothing is cached
abbrev pub cached_list : AtHand → Option Root → Result (List Pinned) SystemFault
cached_list at None = Ok []
cached_list at (Some root) = cached_from (long_len (at.len root)) (cached_of (text_of (at.bytes root)))

-- ---- the system

-- what is wrong with a package of the base
abbrev pub base_faults : AtHand → List Pinned → List (Option Verdict)
base_faults at [] = []
base_faults at (pair ∷ pairs) =
    absent at pair.root ∷ no_book at (BadBase pair.root) pair.root ∷ missing_name at pair.root
    ∷ base_faults at pairs

abbrev pub judged_lists : AtHand → Root → Result (List Pinned) SystemFault → Result (List Pinned) SystemFault → Verdict
judged_lists at system (Err fault) cached = Faulty fault
judged_lists at system (Ok base) (Err fault) = Faulty fault
judged_lists at system (Ok base) (Ok cached) =
    first_of (base_faults at base) (Whole (record { path = system_path; root = system } ∷ base) cached)

abbrev pub judged_files : AtHand → Root → Option Root → Option Root → Verdict
judged_files at system None cached = Faulty NoStatic
judged_files at system (Some static) cached =
    first_of (missing_name at system ∷ unread at static ∷ unread_named at cached ∷ [])
    (judged_lists at system (static_list at static) (cached_list at cached))

-- the verdict on the system with this package
abbrev pub judged : AtHand → Root → Verdict
judged at system =
    first_of (absent at system ∷ no_book at NoBook system ∷ [])
    (judged_files at system (at.outer system static_name) (at.outer system cached_name))
