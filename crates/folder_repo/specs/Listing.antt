-- The listing of a folder that a text stands for.
use Rattle.std.specs.Prelude.{ℕ, nat_le, List, length, Result, Ok, Err, if◌then◌else◌}
use Rattle.pkg_names.specs.declared.pinned.Pinned.{Pinned}
use Rattle.system_lists.specs.Static.{static_of}
use Rattle.system_lists.specs.declared.fault.StaticFault.{StaticFault}
use Rattle.system_lists.specs.declared.fault.StaticFault.TheVariants as static
use Rattle.system_lists.specs.declared.list.TheConstants.{LIST_LIMIT}
use Rattle.folder_repo.specs.declared.listing.DirFault.{DirFault}
use Rattle.folder_repo.specs.declared.listing.DirFault.TheVariants.{BadListing, NoMemory}

-- a listing, or its first bad line
abbrev pub judged : Result (List Pinned) StaticFault → Result (List Pinned) DirFault
judged (Ok list) = Ok list
judged (Err (static.Line n)) = Err (BadListing n)
judged (Err (static.Repeat n)) = Err (BadListing n)
judged (Err static.NoMemory) = Err NoMemory

-- a text that is too long is told as line 0
abbrev pub listing_in : List ℕ → Result (List Pinned) DirFault
listing_in text = if nat_le (length text) LIST_LIMIT then judged (static_of text) else Err (BadListing 0)
