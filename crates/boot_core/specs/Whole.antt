-- Whether a system is whole, and what is answered.
use Rattle.std.specs.Prelude.{◌≡◌, ⊤, not, Bool, false, List, Option, Some, None, is_some, Result, Ok, Err}
use Rattle.pkg_names.specs.declared.root.Root.{Root}
use Rattle.package_book.specs.Books.{Books, book_at}
use Rattle.system_lists.specs.declared.fault.SystemFault.{SystemFault}
use Rattle.system_lists.specs.declared.fault.SystemFault.TheVariants.{NoBook, NoStatic, BadStatic, BadCached, LongList, BadBase}
use Rattle.system_lists.specs.Judging.{Verdict, judged}
use Rattle.system_lists.specs.Judging.Verdict.{Missing, Faulty, Unread, Whole}
use Rattle.boot_core.specs.declared.looking.SeenBlob.{SeenBlob}
use Rattle.boot_core.specs.declared.wholeness.BaseOf.{BaseOf}
use Rattle.boot_core.specs.declared.wholeness.WholeFault.{WholeFault}
use Rattle.boot_core.specs.declared.wholeness.WholeFault.TheVariants.{BaseMissing, NotASystem, Read, Rotten, NoMemory}
use Rattle.boot_core.specs.Look.{Stocked, len_in, IsRotten}
use Rattle.boot_core.specs.Seen.{hand, hand_of, AreEntries}

-- what an answer says as a verdict; none where nothing was judged
abbrev pub said : Result BaseOf WholeFault → Option Verdict
said (Ok found) = Some (Whole found.base found.cached)
said (Err (BaseMissing root)) = Some (Missing root)
said (Err (NotASystem why)) = Some (Faulty why)
said (Err Read) = None
said (Err (Rotten root got)) = None
said (Err NoMemory) = None

-- a list that isn't stored is a blob that isn't there
abbrev pub plainly : Verdict → Verdict
plainly (Missing root) = Missing root
plainly (Faulty why) = Faulty why
plainly (Unread root) = Missing root
plainly (Whole base cached) = Whole base cached

-- the verdict on the system with this package, where these are the stored blobs
abbrev pub verdict_on : List SeenBlob → List Stocked → Root → Verdict
verdict_on all stock system = plainly (judged (hand_of all stock) system)

-- the answer is the verdict by blobs of the store that were looked at
pub record IsBySeen (stock : List Stocked) (blobs : List SeenBlob) (system : Root) (verdict : Verdict) : Type 0 where
  pub books : Books
  pub entries : AreEntries stock books blobs
  pub is : verdict ≡ plainly (judged (hand stock books blobs) system)

-- what a failing look at a stored blob comes to
abbrev pub IsLookFault : List Stocked → Option (List SeenBlob) → WholeFault → Type 0
IsLookFault stock told (BaseMissing root) = ⊥
IsLookFault stock told (NotASystem why) = ⊥
IsLookFault stock told Read = ⊤
IsLookFault stock told (Rotten root got) = IsRotten stock root got × (told ≡ None)
IsLookFault stock told NoMemory = ⊤

-- the verdict rests on a blob that wasn't looked at
abbrev pub fault_is_open : Books → Root → SystemFault → Bool
fault_is_open books system NoBook = not (is_some (book_at books system))
fault_is_open books system NoStatic = false
fault_is_open books system (BadStatic fault) = false
fault_is_open books system (BadCached fault) = false
fault_is_open books system (LongList len) = false
fault_is_open books system (BadBase root) = not (is_some (book_at books root))

abbrev pub is_open : List Stocked → Books → Root → Verdict → Bool
is_open stock books system (Missing root) = false
is_open stock books system (Faulty why) = fault_is_open books system why
is_open stock books system (Unread root) = is_some (len_in stock root)
is_open stock books system (Whole base cached) = false
