-- The cached list: a document of URLs.
use Rattle.std.specs.Prelude.{ℕ, List, [], codes, Option, Some, None, option_and_then, Result, Ok, Err}
use Rattle.serde_json.specs.Data.{Data, Items}
use Rattle.serde_json.specs.Find.{get, as_str, as_array}
use Rattle.pkg_names.specs.declared.root.Root.{Root}
use Rattle.pkg_names.specs.declared.pinned.Pinned.{Pinned}
use Rattle.pkg_names.specs.NameAndVariant.{NameAndVariant}
use Rattle.package_url.specs.declared.url.Url.{Url}
use Rattle.package_url.specs.declared.fault.UrlFault.{UrlFault}
use Rattle.package_url.specs.Reading.{url_in}
use Rattle.system_lists.specs.declared.document.DocumentFault.{DocumentFault}
use Rattle.system_lists.specs.declared.list.ListFault.{ListFault}
use Rattle.system_lists.specs.declared.list.ListFault.TheVariants as list
use Rattle.system_lists.specs.declared.fault.CachedFault.{CachedFault}
use Rattle.system_lists.specs.declared.fault.CachedFault.TheVariants.{Json, Entry, NoMemory}
use Rattle.system_lists.specs.Document.{document_in, entries}
use Rattle.system_lists.specs.Entries.{listed}
use Rattle.system_lists.specs.Faults.{cached_fault}
use Rattle.system_lists.specs.Lists.{has_path_of}

-- a pinned URL without a file
abbrev pub pinned_of : NameAndVariant → Option Root → Option (List ℕ) → Option Pinned
pinned_of path None file = None
pinned_of path (Some root) (Some file) = None
pinned_of path (Some root) None = Some (record { path = path; root = root })

abbrev pub pinned_url : Result Url UrlFault → Option Pinned
pinned_url (Ok url) = pinned_of url.path url.pin url.file
pinned_url (Err fault) = None

-- the package of an entry: a string that is a URL with a pin and without a file
abbrev pub pinned_entry : Data → Option Pinned
pinned_entry value = option_and_then (λ text. pinned_url (url_in text)) (as_str value)

abbrev pub as_cached : Result (List Pinned) ListFault → Result (List Pinned) CachedFault
as_cached (Ok list) = Ok list
as_cached (Err (list.Bad n)) = Err (Entry n)
as_cached (Err (list.Repeat n)) = Err (Entry n)
as_cached (Err list.NoMemory) = Err NoMemory

-- the packages in the array `content`
abbrev pub content_of : Option Items → Result (List Pinned) CachedFault
content_of None = Err Json
content_of (Some items) = as_cached (listed has_path_of [] (entries pinned_entry items))

abbrev pub cached_document : Result Data DocumentFault → Result (List Pinned) CachedFault
cached_document (Ok value) = content_of (option_and_then as_array (get (codes "content") value))
cached_document (Err fault) = Err (cached_fault fault)

-- the packages in a text, or its first fault
abbrev pub cached_of : List ℕ → Result (List Pinned) CachedFault
cached_of text = cached_document (document_in text)
