-- What is left of the marks where the packages that name a blob are marked one after the other.
use Rattle.std.specs.Prelude.{List, [], ◌∷◌, if◌then◌else◌}
use Rattle.pkg_names.specs.declared.root.Root.{Root}
use Rattle.package_indexes.specs.declared.Arriving.{Arriving}
use Rattle.fetch_queue.specs.declared.FetchEnd.{FetchEnd}
use Rattle.fetch_queue.specs.declared.queue.MarkEntry.{MarkEntry}
use Rattle.fetch_queue.specs.Fetches.{with_mark}
use Rattle.package_book.specs.Books.{Books}
use Rattle.package_book.specs.Names.{names}
use Rattle.store_model.specs.State.{has_root}

-- the package that arrives is marked, if it names the blob
abbrev pub marks_with : Books → Root → FetchEnd → Arriving → List MarkEntry → List MarkEntry
marks_with books root end arrival marks =
    if has_root (names arrival.root books) root then with_mark marks arrival.ticket end else marks

abbrev pub marks_after : Books → Root → FetchEnd → List Arriving → List MarkEntry → List MarkEntry
marks_after books root end [] marks = marks
marks_after books root end (arrival ∷ arriving) marks =
    marks_after books root end arriving (marks_with books root end arrival marks)
