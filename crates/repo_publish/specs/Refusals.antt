-- Which files can't be published.
use Rattle.std.specs.Prelude.{ℕ, ◌+◌, nat_lt, not, Bool, true, List, [], ◌∷◌, ◌++◌, length, filter, Option, Some, None, if◌then◌else◌}
use Rattle.std.specs.Str.{bytes_eq}
use Rattle.std.specs.Ordering.{nat_cmp, is_lt}
use Rattle.std.specs.Cmp.Lexicographic.{slice_cmp}
use Rattle.far_archive.specs.declared.write.FarEntry.{FarEntry}
use Rattle.meta_contents.specs.Contents.{is_in_meta}
use Rattle.package_book.specs.Book.{contents_name}
use Rattle.pkg_merkle.specs.declared.hasher.TheConstants.{BYTES_LIMIT}
use Rattle.repo_publish.specs.declared.publishing.TheConstants.{FILE_LIMIT}
use Rattle.repo_publish.specs.declared.publishing.PublishEnd.{PublishEnd}
use Rattle.repo_publish.specs.declared.publishing.PublishEnd.TheVariants.{Order, Reserved, TooLarge, TooMany}

-- the file stands under `meta/`
abbrev pub is_inner : FarEntry → Bool
is_inner file = is_in_meta file.name

abbrev pub is_outer : FarEntry → Bool
is_outer file = not (is_in_meta file.name)

-- the files under `meta/`, and the others
abbrev pub inner_of : List FarEntry → List FarEntry
inner_of files = filter is_inner files

abbrev pub outer_of : List FarEntry → List FarEntry
outer_of files = filter is_outer files

-- the path of the last of these files
abbrev pub last_name : List FarEntry → Option (List ℕ)
last_name [] = None
last_name (file ∷ []) = Some file.name
last_name (file ∷ next ∷ files) = last_name (next ∷ files)

-- the name is greater than this one, if there is one
abbrev pub is_behind : Option (List ℕ) → List ℕ → Bool
is_behind None name = true
is_behind (Some last) name = is_lt (slice_cmp nat_cmp last name)

-- there are fewer files of its kind than there may be
abbrev pub has_room : List FarEntry → FarEntry → Bool
has_room before file =
    if is_in_meta file.name then nat_lt (length (inner_of before)) FILE_LIMIT
    else nat_lt (length (outer_of before)) FILE_LIMIT

-- why a file that comes behind these can't be published; files are counted from 1
abbrev pub file_refusal : List FarEntry → FarEntry → Option PublishEnd
file_refusal before file =
    if not (is_behind (last_name before) file.name) then Some (Order (length before + 1))
    else (if bytes_eq file.name contents_name then Some (Reserved (length before + 1))
    else (if nat_lt BYTES_LIMIT (length file.bytes) then Some (TooLarge (length before + 1) (length file.bytes))
    else (if has_room before file then None else Some TooMany)))

abbrev pub or_else : Option PublishEnd → Option PublishEnd → Option PublishEnd
or_else None other = other
or_else (Some end) other = Some end

-- the first refusal of files that come behind these
abbrev pub refusal_behind : List FarEntry → List FarEntry → Option PublishEnd
refusal_behind before [] = None
refusal_behind before (file ∷ files) =
    or_else (file_refusal before file) (refusal_behind (before ++ file ∷ []) files)

-- the first refusal of these files
abbrev pub refusal : List FarEntry → Option PublishEnd
refusal files = refusal_behind [] files
