-- What a publication makes of files: the package, and the listing with it.
use Rattle.std.specs.Prelude.{◌≡◌, ℕ, nat_lt, ◌||◌, Bool, List, [], ◌∷◌, ◌++◌, length, map, codes, Option, Some, None, Result, Ok, Err, IfSome, if◌then◌else◌}
use Rattle.std.specs.List.{flat_map, list_any}
use Rattle.std.specs.Str.{bytes_eq}
use Rattle.std.specs.Ordering.{nat_cmp, is_lt}
use Rattle.std.specs.Cmp.Lexicographic.{slice_cmp}
use Rattle.pkg_names.specs.declared.root.Root.{Root}
use Rattle.pkg_names.specs.declared.pinned.Pinned.{Pinned}
use Rattle.pkg_names.specs.NameAndVariant.{NameAndVariant, path_eq}
use Rattle.pkg_names.specs.Text.{line_feed}
use Rattle.pkg_merkle.specs.Merkle.{merkle_root}
use Rattle.far_archive.specs.declared.write.FarEntry.{FarEntry}
use Rattle.far_archive.specs.Written.{listed, written}
use Rattle.meta_contents.specs.Contents.{Pair, text_of}
use Rattle.package_book.specs.declared.fault.PackageFault.{PackageFault}
use Rattle.package_book.specs.Book.{Files, MetaAndFiles, contents_name, package_name, book}
use Rattle.repo_source.specs.declared.file.RepoFile.{RepoFile}
use Rattle.repo_source.specs.Repo.{file_under}
use Rattle.system_lists.specs.declared.list.TheConstants.{ENTRY_LIMIT, LIST_LIMIT}
use Rattle.system_lists.specs.Static.{line_text}
use Rattle.repo_publish.specs.declared.publishing.PublishEnd.{PublishEnd}
use Rattle.repo_publish.specs.declared.publishing.PublishEnd.TheVariants as ends
use Rattle.repo_publish.specs.Lists.{put_in, put_before}
use Rattle.repo_publish.specs.Post.{with_blob}
use Rattle.repo_publish.specs.Refusals.{inner_of, outer_of, refusal}

-- ---- the package

-- the outer list: the other files with their roots, in order
abbrev pub outer_pairs : List FarEntry → List Pair
outer_pairs files = map (λ (file : FarEntry). (file.name, merkle_root file.bytes)) (outer_of files)

-- a file before the first one whose name is greater
abbrev pub put_file : List ℕ × List ℕ → Files → Files
put_file file files = put_before (λ (next : List ℕ × List ℕ). is_lt (slice_cmp nat_cmp file.0 next.0)) file files

-- what `meta/package` says where no file says it
abbrev pub package_text : List ℕ → List ℕ
package_text name = codes "{\"name\":\"" ++ name ++ codes "\",\"version\":\"0\"}"

abbrev pub has_package : Files → Bool
has_package files = list_any (λ file. bytes_eq file.0 package_name) files

abbrev pub with_package : List ℕ → Files → Files
with_package name files =
    if has_package files then files else put_file (package_name, package_text name) files

-- the inner files: those under `meta/`, `meta/contents` with the outer list, and `meta/package`
abbrev pub inner_with : NameAndVariant → Files → List ℕ → Files
inner_with path inner contents = put_file (contents_name, contents) (with_package path.name inner)

abbrev pub inner_files : NameAndVariant → List FarEntry → Files
inner_files path files = inner_with path (listed (inner_of files)) (text_of (outer_pairs files))

-- the meta blob, and the package's root
abbrev pub meta_bytes : NameAndVariant → List FarEntry → List ℕ
meta_bytes path files = written (inner_files path files)

abbrev pub package_root : NameAndVariant → List FarEntry → Root
package_root path files = merkle_root (meta_bytes path files)

-- ---- the listing

-- the first pair of the path replaced, or the pair added last
abbrev pub set_pair : NameAndVariant → Root → List Pinned → List Pinned
set_pair path root pairs =
    put_in (λ (pair : Pinned). path_eq pair.path path) (record { path = path; root = root }) pairs

-- its bytes: each line with its line feed
abbrev pub listing_text : List Pinned → List ℕ
listing_text listing = flat_map (λ pair. line_text pair ++ line_feed ∷ []) listing

-- the listing would pass a limit
abbrev pub is_over : List Pinned → Bool
is_over listing = nat_lt ENTRY_LIMIT (length listing) || nat_lt LIST_LIMIT (length (listing_text listing))

abbrev pub published : NameAndVariant → List FarEntry → List Pinned → List Pinned
published path files old = set_pair path (package_root path files) old

-- ---- the answer

abbrev pub listing_end : NameAndVariant → Root → List Pinned → PublishEnd
listing_end path root old = if is_over (set_pair path root old) then ends.FullListing else ends.Published root

abbrev pub package_end : NameAndVariant → Root → Result MetaAndFiles PackageFault → List Pinned → PublishEnd
package_end path root (Err why) old = ends.NotAPackage why
package_end path root (Ok found) old = listing_end path root old

abbrev pub end_behind : NameAndVariant → List FarEntry → Option PublishEnd → List Pinned → PublishEnd
end_behind path files (Some end) old = end
end_behind path files None old = package_end path (package_root path files) (book (meta_bytes path files)) old

-- How the publication of these files ends at this listing, where nothing fails.
abbrev pub end_of : NameAndVariant → List FarEntry → List Pinned → PublishEnd
end_of path files old = end_behind path files (refusal files) old

-- ---- what is posted

-- what is found under each root once these blobs were posted, one after another
abbrev pub with_blobs : List (List ℕ) → (Root → Option RepoFile) → Root → Option RepoFile
with_blobs [] found = found
with_blobs (blob ∷ blobs) found = with_blobs blobs (with_blob (merkle_root blob) blob found)

-- the bytes of the other files
abbrev pub outer_blobs : List FarEntry → List (List ℕ)
outer_blobs files = map (λ (file : FarEntry). file.bytes) (outer_of files)

-- these blobs were posted, and no others
abbrev pub Posts : List (List ℕ) → Option (List RepoFile) → Option (List RepoFile) → Type 0
Posts blobs told told_now = IfSome told (λ old. IfSome told_now (λ new.
    (root : Root) → file_under new root ≡ with_blobs blobs (file_under old) root))

-- All is posted: the other files and the meta blob under their roots, and the listing. The meta blob is a
-- package with these files.
pub record IsPublished (path : NameAndVariant) (files : List FarEntry) (old new : Option (List Pinned))
    (before after : Option (List RepoFile)) : Type 0 where
  pub blobs : Posts (outer_blobs files ++ meta_bytes path files ∷ []) before after
  pub listing : IfSome old (λ list. new ≡ Some (published path files list))
  pub is_package : book (meta_bytes path files) ≡ Ok (record {
    meta = meta_bytes path files;
    inner = inner_files path files;
    outer = outer_pairs files;
  })
