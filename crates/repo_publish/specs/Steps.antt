-- What the steps of a publication leave.
use Rattle.std.specs.Prelude.{◌≡◌, ◌≢◌, ℕ, ◌≤◌, ⊤, ◌⊎◌, Bool, true, false, List, ◌++◌, length, Option, Some, None, Result, Ok, Err, IfSome}
use Rattle.std.specs.Option.{option_map}
use Rattle.std.specs.List.{All, AllPairs}
use Rattle.std.specs.Ordering.{nat_cmp}
use Rattle.std.specs.Cmp.Lexicographic.{slice_cmp}
use Rattle.std.specs.declared.cmp.Ordering.TheVariants.{Less}
use Rattle.far_archive.specs.declared.write.FarEntry.{FarEntry}
use Rattle.meta_contents.specs.Contents.{Pair}
use Rattle.package_book.specs.declared.fault.PackageFault.{PackageFault}
use Rattle.package_book.specs.Book.{contents_name, book}
use Rattle.pkg_merkle.specs.declared.hasher.TheConstants.{BYTES_LIMIT}
use Rattle.pkg_names.specs.declared.root.Root.{Root}
use Rattle.pkg_names.specs.NameAndVariant.{NameAndVariant}
use Rattle.pkg_names.specs.declared.pinned.Pinned.{Pinned}
use Rattle.repo_source.specs.declared.file.RepoFile.{RepoFile}
use Rattle.system_lists.specs.Static.{static_of}
use Rattle.repo_publish.specs.declared.publishing.TheConstants.{FILE_LIMIT}
use Rattle.repo_publish.specs.declared.publishing.PublishEnd.{PublishEnd}
use Rattle.repo_publish.specs.declared.publishing.PublishEnd.TheVariants.{Published, Order, Reserved, TooLarge, TooMany, NotAPackage, FullListing, PostFault, TreeFault, SinkFault, NoMemory}
use Rattle.repo_publish.specs.Refusals.{inner_of, last_name, file_refusal, refusal}
use Rattle.repo_publish.specs.Published.{outer_pairs, outer_blobs, meta_bytes, inner_files, set_pair, is_over, Posts}

-- files of which none is refused: their names ascend, none is `meta/contents`, and each is a blob
pub record AreFine (done : List FarEntry) : Type 0 where
  pub refused : refusal done ≡ None
  pub ascend : AllPairs (λ a b. slice_cmp nat_cmp a.name b.name ≡ Less) done
  pub not_reserved : All (λ file. file.name ≢ contents_name) done
  pub small : All (λ file. length file.bytes ≤ BYTES_LIMIT) done

-- what is kept of files that were taken
pub record IsTaken (done files : List FarEntry) (pairs : List Pair) (name : Option (List ℕ)) : Type 0 where
  pub fine : AreFine done
  pub inner : files ≡ inner_of done
  pub contents : pairs ≡ outer_pairs done
  pub last : name ≡ last_name done
  pub few_inner : length files ≤ FILE_LIMIT
  pub few_outer : length pairs ≤ FILE_LIMIT

-- it is kept of some files
abbrev pub AreTaken : List FarEntry → List Pair → Option (List ℕ) → Type 0
AreTaken inner contents last = (done : List FarEntry) × IsTaken done inner contents last

-- a file was refused
abbrev pub IsRefusal : PublishEnd → Type 0
IsRefusal (Published root) = ⊥
IsRefusal (Order file) = ⊤
IsRefusal (Reserved file) = ⊤
IsRefusal (TooLarge file len) = ⊤
IsRefusal TooMany = ⊤
IsRefusal (NotAPackage why) = ⊥
IsRefusal FullListing = ⊥
IsRefusal PostFault = ⊥
IsRefusal TreeFault = ⊥
IsRefusal SinkFault = ⊥
IsRefusal NoMemory = ⊥

-- a call of the post ended it, or of the tree or the sink
abbrev pub IsPostCut : PublishEnd → Type 0
IsPostCut end = (end ≡ PostFault) ⊎ (end ≡ NoMemory)

abbrev pub IsCut : PublishEnd → Type 0
IsCut end = IsPostCut end ⊎ ((end ≡ TreeFault) ⊎ (end ≡ SinkFault))

-- a failure of the post ended it, or of the tree
abbrev pub is_post_fault : PublishEnd → Bool
is_post_fault (Published root) = false
is_post_fault (Order file) = false
is_post_fault (Reserved file) = false
is_post_fault (TooLarge file len) = false
is_post_fault TooMany = false
is_post_fault (NotAPackage why) = false
is_post_fault FullListing = false
is_post_fault PostFault = true
is_post_fault TreeFault = false
is_post_fault SinkFault = false
is_post_fault NoMemory = false

abbrev pub is_tree_fault : PublishEnd → Bool
is_tree_fault (Published root) = false
is_tree_fault (Order file) = false
is_tree_fault (Reserved file) = false
is_tree_fault (TooLarge file len) = false
is_tree_fault TooMany = false
is_tree_fault (NotAPackage why) = false
is_tree_fault FullListing = false
is_tree_fault PostFault = false
is_tree_fault TreeFault = true
is_tree_fault SinkFault = false
is_tree_fault NoMemory = false

-- a step ended it so
abbrev pub failed_post : {X : Type 0} → Result X PublishEnd → Bool
failed_post (Ok x) = false
failed_post (Err end) = is_post_fault end

abbrev pub failed_tree : {X : Type 0} → Result X PublishEnd → Bool
failed_tree (Ok x) = false
failed_tree (Err end) = is_tree_fault end

-- how a file that comes behind these ends it: it is refused, or else a call of the post failed
abbrev pub EndsAt : List FarEntry → FarEntry → PublishEnd → Type 0
EndsAt done file end =
    (file_refusal done file ≡ Some end) ⊎ ((file_refusal done file ≡ None) × IsPostCut end)

-- so many files of a tree were taken, and the other ones posted
pub record IsUnderWay (count : ℕ) (left left_now : Option (List FarEntry)) (before after : Option (List RepoFile))
    (files : List FarEntry) (pairs : List Pair) (name : Option (List ℕ)) : Type 0 where
  pub done : List FarEntry
  pub taken : IsTaken done files pairs name
  pub size : length done ≡ count
  pub all : left ≡ option_map (λ rest. done ++ rest) left_now
  pub posts : Posts (outer_blobs done) before after

-- all files of a tree were taken, and the other ones posted
pub record IsGathered (left : Option (List FarEntry)) (before after : Option (List RepoFile))
    (files : List FarEntry) (pairs : List Pair) (name : Option (List ℕ)) : Type 0 where
  pub done : List FarEntry
  pub taken : IsTaken done files pairs name
  pub all : IfSome left (λ list. list ≡ done)
  pub posts : Posts (outer_blobs done) before after

-- how the files of a tree end it
abbrev pub EndsFiles : Option (List FarEntry) → PublishEnd → Type 0
EndsFiles left end = (IsRefusal end × IfSome left (λ files. refusal files ≡ Some end)) ⊎ IsCut end

-- the bytes are the meta blob of these files, and a package
abbrev pub IsPackage : NameAndVariant → List FarEntry → List ℕ → Type 0
IsPackage path files meta = (meta ≡ meta_bytes path files) × (book meta ≡ Ok (record {
  meta = meta_bytes path files;
  inner = inner_files path files;
  outer = outer_pairs files;
}))

-- the bytes are the meta blob of the files of a tree, of which the other ones were posted
pub record IsMade (left : Option (List FarEntry)) (path : NameAndVariant) (before after : Option (List RepoFile))
    (meta : List ℕ) : Type 0 where
  pub done : List FarEntry
  pub all : IfSome left (λ list. list ≡ done)
  pub fine : refusal done ≡ None
  pub is_package : IsPackage path done meta
  pub posts : Posts (outer_blobs done) before after

-- how bytes that are no book end it
abbrev pub IsNoBook : List ℕ → PublishEnd → Type 0
IsNoBook meta end = ((why : PackageFault) × (end ≡ NotAPackage why) × (book meta ≡ Err why)) ⊎ (end ≡ NoMemory)

-- how files that make no package end it
abbrev pub EndsPackage : NameAndVariant → List FarEntry → PublishEnd → Type 0
EndsPackage path files end = IsNoBook (meta_bytes path files) end

-- the bytes are those of a listing with the pair, which passes no limit
pub record IsTextWith (old : List Pinned) (path : NameAndVariant) (root : Root) (bytes : List ℕ) : Type 0 where
  pub short : is_over (set_pair path root old) ≡ false
  pub read : static_of bytes ≡ Ok (set_pair path root old)

-- how a listing ends it: with the pair it passes a limit, or memory was short
abbrev pub EndsText : List Pinned → NameAndVariant → Root → PublishEnd → Type 0
EndsText old path root end = ((end ≡ FullListing) × (is_over (set_pair path root old) ≡ true)) ⊎ (end ≡ NoMemory)

-- the bytes are those of the post's listing with the pair
pub record IsNext (told : Option (List Pinned)) (path : NameAndVariant) (root : Root) (bytes : List ℕ) : Type 0 where
  pub old : List Pinned
  pub is : IfSome told (λ list. list ≡ old)
  pub made : IsTextWith old path root bytes

-- how the listing ends it: with the pair it passes a limit, or a call failed
abbrev pub EndsListing : Option (List Pinned) → NameAndVariant → Root → PublishEnd → Type 0
EndsListing told path root end =
    ((end ≡ FullListing) × IfSome told (λ list. is_over (set_pair path root list) ≡ true)) ⊎ IsPostCut end
