-- What the answer of a publication says of tree, post and sink.
use Rattle.std.specs.Prelude.{◌≡◌, ℕ, ⊤, ◌⊎◌, List, [], ◌∷◌, ◌++◌, take, Option, None, Some, Result, Ok, Err, IfSome}
use Rattle.std.specs.Option.{option_map}
use Rattle.far_archive.specs.declared.write.FarEntry.{FarEntry}
use Rattle.package_book.specs.Book.{book}
use Rattle.package_book.specs.declared.fault.PackageFault.{PackageFault}
use Rattle.pkg_names.specs.Text.{line_feed}
use Rattle.system_lists.specs.Static.{line_text}
use Rattle.pkg_names.specs.Streams.{Rose}
use Rattle.pkg_names.specs.declared.root.Root.{Root}
use Rattle.pkg_names.specs.declared.pinned.Pinned.{Pinned}
use Rattle.pkg_names.specs.NameAndVariant.{NameAndVariant}
use Rattle.repo_source.specs.declared.file.RepoFile.{RepoFile}
use Rattle.repo_publish.specs.declared.post.PostReply.{PostReply}
use Rattle.repo_publish.specs.declared.post.PostReply.TheVariants as posts
use Rattle.repo_publish.specs.declared.publishing.PublishEnd.{PublishEnd}
use Rattle.repo_publish.specs.declared.publishing.PublishEnd.TheVariants.{Published, Order, Reserved, TooLarge, TooMany, NotAPackage, FullListing, PostFault, SinkFault, NoMemory}
use Rattle.repo_publish.specs.Refusals.{file_refusal, refusal}
use Rattle.repo_publish.specs.Published.{outer_blobs, meta_bytes, package_root, end_of, Posts, IsPublished}
use Rattle.repo_publish.specs.Steps.{IsCut}

-- how a post's answer ends a publication, if it does
abbrev pub ended : PostReply → Result (Unit {0}) PublishEnd
ended posts.Posted = Ok tt
ended posts.Failed = Err PostFault
ended posts.NoMemory = Err NoMemory

-- the root of one that was published
abbrev pub IfPublished : PublishEnd → (Root → Type 0) → Type 0
IfPublished (Published root) P = P root
IfPublished end P = ⊤

-- the listing was posted
abbrev pub IfListed : PublishEnd → Type 0 → Type 0
IfListed (Published root) P = P
IfListed SinkFault P = P
IfListed end P = ⊤

-- it ended before the listing was posted
abbrev pub IsEarly : PublishEnd → Type 0
IsEarly end = IfListed end ⊥

-- nothing was to be written
abbrev pub IfUnwritten : PublishEnd → Type 0 → Type 0
IfUnwritten (Published root) P = ⊤
IfUnwritten SinkFault P = ⊤
IfUnwritten end P = P

-- Where files and listing are told, the answer is how their publication ends, unless a call failed or
-- memory was short.
abbrev pub EndsAs : Option (List FarEntry) → Option (List Pinned) → NameAndVariant → PublishEnd → Type 0
EndsAs left told path end =
    IfSome left (λ files. IfSome told (λ old. (end ≡ end_of path files old) ⊎ IsCut end))

abbrev pub IsPosted : Option (List FarEntry) → NameAndVariant → (old new : Option (List Pinned))
    → (files files_now : Option (List RepoFile)) → Type 0
IsPosted left path old new files files_now =
    IfSome left (λ list. IsPublished path list old new files files_now)

-- The listing is the one before, but where it was posted, and where a list failed, as the count of these says.
abbrev pub Stays : (old new : Option (List Pinned)) → (count count_now : ℕ) → PublishEnd → Type 0
Stays old new count count_now (Published root) = ⊤
Stays old new count count_now SinkFault = ⊤
Stays old new count count_now PostFault = (new ≡ old) ⊎ Rose count count_now
Stays old new count count_now end = new ≡ old

-- how files end it, whatever the listing is
abbrev pub EndsEarly : Option (List FarEntry) → NameAndVariant → PublishEnd → Type 0
EndsEarly left path end = IfSome left (λ files. (old : List Pinned) → end ≡ end_of path files old) ⊎ IsCut end

-- All is posted, and how it ends is said of this root.
pub record IsAllPosted (left : Option (List FarEntry)) (path : NameAndVariant) (old new : Option (List Pinned))
    (files files_now : Option (List RepoFile)) (root : Root) : Type 0 where
  pub posted : IsPosted left path old new files files_now
  pub exact : EndsAs left old path (Published root)
  pub root_is : IfSome left (λ list. root ≡ package_root path list)

-- ---- what is left, and what was posted

-- a file was refused
abbrev pub IfRefused : PublishEnd → Type 0 → Type 0
IfRefused (Order file) P = P
IfRefused (Reserved file) P = P
IfRefused (TooLarge file len) P = P
IfRefused TooMany P = P
IfRefused end P = ⊤

-- A file was refused for this: it was the last that was taken, those before it can be published, and of
-- them the other files were posted and nothing else.
pub record IsRefused (left left_now : Option (List FarEntry)) (before after : Option (List RepoFile))
    (end : PublishEnd) : Type 0 where
  pub done : List FarEntry
  pub file : FarEntry
  pub all : left ≡ option_map (λ rest. (done ++ file ∷ []) ++ rest) left_now
  pub fine : refusal done ≡ None
  pub refused : file_refusal done file ≡ Some end
  pub posts : Posts (outer_blobs done) before after

-- the files make no package, or the listing has no room for it
abbrev pub IfUnfit : PublishEnd → Type 0 → Type 0
IfUnfit (NotAPackage why) P = P
IfUnfit FullListing P = P
IfUnfit end P = ⊤

-- why the files make no package
abbrev pub IfNoPackage : PublishEnd → (PackageFault → Type 0) → Type 0
IfNoPackage (NotAPackage why) P = P why
IfNoPackage end P = ⊤

-- All files were taken, and none was refused. The other files were posted, and nothing else. Where the files
-- make no package, this is what is wrong with their meta blob.
pub record IsUnfit (left left_now : Option (List FarEntry)) (path : NameAndVariant)
    (before after : Option (List RepoFile)) (end : PublishEnd) : Type 0 where
  pub done : List FarEntry
  pub all : IfSome left (λ list. list ≡ done)
  pub none_left : IfSome left_now (λ list. list ≡ [])
  pub fine : refusal done ≡ None
  pub why : IfNoPackage end (λ why. book (meta_bytes path done) ≡ Err why)
  pub posts : Posts (outer_blobs done) before after

-- ---- what was written

-- the line could not be written whole
abbrev pub IfCutShort : PublishEnd → Type 0 → Type 0
IfCutShort SinkFault P = P
IfCutShort end P = ⊤

-- A package was posted, whose line was written to here. Where the files are told it is theirs, and without
-- the failure it would have been published.
pub record IsCutShort (left : Option (List FarEntry)) (path : NameAndVariant) (told : Option (List Pinned))
    (before after : Option (List ℕ)) : Type 0 where
  pub root : Root
  pub count : ℕ
  pub root_is : IfSome left (λ files. root ≡ package_root path files)
  pub exact : EndsAs left told path (Published root)
  pub wrote : after ≡ option_map (λ written. written
      ++ take count (line_text (record { path = path; root = root }) ++ line_feed ∷ [])) before
