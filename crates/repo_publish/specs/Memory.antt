-- A tree and a post in memory: what contracts see of them, and what a call leaves of them.
use Rattle.std.specs.Prelude.{ℕ, Bool, true, false, List, drop}
use Rattle.pkg_names.specs.Streams.{one_more}
use Rattle.pkg_names.specs.declared.root.Root.{Root}
use Rattle.pkg_names.specs.Root.{root_eq}
use Rattle.pkg_names.specs.declared.pinned.Pinned.{Pinned}
use Rattle.far_archive.specs.declared.write.FarEntry.{FarEntry}
use Rattle.repo_source.specs.declared.file.RepoFile.{RepoFile}
use Rattle.repo_publish.specs.declared.tree.TreeReply.{TreeReply}
use Rattle.repo_publish.specs.declared.tree.TreeReply.TheVariants as trees
use Rattle.repo_publish.specs.declared.post.PostListing.{PostListing}
use Rattle.repo_publish.specs.declared.post.PostReply.{PostReply}
use Rattle.repo_publish.specs.declared.post.PostReply.TheVariants as posts
use Rattle.repo_publish.specs.Lists.{put_in}
use Rattle.repo_publish.specs.Post.{file_of, listing_failed}

-- the files that are left; the calls so far, of which the listed ones fail; how often it failed
pub record TreeInMemory : Type 0 where
  pub left : List FarEntry
  pub failing : List ℕ
  pub calls : ℕ
  pub faults : ℕ

-- listing and files; calls, failing calls and faults as of a tree; how often a list failed
pub record PostInMemory : Type 0 where
  pub listing : List Pinned
  pub files : List RepoFile
  pub failing : List ℕ
  pub calls : ℕ
  pub faults : ℕ
  pub list_faults : ℕ

-- the tree after a call that gave this answer
abbrev pub after_next : TreeReply → TreeInMemory → TreeInMemory
after_next (trees.File file) tree = record tree { left = drop 1 tree.left; calls = one_more tree.calls }
after_next trees.End tree = record tree { calls = one_more tree.calls }
after_next trees.Failed tree = record tree { calls = one_more tree.calls; faults = one_more tree.faults }
after_next trees.NoMemory tree = record tree { calls = one_more tree.calls }

-- the call is counted, and, where it failed, the fault
abbrev pub counted : Bool → PostInMemory → PostInMemory
counted false post = record post { calls = one_more post.calls }
counted true post = record post { calls = one_more post.calls; faults = one_more post.faults }

-- a blob in the place of the first one under its root, or last
abbrev pub put_blob : Root → List ℕ → List RepoFile → List RepoFile
put_blob root bytes files = put_in (λ (file : RepoFile). root_eq file.root root) (file_of root bytes) files

-- the post after a call, by its answer; a list that is posted is what is read of its bytes
abbrev pub after_listing : PostListing → PostInMemory → PostInMemory
after_listing reply post = counted (listing_failed reply) post

abbrev pub after_blob : PostReply → Root → List ℕ → PostInMemory → PostInMemory
after_blob posts.Posted root bytes post = record (counted false post) { files = put_blob root bytes post.files }
after_blob posts.Failed root bytes post = counted true post
after_blob posts.NoMemory root bytes post = counted false post

abbrev pub after_list : PostReply → List Pinned → PostInMemory → PostInMemory
after_list posts.Posted list post = record (counted false post) { listing = list }
after_list posts.Failed list post = record (counted true post) { list_faults = one_more post.list_faults }
after_list posts.NoMemory list post = counted false post
