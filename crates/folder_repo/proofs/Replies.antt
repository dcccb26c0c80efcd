-- What is answered for a blob says what its file holds.
use Rattle.std.proofs.Common.{◌≡◌, ℕ, false, List, length, refl, sym, subst, ◌∙◌, Option, Some, None}
use Rattle.std.specs.Prelude.{IsSomeAnd}
use Rattle.std.proofs.lemmas.Bool.{false≢true}
use Rattle.pkg_names.specs.declared.root.Root.{Root}
use Rattle.repo_source.specs.declared.repo.FetchReply.{FetchReply}
use Rattle.repo_source.specs.declared.repo.FetchReply.TheVariants.{Found, Absent, Failed, NoMemory}
use Rattle.repo_source.specs.Repo.{opens}
use Rattle.folder_repo.specs.Folder.{blob_name, HasAt, Opens, FetchesFile, IsLeft}

pub file_found : (files : Option (List ℕ → Option (List ℕ))) (name folder : List ℕ) (root : Root) (remaining : Option (List ℕ)) (len : ℕ) → name ≡ blob_name folder root → Opens files name remaining len → FetchesFile files folder root (Found len)
file_found None name folder root remaining len is opened = tt
file_found (Some at) name folder root remaining len is opened =
    subst (λ (n : List ℕ). IsSomeAnd (at n) (λ bytes. len ≡ length bytes)) is
    (subst (λ (o : Option (List ℕ)). IsSomeAnd o (λ bytes. len ≡ length bytes)) (sym opened.there) opened.size)

pub file_left : (files : Option (List ℕ → Option (List ℕ))) (name folder : List ℕ) (root : Root) (remaining : Option (List ℕ)) (len : ℕ) → name ≡ blob_name folder root → Opens files name remaining len → IsLeft files folder root (Found len) remaining
file_left None name folder root remaining len is opened = tt
file_left (Some at) name folder root remaining len is opened =
    subst (λ (n : List ℕ). remaining ≡ at n) is (opened.whole ∙ sym opened.there)

pub file_refused : (files : Option (List ℕ → Option (List ℕ))) (name folder : List ℕ) (root : Root) (reply : FetchReply) → name ≡ blob_name folder root → opens reply ≡ false → (reply ≡ Absent → HasAt files name None) → FetchesFile files folder root reply
file_refused None name folder root reply is closed missing = tt
file_refused (Some at) name folder root (Found len) is closed missing = absurd (false≢true (sym closed))
file_refused (Some at) name folder root Absent is closed missing =
    subst (λ (n : List ℕ). at n ≡ None) is (missing refl)
file_refused (Some at) name folder root Failed is closed missing = tt
file_refused (Some at) name folder root NoMemory is closed missing = tt

pub none_tried : (files : Option (List ℕ → Option (List ℕ))) (folder : List ℕ) (root : Root) → FetchesFile files folder root NoMemory
none_tried None folder root = tt
none_tried (Some at) folder root = tt
