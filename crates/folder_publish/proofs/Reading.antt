-- What was read of a file is its front.
use Rattle.std.proofs.Common.{◌≡◌, ℕ, ◌+◌, List, [], ◌++◌, take, sym, subst, Option, Some, None, IfSome}
use Rattle.std.specs.Option.{option_map}
use Rattle.std.specs.Prelude.{IsSomeAnd}
use Rattle.far_archive.specs.declared.write.FarEntry.{FarEntry}
use Rattle.folder_repo.specs.Folder.{Opens}
use Rattle.pkg_merkle.specs.declared.hasher.TheConstants.{BYTES_LIMIT}
use Rattle.folder_publish.specs.Tree.{path_below, HoldsFile}

pub front_read : (remaining : Option (List ℕ)) (bytes : List ℕ) → IfSome (option_map (take (BYTES_LIMIT + 1)) remaining) (λ xs. bytes ≡ [] ++ xs) → IfSome remaining (λ all. bytes ≡ take (BYTES_LIMIT + 1) all)
front_read None bytes read = tt
front_read (Some all) bytes read = read

pub file_held : (files : Option (List ℕ → Option (List ℕ))) (name folder : List ℕ) (remaining : Option (List ℕ)) (len : ℕ) (entry : FarEntry) → name ≡ path_below folder entry.name → Opens files name remaining len → IfSome remaining (λ all. entry.bytes ≡ take (BYTES_LIMIT + 1) all) → HoldsFile files folder entry
file_held None name folder remaining len entry is opened read = tt
file_held (Some at) name folder remaining len entry is opened read =
    let front : entry.bytes ≡ take (BYTES_LIMIT + 1) opened.bytes = subst (λ (o : Option (List ℕ)). IfSome o (λ all. entry.bytes ≡ take (BYTES_LIMIT + 1) all)) opened.whole read in
    subst (λ (n : List ℕ). IsSomeAnd (at n) (λ all. entry.bytes ≡ take (BYTES_LIMIT + 1) all)) is
    (subst (λ (o : Option (List ℕ)). IsSomeAnd o (λ all. entry.bytes ≡ take (BYTES_LIMIT + 1) all)) (sym opened.there) front)
