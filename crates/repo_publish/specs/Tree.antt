-- What a tree tells, and what its answers say of that.
use Rattle.std.specs.Prelude.{◌≡◌, ⊤, Bool, true, false, List, [], ◌∷◌, Option}
use Rattle.std.specs.Option.{option_map}
use Rattle.far_archive.specs.declared.write.FarEntry.{FarEntry}
use Rattle.repo_publish.specs.declared.tree.TreeReply.{TreeReply}
use Rattle.repo_publish.specs.declared.tree.TreeReply.TheVariants.{File, End, Failed, NoMemory}

-- The files that were left are the one that is given and those left now. The end comes where none is left.
abbrev pub Takes : Option (List FarEntry) → TreeReply → Option (List FarEntry) → Type 0
Takes before (File file) after = before ≡ option_map (λ rest. file ∷ rest) after
Takes before End after = (before ≡ option_map (λ _. []) after) × (after ≡ before)
Takes before Failed after = ⊤
Takes before NoMemory after = ⊤

-- the answer says that the tree failed
abbrev pub tree_failed : TreeReply → Bool
tree_failed (File file) = false
tree_failed End = false
tree_failed Failed = true
tree_failed NoMemory = false
