-- Of a tree that doesn't tell what is left, no answer says anything of that. What failed is the file of the name
-- that was taken.
use Rattle.std.proofs.Common.{◌≡◌, ℕ, refl, sym, subst, inr, Option, Some, None, List, String, Global}
use Rattle.std.specs.Option.{option_map}
use Rattle.std.specs.Prelude.{IsSomeAnd}
use Rattle.std.specs.String.{string_bytes}
use Rattle.repo_publish.specs.Tree.{Takes}
use Rattle.repo_publish.specs.declared.tree.TreeReply.{TreeReply}
use Rattle.repo_publish.specs.declared.tree.TreeReply.TheVariants.{File, End, Failed, NoMemory}
use Rattle.folder_publish.specs.Tree.{TakesName, FailsAt}

pub none_told : (reply : TreeReply) → Takes None reply None
none_told (File file) = refl
none_told End = (refl, refl)
none_told Failed = tt
none_told NoMemory = tt

pub failed_at : (told : Option (List ℕ → List (List ℕ))) (folder : List ℕ) (before after : Option (List (List ℕ))) (reply : TreeReply) (name : String Global) (place : Option (String Global)) → TakesName told folder before (Some (string_bytes name)) after → (reply ≡ Failed → place ≡ Some name) → FailsAt told folder before reply (option_map string_bytes place) after
failed_at told folder before after (File file) name place took at = tt
failed_at told folder before after End name place took at = tt
failed_at told folder before after Failed name place took at =
    inr (subst (λ (p : Option (String Global)). IsSomeAnd (option_map string_bytes p) (λ n. TakesName told folder before (Some n) after)) (sym (at refl)) took)
failed_at told folder before after NoMemory name place took at = tt
