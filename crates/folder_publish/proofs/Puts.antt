-- A file that was put under names that are these.
use Rattle.std.proofs.Common.{◌≡◌, ℕ, Bool, List, subst, Option}
use Rattle.folder_publish.specs.Post.{PutsIf}

pub placed : (put : Bool) (before after : Option (List ℕ → Option (List ℕ))) (bytes beside name beside' name' : List ℕ) → beside ≡ beside' → name ≡ name' → PutsIf put before beside name bytes after → PutsIf put before beside' name' bytes after
placed put before after bytes beside name beside' name' same_beside same_name puts =
    subst (λ (n : List ℕ). PutsIf put before beside' n bytes after) same_name
    (subst (λ (b : List ℕ). PutsIf put before b name bytes after) same_beside puts)
