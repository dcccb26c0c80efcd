-- An entry among others.
use Rattle.std.proofs.Common.{◌≡◌, ℕ, suc, ◌<◌, List, ◌∷◌, ◌++◌, length, get_or, take, drop, sym, ap, ◌∙◌}
use Rattle.std.proofs.Math.Seq.{split_at}
use Rattle.pkg_names.specs.declared.root.Root.{Root}

pub cut : (entries : List Root) (place : ℕ) (top : Root) → place < length entries → top ≡ get_or entries place top → entries ≡ take place entries ++ top ∷ drop (suc place) entries
cut entries place top lt is =
    split_at entries place top lt ∙ ap (λ (entry : Root). take place entries ++ entry ∷ drop (suc place) entries) (sym is)
