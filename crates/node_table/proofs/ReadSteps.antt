-- One page more of items is read.
use Rattle.std.proofs.Common.{◌≡◌, ℕ, ◌+◌, ◌*◌, ◌<◌, ◌≤◌, List, ◌++◌, map, length, sym, subst, inl, inr, arith, Option, IfSome}
use Rattle.std.specs.List.{range_with_len}
use Rattle.std.proofs.lemmas.Bool.{cases_eq}
use Rattle.disk_model.specs.Past.{Page, Past, state_of, MayRead}
use Rattle.node_table.specs.Steps.{ReadAs}
use Rattle.node_table.proofs.PagesAs.{read_as, read_weaker}
use Rattle.node_table.proofs.Parts.{Holds, holds_more, holds_stays}

pub read_page : {X : Type 0} (f : Page → ℕ → X) (size : ℕ) (d : X) (first k : ℕ) (told : Option Past) (page : Page) (xs new : List X) → length xs ≡ size * k → ((i : ℕ) → i < k → size * i + size ≤ size * k) → new ≡ xs ++ map (f page) (range_with_len 0 size) → IfSome told (λ past. MayRead (state_of past (first + k)) page) → ((i : ℕ) → i < k → ReadAs told (first + i) (Holds f size xs d i)) → (i : ℕ) → i < k + 1 → ReadAs told (first + i) (Holds f size new d i)
read_page f size d first k told page xs new long room is may before i lt =
    elim (cases_eq i k) [
      | inl e ↦ subst (λ (j : ℕ). ReadAs told (first + j) (Holds f size new d j)) (sym e)
          (read_as (first + k) page (Holds f size new d k) told may (subst (λ (ys : List _). Holds f size ys d k page) (sym is) (holds_more f size xs d k page long)))
      | inr ne ↦
          let below : i < k = omega (arith, ne, lt) in
          read_weaker (first + i) (Holds f size xs d i) (Holds f size new d i) told
          (λ other holds. subst (λ (ys : List _). Holds f size ys d i other) (sym is) (holds_stays f size xs (map (f page) (range_with_len 0 size)) d i other (omega (arith, room i below, long)) holds))
          (before i below)
    ]
