use Rattle.std.proofs.Common.{◌≡◌, Bool, true, false, cond, Some, None, is_some, refl}
use Rattle.package_book.specs.Names.{names, listed_roots}
use Rattle.store_model.proofs.examples.examples_of_a_long_package.Goals as goal

-- of two look-ups of one root, one finds something where the other does
both_find : {X Y : Type 0} (test : Bool) (x : X) (y : Y) → is_some (cond test (Some x) None) ≡ true → is_some (cond test (Some y) None) ≡ true
both_find true x y h = refl
both_find false x y h = absurd cc

pub returns-clause-legal : goal.returns-clause-legal
unfolding names
returns-clause-legal c = (
  record { boots = refl; goes_on = refl; due = refl; looked = λ root protected stored. absurd cc; seen = tt },
  (
    record { boots = refl; goes_on = refl; due = record { lane = refl; free = refl; answer = refl }; looked = λ root protected stored. absurd cc; seen = tt },
    (
      record { boots = refl; goes_on = refl; due = (record { lane = refl; len = refl }, refl); looked = λ root protected stored. absurd cc; seen = tt },
      (record { boots = refl; goes_on = refl; due = (record { lane = refl; room = refl }, tt); looked = λ root protected stored. both_find _ _ _ stored; seen = tt }, tt),
    ),
  ),
)

pub returns-clause-known : goal.returns-clause-known
unfolding names
returns-clause-known c = refl

pub returns-clause-fails : goal.returns-clause-fails
unfolding names listed_roots
returns-clause-fails c = record { lane = refl; free = refl; answer = refl }
