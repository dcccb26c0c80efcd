use Rattle.std.proofs.Common.{refl}
use Rattle.package_book.specs.Names.{names}
use Rattle.store_model.proofs.examples.examples_of_a_failed_write.Goals as goal

pub returns-clause-legal : goal.returns-clause-legal
unfolding names
returns-clause-legal c = (
  record { boots = refl; goes_on = refl; due = refl; looked = λ root protected stored. absurd cc; seen = tt },
  (
    record { boots = refl; goes_on = refl; due = record { lane = refl; free = refl; answer = refl }; looked = λ root protected stored. absurd cc; seen = tt },
    (
      record { boots = refl; goes_on = refl; due = (record { lane = refl; len = refl }, refl); looked = λ root protected stored. absurd cc; seen = tt },
      (
        record { boots = refl; goes_on = refl; due = ((refl, (12288, record { lane = refl; room = refl })), refl); looked = λ root protected stored. absurd cc; seen = tt },
        (
          record { boots = refl; goes_on = refl; due = refl; looked = λ root protected stored. absurd cc; seen = tt },
          (record { boots = refl; goes_on = refl; due = record { broken = refl; handed = tt }; looked = λ root protected stored. absurd cc; seen = tt }, tt),
        ),
      ),
    ),
  ),
)
