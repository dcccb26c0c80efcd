use Rattle.plain_desk_tests.proofs.Turns.{fits_still, three_one, three_two}
use Rattle.plain_desk_tests.proofs.hall.Hall.step_three.Goals as goal

pub invariant_of-self : goal.invariant_of-self
invariant_of-self c = record {
  first = fits_still 3 1 c.self.inside.one c.self.inside.store c.go_on.new.store three_one c.go_on.ensures.own c.self.invariant.first;
  second = fits_still 3 2 c.self.inside.two c.self.inside.store c.go_on.new.store three_two c.go_on.ensures.own c.self.invariant.second;
  third = c.go_on.ensures.hand;
}
