use Rattle.plain_desk_tests.proofs.Turns.{fits_still, one_two, one_three}
use Rattle.plain_desk_tests.proofs.hall.Hall.step_one.Goals as goal

pub invariant_of-self : goal.invariant_of-self
invariant_of-self c = record {
  first = c.go_on.ensures.hand;
  second = fits_still 1 2 c.self.inside.two c.self.inside.store c.go_on.new.store one_two c.go_on.ensures.own c.self.invariant.second;
  third = fits_still 1 3 c.self.inside.three c.self.inside.store c.go_on.new.store one_three c.go_on.ensures.own c.self.invariant.third;
}
