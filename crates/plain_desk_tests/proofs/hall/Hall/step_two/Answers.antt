use Rattle.plain_desk_tests.proofs.Turns.{fits_still, two_one, two_three}
use Rattle.plain_desk_tests.proofs.hall.Hall.step_two.Goals as goal

pub invariant_of-self : goal.invariant_of-self
invariant_of-self c = record {
  first = fits_still 2 1 c.self.inside.one c.self.inside.store c.go_on.new.store two_one c.go_on.ensures.own c.self.invariant.first;
  second = c.go_on.ensures.hand;
  third = fits_still 2 3 c.self.inside.three c.self.inside.store c.go_on.new.store two_three c.go_on.ensures.own c.self.invariant.third;
}
