use Rattle.std.proofs.Common.{length, ap, ◌∙◌, arith}
use Rattle.far_archive.proofs.Order.{count_fits, count_is}
use Rattle.far_archive.proofs.archive.Archive.count.Goals as goal

pub overflow_cast-result : goal.overflow_cast-result
overflow_cast-result c = omega (arith, count_fits c.self.inside.bytes.items c.self.inside.places c.self.invariant)

pub returns : goal.returns
returns c = count_is c.self.inside.bytes.items c.self.inside.places c.self.invariant ∙ ap length c.self.view_is
