use Rattle.resolver.proofs.Leaving.{leaves_nothing, leaves_idle}
use Rattle.resolver.proofs.laws.resolves_leave_nothing.Goals as goal

pub returns : goal.returns
returns c = record { same = leaves_nothing; idle = leaves_idle }
