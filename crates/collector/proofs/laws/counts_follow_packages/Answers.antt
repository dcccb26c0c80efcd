use Rattle.std.proofs.Common.{refl}
use Rattle.collector.proofs.Tallies.{room, gained, held, lost}
use Rattle.collector.proofs.laws.counts_follow_packages.Goals as goal

pub returns-clause-none : goal.returns-clause-none
returns-clause-none c books root = refl

pub returns-clause-room : goal.returns-clause-room
returns-clause-room c = room

pub returns-clause-gained : goal.returns-clause-gained
returns-clause-gained c = gained

pub returns-clause-held : goal.returns-clause-held
returns-clause-held c = held

pub returns-clause-lost : goal.returns-clause-lost
returns-clause-lost c = lost
