use Rattle.std.proofs.Common.{length, subst}
use Rattle.disk_model.specs.Past.{IsPast}
use Rattle.disk_model.specs.Disks.{Fuse}
use Rattle.disk_model.proofs.FuseLemmas.{fuse_sync}
use Rattle.disk_model.proofs.fuse.FuseDiskDisk.sync.Goals as goal

pub invariant_of-self : goal.invariant_of-self
invariant_of-self c =
    let b = c.burns.ensures.passes c.if-burns.true in
    let e = c.sync.ensures in
    fuse_sync c.self.inside.inner c.sync.new.self c.self.inside.left c.burns.new.left _ _ _ c.self.inside.blown c.burns.new.blown c.sync.result c.self.invariant
    (record { listed = e.listed; synced = e.synced; failed = e.failed }) b.1 b.2 b.0

pub returns-then-burns-clause-told_before : goal.returns-then-burns-clause-told_before
returns-then-burns-clause-told_before c = subst (λ (f : Fuse). IsPast (length f.inner.past.start) f.inner.past) c.self.view_is c.sync.ensures.told_before

pub returns-clause-told_before : goal.returns-clause-told_before
returns-clause-told_before c = subst (λ (f : Fuse). IsPast (length f.inner.past.start) f.inner.past) c.self.view_is c.fail.ensures.told_before
