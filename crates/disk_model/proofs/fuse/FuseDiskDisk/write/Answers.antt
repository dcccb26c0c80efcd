use Rattle.std.proofs.Common.{length, subst}
use Rattle.disk_model.specs.Past.{IsPast}
use Rattle.disk_model.specs.Disks.{Fuse}
use Rattle.disk_model.proofs.FuseLemmas.{fuse_write, fuse_blown_write}
use Rattle.disk_model.proofs.fuse.FuseDiskDisk.write.Goals as goal

pub invariant_of-self : goal.invariant_of-self
invariant_of-self c =
    let b = c.burns.ensures.passes c.if-burns.true in
    let e = c.write.ensures in
    fuse_write c.self.inside.inner c.write.new.self c.self.inside.left c.burns.new.left _ _ _ c.self.inside.blown c.burns.new.blown c.args.page c.args.bytes.now c.write.result c.self.invariant
    (record { listed = e.listed; wrote = e.wrote; failed = e.failed }) b.1 b.2 b.0

pub invariant_of-self-2 : goal.invariant_of-self-2
invariant_of-self-2 c =
    let b = c.burns.ensures.blows c.if-burns.false in
    fuse_blown_write c.self.inside.inner c.fail_write.new.self c.self.inside.left c.burns.new.left _ _ _ c.self.inside.blown c.burns.new.blown c.args.page c.args.bytes.now c.self.invariant c.fail_write.ensures.disk b.1 b.0 b.2

pub returns-then-burns-clause-told_before : goal.returns-then-burns-clause-told_before
returns-then-burns-clause-told_before c = subst (λ (f : Fuse). IsPast (length f.inner.past.start) f.inner.past) c.self.view_is c.write.ensures.told_before

pub returns-clause-told_before : goal.returns-clause-told_before
returns-clause-told_before c = subst (λ (f : Fuse). IsPast (length f.inner.past.start) f.inner.past) c.self.view_is c.fail_write.ensures.told_before
