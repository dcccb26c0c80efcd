use Rattle.std.proofs.Common.{◌<◌, [], length, ap, subst, ◌∙◌, arith}
use Rattle.std.proofs.lemmas.List.{get_or_read}
use Rattle.disk_model.specs.Past.{Pages, IsPast, page_at}
use Rattle.disk_model.specs.Images.{contents}
use Rattle.disk_model.specs.Disks.{Mem}
use Rattle.disk_model.proofs.KeptLemmas.{kept_length, may_read}
use Rattle.disk_model.proofs.mem.MemDiskDisk.read.Goals as goal

pub index-requires : goal.index-requires
index-requires c = omega (arith, kept_length _ _ c.self.invariant, ap (λ (m : Mem). length m.past.start) c.self.view_is, c.self.inside.current.ok.0)

pub returns-clause-current : goal.returns-clause-current
returns-clause-current c =
    let inside : c.args.page < length c.self.inside.current.items = omega (arith, kept_length _ _ c.self.invariant, ap (λ (m : Mem). length m.past.start) c.self.view_is) in
    get_or_read c.self.inside.current.items c.args.page c.index.result.now inside c.index.ensures [] ∙ ap (λ (l : Pages). page_at l c.args.page) c.self.invariant.now ∙ ap (λ (m : Mem). page_at (contents m.past) c.args.page) c.self.view_is

pub returns-clause-value : goal.returns-clause-value
returns-clause-value c = may_read c.args.self.now.past c.args.page c.index.result.now c.requires (returns-clause-current c)

pub returns-clause-told_before : goal.returns-clause-told_before
returns-clause-told_before c = subst (λ (m : Mem). IsPast (length m.past.start) m.past) c.self.view_is c.self.invariant.told
