use Rattle.std.proofs.Common.{List, sym, ap, subst, ◌∙◌}
use Rattle.pkg_names.specs.declared.root.Root.{Root}
use Rattle.store_model.specs.declared.events.LookedAt.{LookedAt}
use Rattle.store_model.specs.declared.ends.RetainEnd.TheVariants as retains
use Rattle.store_model.specs.Settling.{IsSeen}
use Rattle.store_model.specs.State.{State}
use Rattle.store_model.specs.Acts.Retain.{next_retain}
use Rattle.plain_state.specs.Learning.{Forgets, IsSettled, LearnsOf}
use Rattle.plain_state.proofs.Looking.{seen_from}
use Rattle.plain_state.proofs.Learned.{kept_only}
use Rattle.plain_state.proofs.state.State.keep_only.Goals as goal

pub returns-in-Ok-clause-seen : goal.returns-in-Ok-clause-seen
returns-in-Ok-clause-seen c =
    subst (λ (seen : List LookedAt). IsSeen seen c.args.self.now.stock) (sym c.make.ensures.list)
    (seen_from c.args.contents.now c.learn_each.new.seen.items c.args.self.now.stock c.requires.bytes c.learn_each.ensures.from)

pub returns-in-Ok-clause-ok : goal.returns-in-Ok-clause-ok
returns-in-Ok-clause-ok c =
    subst (λ (seen : List LookedAt). IsSettled seen (next_retain c.args.self.now c.args.roots retains.Done) c.forget_each.new.self) (sym c.make.ensures.list)
    (kept_only c.args.contents.now c.learn_each.new.seen.items c.args.roots c.args.self.now c.learn_each.new.self c.retain.new.self c.forget_each.new.self
    c.requires.ready c.requires.bytes c.learn_each.ensures.from
    (subst (λ (roots : List Root). LearnsOf roots c.learn_each.new.seen.items c.args.self.now c.learn_each.new.self) c.as_slice.ensures.list c.in-Ok.ensures.ok)
    c.retain.ensures
    (subst (λ (roots : List Root). Forgets roots c.retain.new.self c.forget_each.new.self)
    (c.deref.ensures.value ∙ c.in_ok-former.ensures.items ∙ c.retained.ensures ∙ ap (λ (s : State). s.retained) c.self.view_is)
    c.forget_each.ensures))
