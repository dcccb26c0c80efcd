use Rattle.std.proofs.Common.{◌≡◌, inr, List, refl, sym, ap, subst, ◌∙◌}
use Rattle.std.specs.Prelude.{◌↔◌}
use Rattle.pkg_names.specs.declared.pinned.Pinned.{Pinned}
use Rattle.pkg_names.specs.declared.root.Root.{Root}
use Rattle.store_model.specs.declared.replies.Dir.{Dir}
use Rattle.store_model.specs.declared.replies.RetainReply.{RetainReply}
use Rattle.store_model.specs.declared.replies.RetainReply.TheVariants as retain
use Rattle.store_model.specs.Desk.{View, held_by}
use Rattle.store_model.specs.State.Phase.{Filling as Fills}
use Rattle.store_model.specs.Calls.{Retains}
use Rattle.system_updater.specs.declared.plan.Plan.{Plan}
use Rattle.system_updater.specs.declared.reply.UpdateReply.TheVariants as replies
use Rattle.system_updater.specs.Plan.{roots_of}
use Rattle.system_updater.specs.Serving.{left, after_retain}
use Rattle.system_updater.specs.Serving.Point.{Retaining}
use Rattle.system_updater.specs.Viewing.{Told}
use Rattle.system_updater.specs.Steps.{Goes}
use Rattle.system_updater.proofs.Goes.{goes_pass}
use Rattle.system_updater.proofs.Places.{staged_left}
use Rattle.system_updater.proofs.Desks.{retain_goes}
use Rattle.store_model.specs.Desk.Keeping.{Image}
use Rattle.system_updater.proofs.packages.retain.Goals as goal

by_roots : (packages : List Pinned) (roots : List Root) (reply : RetainReply) (old new : View) (F G : Type 0) → Retains roots reply old new → F ↔ G → roots ≡ roots_of packages
    → (dir : Dir) (plan : Plan) (repo : Told) → plan.packages ≡ packages → Goes (Retaining dir plan) (after_retain dir plan reply) old new repo repo F G
by_roots packages roots reply old new F G is firm roots_is dir plan repo same =
    retain_goes dir plan old new repo F G reply (subst (λ (rs : List Root). Retains rs reply old new) (roots_is ∙ ap roots_of (sym same)) is) firm

pub returns-in_default-clause-goes : goal.returns-in_default-clause-goes
returns-in_default-clause-goes g c = λ dir plan repo same.
    goes_pass (Retaining dir plan) (left dir replies.NoMemory) (g.K.Desk.view c.args.desk.now) repo (g.K.Desk.firm c.args.desk.now) (inr (refl, refl))
    (λ base at. staged_left _ dir Fills replies.NoMemory base (held_by (g.K.Desk.view c.args.desk.now)) tt at)

pub returns-in-Done-clause-goes : goal.returns-in-Done-clause-goes
returns-in-Done-clause-goes g c = λ dir plan repo same.
    by_roots c.args.packages.now c.deref.result.now retain.Done (g.K.Desk.view c.args.desk.now) (g.K.Desk.view c.retain.new.self) (g.K.Desk.firm c.args.desk.now) (g.K.Desk.firm c.retain.new.self)
    c.in-Done.ensures.event c.in-Done.ensures.firm (c.deref.ensures.value ∙ c.in-Ok.ensures) dir plan repo same

pub returns-in-SlotInUse-clause-goes : goal.returns-in-SlotInUse-clause-goes
returns-in-SlotInUse-clause-goes g c = λ dir plan repo same.
    by_roots c.args.packages.now c.deref.result.now retain.SlotInUse (g.K.Desk.view c.args.desk.now) (g.K.Desk.view c.retain.new.self) (g.K.Desk.firm c.args.desk.now) (g.K.Desk.firm c.retain.new.self)
    c.in-SlotInUse.ensures.event c.in-SlotInUse.ensures.firm (c.deref.ensures.value ∙ c.in-Ok.ensures) dir plan repo same

pub returns-in-DiskRead-clause-goes : goal.returns-in-DiskRead-clause-goes
returns-in-DiskRead-clause-goes g c = λ dir plan repo same.
    by_roots c.args.packages.now c.deref.result.now retain.DiskRead (g.K.Desk.view c.args.desk.now) (g.K.Desk.view c.retain.new.self) (g.K.Desk.firm c.args.desk.now) (g.K.Desk.firm c.retain.new.self)
    c.in-DiskRead.ensures.event c.in-DiskRead.ensures.firm (c.deref.ensures.value ∙ c.in-Ok.ensures) dir plan repo same

pub returns-in-Rotten-clause-goes : goal.returns-in-Rotten-clause-goes
returns-in-Rotten-clause-goes g c = λ dir plan repo same.
    by_roots c.args.packages.now c.deref.result.now (retain.Rotten c.in-Rotten.root c.in-Rotten.got) (g.K.Desk.view c.args.desk.now) (g.K.Desk.view c.retain.new.self) (g.K.Desk.firm c.args.desk.now) (g.K.Desk.firm c.retain.new.self)
    c.in-Rotten.ensures.event c.in-Rotten.ensures.firm (c.deref.ensures.value ∙ c.in-Ok.ensures) dir plan repo same

pub returns-in-Broken-clause-goes : goal.returns-in-Broken-clause-goes
returns-in-Broken-clause-goes g c = λ dir plan repo same.
    by_roots c.args.packages.now c.deref.result.now (retain.Broken c.in-Broken.number) (g.K.Desk.view c.args.desk.now) (g.K.Desk.view c.retain.new.self) (g.K.Desk.firm c.args.desk.now) (g.K.Desk.firm c.retain.new.self)
    c.in-Broken.ensures.event c.in-Broken.ensures.firm (c.deref.ensures.value ∙ c.in-Ok.ensures) dir plan repo same

pub returns-clause-goes : goal.returns-clause-goes
returns-clause-goes g c = λ dir plan repo same.
    by_roots c.args.packages.now c.deref.result.now retain.NoMemory (g.K.Desk.view c.args.desk.now) (g.K.Desk.view c.retain.new.self) (g.K.Desk.firm c.args.desk.now) (g.K.Desk.firm c.retain.new.self)
    c.in-NoMemory.ensures.event c.in-NoMemory.ensures.firm (c.deref.ensures.value ∙ c.in-Ok.ensures) dir plan repo same

pub returns-in-Done-clause-images : goal.returns-in-Done-clause-images
returns-in-Done-clause-images g c = λ image bytes there. c.in-Done.ensures.kept (Image image) bytes there
