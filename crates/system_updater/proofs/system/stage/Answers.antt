use Rattle.std.proofs.Common.{◌≡◌, ℕ, sym, ap, subst}
use Rattle.std.specs.Prelude.{◌↔◌}
use Rattle.store_model.specs.declared.replies.Dir.{Dir}
use Rattle.store_model.specs.declared.replies.StageReply.{StageReply}
use Rattle.store_model.specs.declared.replies.StageReply.TheVariants as stage
use Rattle.store_model.specs.Desk.{View}
use Rattle.store_model.specs.Calls.{Stages}
use Rattle.system_updater.specs.declared.plan.Plan.{Plan}
use Rattle.system_updater.specs.declared.reply.UpdateReply.TheVariants as replies
use Rattle.system_updater.specs.Serving.{closed, after_stage}
use Rattle.system_updater.specs.Serving.Point.{Staging}
use Rattle.system_updater.specs.Viewing.{Told}
use Rattle.system_updater.specs.Steps.{Goes}
use Rattle.system_updater.proofs.Goes.{goes_to}
use Rattle.system_updater.proofs.Desks.{stage_goes}
use Rattle.system_updater.proofs.system.stage.Goals as goal

by_epoch : (epoch : ℕ) (reply : StageReply) (old new : View) (F G : Type 0) → Stages epoch reply old new → F ↔ G → (dir : Dir) (plan : Plan) (repo : Told) → plan.epoch ≡ epoch
    → Goes (Staging dir plan) (after_stage dir plan reply) old new repo repo F G
by_epoch epoch reply old new F G is firm dir plan repo same = stage_goes dir plan old new repo F G reply (subst (λ (e : ℕ). Stages e reply old new) (sym same) is) firm

pub returns-in-Turn-clause-goes : goal.returns-in-Turn-clause-goes
returns-in-Turn-clause-goes g c = λ dir plan repo same.
    by_epoch c.args.epoch (stage.Turn c.in-Turn.slot) (g.K.Desk.view c.args.desk.now) (g.K.Desk.view c.stage.new.self) (g.K.Desk.firm c.args.desk.now) (g.K.Desk.firm c.stage.new.self) c.in-Turn.ensures.event c.in-Turn.ensures.firm dir plan repo same

pub returns-in-InRecovery-clause-goes : goal.returns-in-InRecovery-clause-goes
returns-in-InRecovery-clause-goes g c = λ dir plan repo same.
    by_epoch c.args.epoch stage.InRecovery (g.K.Desk.view c.args.desk.now) (g.K.Desk.view c.stage.new.self) (g.K.Desk.firm c.args.desk.now) (g.K.Desk.firm c.stage.new.self) c.in-InRecovery.ensures.event c.in-InRecovery.ensures.firm dir plan repo same

pub returns-in-Busy-clause-goes : goal.returns-in-Busy-clause-goes
returns-in-Busy-clause-goes g c = λ dir plan repo same.
    by_epoch c.args.epoch (stage.Busy c.in-Busy.lane) (g.K.Desk.view c.args.desk.now) (g.K.Desk.view c.stage.new.self) (g.K.Desk.firm c.args.desk.now) (g.K.Desk.firm c.stage.new.self) c.in-Busy.ensures.event c.in-Busy.ensures.firm dir plan repo same

pub returns-in-NotCommitted-clause-goes : goal.returns-in-NotCommitted-clause-goes
returns-in-NotCommitted-clause-goes g c = λ dir plan repo same.
    by_epoch c.args.epoch stage.NotCommitted (g.K.Desk.view c.args.desk.now) (g.K.Desk.view c.stage.new.self) (g.K.Desk.firm c.args.desk.now) (g.K.Desk.firm c.stage.new.self) c.in-NotCommitted.ensures.event c.in-NotCommitted.ensures.firm dir plan repo same

pub returns-in-Older-clause-goes : goal.returns-in-Older-clause-goes
returns-in-Older-clause-goes g c = λ dir plan repo same.
    goes_to (Staging dir plan) _ (closed dir (replies.Epoch c.in-Older.have c.args.epoch)) (g.K.Desk.view c.args.desk.now) (g.K.Desk.view c.stage.new.self) repo repo (g.K.Desk.firm c.args.desk.now) (g.K.Desk.firm c.stage.new.self)
    (ap (λ (e : ℕ). closed dir (replies.Epoch c.in-Older.have e)) same)
    (by_epoch c.args.epoch (stage.Older c.in-Older.have) (g.K.Desk.view c.args.desk.now) (g.K.Desk.view c.stage.new.self) (g.K.Desk.firm c.args.desk.now) (g.K.Desk.firm c.stage.new.self) c.in-Older.ensures.event c.in-Older.ensures.firm dir plan repo same)

pub returns-in-Broken-clause-goes : goal.returns-in-Broken-clause-goes
returns-in-Broken-clause-goes g c = λ dir plan repo same.
    by_epoch c.args.epoch (stage.Broken c.in-Broken.number) (g.K.Desk.view c.args.desk.now) (g.K.Desk.view c.stage.new.self) (g.K.Desk.firm c.args.desk.now) (g.K.Desk.firm c.stage.new.self) c.in-Broken.ensures.event c.in-Broken.ensures.firm dir plan repo same

pub returns-in-NoMemory-clause-goes : goal.returns-in-NoMemory-clause-goes
returns-in-NoMemory-clause-goes g c = λ dir plan repo same.
    by_epoch c.args.epoch stage.NoMemory (g.K.Desk.view c.args.desk.now) (g.K.Desk.view c.stage.new.self) (g.K.Desk.firm c.args.desk.now) (g.K.Desk.firm c.stage.new.self) c.in-NoMemory.ensures.event c.in-NoMemory.ensures.firm dir plan repo same

pub returns-in-Turn-clause-images : goal.returns-in-Turn-clause-images
returns-in-Turn-clause-images g c = (c.in-Turn.ensures.kept.1, c.in-Turn.ensures.kept.2)
