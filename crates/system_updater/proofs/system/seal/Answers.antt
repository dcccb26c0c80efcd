use Rattle.std.proofs.Common.{◌≡◌, [], sym, subst}
use Rattle.std.specs.Prelude.{◌↔◌}
use Rattle.image_layout.specs.declared.Sys.{Sys}
use Rattle.store_model.specs.declared.replies.Dir.{Dir}
use Rattle.store_model.specs.declared.replies.SealReply.{SealReply}
use Rattle.store_model.specs.declared.replies.SealReply.TheVariants as seal
use Rattle.store_model.specs.Desk.{View}
use Rattle.store_model.specs.Calls.{Seals}
use Rattle.system_updater.specs.declared.plan.Plan.{Plan}
use Rattle.system_updater.specs.Plan.{sys_of}
use Rattle.system_updater.specs.Serving.{after_seal}
use Rattle.system_updater.specs.Serving.Point.{Filling}
use Rattle.system_updater.specs.Viewing.{Told}
use Rattle.system_updater.specs.Steps.{Goes}
use Rattle.system_updater.proofs.Desks.{seal_goes}
use Rattle.system_updater.proofs.system.seal.Goals as goal

by_sys : (sys : Sys) (reply : SealReply) (old new : View) (F G : Type 0) → Seals sys reply old new → F ↔ G → (dir : Dir) (plan : Plan) (repo : Told) → sys_of plan ≡ sys
    → Goes (Filling dir plan []) (after_seal dir (sys_of plan) reply) old new repo repo F G
by_sys sys reply old new F G is firm dir plan repo same = seal_goes dir plan old new repo F G reply (subst (λ (y : Sys). Seals y reply old new) (sym same) is) firm

pub returns-in-Sealed-clause-goes : goal.returns-in-Sealed-clause-goes
returns-in-Sealed-clause-goes g c = λ dir plan repo same.
    by_sys c.args.sys.now seal.Sealed (g.K.Desk.view c.args.desk.now) (g.K.Desk.view c.seal.new.self) (g.K.Desk.firm c.args.desk.now) (g.K.Desk.firm c.seal.new.self) c.in-Sealed.ensures.event c.in-Sealed.ensures.firm dir plan repo same

pub returns-in-Differs-clause-goes : goal.returns-in-Differs-clause-goes
returns-in-Differs-clause-goes g c = λ dir plan repo same.
    by_sys c.args.sys.now (seal.Differs c.in-Differs.image c.in-Differs.got) (g.K.Desk.view c.args.desk.now) (g.K.Desk.view c.seal.new.self) (g.K.Desk.firm c.args.desk.now) (g.K.Desk.firm c.seal.new.self) c.in-Differs.ensures.event c.in-Differs.ensures.firm dir plan repo same

pub returns-in-Broken-clause-goes : goal.returns-in-Broken-clause-goes
returns-in-Broken-clause-goes g c = λ dir plan repo same.
    by_sys c.args.sys.now (seal.Broken c.in-Broken.number) (g.K.Desk.view c.args.desk.now) (g.K.Desk.view c.seal.new.self) (g.K.Desk.firm c.args.desk.now) (g.K.Desk.firm c.seal.new.self) c.in-Broken.ensures.event c.in-Broken.ensures.firm dir plan repo same

pub returns-in-NoMemory-clause-goes : goal.returns-in-NoMemory-clause-goes
returns-in-NoMemory-clause-goes g c = λ dir plan repo same.
    by_sys c.args.sys.now seal.NoMemory (g.K.Desk.view c.args.desk.now) (g.K.Desk.view c.seal.new.self) (g.K.Desk.firm c.args.desk.now) (g.K.Desk.firm c.seal.new.self) c.in-NoMemory.ensures.event c.in-NoMemory.ensures.firm dir plan repo same

pub returns-in-Sealed-clause-images : goal.returns-in-Sealed-clause-images
returns-in-Sealed-clause-images g c = (c.in-Sealed.ensures.kept.1, c.in-Sealed.ensures.kept.2)

pub returns-in-Differs-clause-images : goal.returns-in-Differs-clause-images
returns-in-Differs-clause-images g c = c.in-Differs.ensures.kept.2
