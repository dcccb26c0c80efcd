use Rattle.std.proofs.Common.{◌≡◌, ℕ, List, Some, sym, subst}
use Rattle.std.specs.Prelude.{◌↔◌}
use Rattle.image_layout.specs.declared.ImageKind.{ImageKind}
use Rattle.store_model.specs.declared.replies.Dir.{Dir}
use Rattle.store_model.specs.declared.replies.CopyReply.{CopyReply}
use Rattle.store_model.specs.declared.replies.CopyReply.TheVariants as copy
use Rattle.store_model.specs.Desk.{View}
use Rattle.store_model.specs.Calls.{Copies}
use Rattle.store_model.proofs.CallsRest.{held_after_copy}
use Rattle.system_updater.specs.declared.plan.Plan.{Plan}
use Rattle.system_updater.specs.Plan.{Task}
use Rattle.system_updater.specs.Serving.{image_left, copy_refusal}
use Rattle.system_updater.specs.Serving.Point.{Copying}
use Rattle.system_updater.specs.Viewing.{Told}
use Rattle.system_updater.specs.Steps.{Goes, IsRefusal}
use Rattle.system_updater.proofs.Desks.{copy_more, copy_whole, copy_refused}
use Rattle.system_updater.proofs.Parts.{copied_more, copied_whole}
use Rattle.system_updater.proofs.images.copy_part.Goals as goal

-- of any task of this kind
by_kind : (kind : ImageKind) (from : Dir) (file : List ℕ) (reply : CopyReply) (old new : View) (F G : Type 0) → Copies kind from.number file reply old new → F ↔ G → IsRefusal reply
    → (dir : Dir) (plan : Plan) (task : Task) (later : List Task) (repo : Told) → task.kind ≡ kind → task.image.url.file ≡ Some file
    → Goes (Copying dir plan task from later) (image_left dir from (copy_refusal kind reply)) old new repo repo F G
by_kind kind from file reply old new F G is firm refusal dir plan task later repo same named =
    subst (λ (k : ImageKind). Goes (Copying dir plan task from later) (image_left dir from (copy_refusal k reply)) old new repo repo F G) same
    (copy_refused dir plan task from later file old new repo F G reply named refusal (subst (λ (k : ImageKind). Copies k from.number file reply old new) (sym same) is) firm)

pub returns-in-More-clause-goes : goal.returns-in-More-clause-goes
returns-in-More-clause-goes g c = λ dir plan task later repo same named.
    copy_more dir plan task c.args.from later c.args.file.now (g.K.Desk.view c.args.desk.now) (g.K.Desk.view c.copy_part.new.self) repo (g.K.Desk.firm c.args.desk.now) (g.K.Desk.firm c.copy_part.new.self) c.in-More.ensures.event.0 c.in-More.ensures.firm

pub returns-in-Whole-clause-goes : goal.returns-in-Whole-clause-goes
returns-in-Whole-clause-goes g c = λ dir plan task later repo same named.
    copy_whole dir plan task c.args.from later c.args.file.now (g.K.Desk.view c.args.desk.now) (g.K.Desk.view c.copy_part.new.self) repo (g.K.Desk.firm c.args.desk.now) (g.K.Desk.firm c.copy_part.new.self) named c.in-Whole.ensures.event.0 c.in-Whole.ensures.firm

pub returns-in-More-clause-held : goal.returns-in-More-clause-held
returns-in-More-clause-held g c = held_after_copy c.args.kind c.args.from.number c.args.file.now (copy.More c.in-More.have) (g.K.Desk.view c.args.desk.now) (g.K.Desk.view c.copy_part.new.self) c.in-More.ensures.event

pub returns-in-Whole-clause-held : goal.returns-in-Whole-clause-held
returns-in-Whole-clause-held g c = held_after_copy c.args.kind c.args.from.number c.args.file.now (copy.Whole c.in-Whole.len) (g.K.Desk.view c.args.desk.now) (g.K.Desk.view c.copy_part.new.self) c.in-Whole.ensures.event

pub returns-in-BadDir-clause-goes : goal.returns-in-BadDir-clause-goes
returns-in-BadDir-clause-goes g c =
    by_kind c.args.kind c.args.from c.args.file.now copy.BadDir (g.K.Desk.view c.args.desk.now) (g.K.Desk.view c.copy_part.new.self) (g.K.Desk.firm c.args.desk.now) (g.K.Desk.firm c.copy_part.new.self) c.in-BadDir.ensures.event c.in-BadDir.ensures.firm tt

pub returns-in-BadDir-clause-held : goal.returns-in-BadDir-clause-held
returns-in-BadDir-clause-held g c = held_after_copy c.args.kind c.args.from.number c.args.file.now copy.BadDir (g.K.Desk.view c.args.desk.now) (g.K.Desk.view c.copy_part.new.self) c.in-BadDir.ensures.event

pub returns-in-NoFile-clause-goes : goal.returns-in-NoFile-clause-goes
returns-in-NoFile-clause-goes g c =
    by_kind c.args.kind c.args.from c.args.file.now copy.NoFile (g.K.Desk.view c.args.desk.now) (g.K.Desk.view c.copy_part.new.self) (g.K.Desk.firm c.args.desk.now) (g.K.Desk.firm c.copy_part.new.self) c.in-NoFile.ensures.event c.in-NoFile.ensures.firm tt

pub returns-in-NoFile-clause-held : goal.returns-in-NoFile-clause-held
returns-in-NoFile-clause-held g c = held_after_copy c.args.kind c.args.from.number c.args.file.now copy.NoFile (g.K.Desk.view c.args.desk.now) (g.K.Desk.view c.copy_part.new.self) c.in-NoFile.ensures.event

pub returns-in-TooLarge-clause-goes : goal.returns-in-TooLarge-clause-goes
returns-in-TooLarge-clause-goes g c =
    by_kind c.args.kind c.args.from c.args.file.now (copy.TooLarge c.in-TooLarge.len c.in-TooLarge.room) (g.K.Desk.view c.args.desk.now) (g.K.Desk.view c.copy_part.new.self) (g.K.Desk.firm c.args.desk.now) (g.K.Desk.firm c.copy_part.new.self) c.in-TooLarge.ensures.event c.in-TooLarge.ensures.firm tt

pub returns-in-TooLarge-clause-held : goal.returns-in-TooLarge-clause-held
returns-in-TooLarge-clause-held g c = held_after_copy c.args.kind c.args.from.number c.args.file.now (copy.TooLarge c.in-TooLarge.len c.in-TooLarge.room) (g.K.Desk.view c.args.desk.now) (g.K.Desk.view c.copy_part.new.self) c.in-TooLarge.ensures.event

pub returns-in-DiskRead-clause-goes : goal.returns-in-DiskRead-clause-goes
returns-in-DiskRead-clause-goes g c =
    by_kind c.args.kind c.args.from c.args.file.now copy.DiskRead (g.K.Desk.view c.args.desk.now) (g.K.Desk.view c.copy_part.new.self) (g.K.Desk.firm c.args.desk.now) (g.K.Desk.firm c.copy_part.new.self) c.in-DiskRead.ensures.event c.in-DiskRead.ensures.firm tt

pub returns-in-DiskRead-clause-held : goal.returns-in-DiskRead-clause-held
returns-in-DiskRead-clause-held g c = held_after_copy c.args.kind c.args.from.number c.args.file.now copy.DiskRead (g.K.Desk.view c.args.desk.now) (g.K.Desk.view c.copy_part.new.self) c.in-DiskRead.ensures.event

pub returns-in-Broken-clause-goes : goal.returns-in-Broken-clause-goes
returns-in-Broken-clause-goes g c =
    by_kind c.args.kind c.args.from c.args.file.now (copy.Broken c.in-Broken.number) (g.K.Desk.view c.args.desk.now) (g.K.Desk.view c.copy_part.new.self) (g.K.Desk.firm c.args.desk.now) (g.K.Desk.firm c.copy_part.new.self) c.in-Broken.ensures.event c.in-Broken.ensures.firm tt

pub returns-in-Broken-clause-held : goal.returns-in-Broken-clause-held
returns-in-Broken-clause-held g c = held_after_copy c.args.kind c.args.from.number c.args.file.now (copy.Broken c.in-Broken.number) (g.K.Desk.view c.args.desk.now) (g.K.Desk.view c.copy_part.new.self) c.in-Broken.ensures.event

pub returns-in-NoMemory-clause-goes : goal.returns-in-NoMemory-clause-goes
returns-in-NoMemory-clause-goes g c =
    by_kind c.args.kind c.args.from c.args.file.now copy.NoMemory (g.K.Desk.view c.args.desk.now) (g.K.Desk.view c.copy_part.new.self) (g.K.Desk.firm c.args.desk.now) (g.K.Desk.firm c.copy_part.new.self) c.in-NoMemory.ensures.event c.in-NoMemory.ensures.firm tt

pub returns-in-NoMemory-clause-held : goal.returns-in-NoMemory-clause-held
returns-in-NoMemory-clause-held g c = held_after_copy c.args.kind c.args.from.number c.args.file.now copy.NoMemory (g.K.Desk.view c.args.desk.now) (g.K.Desk.view c.copy_part.new.self) c.in-NoMemory.ensures.event

pub returns-in-More-clause-images : goal.returns-in-More-clause-images
returns-in-More-clause-images g c = λ root open_ begun.
    let e = c.in-More.ensures in (
      copied_more c.args.kind c.args.from.number c.args.file.now (g.K.Desk.view c.args.desk.now) (g.K.Desk.view c.copy_part.new.self) (g.K.Desk.kept c.args.desk.now) (g.K.Desk.kept c.copy_part.new.self) root e.event.0 open_ c.in-More.have e.kept begun,
      e.kept.4.other,
      e.event.0.stays.lane,
      e.firm.0,
    )

pub returns-in-Whole-clause-images : goal.returns-in-Whole-clause-images
returns-in-Whole-clause-images g c = λ root open_ begun.
    let e = c.in-Whole.ensures in (
      copied_whole c.args.kind c.args.from.number c.args.file.now (g.K.Desk.view c.args.desk.now) (g.K.Desk.view c.copy_part.new.self) (g.K.Desk.kept c.args.desk.now) (g.K.Desk.kept c.copy_part.new.self) root e.event.0 open_
          (g.K.Desk.firm c.args.desk.now) c.in-Whole.len e.kept e.whole begun,
      e.kept.4.other,
    )
