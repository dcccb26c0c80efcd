use Rattle.std.proofs.Common.{◌≡◌, List, [], ℕ, Option, None, refl, sym, subst, ◌∙◌}
use Rattle.image_layout.specs.declared.ImageKind.{ImageKind}
use Rattle.store_model.specs.declared.replies.Dir.{Dir}
use Rattle.store_model.specs.Desk.{View, held_by}
use Rattle.system_updater.specs.declared.plan.Plan.{Plan}
use Rattle.system_updater.specs.declared.reply.UpdateReply.TheVariants as replies
use Rattle.system_updater.specs.Plan.{Task}
use Rattle.system_updater.specs.Serving.{image_left, Copies}
use Rattle.system_updater.specs.Serving.Point.{Copying}
use Rattle.system_updater.specs.Viewing.{Told}
use Rattle.system_updater.specs.Steps.{Goes}
use Rattle.system_updater.proofs.Goes.{goes_pass}
use Rattle.system_updater.proofs.Desks.{image_is_left}
use Rattle.system_updater.proofs.Grown.{named_part}
use Rattle.system_updater.proofs.images.copy.Goals as goal

-- an image whose URL names no file
unnamed : (kind : ImageKind) (from : Dir) (file : Option (List ℕ)) (v : View) (F : Type 0) → file ≡ None → (dir : Dir) (plan : Plan) (task : Task) (later : List Task) (repo : Told) → task.kind ≡ kind → task.image.url.file ≡ file
    → Goes (Copying dir plan task from later) (image_left dir from (replies.NoFile kind)) v v repo repo F F
unnamed kind from file v F none dir plan task later repo same named =
    subst (λ (k : ImageKind). Goes (Copying dir plan task from later) (image_left dir from (replies.NoFile k)) v v repo repo F F) same
    (goes_pass (Copying dir plan task from later) (image_left dir from (replies.NoFile task.kind)) v repo F
    (subst (λ (o : Option (List ℕ)). Copies dir plan task from later o [] (image_left dir from (replies.NoFile task.kind))) (sym (named ∙ none)) (refl, refl))
    (λ base at. image_is_left v.lane dir plan task from later (replies.NoFile task.kind) base (held_by v) tt at))

pub returns-in-Some-clause-goes : goal.returns-in-Some-clause-goes
returns-in-Some-clause-goes g c = λ dir plan task later repo kind named. c.copy_file.ensures.goes dir plan task later repo kind (named ∙ c.in-Some.is)

pub returns-in-None-clause-goes : goal.returns-in-None-clause-goes
returns-in-None-clause-goes g c = unnamed c.args.kind c.args.from c.args.file (g.K.Desk.view c.args.desk.now) (g.K.Desk.firm c.args.desk.now) c.in-None.is

pub returns-in-Some-clause-images : goal.returns-in-Some-clause-images
returns-in-Some-clause-images g c = λ root open_ empty.
    named_part (g.K.Desk.firm c.args.desk.now) (g.K.Desk.kept c.args.desk.now) (g.K.Desk.kept c.copy_file.new.desk) (g.K.Desk.view c.copy_file.new.desk) c.args.kind c.args.from.number c.args.file c.in-Some.file c.copy_file.result c.in-Some.is
    (c.copy_file.ensures.images root open_ empty)
