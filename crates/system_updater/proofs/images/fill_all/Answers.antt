use Rattle.std.proofs.Common.{◌≡◌, List, [], ◌∷◌, Some, None, Err, refl, ap, subst, rules}
use Rattle.image_layout.specs.declared.ImageKind.TheVariants as kinds
use Rattle.store_model.specs.declared.replies.Dir.{Dir}
use Rattle.store_model.specs.Desk.{View}
use Rattle.update_manifest.specs.declared.image.ImageRef.{ImageRef}
use Rattle.update_manifest.specs.declared.image.Images.{Images}
use Rattle.system_updater.specs.declared.plan.Plan.{Plan}
use Rattle.system_updater.specs.Plan.{Task, tasks_of}
use Rattle.system_updater.specs.Serving.Point.{Filling}
use Rattle.system_updater.specs.Holding.{HoldsAt}
use Rattle.system_updater.specs.Viewing.{Told}
use Rattle.system_updater.specs.Steps.{Goes}
use Rattle.system_updater.proofs.Goes.{goes_then, goes_at}
use Rattle.system_updater.proofs.Wholes.{no_claim, filling_stage, holds_then}
use Rattle.system_updater.proofs.Grown.{grew_none, grew_goes, has_wider, or_early, early_err, with_vbmeta, without_vbmeta}
use Rattle.system_updater.proofs.images.fill_all.Goals as goal

abbrev zbi_of : Images → Task
zbi_of images = record { kind = kinds.Zbi; image = images.zbi }

abbrev vbmeta_of : ImageRef → Task
vbmeta_of image = record { kind = kinds.Vbmeta; image = image }

both : (images : Images) (image : ImageRef) → images.vbmeta ≡ Some image → tasks_of images ≡ zbi_of images ∷ vbmeta_of image ∷ []
both images image is = rw is refl

module _ (images : Images) (image : ImageRef) (v w : View) (r s : Told) (F G : Type 0) (is : images.vbmeta ≡ Some image)
    (goes : (dir : Dir) (plan : Plan) (later : List Task) → HoldsAt (Filling dir plan (zbi_of images ∷ later)) v → Goes (Filling dir plan (zbi_of images ∷ later)) (Filling dir plan later) v w r s F G) where
  -- the zbi was filled
  zbi_goes : (dir : Dir) (plan : Plan) → HoldsAt (Filling dir plan (tasks_of images)) v → Goes (Filling dir plan (tasks_of images)) (Filling dir plan (vbmeta_of image ∷ [])) v w r s F G
  zbi_goes dir plan at =
      let same : Filling dir plan (tasks_of images) ≡ Filling dir plan (zbi_of images ∷ vbmeta_of image ∷ []) = ap (Filling dir plan) (both images image is) in
      goes_at _ _ (Filling dir plan (vbmeta_of image ∷ [])) v w r s F G same (goes dir plan (vbmeta_of image ∷ []) (subst (λ p. HoldsAt p v) same at))

  zbi_held : (dir : Dir) (plan : Plan) → HoldsAt (Filling dir plan (tasks_of images)) v → HoldsAt (Filling dir plan (vbmeta_of image ∷ [])) w
  zbi_held dir plan at = holds_then (Filling dir plan (tasks_of images)) (Filling dir plan (vbmeta_of image ∷ [])) v w r s F G (zbi_goes dir plan at) at

pub fill-requires-in-Some-clause-free : goal.fill-requires-in-Some-clause-free
fill-requires-in-Some-clause-free g c = no_claim _ _ (zbi_held c.args.images c.in-Some.image _ _ _ _ _ _ c.in-Some.is c.in_ok-fill.ensures.goes c.requires.0 c.requires.1 c.requires.2)

pub fill-requires-in-Some-clause-stage : goal.fill-requires-in-Some-clause-stage
fill-requires-in-Some-clause-stage g c = filling_stage _ _ _ _ (zbi_held c.args.images c.in-Some.image _ _ _ _ _ _ c.in-Some.is c.in_ok-fill.ensures.goes c.requires.0 c.requires.1 c.requires.2)

pub returns-in-Some-clause-goes : goal.returns-in-Some-clause-goes
returns-in-Some-clause-goes g c = λ dir plan at.
    goes_then _ _ _ _ _ _ _ _ _ _ _ _ (zbi_goes c.args.images c.in-Some.image _ _ _ _ _ _ c.in-Some.is c.in_ok-fill.ensures.goes dir plan at)
    (c.fill-in-Some.ensures.goes dir plan [] (zbi_held c.args.images c.in-Some.image _ _ _ _ _ _ c.in-Some.is c.in_ok-fill.ensures.goes dir plan at))

none_of : (images : Images) → images.vbmeta ≡ None → tasks_of images ≡ zbi_of images ∷ []
none_of images is = rw is refl

pub returns-in-Some-clause-images : goal.returns-in-Some-clause-images
returns-in-Some-clause-images g c = λ dir plan at zbi vbmeta.
    let images = c.args.images in
    let image = c.in-Some.image in
    let v = g.K.Desk.view c.args.desk.now in
    let w = g.K.Desk.view c.fill.new.desk in
    let u = g.K.Desk.view c.fill-in-Some.new.desk in
    let F = g.K.Desk.firm c.args.desk.now in
    let G = g.K.Desk.firm c.fill.new.desk in
    let kw = g.K.Desk.kept c.fill.new.desk in
    let ku = g.K.Desk.kept c.fill-in-Some.new.desk in
    let same : Filling dir plan (tasks_of images) ≡ Filling dir plan (zbi_of images ∷ vbmeta_of image ∷ []) = ap (Filling dir plan) (both images image c.in-Some.is) in
    let at_zbi = subst (λ p. HoldsAt p v) same at in
    let zbi_there = c.in_ok-fill.ensures.goes dir plan (vbmeta_of image ∷ []) at_zbi in
    let first = c.in_ok-fill.ensures.images dir plan (vbmeta_of image ∷ []) at_zbi zbi in
    let at_vbmeta = zbi_held images image _ _ _ _ _ _ c.in-Some.is c.in_ok-fill.ensures.goes dir plan at in
    let vbmeta_there = c.fill-in-Some.ensures.goes dir plan [] at_vbmeta in
    or_early _ _ c.fill-in-Some.result
    (λ done is. (
      has_wider v v w u F F kw ku kinds.Zbi images.zbi.url (grew_none v) (grew_goes _ _ w u _ _ _ _ vbmeta_there) (λ firm. firm) (λ bytes there. is.1 kinds.Zbi bytes (λ same. cc same) there) first.0,
      with_vbmeta F ku v u images.vbmeta image c.in-Some.is
          (has_wider v w u u F G ku ku kinds.Vbmeta image.url (grew_goes _ _ v w _ _ _ _ zbi_there) (grew_none u) zbi_there.does.firm.0 (λ bytes there. there) is.0),
    )) (c.fill-in-Some.ensures.images dir plan [] at_vbmeta (first.1 kinds.Vbmeta [] (λ same. cc same) vbmeta))

pub returns-clause-images : goal.returns-clause-images
returns-clause-images g c = λ dir plan at zbi vbmeta.
    let at_zbi = subst (λ p. HoldsAt p (g.K.Desk.view c.args.desk.now)) (ap (Filling dir plan) (none_of c.args.images c.in-None.is)) at in
    let first = c.in_ok-fill.ensures.images dir plan [] at_zbi zbi in (
      first.0,
      without_vbmeta (g.K.Desk.firm c.args.desk.now) (g.K.Desk.kept c.fill.new.desk) (g.K.Desk.view c.args.desk.now) (g.K.Desk.view c.fill.new.desk) c.args.images.vbmeta c.in-None.is
          (first.1 kinds.Vbmeta [] (λ same. cc same) vbmeta),
    )

pub returns-in_err-fill-clause-images : goal.returns-in_err-fill-clause-images
returns-in_err-fill-clause-images g c = λ dir plan at zbi vbmeta.
    let same : Err c.in_err-fill.field-0.0 ≡ c.from_residual.result = search rules in
    early_err _ c.in_err-fill.field-0.0 c.from_residual.result same (c.in_err-fill.ensures.images dir plan _ at zbi)
