-- What is held from one step of an update to the next, and what the steps of a whole update come to.
use Rattle.std.proofs.Common.{inl, ◌≡◌, ℕ, List, ◌∷◌, Option, Some, Result, Ok, Err, refl, sym, ap, subst, ◌∙◌}
use Rattle.std.specs.Prelude.{◌↔◌}
use Rattle.pkg_names.specs.NameAndVariant.{NameAndVariant}
use Rattle.pkg_names.specs.declared.pinned.Pinned.{Pinned}
use Rattle.pkg_names.specs.declared.root.Root.{Root}
use Rattle.repo_source.specs.declared.file.RepoFile.{RepoFile}
use Rattle.image_layout.specs.declared.Sys.{Sys}
use Rattle.store_model.specs.declared.replies.Dir.{Dir}
use Rattle.store_model.specs.History.{Numbered}
use Rattle.store_model.specs.Holding.{Held}
use Rattle.store_model.specs.State.{Phase}
use Rattle.store_model.specs.State.Phase.{Filling as Fills, Sealed}
use Rattle.store_model.specs.Desk.{View, held_by}
use Rattle.store_model.specs.Calls.{HoldsNoClaim, HoldsStage, HoldsSealed, HoldsAnyStage}
use Rattle.resolver.specs.declared.reply.ResolveReply.{ResolveReply}
use Rattle.resolver.specs.declared.reply.ResolveReply.TheVariants as resolved
use Rattle.resolver.specs.Viewing.{Resolves as Resolved, IsHeldAfter}
use Rattle.system_updater.specs.declared.reply.UpdateReply.{UpdateReply}
use Rattle.system_updater.specs.declared.plan.Plan.{Plan}
use Rattle.system_updater.specs.Plan.{Task}
use Rattle.system_updater.specs.Serving.{Point, Follows, Resolves, left, refusal_of, after_resolve, joined, CanCome}
use Rattle.system_updater.specs.Serving.Point.{Asking, Reading, Rejecting, Staging, Retaining, Fetching, Filling, Copying, Activating, Closing, Leaving, Ended}
use Rattle.system_updater.specs.Serving.Prior.{NothingRead}
use Rattle.system_updater.specs.Holding.{WithDir, IsStaged, IsHeldAt, HoldsAt}
use Rattle.system_updater.specs.Viewing.{Told, told, Updates}
use Rattle.system_updater.specs.Steps.{Goes, or_left, or_image_left}
use Rattle.system_updater.proofs.Goes.{goes_leg, does_resolve}
use Rattle.system_updater.proofs.Places.{staged_left}

-- ---- what is held

-- it is held there once the step is made
pub holds_then : (a b : Point) (v w : View) (r s : Told) (F G : Type 0) → Goes a b v w r s F G → HoldsAt a v → HoldsAt b w
holds_then a b v w r s F G goes at = record {
  base = at.base;
  free = at.free;
  is = subst (λ (l : ℕ). IsHeldAt l b at.base (held_by w)) (sym goes.does.stays.lane) (goes.held at.base at.is);
}

claim_open : (lane : ℕ) (dir : Dir) (less now : Held) → WithDir lane dir less now → now.claim ≡ less.claim
claim_open lane dir less now is = ap (λ (h : Held). h.claim) is.is

claim_staged : (lane : ℕ) (dir : Dir) (phase : Phase) (base now : Held) → IsStaged lane dir phase base now → now.claim ≡ base.claim
claim_staged lane dir phase base now is = ap (λ (h : Held). h.claim) is.2.is ∙ claim_open lane dir base is.0 is.1

-- at no point a claim is held
claim_at : (lane : ℕ) (p : Point) (base now : Held) → IsHeldAt lane p base now → now.claim ≡ base.claim
claim_at lane (Asking path pin) base now is = ap (λ (h : Held). h.claim) is
claim_at lane (Reading dir prior) base now is = claim_open lane dir base now is
claim_at lane (Rejecting dir file why) base now is = claim_open lane dir base now is
claim_at lane (Staging dir plan) base now is = claim_open lane dir base now is
claim_at lane (Retaining dir plan) base now is = claim_staged lane dir Fills base now is
claim_at lane (Fetching dir plan later) base now is = claim_staged lane dir Fills base now is
claim_at lane (Filling dir plan later) base now is = claim_staged lane dir Fills base now is
claim_at lane (Copying dir plan task from later) base now is = claim_open lane from is.0 now is.2 ∙ claim_staged lane dir Fills base is.0 is.1
claim_at lane (Activating dir sys) base now is = claim_staged lane dir (Sealed sys) base now is
claim_at lane (Closing dir next) base now is = claim_open lane dir is.0 now is.2 ∙ claim_at lane next base is.0 is.1
claim_at lane (Leaving next) base now is = ap (λ (h : Held). h.claim) is.2.1.is ∙ claim_at lane next base is.0 is.1
claim_at lane (Ended reply) base now is = ap (λ (h : Held). h.claim) is.1

pub no_claim : (p : Point) (v : View) → HoldsAt p v → HoldsNoClaim v
no_claim p v at = claim_at v.lane p at.base (held_by v) at.is ∙ at.free

stage_of : (lane : ℕ) (dir : Dir) (phase : Phase) (base now : Held) → IsStaged lane dir phase base now → now.stage ≡ Some phase
stage_of lane dir phase base now is = ap (λ (h : Held). h.stage) is.2.is

pub filling_stage : (dir : Dir) (plan : Plan) (later : List Task) (v : View) → HoldsAt (Filling dir plan later) v → HoldsStage v Fills
filling_stage dir plan later v at = stage_of v.lane dir Fills at.base (held_by v) at.is

pub copying_stage : (dir : Dir) (plan : Plan) (task : Task) (from : Dir) (later : List Task) (v : View) → HoldsAt (Copying dir plan task from later) v → HoldsStage v Fills
copying_stage dir plan task from later v at = ap (λ (h : Held). h.stage) at.is.2.is ∙ stage_of v.lane dir Fills at.base at.is.0 at.is.1

pub sealed_stage : (dir : Dir) (sys : Sys) (v : View) → HoldsAt (Activating dir sys) v → HoldsSealed v
sealed_stage dir sys v at = (sys, stage_of v.lane dir (Sealed sys) at.base (held_by v) at.is)

pub leaving_stage : (next : Point) (v : View) → HoldsAt (Leaving next) v → HoldsAnyStage v
leaving_stage next v at = (at.is.2.0, ap (λ (h : Held). h.stage) at.is.2.1.is)

-- before anything is asked
pub asking_at : (path : NameAndVariant) (pin : Option Root) (v : View) → HoldsNoClaim v → HoldsAt (Asking path pin) v
asking_at path pin v free = record { base = held_by v; free = free; is = refl }

-- ---- a package is resolved

-- what is held after it, where the package's directory comes to what was held, or nothing does
resolved_held : (lane : ℕ) (a : Point) (opened : Dir → Point) (ended : UpdateReply → Point) (reply : ResolveReply) (base old new : Held)
    → ((dir : Dir) (now : Held) → IsHeldAt lane a base old → WithDir lane dir old now → IsHeldAt lane (opened dir) base now)
    → ((r : UpdateReply) → CanCome r → IsHeldAt lane a base old → IsHeldAt lane (ended r) base old)
    → IsHeldAfter lane reply old new → IsHeldAt lane a base old → IsHeldAt lane (after_resolve opened ended reply) base new
resolved_held lane a opened ended (resolved.Resolved dir) base old new more same after is = more dir new is (record { root = after.0; is = after.1 })
resolved_held lane a opened ended resolved.InRecovery base old new more same after is = subst (λ (h : Held). IsHeldAt lane (ended (refusal_of resolved.InRecovery)) base h) (sym after) (same (refusal_of resolved.InRecovery) tt is)
resolved_held lane a opened ended resolved.NotFound base old new more same after is = subst (λ (h : Held). IsHeldAt lane (ended (refusal_of resolved.NotFound)) base h) (sym after) (same (refusal_of resolved.NotFound) tt is)
resolved_held lane a opened ended resolved.ListingFault base old new more same after is = subst (λ (h : Held). IsHeldAt lane (ended (refusal_of resolved.ListingFault)) base h) (sym after) (same (refusal_of resolved.ListingFault) tt is)
resolved_held lane a opened ended (resolved.Failed cause) base old new more same after is = subst (λ (h : Held). IsHeldAt lane (ended (refusal_of (resolved.Failed cause))) base h) (sym after) (same (refusal_of (resolved.Failed cause)) tt is)
resolved_held lane a opened ended resolved.DiskRead base old new more same after is = subst (λ (h : Held). IsHeldAt lane (ended (refusal_of resolved.DiskRead)) base h) (sym after) (same (refusal_of resolved.DiskRead) tt is)
resolved_held lane a opened ended (resolved.Rotten root got) base old new more same after is = subst (λ (h : Held). IsHeldAt lane (ended (refusal_of (resolved.Rotten root got))) base h) (sym after) (same (refusal_of (resolved.Rotten root got)) tt is)
resolved_held lane a opened ended (resolved.Broken number) base old new more same after is = subst (λ (h : Held). IsHeldAt lane (ended (refusal_of (resolved.Broken number))) base h) (sym after) (same (refusal_of (resolved.Broken number)) tt is)
resolved_held lane a opened ended resolved.NoMemory base old new more same after is = subst (λ (h : Held). IsHeldAt lane (ended (refusal_of resolved.NoMemory)) base h) (sym after) (same (refusal_of resolved.NoMemory) tt is)

module _ (path : NameAndVariant) (pin : Option Root) (reply : ResolveReply) (old new : View) (listing listing_now : Option (List Pinned)) (files files_now : Option (List RepoFile)) (x y p q : ℕ) (F G : Type 0)
    (is : Resolved path pin reply old new listing files x y p q) (same_listing : listing_now ≡ listing) (same_files : files_now ≡ files) (firm : F ↔ G) where
  goes_resolve : (a : Point) (opened : Dir → Point) (ended : UpdateReply → Point) → ((leg : List Numbered) (to : Point) → Resolves path pin (after_resolve opened ended) leg to → Follows a leg to)
      → ((base : Held) (dir : Dir) (now : Held) → IsHeldAt old.lane a base (held_by old) → WithDir old.lane dir (held_by old) now → IsHeldAt old.lane (opened dir) base now)
      → ((base : Held) (r : UpdateReply) → CanCome r → IsHeldAt old.lane a base (held_by old) → IsHeldAt old.lane (ended r) base (held_by old))
      → Goes a (after_resolve opened ended reply) old new (told listing files x p) (told listing_now files_now y q) F G
  goes_resolve a opened ended follows more same =
      goes_leg a (after_resolve opened ended reply) is.run old new (told listing files x p) (told listing_now files_now y q) F G
      (follows is.run (after_resolve opened ended reply) (record { reply = reply; serves = is.serves; leads = refl }))
      (does_resolve path pin reply old new listing listing_now files files_now x y p q F G is same_listing same_files firm)
      (λ base at. resolved_held old.lane a opened ended reply base (held_by old) (held_by new) (more base) (same base) is.held at)

  -- the update package
  pub first_goes : Goes (Asking path pin) (after_resolve (λ (dir : Dir). Reading dir NothingRead) Ended reply) old new (told listing files x p) (told listing_now files_now y q) F G
  first_goes =
      goes_resolve (Asking path pin) (λ dir. Reading dir NothingRead) Ended (λ leg to r. r)
      (λ base dir now at with_dir. subst (λ (h : Held). WithDir old.lane dir h now) at with_dir) (λ base r comes at. (comes, at))

  -- a package of the next system
  pub package_goes : (dir : Dir) (plan : Plan) (pinned : Pinned) (later : List Pinned) → path ≡ pinned.path → pin ≡ Some pinned.root
      → Goes (Fetching dir plan (pinned ∷ later)) (after_resolve (λ (from : Dir). Closing from (Fetching dir plan later)) (left dir) reply) old new (told listing files x p) (told listing_now files_now y q) F G
  package_goes dir plan pinned later same_path same_pin =
      goes_resolve (Fetching dir plan (pinned ∷ later)) (λ from. Closing from (Fetching dir plan later)) (left dir)
      (λ leg to r. inl (subst (λ (n : NameAndVariant). Resolves n (Some pinned.root) (after_resolve (λ from. Closing from (Fetching dir plan later)) (left dir)) leg to) same_path
      (subst (λ (o : Option Root). Resolves path o (after_resolve (λ from. Closing from (Fetching dir plan later)) (left dir)) leg to) same_pin r)))
      (λ base from now at with_dir. (held_by old, at, with_dir)) (λ base r comes at. staged_left old.lane dir Fills r base (held_by old) comes at)

  -- the package of an image
  pub image_goes : (dir : Dir) (plan : Plan) (task : Task) (later : List Task) → path ≡ task.image.url.path → pin ≡ task.image.url.pin
      → Goes (Filling dir plan (task ∷ later)) (after_resolve (λ (from : Dir). Copying dir plan task from later) (left dir) reply) old new (told listing files x p) (told listing_now files_now y q) F G
  image_goes dir plan task later same_path same_pin =
      goes_resolve (Filling dir plan (task ∷ later)) (λ from. Copying dir plan task from later) (left dir)
      (λ leg to r. subst (λ (n : NameAndVariant). Resolves n task.image.url.pin (after_resolve (λ from. Copying dir plan task from later) (left dir)) leg to) same_path
      (subst (λ (o : Option Root). Resolves path o (after_resolve (λ from. Copying dir plan task from later) (left dir)) leg to) same_pin r))
      (λ base from now at with_dir. (held_by old, at, with_dir)) (λ base r comes at. staged_left old.lane dir Fills r base (held_by old) comes at)

-- the directory of an image is closed, whatever came of its file
pub image_closed : {A : Type 0} (next : Point) (dir from : Dir) (result : Result A UpdateReply) (v w : View) (r : Told) (F G : Type 0)
    → ((after : Point) → HoldsAt (Closing from after) v → Goes (Closing from after) after v w r r F G) → HoldsAt (or_image_left next dir from result) v
    → Goes (or_image_left next dir from result) (or_left (λ (done : A). next) dir result) v w r r F G
image_closed next dir from (Ok x) v w r F G closes at = closes next at
image_closed next dir from (Err reply) v w r F G closes at = closes (left dir reply) at

-- where a refusal leads
pub refused_at : (opened : Dir → Point) (ended : UpdateReply → Point) (reply : ResolveReply) → ((dir : Dir) → reply ≡ resolved.Resolved dir → ⊥) → after_resolve opened ended reply ≡ ended (refusal_of reply)
refused_at opened ended (resolved.Resolved dir) isnt = absurd (isnt dir refl)
refused_at opened ended resolved.InRecovery isnt = refl
refused_at opened ended resolved.NotFound isnt = refl
refused_at opened ended resolved.ListingFault isnt = refl
refused_at opened ended (resolved.Failed cause) isnt = refl
refused_at opened ended resolved.DiskRead isnt = refl
refused_at opened ended (resolved.Rotten root got) isnt = refl
refused_at opened ended (resolved.Broken number) isnt = refl
refused_at opened ended resolved.NoMemory isnt = refl

-- ---- a whole update

pub whole : (path : NameAndVariant) (pin : Option Root) (reply : UpdateReply) (old new : View) (r s : Told) (F G : Type 0) → Goes (Asking path pin) (Ended reply) old new r s F G → Updates path pin reply old new r s
whole path pin reply old new r s F G h = record {
  stays = h.does.stays;
  agrees = h.does.agrees;
  more = h.does.more;
  seen = h.does.seen;
  run = joined h.legs;
  grows = h.does.mine;
  serves = record { legs = h.legs; whole = refl; leads = h.leads };
  comes = (h.held (held_by old) refl).0;
  held = (h.held (held_by old) refl).1;
  asked = h.does.asked;
  failed = h.does.failed;
  lists = h.does.lists;
  tells = h.does.tells;
  listing = h.does.listing;
  files = h.does.files;
}
