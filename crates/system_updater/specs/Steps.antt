-- What the steps of an update come to. These definitions serve its proof; no public clause cites them.
use Rattle.std.specs.Prelude.{◌≡◌, List, Result, Ok, Err}
use Rattle.pkg_names.specs.declared.pinned.Pinned.{Pinned}
use Rattle.system_lists.specs.declared.fault.ManifestFile.{ManifestFile}
use Rattle.system_lists.specs.declared.fault.ManifestFault.{ManifestFault}
use Rattle.system_lists.specs.declared.fault.ManifestFault.TheVariants as faults
use Rattle.store_model.specs.declared.replies.Dir.{Dir}
use Rattle.store_model.specs.declared.replies.CopyReply.{CopyReply}
use Rattle.store_model.specs.declared.replies.CopyReply.TheVariants as copy
use Rattle.store_model.specs.History.{Numbered}
use Rattle.store_model.specs.Holding.{Held}
use Rattle.store_model.specs.Desk.{View, held_by}
use Rattle.system_updater.specs.declared.manifests.Refusal.{Refusal}
use Rattle.system_updater.specs.declared.manifests.Refusal.TheVariants as refusals
use Rattle.system_updater.specs.declared.plan.Plan.{Plan}
use Rattle.system_updater.specs.Plan.{Task}
use Rattle.system_updater.specs.declared.images.Part.{Part}
use Rattle.system_updater.specs.declared.images.Part.TheVariants as parts
use Rattle.system_updater.specs.declared.reply.UpdateReply.{UpdateReply}
use Rattle.system_updater.specs.declared.reply.UpdateReply.TheVariants as replies
use Rattle.system_updater.specs.Serving.{Point, closed, left, image_left, Leads, joined}
use Rattle.system_updater.specs.Serving.Point.{Rejecting, Staging, Retaining, Fetching, Filling, Closing}
use Rattle.system_updater.specs.Holding.{IsHeldAt, HoldsAt}
use Rattle.system_updater.specs.Viewing.{Told, Does}

-- The lane's events led from one point to the other, and it holds what is held there.
pub record Goes (from to : Point) (old new : View) (repo repo_now : Told) (Before After : Type 0) : Type 0 where
  pub legs : List (List Numbered)
  pub leads : Leads from legs to
  pub does : Does (joined legs) old new repo repo_now Before After
  pub held : (base : Held) → IsHeldAt old.lane from base (held_by old) → IsHeldAt old.lane to base (held_by new)

-- ---- where a function begins

abbrev pub IsStaging : Plan → View → Type 0
IsStaging plan v = (dir : Dir) × HoldsAt (Staging dir plan) v

abbrev pub IsRetaining : Plan → View → Type 0
IsRetaining plan v = (dir : Dir) × HoldsAt (Retaining dir plan) v

abbrev pub IsFetching : List Pinned → View → Type 0
IsFetching packages v = (dir : Dir) × (plan : Plan) × HoldsAt (Fetching dir plan packages) v

abbrev pub IsFilling : List Task → View → Type 0
IsFilling tasks v = (dir : Dir) × (plan : Plan) × HoldsAt (Filling dir plan tasks) v

-- ---- where a step leads

-- where a refusal is still to be told
abbrev pub at_refusal : Dir → Refusal → Point
at_refusal dir (refusals.Bad file why) = Rejecting dir file why
at_refusal dir (refusals.Ended reply) = closed dir reply

abbrev pub or_refused : {A : Type 0} → (A → Point) → Dir → Result A Refusal → Point
or_refused next dir (Ok x) = next x
or_refused next dir (Err refusal) = at_refusal dir refusal

abbrev pub or_closed : {A : Type 0} → (A → Point) → Dir → Result A UpdateReply → Point
or_closed next dir (Ok x) = next x
or_closed next dir (Err reply) = closed dir reply

abbrev pub or_left : {A : Type 0} → (A → Point) → Dir → Result A UpdateReply → Point
or_left next dir (Ok x) = next x
or_left next dir (Err reply) = left dir reply

-- an image whose directory is still open
abbrev pub or_image_left : {A : Type 0} → Point → Dir → Dir → Result A UpdateReply → Point
or_image_left next dir from (Ok x) = Closing from next
or_image_left next dir from (Err reply) = image_left dir from reply

abbrev pub after_part : Point → Point → Dir → Dir → Part → Point
after_part here next dir from parts.More = here
after_part here next dir from (parts.Last result) = or_image_left next dir from result

-- no part was copied
abbrev pub IsRefusal : CopyReply → Type 0
IsRefusal (copy.More have) = ⊥
IsRefusal (copy.Whole len) = ⊥
IsRefusal reply = Unit {0}

-- ---- judging

-- what was read leads there, or memory is short
abbrev pub Judges : {A : Type 0} → (A → Point) → Dir → Result A Refusal → Point → Type 0
Judges next dir (Ok x) point = point ≡ next x
Judges next dir (Err (refusals.Bad file why)) point = point ≡ Rejecting dir file why
Judges next dir (Err (refusals.Ended reply)) point = reply ≡ replies.NoMemory

abbrev pub refusal_with : ManifestFile → ManifestFault → Refusal
refusal_with file faults.NoMemory = refusals.Ended replies.NoMemory
refusal_with file why = refusals.Bad file why
