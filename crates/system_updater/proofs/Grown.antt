-- What the lane did, and what its images have, from a wider view.
use Rattle.std.proofs.Common.{◌≡◌, ℕ, ◌+◌, List, [], ◌∷◌, ◌++◌, length, Option, Some, None, Result, Ok, Err, refl, sym, ap, subst, ◌∙◌, append_assoc}
use Rattle.std.specs.Prelude.{IfSome, IfErr}
use Rattle.std.proofs.lemmas.List.{append-nil}
use Rattle.image_layout.specs.declared.ImageKind.{ImageKind}
use Rattle.image_layout.specs.declared.ImageKind.TheVariants as kinds
use Rattle.image_layout.specs.declared.ImageSum.{ImageSum}
use Rattle.image_layout.specs.declared.Sys.{Sys}
use Rattle.image_layout.specs.Sums.{image_sum}
use Rattle.package_url.specs.declared.url.Url.{Url}
use Rattle.update_manifest.specs.declared.image.ImageRef.{ImageRef}
use Rattle.update_manifest.specs.declared.image.Images.{Images}
use Rattle.store_model.specs.declared.events.Event.{Event}
use Rattle.store_model.specs.declared.events.Act.TheVariants as acts
use Rattle.store_model.specs.declared.ends.ReadEnd.TheVariants as reads
use Rattle.store_model.specs.declared.replies.ReadReply.TheVariants as read
use Rattle.store_model.specs.Replies.{Acts, IsRead}
use Rattle.store_model.specs.Desk as desk
use Rattle.store_model.specs.State.{State}
use Rattle.store_model.specs.History.{Origin, Numbered, after}
use Rattle.store_model.specs.Files.{Found, found}
use Rattle.store_model.specs.Files.Found.{NotOpen, NoSuchFile, Inner, Outer}
use Rattle.store_model.specs.declared.replies.Dir.{Dir}
use Rattle.open_tracker.specs.Directories.{root_of}
use Rattle.store_model.specs.Desk.{View, Stays, Kept, OfKept, held_by}
use Rattle.store_model.specs.Desk.Keeping.{Image}
use Rattle.resolver.specs.declared.reply.ResolveReply.{ResolveReply}
use Rattle.resolver.specs.declared.reply.ResolveReply.TheVariants as resolved
use Rattle.resolver.specs.Viewing.{Resolves, IsHeldAfter}
use Rattle.repo_source.specs.declared.file.RepoFile.{RepoFile}
use Rattle.pkg_names.specs.NameAndVariant.{NameAndVariant}
use Rattle.pkg_names.specs.declared.pinned.Pinned.{Pinned}
use Rattle.pkg_names.specs.declared.root.Root.{Root}
use Rattle.system_updater.specs.declared.reply.UpdateReply.{UpdateReply}
use Rattle.system_updater.specs.declared.reply.UpdateReply.TheVariants as replies
use Rattle.system_updater.specs.Plan.{name_of, sum_of, vbmeta_sum}
use Rattle.system_lists.specs.declared.fault.ManifestFile.TheVariants as files
use Rattle.system_lists.specs.declared.fault.ManifestFault.{ManifestFault}
use Rattle.update_manifest.specs.Images.{images_in}
use Rattle.system_updater.specs.declared.manifests.Refusal.{Refusal}
use Rattle.system_updater.specs.declared.manifests.Refusal.TheVariants as refusals
use Rattle.system_updater.specs.Serving.{Point, joined, refusal_of, with_images, judged}
use Rattle.system_updater.specs.Serving.Point.{Staging}
use Rattle.system_updater.specs.Serving.Prior.{PackagesRead}
use Rattle.system_updater.specs.Viewing.{Told}
use Rattle.system_updater.specs.Steps.{Goes, Judges}
use Rattle.system_updater.specs.Filled.{Did, IsSumOf, IsFileOf, IsVbmetaOf, IsImageOf, AreImagesOf, TellsOf, IsEarly, IsFilledBy, IsBytesOf, IsMadeBy, HasBytesOf, HasFileOf, HasVbmetaOf, HaveFilesOf, KeepsOther, ReadsFile, ReadsImages, OrEarly, OrBad, EarlyRefusal, SealsOf, SlotOf, IsJudged}
use Rattle.system_updater.proofs.Closes.{open_there}

-- ---- what was seen and done has grown

pub record Grew (old new : View) : Type 0 where
  pub stays : Stays old new
  pub more : List Event
  pub seen : new.seen ≡ old.seen ++ more
  pub run : List Numbered
  pub mine : new.mine ≡ old.mine ++ run

pub grew_none : (v : View) → Grew v v
grew_none v = record { stays = record { lane = refl; tie = refl; origin = refl }; more = []; seen = sym (append-nil v.seen); run = []; mine = sym (append-nil v.mine) }

pub grew_then : (v w u : View) → Grew v w → Grew w u → Grew v u
grew_then v w u h k = record {
  stays = record { lane = k.stays.lane ∙ h.stays.lane; tie = k.stays.tie ∙ h.stays.tie; origin = k.stays.origin ∙ h.stays.origin };
  more = h.more ++ k.more;
  seen = k.seen ∙ ap (λ (es : List Event). es ++ k.more) h.seen ∙ append_assoc v.seen h.more k.more;
  run = h.run ++ k.run;
  mine = k.mine ∙ ap (λ (es : List Numbered). es ++ k.run) h.mine ∙ append_assoc v.mine h.run k.run;
}

pub grew_goes : (a b : Point) (v w : View) (r s : Told) (F G : Type 0) → Goes a b v w r s F G → Grew v w
grew_goes a b v w r s F G goes = record { stays = goes.does.stays; more = goes.does.more; seen = goes.does.seen; run = joined goes.legs; mine = goes.does.mine }

pub grew_resolve : (path : NameAndVariant) (pin : Option Root) (reply : ResolveReply) (old new : View) (listing : Option (List Pinned)) (files : Option (List RepoFile)) (x y p q : ℕ)
    → Resolves path pin reply old new listing files x y p q → Grew old new
grew_resolve path pin reply old new listing files x y p q is = record { stays = is.stays; more = is.more; seen = is.seen; run = is.run; mine = is.grows }

-- ---- what was done

pub did_here : (v w : View) (P : List Numbered → Type 0) (run : List Numbered) → w.mine ≡ v.mine ++ run → P run → Did v w P
did_here v w P run mine is = record {
  before = [];
  part = run;
  later = [];
  mine = mine ∙ ap (λ (es : List Numbered). es ++ run) (sym (append-nil v.mine)) ∙ sym (append-nil (v.mine ++ [] ++ run));
  is = is;
}

pub did_wider : (u v w z : View) (P : List Numbered → Type 0) → Grew u v → Grew w z → Did v w P → Did u z P
did_wider u v w z P h k did = record {
  before = h.run ++ did.before;
  part = did.part;
  later = did.later ++ k.run;
  mine =
      k.mine ∙ ap (λ (es : List Numbered). es ++ k.run) (did.mine ∙ ap (λ (es : List Numbered). es ++ did.before ++ did.part ++ did.later) h.mine) ∙
      append_assoc (u.mine ++ h.run ++ did.before ++ did.part) did.later k.run ∙
      ap (λ (es : List Numbered). es ++ did.part ++ (did.later ++ k.run)) (append_assoc u.mine h.run did.before);
  is = did.is;
}

-- ---- files

-- at another view
at_stays : (lane lane' : ℕ) (origin origin' : Origin) (P : Origin → ℕ → Type 0) → lane' ≡ lane → origin' ≡ origin → P origin lane → P origin' lane'
at_stays lane lane' origin origin' P same_lane same_origin is = subst (λ (l : ℕ). P origin' l) (sym same_lane) (subst (λ (o : Origin). P o lane) (sym same_origin) is)

sum_firm : (F G : Type 0) (s : State) (place : Found) (sum : ImageSum) → (F → G) → IsSumOf G s place sum → IsSumOf F s place sum
sum_firm F G s NotOpen sum f is = is
sum_firm F G s NoSuchFile sum f is = is
sum_firm F G s (Inner bytes) sum f is = is
sum_firm F G s (Outer root) sum f is = (is.0, λ firm. is.1 (f firm))

pub file_wider : (u v w z : View) (F G : Type 0) (url : Url) (sum : ImageSum) → Grew u v → Grew w z → (F → G) → IsFileOf G v w url sum → IsFileOf F u z url sum
file_wider u v w z F G url sum h k f is = record {
  file = is.file;
  named = is.named;
  from = is.from;
  resolved = did_wider u v w z _ h k is.resolved;
  seen = is.seen;
  later = is.later ++ k.more;
  front = k.seen ∙ ap (λ (es : List Event). es ++ k.more) is.front ∙ append_assoc is.seen is.later k.more;
  is = at_stays w.lane z.lane w.origin z.origin (λ (o : Origin) (l : ℕ). IsSumOf F (after o is.seen) (found (after o is.seen) l is.from.number is.file) sum) k.stays.lane k.stays.origin
      (sum_firm F G (after w.origin is.seen) (found (after w.origin is.seen) w.lane is.from.number is.file) sum f is.is);
}

vbmeta_wider : (u v w z : View) (F G : Type 0) (image : Option ImageRef) (sum : ImageSum) → Grew u v → Grew w z → (F → G) → IsVbmetaOf G v w image sum → IsVbmetaOf F u z image sum
vbmeta_wider u v w z F G None sum h k f is = is
vbmeta_wider u v w z F G (Some image) sum h k f is = file_wider u v w z F G image.url sum h k f is

pub image_wider : (u v w z : View) (F G : Type 0) (images : Images) (kind : ImageKind) (sum : ImageSum) → Grew u v → Grew w z → (F → G) → IsImageOf G v w images kind sum → IsImageOf F u z images kind sum
image_wider u v w z F G images kinds.Zbi sum h k f is = file_wider u v w z F G images.zbi.url sum h k f is
image_wider u v w z F G images kinds.Vbmeta sum h k f is = vbmeta_wider u v w z F G images.vbmeta sum h k f is

pub images_wider : (u v w z : View) (F G : Type 0) (images : Images) → Grew u v → Grew w z → (F → G) → AreImagesOf G v w images → AreImagesOf F u z images
images_wider u v w z F G images h k f is =
    (image_wider u v w z F G images kinds.Zbi (sum_of images.zbi) h k f is.0, image_wider u v w z F G images kinds.Vbmeta (vbmeta_sum images.vbmeta) h k f is.1)

pub tells_wider : (u v w z : View) (F G : Type 0) (images : Images) (reply : UpdateReply) → Grew u v → Grew w z → (F → G) → TellsOf G v w images reply → TellsOf F u z images reply
tells_wider u v w z F G images (replies.Staged slot) h k f is = images_wider u v w z F G images h k f is
tells_wider u v w z F G images (replies.BaseMissing root) h k f is = images_wider u v w z F G images h k f is
tells_wider u v w z F G images (replies.NotASystem why) h k f is = images_wider u v w z F G images h k f is
tells_wider u v w z F G images (replies.Differs kind got) h k f is = image_wider u v w z F G images kind got h k f is
tells_wider u v w z F G images reply h k f is = tt

-- an early reply tells nothing of them
pub tells_early : (F : Type 0) (v w : View) (images : Images) (reply : UpdateReply) → IsEarly reply → TellsOf F v w images reply
tells_early F v w images (replies.Staged slot) is = absurd is
tells_early F v w images (replies.BaseMissing root) is = absurd is
tells_early F v w images (replies.NotASystem why) is = absurd is
tells_early F v w images (replies.Differs kind got) is = absurd is
tells_early F v w images reply is = tt

-- ---- a whole update

pub filled_by : (F : Type 0) (v w : View) (images : Images) (reply : UpdateReply) → Did v w (ReadsImages images) → TellsOf F v w images reply → IsFilledBy F v w reply
filled_by F v w images (replies.Staged slot) did is = (images, did, is)
filled_by F v w images (replies.BaseMissing root) did is = (images, did, is)
filled_by F v w images (replies.NotASystem why) did is = (images, did, is)
filled_by F v w images (replies.Differs kind got) did is = (images, did, is)
filled_by F v w images reply did is = tt

pub filled_early : (F : Type 0) (v w : View) (reply : UpdateReply) → IsEarly reply → IsFilledBy F v w reply
filled_early F v w (replies.Staged slot) is = absurd is
filled_early F v w (replies.BaseMissing root) is = absurd is
filled_early F v w (replies.NotASystem why) is = absurd is
filled_early F v w (replies.Differs kind got) is = absurd is
filled_early F v w reply is = tt

pub filled_wider : (u v w z : View) (F G : Type 0) (reply : UpdateReply) → Grew u v → Grew w z → (F → G) → IsFilledBy G v w reply → IsFilledBy F u z reply
filled_wider u v w z F G (replies.Staged slot) h k f is = (is.0, did_wider u v w z _ h k is.1, tells_wider u v w z F G is.0 (replies.Staged slot) h k f is.2)
filled_wider u v w z F G (replies.BaseMissing root) h k f is = (is.0, did_wider u v w z _ h k is.1, tells_wider u v w z F G is.0 (replies.BaseMissing root) h k f is.2)
filled_wider u v w z F G (replies.NotASystem why) h k f is = (is.0, did_wider u v w z _ h k is.1, tells_wider u v w z F G is.0 (replies.NotASystem why) h k f is.2)
filled_wider u v w z F G (replies.Differs kind got) h k f is = (is.0, did_wider u v w z _ h k is.1, tells_wider u v w z F G is.0 (replies.Differs kind got) h k f is.2)
filled_wider u v w z F G reply h k f is = tt

-- a desk that is firm wherever this is so
pub filled_firm : (v w : View) (F G : Type 0) (reply : UpdateReply) → (F → G) → IsFilledBy G v w reply → IsFilledBy F v w reply
filled_firm v w F G reply f is = filled_wider v v w w F G reply (grew_none v) (grew_none w) f is

-- a resolve that was refused
pub early_refusal : (reply : ResolveReply) → IsEarly (refusal_of reply)
early_refusal resolved.NoMemory = tt
early_refusal reply = tt

-- ---- by result

pub or_early : {A : Type 0} (P Q : A → Type 0) (result : Result A UpdateReply) → ((x : A) → P x → Q x) → OrEarly P result → OrEarly Q result
or_early P Q (Ok x) f is = f x is
or_early P Q (Err reply) f is = is

-- ---- bytes

made_wider : (kept kept' : Kept) (kind : ImageKind) (place : Found) → ((bytes : List ℕ) → kept (Image kind) bytes → kept' (Image kind) bytes) → IsMadeBy kept kind place → IsMadeBy kept' kind place
made_wider kept kept' kind NotOpen keeps is = tt
made_wider kept kept' kind NoSuchFile keeps is = tt
made_wider kept kept' kind (Inner bytes) keeps is = tt
made_wider kept kept' kind (Outer root) keeps is = (is.0, keeps is.0 is.1, is.2)

pub bytes_wider : (w z : View) (F G : Type 0) (kept kept' : Kept) (kind : ImageKind) (dir : ℕ) (file : List ℕ) → Grew w z → (F → G) → ((bytes : List ℕ) → kept (Image kind) bytes → kept' (Image kind) bytes)
    → HasBytesOf G kept w kind dir file → HasBytesOf F kept' z kind dir file
bytes_wider w z F G kept kept' kind dir file k f keeps is = record {
  seen = is.seen;
  later = is.later ++ k.more;
  front = k.seen ∙ ap (λ (es : List Event). es ++ k.more) is.front ∙ append_assoc is.seen is.later k.more;
  bytes = is.bytes;
  there = keeps is.bytes is.there;
  is = at_stays w.lane z.lane w.origin z.origin (λ (o : Origin) (l : ℕ). IsBytesOf (after o is.seen) (found (after o is.seen) l dir file) is.bytes) k.stays.lane k.stays.origin is.is;
  made = λ firm. at_stays w.lane z.lane w.origin z.origin (λ (o : Origin) (l : ℕ). IsMadeBy kept' kind (found (after o is.seen) l dir file)) k.stays.lane k.stays.origin
      (made_wider kept kept' kind (found (after w.origin is.seen) w.lane dir file) keeps (is.made (f firm)));
}

pub has_wider : (u v w z : View) (F G : Type 0) (kept kept' : Kept) (kind : ImageKind) (url : Url) → Grew u v → Grew w z → (F → G) → ((bytes : List ℕ) → kept (Image kind) bytes → kept' (Image kind) bytes)
    → HasFileOf G kept v w kind url → HasFileOf F kept' u z kind url
has_wider u v w z F G kept kept' kind url h k f keeps is = record {
  file = is.file;
  named = is.named;
  from = is.from;
  resolved = did_wider u v w z _ h k is.resolved;
  is = bytes_wider w z F G kept kept' kind is.from.number is.file k f keeps is.is;
}

-- ---- sealed

sum_by : (F : Type 0) (kept : Kept) (s : State) (place : Found) (kind : ImageKind) (bytes : List ℕ) (sum : ImageSum) → kept (Image kind) bytes → IsBytesOf s place bytes → (F → IsMadeBy kept kind place)
    → OfKept kept (Image kind) (λ (b : List ℕ). image_sum b ≡ sum) → IsSumOf F s place sum
sum_by F kept s NotOpen kind bytes sum there is made sums = is
sum_by F kept s NoSuchFile kind bytes sum there is made sums = is
sum_by F kept s (Inner all) kind bytes sum there is made sums = ap image_sum (sym is) ∙ sums bytes there
sum_by F kept s (Outer root) kind bytes sum there is made sums = (
  is ∙ ap (λ (x : ImageSum). Some x.len) (sums bytes there),
  λ firm. let m = made firm in (m.0, m.2, sums m.0 m.1),
)

pub file_sealed : (F : Type 0) (kept : Kept) (v w : View) (kind : ImageKind) (url : Url) (sum : ImageSum) → HasFileOf F kept v w kind url → OfKept kept (Image kind) (λ (b : List ℕ). image_sum b ≡ sum) → IsFileOf F v w url sum
file_sealed F kept v w kind url sum has sums = record {
  file = has.file;
  named = has.named;
  from = has.from;
  resolved = has.resolved;
  seen = has.is.seen;
  later = has.is.later;
  front = has.is.front;
  is = sum_by F kept (after w.origin has.is.seen) (found (after w.origin has.is.seen) w.lane has.from.number has.file) kind has.is.bytes sum has.is.there has.is.is has.is.made sums;
}

vbmeta_sealed : (F : Type 0) (kept : Kept) (v w : View) (image : Option ImageRef) (sum : ImageSum) → HasVbmetaOf F kept v w image → OfKept kept (Image kinds.Vbmeta) (λ (b : List ℕ). image_sum b ≡ sum)
    → IsVbmetaOf F v w image sum
vbmeta_sealed F kept v w None sum has sums = sym (sums [] has)
vbmeta_sealed F kept v w (Some image) sum has sums = file_sealed F kept v w kinds.Vbmeta image.url sum has sums

image_sealed : (F : Type 0) (kept : Kept) (v w : View) (images : Images) (kind : ImageKind) (sum : ImageSum) → HaveFilesOf F kept v w images → OfKept kept (Image kind) (λ (b : List ℕ). image_sum b ≡ sum) → IsImageOf F v w images kind sum
image_sealed F kept v w images kinds.Zbi sum has sums = file_sealed F kept v w kinds.Zbi images.zbi.url sum has.0 sums
image_sealed F kept v w images kinds.Vbmeta sum has sums = vbmeta_sealed F kept v w images.vbmeta sum has.1 sums

with_sum : (kept : Kept) (kind : ImageKind) (a b : ImageSum) → a ≡ b → OfKept kept (Image kind) (λ (bytes : List ℕ). image_sum bytes ≡ a) → OfKept kept (Image kind) (λ (bytes : List ℕ). image_sum bytes ≡ b)
with_sum kept kind a b same sums = λ bytes there. sums bytes there ∙ same

pub slot_sealed : {A : Type 0} (F : Type 0) (kept : Kept) (v w z : View) (images : Images) (sys : Sys) (result : Result A UpdateReply) → sys.zbi ≡ sum_of images.zbi → sys.vbmeta ≡ vbmeta_sum images.vbmeta
    → HaveFilesOf F kept v w images → Grew w z → SealsOf kept sys result → SlotOf F v z images result
slot_sealed F kept v w z images sys (Ok done) zbi vbmeta has k seals =
    images_wider v v w z F F images (grew_none v) k (λ firm. firm) (
      image_sealed F kept v w images kinds.Zbi (sum_of images.zbi) has (with_sum kept kinds.Zbi sys.zbi (sum_of images.zbi) zbi seals.0),
      image_sealed F kept v w images kinds.Vbmeta (vbmeta_sum images.vbmeta) has (with_sum kept kinds.Vbmeta sys.vbmeta (vbmeta_sum images.vbmeta) vbmeta seals.1),
    )
slot_sealed F kept v w z images sys (Err (replies.Differs kind got)) zbi vbmeta has k seals =
    image_wider v v w z F F images kind got (grew_none v) k (λ firm. firm) (image_sealed F kept v w images kind got has seals)
slot_sealed F kept v w z images sys (Err reply) zbi vbmeta has k seals = tells_early F v z images reply seals

-- behind the parts that came before
pub last_part : {A : Type 0} (F G : Type 0) (first before after : Kept) (v : View) (kind : ImageKind) (dir : ℕ) (file : List ℕ) (result : Result A UpdateReply) → (F → G) → KeepsOther kind first before
    → OrEarly (λ done. HasBytesOf G after v kind dir file × KeepsOther kind before after) result → OrEarly (λ done. HasBytesOf F after v kind dir file × KeepsOther kind first after) result
last_part F G first before after v kind dir file (Ok x) f keeps is =
    (bytes_wider v v F G after after kind dir file (grew_none v) f (λ bytes there. there) is.0, λ other bytes isnt there. is.1 other bytes isnt (keeps other bytes isnt there))
last_part F G first before after v kind dir file (Err reply) f keeps is = is

-- the file of a URL
pub named_part : {A : Type 0} (F : Type 0) (before after : Kept) (v : View) (kind : ImageKind) (dir : ℕ) (file : Option (List ℕ)) (name : List ℕ) (result : Result A UpdateReply) → file ≡ Some name
    → OrEarly (λ done. HasBytesOf F after v kind dir name × KeepsOther kind before after) result
    → OrEarly (λ done. (n : List ℕ) × (file ≡ Some n) × HasBytesOf F after v kind dir n × KeepsOther kind before after) result
named_part F before after v kind dir file name (Ok x) named is = (name, named, is.0, is.1)
named_part F before after v kind dir file name (Err reply) named is = is

pub early_err : {A : Type 0} (P : A → Type 0) (reply : UpdateReply) (result : Result A UpdateReply) → Err reply ≡ result → IsEarly reply → OrEarly P result
early_err P reply (Ok x) same is = absurd (cc same)
early_err P reply (Err other) same is = subst (λ (r : UpdateReply). IsEarly r) (cc same) is

pub slot_early : {A : Type 0} (F : Type 0) (v z : View) (images : Images) (reply : UpdateReply) (result : Result A UpdateReply) → Err reply ≡ result → IsEarly reply → SlotOf F v z images result
slot_early F v z images reply (Ok x) same is = absurd (cc same)
slot_early F v z images reply (Err other) same is = tells_early F v z images other (subst (λ (r : UpdateReply). IsEarly r) (cc same) is)

pub have_wider : (u v w : View) (F G : Type 0) (kept : Kept) (images : Images) → Grew u v → (F → G) → HaveFilesOf G kept v w images → HaveFilesOf F kept u w images
have_wider u v w F G kept images h f has = (
  has_wider u v w w F G kept kept kinds.Zbi images.zbi.url h (grew_none w) f (λ bytes there. there) has.0,
  vbmeta images.vbmeta has.1,
) where
  vbmeta : (image : Option ImageRef) → HasVbmetaOf G kept v w image → HasVbmetaOf F kept u w image
  vbmeta None is = is
  vbmeta (Some image) is = has_wider u v w w F G kept kept kinds.Vbmeta image.url h (grew_none w) f (λ bytes there. there) is

pub with_vbmeta : (F : Type 0) (kept : Kept) (v w : View) (vbmeta : Option ImageRef) (image : ImageRef) → vbmeta ≡ Some image → HasFileOf F kept v w kinds.Vbmeta image.url
    → HasVbmetaOf F kept v w vbmeta
with_vbmeta F kept v w vbmeta image is has = subst (HasVbmetaOf F kept v w) (sym is) has

pub without_vbmeta : (F : Type 0) (kept : Kept) (v w : View) (vbmeta : Option ImageRef) → vbmeta ≡ None → kept (Image kinds.Vbmeta) [] → HasVbmetaOf F kept v w vbmeta
without_vbmeta F kept v w vbmeta is empty = subst (HasVbmetaOf F kept v w) (sym is) empty

-- behind a seal no image differs
pub tells_judged : (F : Type 0) (v w z : View) (images : Images) (reply : UpdateReply) → IsJudged reply → Grew w z → AreImagesOf F v w images → TellsOf F v z images reply
tells_judged F v w z images (replies.Staged slot) judged k is = images_wider v v w z F F images (grew_none v) k (λ firm. firm) is
tells_judged F v w z images (replies.BaseMissing root) judged k is = images_wider v v w z F F images (grew_none v) k (λ firm. firm) is
tells_judged F v w z images (replies.NotASystem why) judged k is = images_wider v v w z F F images (grew_none v) k (λ firm. firm) is
tells_judged F v w z images (replies.Differs kind got) judged k is = absurd judged
tells_judged F v w z images reply judged k is = tt

-- the package that was resolved is open
pub opened_by : (from : Dir) (old new : View) → IsHeldAfter old.lane (resolved.Resolved from) (held_by old) (held_by new) → new.lane ≡ old.lane → (root : Root) × (root_of (held_by new).dirs from.number new.lane ≡ Some root)
opened_by from old new held lane =
    let there = open_there old.lane from (held_by old) (held_by new) (record { root = held.0; is = held.1 }) in
    (there.0, ap (λ (l : ℕ). root_of (held_by new).dirs from.number l) lane ∙ there.1)

-- ---- manifests

pub did_read : (dir : ℕ) (name path bytes : List ℕ) (old new : View) → path ≡ name → desk.Does old new (IsRead dir path (read.Got bytes)) → Did old new (ReadsFile name bytes)
did_read dir name path bytes old new same does =
    let e : Numbered = record { number = length (old.seen ++ does.others) + 1; event = does.event } in
    did_here old new (ReadsFile name bytes) (e ∷ []) does.mine (e, refl, (dir, subst (λ (p : List ℕ). Acts (acts.Read dir p (reads.Got bytes)) does.event) same does.its))

-- want of memory is early
pub judges_early : {A : Type 0} (next : A → Point) (dir : Dir) (result : Result A Refusal) (point : Point) → Judges next dir result point → IfErr result EarlyRefusal
judges_early next dir (Ok x) point is = tt
judges_early next dir (Err (refusals.Bad file why)) point is = tt
judges_early next dir (Err (refusals.Ended reply)) point is = subst (λ (r : UpdateReply). IsEarly r) (sym is) tt

abbrev images_or : Images → Point → Images
images_or other (Staging dir plan) = plan.images
images_or other point = other

images_are : (dir : Dir) (found : Result Images ManifestFault) (images : Images) → with_images dir 0 [] found ≡ Staging dir (record { epoch = 0; packages = []; images = images }) → found ≡ Ok images
images_are dir (Ok x) images is = ap Ok (ap (images_or x) is)
images_are dir (Err why) images is = absurd (cc is)

-- what was read of images.json was judged
pub images_read : (v w : View) (dir : Dir) (found : Option (List ℕ)) (result : Result Images Refusal) → IfSome found (λ (bytes : List ℕ). Did v w (ReadsFile (name_of files.Images) bytes))
    → Judges (λ (images : Images). Staging dir (record { epoch = 0; packages = []; images = images })) dir result (judged dir (PackagesRead 0 []) found) → OrBad (λ (images : Images). Did v w (ReadsImages images)) result
images_read v w dir None (Ok images) did is = absurd (cc is)
images_read v w dir (Some bytes) (Ok images) did is = record {
  before = did.before;
  part = did.part;
  later = did.later;
  mine = did.mine;
  is = (bytes, did.is, images_are dir (images_in bytes) images is);
}
images_read v w dir found (Err (refusals.Bad file why)) did is = tt
images_read v w dir found (Err (refusals.Ended reply)) did is = subst (λ (r : UpdateReply). IsEarly r) (sym is) tt
