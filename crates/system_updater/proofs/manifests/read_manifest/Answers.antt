use Rattle.std.proofs.Common.{◌≡◌, inr, sym, ap, subst, ◌∙◌, refl, List, ℕ, Option, Some, None, Ok, Err, Result}
use Rattle.std.specs.Prelude.{◌↔◌}
use Rattle.system_lists.specs.declared.fault.ManifestFile.{ManifestFile}
use Rattle.system_lists.specs.declared.fault.ManifestFault.TheVariants as faults
use Rattle.store_model.specs.declared.replies.ReadReply.{ReadReply}
use Rattle.store_model.specs.declared.replies.ReadReply.TheVariants as read
use Rattle.store_model.specs.declared.replies.Dir.{Dir}
use Rattle.store_model.specs.Desk.{View}
use Rattle.store_model.specs.Calls.{Reads}
use Rattle.system_updater.specs.declared.manifests.Refusal.{Refusal}
use Rattle.system_updater.specs.declared.manifests.Refusal.TheVariants as refusals
use Rattle.system_updater.specs.declared.reply.UpdateReply.TheVariants as replies
use Rattle.system_updater.specs.Plan.{name_of}
use Rattle.system_updater.specs.Serving.{Point, Prior, next_file, closed, judged, after_read}
use Rattle.system_updater.specs.Serving.Point.{Reading}
use Rattle.system_updater.specs.Viewing.{Told}
use Rattle.system_updater.specs.Steps.{Goes, or_refused}
use Rattle.system_updater.proofs.Goes.{goes_pass}
use Rattle.system_updater.proofs.Places.{open_closed}
use Rattle.system_updater.proofs.Desks.{read_goes}
use Rattle.system_updater.proofs.Grown.{did_read}
use Rattle.system_updater.proofs.manifests.read_manifest.Goals as goal

-- what is answered for a reply
abbrev answer : ManifestFile → ReadReply → Result (Option (List ℕ)) Refusal
answer file (read.Got bytes) = Ok (Some bytes)
answer file read.NoFile = Ok None
answer file (read.TooLong len) = Err (refusals.Bad file (faults.TooLong len))
answer file read.BadDir = Err (refusals.Ended replies.BadDir)
answer file read.DiskRead = Err (refusals.Ended replies.DiskRead)
answer file (read.Rotten root got) = Err (refusals.Ended (replies.Rotten root got))
answer file (read.Broken number) = Err (refusals.Ended (replies.Broken number))
answer file read.NoMemory = Err (refusals.Ended replies.NoMemory)

same_point : (dir : Dir) (prior : Prior) (reply : ReadReply) → after_read dir prior reply ≡ or_refused (judged dir prior) dir (answer (next_file prior) reply)
same_point dir prior (read.Got bytes) = refl
same_point dir prior read.NoFile = refl
same_point dir prior (read.TooLong len) = refl
same_point dir prior read.BadDir = refl
same_point dir prior read.DiskRead = refl
same_point dir prior (read.Rotten root got) = refl
same_point dir prior (read.Broken number) = refl
same_point dir prior read.NoMemory = refl

answered : (dir : Dir) (file : ManifestFile) (name path : List ℕ) (reply : ReadReply) (old new : View) (F G : Type 0) → path ≡ name → name ≡ name_of file → Reads dir.number path reply old new → F ↔ G
    → (prior : Prior) (repo : Told) → next_file prior ≡ file → Goes (Reading dir prior) (or_refused (judged dir prior) dir (answer file reply)) old new repo repo F G
answered dir file name path reply old new F G same named does firm prior repo is =
    let path_is : path ≡ name_of (next_file prior) = same ∙ named ∙ ap name_of (sym is) in
    let does_that : Reads dir.number (name_of (next_file prior)) reply old new = subst (λ (p : List ℕ). Reads dir.number p reply old new) path_is does in
    subst (λ (f : ManifestFile). Goes (Reading dir prior) (or_refused (judged dir prior) dir (answer f reply)) old new repo repo F G) is
    (subst (λ (p : Point). Goes (Reading dir prior) p old new repo repo F G) (same_point dir prior reply) (read_goes dir prior old new repo F G reply does_that firm))

pub returns-in_default-clause-goes : goal.returns-in_default-clause-goes
returns-in_default-clause-goes g c = λ prior repo is.
    goes_pass (Reading c.args.dir prior) (closed c.args.dir replies.NoMemory) (g.K.Desk.view c.args.desk.now) repo (g.K.Desk.firm c.args.desk.now) (inr (refl, refl)) (λ base h. open_closed _ c.args.dir replies.NoMemory base _ tt h)

pub returns-in-Got-clause-goes : goal.returns-in-Got-clause-goes
returns-in-Got-clause-goes g c =
    answered c.args.dir c.args.file c.name_of.result.now c.in-Ok.path (read.Got c.in-Got.bytes) (g.K.Desk.view c.args.desk.now) (g.K.Desk.view c.read.new.self) (g.K.Desk.firm c.args.desk.now) (g.K.Desk.firm c.read.new.self)
    c.in-Ok.ensures.found c.name_of.ensures c.in-Got.ensures.event c.in-Got.ensures.firm

pub returns-in-NoFile-clause-goes : goal.returns-in-NoFile-clause-goes
returns-in-NoFile-clause-goes g c =
    answered c.args.dir c.args.file c.name_of.result.now c.in-Ok.path read.NoFile (g.K.Desk.view c.args.desk.now) (g.K.Desk.view c.read.new.self) (g.K.Desk.firm c.args.desk.now) (g.K.Desk.firm c.read.new.self)
    c.in-Ok.ensures.found c.name_of.ensures c.in-NoFile.ensures.event c.in-NoFile.ensures.firm

pub returns-in-TooLong-clause-goes : goal.returns-in-TooLong-clause-goes
returns-in-TooLong-clause-goes g c =
    answered c.args.dir c.args.file c.name_of.result.now c.in-Ok.path (read.TooLong c.in-TooLong.len) (g.K.Desk.view c.args.desk.now) (g.K.Desk.view c.read.new.self) (g.K.Desk.firm c.args.desk.now) (g.K.Desk.firm c.read.new.self)
    c.in-Ok.ensures.found c.name_of.ensures c.in-TooLong.ensures.event c.in-TooLong.ensures.firm

pub returns-in-BadDir-clause-goes : goal.returns-in-BadDir-clause-goes
returns-in-BadDir-clause-goes g c =
    answered c.args.dir c.args.file c.name_of.result.now c.in-Ok.path read.BadDir (g.K.Desk.view c.args.desk.now) (g.K.Desk.view c.read.new.self) (g.K.Desk.firm c.args.desk.now) (g.K.Desk.firm c.read.new.self)
    c.in-Ok.ensures.found c.name_of.ensures c.in-BadDir.ensures.event c.in-BadDir.ensures.firm

pub returns-in-DiskRead-clause-goes : goal.returns-in-DiskRead-clause-goes
returns-in-DiskRead-clause-goes g c =
    answered c.args.dir c.args.file c.name_of.result.now c.in-Ok.path read.DiskRead (g.K.Desk.view c.args.desk.now) (g.K.Desk.view c.read.new.self) (g.K.Desk.firm c.args.desk.now) (g.K.Desk.firm c.read.new.self)
    c.in-Ok.ensures.found c.name_of.ensures c.in-DiskRead.ensures.event c.in-DiskRead.ensures.firm

pub returns-in-Rotten-clause-goes : goal.returns-in-Rotten-clause-goes
returns-in-Rotten-clause-goes g c =
    answered c.args.dir c.args.file c.name_of.result.now c.in-Ok.path (read.Rotten c.in-Rotten.root c.in-Rotten.got) (g.K.Desk.view c.args.desk.now) (g.K.Desk.view c.read.new.self) (g.K.Desk.firm c.args.desk.now) (g.K.Desk.firm c.read.new.self)
    c.in-Ok.ensures.found c.name_of.ensures c.in-Rotten.ensures.event c.in-Rotten.ensures.firm

pub returns-in-Broken-clause-goes : goal.returns-in-Broken-clause-goes
returns-in-Broken-clause-goes g c =
    answered c.args.dir c.args.file c.name_of.result.now c.in-Ok.path (read.Broken c.in-Broken.number) (g.K.Desk.view c.args.desk.now) (g.K.Desk.view c.read.new.self) (g.K.Desk.firm c.args.desk.now) (g.K.Desk.firm c.read.new.self)
    c.in-Ok.ensures.found c.name_of.ensures c.in-Broken.ensures.event c.in-Broken.ensures.firm

pub returns-clause-goes : goal.returns-clause-goes
returns-clause-goes g c =
    answered c.args.dir c.args.file c.name_of.result.now c.in-Ok.path read.NoMemory (g.K.Desk.view c.args.desk.now) (g.K.Desk.view c.read.new.self) (g.K.Desk.firm c.args.desk.now) (g.K.Desk.firm c.read.new.self)
    c.in-Ok.ensures.found c.name_of.ensures c.in-NoMemory.ensures.event c.in-NoMemory.ensures.firm

pub returns-in-Got-clause-images : goal.returns-in-Got-clause-images
returns-in-Got-clause-images g c = did_read c.args.dir.number (name_of c.args.file) c.in-Ok.path c.in-Got.bytes (g.K.Desk.view c.args.desk.now) (g.K.Desk.view c.read.new.self) (c.in-Ok.ensures.found ∙ c.name_of.ensures) c.in-Got.ensures.event
