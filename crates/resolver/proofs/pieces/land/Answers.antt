use Rattle.std.proofs.Common.{ap, subst, ◌∙◌}
use Rattle.store_model.specs.declared.ends.Miss.TheVariants as misses
use Rattle.store_model.specs.declared.replies.Claim.{Claim}
use Rattle.store_model.specs.declared.replies.LandReply.TheVariants as land
use Rattle.store_model.specs.HeldAfter.{without_claim}
use Rattle.store_model.specs.Desk.{Does}
use Rattle.store_model.specs.Replies.{IsMissed}
use Rattle.store_model.specs.Calls.{room_by}
use Rattle.store_model.proofs.CallsHeld.{landed, missed}
use Rattle.resolver.specs.declared.reply.ResolveReply.TheVariants as replies
use Rattle.resolver.specs.Serving.Point.{Roomy, Giving}
use Rattle.repo_source.proofs.Faults.{failed_same}
use Rattle.resolver.proofs.Goes.{goes_then}
use Rattle.resolver.proofs.Desks.{land_goes, roomy_misses}
use Rattle.resolver.proofs.Handles.{claim_stays, room_held}
use Rattle.resolver.proofs.pieces.land.Goals as goal

pub returns-in-Landed-clause-goes : goal.returns-in-Landed-clause-goes
returns-in-Landed-clause-goes g c = λ t listing files faults filled.
    land_goes listing files faults t c.args.claim land.Landed (g.K.Desk.kept c.args.desk.now) (g.K.Desk.kept c.land.new.self) (g.K.Desk.view c.args.desk.now) (g.K.Desk.view c.land.new.self)
    c.in-Landed.ensures.event c.in-Landed.ensures.kept c.in-Landed.ensures.fillers filled

pub returns-in-Landed-clause-held : goal.returns-in-Landed-clause-held
returns-in-Landed-clause-held g c = landed c.args.claim (g.K.Desk.kept c.args.desk.now) land.Landed _ _ c.in-Landed.ensures.event

pub returns-in-Ended-clause-goes : goal.returns-in-Ended-clause-goes
returns-in-Ended-clause-goes g c = λ t listing files faults filled.
    land_goes listing files faults t c.args.claim (land.Ended c.in-Ended.field-0) (g.K.Desk.kept c.args.desk.now) (g.K.Desk.kept c.land.new.self) (g.K.Desk.view c.args.desk.now) (g.K.Desk.view c.land.new.self)
    c.in-Ended.ensures.event c.in-Ended.ensures.kept c.in-Ended.ensures.fillers filled

pub returns-in-Ended-clause-held : goal.returns-in-Ended-clause-held
returns-in-Ended-clause-held g c = landed c.args.claim (g.K.Desk.kept c.args.desk.now) (land.Ended c.in-Ended.field-0) _ _ c.in-Ended.ensures.event

pub returns-in-Broken-clause-goes : goal.returns-in-Broken-clause-goes
returns-in-Broken-clause-goes g c = λ t listing files faults filled.
    land_goes listing files faults t c.args.claim (land.Broken c.in-Broken.number) (g.K.Desk.kept c.args.desk.now) (g.K.Desk.kept c.land.new.self) (g.K.Desk.view c.args.desk.now) (g.K.Desk.view c.land.new.self)
    c.in-Broken.ensures.event c.in-Broken.ensures.kept c.in-Broken.ensures.fillers filled

pub returns-in-Broken-clause-held : goal.returns-in-Broken-clause-held
returns-in-Broken-clause-held g c = landed c.args.claim (g.K.Desk.kept c.args.desk.now) (land.Broken c.in-Broken.number) _ _ c.in-Broken.ensures.event

pub miss-requires : goal.miss-requires
miss-requires g c = record {
  holds = claim_stays (g.K.Desk.view c.args.desk.now) (g.K.Desk.view c.land.new.self) c.in-NoMemory.claim c.args.claim
      (landed c.args.claim (g.K.Desk.kept c.args.desk.now) (land.NoMemory c.in-NoMemory.claim) _ _ c.in-NoMemory.ensures.event) c.in-NoMemory.ensures.event.1
      (room_held (g.K.Desk.view c.args.desk.now) c.args.claim.root c.requires);
}

pub returns-in-NoMemory-clause-goes : goal.returns-in-NoMemory-clause-goes
returns-in-NoMemory-clause-goes g c = λ t listing files faults filled.
    let old = g.K.Desk.view c.args.desk.now in
    let mid = g.K.Desk.view c.land.new.self in
    let new = g.K.Desk.view c.miss.new.self in
    let root = c.args.claim.root in
    let missing : Does mid new (IsMissed root misses.Memory) = subst (λ (k : Claim). Does mid new (IsMissed k.root misses.Memory)) c.in-NoMemory.ensures.event.1 c.miss.ensures.event in
    goes_then 0 0 (Roomy t root (room_by old)) (Roomy t root (room_by old)) (Giving t replies.NoMemory) old mid new listing files faults faults faults
    (land_goes listing files faults t c.args.claim (land.NoMemory c.in-NoMemory.claim) (g.K.Desk.kept c.args.desk.now) (g.K.Desk.kept c.land.new.self) old mid
    c.in-NoMemory.ensures.event c.in-NoMemory.ensures.kept c.in-NoMemory.ensures.fillers filled)
    (roomy_misses listing files faults faults t root (room_by old) misses.Memory mid new missing c.miss.ensures.fillers (failed_same faults) (λ all told. tt))

pub returns-in-NoMemory-clause-held : goal.returns-in-NoMemory-clause-held
returns-in-NoMemory-clause-held g c =
    missed c.in-NoMemory.claim.root misses.Memory _ _ c.miss.ensures.event ∙ ap without_claim (landed c.args.claim (g.K.Desk.kept c.args.desk.now) (land.NoMemory c.in-NoMemory.claim) _ _ c.in-NoMemory.ensures.event)
