use Rattle.std.proofs.Common.{[], sym, ap, subst, ◌∙◌}
use Rattle.store_model.specs.declared.ends.Miss.TheVariants as misses
use Rattle.store_model.specs.declared.replies.Claim.{Claim}
use Rattle.store_model.specs.declared.replies.RoomReply.TheVariants as room
use Rattle.store_model.specs.HeldAfter.{without_claim}
use Rattle.store_model.specs.Desk.{Does, Kept}
use Rattle.store_model.specs.Desk.Keeping.{Blob}
use Rattle.store_model.specs.Replies.{IsMissed}
use Rattle.store_model.proofs.CallsHeld.{roomed, missed}
use Rattle.resolver.specs.declared.reply.ResolveReply.TheVariants as replies
use Rattle.resolver.specs.Serving.Point.{Granted, Roomy, Giving}
use Rattle.resolver.specs.Steps.{Goes, Fills, after_fetch}
use Rattle.repo_source.proofs.Faults.{failed_same}
use Rattle.resolver.proofs.Goes.{goes_then}
use Rattle.resolver.proofs.Desks.{room_goes, granted_misses}
use Rattle.resolver.proofs.Filling.{has_declared, fills_first}
use Rattle.resolver.proofs.Handles.{claim_held, claim_stays, room_made}
use Rattle.resolver.proofs.fetching.fill.Goals as goal

pub returns-in-Ended-clause-goes : goal.returns-in-Ended-clause-goes
returns-in-Ended-clause-goes g c = λ t.
    room_goes (g.R.Repo.listing c.args.repo.now) (g.R.Repo.files c.args.repo.now) (g.R.Repo.faults c.args.repo.now) t c.args.claim c.args.len (room.Ended c.in-Ended.field-0) _ _
    c.in-Ended.ensures.event c.in-Ended.ensures.fillers (has_declared (g.R.Repo.files c.args.repo.now) c.args.claim.root c.args.len c.requires.found)

pub returns-in-Ended-clause-held : goal.returns-in-Ended-clause-held
returns-in-Ended-clause-held g c = roomed c.args.claim c.args.len (room.Ended c.in-Ended.field-0) _ _ c.in-Ended.ensures.event

pub returns-in-Broken-clause-goes : goal.returns-in-Broken-clause-goes
returns-in-Broken-clause-goes g c = λ t.
    room_goes (g.R.Repo.listing c.args.repo.now) (g.R.Repo.files c.args.repo.now) (g.R.Repo.faults c.args.repo.now) t c.args.claim c.args.len (room.Broken c.in-Broken.number) _ _
    c.in-Broken.ensures.event c.in-Broken.ensures.fillers (has_declared (g.R.Repo.files c.args.repo.now) c.args.claim.root c.args.len c.requires.found)

pub returns-in-Broken-clause-held : goal.returns-in-Broken-clause-held
returns-in-Broken-clause-held g c = roomed c.args.claim c.args.len (room.Broken c.in-Broken.number) _ _ c.in-Broken.ensures.event

pub miss-requires : goal.miss-requires
miss-requires g c = record {
  holds = claim_stays (g.K.Desk.view c.args.desk.now) (g.K.Desk.view c.room.new.self) c.in-NoMemory.claim c.args.claim
      (roomed c.args.claim c.args.len (room.NoMemory c.in-NoMemory.claim) _ _ c.in-NoMemory.ensures.event) c.in-NoMemory.ensures.event.1
      (claim_held (g.K.Desk.view c.args.desk.now) c.args.claim.root _ c.requires.claim);
}

pub returns-in-NoMemory-clause-goes : goal.returns-in-NoMemory-clause-goes
returns-in-NoMemory-clause-goes g c = λ t.
    let old = g.K.Desk.view c.args.desk.now in
    let mid = g.K.Desk.view c.room.new.self in
    let new = g.K.Desk.view c.miss.new.self in
    let root = c.args.claim.root in
    let listing = g.R.Repo.listing c.args.repo.now in
    let files = g.R.Repo.files c.args.repo.now in
    let faults = g.R.Repo.faults c.args.repo.now in
    let missing : Does mid new (IsMissed root misses.Memory) = subst (λ (k : Claim). Does mid new (IsMissed k.root misses.Memory)) c.in-NoMemory.ensures.event.1 c.miss.ensures.event in
    goes_then 0 0 (Granted t root) (Granted t root) (Giving t replies.NoMemory) old mid new listing files faults faults faults
    (room_goes listing files faults t c.args.claim c.args.len (room.NoMemory c.in-NoMemory.claim) old mid c.in-NoMemory.ensures.event c.in-NoMemory.ensures.fillers (has_declared files root c.args.len c.requires.found))
    (granted_misses listing files faults faults t root misses.Memory mid new missing c.miss.ensures.fillers (failed_same faults) (λ all told. tt))

pub returns-in-NoMemory-clause-held : goal.returns-in-NoMemory-clause-held
returns-in-NoMemory-clause-held g c =
    missed c.in-NoMemory.claim.root misses.Memory _ _ c.miss.ensures.event ∙ ap without_claim (roomed c.args.claim c.args.len (room.NoMemory c.in-NoMemory.claim) _ _ c.in-NoMemory.ensures.event)

-- the room that was made is the claim's, and empty
pub take-requires : goal.take-requires
take-requires g c =
    let files = g.R.Repo.files c.args.repo.now in
    let place = g.R.Repo.reading c.args.repo.now in
    let kept : Kept = g.K.Desk.kept c.room.new.self in
    record {
      room = room_made c.args.claim c.in-Made.claim c.args.len _ _ c.in-Made.ensures.event c.requires.claim;
      «open» = c.requires.open;
      fills = subst (λ (k : Claim). Fills kept files k.root place c.args.len c.args.len) (sym c.in-Made.ensures.event.1)
          (fills_first kept files c.args.claim.root place c.args.len (c.in-Made.ensures.kept Blob [] c.requires.empty) c.requires.found c.requires.begun);
      some = c.requires.some;
      few = c.requires.few;
    }

pub returns-in-Made-clause-goes : goal.returns-in-Made-clause-goes
returns-in-Made-clause-goes g c = λ t.
    let old = g.K.Desk.view c.args.desk.now in
    let mid = g.K.Desk.view c.room.new.self in
    let new = g.K.Desk.view c.take.new.desk in
    let root = c.args.claim.root in
    let listing = g.R.Repo.listing c.args.repo.now in
    let files = g.R.Repo.files c.args.repo.now in
    let faults = g.R.Repo.faults c.args.repo.now in
    goes_then 0 0 (Granted t root) (Roomy t root c.args.len) (after_fetch t c.take.result) old mid new listing files faults faults (g.R.Repo.faults c.take.new.repo)
    (room_goes listing files faults t c.args.claim c.args.len (room.Made c.in-Made.claim) old mid c.in-Made.ensures.event c.in-Made.ensures.fillers (has_declared files root c.args.len c.requires.found))
    (subst (λ (k : Claim). Goes 0 (Roomy t k.root c.args.len) (after_fetch t c.take.result) mid new listing files faults (g.R.Repo.faults c.take.new.repo)) c.in-Made.ensures.event.1 (c.take.ensures.goes t))

pub returns-in-Made-clause-held : goal.returns-in-Made-clause-held
returns-in-Made-clause-held g c =
    c.take.ensures.held ∙ ap without_claim (roomed c.args.claim c.args.len (room.Made c.in-Made.claim) _ _ c.in-Made.ensures.event)
