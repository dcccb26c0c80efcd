use Rattle.std.proofs.Common.{refl}
use Rattle.store_model.specs.declared.replies.WantReply.TheVariants as want
use Rattle.store_model.proofs.CallsHeld.{wanted}
use Rattle.resolver.specs.Serving.{ticket_for}
use Rattle.resolver.specs.Serving.Point.{Refused, Opened}
use Rattle.resolver.specs.declared.reply.ResolveReply.TheVariants as replies
use Rattle.resolver.proofs.Arriving.{holds_no_memory, claim_granted, holds_fetched, held_fetched, held_waited, held_cut, held_stopped, round_over, round_waited, round_cut, round_fetched, round_stopped}
use Rattle.resolver.proofs.rounds.go_round.Goals as goal

pub returns-in-Opened-clause-goes : goal.returns-in-Opened-clause-goes
returns-in-Opened-clause-goes g c = λ path.
    round_over path c.args.ticket _ _ (g.R.Repo.listing c.args.repo.now) (g.R.Repo.files c.args.repo.now) (want.Opened c.in-Opened.dir) (Opened c.args.ticket.root c.in-Opened.dir) _ _
    c.in-Opened.ensures.event c.in-Opened.ensures.fillers refl refl

pub returns-in-Opened-clause-held : goal.returns-in-Opened-clause-held
returns-in-Opened-clause-held g c = wanted c.args.ticket (want.Opened c.in-Opened.dir) _ _ c.in-Opened.ensures.event

pub returns-in-Failed-clause-goes : goal.returns-in-Failed-clause-goes
returns-in-Failed-clause-goes g c = λ path.
    round_over path c.args.ticket _ _ (g.R.Repo.listing c.args.repo.now) (g.R.Repo.files c.args.repo.now) (want.Failed c.in-Failed.cause) (Refused (replies.Failed c.in-Failed.cause)) _ _
    c.in-Failed.ensures.event c.in-Failed.ensures.fillers refl refl

pub returns-in-Failed-clause-held : goal.returns-in-Failed-clause-held
returns-in-Failed-clause-held g c = wanted c.args.ticket (want.Failed c.in-Failed.cause) _ _ c.in-Failed.ensures.event

pub returns-in-Broken-clause-goes : goal.returns-in-Broken-clause-goes
returns-in-Broken-clause-goes g c = λ path.
    round_over path c.args.ticket _ _ (g.R.Repo.listing c.args.repo.now) (g.R.Repo.files c.args.repo.now) (want.Broken c.in-Broken.number) (Refused (replies.Broken c.in-Broken.number)) _ _
    c.in-Broken.ensures.event c.in-Broken.ensures.fillers refl refl

pub returns-in-Broken-clause-held : goal.returns-in-Broken-clause-held
returns-in-Broken-clause-held g c = wanted c.args.ticket (want.Broken c.in-Broken.number) _ _ c.in-Broken.ensures.event

pub returns-in-NotYet-clause-back : goal.returns-in-NotYet-clause-back
returns-in-NotYet-clause-back g c = c.in-NotYet.ensures.event.1

pub returns-in-NotYet-clause-goes : goal.returns-in-NotYet-clause-goes
returns-in-NotYet-clause-goes g c = λ path.
    round_waited path c.args.ticket _ (g.K.Desk.view c.want.new.self) (g.R.Repo.listing c.args.repo.now) (g.R.Repo.files c.args.repo.now) c.in-NotYet.ticket c.in-NotYet.bell _ _ _
    c.in-NotYet.ensures.event c.in-NotYet.ensures.fillers c.pause.ensures.none c.pause.ensures.fillers

pub returns-in-NotYet-clause-held : goal.returns-in-NotYet-clause-held
returns-in-NotYet-clause-held g c =
    held_waited c.args.ticket _ (g.K.Desk.view c.want.new.self) c.in-NotYet.ticket c.in-NotYet.bell (g.K.Desk.view c.pause.new.self) c.in-NotYet.ensures.event c.pause.ensures.none

pub give_up-requires : goal.give_up-requires
give_up-requires g c = record { holds = holds_no_memory c.args.ticket _ _ c.in-NoMemory.ticket c.in-NoMemory.ensures.event c.requires.ticket }

pub returns-in-NoMemory-clause-goes : goal.returns-in-NoMemory-clause-goes
returns-in-NoMemory-clause-goes g c = λ path.
    round_cut path c.args.ticket _ (g.K.Desk.view c.want.new.self) (g.R.Repo.listing c.args.repo.now) (g.R.Repo.files c.args.repo.now) c.in-NoMemory.ticket _ _ _
    c.in-NoMemory.ensures.event c.in-NoMemory.ensures.fillers c.give_up.ensures.event c.give_up.ensures.fillers

pub returns-in-NoMemory-clause-held : goal.returns-in-NoMemory-clause-held
returns-in-NoMemory-clause-held g c =
    held_cut c.args.ticket _ (g.K.Desk.view c.want.new.self) c.in-NoMemory.ticket (g.K.Desk.view c.give_up.new.self) c.in-NoMemory.ensures.event c.give_up.ensures.event

pub fetch-requires : goal.fetch-requires
fetch-requires g c = record {
  claim = claim_granted c.args.ticket _ _ c.in-Fetch.ticket c.in-Fetch.claim c.in-Fetch.ensures.event;
  empty = c.in-Fetch.ensures.kept.1;
  some = c.requires.some;
  few = c.requires.few;
}

pub returns-in-Ok-clause-back : goal.returns-in-Ok-clause-back
returns-in-Ok-clause-back g c = c.in-Fetch.ensures.event.1

pub returns-in-Ok-clause-goes : goal.returns-in-Ok-clause-goes
returns-in-Ok-clause-goes g c = λ path.
    round_fetched path c.args.ticket _ (g.K.Desk.view c.want.new.self) (g.R.Repo.listing c.args.repo.now) (g.R.Repo.files c.args.repo.now) c.in-Fetch.ticket c.in-Fetch.claim _ _ _ _ _
    c.in-Fetch.ensures.event c.in-Fetch.ensures.fillers (c.in-Ok.ensures.goes (ticket_for path c.args.ticket)) c.in-Ok.ensures.fetches

pub returns-in-Ok-clause-held : goal.returns-in-Ok-clause-held
returns-in-Ok-clause-held g c =
    held_fetched c.args.ticket _ (g.K.Desk.view c.want.new.self) c.in-Fetch.ticket c.in-Fetch.claim (g.K.Desk.view c.fetch.new.desk) c.in-Fetch.ensures.event c.in-Ok.ensures.held c.requires.free

pub give_up-requires-in-Err : goal.give_up-requires-in-Err
give_up-requires-in-Err g c = record { holds = holds_fetched c.args.ticket _ (g.K.Desk.view c.want.new.self) c.in-Fetch.ticket c.in-Fetch.claim (g.K.Desk.view c.fetch.new.desk) c.in-Fetch.ensures.event c.in-Err.ensures.held c.requires.ticket }

pub returns-in-Err-clause-goes : goal.returns-in-Err-clause-goes
returns-in-Err-clause-goes g c = λ path.
    round_stopped path c.args.ticket _ (g.K.Desk.view c.want.new.self) (g.R.Repo.listing c.args.repo.now) (g.R.Repo.files c.args.repo.now) c.in-Fetch.ticket c.in-Fetch.claim (g.K.Desk.view c.fetch.new.desk) _ c.in-Err.stop c.reply.result _ _ _ _
    c.reply.ensures c.in-Fetch.ensures.event c.in-Fetch.ensures.fillers (c.in-Err.ensures.goes (ticket_for path c.args.ticket)) c.in-Err.ensures.fetches c.give_up-in-Err.ensures.event c.give_up-in-Err.ensures.fillers

pub returns-in-Err-clause-held : goal.returns-in-Err-clause-held
returns-in-Err-clause-held g c =
    held_stopped c.args.ticket _ (g.K.Desk.view c.want.new.self) c.in-Fetch.ticket c.in-Fetch.claim (g.K.Desk.view c.fetch.new.desk) (g.K.Desk.view c.give_up-in-Err.new.self) c.in-Err.stop c.reply.result
    c.reply.ensures c.in-Fetch.ensures.event c.in-Err.ensures.held c.requires.free c.give_up-in-Err.ensures.event
