use Rattle.std.proofs.Common.{ℕ, [], refl, sym, ap, subst, ◌∙◌, arith}
use Rattle.store_model.specs.declared.replies.Ticket.{Ticket}
use Rattle.store_model.specs.Holding.{Held}
use Rattle.store_model.specs.Desk.{held_by}
use Rattle.store_model.specs.Calls.{HoldsTicket}
use Rattle.store_model.proofs.CallsHandles.{ticket_stays}
use Rattle.resolver.specs.Serving.{ticket_for}
use Rattle.resolver.specs.Serving.Point.{Waiting}
use Rattle.resolver.specs.Steps.{Fetches, after_arrival, held_after_arrival}
use Rattle.repo_source.proofs.Faults.{failed_same}
use Rattle.resolver.proofs.Goes.{goes_none, fetches_on}
use Rattle.resolver.proofs.Handles.{images_then, iff_then}
use Rattle.resolver.proofs.rounds.arrive.Goals as goal

pub go_round-requires : goal.go_round-requires
go_round-requires g c =
    let i = c.loop.invariant in
    let mid = g.K.Desk.view c.loop.desk in record {
      ticket = subst (λ (t : Ticket). HoldsTicket mid t) (sym i.same) (ticket_stays c.args.ticket (g.K.Desk.view c.args.desk.now) mid (ap (λ (h : Held). h.tickets) i.held) c.requires.ticket);
      free = ap (λ (h : Held). h.claim) i.held ∙ c.requires.free;
      some = omega (arith, c.loop.auto.buffer, c.requires.some);
      few = omega (arith, c.loop.auto.buffer, c.requires.few);
    }

pub loop-init : goal.loop-init
loop-init g c = record {
  next = tt;
  finite = tt;
  same = refl;
  goes = λ path. record {
    granted = 0;
    goes = goes_none (Waiting (ticket_for path c.args.ticket)) (g.K.Desk.view c.args.desk.now) (g.R.Repo.listing c.args.repo.now) (g.R.Repo.files c.args.repo.now) (g.R.Repo.faults c.args.repo.now) (g.R.Repo.faults c.args.repo.now) (failed_same (g.R.Repo.faults c.args.repo.now));
    fetches = refl;
  };
  held = refl;
  lane = refl;
  images = λ image bytes is. is;
  firm = (λ is. is, λ is. is);
  listing = refl;
  files = refl;
}

pub loop-preserved : goal.loop-preserved
loop-preserved g c =
    let i = c.loop.invariant in
    let e = c.in-Ok.ensures in
    let old = g.K.Desk.view c.args.desk.now in
    let mid = g.K.Desk.view c.loop.desk in
    let new = g.K.Desk.view c.go_round.new.desk in record {
      next = tt;
      finite = tt;
      same = e.back ∙ i.same;
      goes = λ path.
          let w = Waiting (ticket_for path c.args.ticket) in
          fetches_on w w w old mid new _ _ _ _ _ _ _ _ _ _ (i.goes path) i.listing i.files
          (subst (λ (t : Ticket). Fetches (Waiting (ticket_for path t)) (Waiting (ticket_for path t)) mid new (g.R.Repo.listing c.loop.repo) (g.R.Repo.files c.loop.repo) (g.R.Repo.faults c.loop.repo) (g.R.Repo.faults c.go_round.new.repo) (g.R.Repo.fetches c.loop.repo) (g.R.Repo.fetches c.go_round.new.repo)) i.same (e.goes path));
      held = e.held ∙ i.held;
      lane = (e.goes (record { name = []; variant = [] })).goes.stays.lane ∙ i.lane;
      images = images_then (g.K.Desk.kept c.args.desk.now) (g.K.Desk.kept c.loop.desk) (g.K.Desk.kept c.go_round.new.desk) i.images e.images;
      firm = iff_then _ _ _ i.firm e.firm;
      listing = e.listing ∙ i.listing;
      files = e.files ∙ i.files;
    }

pub returns-in-Err-clause-goes : goal.returns-in-Err-clause-goes
returns-in-Err-clause-goes g c = λ path.
    let i = c.loop.invariant in
    let e = c.in-Err.ensures in
    let old = g.K.Desk.view c.args.desk.now in
    let mid = g.K.Desk.view c.loop.desk in
    let new = g.K.Desk.view c.go_round.new.desk in
    let w = Waiting (ticket_for path c.args.ticket) in
    let to = after_arrival (ticket_for path c.args.ticket) c.in-Err.reply in
    fetches_on w w to old mid new _ _ _ _ _ _ _ _ _ _ (i.goes path) i.listing i.files
    (subst (λ (t : Ticket). Fetches (Waiting (ticket_for path t)) (after_arrival (ticket_for path t) c.in-Err.reply) mid new (g.R.Repo.listing c.loop.repo) (g.R.Repo.files c.loop.repo) (g.R.Repo.faults c.loop.repo) (g.R.Repo.faults c.go_round.new.repo) (g.R.Repo.fetches c.loop.repo) (g.R.Repo.fetches c.go_round.new.repo)) i.same (e.goes path))

pub returns-in-Err-clause-images : goal.returns-in-Err-clause-images
returns-in-Err-clause-images g c = images_then (g.K.Desk.kept c.args.desk.now) (g.K.Desk.kept c.loop.desk) (g.K.Desk.kept c.go_round.new.desk) c.loop.invariant.images c.in-Err.ensures.images

pub returns-in-Err-clause-firm : goal.returns-in-Err-clause-firm
returns-in-Err-clause-firm g c = iff_then _ _ _ c.loop.invariant.firm c.in-Err.ensures.firm

pub returns-in-Err-clause-held : goal.returns-in-Err-clause-held
returns-in-Err-clause-held g c =
    let i = c.loop.invariant in
    let reply = c.in-Err.reply in
    let mid = g.K.Desk.view c.loop.desk in
    c.in-Err.ensures.held ∙ ap (λ (l : ℕ). held_after_arrival l c.loop.ticket.number reply (held_by mid)) i.lane ∙ ap (λ (t : Ticket). held_after_arrival (g.K.Desk.view c.args.desk.now).lane t.number reply (held_by mid)) i.same ∙
    ap (held_after_arrival (g.K.Desk.view c.args.desk.now).lane c.args.ticket.number reply) i.held
