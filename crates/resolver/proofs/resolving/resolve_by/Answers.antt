use Rattle.std.proofs.Common.{ap, ◌∙◌}
use Rattle.store_model.specs.Holding.{Held}
use Rattle.store_model.specs.declared.replies.BeginReply.TheVariants as begin
use Rattle.store_model.specs.declared.replies.Ticket.{Ticket}
use Rattle.store_model.proofs.CallsHeld.{begun}
use Rattle.store_model.proofs.CallsHandles.{ticket_made}
use Rattle.resolver.specs.Fetched.{IsListed}
use Rattle.resolver.specs.Serving.{ticket_for}
use Rattle.resolver.specs.Serving.Point.{Asking, Waiting}
use Rattle.resolver.specs.Steps.{after_arrival, failures_of}
use Rattle.resolver.proofs.Goes.{fetches_on}
use Rattle.resolver.proofs.Filling.{if_told}
use Rattle.resolver.proofs.Whole.{whole_refused, whole_told, alone, reply_arrived}
use Rattle.resolver.proofs.Handles.{resolved, images_then, iff_then}
use Rattle.resolver.proofs.resolving.resolve_by.Goals as goal

pub arrive-requires : goal.arrive-requires
arrive-requires g c = record {
  ticket = ticket_made c.args.url.now.path c.choose-choice.result c.in-Ok.ticket _ _ c.in-Ok.ensures.made;
  free = ap (λ (h : Held). h.claim) (begun c.args.url.now.path c.choose-choice.result (begin.Made c.in-Ok.ticket) _ _ c.in-Ok.ensures.made) ∙ c.requires.free;
  some = c.requires.some;
  few = c.requires.few;
}

pub returns-in-Ok : goal.returns-in-Ok
returns-in-Ok g c =
    let v = g.K.Desk.view c.args.desk.now in
    let m = g.K.Desk.view c.ask.new.desk in
    let u = g.K.Desk.view c.arrive.new.desk in
    let path = c.args.url.now.path in
    let pin = c.args.url.now.pin in
    let choice = c.choose-choice.result in
    let reply = c.arrive.result in
    let t = ticket_for path c.in-Ok.ticket in
    let listing = g.R.Repo.listing c.args.repo.now in
    let files = g.R.Repo.files c.args.repo.now in
    let listing_now = g.R.Repo.listing c.choose-choice.new.repo in
    let files_now = g.R.Repo.files c.choose-choice.new.repo in
    let x = g.R.Repo.faults c.args.repo.now in
    let y = g.R.Repo.faults c.choose-choice.new.repo in
    let z = g.R.Repo.faults c.arrive.new.repo in
    let p = g.R.Repo.fetches c.args.repo.now in
    let q = g.R.Repo.fetches c.choose-choice.new.repo in
    let r = g.R.Repo.fetches c.arrive.new.repo in
    let first = c.in-Ok.ensures.goes pin listing files x y c.choose-choice.ensures.chosen (λ all told. if_told listing (λ all. IsListed all path choice) all told c.choose-choice.ensures.listed) c.choose-choice.ensures.faults in
    let all = fetches_on (Asking path pin) (Waiting t) (after_arrival t reply) v m u listing listing_now files files_now x y z p q r
    (alone (Asking path pin) (Waiting t) v m listing files x y p q c.choose-choice.ensures.fetches first) c.choose-choice.ensures.listing c.choose-choice.ensures.files (c.arrive.ensures.goes path) in
    record {
      run = whole_told path pin (after_arrival t reply) reply v u listing files x z p r all (reply_arrived t reply) (resolved path choice c.in-Ok.ticket reply v m u c.in-Ok.ensures.made c.arrive.ensures.held);
      images = images_then (g.K.Desk.kept c.args.desk.now) (g.K.Desk.kept c.ask.new.desk) (g.K.Desk.kept c.arrive.new.desk) c.in-Ok.ensures.images c.arrive.ensures.images;
      firm = iff_then _ _ _ c.in-Ok.ensures.firm c.arrive.ensures.firm;
      listing = c.arrive.ensures.listing ∙ c.choose-choice.ensures.listing;
      files = c.arrive.ensures.files ∙ c.choose-choice.ensures.files;
    }

pub returns-in-Err : goal.returns-in-Err
returns-in-Err g c =
    let v = g.K.Desk.view c.args.desk.now in
    let m = g.K.Desk.view c.ask.new.desk in
    let path = c.args.url.now.path in
    let pin = c.args.url.now.pin in
    let choice = c.choose-choice.result in
    let reply = c.in-Err.reply in
    let listing = g.R.Repo.listing c.args.repo.now in
    let files = g.R.Repo.files c.args.repo.now in
    let x = g.R.Repo.faults c.args.repo.now in
    let y = g.R.Repo.faults c.choose-choice.new.repo in
    let p = g.R.Repo.fetches c.args.repo.now in
    let q = g.R.Repo.fetches c.choose-choice.new.repo in
    let first = c.in-Err.ensures.goes pin listing files x y c.choose-choice.ensures.chosen (λ all told. if_told listing (λ all. IsListed all path choice) all told c.choose-choice.ensures.listed) c.choose-choice.ensures.faults in
    record {
      run = whole_refused Ticket path pin reply v m listing files (failures_of choice) x y p q c.choose-choice.ensures.faults c.choose-choice.ensures.fetches first c.in-Err.ensures.held;
      images = c.in-Err.ensures.images;
      firm = c.in-Err.ensures.firm;
      listing = c.choose-choice.ensures.listing;
      files = c.choose-choice.ensures.files;
    }
