use Rattle.std.proofs.Common.{◌≡◌, ◌∷◌, inr, refl, sym, ap, subst, ◌∙◌}
use Rattle.store_model.specs.declared.replies.Dir.{Dir}
use Rattle.store_model.specs.State.Phase.{Filling as Fills}
use Rattle.store_model.specs.Desk.{held_by}
use Rattle.resolver.specs.declared.reply.ResolveReply.TheVariants as resolved
use Rattle.system_updater.specs.declared.reply.UpdateReply.TheVariants as replies
use Rattle.system_updater.specs.Serving.{left, refusal_of}
use Rattle.system_updater.specs.Serving.Point.{Fetching, Closing}
use Rattle.system_updater.specs.Viewing.{told}
use Rattle.system_updater.proofs.Goes.{goes_pass, goes_then, goes_to}
use Rattle.system_updater.proofs.Places.{staged_left}
use Rattle.system_updater.proofs.Wholes.{package_goes, holds_then, refused_at}
use Rattle.system_updater.proofs.Grown.{early_refusal}
use Rattle.system_updater.specs.Filled.{IsEarly}
use Rattle.system_updater.specs.declared.reply.UpdateReply.{UpdateReply}
use Rattle.system_updater.proofs.packages.fetch.Goals as goal

pub returns-in_default-clause-goes : goal.returns-in_default-clause-goes
returns-in_default-clause-goes g c = λ dir plan later at.
    goes_pass (Fetching dir plan (c.args.pinned.now ∷ later)) (left dir replies.NoMemory) (g.K.Desk.view c.args.desk.now) (told (g.R.Repo.listing c.args.repo.now) (g.R.Repo.files c.args.repo.now) (g.R.Repo.faults c.args.repo.now) (g.R.Repo.fetches c.args.repo.now)) (g.K.Desk.firm c.args.desk.now) (inr (refl, refl))
    (λ base is. staged_left _ dir Fills replies.NoMemory base (held_by (g.K.Desk.view c.args.desk.now)) tt is)

pub returns-in-Resolved-clause-goes : goal.returns-in-Resolved-clause-goes
returns-in-Resolved-clause-goes g c = λ dir plan later at.
    let e = c.in-Resolved.ensures in
    let v = g.K.Desk.view c.args.desk.now in
    let w = g.K.Desk.view c.resolve.new.desk in
    let u = g.K.Desk.view c.close.new.desk in
    let F = g.K.Desk.firm c.args.desk.now in
    let G = g.K.Desk.firm c.resolve.new.desk in
    let H = g.K.Desk.firm c.close.new.desk in
    let a = Fetching dir plan (c.args.pinned.now ∷ later) in
    let b = Closing c.in-Resolved.from (Fetching dir plan later) in
    let r = told (g.R.Repo.listing c.args.repo.now) (g.R.Repo.files c.args.repo.now) (g.R.Repo.faults c.args.repo.now) (g.R.Repo.fetches c.args.repo.now) in
    let s = told (g.R.Repo.listing c.resolve.new.repo) (g.R.Repo.files c.resolve.new.repo) (g.R.Repo.faults c.resolve.new.repo) (g.R.Repo.fetches c.resolve.new.repo) in
    let first = package_goes _ _ (resolved.Resolved c.in-Resolved.from) v w _ _ _ _ _ _ _ _ F G e.run e.listing e.files e.firm dir plan c.args.pinned.now later (c.pinned_url-url.ensures.path ∙ c.in-Ok.ensures.same) c.pinned_url-url.ensures.pin in
    goes_then a b (Fetching dir plan later) v w u r s s F G H first (c.close.ensures.goes (Fetching dir plan later) s (holds_then a b v w r s F G first at))

pub returns-clause-goes : goal.returns-clause-goes
returns-clause-goes g c = λ dir plan later at.
    let e = c.resolve.ensures in
    let v = g.K.Desk.view c.args.desk.now in
    let w = g.K.Desk.view c.resolve.new.desk in
    let F = g.K.Desk.firm c.args.desk.now in
    let G = g.K.Desk.firm c.resolve.new.desk in
    let a = Fetching dir plan (c.args.pinned.now ∷ later) in
    let r = told (g.R.Repo.listing c.args.repo.now) (g.R.Repo.files c.args.repo.now) (g.R.Repo.faults c.args.repo.now) (g.R.Repo.fetches c.args.repo.now) in
    let s = told (g.R.Repo.listing c.resolve.new.repo) (g.R.Repo.files c.resolve.new.repo) (g.R.Repo.faults c.resolve.new.repo) (g.R.Repo.fetches c.resolve.new.repo) in
    let opened = λ (from : Dir). Closing from (Fetching dir plan later) in
    let refused = refused_at opened (left dir) c.resolve.result c.in_default-resolve.not-Resolved in
    let same : refusal_of c.resolve.result ≡ c.refusal_of.result = sym c.refusal_of.ensures in
    goes_to a _ (left dir c.refusal_of.result) v w r s F G (refused ∙ ap (left dir) same)
    (package_goes _ _ c.resolve.result v w _ _ _ _ _ _ _ _ F G e.run e.listing e.files e.firm dir plan c.args.pinned.now later (c.pinned_url-url.ensures.path ∙ c.in-Ok.ensures.same) c.pinned_url-url.ensures.pin)

pub returns-in-Resolved-clause-images : goal.returns-in-Resolved-clause-images
returns-in-Resolved-clause-images g c = λ image bytes there. c.close.ensures.images image bytes (c.in-Resolved.ensures.images image bytes there)

pub returns-clause-images : goal.returns-clause-images
returns-clause-images g c = subst (λ (r : UpdateReply). IsEarly r) (sym c.refusal_of.ensures) (early_refusal c.resolve.result)
