use Rattle.store_model.specs.declared.ends.Miss.TheVariants as misses
use Rattle.store_model.proofs.CallsHeld.{missed}
use Rattle.repo_source.specs.Repo.{Fetches}
use Rattle.repo_source.specs.declared.repo.FetchReply.TheVariants as fetched
use Rattle.resolver.specs.Serving.Point.{Granted}
use Rattle.resolver.specs.Steps.{after_fetch}
use Rattle.resolver.proofs.Goes.{goes_none, goes_on}
use Rattle.resolver.proofs.Desks.{granted_misses}
use Rattle.resolver.proofs.Filling.{if_told}
use Rattle.resolver.proofs.fetching.fetch.Goals as goal

pub returns-in-Absent-clause-goes : goal.returns-in-Absent-clause-goes
returns-in-Absent-clause-goes g c = λ t.
    granted_misses (g.R.Repo.listing c.args.repo.now) (g.R.Repo.files c.args.repo.now) _ _ t c.args.claim.root misses.Absent _ _ c.miss.ensures.event c.miss.ensures.fillers
    c.in-Absent.ensures.faults (λ all told. if_told (g.R.Repo.files c.args.repo.now) (λ all. Fetches all c.args.claim.root fetched.Absent) all told c.in-Absent.ensures.found)

pub returns-in-Absent-clause-held : goal.returns-in-Absent-clause-held
returns-in-Absent-clause-held g c = missed c.args.claim.root misses.Absent _ _ c.miss.ensures.event

pub returns-in-Failed-clause-goes : goal.returns-in-Failed-clause-goes
returns-in-Failed-clause-goes g c = λ t.
    granted_misses (g.R.Repo.listing c.args.repo.now) (g.R.Repo.files c.args.repo.now) _ _ t c.args.claim.root misses.Read _ _ c.miss-in-Failed.ensures.event c.miss-in-Failed.ensures.fillers
    c.in-Failed.ensures.faults (λ all told. tt)

pub returns-in-Failed-clause-held : goal.returns-in-Failed-clause-held
returns-in-Failed-clause-held g c = missed c.args.claim.root misses.Read _ _ c.miss-in-Failed.ensures.event

pub returns-in-NoMemory-clause-goes : goal.returns-in-NoMemory-clause-goes
returns-in-NoMemory-clause-goes g c = λ t.
    granted_misses (g.R.Repo.listing c.args.repo.now) (g.R.Repo.files c.args.repo.now) _ _ t c.args.claim.root misses.Memory _ _ c.miss-in-NoMemory.ensures.event c.miss-in-NoMemory.ensures.fillers
    c.in-NoMemory.ensures.faults (λ all told. tt)

pub returns-in-NoMemory-clause-held : goal.returns-in-NoMemory-clause-held
returns-in-NoMemory-clause-held g c = missed c.args.claim.root misses.Memory _ _ c.miss-in-NoMemory.ensures.event

pub returns-in-Found-clause-goes : goal.returns-in-Found-clause-goes
returns-in-Found-clause-goes g c = λ t.
    let v = g.K.Desk.view c.args.desk.now in
    let from = Granted t c.args.claim.root in
    let x = g.R.Repo.faults c.args.repo.now in
    let y = g.R.Repo.faults c.fetch.new.self in
    goes_on 0 0 from from (after_fetch t c.fill.result) v v (g.K.Desk.view c.fill.new.desk) (g.R.Repo.listing c.args.repo.now) (g.R.Repo.listing c.fetch.new.self) (g.R.Repo.files c.args.repo.now) (g.R.Repo.files c.fetch.new.self)
    x y (g.R.Repo.faults c.fill.new.repo) (goes_none from v (g.R.Repo.listing c.args.repo.now) (g.R.Repo.files c.args.repo.now) x y c.in-Found.ensures.faults) c.in-Found.ensures.listing c.in-Found.ensures.files (c.fill.ensures.goes t)
