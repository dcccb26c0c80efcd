use Rattle.std.proofs.Common.{◌≡◌, true}
use Rattle.std.specs.Prelude.{◌↔◌}
use Rattle.store_model.specs.Holding.{HeldTicket}
use Rattle.store_model.specs.Desk.{held_by, KeepsImages}
use Rattle.resolver.specs.Serving.Point.{Roomy}
use Rattle.resolver.specs.Steps.{Goes, Fills}
use Rattle.resolver.proofs.pieces.take.Given as goal

abbrev pub invariant-loop-back : goal.invariant-loop-back
invariant-loop-back g l = record {
  root : l.claim.root ≡ l.initial.claim.root;
  fills : Fills (g.K.Desk.kept l.desk) (g.R.Repo.files l.initial.repo) l.initial.claim.root (g.R.Repo.reading l.repo) l.len l.left;
  goes : (t : HeldTicket) → Goes 0 (Roomy t l.initial.claim.root l.len) (Roomy t l.initial.claim.root l.len) (g.K.Desk.view l.initial.desk) (g.K.Desk.view l.desk)
      (g.R.Repo.listing l.initial.repo) (g.R.Repo.files l.initial.repo) (g.R.Repo.faults l.initial.repo) (g.R.Repo.faults l.repo);
  held : held_by (g.K.Desk.view l.desk) ≡ held_by (g.K.Desk.view l.initial.desk);
  images : KeepsImages (g.K.Desk.kept l.initial.desk) (g.K.Desk.kept l.desk);
  firm : g.K.Desk.firm l.initial.desk ↔ g.K.Desk.firm l.desk;
  listing : g.R.Repo.listing l.repo ≡ g.R.Repo.listing l.initial.repo;
  files : g.R.Repo.files l.repo ≡ g.R.Repo.files l.initial.repo;
  fetches : g.R.Repo.fetches l.repo ≡ g.R.Repo.fetches l.initial.repo;
  open_ : g.R.Repo.is_open l.repo ≡ true;
}

abbrev pub decreases-loop-back : goal.decreases-loop-back
decreases-loop-back g l = l.left
