use Rattle.std.proofs.Common.{◌≡◌}
use Rattle.std.specs.Prelude.{◌↔◌}
use Rattle.pkg_names.specs.NameAndVariant.{NameAndVariant}
use Rattle.store_model.specs.Desk.{held_by, KeepsImages}
use Rattle.resolver.specs.Serving.{ticket_for}
use Rattle.resolver.specs.Serving.Point.{Waiting}
use Rattle.resolver.specs.Steps.{Fetches}
use Rattle.resolver.proofs.rounds.arrive.Given as goal

abbrev pub invariant-loop : goal.invariant-loop
invariant-loop g l = record {
  next : (goal.iterator-loop g).can_next l.iterator';
  finite : (goal.iterator-loop g).is_finite l.iterator';
  same : l.ticket ≡ l.initial.ticket;
  goes : (path : NameAndVariant) → Fetches (Waiting (ticket_for path l.initial.ticket)) (Waiting (ticket_for path l.initial.ticket)) (g.K.Desk.view l.initial.desk) (g.K.Desk.view l.desk)
      (g.R.Repo.listing l.initial.repo) (g.R.Repo.files l.initial.repo) (g.R.Repo.faults l.initial.repo) (g.R.Repo.faults l.repo) (g.R.Repo.fetches l.initial.repo) (g.R.Repo.fetches l.repo);
  held : held_by (g.K.Desk.view l.desk) ≡ held_by (g.K.Desk.view l.initial.desk);
  lane : (g.K.Desk.view l.desk).lane ≡ (g.K.Desk.view l.initial.desk).lane;
  images : KeepsImages (g.K.Desk.kept l.initial.desk) (g.K.Desk.kept l.desk);
  firm : g.K.Desk.firm l.initial.desk ↔ g.K.Desk.firm l.desk;
  listing : g.R.Repo.listing l.repo ≡ g.R.Repo.listing l.initial.repo;
  files : g.R.Repo.files l.repo ≡ g.R.Repo.files l.initial.repo;
}
