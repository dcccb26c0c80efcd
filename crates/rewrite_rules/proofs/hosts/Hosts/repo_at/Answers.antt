use Rattle.std.proofs.Common.{◌≡◌, ◌<◌, List, length, get_or, Some, refl, sym, ap, subst, ◌∙◌}
use Rattle.std.specs.Prelude.{slice_get}
use Rattle.std.specs.Option.{option_map}
use Rattle.std.proofs.lemmas.Option.{slice_get-get_or}
use Rattle.rewrite_rules.specs.declared.hosts.HostRepo.{HostRepo}
use Rattle.rewrite_rules.specs.Hosts.{with_repo_at}
use Rattle.rewrite_rules.proofs.Hosting.{set_is}
use Rattle.rewrite_rules.proofs.hosts.Hosts.repo_at.Goals as goal

pub returns : goal.returns
returns g c =
    let items = c.self.inside.pairs.items in
    let place = c.args.place in
    let pair = c.index_mut.result.now in
    let within : place < length items = subst (λ (ps : List (HostRepo g.row.R.Denot)). place < length ps) (sym c.self.view_is) c.requires in
    let repo = λ (p : HostRepo g.row.R.Denot). p.repo in (
      (refl, λ w. set_is items place pair w within c.index_mut.ensures.value ∙ ap (λ (ps : List (HostRepo g.row.R.Denot)). with_repo_at ps place w) c.self.view_is),
      record {
        writes_back = tt;
        value =
            ap (λ (ps : List (HostRepo g.row.R.Denot)). option_map repo (slice_get ps place)) (sym c.self.view_is)
            ∙ ap (option_map repo) (slice_get-get_or items place pair within ∙ ap (λ (p : HostRepo g.row.R.Denot). Some p) (sym c.index_mut.ensures.value))
            ∙ ap (λ (r : g.row.R.Denot). Some r) (sym c.repo_mut.ensures.value);
      },
    )
