use Rattle.std.proofs.Common.{◌≡◌, ℕ, List, Some, None, inl, refl, sym, ap, ◌∙◌}
use Rattle.std.specs.Prelude.{find}
use Rattle.std.specs.List.{position, position_or_len}
use Rattle.std.specs.Option.{option_map}
use Rattle.rewrite_rules.specs.declared.hosts.HostRepo.{HostRepo}
use Rattle.rewrite_rules.specs.Hosts.{has_host, repo_of, with_repo_at}
use Rattle.rewrite_rules.proofs.Firsts.{placed, found_there, not_found}
use Rattle.rewrite_rules.proofs.Hosting.{all_others, none_found}
use Rattle.rewrite_rules.proofs.hosts.Hosts.pick.Goals as goal

pub returns-in-Some : goal.returns-in-Some
returns-in-Some g c =
    let pairs = c.args.self.now in
    let host = c.args.host.now in
    let repo = λ (p : HostRepo g.row.R.Denot). p.repo in
    let at : position (has_host host) pairs ≡ Some c.in-Some.place = sym (c.in-Some.ensures ∙ ap (position (has_host host)) (c.deref.ensures.value ∙ c.self.view_is)) in
    let found : repo_of pairs host ≡ Some c.repo_at.result.now = ap (option_map repo) (found_there (has_host host) pairs c.in-Some.place at) ∙ c.repo_at.ensures.value in (
      ap (λ (n : ℕ). inl (c.repo_at.result.ghost_name, with_repo_at pairs n)) (sym (placed (has_host host) pairs c.in-Some.place at).0),
      record {
        writes_back = tt;
        repo = sym found;
        none = (λ e. absurd cc, λ others. let never : repo_of pairs host ≡ None = ap (option_map repo) (none_found pairs host others) in absurd cc);
      },
    )

pub returns-in-None : goal.returns-in-None
returns-in-None g c =
    let pairs = c.args.self.now in
    let host = c.args.host.now in
    let repo = λ (p : HostRepo g.row.R.Denot). p.repo in
    let none : find (has_host host) pairs ≡ None =
    not_found (has_host host) pairs (sym (c.in-None.ensures ∙ ap (position (has_host host)) (c.deref.ensures.value ∙ c.self.view_is))) in (
      refl,
      record { writes_back = tt; repo = sym (ap (option_map repo) none); none = (λ e. all_others pairs host none, λ others. refl) },
    )
