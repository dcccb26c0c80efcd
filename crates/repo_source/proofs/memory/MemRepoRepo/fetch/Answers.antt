use Rattle.std.proofs.Common.{ℕ, List, refl, subst}
use Rattle.pkg_names.specs.MemoryStreams.{IsListed}
use Rattle.repo_source.specs.MemoryRepo.{RepoInMemory}
use Rattle.repo_source.proofs.memory.MemRepoRepo.fetch.Goals as goal

pub returns-then-count_call-clause-listed : goal.returns-then-count_call-clause-listed
returns-then-count_call-clause-listed c = (
  λ _. subst (λ (r : RepoInMemory). IsListed r.failing r.calls) c.self.view_is
      (subst (λ (xs : List ℕ). IsListed xs c.self.inside.calls) c.deref.ensures.value
      (c.count_call.ensures.listed.0 c.if-count_call.true)),
  λ _. refl,
)
