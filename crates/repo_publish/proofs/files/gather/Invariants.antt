use Rattle.std.proofs.Common.{◌≡◌}
use Rattle.std.specs.Prelude.{is_some}
use Rattle.repo_source.specs.Repo.{FailedBy}
use Rattle.repo_publish.specs.Steps.{IsUnderWay}
use Rattle.repo_publish.proofs.files.gather.Given as goal

abbrev pub invariant-loop-count : goal.invariant-loop-count
invariant-loop-count g l = record {
  way : IsUnderWay l._count (g.T.Tree.left l.fn.tree) (g.T.Tree.left l.tree) (g.P.Post.files l.fn.post) (g.P.Post.files l.post) l.draft.inner.items l.draft.contents l.draft.last;
  listing : g.P.Post.listing l.post ≡ g.P.Post.listing l.fn.post;
  files_told : is_some (g.P.Post.files l.post) ≡ is_some (g.P.Post.files l.fn.post);
  post_faults : FailedBy 0 (g.P.Post.faults l.fn.post) (g.P.Post.faults l.post);
  list_faults : g.P.Post.list_faults l.post ≡ g.P.Post.list_faults l.fn.post;
  tree_faults : FailedBy 0 (g.T.Tree.faults l.fn.tree) (g.T.Tree.faults l.tree);
  tree_told : is_some (g.T.Tree.left l.tree) ≡ is_some (g.T.Tree.left l.fn.tree);
}
