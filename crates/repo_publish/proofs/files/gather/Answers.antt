use Rattle.std.proofs.Common.{◌≡◌, ◌∙◌, false, arith}
use Rattle.repo_publish.specs.declared.publishing.PublishEnd.TheVariants.{SinkFault}
use Rattle.repo_publish.specs.Steps.{is_post_fault, is_tree_fault}
use Rattle.repo_publish.proofs.Faults.{fails_then, none_then, file_is_no_fault}
use Rattle.repo_publish.proofs.Left.{fits_here, refused_here}
use Rattle.repo_publish.proofs.Gathered.{more_gathered, ends_here, never_so_many, not_sink}
use Rattle.repo_publish.proofs.files.gather.Goals as goal

pub returns-in-Err-clause-end : goal.returns-in-Err-clause-end
returns-in-Err-clause-end g c =
    let draft = c.loop-count.draft in
    ends_here c.loop-count._count (g.T.Tree.left c.args.tree.now) (g.T.Tree.left c.loop-count.tree) (g.T.Tree.left c.next.new.self) (g.P.Post.files c.args.post.now) (g.P.Post.files c.loop-count.post)
    draft.inner.items draft.contents draft.last c.loop-count.invariant.way c.in-File.file c.in-Err.end c.in-File.ensures.took c.in-Err.ensures.end

pub returns-in-Err-clause-refused : goal.returns-in-Err-clause-refused
returns-in-Err-clause-refused g c =
    let draft = c.loop-count.draft in
    refused_here c.loop-count._count (g.T.Tree.left c.args.tree.now) (g.T.Tree.left c.loop-count.tree) (g.T.Tree.left c.next.new.self) (g.P.Post.files c.args.post.now) (g.P.Post.files c.loop-count.post) (g.P.Post.files c.take.new.post)
    draft.inner.items draft.contents draft.last c.loop-count.invariant.way c.in-File.file c.in-Err.end c.in-File.ensures.took c.in-Err.ensures.end c.in-Err.ensures.untouched

pub returns-in-Err-clause-unfit : goal.returns-in-Err-clause-unfit
returns-in-Err-clause-unfit g c =
    let way = c.loop-count.invariant.way in
    fits_here way.done c.in-File.file c.in-Err.end (c.in-Err.ensures.end way.done way.taken)

pub returns-in-Err-clause-tree_faults : goal.returns-in-Err-clause-tree_faults
returns-in-Err-clause-tree_faults g c =
    let way = c.loop-count.invariant.way in
    none_then (is_tree_fault c.in-Err.end) (g.T.Tree.faults c.args.tree.now) (g.T.Tree.faults c.loop-count.tree) (g.T.Tree.faults c.next.new.self)
    c.loop-count.invariant.tree_faults (file_is_no_fault way.done c.in-File.file c.in-Err.end (c.in-Err.ensures.end way.done way.taken)) c.in-File.ensures.faults

pub returns-in-Err-clause-post_faults : goal.returns-in-Err-clause-post_faults
returns-in-Err-clause-post_faults g c =
    fails_then (is_post_fault c.in-Err.end) (g.P.Post.faults c.args.post.now) (g.P.Post.faults c.loop-count.post) (g.P.Post.faults c.take.new.post)
    c.loop-count.invariant.post_faults c.in-Err.ensures.faults

pub returns-in-Err-clause-no_sink : goal.returns-in-Err-clause-no_sink
returns-in-Err-clause-no_sink g c =
    let way = c.loop-count.invariant.way in
    λ e. let same : c.in-Err.end ≡ SinkFault = cc in
    not_sink way.done c.in-File.file c.in-Err.end (c.in-Err.ensures.end way.done way.taken) same

pub loop-count-preserved : goal.loop-count-preserved
loop-count-preserved g c =
    let draft = c.loop-count.draft in
    let now = c.take.new.draft in
    let is = c.loop-count.invariant in
    record {
      way = more_gathered c.loop-count._count (g.T.Tree.left c.args.tree.now) (g.T.Tree.left c.loop-count.tree) (g.T.Tree.left c.next.new.self) (g.P.Post.files c.args.post.now) (g.P.Post.files c.loop-count.post)
          draft.inner.items draft.contents draft.last is.way c.in-File.file (g.P.Post.files c.take.new.post) now.inner.items now.contents now.last
          c.in-File.ensures.took c.in-Ok.ensures.taken is.files_told c.in-Ok.ensures.posts;
      listing = c.take.ensures.listing ∙ is.listing;
      files_told = c.take.ensures.files_told ∙ is.files_told;
      post_faults = fails_then false (g.P.Post.faults c.args.post.now) (g.P.Post.faults c.loop-count.post) (g.P.Post.faults c.take.new.post) is.post_faults c.in-Ok.ensures.faults;
      list_faults = c.take.ensures.list_faults ∙ is.list_faults;
      tree_faults = fails_then false (g.T.Tree.faults c.args.tree.now) (g.T.Tree.faults c.loop-count.tree) (g.T.Tree.faults c.next.new.self) is.tree_faults c.in-File.ensures.faults;
      tree_told = c.next.ensures.told ∙ is.tree_told;
    }

pub unreachable-requires : goal.unreachable-requires
unreachable-requires g c =
    let draft = c.loop-count.draft in
    never_so_many c.loop-count._count (g.T.Tree.left c.args.tree.now) (g.T.Tree.left c.loop-count.tree) (g.T.Tree.left c.loop-count.tree) (g.P.Post.files c.args.post.now) (g.P.Post.files c.loop-count.post)
    draft.inner.items draft.contents draft.last c.loop-count.invariant.way (omega (arith, c.loop-count-test.false, c.loop-count.auto._count-end))
