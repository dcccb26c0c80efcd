use Rattle.std.proofs.Common.{List, sym, ap, ◌∙◌}
use Rattle.repo_source.specs.declared.file.RepoFile.{RepoFile}
use Rattle.repo_source.specs.Repo.{file_under}
use Rattle.repo_publish.specs.Memory.{PostInMemory}
use Rattle.repo_publish.specs.Post.{with_blob}
use Rattle.repo_publish.proofs.Puts.{puts}
use Rattle.repo_publish.proofs.memory_post.MemPostPost.blob.Goals as goal
use Rattle.repo_publish.proofs.memory_post.MemPostPost.blob.Goals.{in-Ok, in-Err}

pub returns-clause-posted : goal.returns-clause-posted
returns-clause-posted c =
    let root = c.args.root.now in
    let bytes = c.args.bytes.now in
    elim c.match-put_blob.branch [
      | in-Ok w ↦ λ _ other.
          ap (λ (files : List RepoFile). file_under files other) w.in-Ok.ensures.ok ∙ puts root bytes c.self.inside.files.items other
          ∙ ap (λ (post : PostInMemory). with_blob root bytes (file_under post.files) other) c.self.view_is
      | in-Err w ↦ λ posted. absurd (cc (sym w.result-is ∙ posted))
    ]
