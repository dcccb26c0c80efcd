use Rattle.std.proofs.Common.{◌≡◌, ℕ, List, [], ◌∷◌, ◌++◌, length, set, sym, ap, ◌∙◌}
use Rattle.std.specs.List.{position}
use Rattle.pkg_names.specs.Root.{root_eq}
use Rattle.repo_source.specs.declared.file.RepoFile.{RepoFile}
use Rattle.repo_publish.specs.Post.{file_of}
use Rattle.repo_publish.proofs.Lists.{put_in_place, put_in_end}
use Rattle.repo_publish.proofs.memory_post.put_blob.Goals as goal

pub returns-in-Some-clause-ok : goal.returns-in-Some-clause-ok
returns-in-Some-clause-ok c =
    let root = c.args.root.now in
    let files = c.args.files.now.items in
    let file : RepoFile = file_of root c.args.bytes.now in
    let has = λ (f : RepoFile). root_eq f.root root in
    let same : c.make.result ≡ c.args.bytes.now = c.make.ensures.list ∙ c.in_ok-from_slice.ensures.items in
    ap (λ (b : List ℕ). set files c.in-Some.place (record { root = root; len = length c.args.bytes.now; bytes = b })) same
    ∙ put_in_place has file files c.in-Some.place file (sym (c.place_of.ensures ∙ ap (position has) c.deref.ensures.value) ∙ c.in-Some.is)

pub returns-in_ok-push-in-None-clause-ok : goal.returns-in_ok-push-in-None-clause-ok
returns-in_ok-push-in-None-clause-ok c =
    let root = c.args.root.now in
    let files = c.args.files.now.items in
    let file : RepoFile = file_of root c.args.bytes.now in
    let has = λ (f : RepoFile). root_eq f.root root in
    let same : c.make.result ≡ c.args.bytes.now = c.make.ensures.list ∙ c.in_ok-from_slice.ensures.items in
    let pushed : List ℕ → List RepoFile = λ b. files ++ (let f : RepoFile = record { root = root; len = length c.args.bytes.now; bytes = b } in f) ∷ [] in
    c.in_ok-push-in-None.ensures.items ∙ ap pushed same
    ∙ put_in_end has file files (sym (c.place_of.ensures ∙ ap (position has) c.deref.ensures.value) ∙ c.in-None.is)
