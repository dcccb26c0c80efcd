use Rattle.std.proofs.Common.{◌≡◌, ◌∷◌, ◌++◌, [], Bool, true, false, List, ℕ, Some, None, sym, ap, subst, ◌∙◌}
use Rattle.far_archive.specs.declared.write.FarEntry.{FarEntry}
use Rattle.meta_contents.specs.Contents.{Pair, is_in_meta}
use Rattle.repo_source.specs.Repo.{Fails}
use Rattle.repo_source.proofs.Faults.{failed_same}
use Rattle.repo_publish.specs.Refusals.{file_refusal}
use Rattle.repo_publish.specs.Steps.{IsTaken}
use Rattle.repo_publish.proofs.Faults.{refusal_is_no_fault}
use Rattle.repo_publish.proofs.Fine.{is_refusal}
use Rattle.repo_publish.proofs.Taken.{room_outer, fresh_outer, small_file, taken_inner, taken_outer}
use Rattle.repo_publish.proofs.files.take.Goals as goal

pub returns-in-Some-clause-faults : goal.returns-in-Some-clause-faults
returns-in-Some-clause-faults g c =
    let done = c.requires.taken.0 in
    let faults = g.P.Post.faults c.args.post.now in
    let refused : file_refusal done c.args.file ≡ Some c.in-Some.end = sym (c.refusal.ensures done c.requires.taken.1) ∙ c.in-Some.is in
    subst (λ (b : Bool). Fails b faults faults) (sym (refusal_is_no_fault c.in-Some.end (is_refusal done c.args.file c.in-Some.end refused))) (failed_same faults)

pub returns-in-Ok-push-clause-taken : goal.returns-in-Ok-push-clause-taken
returns-in-Ok-push-clause-taken g c =
    let draft = c.args.draft.now in
    let file = c.args.file in
    let is : is_in_meta file.name ≡ true = ap is_in_meta (sym c.as_slice.ensures.text) ∙ sym c.is_in_meta.ensures ∙ c.if-is_in_meta.true in
    λ done taken.
    let none : file_refusal done file ≡ None = sym (c.refusal.ensures done taken) ∙ c.in_default.is in
    subst (λ (name : List ℕ). IsTaken (done ++ file ∷ []) c.push.new.self.items draft.contents (Some name)) (sym c.in-Ok.ensures.same)
    (subst (λ (files : List FarEntry). IsTaken (done ++ file ∷ []) files draft.contents (Some file.name)) (sym {A = List FarEntry} c.in-Ok-push.ensures.items)
    (taken_inner done draft.inner.items draft.contents draft.last file taken none is))

pub put_outer-requires-clause-small : goal.put_outer-requires-clause-small
put_outer-requires-clause-small g c =
    let draft = c.args.draft.now in
    let done = c.requires.taken.0 in
    let none : file_refusal done c.args.file ≡ None = sym (c.refusal.ensures done c.requires.taken.1) ∙ c.in_default.is in
    small_file done draft.inner.items draft.contents draft.last c.args.file c.requires.taken.1 none

pub put_outer-requires-clause-fresh : goal.put_outer-requires-clause-fresh
put_outer-requires-clause-fresh g c =
    let draft = c.args.draft.now in
    let done = c.requires.taken.0 in
    let none : file_refusal done c.args.file ≡ None = sym (c.refusal.ensures done c.requires.taken.1) ∙ c.in_default.is in
    fresh_outer done draft.inner.items draft.contents draft.last c.args.file c.requires.taken.1 none

pub put_outer-requires-clause-room : goal.put_outer-requires-clause-room
put_outer-requires-clause-room g c =
    let draft = c.args.draft.now in
    let done = c.requires.taken.0 in
    let is : is_in_meta c.args.file.name ≡ false = ap is_in_meta (sym c.as_slice.ensures.text) ∙ sym c.is_in_meta.ensures ∙ c.if-is_in_meta.false in
    let none : file_refusal done c.args.file ≡ None = sym (c.refusal.ensures done c.requires.taken.1) ∙ c.in_default.is in
    room_outer done draft.inner.items draft.contents draft.last c.args.file c.requires.taken.1 none is

pub returns-in-Ok-put_outer-clause-taken : goal.returns-in-Ok-put_outer-clause-taken
returns-in-Ok-put_outer-clause-taken g c =
    let draft = c.args.draft.now in
    let file = c.args.file in
    let is : is_in_meta file.name ≡ false = ap is_in_meta (sym c.as_slice.ensures.text) ∙ sym c.is_in_meta.ensures ∙ c.if-is_in_meta.false in
    λ done taken.
    let none : file_refusal done file ≡ None = sym (c.refusal.ensures done taken) ∙ c.in_default.is in
    subst (λ (name : List ℕ). IsTaken (done ++ file ∷ []) draft.inner.items c.put_outer.new.contents (Some name)) (sym c.in-Ok.ensures.same)
    (subst (λ (pairs : List Pair). IsTaken (done ++ file ∷ []) draft.inner.items pairs (Some file.name)) (sym c.in-Ok-put_outer.ensures.listed)
    (taken_outer done draft.inner.items draft.contents draft.last file taken none is))
