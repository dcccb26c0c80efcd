use Rattle.std.proofs.Common.{ℕ, List, Bool, sym, ap, ◌∙◌}
use Rattle.std.specs.List.{position}
use Rattle.std.specs.Ordering.{nat_cmp, is_lt}
use Rattle.std.specs.Cmp.Lexicographic.{slice_cmp}
use Rattle.far_archive.specs.declared.write.FarEntry.{FarEntry}
use Rattle.far_archive.specs.Written.{listed}
use Rattle.repo_publish.proofs.Lists.{put_before_place, put_before_end, put_before-map}
use Rattle.repo_publish.proofs.package.put_file.Goals as goal

less : List ℕ → FarEntry → Bool
less name other = is_lt (slice_cmp nat_cmp name other.name)

pub returns-in_ok-insert-in-Some : goal.returns-in_ok-insert-in-Some
unfolding less
returns-in_ok-insert-in-Some c =
    let file = c.args.file in
    let files = c.args.inner.now.items in
    let at = sym (c.place_behind.ensures ∙ ap (λ (name : List ℕ). position (less name) c.deref.result.now) c.as_slice.ensures.text ∙ ap (position (less file.name)) c.deref.ensures.value) ∙ c.in-Some.is in
    ap listed (c.in_ok-insert-in-Some.ensures.items ∙ put_before_place (less file.name) file files c.in-Some.place file at)
    ∙ put_before-map (λ (f : FarEntry). (f.name, f.bytes)) (λ (next : List ℕ × List ℕ). is_lt (slice_cmp nat_cmp file.name next.0)) file files

pub returns-in_ok-push-in-None : goal.returns-in_ok-push-in-None
unfolding less
returns-in_ok-push-in-None c =
    let file = c.args.file in
    let files = c.args.inner.now.items in
    let at = sym (c.place_behind.ensures ∙ ap (λ (name : List ℕ). position (less name) c.deref.result.now) c.as_slice.ensures.text ∙ ap (position (less file.name)) c.deref.ensures.value) ∙ c.in-None.is in
    ap listed (c.in_ok-push-in-None.ensures.items ∙ put_before_end (less file.name) file files at)
    ∙ put_before-map (λ (f : FarEntry). (f.name, f.bytes)) (λ (next : List ℕ × List ℕ). is_lt (slice_cmp nat_cmp file.name next.0)) file files
