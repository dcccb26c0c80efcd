use Rattle.std.proofs.Common.{◌≡◌, List, ℕ, Err, length, ap, subst, ◌∙◌, arith}
use Rattle.std.proofs.lemmas.List.{length-map}
use Rattle.far_archive.specs.declared.write.FarEntry.{FarEntry}
use Rattle.far_archive.specs.declared.fault.WriteFault.{WriteFault}
use Rattle.far_archive.specs.Archive.{IsArchive}
use Rattle.far_archive.specs.Written.{listed, written, IsFirstUnordered}
use Rattle.meta_contents.specs.Contents.{text_of}
use Rattle.package_book.specs.Book.{Files, IsBook}
use Rattle.repo_publish.specs.Published.{inner_with}
use Rattle.repo_publish.specs.Steps.{IsNoBook}
use Rattle.repo_publish.proofs.Inner.{inner_short}
use Rattle.repo_publish.proofs.Judged.{in_order, is_package, is_no_package}
use Rattle.repo_publish.proofs.package.package_of.Goals as goal

pub write_far-requires : goal.write_far-requires
write_far-requires c =
    let entries = c.in-Ok.inner.items in
    let files = c.args.draft.inner.items in
    let short = inner_short c.args.path.now (listed files) (text_of c.args.draft.contents) in
    let same : length (listed entries) ≡ length (inner_with c.args.path.now (listed files) (text_of c.args.draft.contents)) = ap (λ (l : Files). length l) c.in-Ok.ensures.inner in
    omega (arith, short, same, length-map {B = List ℕ × List ℕ} entries (λ (e : FarEntry). (e.name, e.bytes)), length-map {B = List ℕ × List ℕ} files (λ (e : FarEntry). (e.name, e.bytes)), c.deref.ensures.len, c.requires.1.few_inner, ap (λ (l : List FarEntry). length l) c.deref.ensures.value)

pub unreachable-requires : goal.unreachable-requires
unreachable-requires c =
    let entries = c.in-Ok.inner.items in
    let draft = c.args.draft in
    let k = c.in-Err-Order.field-0-0 in
    let is = (c.write_far.ensures.order k).0 (c.in-Err-Order.is ∙ ap (λ (fault : WriteFault). Err fault) c.in-Err-Order.field-0-is) in
    in_order c.args.path.now c.requires.0 draft.inner.items draft.contents draft.last c.requires.1 entries c.in-Ok.ensures.inner k
    (subst (λ (l : List FarEntry). IsFirstUnordered (listed l) k) c.deref.ensures.value is)

pub returns-in-Ok-judge-clause-package : goal.returns-in-Ok-judge-clause-package
returns-in-Ok-judge-clause-package c =
    let entries = c.in-Ok.inner.items in
    let draft = c.args.draft in
    let meta = c.in-Ok-write_far.meta.items in
    let text : meta ≡ written (listed entries) = c.in-Ok-write_far.ensures.text ∙ ap (λ (l : List FarEntry). written (listed l)) c.deref.ensures.value in
    let archive : IsArchive meta (listed entries) = subst (λ (l : List FarEntry). IsArchive meta (listed l)) c.deref.ensures.value c.in-Ok-write_far.ensures.stands in
    let found = c.in-Ok-judge.ensures.book.0 in
    let is : IsBook meta found = subst (λ (m : List ℕ). IsBook m found) c.deref-in-Ok-write_far.ensures.value c.in-Ok-judge.ensures.book.1 in
    λ done taken.
    is_package c.args.path.now done draft.inner.items draft.contents draft.last taken entries c.in-Ok.ensures.inner meta text
    c.texts_stand_or_have_a_fault.ensures.one c.books_are_read.ensures.only archive c.in-Ok.ensures.stands found is

pub returns-in-Ok-write_far-clause-end : goal.returns-in-Ok-write_far-clause-end
returns-in-Ok-write_far-clause-end c =
    let entries = c.in-Ok.inner.items in
    let draft = c.args.draft in
    let meta = c.in-Ok-write_far.meta.items in
    let text : meta ≡ written (listed entries) = c.in-Ok-write_far.ensures.text ∙ ap (λ (l : List FarEntry). written (listed l)) c.deref.ensures.value in
    let end = c.in-Err.end in
    λ done taken.
    is_no_package c.args.path.now done draft.inner.items draft.contents draft.last taken entries c.in-Ok.ensures.inner meta text end
    (subst (λ (m : List ℕ). IsNoBook m end) c.deref-in-Ok-write_far.ensures.value c.in-Err.ensures.end)
