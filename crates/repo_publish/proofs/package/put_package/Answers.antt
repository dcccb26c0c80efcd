use Rattle.std.proofs.Common.{◌≡◌, ℕ, List, false, sym, ap, ◌∙◌}
use Rattle.std.specs.List.{list_any}
use Rattle.std.specs.Str.{bytes_eq}
use Rattle.far_archive.specs.declared.write.FarEntry.{FarEntry}
use Rattle.far_archive.specs.Written.{listed}
use Rattle.package_book.specs.Book.{package_name}
use Rattle.repo_publish.specs.Published.{put_file, has_package}
use Rattle.repo_publish.proofs.Inner.{has_listed, with_there, with_made}
use Rattle.repo_publish.proofs.Named.{package_named}
use Rattle.repo_publish.proofs.package.put_package.Goals as goal

pub returns-then-has_package : goal.returns-then-has_package
returns-then-has_package c =
    let files = c.args.inner.now.items in
    sym (with_there c.args.name.now (listed files) (has_listed files ∙ sym (c.has_package.ensures ∙ ap (list_any (λ (file : FarEntry). bytes_eq file.name package_name)) c.deref.ensures.value) ∙ c.if-has_package.true))

pub put_made-requires : goal.put_made-requires
put_made-requires c = package_named

pub returns : goal.returns
returns c =
    let files = c.args.inner.now.items in
    let name = c.args.name.now in
    let lacks : has_package (listed files) ≡ false =
    has_listed files ∙ sym (c.has_package.ensures ∙ ap (list_any (λ (file : FarEntry). bytes_eq file.name package_name)) c.deref.ensures.value) ∙ c.if-has_package.false in
    c.in_ok-put_made.ensures ∙ ap (λ (text : List ℕ). put_file (package_name, text) (listed files)) (c.make.ensures.list ∙ c.in_ok-text.ensures) ∙ sym (with_made name (listed files) lacks)
