use Rattle.std.proofs.Common.{◌≡◌, ◌+◌, ◌<◌, ℕ, List, Some, true, false, length, sym, ap, subst, ◌∙◌, arith}
use Rattle.std.specs.Str.{bytes_eq}
use Rattle.package_book.specs.Book.{contents_name}
use Rattle.pkg_merkle.specs.declared.hasher.TheConstants.{BYTES_LIMIT}
use Rattle.repo_publish.specs.declared.publishing.PublishEnd.TheVariants.{TooLarge}
use Rattle.repo_publish.specs.Refusals.{is_behind}
use Rattle.repo_publish.proofs.Counts.{order_refused, reserved_refused, large_refused}
use Rattle.repo_publish.proofs.draft.Draft.refusal.Goals as goal

pub returns-then-not-comes_behind : goal.returns-then-not-comes_behind
returns-then-not-comes_behind c =
    let draft = c.args.self.now in
    let file = c.args.file.now in
    let count : c.count.result ≡ length draft.inner.items + length draft.contents = omega (arith, c.count.ensures.count) in
    let behind : is_behind draft.last file.name ≡ false = ap (is_behind draft.last) (sym c.as_slice-name.ensures.text) ∙ sym c.comes_behind.ensures ∙ c.if-not-comes_behind.true in
    λ done taken. order_refused done draft.inner.items draft.contents draft.last taken file c.count.result count behind

pub returns-then-eq : goal.returns-then-eq
returns-then-eq c =
    let draft = c.args.self.now in
    let file = c.args.file.now in
    let count : c.count.result ≡ length draft.inner.items + length draft.contents = omega (arith, c.count.ensures.count) in
    let behind : is_behind draft.last file.name ≡ true = ap (is_behind draft.last) (sym c.as_slice-name.ensures.text) ∙ sym c.comes_behind.ensures ∙ c.if-not-comes_behind.false in
    let reserved : bytes_eq file.name contents_name ≡ true =
    ap (λ (text : List ℕ). bytes_eq text contents_name) (sym c.as_slice-name.ensures.text) ∙ ap (bytes_eq c.as_slice-name.result.now) (sym c.as_slice.ensures) ∙ sym c.eq.ensures ∙ c.if-eq.true in
    λ done taken. reserved_refused done draft.inner.items draft.contents draft.last taken file c.count.result count behind reserved

pub returns-then-len-gt-BYTES_LIMIT : goal.returns-then-len-gt-BYTES_LIMIT
returns-then-len-gt-BYTES_LIMIT c =
    let draft = c.args.self.now in
    let file = c.args.file.now in
    let count : c.count.result ≡ length draft.inner.items + length draft.contents = omega (arith, c.count.ensures.count) in
    let behind : is_behind draft.last file.name ≡ true = ap (is_behind draft.last) (sym c.as_slice-name.ensures.text) ∙ sym c.comes_behind.ensures ∙ c.if-not-comes_behind.false in
    let free : bytes_eq file.name contents_name ≡ false =
    ap (λ (text : List ℕ). bytes_eq text contents_name) (sym c.as_slice-name.ensures.text) ∙ ap (bytes_eq c.as_slice-name.result.now) (sym c.as_slice.ensures) ∙ sym c.eq.ensures ∙ c.if-eq.false in
    let large : BYTES_LIMIT < length file.bytes = subst (λ (bytes : List ℕ). BYTES_LIMIT < length bytes) c.as_slice-len.ensures.list c.if-len-gt-BYTES_LIMIT.true in
    λ done taken.
    ap (λ (bytes : List ℕ). Some (TooLarge (c.count.result + 1) (length bytes))) c.as_slice-len.ensures.list
    ∙ large_refused done draft.inner.items draft.contents draft.last taken file c.count.result count behind free large
