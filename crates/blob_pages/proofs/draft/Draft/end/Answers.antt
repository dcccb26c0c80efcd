use Rattle.std.proofs.Common.{rules, ◌≡◌, ◌-◌, ◌<◌, List, ℕ, length, take, drop, Some, None, leb, le-leb, sym, subst, ap, ◌∙◌, arith, ◌%◌, Option, is_some, true, length-drop}
use Rattle.std.proofs.lemmas.Bool.{cond-true, cond-false, lt-leb}
use Rattle.std.proofs.lemmas.List.{take_rest}
use Rattle.pkg_merkle.specs.Merkle.{merkle_root}
use Rattle.blob_pages.specs.Pages.{begun_page, open_page}
use Rattle.blob_pages.specs.Draft.{Progress, progress, kept_of, IsDraftOf}
use Rattle.blob_pages.proofs.Passing.{begun_page-rest, begun_some}
use Rattle.blob_pages.proofs.draft.Draft.end.Goals as goal
use Rattle.blob_pages.proofs.draft.Draft.end.Goals.{then-len-le-KEPT_LIMIT, else-len-le-KEPT_LIMIT}

kept : (c : goal.Joined-len-le-KEPT_LIMIT) → c.if-len-le-KEPT_LIMIT.kept ≡ kept_of c.self.inside.len c.self.inside.tail.items
kept c = elim c.if-len-le-KEPT_LIMIT.branch [
  | then-len-le-KEPT_LIMIT w ↦ w.kept-is ∙ ap (λ (l : List ℕ). Some l) w.make.ensures.list ∙ sym (cond-true (leb c.self.inside.len 1048576) (Some c.self.inside.tail.items) None (le-leb c.self.inside.len 1048576 w.if-len-le-KEPT_LIMIT.true))
  | else-len-le-KEPT_LIMIT w ↦ w.kept-is ∙ sym (cond-false (leb c.self.inside.len 1048576) (Some c.self.inside.tail.items) None (lt-leb c.self.inside.len 1048576 w.if-len-le-KEPT_LIMIT.false))
]

pub returns-clause-ends : goal.returns-clause-ends
returns-clause-ends c = λ blob is.
    let d = c.self.inside in
    let own : IsDraftOf (progress d.root d.len d.hasher d.pages d.tail.items d.from) blob = subst (λ (v : Progress). IsDraftOf v blob) (sym c.self.view_is) is in
    let inv = c.self.invariant in
    let size : length blob ≡ d.len = omega (arith, own.hashed.count, inv.most, inv.count, inv.within, c.if-have-len.false, c.len.ensures) in
    let same : d.root ≡ c.finish-got.result = search rules in
    let root = same ∙ c.finish-got.ensures.root blob own.hashed in
    let bytes : List ℕ = c.deref.result.now in
    let rest : take (length bytes - d.from) (drop d.from bytes) ≡ drop d.from d.tail.items = take_rest bytes d.from ∙ ap (drop d.from) c.deref.ensures.value in
    let short : length (drop d.from d.tail.items) < 4096 = subst (λ (v : Progress). length v.rest < 4096) (sym c.self.view_is) c.requires in
    let opened = c.begun_page-open.ensures ∙ ap begun_page rest ∙ begun_page-rest (progress d.root d.len d.hasher d.pages d.tail.items d.from) blob short own in
    subst (λ (v : Progress). (length blob ≡ v.len) × (v.root ≡ merkle_root blob) × (c.begun_page-open.result ≡ open_page blob) × (c.if-len-le-KEPT_LIMIT.kept ≡ kept_of v.len blob)) c.self.view_is
    (size, root, opened, kept c ∙ own.kept)

pub returns-clause-begun : goal.returns-clause-begun
returns-clause-begun c = λ some.
    let d = c.self.inside in
    let inv = c.self.invariant in
    let bytes : List ℕ = c.deref.result.now in
    let rest : take (length bytes - d.from) (drop d.from bytes) ≡ drop d.from d.tail.items = take_rest bytes d.from ∙ ap (drop d.from) c.deref.ensures.value in
    let short : length (drop d.from d.tail.items) < 4096 = subst (λ (v : Progress). length v.rest < 4096) (sym c.self.view_is) c.requires in
    let begun = begun_some (drop d.from d.tail.items) (subst (λ (o : Option (List ℕ)). is_some o ≡ true) (c.begun_page-open.ensures ∙ ap begun_page rest) some) in
    let size = length-drop d.from d.tail.items in
    let left : d.len % 4096 ≡ length (drop d.from d.tail.items) = omega (arith, inv.most, inv.count, inv.within, c.if-have-len.false, c.len.ensures, short, size, d.tail.ok.0) in
    subst (λ (v : Progress). 0 < v.len % 4096) c.self.view_is (omega (arith, left, begun))
