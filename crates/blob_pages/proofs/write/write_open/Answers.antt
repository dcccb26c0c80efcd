use Rattle.std.proofs.Common.{◌≡◌, ℕ, ◌+◌, ◌/◌, List, Option, Some, None, is_some, refl, sym, subst, ap, ◌∙◌}
use Rattle.std.proofs.lemmas.Result.{on_ok_weaker}
use Rattle.blob_pages.specs.Pages.{page_of, open_page, page_count}
use Rattle.blob_pages.specs.Written.{place, AreWritten}
use Rattle.blob_pages.proofs.Writing.{written_next, open_none, open_some}
use Rattle.blob_pages.proofs.write.write_open.Goals as goal

pub returns-in-Some-clause-written : goal.returns-in-Some-clause-written
returns-in-Some-clause-written g c =
    let disk = g.D.Disk in
    let chain : List ℕ = c.args.chain.now in
    let len : ℕ = c.args.len in
    let lt = c.requires.whole (ap (λ (o : Option (List ℕ)). is_some o) c.in-Some.is) in
    on_ok_weaker c.write_at.result (λ wrote. λ blob size is before.
    let e : Some c.in-Some.page ≡ open_page blob = sym c.in-Some.is ∙ is in
    let some = open_some blob c.in-Some.page e in
    let count : page_count len ≡ len / 4096 + 1 = ap page_count (sym size) ∙ some.1 ∙ ap (λ (n : ℕ). n / 4096 + 1) size in
    let last : c.in-Some.page ≡ page_of blob (len / 4096) = some.0 ∙ ap (λ (n : ℕ). page_of blob (n / 4096)) size in
    subst (λ (n : ℕ). AreWritten (disk.past c.write_at.new.disk) c.args.start chain blob n) (sym count)
    (written_next c.args.start chain blob (len / 4096) (place c.args.start chain (len / 4096)) c.in-Some.page (disk.past c.args.disk.now) (disk.past c.write_at.new.disk) c.requires.apart lt refl last wrote before)) c.write_at.ensures.wrote

pub returns-in-None-clause-written : goal.returns-in-None-clause-written
returns-in-None-clause-written g c = λ blob size is before.
    let disk = g.D.Disk in
    let len : ℕ = c.args.len in
    let e : None ≡ open_page blob = sym c.in-None.is ∙ is in
    let count : page_count len ≡ len / 4096 = ap page_count (sym size) ∙ open_none blob e ∙ ap (λ (n : ℕ). n / 4096) size in
    subst (λ (n : ℕ). AreWritten (disk.past c.args.disk.now) c.args.start c.args.chain.now blob n) (sym count) before
