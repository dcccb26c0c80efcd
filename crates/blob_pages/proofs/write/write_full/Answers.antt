use Rattle.std.proofs.Common.{◌≡◌, ℕ, ◌+◌, ◌<◌, List, length, get_or, Result, Ok, Err, refl, inl, inr, sym, subst, ap, ◌∙◌, arith, length-drop}
use Rattle.std.specs.Prelude.{OnErr}
use Rattle.disk_model.proofs.ManyPages.{all_written_write}
use Rattle.disk_model.proofs.Regions.{writes_write}
use Rattle.disk_model.specs.Images.{with_acts}
use Rattle.blob_pages.specs.Pages.{page_of}
use Rattle.blob_pages.specs.Draft.{Progress}
use Rattle.blob_pages.specs.Written.{place, IsOn, AreWritten, page_acts}
use Rattle.blob_pages.proofs.Writing.{places_apart, written_next}
use Rattle.blob_pages.proofs.Acts.{acts_page, acts_broke}
use Rattle.blob_pages.proofs.write.write_full.Goals as goal

-- what holds anyway holds where there is an error
on_err : {T E : Type 0} (r : Result T E) (Q : Type 0) → Q → OnErr r Q
on_err (Ok x) Q h = tt
on_err (Err e) Q h = h

pub overflow_add-start : goal.overflow_add-start
overflow_add-start g c =
    let full = c.in-Some.ensures.some.0 refl in
    omega (arith, c.requires.range c.pages.result 0 (omega (arith, full, c.loop-page.invariant.whole, c.pages.ensures)), c.pages-count.ensures.count, c.pages-count.type_inv)

pub returns-in_err-write-clause-written : goal.returns-in_err-write-clause-written
returns-in_err-write-clause-written g c = λ blob is before.
    let disk = g.D.Disk in
    let chain : List ℕ = c.args.chain.now in
    let k : ℕ = c.loop-page.draft.pages in
    let at : c.args.start + get_or chain c.pages.result 0 ≡ place c.args.start chain k = ap (λ (n : ℕ). c.args.start + get_or chain n 0) c.pages.ensures in
    let full = c.in-Some.ensures.some.0 refl in
    let lt : k < length chain = omega (arith, full, c.loop-page.invariant.whole) in
    all_written_write (place c.args.start chain) (page_of blob) k (c.args.start + get_or chain c.pages.result 0) c.in-Some.page.now (disk.past c.loop-page.disk) (disk.past c.write.new.self)
    (λ i below e. places_apart c.args.start chain k c.requires.apart lt i below (sym at ∙ e)) (inr c.in_err-write.ensures.failed) (c.loop-page.invariant.written blob is before)

pub returns-in_err-write-clause-broke : goal.returns-in_err-write-clause-broke
returns-in_err-write-clause-broke g c = λ blob is.
    let past = g.D.Disk.past in
    let inv = c.loop-page.invariant in
    let chain : List ℕ = c.args.chain.now in
    let k : ℕ = c.loop-page.draft.pages in
    let at : c.args.start + get_or chain c.pages.result 0 ≡ place c.args.start chain k = ap (λ (n : ℕ). c.args.start + get_or chain n 0) c.pages.ensures in
    on_err c.from_residual.result _
    (acts_broke (past c.args.disk.now) (past c.loop-page.disk) (past c.write.new.self) c.args.start chain blob c.args.draft.now.pages k (c.args.start + get_or chain c.pages.result 0) c.in-Some.page.now at (c.in-Some.ensures.page blob (inv.stands blob is)) (inv.acts blob is) c.in_err-write.ensures.failed)

pub returns-in_err-write-clause-only : goal.returns-in_err-write-clause-only
returns-in_err-write-clause-only g c =
    let disk = g.D.Disk in
    let chain : List ℕ = c.args.chain.now in
    let k : ℕ = c.loop-page.draft.pages in
    let at : c.args.start + get_or chain c.pages.result 0 ≡ place c.args.start chain k = ap (λ (n : ℕ). c.args.start + get_or chain n 0) c.pages.ensures in
    let full = c.in-Some.ensures.some.0 refl in
    let lt : k < length chain = omega (arith, full, c.loop-page.invariant.whole) in
    writes_write (IsOn c.args.start chain) (c.args.start + get_or chain c.pages.result 0) c.in-Some.page.now (disk.past c.args.disk.now) (disk.past c.loop-page.disk) (disk.past c.write.new.self)
    (k, lt, at) (inr c.in_err-write.ensures.failed) c.loop-page.invariant.only

pub loop-page-smaller : goal.loop-page-smaller
loop-page-smaller g c =
    let full = c.in-Some.ensures.some.0 refl in
    omega (arith, full, ap (λ (v : Progress). length v.rest) c.pass_page.ensures.passed, length-drop 4096 c.loop-page.draft.rest)

pub loop-page-preserved : goal.loop-page-preserved
loop-page-preserved g c =
    let disk = g.D.Disk in
    let inv = c.loop-page.invariant in
    let old : Progress = c.loop-page.draft in
    let step = c.write.ensures in
    let wrote = c.in_ok-write.ensures.wrote in
    let passed = c.pass_page.ensures.passed in
    let chain : List ℕ = c.args.chain.now in
    let k : ℕ = old.pages in
    let at : c.args.start + get_or chain c.pages.result 0 ≡ place c.args.start chain k = ap (λ (n : ℕ). c.args.start + get_or chain n 0) c.pages.ensures in
    let full = c.in-Some.ensures.some.0 refl in
    let lt : k < length chain = omega (arith, full, inv.whole) in
    record {
      whole = omega (arith, full, inv.whole, ap (λ (v : Progress). v.pages) passed, ap (λ (v : Progress). length v.rest) passed, length-drop 4096 old.rest);
      stands = λ blob is. c.pass_page.ensures.stands blob (inv.stands blob is);
      root = ap (λ (v : Progress). v.root) passed ∙ inv.root;
      len = ap (λ (v : Progress). v.len) passed ∙ inv.len;
      hasher = ap (λ (v : Progress). v.hasher) passed ∙ inv.hasher;
      kept = ap (λ (v : Progress). v.kept) passed ∙ inv.kept;
      forward = omega (arith, inv.forward, ap (λ (v : Progress). v.pages) passed);
      acts = λ blob is.
          acts_page (disk.past c.args.disk.now) (disk.past c.loop-page.disk) (disk.past c.write.new.self) c.args.start chain blob c.args.draft.now.pages k (c.args.start + get_or chain c.pages.result 0) c.in-Some.page.now inv.forward at (c.in-Some.ensures.page blob (inv.stands blob is)) (inv.acts blob is) wrote
          ∙ ap (λ (n : ℕ). with_acts (disk.past c.args.disk.now) (page_acts c.args.start chain blob c.args.draft.now.pages n)) (sym (ap (λ (v : Progress). v.pages) passed));
      written = λ blob is before.
          subst (λ (n : ℕ). AreWritten (disk.past c.write.new.self) c.args.start chain blob n) (sym (ap (λ (v : Progress). v.pages) passed))
          (written_next c.args.start chain blob k (c.args.start + get_or chain c.pages.result 0) c.in-Some.page.now (disk.past c.loop-page.disk) (disk.past c.write.new.self) c.requires.apart lt at (c.in-Some.ensures.page blob (inv.stands blob is)) wrote (inv.written blob is before));
      only = writes_write (IsOn c.args.start chain) (c.args.start + get_or chain c.pages.result 0) c.in-Some.page.now (disk.past c.args.disk.now) (disk.past c.loop-page.disk) (disk.past c.write.new.self) (k, lt, at) (inl wrote) inv.only;
      pages_stay = step.pages_stay ∙ inv.pages_stay;
      tie_stays = step.tie_stays ∙ inv.tie_stays;
      reads_stay = step.reads_stay ∙ inv.reads_stay;
      faults_never_fall = omega (arith, step.faults_never_fall, inv.faults_never_fall);
    }
