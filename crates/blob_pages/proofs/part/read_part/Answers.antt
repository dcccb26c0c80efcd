use Rattle.std.proofs.Common.{◌≡◌, ℕ, ◌+◌, ◌-◌, ◌/◌, ◌%◌, ◌<◌, ◌≤◌, ◌++◌, min, List, length, take, drop, get_or, Option, IfSome, sym, subst, ap, ◌∙◌, arith, length-drop}
use Rattle.std.proofs.lemmas.List.{drop-drop, length-take}
use Rattle.disk_model.specs.Past.{Past, state_of, MayRead}
use Rattle.blob_pages.proofs.Parts.{bytes_read, piece_put, both_then, part_within}
use Rattle.blob_pages.proofs.part.read_part.Goals as goal

pub loop-done-preserved : goal.loop-done-preserved
loop-done-preserved g c =
    let disk = g.D.Disk in
    let inv = c.loop-done.invariant in
    let step = c.read_piece.ensures in
    let chain : List ℕ = c.args.chain.now in
    let first : List ℕ = c.args.out.now in
    let out : List ℕ = c.loop-done.out in
    let done : ℕ = c.loop-done.done in
    let count : ℕ = c.min-count.result in
    let p : ℕ = c.args.from + done in
    let part : ℕ = c.in_ok-done.field-0 in
    let same : length out ≡ length first = c.loop-done.auto.out in
    let most : count ≤ length first = omega (arith, c.min-count.ensures) in
    let left : length (take (count - done) (drop done out)) ≡ count - done = omega (arith, length-take (count - done) (drop done out), length-drop done out, same, most) in
    let size : part ≡ min (count - done) (4096 - p % 4096) = c.in_ok-done.ensures.count ∙ ap (λ (k : ℕ). min k (4096 - p % 4096)) left in
    let page = c.in_ok-done.ensures.page in
    let may : IfSome (disk.past c.args.disk.now) (λ (past : Past). MayRead (state_of past (c.args.start + get_or chain (p / 4096) 0)) page.0) =
    subst (λ (t : Option Past). IfSome t (λ (past : Past). MayRead (state_of past (c.args.start + get_or chain (p / 4096) 0)) page.0)) inv.past_stays page.2 in
    let within : done + part ≤ count = omega (arith, size, inv.within) in
    let below : done < count = c.loop-done-test.true in
    let end : p + part ≤ c.args.len = omega (arith, within, below, c.min-count.ensures, c.saturating_sub.ensures) in
    let inside : p / 4096 < length chain = omega (arith, below, c.min-count.ensures, c.saturating_sub.ensures, c.requires.whole) in
    let short : part + p % 4096 ≤ 4096 = omega (arith, size) in
    record {
      within = within;
      part = λ blob each. both_then (disk.past c.args.disk.now) (inv.part blob each)
          (bytes_read c.args.start chain blob c.args.len p part (disk.pages c.args.disk.now) page.0 (disk.past c.args.disk.now) c.pages-count.ensures.told c.requires.range each may end inside short)
          (λ out_is bytes_is.
          let bytes : List ℕ = drop c.args.from blob in
          piece_put bytes c.read_piece.new.out out first done part count out_is (part_within bytes out first done out_is same (omega (arith, inv.within, most))) (omega (arith, within))
          (page.3 ∙ ap (λ (l : List ℕ). l ++ drop part (take (count - done) (drop done out))) (bytes_is ∙ ap (take part) (sym (drop-drop done c.args.from blob)))));
      past_stays = step.past_stays ∙ inv.past_stays;
      pages_stay = step.pages_stay ∙ inv.pages_stay;
      tie_stays = step.tie_stays ∙ inv.tie_stays;
      faults_never_fall = omega (arith, step.faults_never_fall, inv.faults_never_fall);
    }

pub returns-clause-part : goal.returns-clause-part
returns-clause-part g c = λ blob each.
    let first : List ℕ = c.args.out.now in
    let all : c.loop-done.done ≡ c.min-count.result = omega (arith, c.loop-done.invariant.within, c.loop-done-test.false) in
    subst (λ (k : ℕ). IfSome (g.D.Disk.past c.args.disk.now) (λ (past : Past). c.loop-done.out ≡ take k (drop c.args.from blob) ++ drop k first)) all (c.loop-done.invariant.part blob each)
