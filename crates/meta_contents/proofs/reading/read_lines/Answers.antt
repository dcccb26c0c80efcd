use Rattle.std.proofs.Common.{◌≡◌, ◌∷◌, [], List, ℕ, zero, suc, ◌<◌, true, false, eqb, length, Result, Ok, Err, sym, ap, subst, inl, inr, arith}
use Rattle.std.proofs.lemmas.Bool.{eqb-true}
use Rattle.std.proofs.lemmas.List.{length-append, nil_from_length}
use Rattle.std.proofs.lemmas.Result.{err_from_is_err_and}
use Rattle.pkg_names.specs.Text.{lines_of}
use Rattle.meta_contents.specs.declared.fault.ContentsFault.{ContentsFault}
use Rattle.meta_contents.specs.Contents.{Pair, paths, reading}
use Rattle.meta_contents.proofs.Law.{with_front, begins, goes_on, ends, is_done, too_many, has_a_line}
use Rattle.meta_contents.proofs.reading.read_lines.Goals as goal

pub loop-n-init : goal.loop-n-init
loop-n-init c = record {
  count = omega (arith, ap (λ (l : List Pair). length l) c.new-contents.ensures);
  left = begins c.new-contents.result (lines_of c.args.text.now) c.new-contents.ensures;
}

-- nothing is left
at_end : (front : List Pair) (n : ℕ) (rest : List ℕ) (total : Result (List Pair) ContentsFault) → true ≡ eqb (length rest) 0
    → with_front front (reading (paths front) n (lines_of rest)) ≡ total → Ok front ≡ total
at_end front n rest total empty so_far =
    is_done front n total (subst (λ (l : List ℕ). with_front front (reading (paths front) n (lines_of l)) ≡ total) (nil_from_length rest (eqb-true (length rest) 0 (sym empty))) so_far)

pub returns-then-is_empty : goal.returns-then-is_empty
returns-then-is_empty c = inl (at_end c.loop-n.contents c.loop-n.n c.loop-n.rest.now (reading [] 1 (lines_of c.args.text.now)) c.if-is_empty.ensures c.loop-n.invariant.left)

pub returns-then-is_empty-2 : goal.returns-then-is_empty-2
returns-then-is_empty-2 c = inl (at_end c.loop-n.contents c.loop-n.n c.loop-n.rest.now (reading [] 1 (lines_of c.args.text.now)) c.if-is_empty-2.ensures c.loop-n.invariant.left)

positive : (n : ℕ) → false ≡ eqb n 0 → 0 < n
positive zero e = absurd cc
positive (suc n) e = omega arith

pub returns-else-is_empty-2 : goal.returns-else-is_empty-2
returns-else-is_empty-2 c =
    let front = c.loop-n.contents in
    let total = reading [] 1 (lines_of c.args.text.now) in
    let first = has_a_line c.loop-n.rest.now (positive (length c.loop-n.rest.now) c.if-is_empty-2.ensures) in
    let here = subst (λ (ls : List (List ℕ)). with_front front (reading (paths front) c.loop-n.n ls) ≡ total) first.2 c.loop-n.invariant.left in
    inl (too_many front c.loop-n.n first.0 first.1 total (omega arith) here)

pub put_line-requires : goal.put_line-requires
put_line-requires c = omega (arith, c.loop-n.invariant.count)

pub returns-in_err-put_line : goal.returns-in_err-put_line
returns-in_err-put_line c =
    let p = err_from_is_err_and c.from_residual.result c.from_residual.ensures.1 in
    let front = c.loop-n.contents in
    let total = reading [] 1 (lines_of c.args.text.now) in
    let here = subst (λ (ls : List (List ℕ)). with_front front (reading (paths front) c.loop-n.n ls) ≡ total) c.next_line.ensures.lines c.loop-n.invariant.left in
    rw (p.1, p.2) (elim c.in_err-put_line.ensures.fault [
      | inl memory ↦ inr (ap (λ (e : ContentsFault). let r : Result (List Pair) ContentsFault = Err e in r) memory)
      | inr found ↦ inl (ends front c.loop-n.n c.next_line.result.0.now (lines_of c.next_line.result.1.now) c.in_err-put_line.field-0.0 total (omega arith) found here)
    ])

pub loop-n-preserved : goal.loop-n-preserved
loop-n-preserved c =
    let front = c.loop-n.contents in
    let total = reading [] 1 (lines_of c.args.text.now) in
    let here = subst (λ (ls : List (List ℕ)). with_front front (reading (paths front) c.loop-n.n ls) ≡ total) c.next_line.ensures.lines c.loop-n.invariant.left in
    let found = c.in_ok-put_line.ensures.found in
    record {
      count = omega (arith, ap (λ (l : List Pair). length l) found.2, length-append front (found.0 ∷ []), c.loop-n.invariant.count);
      left = goes_on front c.put_line.new.contents c.loop-n.n c.next_line.result.0.now (lines_of c.next_line.result.1.now) found.0 total (omega arith) found.1 found.2 here;
    }
