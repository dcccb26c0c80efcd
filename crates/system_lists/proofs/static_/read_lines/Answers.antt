use Rattle.std.proofs.Common.{◌≡◌, ◌∷◌, [], List, ℕ, zero, suc, ◌<◌, true, false, eqb, length, map, Result, Ok, Err, sym, ap, subst, ◌∙◌, inl, inr, arith}
use Rattle.std.proofs.lemmas.Bool.{eqb-true}
use Rattle.std.proofs.lemmas.List.{length-append, nil_from_length}
use Rattle.std.proofs.lemmas.Result.{err_from_is_err_and}
use Rattle.pkg_names.specs.declared.pinned.Pinned.{Pinned}
use Rattle.pkg_names.specs.Text.{lines_of}
use Rattle.system_lists.specs.declared.list.ListFault.{ListFault}
use Rattle.system_lists.specs.Entries.{listed}
use Rattle.system_lists.specs.Lists.{has_path_of}
use Rattle.system_lists.specs.Static.{pinned_line}
use Rattle.system_lists.proofs.Listing.{goes_on, ends, is_done, too_many}
use Rattle.system_lists.proofs.StaticLines.{has_a_line}
use Rattle.system_lists.proofs.static_.read_lines.Goals as goal

-- nothing is left
at_end : (front : List Pinned) (rest : List ℕ) (total : Result (List Pinned) ListFault) → true ≡ eqb (length rest) 0 → listed has_path_of front (map pinned_line (lines_of rest)) ≡ total → Ok front ≡ total
at_end front rest total empty so_far =
    is_done has_path_of front total (subst (λ (l : List ℕ). listed has_path_of front (map pinned_line (lines_of l)) ≡ total) (nil_from_length rest (eqb-true (length rest) 0 (sym empty))) so_far)

positive : (n : ℕ) → false ≡ eqb n 0 → 0 < n
positive zero e = absurd cc
positive (suc n) e = omega arith

abbrev Read : Type 0
Read = Result (List Pinned) ListFault

pub returns-then-is_empty : goal.returns-then-is_empty
returns-then-is_empty c =
    inl (ap (λ (l : List Pinned). let r : Read = Ok l in r) c.make.ensures.list ∙ at_end c.loop-n.list.items c.loop-n.rest.now (listed has_path_of [] (map pinned_line (lines_of c.args.text.now))) c.if-is_empty.ensures c.loop-n.invariant.left)

pub returns-then-is_empty-2 : goal.returns-then-is_empty-2
returns-then-is_empty-2 c =
    inl (ap (λ (l : List Pinned). let r : Read = Ok l in r) c.make-then-is_empty-2.ensures.list ∙ at_end c.loop-n.list.items c.loop-n.rest.now (listed has_path_of [] (map pinned_line (lines_of c.args.text.now))) c.if-is_empty-2.ensures c.loop-n.invariant.left)

pub returns-else-is_empty-2 : goal.returns-else-is_empty-2
returns-else-is_empty-2 c =
    let front = c.loop-n.list.items in
    let total = listed has_path_of [] (map pinned_line (lines_of c.args.text.now)) in
    let first = has_a_line c.loop-n.rest.now (positive (length c.loop-n.rest.now) c.if-is_empty-2.ensures) in
    let here = subst (λ (ls : List (List ℕ)). listed has_path_of front (map pinned_line ls) ≡ total) first.2 c.loop-n.invariant.left in
    inl (too_many has_path_of front (pinned_line first.0) (map pinned_line first.1) total (omega (arith, c.loop-n.invariant.count)) here)

pub put_line-requires : goal.put_line-requires
put_line-requires c = omega (arith, c.loop-n.invariant.count)

pub returns-in_err-put_line : goal.returns-in_err-put_line
returns-in_err-put_line c =
    let p = err_from_is_err_and c.from_residual.result c.from_residual.ensures.1 in
    let front = c.loop-n.list.items in
    let total = listed has_path_of [] (map pinned_line (lines_of c.args.text.now)) in
    let here = subst (λ (ls : List (List ℕ)). listed has_path_of front (map pinned_line ls) ≡ total) c.next_line.ensures.lines c.loop-n.invariant.left in
    rw (p.1, p.2) (elim c.in_err-put_line.ensures.fault [
      | inl memory ↦ inr (ap (λ (e : ListFault). let r : Read = Err e in r) memory)
      | inr found ↦ inl (ends has_path_of front (pinned_line c.next_line.result.0.now) (map pinned_line (lines_of c.next_line.result.1.now)) c.in_err-put_line.field-0.0 total found here)
    ])

pub loop-n-preserved : goal.loop-n-preserved
loop-n-preserved c =
    let front = c.loop-n.list.items in
    let total = listed has_path_of [] (map pinned_line (lines_of c.args.text.now)) in
    let here = subst (λ (ls : List (List ℕ)). listed has_path_of front (map pinned_line ls) ≡ total) c.next_line.ensures.lines c.loop-n.invariant.left in
    let found = c.in_ok-put_line.ensures.found in
    record {
      count = omega (arith, ap (λ (l : List Pinned). length l) found.2, length-append front (found.0 ∷ []), c.loop-n.invariant.count);
      left = goes_on has_path_of front c.put_line.new.list.items (pinned_line c.next_line.result.0.now) (map pinned_line (lines_of c.next_line.result.1.now)) found.0 total found.1 found.2 here;
    }
