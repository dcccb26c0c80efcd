use Rattle.std.proofs.Common.{◌<◌, ◌≤◌, ◌/◌, ap, sym, ◌∙◌, arith}
use Rattle.far_archive.specs.declared.fields.Places.{Places}
use Rattle.far_archive.specs.Fields.{count}
use Rattle.far_archive.specs.Faults.{entries_fault}
use Rattle.far_archive.proofs.Loop.{goes_on, ends, is_done, after_one}
use Rattle.far_archive.proofs.entries.entries_fault.Goals as goal

pub returns-in-Err : goal.returns-in-Err
returns-in-Err c =
    let size = ap (λ (p : Places). p.dir_len / 32) c.requires.places in
    let lt : c.loop-k.k < count c.args.bytes.now = omega (arith, size) in
    ends c.args.bytes.now c.loop-k.k (count c.args.bytes.now) c.in-Err.fault (entries_fault c.args.bytes.now 0 (count c.args.bytes.now)) lt c.in-Err.ensures.fault c.loop-k.invariant.left

pub loop-k-preserved : goal.loop-k-preserved
loop-k-preserved c =
    let size = ap (λ (p : Places). p.dir_len / 32) c.requires.places in
    let lt : c.loop-k.k < count c.args.bytes.now = omega (arith, size) in
    let next = after_one c.args.bytes.now c.loop-k.k in
    record {
      name = c.in-Ok.ensures.found.1 ∙ sym next.0;
      end = c.in-Ok.ensures.found.2 ∙ sym next.1;
      left = goes_on c.args.bytes.now c.loop-k.k (count c.args.bytes.now) (entries_fault c.args.bytes.now 0 (count c.args.bytes.now)) lt c.in-Ok.ensures.found.0 c.loop-k.invariant.left;
    }

pub returns : goal.returns
returns c =
    let size = ap (λ (p : Places). p.dir_len / 32) c.requires.places in
    let le : count c.args.bytes.now ≤ c.loop-k.k = omega (arith, size) in
    is_done c.args.bytes.now c.loop-k.k (count c.args.bytes.now) (entries_fault c.args.bytes.now 0 (count c.args.bytes.now)) le c.loop-k.invariant.left
