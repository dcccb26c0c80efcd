use Rattle.std.proofs.Common.{◌+◌, map, length, ◌∙◌, ap, subst, arith, Option, IfSome, length-append}
use Rattle.std.specs.List.{range_with_len}
use Rattle.std.proofs.lemmas.List.FromFn.{length-map-range_with_len}
use Rattle.disk_model.specs.Past.{Past, state_of, MayRead}
use Rattle.node_table.specs.Spelling.{row_on, unused_row}
use Rattle.node_table.proofs.ReadSteps.{read_page}
use Rattle.node_table.proofs.copy.read_rows.Goals as goal

pub loop-j-preserved : goal.loop-j-preserved
loop-j-preserved g c =
    let disk = g.D.Disk in
    let inv = c.loop-j.invariant in
    let j = c.loop-j.j in
    let page = c.read.new.out in
    let old = c.loop-j.rows.items in
    let added = map (row_on page) (range_with_len 0 64) in
    record {
      size = ap length c.take_rows.ensures.rows ∙ length-append old added ∙ (omega (arith, inv.size, length-map-range_with_len (row_on page) 0 64));
      capacity = c.take_rows.ensures.capacity ∙ inv.capacity;
      read = read_page row_on 64 unused_row c.args.first j (disk.past c.args.disk.now) page old c.take_rows.new.rows.items inv.size (λ i lt. omega (arith, lt)) c.take_rows.ensures.rows
          (subst (λ (told : Option Past). IfSome told (λ past. MayRead (state_of past (c.args.first + j)) page)) inv.past_stays c.in_ok-read.ensures.value) inv.read;
      past_stays = c.read.ensures.past_stays ∙ inv.past_stays;
      pages_stay = c.read.ensures.pages_stay ∙ inv.pages_stay;
      tie_stays = c.read.ensures.tie_stays ∙ inv.tie_stays;
      faults_never_fall = omega (arith, c.read.ensures.faults_never_fall, inv.faults_never_fall);
    }
