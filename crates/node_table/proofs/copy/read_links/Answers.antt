use Rattle.std.proofs.Common.{◌+◌, map, length, ◌∙◌, ap, subst, arith, Option, IfSome, length-append}
use Rattle.std.specs.List.{range_with_len}
use Rattle.std.proofs.lemmas.List.FromFn.{length-map-range_with_len}
use Rattle.disk_model.specs.Past.{Past, state_of, MayRead}
use Rattle.node_table.specs.Spelling.{link_on}
use Rattle.node_table.proofs.ReadSteps.{read_page}
use Rattle.node_table.proofs.copy.read_links.Goals as goal

pub loop-j-preserved : goal.loop-j-preserved
loop-j-preserved g c =
    let disk = g.D.Disk in
    let inv = c.loop-j.invariant in
    let j = c.loop-j.j in
    let page = c.read.new.out in
    let old = c.loop-j.links.items in
    let added = map (link_on page) (range_with_len 0 1024) in
    record {
      size = ap length c.take_links.ensures.links ∙ length-append old added ∙ (omega (arith, inv.size, length-map-range_with_len (link_on page) 0 1024));
      capacity = c.take_links.ensures.capacity ∙ inv.capacity;
      read = read_page link_on 1024 0 c.args.first j (disk.past c.args.disk.now) page old c.take_links.new.links.items inv.size (λ i lt. omega (arith, lt)) c.take_links.ensures.links
          (subst (λ (told : Option Past). IfSome told (λ past. MayRead (state_of past (c.args.first + j)) page)) inv.past_stays c.in_ok-read.ensures.value) inv.read;
      past_stays = c.read.ensures.past_stays ∙ inv.past_stays;
      pages_stay = c.read.ensures.pages_stay ∙ inv.pages_stay;
      tie_stays = c.read.ensures.tie_stays ∙ inv.tie_stays;
      faults_never_fall = omega (arith, c.read.ensures.faults_never_fall, inv.faults_never_fall);
    }
