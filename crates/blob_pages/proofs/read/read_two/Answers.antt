use Rattle.std.proofs.Common.{◌≡◌, ◌<◌, [], length, slice_set, sym, subst, arith}
use Rattle.std.proofs.lemmas.List.{get_or-set_same}
use Rattle.disk_model.specs.Past.{Pages, page_at}
use Rattle.blob_pages.specs.Written.{place}
use Rattle.blob_pages.specs.Chains.{IsReadAt}
use Rattle.blob_pages.proofs.read.read_two.Goals as goal

pub returns-else-i-chain-clause-first : goal.returns-else-i-chain-clause-first
returns-else-i-chain-clause-first g c =
    let pages : Pages = c.args.out.now in
    let two : 0 < length pages = omega (arith, c.told-out) in
    let same : page_at (slice_set pages 0 c.read_page.new.out) 0 ≡ c.read_page.new.out = get_or-set_same pages 0 c.read_page.new.out [] two in
    subst (IsReadAt (g.D.Disk.past c.args.disk.now) (place c.args.start c.args.chain.now c.args.i)) (sym same) c.in_ok-read_page.ensures.read
