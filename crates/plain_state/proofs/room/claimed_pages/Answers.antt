use Rattle.std.proofs.Common.{◌≡◌, [], None, get_or, arith}
use Rattle.fetch_queue.specs.declared.queue.ClaimEntry.{ClaimEntry}
use Rattle.store_model.specs.Packages.{room_pages}
use Rattle.plain_stock.proofs.Stocks.{claim_pages_more}
use Rattle.plain_state.proofs.room.claimed_pages.Goals as goal

pub loop-claim-preserved : goal.loop-claim-preserved
loop-claim-preserved c =
    let d : ClaimEntry = record { root = record { 0 = [] }; lane = 0; len = None } in
    let i = c.loop-claim.claim-index in
    let here : c.room_pages.result ≡ room_pages (get_or c.args.claims.now i d).len = c.room_pages.ensures in
    omega (arith, here, claim_pages_more c.args.claims.now i d c.loop-claim-test.true, c.loop-claim.invariant, c.saturating_add-pages.ensures)
