use Rattle.std.proofs.Common.{◌≡◌, ◌-◌, ◌^◌, min, take}
use Rattle.store_model.specs.Packages.{claim_pages}
use Rattle.plain_state.proofs.room.claimed_pages.Given as goal

abbrev pub invariant-loop-claim : goal.invariant-loop-claim
invariant-loop-claim l = l.pages ≡ min (claim_pages (take l.claim-index l.claims)) (2 ^ 64 - 1)
