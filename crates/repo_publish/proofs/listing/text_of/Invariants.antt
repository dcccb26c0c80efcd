use Rattle.std.proofs.Common.{◌≡◌, take, All}
use Rattle.system_lists.specs.Lists.{IsPinned}
use Rattle.repo_publish.specs.Published.{listing_text}
use Rattle.repo_publish.proofs.listing.text_of.Given as goal

abbrev pub invariant-loop-pair : goal.invariant-loop-pair
invariant-loop-pair l = record {
  text : l.text.items ≡ listing_text (take l.pair-index l.listing);
  pinned : All IsPinned (take l.pair-index l.listing);
}
