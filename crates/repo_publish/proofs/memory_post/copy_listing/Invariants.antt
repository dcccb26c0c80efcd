use Rattle.std.proofs.Common.{◌≡◌, take}
use Rattle.repo_publish.proofs.memory_post.copy_listing.Given as goal

abbrev pub invariant-loop-entry : goal.invariant-loop-entry
invariant-loop-entry l = l.copy.items ≡ take l.entry-index l.listing
