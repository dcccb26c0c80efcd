use Rattle.std.proofs.Common.{◌≡◌}
use Rattle.disk_model.specs.Past.{zero_pages}
use Rattle.disk_model.proofs.pages.zero_pages.Given as goal

abbrev pub invariant-loop-page : goal.invariant-loop-page
invariant-loop-page l = l.pages.items ≡ zero_pages l.page
