use Rattle.std.proofs.Common.{arith}
use Rattle.image_layout.specs.Geometry.{regions, total_pages}
use Rattle.image_layout.proofs.RegionLemmas.{cover, regions_in_order}
use Rattle.image_layout.proofs.laws.regions_follow.Goals as goal

pub returns-clause-cover : goal.returns-clause-cover
returns-clause-cover c = λ g n lt. cover 0 (regions g) (total_pages g) (regions_in_order g) n (omega arith) lt
