use Rattle.std.proofs.Common.{refl}
use Rattle.blob_pages.specs.Pages.{open_page}
use Rattle.blob_pages.proofs.Acts.{page_acts-append, landing_acts}
use Rattle.blob_pages.proofs.laws.landings_write_each_page_once.Goals as goal

pub returns-clause-joined : goal.returns-clause-joined
returns-clause-joined c = page_acts-append

pub returns-clause-settled : goal.returns-clause-settled
returns-clause-settled c = λ start chain blob. landing_acts start chain blob (open_page blob) refl
