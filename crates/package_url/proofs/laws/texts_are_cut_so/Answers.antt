use Rattle.package_url.proofs.Places.{is_cut}
use Rattle.package_url.proofs.laws.texts_are_cut_so.Goals as goal

pub returns : goal.returns
returns c = is_cut
