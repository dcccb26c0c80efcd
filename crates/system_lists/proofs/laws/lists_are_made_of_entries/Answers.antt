use Rattle.system_lists.specs.Lists.{has_path_of}
use Rattle.system_lists.proofs.Listing.{made, refused}
use Rattle.system_lists.proofs.laws.lists_are_made_of_entries.Goals as goal

pub returns : goal.returns
returns c = record { made = made has_path_of; refused = refused has_path_of }
