use Rattle.store_model.proofs.Sound.{books_after}
use Rattle.store_model.proofs.sound_laws.books_know_what_is_protected.Goals as goal

pub returns : goal.returns
returns c = books_after
