use Rattle.store_model.proofs.Sound.{in_room}
use Rattle.store_model.proofs.sound_laws.stock_and_claims_stay_in_room.Goals as goal

pub returns : goal.returns
returns c = in_room
