use Rattle.resolver.proofs.Choosing.{asks_by_choice, opens_ticket}
use Rattle.resolver.proofs.laws.resolves_open_what_is_chosen.Goals as goal

pub returns : goal.returns
returns c = record { asked = asks_by_choice; opened = opens_ticket }
