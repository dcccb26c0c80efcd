-- What was read of a manifest is judged.
use Rattle.std.proofs.Common.{ℕ, List, Option, Result, Ok, Err, sym, ap}
use Rattle.store_model.specs.declared.replies.Dir.{Dir}
use Rattle.store_model.specs.Desk.{View, held_by}
use Rattle.system_updater.specs.declared.manifests.Refusal.{Refusal}
use Rattle.system_updater.specs.declared.manifests.Refusal.TheVariants as refusals
use Rattle.system_updater.specs.declared.reply.UpdateReply.TheVariants as replies
use Rattle.system_updater.specs.Serving.{Point, Prior, closed, judged}
use Rattle.system_updater.specs.Viewing.{Told}
use Rattle.system_updater.specs.Steps.{Goes, or_refused, Judges}
use Rattle.system_updater.proofs.Goes.{goes_to, goes_then, goes_pass}
use Rattle.system_updater.proofs.Places.{open_closed, judged_open-back, judged_cut}

-- where the judgement leads
pub judged_goes : {A : Type 0} (next : A → Point) (dir : Dir) (prior : Prior) (found : Option (List ℕ)) (result : Result A Refusal) (from : Point) (old new : View) (repo : Told) (F G : Type 0)
    → Goes from (judged dir prior found) old new repo repo F G → Judges next dir result (judged dir prior found) → Goes from (or_refused next dir result) old new repo repo F G
judged_goes next dir prior found (Ok x) from old new repo F G goes is = goes_to from (judged dir prior found) (next x) old new repo repo F G is goes
judged_goes next dir prior found (Err (refusals.Bad file why)) from old new repo F G goes is = goes_to from (judged dir prior found) _ old new repo repo F G is goes
judged_goes next dir prior found (Err (refusals.Ended reply)) from old new repo F G goes is =
    goes_to from (closed dir replies.NoMemory) (closed dir reply) old new repo repo F G (ap (closed dir) (sym is))
    (goes_then from (judged dir prior found) (closed dir replies.NoMemory) old new new repo repo repo F G G goes
    (goes_pass (judged dir prior found) (closed dir replies.NoMemory) new repo G (judged_cut dir prior found) (λ base at. open_closed new.lane dir replies.NoMemory base (held_by new) tt (judged_open-back new.lane dir prior found base (held_by new) at))))
