-- What a lane has in hand after its calls on a package.
use Rattle.std.proofs.Common.{◌≡◌, ℕ, None, Some, refl, sym, ap, subst, ◌∙◌}
use Rattle.std.specs.Option.{option_map}
use Rattle.pkg_names.specs.NameAndVariant.{NameAndVariant}
use Rattle.pkg_names.specs.declared.root.Root.{Root}
use Rattle.fetch_queue.specs.declared.FetchEnd.{FetchEnd}
use Rattle.package_indexes.specs.declared.Choice.{Choice}
use Rattle.store_model.specs.declared.ends.Cause.{Cause}
use Rattle.store_model.specs.declared.ends.Miss.{Miss}
use Rattle.store_model.specs.declared.replies.Claim.{Claim}
use Rattle.store_model.specs.declared.replies.Dir.{Dir}
use Rattle.store_model.specs.declared.replies.Ticket.{Ticket}
use Rattle.store_model.specs.declared.replies.BeginReply.{BeginReply}
use Rattle.store_model.specs.declared.replies.BeginReply.TheVariants as begin
use Rattle.store_model.specs.declared.replies.WantReply.{WantReply}
use Rattle.store_model.specs.declared.replies.WantReply.TheVariants as want
use Rattle.store_model.specs.declared.replies.RoomReply.TheVariants as room
use Rattle.store_model.specs.declared.replies.PutReply.TheVariants as put
use Rattle.store_model.specs.declared.replies.LandReply.TheVariants as land
use Rattle.store_model.specs.Holding.{Held, HeldClaim, with_len}
use Rattle.store_model.specs.HeldAfter.{held_after_begin}
use Rattle.store_model.specs.Desk.{View, Kept, held_by, Does}
use Rattle.store_model.specs.Replies.{IsMissed, IsGivenUp}
use Rattle.store_model.specs.Calls.{HoldsTicket, HoldsRoom, HoldsClaim, Begins, Wants, MakesRoom, Puts, Lands}
use Rattle.store_model.proofs.CallsHeld.{begun, wanted, roomed, piece_put, landed, missed, given_up}
use Rattle.store_model.proofs.CallsHandles.{ticket_made, ticket_back, ticket_stays}
use Rattle.lane_steps.specs.declared.hand.Hand.TheVariants as hands
use Rattle.lane_steps.specs.Hands.{Fits}

claim_of_begin : (path : NameAndVariant) (reply : BeginReply) (h : Held) → (held_after_begin path reply h).claim ≡ h.claim
claim_of_begin path (begin.Made ticket) h = refl
claim_of_begin path reply h = refl

-- whatever `begin` replied, nothing is fetched
pub free_begun : (path : NameAndVariant) (choice : Choice) (reply : BeginReply) (old new : View) → Begins path choice reply old new → Fits hands.Free old → Fits hands.Free new
free_begun path choice reply old new does free =
    ap (λ (h : Held). h.claim) (begun path choice reply old new does) ∙ claim_of_begin path reply (held_by old) ∙ free

pub asking_begun : (path : NameAndVariant) (choice : Choice) (ticket : Ticket) (old new : View) → Begins path choice (begin.Made ticket) old new → Fits hands.Free old → Fits (hands.Asking ticket) new
asking_begun path choice ticket old new does free =
    (ticket_made path choice ticket old new does, free_begun path choice (begin.Made ticket) old new does free)

pub granted_wanted : (ticket back : Ticket) (claim : Claim) (old new : View) → Wants ticket (want.Fetch back claim) old new → Fits (hands.Asking ticket) old → Fits (hands.Granted back claim) new
granted_wanted ticket back claim old new does asking =
    let reply : WantReply = want.Fetch back claim in (
      subst (λ (t : Ticket). HoldsTicket new t) (sym does.1) (ticket_back ticket reply old new does refl asking.0),
      ap (λ (h : Held). h.claim) (wanted ticket reply old new does),
    )

pub asking_wanted : (bell : ℕ) (ticket back : Ticket) (old new : View) → Wants ticket (want.NotYet back bell) old new → Fits (hands.Asking ticket) old → Fits (hands.Asking back) new
asking_wanted bell ticket back old new does asking =
    let reply : WantReply = want.NotYet back bell in (
      subst (λ (t : Ticket). HoldsTicket new t) (sym does.1) (ticket_back ticket reply old new does refl asking.0),
      ap (λ (h : Held). h.claim) (wanted ticket reply old new does) ∙ asking.1,
    )

pub free_failed : (cause : Cause) (ticket : Ticket) (old new : View) → Wants ticket (want.Failed cause) old new → Fits (hands.Asking ticket) old → Fits hands.Free new
free_failed cause ticket old new does asking = ap (λ (h : Held). h.claim) (wanted ticket (want.Failed cause) old new does) ∙ asking.1

pub free_opened : (dir : Dir) (ticket : Ticket) (old new : View) → Wants ticket (want.Opened dir) old new → Fits (hands.Asking ticket) old → Fits hands.Free new
free_opened dir ticket old new does asking = ap (λ (h : Held). h.claim) (wanted ticket (want.Opened dir) old new does) ∙ asking.1

pub free_given_up : (ticket : Ticket) (old new : View) → Does old new (IsGivenUp ticket.number) → Fits (hands.Asking ticket) old → Fits hands.Free new
free_given_up ticket old new does asking = ap (λ (h : Held). h.claim) (given_up ticket.number old new does) ∙ asking.1

-- ---- the blob

abbrev claimed : Root → HeldClaim
claimed root = record { root = root; len = None }

pub roomy_made : (len : ℕ) (ticket : Ticket) (claim back : Claim) (old new : View) → MakesRoom claim len (room.Made back) old new → Fits (hands.Granted ticket claim) old → Fits (hands.Roomy ticket back) new
roomy_made len ticket claim back old new does granted =
    let after = roomed claim len (room.Made back) old new does in (
      ticket_stays ticket old new (ap (λ (h : Held). h.tickets) after) granted.0,
      (len, ap (λ (h : Held). h.claim) after ∙ ap (option_map (with_len len)) granted.1 ∙ ap (λ (k : Claim). Some (with_len len (claimed k.root))) (sym does.1)),
    )

pub asking_no_room : (len : ℕ) (end : FetchEnd) (ticket : Ticket) (claim : Claim) (old new : View) → MakesRoom claim len (room.Ended end) old new → Fits (hands.Granted ticket claim) old → Fits (hands.Asking ticket) new
asking_no_room len end ticket claim old new does granted =
    let after = roomed claim len (room.Ended end) old new does in
    (ticket_stays ticket old new (ap (λ (h : Held). h.tickets) after) granted.0, ap (λ (h : Held). h.claim) after)

pub roomy_taken : (ticket : Ticket) (claim back : Claim) (old new : View) → Puts claim (put.Taken back) old new → Fits (hands.Roomy ticket claim) old → Fits (hands.Roomy ticket back) new
roomy_taken ticket claim back old new does roomy =
    let after = piece_put claim (put.Taken back) old new does in (
      ticket_stays ticket old new (ap (λ (h : Held). h.tickets) after) roomy.0,
      subst (λ (k : Claim). HoldsRoom new k.root) (sym does.1) (roomy.1.0, ap (λ (h : Held). h.claim) after ∙ roomy.1.1),
    )

pub asking_put : (end : FetchEnd) (ticket : Ticket) (claim : Claim) (old new : View) → Puts claim (put.Ended end) old new → Fits (hands.Roomy ticket claim) old → Fits (hands.Asking ticket) new
asking_put end ticket claim old new does roomy =
    let after = piece_put claim (put.Ended end) old new does in
    (ticket_stays ticket old new (ap (λ (h : Held). h.tickets) after) roomy.0, ap (λ (h : Held). h.claim) after)

pub asking_landed : (kept : Kept) (ticket : Ticket) (claim : Claim) (old new : View) → Lands claim kept land.Landed old new → Fits (hands.Roomy ticket claim) old → Fits (hands.Asking ticket) new
asking_landed kept ticket claim old new does roomy =
    let after = landed claim kept land.Landed old new does in
    (ticket_stays ticket old new (ap (λ (h : Held). h.tickets) after) roomy.0, ap (λ (h : Held). h.claim) after)

pub asking_not_landed : (kept : Kept) (end : FetchEnd) (ticket : Ticket) (claim : Claim) (old new : View) → Lands claim kept (land.Ended end) old new → Fits (hands.Roomy ticket claim) old → Fits (hands.Asking ticket) new
asking_not_landed kept end ticket claim old new does roomy =
    let after = landed claim kept (land.Ended end) old new does in
    (ticket_stays ticket old new (ap (λ (h : Held). h.tickets) after) roomy.0, ap (λ (h : Held). h.claim) after)

pub asking_missed : (why : Miss) (ticket : Ticket) (claim : Claim) (old new : View) → Does old new (IsMissed claim.root why) → Fits (hands.Granted ticket claim) old → Fits (hands.Asking ticket) new
asking_missed why ticket claim old new does granted =
    let after = missed claim.root why old new does in
    (ticket_stays ticket old new (ap (λ (h : Held). h.tickets) after) granted.0, ap (λ (h : Held). h.claim) after)

-- a new claim is a claim
pub claim_new : (ticket : Ticket) (claim : Claim) (v : View) → Fits (hands.Granted ticket claim) v → HoldsClaim v claim.root
claim_new ticket claim v granted = rw granted.1 refl
