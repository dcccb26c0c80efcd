-- What a lane holds at its desk while it resolves, and what is kept for it.
use Rattle.std.proofs.Common.{◌≡◌, ℕ, ◌+◌, ◌<◌, false, List, [], ◌∷◌, ◌++◌, length, All, Option, Some, None, IsSomeAnd, refl, sym, ap, subst, ◌∙◌, arith}
use Rattle.std.specs.Prelude.{◌==◌, ◌↔◌}
use Rattle.std.specs.Option.{option_map}
use Rattle.std.proofs.lemmas.Bool.{eq-eqb, ne_eqb}
use Rattle.std.proofs.lemmas.List.Elements.{All-head, All-tail, All-weaker}
use Rattle.package_indexes.specs.declared.Choice.{Choice}
use Rattle.pkg_names.specs.NameAndVariant.{NameAndVariant}
use Rattle.pkg_names.specs.declared.root.Root.{Root}
use Rattle.store_model.specs.declared.replies.Claim.{Claim}
use Rattle.store_model.specs.declared.replies.Ticket.{Ticket}
use Rattle.store_model.specs.declared.replies.BeginReply.TheVariants as begin
use Rattle.store_model.specs.declared.replies.RoomReply.TheVariants as room
use Rattle.store_model.specs.Holding.{HeldTicket, HeldClaim, Held, ticket_with, without_number, dir_of, with_len}
use Rattle.store_model.specs.HeldAfter.{without_claim}
use Rattle.store_model.specs.Desk.{View, Kept, held_by, Keeps, KeepsImages}
use Rattle.store_model.specs.Desk.Keeping.{Image}
use Rattle.store_model.specs.Replies.{IsBegun}
use Rattle.store_model.specs.Calls.{room_by, HoldsClaim, HoldsRoom, HoldsNewClaim, MakesRoom, Begins}
use Rattle.store_model.proofs.Views.{tickets_before-Does}
use Rattle.store_model.proofs.CallsHeld.{begun, roomed}
use Rattle.resolver.specs.declared.reply.ResolveReply.{ResolveReply}
use Rattle.resolver.specs.declared.reply.ResolveReply.TheVariants as replies
use Rattle.resolver.specs.Serving.{ticket_for}
use Rattle.resolver.specs.Viewing.{IsHeldAfter}
use Rattle.resolver.specs.Steps.{held_after_arrival}

-- ---- claims

pub room_of : (v : View) (root : Root) (len : ℕ) → (held_by v).claim ≡ Some (record { root = root; len = Some len }) → room_by v ≡ len
room_of v root len e = rw e refl

pub claim_held : (v : View) (root : Root) (len : Option ℕ) → (held_by v).claim ≡ Some (record { root = root; len = len }) → HoldsClaim v root
claim_held v root len e = rw e refl

pub room_held : (v : View) (root : Root) → HoldsRoom v root → HoldsClaim v root
room_held v root room = claim_held v root (Some room.0) room.1

-- the claim comes back with its room
pub room_made : (claim back : Claim) (len : ℕ) (old mid : View) → MakesRoom claim len (room.Made back) old mid → HoldsNewClaim old claim.root → (held_by mid).claim ≡ Some (record { root = back.root; len = Some len })
room_made claim back len old mid is new =
    ap (λ (h : Held). h.claim) (roomed claim len (room.Made back) old mid is) ∙ ap (option_map (with_len len)) new ∙ ap (λ (k : Claim). Some (with_len len (held_claim k.root))) (sym is.1) where
      held_claim : Root → HeldClaim
      held_claim root = record { root = root; len = None }

-- a call that leaves what is held leaves the claim, also as it comes back
pub claim_stays : (old new : View) (back claim : Claim) → held_by new ≡ held_by old → back ≡ claim → HoldsClaim old claim.root → HoldsClaim new back.root
claim_stays old new back claim held same holds =
    subst (λ (c : Claim). HoldsClaim new c.root) (sym same) (subst (λ (h : Held). IsSomeAnd h.claim (λ (x : HeldClaim). x.root ≡ claim.root)) (sym held) holds)

-- a lane that held no claim, once it has none again
pub claim_back : (h : Held) → h.claim ≡ None → without_claim h ≡ h
claim_back h free = ap (λ (claim : Option HeldClaim). let held : Held = record h { claim = claim } in held) (sym free)

-- ---- tickets

without_last : (number : ℕ) (x : HeldTicket) (tickets : List HeldTicket) → x.number ≡ number → All (λ (t : HeldTicket). (t.number == number) ≡ false) tickets → without_number (tickets ++ x ∷ []) number ≡ tickets
without_last number x [] is others = rw (eq-eqb x.number number is) refl
without_last number x (t ∷ tickets) is others =
    rw (All-head (λ (t : HeldTicket). (t.number == number) ≡ false) t tickets others)
    (ap (λ (ts : List HeldTicket). t ∷ ts) (without_last number x tickets is (All-tail (λ (t : HeldTicket). (t.number == number) ≡ false) t tickets others)))

pub found_last : (number : ℕ) (x : HeldTicket) (tickets : List HeldTicket) → x.number ≡ number → All (λ (t : HeldTicket). (t.number == number) ≡ false) tickets → ticket_with (tickets ++ x ∷ []) number ≡ Some x
found_last number x [] is others = rw (eq-eqb x.number number is) refl
found_last number x (t ∷ tickets) is others =
    rw (All-head (λ (t : HeldTicket). (t.number == number) ≡ false) t tickets others)
    (found_last number x tickets is (All-tail (λ (t : HeldTicket). (t.number == number) ≡ false) t tickets others))

below_apart : (a b next : ℕ) → a < next → b ≡ next → a ≡ b → ⊥
below_apart a b next lt is same = omega arith

-- a ticket that was made has another number than each that was held
other_numbers : (path : NameAndVariant) (choice : Choice) (ticket : Ticket) (old new : View) → Begins path choice (begin.Made ticket) old new
    → All (λ (t : HeldTicket). (t.number == ticket.number) ≡ false) (held_by old).tickets
other_numbers path choice ticket old new does =
    All-weaker (λ (t : HeldTicket). t.number < length (old.seen ++ does.others) + 1) (λ (t : HeldTicket). (t.number == ticket.number) ≡ false)
    (λ t lt. ne_eqb t.number ticket.number (below_apart t.number ticket.number (length (old.seen ++ does.others) + 1) lt does.its.0))
    (held_by old).tickets (tickets_before-Does old new (IsBegun path choice (begin.Made ticket)) does)

-- what is held once the ticket is over that was made
arrived : (lane : ℕ) (reply : ResolveReply) (x : HeldTicket) (h : Held) → All (λ (t : HeldTicket). (t.number == x.number) ≡ false) h.tickets
    → IsHeldAfter lane reply h (held_after_arrival lane x.number reply (record h { tickets = h.tickets ++ x ∷ [] }))
arrived lane (replies.Resolved dir) x h others = (
  x.root,
  ap (λ (ts : List HeldTicket). let held : Held = record h { tickets = ts; dirs = h.dirs ++ dir_of dir.number lane (ticket_with (h.tickets ++ x ∷ []) x.number) } in held) (without_last x.number x h.tickets refl others) ∙
      ap (λ (o : Option HeldTicket). let held : Held = record h { dirs = h.dirs ++ dir_of dir.number lane o } in held) (found_last x.number x h.tickets refl others),
)
arrived lane reply x h others = ap (λ (ts : List HeldTicket). let held : Held = record h { tickets = ts } in held) (without_last x.number x h.tickets refl others)

pub resolved : (path : NameAndVariant) (choice : Choice) (ticket : Ticket) (reply : ResolveReply) (old mid new : View) → Begins path choice (begin.Made ticket) old mid
    → held_by new ≡ held_after_arrival mid.lane ticket.number reply (held_by mid) → IsHeldAfter old.lane reply (held_by old) (held_by new)
resolved path choice ticket reply old mid new does held =
    let x = ticket_for path ticket in
    let later : held_by new ≡ held_after_arrival old.lane ticket.number reply (record (held_by old) { tickets = (held_by old).tickets ++ x ∷ [] }) =
    held ∙ ap (λ (l : ℕ). held_after_arrival l ticket.number reply (held_by mid)) does.stays.lane ∙ ap (held_after_arrival old.lane ticket.number reply) (begun path choice (begin.Made ticket) old mid does) in
    subst (λ (h : Held). IsHeldAfter old.lane reply (held_by old) h) (sym later) (arrived old.lane reply x (held_by old) (other_numbers path choice ticket old mid does))

abbrev pub claim_with : Root → ℕ → Option HeldClaim
claim_with root len = Some (record { root = root; len = Some len })

-- ---- what is kept

pub iff_then : (A B C : Type 0) → A ↔ B → B ↔ C → A ↔ C
iff_then A B C h k = (λ a. k.0 (h.0 a), λ c. h.1 (k.1 c))

pub keeps_images : (old new : Kept) → Keeps old new → KeepsImages old new
keeps_images old new keeps = λ image bytes is. keeps (Image image) bytes is

pub images_then : (a b c : Kept) → KeepsImages a b → KeepsImages b c → KeepsImages a c
images_then a b c h k = λ image bytes is. k image bytes (h image bytes is)
