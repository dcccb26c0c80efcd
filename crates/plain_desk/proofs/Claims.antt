-- The claim of a lane, as the ledger's state has it.
use Rattle.std.proofs.Common.{◌≡◌, ℕ, ◌≤◌, ◌<◌, ◌+◌, ◌++◌, length, length-append, List, [], false, arith, Option, Some, None, refl, sym, ap, subst, ◌∙◌}
use Rattle.std.specs.Prelude.{IsSomeAnd, Result, Ok, Err, IfOk, OnErr, MatchOption}
use Rattle.std.specs.Option.{option_map}
use Rattle.pkg_names.specs.declared.root.Root.{Root}
use Rattle.pkg_merkle.specs.declared.hasher.TheConstants.{BYTES_LIMIT}
use Rattle.fetch_queue.specs.declared.FetchEnd.{FetchEnd}
use Rattle.fetch_queue.specs.declared.FetchEnd.TheVariants as ends
use Rattle.fetch_queue.specs.declared.queue.ClaimEntry.{ClaimEntry}
use Rattle.store_model.specs.declared.events.Act.TheVariants as acts
use Rattle.store_model.specs.declared.events.LookedAt.{LookedAt}
use Rattle.store_model.specs.State.{State, claim_of, is_stored}
use Rattle.store_model.specs.History.{of_lane}
use Rattle.store_model.specs.Holding.{Held, HeldClaim, held, held_after_act, with_len}
use Rattle.store_model.specs.Acts.Room.{IsRoomless}
use Rattle.store_model.specs.Acts.Put.{IsRoomOf}
use Rattle.store_model.specs.Acts.Missed.{IsDueMissed}
use Rattle.store_model.specs.Acts.Land.{IsLanding}
use Rattle.store_model.specs.Lanes.{AreClaims}
use Rattle.store_model.proofs.LanesOnce.{claimed_missing, stand_once}
use Rattle.store_model.proofs.HoldingThere.{in_some}
use Rattle.plain_ledger.specs.Ledgers.{LedgerOf, Agrees, Notes, Stays, next_number}
use Rattle.plain_desk.specs.Stores.{DraftOf, Drafted, HaveRoom, ImagesOf, IsLandingEnd, IsStore, draft_of, len_of, room_after, room_in}
use Rattle.plain_desk.proofs.Stores.{bytes_stay, drafted, drafted_still, handles, same_stays}

-- the lane's claim
abbrev pub claim_by : LedgerOf → ℕ → Option HeldClaim
claim_by l lane = (held (of_lane lane l.history)).claim

pub roomless : (l : LedgerOf) (lane : ℕ) (root : Root) → Agrees l → claim_by l lane ≡ Some (record { root = root; len = None })
    → IsSomeAnd (claim_of l.state.claims root) (IsRoomless lane)
roomless l lane root a is =
    in_some (claim_of l.state.claims root) (IsRoomless lane) _ ((handles l lane a).claim (record { root = root; len = None }) is)
    (record { lane = refl; len = refl })

pub room_given : (h : Held) (number lane : ℕ) (root : Root) (len : ℕ) (end : Option FetchEnd) → h.claim ≡ Some (record { root = root; len = None })
    → room_after len end ≡ len_of (held_after_act h number lane (acts.Room root len end)).claim
room_given h number lane root len None is = sym (ap (λ (c : Option HeldClaim). len_of (option_map (with_len len) c)) is)
room_given h number lane root len (Some end) is = refl

pub has_room : (l : LedgerOf) (lane : ℕ) (root : Root) (drafts : List DraftOf) → Agrees l → HaveRoom drafts l.history
    → (len : ℕ) × (claim_by l lane ≡ Some (record { root = root; len = Some len }))
    → IsSomeAnd (claim_of l.state.claims root) (IsRoomOf lane (room_in drafts lane))
has_room l lane root drafts a have room =
    in_some (claim_of l.state.claims root) (IsRoomOf lane (room_in drafts lane)) _
    ((handles l lane a).claim (record { root = root; len = Some room.0 }) room.1)
    (record { lane = refl; room = sym (ap Some (have.rooms lane ∙ ap len_of room.1)) })

pub missed_due : (l : LedgerOf) (lane : ℕ) (root : Root) → Agrees l
    → IsSomeAnd (claim_by l lane) (λ (claim : HeldClaim). claim.root ≡ root) → IsDueMissed l.state lane root
missed_due l lane root a holds = first (claim_by l lane) refl holds where
  first : (o : Option HeldClaim) → claim_by l lane ≡ o → IsSomeAnd o (λ (claim : HeldClaim). claim.root ≡ root) → IsDueMissed l.state lane root
  first None is none = absurd none
  first (Some claim) is same = subst (IsDueMissed l.state lane) same
      (in_some (claim_of l.state.claims claim.root) (λ (entry : ClaimEntry). entry.lane ≡ lane) _ ((handles l lane a).claim claim is) refl)

pub room_made : {E : Type 0} {old new : LedgerOf} (lane len : ℕ) (root : Root) {blobs : List LookedAt} {drafts drafts' : List DraftOf}
    {images : ImagesOf} (r : Result (Option FetchEnd) E) → IsStore old blobs drafts images
    → claim_by old lane ≡ Some (record { root = root; len = None })
    → IfOk r (λ end. Notes old lane (acts.Room root len end) new) → IfOk r (λ end. Drafted lane (room_after len end) [] drafts drafts')
    → IfOk r (λ end. room_after len end ≤ BYTES_LIMIT) → OnErr r (Stays old new) → OnErr r (Drafted lane 0 [] drafts drafts')
    → IsStore new blobs drafts' images
room_made {E} {old} {new} lane len root (Ok end) is claim notes room short err none =
    drafted is notes (bytes_stay is.stored notes refl) room (room_given (held (of_lane lane old.history)) (next_number old) lane root len end claim)
    (omega arith) short refl
room_made lane len root (Err e) is claim notes room short err none = drafted_still is err none (sym (ap len_of claim)) (omega arith) (omega arith)

pub put_made : {old new : LedgerOf} (lane : ℕ) (root : Root) (piece : List ℕ) {blobs : List LookedAt} {drafts drafts' : List DraftOf}
    {images : ImagesOf} (r : Option FetchEnd) → IsStore old blobs drafts images
    → MatchOption r (new ≡ old) (λ end. Notes old lane (acts.Put root (Some end)) new)
    → MatchOption r (length (draft_of drafts lane) + length piece ≤ room_in drafts lane) (λ end. room_in drafts lane < length (draft_of drafts lane) + length piece)
    → MatchOption r (Drafted lane (room_in drafts lane) (draft_of drafts lane ++ piece) drafts drafts') (λ end. Drafted lane 0 [] drafts drafts')
    → IsStore new blobs drafts' images
put_made {old} lane root piece {blobs} {drafts} None is same fits d =
    drafted_still is (same_stays same is.holds) d (is.roomy.rooms lane)
    (omega (arith, fits, length-append (draft_of drafts lane) piece)) (is.roomy.short lane)
put_made lane root piece (Some end) is notes over d =
    drafted is notes (bytes_stay is.stored notes refl) d refl (omega arith) (omega arith) refl

-- a claimed blob isn't stored
pub unstored : (l : LedgerOf) (root : Root) (P : ClaimEntry → Type 0) → Agrees l → IsSomeAnd (claim_of l.state.claims root) P
    → is_stored l.state.stock root ≡ false
unstored l root P a due = claimed_missing l.state root P (claim_of l.state.claims root) refl due
    (subst (λ (s : State). AreClaims s.claims s.stock) (sym a.mirrors.rest) (stand_once l.origin l.history a.legal).claims)

-- why a landing ends, as the model has it
pub landing_due : (root : Root) (len : ℕ) (bytes : List ℕ) (end : FetchEnd) → IsLandingEnd root len bytes end → IsLanding root len (Some end)
landing_due root len bytes (ends.Short have) is = subst (λ (n : ℕ). n < len) (sym is.0) is.1
landing_due root len bytes (ends.Wrong got) is = is.2
landing_due root len bytes end is = absurd is
