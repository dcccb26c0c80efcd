-- Whole rounds: what is missing is asked for, and fetched.
use Rattle.std.proofs.Common.{◌≡◌, ℕ, List, Option, refl, sym, ap, subst, ◌∙◌}
use Rattle.pkg_names.specs.NameAndVariant.{NameAndVariant}
use Rattle.pkg_names.specs.Streams.{one_more}
use Rattle.pkg_names.specs.declared.pinned.Pinned.{Pinned}
use Rattle.repo_source.specs.declared.file.RepoFile.{RepoFile}
use Rattle.store_model.specs.declared.replies.Claim.{Claim}
use Rattle.store_model.specs.declared.replies.Ticket.{Ticket}
use Rattle.store_model.specs.declared.replies.WantReply.{WantReply}
use Rattle.store_model.specs.declared.replies.WantReply.TheVariants as want
use Rattle.store_model.specs.Holding.{Held, HeldTicket}
use Rattle.store_model.specs.HeldAfter.{without_claim, without_ticket}
use Rattle.store_model.specs.Desk.{View, held_by, Does, Rests}
use Rattle.store_model.specs.Replies.{IsGivenUp}
use Rattle.store_model.specs.Calls.{HoldsTicket, HoldsNoClaim, HoldsNewClaim, Wants}
use Rattle.store_model.proofs.Calls.{held_by-Rests}
use Rattle.store_model.proofs.CallsHeld.{wanted, given_up}
use Rattle.store_model.proofs.CallsHandles.{ticket_back, ticket_stays}
use Rattle.resolver.specs.declared.reply.ResolveReply.{ResolveReply}
use Rattle.resolver.specs.declared.reply.ResolveReply.TheVariants as replies
use Rattle.resolver.specs.declared.reply.Stop.{Stop}
use Rattle.resolver.specs.declared.reply.Stop.TheVariants as stops
use Rattle.resolver.specs.Serving.{Point, ticket_for, after_want}
use Rattle.resolver.specs.Serving.Point.{Waiting, Granted, Giving, Refused}
use Rattle.resolver.specs.Steps.{Goes, Fetches, reply_of, after_arrival, held_after_arrival}
use Rattle.repo_source.proofs.Faults.{failed_same}
use Rattle.resolver.proofs.Goes.{goes_then, goes_rests}
use Rattle.resolver.proofs.Desks.{granted_by, want_goes, give_up_goes, cut_goes}
use Rattle.resolver.proofs.Handles.{claim_back}

stop_refused : (ticket : HeldTicket) (stop : Stop) → after_arrival ticket (reply_of stop) ≡ Refused (reply_of stop)
stop_refused ticket (stops.Broken number) = refl
stop_refused ticket stops.NoMemory = refl

stop_held : (lane number : ℕ) (stop : Stop) (h : Held) → held_after_arrival lane number (reply_of stop) h ≡ without_ticket number h
stop_held lane number (stops.Broken broken) h = refl
stop_held lane number stops.NoMemory h = refl

-- ---- the ticket comes back

module _ (ticket : Ticket) (old mid : View) where
  given_back : (back : Ticket) → back ≡ ticket → HoldsTicket mid ticket → HoldsTicket mid back
  given_back back same holds = subst (λ (t : Ticket). HoldsTicket mid t) (sym same) holds

  pub holds_no_memory : (back : Ticket) → Wants ticket (want.NoMemory back) old mid → HoldsTicket old ticket → HoldsTicket mid back
  holds_no_memory back is holds = given_back back is.1 (ticket_back ticket (want.NoMemory back) old mid is refl holds)

  pub claim_granted : (back : Ticket) (claim : Claim) → Wants ticket (want.Fetch back claim) old mid → HoldsNewClaim mid claim.root
  claim_granted back claim is = ap (λ (h : Held). h.claim) (wanted ticket (want.Fetch back claim) old mid is)

  -- after the fetch
  pub holds_fetched : (back : Ticket) (claim : Claim) (new : View) → Wants ticket (want.Fetch back claim) old mid → held_by new ≡ without_claim (held_by mid) → HoldsTicket old ticket → HoldsTicket new back
  holds_fetched back claim new is held holds =
      subst (λ (t : Ticket). HoldsTicket new t) (sym is.1)
      (ticket_stays ticket mid new (ap (λ (h : Held). h.tickets) held) (ticket_back ticket (want.Fetch back claim) old mid is refl holds))

  pub held_fetched : (back : Ticket) (claim : Claim) (new : View) → Wants ticket (want.Fetch back claim) old mid → held_by new ≡ without_claim (held_by mid) → HoldsNoClaim old → held_by new ≡ held_by old
  held_fetched back claim new is held free =
      held ∙ ap without_claim (wanted ticket (want.Fetch back claim) old mid is) ∙ claim_back (held_by old) free

  -- the lane waited
  pub held_waited : (back : Ticket) (bell : ℕ) (new : View) → Wants ticket (want.NotYet back bell) old mid → Rests mid new → held_by new ≡ held_by old
  held_waited back bell new is rests = held_by-Rests mid new rests ∙ wanted ticket (want.NotYet back bell) old mid is

  -- memory was short
  pub held_cut : (back : Ticket) (new : View) → Wants ticket (want.NoMemory back) old mid → Does mid new (IsGivenUp back.number)
      → held_by new ≡ without_ticket ticket.number (held_by old)
  held_cut back new is does =
      given_up back.number mid new does ∙ ap (λ (t : Ticket). without_ticket t.number (held_by mid)) is.1 ∙ ap (without_ticket ticket.number) (wanted ticket (want.NoMemory back) old mid is)

  -- the fetch was the last one
  pub held_stopped : (back : Ticket) (claim : Claim) (last new : View) (stop : Stop) (reply : ResolveReply) → reply ≡ reply_of stop → Wants ticket (want.Fetch back claim) old mid
      → held_by last ≡ without_claim (held_by mid) → HoldsNoClaim old → Does last new (IsGivenUp back.number)
      → held_by new ≡ held_after_arrival old.lane ticket.number reply (held_by old)
  held_stopped back claim last new stop reply same is held free does =
      given_up back.number last new does ∙ ap (λ (t : Ticket). without_ticket t.number (held_by last)) is.1 ∙ ap (without_ticket ticket.number) (held_fetched back claim last is held free) ∙
      sym (ap (λ (r : ResolveReply). held_after_arrival old.lane ticket.number r (held_by old)) same ∙ stop_held old.lane ticket.number stop (held_by old))

-- ---- the run goes on

module _ (path : NameAndVariant) (ticket : Ticket) (old mid : View) (listing : Option (List Pinned)) (files : Option (List RepoFile)) where
  -- the answer is the last one, or there is none yet
  pub round_over : (reply : WantReply) (to : Point) (faults asked : ℕ) → Wants ticket reply old mid → mid.fillers ≡ old.fillers → granted_by reply ≡ 0 → after_want (ticket_for path ticket) reply ≡ to
      → Fetches (Waiting (ticket_for path ticket)) to old mid listing files faults faults asked asked
  round_over reply to faults asked is fillers none there = record {
    granted = 0;
    goes = subst (λ (p : Point). Goes 0 (Waiting (ticket_for path ticket)) p old mid listing files faults faults) there
        (subst (λ (n : ℕ). Goes n (Waiting (ticket_for path ticket)) (after_want (ticket_for path ticket) reply) old mid listing files faults faults) none
        (want_goes listing files faults path ticket reply old mid is fillers));
    fetches = refl;
  }

  pub round_waited : (back : Ticket) (bell : ℕ) (new : View) (faults asked : ℕ) → Wants ticket (want.NotYet back bell) old mid → mid.fillers ≡ old.fillers → Rests mid new → new.fillers ≡ mid.fillers
      → Fetches (Waiting (ticket_for path ticket)) (Waiting (ticket_for path ticket)) old new listing files faults faults asked asked
  round_waited back bell new faults asked is fillers rests fillers_then =
      let t = ticket_for path ticket in record {
        granted = 0;
        goes = goes_then 0 0 (Waiting t) (Waiting t) (Waiting t) old mid new listing files faults faults faults
            (want_goes listing files faults path ticket (want.NotYet back bell) old mid is fillers)
            (goes_rests (Waiting t) mid new listing files faults faults rests fillers_then (failed_same faults));
        fetches = refl;
      }

  pub round_cut : (back : Ticket) (new : View) (faults asked : ℕ) → Wants ticket (want.NoMemory back) old mid → mid.fillers ≡ old.fillers → Does mid new (IsGivenUp back.number) → new.fillers ≡ mid.fillers
      → Fetches (Waiting (ticket_for path ticket)) (Refused replies.NoMemory) old new listing files faults faults asked asked
  round_cut back new faults asked is fillers does fillers_then =
      let t = ticket_for path ticket in record {
        granted = 0;
        goes = goes_then 0 0 (Waiting t) (Waiting t) (Refused replies.NoMemory) old mid new listing files faults faults faults
            (want_goes listing files faults path ticket (want.NoMemory back) old mid is fillers)
            (cut_goes listing files faults t mid new (subst (λ (k : Ticket). Does mid new (IsGivenUp k.number)) is.1 does) fillers_then);
        fetches = refl;
      }

  -- a blob was granted, and the fetch is over
  granted : (back : Ticket) (claim : Claim) (new : View) (to : Point) (before after : ℕ) → Wants ticket (want.Fetch back claim) old mid → mid.fillers ≡ old.fillers
      → Goes 0 (Granted (ticket_for path ticket) claim.root) to mid new listing files before after → Goes 1 (Waiting (ticket_for path ticket)) to old new listing files before after
  granted back claim new to before after is fillers fetched =
      let t = ticket_for path ticket in
      goes_then 1 0 (Waiting t) (Granted t claim.root) to old mid new listing files before before after
      (want_goes listing files before path ticket (want.Fetch back claim) old mid is fillers) fetched

  pub round_fetched : (back : Ticket) (claim : Claim) (new : View) (before after asked asked_now : ℕ) → Wants ticket (want.Fetch back claim) old mid → mid.fillers ≡ old.fillers
      → Goes 0 (Granted (ticket_for path ticket) claim.root) (Waiting (ticket_for path ticket)) mid new listing files before after → asked_now ≡ one_more asked
      → Fetches (Waiting (ticket_for path ticket)) (Waiting (ticket_for path ticket)) old new listing files before after asked asked_now
  round_fetched back claim new before after asked asked_now is fillers fetched counts = record {
    granted = 1;
    goes = granted back claim new (Waiting (ticket_for path ticket)) before after is fillers fetched;
    fetches = counts;
  }

  pub round_stopped : (back : Ticket) (claim : Claim) (last new : View) (stop : Stop) (reply : ResolveReply) (before after asked asked_now : ℕ) → reply ≡ reply_of stop → Wants ticket (want.Fetch back claim) old mid → mid.fillers ≡ old.fillers
      → Goes 0 (Granted (ticket_for path ticket) claim.root) (Giving (ticket_for path ticket) (reply_of stop)) mid last listing files before after → asked_now ≡ one_more asked
      → Does last new (IsGivenUp back.number) → new.fillers ≡ last.fillers
      → Fetches (Waiting (ticket_for path ticket)) (after_arrival (ticket_for path ticket) reply) old new listing files before after asked asked_now
  round_stopped back claim last new stop reply before after asked asked_now same is fillers fetched counts does fillers_then =
      let t = ticket_for path ticket in record {
        granted = 1;
        goes = subst (λ (p : Point). Goes 1 (Waiting t) p old new listing files before after) (sym (ap (after_arrival t) same ∙ stop_refused t stop))
            (goes_then 1 0 (Waiting t) (Giving t (reply_of stop)) (Refused (reply_of stop)) old last new listing files before after after
            (granted back claim last (Giving t (reply_of stop)) before after is fillers fetched)
            (give_up_goes listing files after t (reply_of stop) last new (subst (λ (k : Ticket). Does last new (IsGivenUp k.number)) is.1 does) fillers_then));
        fetches = counts;
      }
