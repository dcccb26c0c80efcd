-- What a lane has in the state, by what it holds.
use Rattle.std.proofs.Common.{inl, inr, ◌≡◌, ℕ, List, [], ◌∷◌, map, Option, Some, None, refl, sym, ap, subst, ◌∙◌}
use Rattle.std.specs.Prelude.{◌==◌, filter}
use Rattle.std.specs.Option.{option_map, option_to_list}
use Rattle.std.proofs.lemmas.Bool.{cases_Bool, eqb-true}
use Rattle.pkg_names.specs.declared.pinned.Pinned.{Pinned}
use Rattle.pkg_names.specs.NameAndVariant.{NameAndVariant}
use Rattle.pkg_names.specs.declared.root.Root.{Root}
use Rattle.repo_source.specs.declared.file.RepoFile.{RepoFile}
use Rattle.fetch_queue.specs.declared.queue.ClaimEntry.{ClaimEntry}
use Rattle.open_tracker.specs.declared.dirs.DirEntry.{DirEntry}
use Rattle.store_model.specs.State.{State, Arrival, Phase, Stage}
use Rattle.store_model.specs.Desk.{View, Stays, state_of, held_by}
use Rattle.store_model.specs.History.{Numbered, after}
use Rattle.store_model.specs.Holding.{HeldTicket, HeldClaim, Held, held}
use Rattle.store_model.specs.Held.{HoldsAsState, ticket_in, claim_in}
use Rattle.store_model.specs.Lanes.{HoldsSame, claims_of, tickets_of, dirs_of, stage_of, if_of, unmarked}
use Rattle.store_model.proofs.Holding.{holds_as_state}
use Rattle.resolver.specs.declared.reply.ResolveReply.{ResolveReply}
use Rattle.resolver.specs.declared.reply.ResolveReply.TheVariants as replies
use Rattle.resolver.specs.Viewing.{Agrees, IsHeldAfter, Resolves}
use Rattle.resolver.specs.Laws.{HasDirsAfter, LeavesNothing, IsIdleIn}

-- ---- the state's entries by what is held

abbrev claim_entry : ℕ → HeldClaim → ClaimEntry
claim_entry lane claim = record { root = claim.root; lane = lane; len = claim.len }

abbrev arrival_entry : ℕ → HeldTicket → Arrival
arrival_entry lane ticket = record { ticket = ticket.number; lane = lane; path = ticket.path; root = ticket.root; mark = None }

abbrev stage_entry : ℕ → Phase → Stage
stage_entry lane phase = record { lane = lane; phase = phase }

claims_back : (lane : ℕ) (claims : List ClaimEntry) → map (claim_entry lane) (map claim_in (filter (λ (claim : ClaimEntry). claim.lane == lane) claims)) ≡ filter (λ (claim : ClaimEntry). claim.lane == lane) claims
claims_back lane [] = refl
claims_back lane (x ∷ xs) = elim (cases_Bool (x.lane == lane)) [
  | inl own ↦ rw own (ap (λ (l : ℕ). claim_entry l (claim_in x) ∷ map (claim_entry lane) (map claim_in (filter (λ (claim : ClaimEntry). claim.lane == lane) xs))) (sym (eqb-true x.lane lane own)) ∙ ap (λ (cs : List ClaimEntry). x ∷ cs) (claims_back lane xs))
  | inr other ↦ rw other (claims_back lane xs)
]

arrivals_back : (lane : ℕ) (arriving : List Arrival) → map (arrival_entry lane) (map ticket_in (map unmarked (filter (λ (arrival : Arrival). arrival.lane == lane) arriving))) ≡ map unmarked (filter (λ (arrival : Arrival). arrival.lane == lane) arriving)
arrivals_back lane [] = refl
arrivals_back lane (x ∷ xs) = elim (cases_Bool (x.lane == lane)) [
  | inl own ↦ rw own (ap (λ (l : ℕ). arrival_entry l (ticket_in x) ∷ map (arrival_entry lane) (map ticket_in (map unmarked (filter (λ (arrival : Arrival). arrival.lane == lane) xs)))) (sym (eqb-true x.lane lane own)) ∙ ap (λ (cs : List Arrival). unmarked x ∷ cs) (arrivals_back lane xs))
  | inr other ↦ rw other (arrivals_back lane xs)
]

stage_back : (lane : ℕ) (stage : Option Stage) → option_map (stage_entry lane) (option_map (λ (stage : Stage). stage.phase) (if_of lane stage)) ≡ if_of lane stage
stage_back lane None = refl
stage_back lane (Some x) = elim (cases_Bool (x.lane == lane)) [
  | inl own ↦ rw own (ap (λ (l : ℕ). Some (stage_entry l x.phase)) (sym (eqb-true x.lane lane own)))
  | inr other ↦ rw other refl
]

-- ---- two moments

-- the lane holds the same but for directories
record HeldSame (h k : Held) : Type 0 where
  claim : k.claim ≡ h.claim
  tickets : k.tickets ≡ h.tickets
  stage : k.stage ≡ h.stage

module _ (lane : ℕ) (h k : Held) (s t : State) (at_s : HoldsAsState lane h s) (at_t : HoldsAsState lane k t) where
  same_claims : k.claim ≡ h.claim → claims_of lane t ≡ claims_of lane s
  same_claims same =
      sym (claims_back lane t.claims) ∙ ap (map (claim_entry lane)) (sym at_t.claim ∙ ap option_to_list same ∙ at_s.claim) ∙ claims_back lane s.claims

  same_tickets : k.tickets ≡ h.tickets → tickets_of lane t ≡ tickets_of lane s
  same_tickets same = sym (arrivals_back lane t.arriving) ∙ ap (map (arrival_entry lane)) (sym at_t.tickets ∙ same ∙ at_s.tickets) ∙ arrivals_back lane s.arriving

  same_stage : k.stage ≡ h.stage → stage_of lane t ≡ stage_of lane s
  same_stage same = sym (stage_back lane t.stage) ∙ ap (option_map (stage_entry lane)) (sym at_t.stage ∙ same ∙ at_s.stage) ∙ stage_back lane s.stage

  holds_same : k ≡ h → HoldsSame lane s t
  holds_same same = record {
    claims = same_claims (ap (λ (x : Held). x.claim) same);
    tickets = same_tickets (ap (λ (x : Held). x.tickets) same);
    dirs = sym at_t.dirs ∙ ap (λ (x : Held). x.dirs) same ∙ at_s.dirs;
    stage = same_stage (ap (λ (x : Held). x.stage) same);
  }

  leaves_dirs : (reply : ResolveReply) → k.claim ≡ h.claim → k.tickets ≡ h.tickets → k.stage ≡ h.stage → HasDirsAfter lane reply h.dirs k.dirs → LeavesNothing lane reply s t
  leaves_dirs reply claim tickets stage dirs = record {
    claims = same_claims claim;
    tickets = same_tickets tickets;
    stage = same_stage stage;
    dirs = subst (λ (ds : List DirEntry). HasDirsAfter lane reply ds (dirs_of lane t)) at_s.dirs (subst (HasDirsAfter lane reply h.dirs) at_t.dirs dirs);
  }

  leaves_all : (reply : ResolveReply) → k ≡ h → (k.dirs ≡ h.dirs → HasDirsAfter lane reply h.dirs k.dirs) → LeavesNothing lane reply s t
  leaves_all reply same dirs =
      leaves_dirs reply (ap (λ (x : Held). x.claim) same) (ap (λ (x : Held). x.tickets) same) (ap (λ (x : Held). x.stage) same) (dirs (ap (λ (x : Held). x.dirs) same))

  leaves : (reply : ResolveReply) → IsHeldAfter lane reply h k → LeavesNothing lane reply s t
  leaves (replies.Resolved dir) is =
      leaves_dirs (replies.Resolved dir) (ap (λ (x : Held). x.claim) is.1) (ap (λ (x : Held). x.tickets) is.1) (ap (λ (x : Held). x.stage) is.1) (is.0, ap (λ (x : Held). x.dirs) is.1)
  leaves replies.InRecovery is = leaves_all replies.InRecovery is (λ d. d)
  leaves replies.NotFound is = leaves_all replies.NotFound is (λ d. d)
  leaves replies.ListingFault is = leaves_all replies.ListingFault is (λ d. d)
  leaves (replies.Failed cause) is = leaves_all (replies.Failed cause) is (λ d. d)
  leaves replies.DiskRead is = leaves_all replies.DiskRead is (λ d. d)
  leaves (replies.Rotten root got) is = leaves_all (replies.Rotten root got) is (λ d. d)
  leaves (replies.Broken number) is = leaves_all (replies.Broken number) is (λ d. d)
  leaves replies.NoMemory is = leaves_all replies.NoMemory is (λ d. d)

-- what a lane holds is the state's
holds_agreed : (v : View) → Agrees v → HoldsAsState v.lane (held_by v) (state_of v)
holds_agreed v agrees =
    subst (λ (es : List Numbered). HoldsAsState v.lane (held es) (state_of v)) (sym agrees.own) (holds_as_state v.origin v.seen v.lane agrees.legal)

holds_later : (old new : View) → Stays old new → Agrees new → HoldsAsState old.lane (held_by new) (state_of new)
holds_later old new stays agrees = subst (λ (l : ℕ). HoldsAsState l (held_by new) (state_of new)) stays.lane (holds_agreed new agrees)

-- A lane that holds the same has the same in the state.
pub same_in_state : (old new : View) → Stays old new → Agrees old → Agrees new → held_by new ≡ held_by old → HoldsSame old.lane (state_of old) (state_of new)
same_in_state old new stays before after same =
    holds_same old.lane (held_by old) (held_by new) (state_of old) (state_of new) (holds_agreed old before) (holds_later old new stays after) same

pub leaves_nothing : (path : NameAndVariant) (pin : Option Root) (reply : ResolveReply) (old new : View) (listing : Option (List Pinned)) (files : Option (List RepoFile)) (faults faults_now fetches fetches_now : ℕ)
    → Resolves path pin reply old new listing files faults faults_now fetches fetches_now → Agrees old → LeavesNothing old.lane reply (state_of old) (state_of new)
leaves_nothing path pin reply old new listing files faults faults_now fetches fetches_now resolves agrees =
    leaves old.lane (held_by old) (held_by new) (state_of old) (state_of new) (holds_agreed old agrees)
    (holds_later old new resolves.stays (resolves.agrees agrees)) reply resolves.held

pub leaves_idle : (path : NameAndVariant) (pin : Option Root) (reply : ResolveReply) (old new : View) (listing : Option (List Pinned)) (files : Option (List RepoFile)) (faults faults_now fetches fetches_now : ℕ)
    → Resolves path pin reply old new listing files faults faults_now fetches fetches_now → Agrees old → IsIdleIn old.lane (state_of old) → IsIdleIn old.lane (state_of new)
leaves_idle path pin reply old new listing files faults faults_now fetches fetches_now resolves agrees idle =
    let is = leaves_nothing path pin reply old new listing files faults faults_now fetches fetches_now resolves agrees in
    record { claims = is.claims ∙ idle.claims; tickets = is.tickets ∙ idle.tickets; stage = is.stage ∙ idle.stage }
