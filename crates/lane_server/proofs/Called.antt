-- What a request that is one call comes to, by its reply.
use Rattle.std.proofs.Common.{inl, inr, ◌≡◌, ℕ, ◌+◌, ◌++◌, true, false, List, [], ◌∷◌, length, Some, None, refl, sym, ap, subst, ◌∙◌}
use Rattle.std.specs.Prelude.{◌↔◌}
use Rattle.pkg_names.specs.NameAndVariant.{NameAndVariant}
use Rattle.pkg_names.specs.declared.root.Root.{Root}
use Rattle.script_lang.specs.declared.request.Ask.TheVariants as asks
use Rattle.store_model.specs.declared.events.Event.{Event}
use Rattle.store_model.specs.declared.events.Act.TheVariants as acts
use Rattle.store_model.specs.declared.events.CallName.TheVariants as calls
use Rattle.store_model.specs.declared.ends.CheckEnd.TheVariants as checks
use Rattle.store_model.specs.declared.replies.Dir.{Dir}
use Rattle.store_model.specs.declared.replies.OpenReply.{OpenReply}
use Rattle.store_model.specs.declared.replies.OpenReply.TheVariants as opening
use Rattle.store_model.specs.declared.replies.ReadReply.{ReadReply}
use Rattle.store_model.specs.declared.replies.ReadReply.TheVariants as read
use Rattle.store_model.specs.declared.replies.CheckReply.{CheckReply}
use Rattle.store_model.specs.declared.replies.CheckReply.TheVariants as check
use Rattle.store_model.specs.declared.replies.CloseReply.{CloseReply}
use Rattle.store_model.specs.declared.replies.CloseReply.TheVariants as close
use Rattle.store_model.specs.declared.replies.CollectReply.{CollectReply}
use Rattle.store_model.specs.declared.replies.CollectReply.TheVariants as collect
use Rattle.store_model.specs.declared.replies.RetainReply.{RetainReply}
use Rattle.store_model.specs.declared.replies.RetainReply.TheVariants as retain
use Rattle.store_model.specs.declared.replies.CommitReply.{CommitReply}
use Rattle.store_model.specs.declared.replies.CommitReply.TheVariants as commit
use Rattle.store_model.specs.History.{Numbered}
use Rattle.store_model.specs.Holding.{Held}
use Rattle.store_model.specs.Desk as desk
use Rattle.store_model.specs.Desk.{View, Rests, held_by}
use Rattle.store_model.specs.Replies.{IsOpened, IsRead, IsChecked, IsClosed, IsCollected, IsRetained, IsCommitted}
use Rattle.store_model.specs.Calls as call
use Rattle.store_model.proofs.Calls.{held_by-Rests}
use Rattle.store_model.proofs.CallsHeld.{opened, closed}
use Rattle.store_model.proofs.CallsRest.{held_after_read, held_after_check, held_after_collect, held_after_retain, held_after_commit}
use Rattle.system_updater.specs.Serving.{IsOne}
use Rattle.system_updater.specs.Viewing.{Told}
use Rattle.system_updater.proofs.Goes.{IsPlainEvent, plain_by, read_plain, retain_plain, does_event, does_rest, does_none}
use Rattle.lane_server.specs.declared.names.Binding.{Binding}
use Rattle.lane_server.specs.Names.{number_under, unbound}
use Rattle.lane_server.specs.Serving.{place_of, Serves, after_open}
use Rattle.lane_server.specs.Viewing.{Does}

-- ---- one event, or none

module _ (old new : View) (repo : Told) (F G : Type 0) where
  event_does : (P : List Numbered → Type 0) (IsIts : ℕ → Event → Type 0) (does : desk.Does old new IsIts) → ((leg : List Numbered) → IsOne IsIts leg → P leg) → IsPlainEvent does.event
      → (held_by new).claim ≡ (held_by old).claim → (held_by new).tickets ≡ (held_by old).tickets → (held_by new).stage ≡ (held_by old).stage → F ↔ G → Does P old new repo repo F G
  event_does P IsIts does leads plain claim tickets stage firm =
      let e : Numbered = record { number = length (old.seen ++ does.others) + 1; event = does.event } in record {
        run = e ∷ [];
        its = leads (e ∷ []) (e, refl, does.its);
        does = does_event old new repo F G IsIts does plain.act plain.is plain.plain claim firm;
        tickets = tickets;
        stage = stage;
      }

  -- what is held stays
  held_does : (P : List Numbered → Type 0) (IsIts : ℕ → Event → Type 0) (does : desk.Does old new IsIts) → ((leg : List Numbered) → IsOne IsIts leg → P leg) → IsPlainEvent does.event
      → held_by new ≡ held_by old → F ↔ G → Does P old new repo repo F G
  held_does P IsIts does leads plain held firm =
      event_does P IsIts does leads plain (ap (λ (h : Held). h.claim) held) (ap (λ (h : Held). h.tickets) held) (ap (λ (h : Held). h.stage) held) firm

  -- the call was cut
  pub rest_does : (P : List Numbered → Type 0) → P [] → Rests old new → F ↔ G → Does P old new repo repo F G
  rest_does P is rests firm =
      let held = held_by-Rests old new rests in record {
        run = [];
        its = is;
        does = does_rest old new repo F G rests (ap (λ (h : Held). h.claim) held) firm;
        tickets = ap (λ (h : Held). h.tickets) held;
        stage = ap (λ (h : Held). h.stage) held;
      }

-- no call was made
pub none_does : (P : List Numbered → Type 0) (v : View) (repo : Told) (F : Type 0) → P [] → Does P v v repo repo F F
none_does P v repo F is = record { run = []; its = is; does = does_none v repo F; tickets = refl; stage = refl }

-- ---- a package is opened

open_plain : (path : NameAndVariant) (reply : OpenReply) (number : ℕ) (e : Event) → IsOpened path reply number e → IsPlainEvent e
open_plain path (opening.Opened dir) number e is = plain_by (acts.OpenPath path (Some is.1.0)) e is.1.1.0 refl refl (λ all. tt) (λ all. tt)
open_plain path opening.NotHere number e is = plain_by (acts.OpenPath path None) e is.0 refl refl (λ all. tt) (λ all. tt)
open_plain path (opening.Broken broken) number e is = plain_by (acts.Refused (calls.OpenPath path) broken) e is.0 refl refl (λ all. tt) (λ all. tt)
open_plain path opening.NoMemory number e is = absurd is

pub unopened : (names : List Binding) (name : List ℕ) (reply : OpenReply) → ((dir : Dir) → reply ≡ opening.Opened dir → ⊥) → after_open names name reply ≡ unbound names name
unopened names name (opening.Opened dir) isnt = absurd (isnt dir refl)
unopened names name opening.NotHere isnt = refl
unopened names name (opening.Broken number) isnt = refl
unopened names name opening.NoMemory isnt = refl

module _ (names later : List Binding) (name : List ℕ) (path : NameAndVariant) (old new : View) (repo : Told) (F G : Type 0) where
  open_event : (reply : OpenReply) → later ≡ after_open names name reply → desk.Does old new (IsOpened path reply) → (held_by new).claim ≡ (held_by old).claim → (held_by new).tickets ≡ (held_by old).tickets → (held_by new).stage ≡ (held_by old).stage → F ↔ G
      → Does (λ run. Serves F (place_of new) names (asks.OpenPath name path) run later) old new repo repo F G
  open_event reply after does claim tickets stage firm =
      event_does old new repo F G (λ run. Serves F (place_of new) names (asks.OpenPath name path) run later) (IsOpened path reply) does (λ leg is. record { reply = reply; event = is; leads = after })
      (open_plain path reply (length (old.seen ++ does.others) + 1) does.event does.its) claim tickets stage firm

  pub open_served : (reply : OpenReply) → (reply ≡ opening.NoMemory → ⊥) → later ≡ after_open names name reply → call.Opens path reply old new → F ↔ G
      → Does (λ run. Serves F (place_of new) names (asks.OpenPath name path) run later) old new repo repo F G
  open_served (opening.Opened dir) isnt after is firm =
      let held = opened path (opening.Opened dir) old new is in
      open_event (opening.Opened dir) after is (ap (λ (h : Held). h.claim) held.1) (ap (λ (h : Held). h.tickets) held.1) (ap (λ (h : Held). h.stage) held.1) firm
  open_served opening.NotHere isnt after is firm =
      let held = opened path opening.NotHere old new is in
      open_event opening.NotHere after is (ap (λ (h : Held). h.claim) held) (ap (λ (h : Held). h.tickets) held) (ap (λ (h : Held). h.stage) held) firm
  open_served (opening.Broken number) isnt after is firm =
      let held = opened path (opening.Broken number) old new is in
      open_event (opening.Broken number) after is (ap (λ (h : Held). h.claim) held) (ap (λ (h : Held). h.tickets) held) (ap (λ (h : Held). h.stage) held) firm
  open_served opening.NoMemory isnt after is firm = absurd (isnt refl)

-- ---- a file is read

module _ (names : List Binding) (name file : List ℕ) (dir : ℕ) (same : dir ≡ number_under names name) (old new : View) (repo : Told) (F G : Type 0) where
  read_event : (reply : ReadReply) → desk.Does old new (IsRead dir file reply) → held_by new ≡ held_by old → F ↔ G → Does (λ run. Serves F (place_of new) names (asks.Cat name file) run names) old new repo repo F G
  read_event reply does held firm =
      held_does old new repo F G (λ run. Serves F (place_of new) names (asks.Cat name file) run names) (IsRead dir file reply) does
      (λ leg is. record { reply = reply; event = subst (λ (d : ℕ). IsOne (IsRead d file reply) leg) same is; leads = refl })
      (read_plain dir file reply (length (old.seen ++ does.others) + 1) does.event does.its) held firm

  pub read_served : (reply : ReadReply) → (reply ≡ read.NoMemory → ⊥) → call.Reads dir file reply old new → F ↔ G → Does (λ run. Serves F (place_of new) names (asks.Cat name file) run names) old new repo repo F G
  read_served (read.Got bytes) isnt is firm = read_event (read.Got bytes) is (held_after_read dir file (read.Got bytes) old new is) firm
  read_served read.BadDir isnt is firm = read_event read.BadDir is (held_after_read dir file read.BadDir old new is) firm
  read_served read.NoFile isnt is firm = read_event read.NoFile is (held_after_read dir file read.NoFile old new is) firm
  read_served (read.TooLong len) isnt is firm = read_event (read.TooLong len) is (held_after_read dir file (read.TooLong len) old new is) firm
  read_served read.DiskRead isnt is firm = read_event read.DiskRead is (held_after_read dir file read.DiskRead old new is) firm
  read_served (read.Rotten root got) isnt is firm = read_event (read.Rotten root got) is (held_after_read dir file (read.Rotten root got) old new is) firm
  read_served (read.Broken number) isnt is firm = read_event (read.Broken number) is (held_after_read dir file (read.Broken number) old new is) firm
  read_served read.NoMemory isnt is firm = absurd (isnt refl)

-- ---- a file is checked

check_plain : (dir : ℕ) (file : List ℕ) (reply : CheckReply) (number : ℕ) (e : Event) → IsChecked dir file reply number e → IsPlainEvent e
check_plain dir file (check.Checked root len) number e is = plain_by (acts.Check dir file (checks.Checked root len)) e is.0 refl refl (λ all. tt) (λ all. tt)
check_plain dir file check.BadDir number e is = plain_by (acts.Check dir file checks.BadDir) e is.0 refl refl (λ all. tt) (λ all. tt)
check_plain dir file check.NoFile number e is = plain_by (acts.Check dir file checks.NoFile) e is.0 refl refl (λ all. tt) (λ all. tt)
check_plain dir file check.DiskRead number e is = plain_by (acts.Check dir file checks.DiskRead) e is.0 refl refl (λ all. tt) (λ all. tt)
check_plain dir file (check.Rotten root got) number e is = plain_by (acts.Check dir file (checks.Rotten root got)) e is.0 refl refl (λ all. tt) (λ all. tt)
check_plain dir file (check.Broken broken) number e is = plain_by (acts.Refused (calls.Check dir file) broken) e is.0 refl refl (λ all. tt) (λ all. tt)
check_plain dir file check.NoMemory number e is = absurd is

module _ (names : List Binding) (name file : List ℕ) (dir : ℕ) (same : dir ≡ number_under names name) (old new : View) (repo : Told) (F G : Type 0) where
  check_event : (reply : CheckReply) → desk.Does old new (IsChecked dir file reply) → held_by new ≡ held_by old → F ↔ G → Does (λ run. Serves F (place_of new) names (asks.Check name file) run names) old new repo repo F G
  check_event reply does held firm =
      held_does old new repo F G (λ run. Serves F (place_of new) names (asks.Check name file) run names) (IsChecked dir file reply) does
      (λ leg is. record { reply = reply; event = subst (λ (d : ℕ). IsOne (IsChecked d file reply) leg) same is; leads = refl })
      (check_plain dir file reply (length (old.seen ++ does.others) + 1) does.event does.its) held firm

  pub check_served : (reply : CheckReply) → (reply ≡ check.NoMemory → ⊥) → call.Checks dir file reply old new → F ↔ G → Does (λ run. Serves F (place_of new) names (asks.Check name file) run names) old new repo repo F G
  check_served (check.Checked root len) isnt is firm = check_event (check.Checked root len) is (held_after_check dir file (check.Checked root len) old new is) firm
  check_served check.BadDir isnt is firm = check_event check.BadDir is (held_after_check dir file check.BadDir old new is) firm
  check_served check.NoFile isnt is firm = check_event check.NoFile is (held_after_check dir file check.NoFile old new is) firm
  check_served check.DiskRead isnt is firm = check_event check.DiskRead is (held_after_check dir file check.DiskRead old new is) firm
  check_served (check.Rotten root got) isnt is firm = check_event (check.Rotten root got) is (held_after_check dir file (check.Rotten root got) old new is) firm
  check_served (check.Broken number) isnt is firm = check_event (check.Broken number) is (held_after_check dir file (check.Broken number) old new is) firm
  check_served check.NoMemory isnt is firm = absurd (isnt refl)

-- ---- a directory is closed

close_plain : (dir : ℕ) (reply : CloseReply) (number : ℕ) (e : Event) → IsClosed dir reply number e → IsPlainEvent e
close_plain dir close.Closed number e is = plain_by (acts.Close dir true) e is.0 refl refl (λ all. tt) (λ all. tt)
close_plain dir close.BadDir number e is = plain_by (acts.Close dir false) e is.0 refl refl (λ all. tt) (λ all. tt)
close_plain dir close.NoMemory number e is = absurd is

module _ (names later : List Binding) (name : List ℕ) (dir : ℕ) (same : dir ≡ number_under names name) (after : later ≡ unbound names name) (old new : View) (repo : Told) (F G : Type 0) where
  close_event : (reply : CloseReply) → desk.Does old new (IsClosed dir reply) → held_by new ≡ record (held_by old) { dirs = (held_by new).dirs } → F ↔ G → Does (λ run. Serves F (place_of new) names (asks.Close name) run later) old new repo repo F G
  close_event reply does held firm =
      event_does old new repo F G (λ run. Serves F (place_of new) names (asks.Close name) run later) (IsClosed dir reply) does
      (λ leg is. record { reply = reply; event = subst (λ (d : ℕ). IsOne (IsClosed d reply) leg) same is; leads = after })
      (close_plain dir reply (length (old.seen ++ does.others) + 1) does.event does.its) (ap (λ (h : Held). h.claim) held) (ap (λ (h : Held). h.tickets) held) (ap (λ (h : Held). h.stage) held) firm

  pub close_served : (reply : CloseReply) → (reply ≡ close.NoMemory → ⊥) → call.Closes dir reply old new → F ↔ G → Does (λ run. Serves F (place_of new) names (asks.Close name) run later) old new repo repo F G
  close_served close.Closed isnt is firm =
      let held = closed dir close.Closed old new is in close_event close.Closed is (held ∙ ap (λ (h : Held). record (held_by old) { dirs = h.dirs }) (sym held)) firm
  close_served close.BadDir isnt is firm =
      let held = closed dir close.BadDir old new is in close_event close.BadDir is (held ∙ ap (λ (h : Held). record (held_by old) { dirs = h.dirs }) (sym held)) firm
  close_served close.NoMemory isnt is firm = absurd (isnt refl)

-- ---- the store as a whole

collect_plain : (reply : CollectReply) (number : ℕ) (e : Event) → IsCollected reply number e → IsPlainEvent e
collect_plain (collect.Removed roots) number e is = plain_by (acts.Collect (Some roots)) e is.0 refl refl (λ all. tt) (λ all. tt)
collect_plain collect.NotCommitted number e is = plain_by (acts.Collect None) e is.0 refl refl (λ all. tt) (λ all. tt)
collect_plain (collect.Broken broken) number e is = elim is [ inl refused ↦ plain_by (acts.Refused calls.Collect broken) e refused.0 refl refl (λ all. tt) (λ all. tt) | inr failed ↦ plain_by (acts.Collect (Some failed.0)) e failed.1.1 refl refl (λ all. tt) (λ all. tt) ]
collect_plain collect.NoMemory number e is = absurd is

commit_plain : (reply : CommitReply) (number : ℕ) (e : Event) → IsCommitted reply number e → IsPlainEvent e
commit_plain commit.Committed number e is = plain_by (acts.Commit true) e is.0 refl refl (λ all. tt) (λ all. tt)
commit_plain commit.NotPending number e is = plain_by (acts.Commit false) e is.0 refl refl (λ all. tt) (λ all. tt)
commit_plain (commit.Broken broken) number e is = elim is [ inl refused ↦ plain_by (acts.Refused calls.Commit broken) e refused.0 refl refl (λ all. tt) (λ all. tt) | inr failed ↦ plain_by (acts.Commit true) e failed.1 refl refl (λ all. tt) (λ all. tt) ]
commit_plain commit.NoMemory number e is = absurd is

module _ (names : List Binding) (old new : View) (repo : Told) (F G : Type 0) where
  collect_event : (reply : CollectReply) → desk.Does old new (IsCollected reply) → held_by new ≡ held_by old → F ↔ G → Does (λ run. Serves F (place_of new) names asks.Collect run names) old new repo repo F G
  collect_event reply does held firm =
      held_does old new repo F G (λ run. Serves F (place_of new) names asks.Collect run names) (IsCollected reply) does (λ leg is. record { reply = reply; event = is; leads = refl })
      (collect_plain reply (length (old.seen ++ does.others) + 1) does.event does.its) held firm

  pub collect_served : (reply : CollectReply) → (reply ≡ collect.NoMemory → ⊥) → call.Collects reply old new → F ↔ G → Does (λ run. Serves F (place_of new) names asks.Collect run names) old new repo repo F G
  collect_served (collect.Removed roots) isnt is firm = collect_event (collect.Removed roots) is (held_after_collect (collect.Removed roots) old new is) firm
  collect_served collect.NotCommitted isnt is firm = collect_event collect.NotCommitted is (held_after_collect collect.NotCommitted old new is) firm
  collect_served (collect.Broken number) isnt is firm = collect_event (collect.Broken number) is (held_after_collect (collect.Broken number) old new is) firm
  collect_served collect.NoMemory isnt is firm = absurd (isnt refl)

  retain_event : (roots : List Root) (reply : RetainReply) → desk.Does old new (IsRetained roots (length roots) reply) → held_by new ≡ held_by old → F ↔ G → Does (λ run. Serves F (place_of new) names (asks.Retain roots) run names) old new repo repo F G
  retain_event roots reply does held firm =
      held_does old new repo F G (λ run. Serves F (place_of new) names (asks.Retain roots) run names) (IsRetained roots (length roots) reply) does (λ leg is. record { reply = reply; event = is; leads = refl })
      (retain_plain roots (length roots) reply (length (old.seen ++ does.others) + 1) does.event does.its) held firm

  pub retain_served : (roots : List Root) (reply : RetainReply) → (reply ≡ retain.NoMemory → ⊥) → call.Retains roots reply old new → F ↔ G → Does (λ run. Serves F (place_of new) names (asks.Retain roots) run names) old new repo repo F G
  retain_served roots retain.Done isnt is firm = retain_event roots retain.Done is (held_after_retain roots retain.Done old new is) firm
  retain_served roots retain.SlotInUse isnt is firm = retain_event roots retain.SlotInUse is (held_after_retain roots retain.SlotInUse old new is) firm
  retain_served roots retain.DiskRead isnt is firm = retain_event roots retain.DiskRead is (held_after_retain roots retain.DiskRead old new is) firm
  retain_served roots (retain.Rotten root got) isnt is firm = retain_event roots (retain.Rotten root got) is (held_after_retain roots (retain.Rotten root got) old new is) firm
  retain_served roots (retain.Broken number) isnt is firm = retain_event roots (retain.Broken number) is (held_after_retain roots (retain.Broken number) old new is) firm
  retain_served roots retain.NoMemory isnt is firm = absurd (isnt refl)

  commit_event : (reply : CommitReply) → desk.Does old new (IsCommitted reply) → held_by new ≡ held_by old → F ↔ G → Does (λ run. Serves F (place_of new) names asks.Commit run names) old new repo repo F G
  commit_event reply does held firm =
      held_does old new repo F G (λ run. Serves F (place_of new) names asks.Commit run names) (IsCommitted reply) does (λ leg is. record { reply = reply; event = is; leads = refl })
      (commit_plain reply (length (old.seen ++ does.others) + 1) does.event does.its) held firm

  pub commit_served : (reply : CommitReply) → (reply ≡ commit.NoMemory → ⊥) → call.Commits reply old new → F ↔ G → Does (λ run. Serves F (place_of new) names asks.Commit run names) old new repo repo F G
  commit_served commit.Committed isnt is firm = commit_event commit.Committed is (held_after_commit commit.Committed old new is) firm
  commit_served commit.NotPending isnt is firm = commit_event commit.NotPending is (held_after_commit commit.NotPending old new is) firm
  commit_served (commit.Broken number) isnt is firm = commit_event (commit.Broken number) is (held_after_commit (commit.Broken number) old new is) firm
  commit_served commit.NoMemory isnt is firm = absurd (isnt refl)
