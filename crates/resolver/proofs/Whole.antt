-- What the steps of a whole resolve come to, as its contract says it.
use Rattle.std.proofs.Common.{◌≡◌, ◌≤◌, ℕ, ◌+◌, List, Option, Some, refl, sym, ap, ◌∙◌, arith}
use Rattle.std.specs.Prelude.{Err}
use Rattle.pkg_names.specs.NameAndVariant.{NameAndVariant}
use Rattle.pkg_names.specs.Streams.{RoseBy}
use Rattle.pkg_names.specs.declared.pinned.Pinned.{Pinned}
use Rattle.pkg_names.specs.declared.root.Root.{Root}
use Rattle.repo_source.specs.declared.file.RepoFile.{RepoFile}
use Rattle.repo_source.specs.Repo.{FailedBy}
use Rattle.store_model.specs.Desk.{View, held_by}
use Rattle.store_model.specs.History.{Numbered}
use Rattle.store_model.specs.Holding.{HeldTicket}
use Rattle.resolver.specs.declared.reply.ResolveReply.{ResolveReply}
use Rattle.resolver.specs.declared.reply.ResolveReply.TheVariants as replies
use Rattle.resolver.specs.Serving.{Point, reply_at}
use Rattle.resolver.specs.Serving.Point.{Asking}
use Rattle.resolver.specs.Counting.{counted, failures, grants}
use Rattle.resolver.specs.Viewing.{IsHeldAfter, Resolves, TellsFaults}
use Rattle.resolver.specs.Steps.{Goes, Fetches, after_refusal, after_arrival, told_by}

-- The events tell of some of the faults.
pub whole : (path : NameAndVariant) (pin : Option Root) (to : Point) (reply : ResolveReply) (old new : View) (listing : Option (List Pinned)) (files : Option (List RepoFile)) (before told after asked asked_now : ℕ)
    → (f : Fetches (Asking path pin) to old new listing files before told asked asked_now) → ((m : ℕ) → RoseBy m before told → RoseBy m before after)
    → ((run : List Numbered) → grants run ≡ f.granted → TellsFaults reply run → after ≤ told) → reply_at to ≡ Some reply → IsHeldAfter old.lane reply (held_by old) (held_by new)
    → Resolves path pin reply old new listing files before after asked asked_now
whole path pin to reply old new listing files before told after asked asked_now f rose tells replied held =
    let h = f.goes in record {
      stays = h.stays;
      agrees = h.agrees;
      more = h.more;
      seen = h.seen;
      run = h.run;
      grows = h.mine;
      serves = record { point = to; leads = h.leads; replied = replied };
      held = held;
      fillers = h.fillers;
      asked = f.fetches ∙ ap (λ (n : ℕ). counted n asked) (sym h.grants);
      failed = rose (failures h.run) h.faults.0;
      spared = λ is. at_most (before + failures h.run) (tells h.run h.grants is) h.faults.1;
      lists = h.lists;
      tells = h.tells;
    } where
      at_most : (n : ℕ) → after ≤ told → told ≤ n → after ≤ n
      at_most n x y = omega arith

-- they tell of all
pub whole_told : (path : NameAndVariant) (pin : Option Root) (to : Point) (reply : ResolveReply) (old new : View) (listing : Option (List Pinned)) (files : Option (List RepoFile)) (before after asked asked_now : ℕ)
    → Fetches (Asking path pin) to old new listing files before after asked asked_now → reply_at to ≡ Some reply → IsHeldAfter old.lane reply (held_by old) (held_by new)
    → Resolves path pin reply old new listing files before after asked asked_now
whole_told path pin to reply old new listing files before after asked asked_now f =
    whole path pin to reply old new listing files before after after asked asked_now f (λ m h. h) (λ run is tells. omega arith)

-- one step before which nothing was asked
pub alone : (a b : Point) (v w : View) (listing : Option (List Pinned)) (files : Option (List RepoFile)) (x y asked asked_now : ℕ) → asked_now ≡ asked
    → Goes 0 a b v w listing files x y → Fetches a b v w listing files x y asked asked_now
alone a b v w listing files x y asked asked_now same goes = record { granted = 0; goes = goes; fetches = same }

-- ---- the replies

reply_refused : (path : NameAndVariant) (pin : Option Root) (reply : ResolveReply) → reply_at (after_refusal path pin reply) ≡ Some reply
reply_refused path pin (replies.Resolved dir) = refl
reply_refused path pin replies.InRecovery = refl
reply_refused path pin replies.NotFound = refl
reply_refused path pin replies.ListingFault = refl
reply_refused path pin (replies.Failed cause) = refl
reply_refused path pin replies.DiskRead = refl
reply_refused path pin (replies.Rotten root got) = refl
reply_refused path pin (replies.Broken number) = refl
reply_refused path pin replies.NoMemory = refl

pub reply_arrived : (ticket : HeldTicket) (reply : ResolveReply) → reply_at (after_arrival ticket reply) ≡ Some reply
reply_arrived ticket (replies.Resolved dir) = refl
reply_arrived ticket replies.InRecovery = refl
reply_arrived ticket replies.NotFound = refl
reply_arrived ticket replies.ListingFault = refl
reply_arrived ticket (replies.Failed cause) = refl
reply_arrived ticket replies.DiskRead = refl
reply_arrived ticket (replies.Rotten root got) = refl
reply_arrived ticket (replies.Broken number) = refl
reply_arrived ticket replies.NoMemory = refl

-- ---- a refusal

-- where the store took no package, they tell of none
rose_told : (A : Type 0) (reply : ResolveReply) (much m before after : ℕ) → FailedBy much before after
    → RoseBy m before (told_by {A = A} (Err reply) before after) → RoseBy m before after
rose_told A (replies.Resolved dir) much m before after h k = k
rose_told A replies.InRecovery much m before after h k = k
rose_told A replies.NotFound much m before after h k = k
rose_told A replies.ListingFault much m before after h k = k
rose_told A (replies.Failed cause) much m before after h k = k
rose_told A replies.DiskRead much m before after h k = k
rose_told A (replies.Rotten root got) much m before after h k = k
rose_told A (replies.Broken number) much m before after h k = same h.0 k where
  same : RoseBy much before after → RoseBy m before before → RoseBy m before after
  same x y = omega arith
rose_told A replies.NoMemory much m before after h k = same h.0 k where
  same : RoseBy much before after → RoseBy m before before → RoseBy m before after
  same x y = omega arith

none_granted : (n a b : ℕ) → n ≡ 0 → 1 ≤ n → a ≤ b
none_granted n a b h k = omega arith

all_told : (A : Type 0) (reply : ResolveReply) (before after : ℕ) (run : List Numbered) → grants run ≡ 0 → TellsFaults reply run
    → after ≤ told_by {A = A} (Err reply) before after
all_told A (replies.Resolved dir) before after run none tells = omega arith
all_told A replies.InRecovery before after run none tells = omega arith
all_told A replies.NotFound before after run none tells = omega arith
all_told A replies.ListingFault before after run none tells = omega arith
all_told A (replies.Failed cause) before after run none tells = omega arith
all_told A replies.DiskRead before after run none tells = omega arith
all_told A (replies.Rotten root got) before after run none tells = omega arith
all_told A (replies.Broken number) before after run none tells = none_granted (grants run) after before none tells
all_told A replies.NoMemory before after run none tells = none_granted (grants run) after before none tells

pub whole_refused : (A : Type 0) (path : NameAndVariant) (pin : Option Root) (reply : ResolveReply) (old new : View) (listing : Option (List Pinned)) (files : Option (List RepoFile)) (much before after asked asked_now : ℕ)
    → FailedBy much before after → asked_now ≡ asked → Goes 0 (Asking path pin) (after_refusal path pin reply) old new listing files before (told_by {A = A} (Err reply) before after)
    → IsHeldAfter old.lane reply (held_by old) (held_by new) → Resolves path pin reply old new listing files before after asked asked_now
unfolding alone
whole_refused A path pin reply old new listing files much before after asked asked_now failed same goes =
    let to = after_refusal path pin reply in
    let told = told_by {A = A} (Err reply) before after in
    whole path pin to reply old new listing files before told after asked asked_now
    (alone (Asking path pin) to old new listing files before told asked asked_now same goes) (λ m. rose_told A reply much m before after failed)
    (λ run none. all_told A reply before after run none) (reply_refused path pin reply)
