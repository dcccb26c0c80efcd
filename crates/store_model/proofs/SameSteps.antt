-- States with the same books have the same events due, and the states after them have the same books.
use Rattle.std.proofs.Common.{◌≡◌, ℕ, Bool, true, false, cond, List, Option, Some, None, is_some, refl, sym, ap, ap₂, subst, ◌∙◌}
use Rattle.std.specs.Prelude.{IsSomeAnd}
use Rattle.pkg_names.specs.declared.root.Root.{Root}
use Rattle.pkg_names.specs.declared.pinned.Pinned.{Pinned}
use Rattle.pkg_names.specs.NameAndVariant.{NameAndVariant}
use Rattle.abr_record.specs.declared.Slot.{Slot}
use Rattle.abr_record.specs.declared.Slot.TheVariants.{A, B, R}
use Rattle.abr_record.specs.Boot.{boot_slot, boot_record}
use Rattle.image_layout.specs.declared.Sys.{Sys}
use Rattle.image_layout.specs.declared.ImageKind.{ImageKind}
use Rattle.package_indexes.specs.declared.Choice.{Choice}
use Rattle.fetch_queue.specs.declared.FetchEnd.{FetchEnd}
use Rattle.fetch_queue.specs.Fetches.{without_claim}
use Rattle.package_book.specs.Books.{Books, book_at}
use Rattle.system_lists.specs.Judging.{Verdict}
use Rattle.store_model.specs.declared.events.Event.{Event}
use Rattle.store_model.specs.declared.events.Act.{Act}
use Rattle.store_model.specs.declared.events.Act.TheVariants.{Boot, Begin, Want, Room, Put, Land, Missed, OpenPath, Read, Check, Collect, Retain, Stage, Copy, Seal, Activate, Commit, Refused}
use Rattle.store_model.specs.declared.events.CallName.{CallName}
use Rattle.store_model.specs.declared.events.CallName.TheVariants as calls
use Rattle.store_model.specs.declared.events.LookedAt.{LookedAt}
use Rattle.store_model.specs.declared.ends.BeginEnd.{BeginEnd}
use Rattle.store_model.specs.declared.ends.BeginEnd.TheVariants as begun
use Rattle.store_model.specs.declared.ends.RetainEnd.{RetainEnd}
use Rattle.store_model.specs.declared.ends.RetainEnd.TheVariants as retains
use Rattle.store_model.specs.declared.ends.ActivateEnd.TheVariants.{Active}
use Rattle.store_model.specs.declared.ends.StageEnd.TheVariants.{Turn}
use Rattle.store_model.specs.declared.ends.CopyEnd.{CopyEnd}
use Rattle.store_model.specs.declared.ends.CopyEnd.TheVariants.{DiskRead}
use Rattle.store_model.specs.declared.ends.Miss.TheVariants.{Absent, Read as Unreadable, Memory}
use Rattle.store_model.specs.Mirrors.{SameBooks, Mirrors}
use Rattle.store_model.specs.State.{State, Arrival, Stage as Staging, Phase, sys_of, arrival_of, protected_in}
use Rattle.store_model.specs.State.Phase.{Filling, Sealed, Done}
use Rattle.store_model.specs.Settling.{looked_books, settle, HasLooked, IsSeen}
use Rattle.store_model.specs.Systems.{booted_verdict, base_of, cached_of}
use Rattle.store_model.specs.Files.{Found}
use Rattle.store_model.specs.Acts.Marking.{ended}
use Rattle.store_model.specs.Acts.Boot.{IsWhole, HasSystem, base_after_boot, cached_after_boot, next_boot}
use Rattle.store_model.specs.Acts.Begin.{IsReadFor, IsDueBegin}
use Rattle.store_model.specs.Acts.Want.{IsAnswered}
use Rattle.store_model.specs.Acts.Read.{IsReadFrom}
use Rattle.store_model.specs.Acts.Check.{IsCheckFrom}
use Rattle.store_model.specs.Acts.Copy.{IsOuter, IsCopyEnd}
use Rattle.store_model.specs.Acts.Retain.{IsReadOf, IsDueRetain}
use Rattle.store_model.specs.Acts.Activate.{IsAnswerTo, next_activate}
use Rattle.store_model.specs.Acts.Refused.{IsHandedOf}
use Rattle.store_model.specs.Step.{next, IsActDue, MayWrite, Changes, next_broken, next_of, seen_by, step, IsActDueIf, IsDue}
use Rattle.store_model.proofs.SameBooks.{same_kept, with_books, want_same, read_same, found_same, copy_same, looked_same, booted_same, staged_same, marks_same, open_same, collect_same}

-- ---- the state that an act leaves

ended_same : (s : State) (others : Books) → SameBooks s.books others → (root : Root) (end : FetchEnd) → ended (with_books s others) root end ≡ with_books (ended s root end) others
ended_same s others same root end =
    ap (λ (arriving : List Arrival). record s { books = others; claims = without_claim s.claims root; arriving = arriving }) (sym (marks_same s others same root end))

base_same : (s : State) (others : Books) → SameBooks s.books others → (seen : List LookedAt) (sys : Option Sys) → base_after_boot (with_books s others) seen sys ≡ base_after_boot s seen sys
base_same s others same seen None = refl
base_same s others same seen (Some sys) = ap base_of (sym (booted_same s others same seen sys))

cached_same : (s : State) (others : Books) → SameBooks s.books others → (seen : List LookedAt) (sys : Option Sys) → cached_after_boot (with_books s others) seen sys ≡ cached_after_boot s seen sys
cached_same s others same seen None = refl
cached_same s others same seen (Some sys) = ap cached_of (sym (booted_same s others same seen sys))

boot_same : (s : State) (others : Books) → SameBooks s.books others → (seen : List LookedAt) → next_boot (with_books s others) seen ≡ with_books (next_boot s seen) others
boot_same s others same seen =
    ap₂ (λ (base cached : List Pinned). record s {
      books = others;
      booted = true;
      abr = boot_record s.abr;
      running = boot_slot s.abr;
      base = base;
      cached = cached;
    })
    (base_same s others same seen (sys_of s (boot_slot s.abr)))
    (cached_same s others same seen (sys_of s (boot_slot s.abr)))

activated_same : (s : State) (others : Books) → SameBooks s.books others → (lane : ℕ) (seen : List LookedAt) (slot : Slot)
    → next_activate (with_books s others) lane seen (Active slot) ≡ with_books (next_activate s lane seen (Active slot)) others
activated_same s others same lane seen slot = first s.stage refl where
  third : (slot : Slot) (stage : Option Staging) (sys : Sys) (by : ℕ) → stage ≡ Some (record { lane = by; phase = Sealed sys }) → s.stage ≡ stage
      → next_activate (with_books s others) lane seen (Active slot) ≡ with_books (next_activate s lane seen (Active slot)) others
  third A stage sys by e h = rw (h, e, staged_same s others same seen sys) refl
  third B stage sys by e h = rw (h, e, staged_same s others same seen sys) refl
  third R stage sys by e h = rw (h, e, staged_same s others same seen sys) refl

  second : (by : ℕ) (phase : Phase) → s.stage ≡ Some (record { lane = by; phase = phase })
      → next_activate (with_books s others) lane seen (Active slot) ≡ with_books (next_activate s lane seen (Active slot)) others
  second by Filling h = rw h refl
  second by Done h = rw h refl
  second by (Sealed sys) h = third slot s.stage sys by h refl

  first : (stage : Option Staging) → s.stage ≡ stage
      → next_activate (with_books s others) lane seen (Active slot) ≡ with_books (next_activate s lane seen (Active slot)) others
  first None h = rw h refl
  first (Some stage) h = second stage.lane stage.phase h

next_same : (s : State) (others : Books) → SameBooks s.books others → (number lane : ℕ) (act : Act) → next (with_books s others) number lane act ≡ with_books (next s number lane act) others
next_same s others same number lane (Boot slot seen) = boot_same s others same seen
next_same s others same number lane (Room root len (Some end)) = ended_same s others same root end
next_same s others same number lane (Room root len None) = refl
next_same s others same number lane (Put root (Some end)) = ended_same s others same root end
next_same s others same number lane (Put root None) = refl
next_same s others same number lane (Land root len (Some end) seen) = ended_same s others same root end
next_same s others same number lane (Land root len None seen) = refl
next_same s others same number lane (Missed root Absent) = ended_same s others same root _
next_same s others same number lane (Missed root Unreadable) = ended_same s others same root _
next_same s others same number lane (Missed root Memory) = refl
next_same s others same number lane (Collect None) = refl
next_same s others same number lane (Collect (Some roots)) = refl
next_same s others same number lane (Stage epoch (Turn A)) = refl
next_same s others same number lane (Stage epoch (Turn B)) = refl
next_same s others same number lane (Stage epoch (Turn R)) = refl
next_same s others same number lane (Stage epoch reply) = refl
next_same s others same number lane (Seal sys None) = refl
next_same s others same number lane (Seal sys (Some difference)) = refl
next_same s others same number lane (Activate (Active slot) seen) = activated_same s others same lane seen slot
next_same s others same number lane (Activate reply seen) = refl
next_same s others same number lane (Commit true) = refl
next_same s others same number lane (Commit false) = refl
next_same s others same number lane (Refused (calls.Want ticket) broken) = refl
next_same s others same number lane (Refused (calls.Room root) broken) = refl
next_same s others same number lane (Refused (calls.Put root) broken) = refl
next_same s others same number lane (Refused (calls.Land root) broken) = refl
next_same s others same number lane (Refused call broken) = refl
next_same s others same number lane act = refl

pub next_of_same : (s : State) (others : Books) → SameBooks s.books others → (number : ℕ) (e : Event) → next_of (with_books s others) number e ≡ with_books (next_of s number e) others
next_of_same s others same number e = first e.broke where
  first : (broke : Bool) → cond broke (next_broken (with_books s others) number e.act) (next (with_books s others) number e.lane e.act)
      ≡ with_books (cond broke (next_broken s number e.act) (next s number e.lane e.act)) others
  first true = refl
  first false = next_same s others same number e.lane e.act

-- an act leaves the books
pub next_books : (s : State) (others : Books) → SameBooks s.books others → (number : ℕ) (e : Event) → SameBooks (next_of s number e).books others
next_books s others same number e root =
    ap (λ (n : State). book_at n.books root) (next_of_same s s.books (λ r. refl) number e) ∙ same root

-- ---- what is due

some_and : {X : Type 0} (o : Option X) (P Q : X → Type 0) → ((x : X) → P x → Q x) → IsSomeAnd o P → IsSomeAnd o Q
some_and None P Q f h = h
some_and (Some x) P Q f h = f x h

read_due : (s : State) (others : Books) → SameBooks s.books others → (path : NameAndVariant) (choice : Choice) (root : Root) → IsReadFor s path choice root → IsReadFor (with_books s others) path choice root
read_due s others same path choice root h = record { answer = h.answer; read = sym (read_same s others same root) ∙ h.read }

begin_due : (s : State) (others : Books) → SameBooks s.books others → (path : NameAndVariant) (choice : Choice) (reply : BeginEnd) → IsDueBegin s path choice reply → IsDueBegin (with_books s others) path choice reply
begin_due s others same path choice begun.DiskRead h = (h.0, read_due s others same path choice h.0 h.1)
begin_due s others same path choice (begun.Rotten root got) h = (read_due s others same path choice root h.0, h.1)
begin_due s others same path choice reply h = h

retained_due : (s : State) (others : Books) → SameBooks s.books others → (roots : List Root) (root : Root) → IsReadOf s roots root → IsReadOf (with_books s others) roots root
retained_due s others same roots root h = record { given = h.given; read = sym (read_same s others same root) ∙ h.read }

retain_due : (s : State) (others : Books) → SameBooks s.books others → (roots : List Root) (reply : RetainEnd) → IsDueRetain s roots reply → IsDueRetain (with_books s others) roots reply
retain_due s others same roots retains.SlotInUse h = h
retain_due s others same roots retains.DiskRead h = (h.0, (h.1.0, retained_due s others same roots h.1.0 h.1.1))
retain_due s others same roots (retains.Rotten root got) h = (h.0, retained_due s others same roots root h.1, h.2)
retain_due s others same roots retains.Done h = h

boot_due : (s : State) (others : Books) → SameBooks s.books others → (seen : List LookedAt) (slot : Slot) → HasSystem s seen slot → HasSystem (with_books s others) seen slot
boot_due s others same seen A h =
    some_and s.a (λ sys. IsWhole (booted_verdict s seen sys)) (λ sys. IsWhole (booted_verdict (with_books s others) seen sys))
    (λ sys. subst IsWhole (booted_same s others same seen sys)) h
boot_due s others same seen B h =
    some_and s.b (λ sys. IsWhole (booted_verdict s seen sys)) (λ sys. IsWhole (booted_verdict (with_books s others) seen sys))
    (λ sys. subst IsWhole (booted_same s others same seen sys)) h
boot_due s others same seen R h = h

copy_due : (s : State) (others : Books) → SameBooks s.books others → (lane : ℕ) (image : ImageKind) (dir : ℕ) (file : List ℕ) (reply : Option CopyEnd)
    → IsCopyEnd s lane image dir file reply → IsCopyEnd (with_books s others) lane image dir file reply
copy_due s others same lane image dir file None h = h
copy_due s others same lane image dir file (Some DiskRead) h =
    (sym (copy_same s others same lane image dir file) ∙ h.0, subst IsOuter (found_same s others same lane dir file) h.1)
copy_due s others same lane image dir file (Some end) h = sym (copy_same s others same lane image dir file) ∙ h

handed_due : (s : State) (others : Books) (lane : ℕ) (call : CallName) → IsHandedOf s lane call → IsHandedOf (with_books s others) lane call
handed_due s others lane call h = h

act_due : (s : State) (others : Books) → SameBooks s.books others → (lane : ℕ) (act : Act) → IsActDue s lane act → IsActDue (with_books s others) lane act
act_due s others same lane (Boot slot seen) h = record { lane = h.lane; chosen = h.chosen; whole = boot_due s others same seen slot h.whole }
act_due s others same lane (Begin path choice reply seen) h = begin_due s others same path choice reply h
act_due s others same lane (Want ticket reply) h =
    some_and (arrival_of s.arriving ticket) (IsAnswered s lane reply) (IsAnswered (with_books s others) lane reply)
    (λ arrival at. record { lane = at.lane; free = at.free; answer = sym (want_same s others same arrival) ∙ at.answer }) h
act_due s others same lane (OpenPath path reply) h = h ∙ open_same s others same path
act_due s others same lane (Read dir file reply) h = subst (λ (f : Found). IsReadFrom s f reply) (found_same s others same lane dir file) h
act_due s others same lane (Check dir file reply) h = subst (λ (f : Found). IsCheckFrom s f reply) (found_same s others same lane dir file) h
act_due s others same lane (Copy image dir file reply) h = (h.0, copy_due s others same lane image dir file reply h.1)
act_due s others same lane (Collect reply) h = h ∙ collect_same s others same
act_due s others same lane (Retain roots reply seen) h = retain_due s others same roots reply h
act_due s others same lane (Activate reply seen) h = record {
  sys = h.sys;
  stage = h.stage;
  answer = subst (λ (verdict : Verdict). IsAnswerTo s verdict reply) (staged_same s others same seen h.sys) h.answer;
}
act_due s others same lane (Refused call broken) h = record { broken = h.broken; handed = handed_due s others lane call h.handed }
act_due s others same lane act h = h

may_write : (s : State) (others : Books) → SameBooks s.books others → (number lane : ℕ) (act : Act) → MayWrite s number lane act → MayWrite (with_books s others) number lane act
may_write s others same number lane (Put root reply) h = h
may_write s others same number lane (Land root len reply seen) h = h
may_write s others same number lane (Copy image dir file reply) h = (h.0, h.1, sym (copy_same s others same lane image dir file) ∙ h.2)
may_write s others same number lane (Seal sys reply) h = h
may_write s others same number lane act h =
    (act_due s others same lane act h.0, subst (λ (n : State). Changes s n) (sym (next_same s others same number lane act)) h.1)

due_if : (s : State) (others : Books) → SameBooks s.books others → (broke : Bool) (number lane : ℕ) (act : Act) → IsActDueIf broke s number lane act → IsActDueIf broke (with_books s others) number lane act
due_if s others same false number lane act h = act_due s others same lane act h
due_if s others same true number lane act h = (may_write s others same number lane act h.0, h.1)

looked_due : (s : State) (others : Books) → SameBooks s.books others → (seen : List LookedAt) → HasLooked seen s → HasLooked seen (with_books s others)
looked_due s others same seen h root p q =
    sym (ap (λ meta. is_some meta) (looked_same s others same seen root)) ∙ h root p q

due_with : (s : State) (others : Books) → SameBooks s.books others → (number : ℕ) (e : Event) → IsDue s number e → IsDue (with_books s others) number e
due_with s others same number e h =
    let is_next : with_books (next_of s number e) others ≡ next_of (with_books s others) number e = sym (next_of_same s others same number e) in
    record {
      boots = h.boots;
      goes_on = h.goes_on;
      due = due_if s others same e.broke number e.lane e.act h.due;
      looked = subst (λ (n : State). HasLooked (seen_by e.act) n) is_next
          (looked_due (next_of s number e) others (next_books s others same number e) (seen_by e.act) h.looked);
      seen = subst (λ (n : State). IsSeen (seen_by e.act) n.stock) is_next h.seen;
    }

-- ---- the states after it

pub settle_same : (s : State) (others : Books) → SameBooks s.books others → (seen : List LookedAt) → Mirrors (settle seen s) (settle seen (with_books s others))
settle_same s others same seen = record {
  rest = refl;
  books = same_kept (looked_books seen s) (looked_books seen (with_books s others)) (protected_in s) s.stock (looked_same s others same seen);
}

step_with : (s : State) (others : Books) → SameBooks s.books others → (number : ℕ) (e : Event) → Mirrors (step s number e) (step (with_books s others) number e)
step_with s others same number e =
    subst (λ (n : State). Mirrors (settle (seen_by e.act) (next_of s number e)) (settle (seen_by e.act) n)) (sym (next_of_same s others same number e))
    (settle_same (next_of s number e) others (next_books s others same number e) (seen_by e.act))

-- ---- of states that mirror each other

pub mirrors_back : (s t : State) → Mirrors s t → Mirrors t s
mirrors_back s t h = record {
  rest = sym (ap (λ (u : State). with_books u s.books) h.rest);
  books = λ root. sym (h.books root);
}

pub mirrors_on : (s t u : State) → Mirrors s t → Mirrors t u → Mirrors s u
mirrors_on s t u h g = record {
  rest = g.rest ∙ ap (λ (v : State). with_books v u.books) h.rest;
  books = λ root. h.books root ∙ g.books root;
}

pub same_due : (s t : State) (number : ℕ) (e : Event) → Mirrors s t → IsDue s number e → IsDue t number e
same_due s t number e h due = subst (λ (u : State). IsDue u number e) (sym h.rest) (due_with s t.books h.books number e due)

pub same_step : (s t : State) (number : ℕ) (e : Event) → Mirrors s t → Mirrors (step s number e) (step t number e)
same_step s t number e h =
    subst (λ (u : State). Mirrors (step s number e) (step u number e)) (sym h.rest) (step_with s t.books h.books number e)
