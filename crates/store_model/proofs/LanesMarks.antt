-- What becomes of the arrival of a ticket, and of its mark.
use Rattle.std.proofs.Common.{◌≡◌, ℕ, Bool, true, false, cond, not, List, [], ◌∷◌, ◌++◌, Option, Some, None, inl, inr, refl, sym, ap, subst, ◌∙◌}
use Rattle.std.specs.Prelude.{◌==◌, Contains}
use Rattle.std.specs.Option.{option_map}
use Rattle.std.proofs.lemmas.Bool.{cases_Bool, eqb-true}
use Rattle.std.proofs.lemmas.List.Folds.{find-append}
use Rattle.std.proofs.lemmas.Iterator.Adapters.{option_map_id}
use Rattle.pkg_names.specs.declared.root.Root.{Root}
use Rattle.pkg_names.specs.Root.{root_eq}
use Rattle.pkg_names.proofs.Roots.{root_eq-true}
use Rattle.fetch_queue.specs.declared.FetchEnd.{FetchEnd}
use Rattle.fetch_queue.specs.declared.FetchEnd.TheVariants as ends
use Rattle.package_book.specs.Books.{Books}
use Rattle.package_book.specs.Names.{names}
use Rattle.store_model.specs.declared.events.Event.{Event}
use Rattle.store_model.specs.declared.events.CallName.TheVariants as calls
use Rattle.store_model.specs.declared.events.Act.{Act}
use Rattle.store_model.specs.declared.events.Act.TheVariants.{Begin, Want, Room, Put, Land, Missed, GaveUp, Refused}
use Rattle.store_model.specs.declared.ends.BeginEnd.TheVariants as begins
use Rattle.store_model.specs.declared.ends.WantEnd.TheVariants as wants
use Rattle.store_model.specs.declared.ends.Miss.TheVariants as misses
use Rattle.store_model.specs.State.{State, Arrival, arrival_of, without_ticket, has_root}
use Rattle.store_model.specs.Acts.Marking.{marked, marked_arrivals}
use Rattle.store_model.specs.Step.{next, next_broken, step}
use Rattle.store_model.specs.Lanes.{Told, told, told_by, after_told, Marks}
use Rattle.store_model.proofs.LanesLists.{find-map, find_kept, find_gone, Contains-any}
use Rattle.store_model.proofs.LanesLasting.{keeps_rest}

-- what the arrival of a ticket becomes
data Becomes (books : Books) (t : Option Told) (old new : Option Arrival) : Type 0 where
  Stays : new ≡ option_map (after_told books t) old → Becomes books t old new
  Goes : new ≡ None → Becomes books t old new
  Comes : old ≡ None → (arrival : Arrival) → new ≡ Some arrival → arrival.mark ≡ None → Becomes books t old new

same : (books : Books) (old new : Option Arrival) → new ≡ old → Becomes books None old new
same books old new is = Stays (is ∙ sym (option_map_id old))

pub marked_lane : (books : Books) (root : Root) (end : FetchEnd) (arrival : Arrival) → (marked books root end arrival).lane ≡ arrival.lane
marked_lane books root end arrival = elim (cases_Bool (has_root (names arrival.root books) root)) [ inl holds ↦ rw holds refl | inr lacks ↦ rw lacks refl ]

pub marked_ticket : (books : Books) (root : Root) (end : FetchEnd) (arrival : Arrival) → (marked books root end arrival).ticket ≡ arrival.ticket
marked_ticket books root end arrival = elim (cases_Bool (has_root (names arrival.root books) root)) [ inl holds ↦ rw holds refl | inr lacks ↦ rw lacks refl ]

ends_at : (s : State) (root : Root) (end : FetchEnd) (ticket : ℕ) → Becomes s.books (Some (record { root = root; end = end })) (arrival_of s.arriving ticket) (arrival_of (marked_arrivals s root end) ticket)
ends_at s root end ticket =
    Stays (find-map (λ (a : Arrival). a.ticket == ticket) (marked s.books root end) (λ a. ap (λ (n : ℕ). n == ticket) (marked_ticket s.books root end a)) s.arriving)

goes_at : (s : State) (gone ticket : ℕ) → Becomes s.books None (arrival_of s.arriving ticket) (arrival_of (without_ticket s.arriving gone) ticket)
goes_at s gone ticket = elim (cases_Bool (ticket == gone)) [
  | inl is ↦ Goes (find_gone (λ (a : Arrival). a.ticket == ticket) (λ (a : Arrival). not (a.ticket == gone)) (λ a here. rw (eqb-true a.ticket ticket here, is) refl) s.arriving)
  | inr isnt ↦ same s.books _ _ (find_kept (λ (a : Arrival). a.ticket == ticket) (λ (a : Arrival). not (a.ticket == gone)) (λ a here. rw (eqb-true a.ticket ticket here, isnt) refl) s.arriving)
]

comes_at : (s : State) (arrival : Arrival) (ticket : ℕ) → arrival.mark ≡ None → Becomes s.books None (arrival_of s.arriving ticket) (arrival_of (s.arriving ++ arrival ∷ []) ticket)
comes_at s arrival ticket unmarked = by_old (arrival_of s.arriving ticket) refl where
  by_old : (old : Option Arrival) → arrival_of s.arriving ticket ≡ old → Becomes s.books None old (arrival_of (s.arriving ++ arrival ∷ []) ticket)
  by_old (Some old) is = Stays (find-append (λ (a : Arrival). a.ticket == ticket) s.arriving (arrival ∷ []) ∙ rw is refl)
  by_old None is = elim (cases_Bool (arrival.ticket == ticket)) [
    | inl here ↦ Comes refl arrival (find-append (λ (a : Arrival). a.ticket == ticket) s.arriving (arrival ∷ []) ∙ rw (is, here) refl) unmarked
    | inr lacks ↦ Goes (find-append (λ (a : Arrival). a.ticket == ticket) s.arriving (arrival ∷ []) ∙ rw (is, lacks) refl)
  ]

kept_at : (s : State) (arriving : List Arrival) (ticket : ℕ) → arriving ≡ s.arriving → Becomes s.books None (arrival_of s.arriving ticket) (arrival_of arriving ticket)
kept_at s arriving ticket is = same s.books _ _ (ap (λ (list : List Arrival). arrival_of list ticket) is)

becomes : (s : State) (number lane : ℕ) (act : Act) (ticket : ℕ) → Becomes s.books (told_by act) (arrival_of s.arriving ticket) (arrival_of (next s number lane act).arriving ticket)
becomes s number lane (Begin path choice (begins.Ticket root) seen) ticket =
    comes_at s (record { ticket = number; lane = lane; path = path; root = root; mark = None }) ticket refl
becomes s number lane (Want gone wants.Opened) ticket = goes_at s gone ticket
becomes s number lane (Want gone (wants.Failed cause)) ticket = goes_at s gone ticket
becomes s number lane (GaveUp gone) ticket = goes_at s gone ticket
becomes s number lane (Refused (calls.Want gone) broken) ticket = goes_at s gone ticket
becomes s number lane (Room root len (Some end)) ticket = ends_at s root end ticket
becomes s number lane (Put root (Some end)) ticket = ends_at s root end ticket
becomes s number lane (Land root len (Some end) seen) ticket = ends_at s root end ticket
becomes s number lane (Missed root misses.Absent) ticket = ends_at s root ends.Absent ticket
becomes s number lane (Missed root misses.Read) ticket = ends_at s root ends.Read ticket
becomes s number lane (Begin path choice reply seen) ticket = kept_at s _ ticket refl
becomes s number lane (Want gone (wants.Fetch root)) ticket = kept_at s _ ticket refl
becomes s number lane (Room root len None) ticket = kept_at s _ ticket refl
becomes s number lane (Put root None) ticket = kept_at s _ ticket refl
becomes s number lane (Land root len None seen) ticket = kept_at s _ ticket refl
becomes s number lane (Missed root misses.Memory) ticket = kept_at s _ ticket refl
becomes s number lane (Refused call broken) ticket = kept_at s _ ticket refl
becomes s number lane act ticket = kept_at s _ ticket ((keeps_rest s number (record { lane = lane; act = act; broke = false })).arriving refl)

after_event : (s : State) (number : ℕ) (e : Event) (ticket : ℕ) → Becomes s.books (told e) (arrival_of s.arriving ticket) (arrival_of (step s number e).arriving ticket)
after_event s number e ticket = by_broke e.broke where
  by_broke : (b : Bool) → Becomes s.books (cond b None (told_by e.act)) (arrival_of s.arriving ticket) (arrival_of (cond b (next_broken s number e.act) (next s number e.lane e.act)).arriving ticket)
  by_broke true = kept_at s s.arriving ticket refl
  by_broke false = becomes s number e.lane e.act ticket

-- ---- the law

stays_so : (books : Books) (t : Option Told) (old new : Option Arrival) (one other : Arrival) → Becomes books t old new → old ≡ Some one → new ≡ Some other → other ≡ after_told books t one
stays_so books t old new one other (Stays is) was now =
    let both : Some other ≡ Some (after_told books t one) = sym now ∙ is ∙ ap (option_map (after_told books t)) was in
    cc
stays_so books t old new one other (Goes is) was now = absurd (cc)
stays_so books t old new one other (Comes none arrival is unmarked) was now = absurd (cc)

pub each : (s : State) (number : ℕ) (e : Event) (ticket : ℕ) (old new : Arrival) → arrival_of s.arriving ticket ≡ Some old → arrival_of (step s number e).arriving ticket ≡ Some new → new ≡ after_told s.books (told e) old
each s number e ticket old new was now =
    stays_so s.books (told e) (arrival_of s.arriving ticket) (arrival_of (step s number e).arriving ticket) old new (after_event s number e ticket) was now

first_so : (books : Books) (t : Option Told) (old : Arrival) (end : FetchEnd) → old.mark ≡ Some end → (after_told books t old).mark ≡ Some end
first_so books None old end is = is
first_so books (Some t) old end is = elim (cases_Bool (has_root (names old.root books) t.root)) [ inl holds ↦ rw (holds, is) refl | inr lacks ↦ rw (lacks, is) refl ]

pub first_stays : (s : State) (number : ℕ) (e : Event) (ticket : ℕ) (old new : Arrival) (end : FetchEnd) → arrival_of s.arriving ticket ≡ Some old → arrival_of (step s number e).arriving ticket ≡ Some new → old.mark ≡ Some end → new.mark ≡ Some end
first_stays s number e ticket old new end was now is =
    ap (λ (a : Arrival). a.mark) (each s number e ticket old new was now) ∙ first_so s.books (told e) old end is

pub names_it : (tops : List Root) (root : Root) → has_root tops root ≡ true → Contains tops root
names_it tops root has =
    let found = Contains-any (λ other. root_eq other root) tops has in
    subst (Contains tops) (root_eq-true found.0 root found.2) found.1

new_so : (books : Books) (e : Event) (t : Option Told) (old : Arrival) (end : FetchEnd) → told e ≡ t → old.mark ≡ None → (after_told books t old).mark ≡ Some end → Marks books e old.root end
new_so books e None old end is none some = absurd (cc)
new_so books e (Some t) old end is none some =
    elim (cases_Bool (has_root (names old.root books) t.root)) [
      | inl holds ↦
          let now : Some t.end ≡ Some end = rw (holds, none) at some in
          let same_end : t.end ≡ end = cc now in
          record { root = t.root; told = is ∙ ap (λ (x : FetchEnd). Some (let r : Told = record { root = t.root; end = x } in r)) same_end; named = names_it (names old.root books) t.root holds }
      | inr lacks ↦ let still : old.mark ≡ Some end = rw lacks at some in absurd (cc (still, none))
    ]

pub comes_from_end : (s : State) (number : ℕ) (e : Event) (ticket : ℕ) (old new : Arrival) (end : FetchEnd) → arrival_of s.arriving ticket ≡ Some old → arrival_of (step s number e).arriving ticket ≡ Some new → old.mark ≡ None → new.mark ≡ Some end → Marks s.books e old.root end
comes_from_end s number e ticket old new end was now none some =
    new_so s.books e (told e) old end refl none (sym (ap (λ (a : Arrival). a.mark) (each s number e ticket old new was now)) ∙ some)

unmarked_so : (books : Books) (t : Option Told) (old new : Option Arrival) (other : Arrival) → Becomes books t old new → old ≡ None → new ≡ Some other → other.mark ≡ None
unmarked_so books t old new other (Stays is) was now =
    let both : Some other ≡ None = sym now ∙ is ∙ ap (option_map (after_told books t)) was in
    absurd (cc both)
unmarked_so books t old new other (Goes is) was now = absurd (cc)
unmarked_so books t old new other (Comes none arrival is unmarked) was now =
    let both : Some arrival ≡ Some other = sym is ∙ now in
    let equal : arrival ≡ other = cc both in
    sym (ap (λ (a : Arrival). a.mark) equal) ∙ unmarked

pub comes_unmarked : (s : State) (number : ℕ) (e : Event) (ticket : ℕ) (new : Arrival) → arrival_of s.arriving ticket ≡ None → arrival_of (step s number e).arriving ticket ≡ Some new → new.mark ≡ None
comes_unmarked s number e ticket new was now =
    unmarked_so s.books (told e) (arrival_of s.arriving ticket) (arrival_of (step s number e).arriving ticket) new (after_event s number e ticket) was now
