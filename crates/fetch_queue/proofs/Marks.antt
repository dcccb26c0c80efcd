-- The marks of tickets. A first mark stays.
use Rattle.std.proofs.Common.{inl, inr, ◌≡◌, ◌≢◌, ℕ, Bool, true, false, not, List, [], ◌∷◌, ◌++◌, Option, Some, None, All, Contains, refl, sym, ap, ◌∙◌}
use Rattle.std.specs.Prelude.{find, option_and_then, ◌==◌}
use Rattle.std.specs.Option.{option_map}
use Rattle.std.proofs.lemmas.Bool.{cases_Bool, true≢false, eq-eqb, ne_eqb, eqb-true}
use Rattle.std.proofs.lemmas.List.Elements.{All-weaker, All-contains}
use Rattle.fetch_queue.specs.declared.FetchEnd.{FetchEnd}
use Rattle.fetch_queue.specs.declared.queue.MarkEntry.{MarkEntry}
use Rattle.fetch_queue.specs.Fetches.{marked, with_mark, mark_of, without_ticket}
use Rattle.fetch_queue.proofs.Finds.{find_first, found_passes, none_passes, find_gone, find_kept, find-map}

abbrev is_for : ℕ → MarkEntry → Bool
is_for ticket mark = mark.ticket == ticket

abbrev end_of : Option MarkEntry → Option FetchEnd
end_of found = option_and_then (λ (mark : MarkEntry). mark.end) found

pub keeps_ticket : (ticket : ℕ) (end : FetchEnd) (mark : MarkEntry) → (marked ticket end mark).ticket ≡ mark.ticket
keeps_ticket ticket end mark =
    elim (cases_Bool (mark.ticket == ticket)) [ inl holds ↦ rw holds refl | inr lacks ↦ rw lacks refl ]

-- a look-up after a mark
looked : (marks : List MarkEntry) (ticket other : ℕ) (end : FetchEnd) → mark_of (with_mark marks ticket end) other ≡ end_of (option_map (marked ticket end) (find (is_for other) marks))
looked marks ticket other end =
    ap end_of (find-map (is_for other) (marked ticket end) (λ mark. ap (λ (n : ℕ). n == other) (keeps_ticket ticket end mark)) marks)

pub fresh : (marks : List MarkEntry) (ticket : ℕ) → All (λ (mark : MarkEntry). mark.ticket ≢ ticket) marks → mark_of (marks ++ record { ticket = ticket; end = None } ∷ []) ticket ≡ None
fresh marks ticket new =
    ap end_of
    (find_first (is_for ticket) marks (record { ticket = ticket; end = None }) []
    (All-weaker (λ (mark : MarkEntry). mark.ticket ≢ ticket) (λ (mark : MarkEntry). is_for ticket mark ≡ false) (λ mark ne. ne_eqb mark.ticket ticket ne) marks new)
    (eq-eqb ticket ticket refl))

stays_at : (ticket : ℕ) (end first : FetchEnd) (found : Option MarkEntry) → end_of found ≡ Some first → end_of (option_map (marked ticket end) found) ≡ Some first
stays_at ticket end first None is = is
stays_at ticket end first (Some mark) is =
    elim (cases_Bool (mark.ticket == ticket)) [ inl holds ↦ rw (holds, is) refl | inr lacks ↦ rw lacks is ]

pub stays : (marks : List MarkEntry) (ticket : ℕ) (first end : FetchEnd) → mark_of marks ticket ≡ Some first → mark_of (with_mark marks ticket end) ticket ≡ Some first
stays marks ticket first end is =
    looked marks ticket ticket end ∙ stays_at ticket end first (find (is_for ticket) marks) is

marked_at : (marks : List MarkEntry) (ticket : ℕ) (end : FetchEnd) (found : Option MarkEntry) → find (is_for ticket) marks ≡ found → found ≢ None → end_of found ≡ None → end_of (option_map (marked ticket end) found) ≡ Some end
marked_at marks ticket end None is some none = absurd (some refl)
marked_at marks ticket end (Some mark) is some none =
    let own : (mark.ticket == ticket) ≡ true = found_passes (is_for ticket) marks mark is in
    rw (own, none) refl

pub becomes : (marks : List MarkEntry) (ticket : ℕ) (mark : MarkEntry) (end : FetchEnd) → Contains marks mark → mark.ticket ≡ ticket → mark_of marks ticket ≡ None → mark_of (with_mark marks ticket end) ticket ≡ Some end
becomes marks ticket mark end has own none =
    looked marks ticket ticket end ∙ marked_at marks ticket end (find (is_for ticket) marks) refl
    (λ nothing. true≢false (sym (eq-eqb mark.ticket ticket own) ∙ All-contains (λ (m : MarkEntry). is_for ticket m ≡ false) marks mark (none_passes (is_for ticket) marks nothing) has))
    none

others_at : (marks : List MarkEntry) (ticket other : ℕ) (end : FetchEnd) → ticket ≢ other → (found : Option MarkEntry) → find (is_for other) marks ≡ found → end_of (option_map (marked ticket end) found) ≡ end_of found
others_at marks ticket other end ne None is = refl
others_at marks ticket other end ne (Some mark) is =
    let own = eqb-true mark.ticket other (found_passes (is_for other) marks mark is) in
    let lacks : (mark.ticket == ticket) ≡ false = ne_eqb mark.ticket ticket (λ same. ne (sym same ∙ own)) in
    rw lacks refl

pub others : (marks : List MarkEntry) (ticket other : ℕ) (end : FetchEnd) → ticket ≢ other → mark_of (with_mark marks ticket end) other ≡ mark_of marks other
others marks ticket other end ne =
    looked marks ticket other end ∙ others_at marks ticket other end ne (find (is_for other) marks) refl

pub gone : (marks : List MarkEntry) (ticket : ℕ) → mark_of (without_ticket marks ticket) ticket ≡ None
gone marks ticket = ap end_of (find_gone (is_for ticket) marks)

pub gone_others : (marks : List MarkEntry) (ticket other : ℕ) → ticket ≢ other → mark_of (without_ticket marks ticket) other ≡ mark_of marks other
gone_others marks ticket other ne =
    ap end_of
    (find_kept (is_for other) (λ (mark : MarkEntry). not (mark.ticket == ticket))
    (λ mark is. ap not (ne_eqb mark.ticket ticket (λ same. ne (sym same ∙ eqb-true mark.ticket other is)))) marks)
