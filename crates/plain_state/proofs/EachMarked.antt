-- Marked one after the other, each package that names the blob has its mark.
use Rattle.std.proofs.Common.{suc, subst, arith, ◌≡◌, ◌≢◌, inl, inr, ℕ, true, false, List, [], ◌∷◌, map, All, refl, sym, ap, ◌∙◌}
use Rattle.std.specs.Prelude.{◌==◌}
use Rattle.std.proofs.lemmas.Bool.{cases_Bool, eq-eqb, ne_eqb}
use Rattle.std.proofs.lemmas.List.Elements.{All-nil, All-cons, All-head, All-tail}
use Rattle.pkg_names.specs.declared.root.Root.{Root}
use Rattle.package_indexes.specs.declared.Arriving.{Arriving}
use Rattle.package_indexes.specs.Sets.{AreDistinct}
use Rattle.fetch_queue.specs.declared.FetchEnd.{FetchEnd}
use Rattle.fetch_queue.specs.declared.queue.MarkEntry.{MarkEntry}
use Rattle.fetch_queue.specs.Fetches.{first_mark, with_mark as put_mark}
use Rattle.package_book.specs.Books.{Books}
use Rattle.package_book.specs.Names.{names}
use Rattle.store_model.specs.State.{Arrival, has_root}
use Rattle.store_model.specs.Acts.Marking.{marked}
use Rattle.plain_state.specs.Views.{joined, with_mark, AreMarked}
use Rattle.plain_state.specs.Marks.{marks_after}

first_apart : (a : Arriving) (arriving : List Arriving) → AreDistinct (a ∷ arriving) → All (λ (b : Arriving). a.ticket ≢ b.ticket) arriving
first_apart a arriving apart k d lt = apart 0 (suc k) d (omega arith) (omega arith)

rest_apart : (a : Arriving) (arriving : List Arriving) → AreDistinct (a ∷ arriving) → AreDistinct arriving
rest_apart a arriving apart i j d lt within = apart (suc i) (suc j) d (omega arith) (omega arith)

others_stay : (marks : List MarkEntry) (ticket : ℕ) (end : FetchEnd) → All (λ (m : MarkEntry). m.ticket ≢ ticket) marks → put_mark marks ticket end ≡ marks
others_stay [] ticket end other = refl
others_stay (m ∷ marks) ticket end other =
    let lacks : (m.ticket == ticket) ≡ false = ne_eqb m.ticket ticket (All-head (λ (x : MarkEntry). x.ticket ≢ ticket) m marks other) in
    rw lacks (ap (λ (rest : List MarkEntry). m ∷ rest) (others_stay marks ticket end (All-tail (λ (x : MarkEntry). x.ticket ≢ ticket) m marks other)))

passed : (books : Books) (root : Root) (end : FetchEnd) (arriving : List Arriving) (m : MarkEntry) (marks : List MarkEntry)
    → All (λ (a : Arriving). m.ticket ≢ a.ticket) arriving → marks_after books root end arriving (m ∷ marks) ≡ m ∷ marks_after books root end arriving marks
passed books root end [] m marks other = refl
passed books root end (a ∷ arriving) m marks other =
    let lacks : (m.ticket == a.ticket) ≡ false = ne_eqb m.ticket a.ticket (All-head (λ (x : Arriving). m.ticket ≢ x.ticket) a arriving other) in
    let rest = All-tail (λ (x : Arriving). m.ticket ≢ x.ticket) a arriving other in
    elim (cases_Bool (has_root (names a.root books) root)) [
      | inl holds ↦ rw (holds, lacks) (passed books root end arriving m (put_mark marks a.ticket end) rest)
      | inr fails ↦ rw fails (passed books root end arriving m marks rest)
    ]

marks_apart : (arriving : List Arriving) (marks : List MarkEntry) (ticket : ℕ) → AreMarked arriving marks → All (λ (a : Arriving). ticket ≢ a.ticket) arriving → All (λ (m : MarkEntry). m.ticket ≢ ticket) marks
marks_apart [] [] ticket h apart = All-nil (λ (m : MarkEntry). m.ticket ≢ ticket)
marks_apart [] (m ∷ marks) ticket h apart = absurd h
marks_apart (a ∷ arriving) [] ticket h apart = absurd h
marks_apart (a ∷ arriving) (m ∷ marks) ticket h apart =
    All-cons (λ (n : MarkEntry). n.ticket ≢ ticket) m marks
    (λ same. All-head (λ (x : Arriving). ticket ≢ x.ticket) a arriving apart (sym (h.0 ∙ same)))
    (marks_apart arriving marks ticket h.1 (All-tail (λ (x : Arriving). ticket ≢ x.ticket) a arriving apart))

pub joined_marked : (books : Books) (root : Root) (end : FetchEnd) (arriving : List Arriving) (marks : List MarkEntry) → AreMarked arriving marks → AreDistinct arriving
    → joined arriving (marks_after books root end arriving marks) ≡ map (marked books root end) (joined arriving marks)
joined_marked books root end [] marks h apart = refl
joined_marked books root end (a ∷ arriving) [] h apart = absurd h
joined_marked books root end (a ∷ arriving) (m ∷ marks) h apart =
    let others : All (λ (b : Arriving). a.ticket ≢ b.ticket) arriving = first_apart a arriving apart in
    let unlike : All (λ (b : Arriving). m.ticket ≢ b.ticket) arriving = subst (λ (t : ℕ). All (λ (b : Arriving). t ≢ b.ticket) arriving) h.0 others in
    let here : (m.ticket == a.ticket) ≡ true = eq-eqb m.ticket a.ticket (sym h.0) in
    let later = joined_marked books root end arriving marks h.1 (rest_apart a arriving apart) in
    elim (cases_Bool (has_root (names a.root books) root)) [
      | inl holds ↦
          rw (holds, here, others_stay marks a.ticket end (marks_apart arriving marks a.ticket h.1 others), passed books root end arriving (record m { end = first_mark m.end end }) marks unlike)
          (ap (λ (rest : List Arrival). with_mark (first_mark m.end end) a ∷ rest) later)
      | inr fails ↦
          rw (fails, passed books root end arriving m marks unlike) (ap (λ (rest : List Arrival). with_mark m.end a ∷ rest) later)
    ]

still_marked : (arriving : List Arriving) (marks : List MarkEntry) (ticket : ℕ) (end : FetchEnd) → AreMarked arriving marks → AreMarked arriving (put_mark marks ticket end)
still_marked [] [] ticket end h = tt
still_marked [] (m ∷ marks) ticket end h = absurd h
still_marked (a ∷ arriving) [] ticket end h = absurd h
still_marked (a ∷ arriving) (m ∷ marks) ticket end h = elim (cases_Bool (m.ticket == ticket)) [
  | inl holds ↦ rw holds (h.0, still_marked arriving marks ticket end h.1)
  | inr fails ↦ rw fails (h.0, still_marked arriving marks ticket end h.1)
]

pub marked_after : (books : Books) (root : Root) (end : FetchEnd) (arriving over : List Arriving) (marks : List MarkEntry) → AreMarked over marks → AreMarked over (marks_after books root end arriving marks)
marked_after books root end [] over marks h = h
marked_after books root end (a ∷ arriving) over marks h = elim (cases_Bool (has_root (names a.root books) root)) [
  | inl holds ↦ rw holds (marked_after books root end arriving over (put_mark marks a.ticket end) (still_marked over marks a.ticket end h))
  | inr fails ↦ rw fails (marked_after books root end arriving over marks h)
]
