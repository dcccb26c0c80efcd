-- The activation of a sealed system leaves the books settled, once they have forgotten what was looked at.
use Rattle.std.proofs.Common.{◌≡◌, ℕ, Bool, true, false, cond, not, ◌&&◌, List, Option, Some, None, is_some, inl, inr, refl, sym, ap, subst, ◌∙◌}
use Rattle.std.specs.Option.{option_map}
use Rattle.std.proofs.lemmas.Bool.{cases_Bool, true≢false, and_from, not_from_false}
use Rattle.pkg_names.specs.declared.root.Root.{Root}
use Rattle.pkg_names.specs.declared.pinned.Pinned.{Pinned}
use Rattle.abr_record.specs.declared.Slot.{Slot}
use Rattle.abr_record.specs.declared.Slot.TheVariants.{A, B, R}
use Rattle.abr_record.specs.Marks.{active_record}
use Rattle.image_layout.specs.declared.Sys.{Sys}
use Rattle.package_book.specs.Books.{Meta, Books, book_at}
use Rattle.package_book.specs.Books.Meta.{Read}
use Rattle.system_lists.specs.Judging.{Verdict}
use Rattle.system_lists.specs.Judging.Verdict.{Missing, Faulty, Unread, Whole}
use Rattle.store_model.specs.declared.events.LookedAt.{LookedAt}
use Rattle.store_model.specs.declared.ends.ActivateEnd.{ActivateEnd}
use Rattle.store_model.specs.declared.ends.ActivateEnd.TheVariants.{Active, BaseMissing, NotASystem, DiskRead, Rotten}
use Rattle.store_model.specs.State.{State, Stored, IsStageOf, is_stored, has_root, protected_in, other_slot, with_sys}
use Rattle.store_model.specs.State.Phase.{Sealed, Done}
use Rattle.store_model.specs.Settling.{IsSeen}
use Rattle.store_model.specs.Systems.{seen_bytes, staged_verdict, base_of}
use Rattle.store_model.specs.Acts.Activate.{IsAnswerTo, activated, activated_at, next_activate}
use Rattle.store_model.proofs.SameBooks.{with_books}
use Rattle.plain_state.specs.Learning.{first_known, looked_at, Forgets, IsReady, IsSettled}
use Rattle.plain_state.specs.Looking.{LearnsAll, roots_seen}
use Rattle.plain_state.specs.Judged.{after_verdict}
use Rattle.plain_state.proofs.Settled.{settles}
use Rattle.plain_state.proofs.Seen.{seen_stored, seen_rooted}

never : {P : Type 0} {b : Bool} → b ≡ true → b ≡ false → P
never holds lacks = absurd (true≢false (sym holds ∙ lacks))

-- an act that leaves the stock and what is protected, and looked at blobs that are stored
pub settles_looked : (seen : List LookedAt) (t n new : State) → IsReady t → IsSeen seen t.stock → n.books ≡ t.books → n.stock ≡ t.stock → ((root : Root) → has_root (protected_in n) root ≡ has_root (protected_in t) root)
    → new ≡ with_books n new.books
    → ((root : Root) → book_at new.books root ≡ cond (has_root (roots_seen seen) root && not (has_root (protected_in n) root)) None (first_known (book_at t.books root) (looked_at seen root)))
    → IsSettled seen n new
settles_looked seen t n new h all books stock among rest left =
    settles seen (looked_at seen) (roots_seen seen) t n new h.books
    (record {
      books = books;
      stays = λ root at. ap (λ (s : List Stored). is_stored s root) stock ∙ at.stored;
      goes = λ root at passed. never (among root ∙ at.among) passed;
      comes = λ root at unknown.
          never (h.books.all root (sym (among root) ∙ at.among) (ap (λ (s : List Stored). is_stored s root) (sym stock) ∙ at.stored)) unknown;
      only = λ root apart unknown kept. only root (seen_bytes seen root) refl apart kept;
    })
    rest left where
      only : (root : Root) (found : Option (List ℕ)) → seen_bytes seen root ≡ found → (has_root (protected_in n) root && is_stored n.stock root) ≡ false
          → (has_root (roots_seen seen) root && not (has_root (protected_in n) root)) ≡ false → looked_at seen root ≡ None
      only root None e apart kept = ap (option_map Read) e
      only root (Some bytes) e apart kept =
          let found : is_some (seen_bytes seen root) ≡ true = ap (λ (o : Option (List ℕ)). is_some o) e in
          let stored : is_stored n.stock root ≡ true = ap (λ (s : List Stored). is_stored s root) stock ∙ seen_stored seen t.stock root all found in
          elim (cases_Bool (has_root (protected_in n) root)) [
            | inl is_among ↦ never (and_from (has_root (protected_in n) root) (is_stored n.stock root) is_among stored) apart
            | inr passed ↦ never (and_from (has_root (roots_seen seen) root) (not (has_root (protected_in n) root)) (seen_rooted seen root found) (not_from_false (has_root (protected_in n) root) passed)) kept
          ]

-- ---- a verdict

sys_books : (s : State) (slot : Slot) (sys : Option Sys) → (with_sys s slot sys).books ≡ s.books
sys_books s A sys = refl
sys_books s B sys = refl
sys_books s R sys = refl

sys_stock : (s : State) (slot : Slot) (sys : Option Sys) → (with_sys s slot sys).stock ≡ s.stock
sys_stock s A sys = refl
sys_stock s B sys = refl
sys_stock s R sys = refl

sys_protected : (s : State) (slot : Slot) (sys : Option Sys) → protected_in (with_sys s slot sys) ≡ protected_in s
sys_protected s A sys = refl
sys_protected s B sys = refl
sys_protected s R sys = refl

sys_with : (s : State) (books : Books) (slot : Slot) (sys : Option Sys) → with_sys (with_books s books) slot sys ≡ with_books (with_sys s slot sys) books
sys_with s books A sys = refl
sys_with s books B sys = refl
sys_with s books R sys = refl

-- the marks that a whole system gets, but for the slot's system
abbrev marked_whole : State → ℕ → List Pinned → State
marked_whole t lane base = record t {
  abr = active_record (other_slot t.running) t.abr;
  stage = Some (record { lane = lane; phase = Done });
  staged = Some base;
}

verdict_books : (t : State) (lane : ℕ) (sys : Sys) (verdict : Verdict) → (after_verdict t lane sys verdict).books ≡ t.books
verdict_books t lane sys (Whole base cached) = sys_books (marked_whole t lane base) (other_slot t.running) (Some sys)
verdict_books t lane sys (Missing root) = refl
verdict_books t lane sys (Faulty why) = refl
verdict_books t lane sys (Unread root) = refl

verdict_stock : (t : State) (lane : ℕ) (sys : Sys) (verdict : Verdict) → (after_verdict t lane sys verdict).stock ≡ t.stock
verdict_stock t lane sys (Whole base cached) = sys_stock (marked_whole t lane base) (other_slot t.running) (Some sys)
verdict_stock t lane sys (Missing root) = refl
verdict_stock t lane sys (Faulty why) = refl
verdict_stock t lane sys (Unread root) = refl

verdict_protected : (t : State) (lane : ℕ) (sys : Sys) (verdict : Verdict) → protected_in (after_verdict t lane sys verdict) ≡ protected_in t
verdict_protected t lane sys (Whole base cached) = sys_protected (marked_whole t lane base) (other_slot t.running) (Some sys)
verdict_protected t lane sys (Missing root) = refl
verdict_protected t lane sys (Faulty why) = refl
verdict_protected t lane sys (Unread root) = refl

-- a verdict leaves the books
pub verdict_with : (t : State) (books : Books) (lane : ℕ) (sys : Sys) (verdict : Verdict) → after_verdict (with_books t books) lane sys verdict ≡ with_books (after_verdict t lane sys verdict) books
verdict_with t books lane sys (Whole base cached) = sys_with (marked_whole t lane base) books (other_slot t.running) (Some sys)
verdict_with t books lane sys (Missing root) = refl
verdict_with t books lane sys (Faulty why) = refl
verdict_with t books lane sys (Unread root) = refl

-- the answer that a verdict calls for leaves the state after the verdict
pub answer_next : (t : State) (lane : ℕ) (seen : List LookedAt) (sys : Sys) (reply : ActivateEnd) → IsStageOf t lane (Sealed sys) → IsAnswerTo t (staged_verdict t seen sys) reply
    → next_activate t lane seen reply ≡ after_verdict t lane sys (staged_verdict t seen sys)
answer_next t lane seen sys (Active slot) stage answer =
    ap (activated_at t lane seen slot) stage
    ∙ ap (λ (s : Slot). activated t lane seen s sys) answer.1
    ∙ whole (staged_verdict t seen sys) refl answer.0 where
      whole : (verdict : Verdict) → staged_verdict t seen sys ≡ verdict → ((base cached : List Pinned) × (verdict ≡ Whole base cached)) → activated t lane seen (other_slot t.running) sys ≡ after_verdict t lane sys verdict
      whole (Whole base cached) e is = ap (λ (v : Verdict). with_sys (marked_whole t lane (base_of v)) (other_slot t.running) (Some sys)) e
      whole (Missing root) e is = absurd (cc is.2)
      whole (Faulty why) e is = absurd (cc is.2)
      whole (Unread root) e is = absurd (cc is.2)
answer_next t lane seen sys (BaseMissing root) stage answer = sym (ap (after_verdict t lane sys) answer)
answer_next t lane seen sys (NotASystem why) stage answer = sym (ap (after_verdict t lane sys) answer)
answer_next t lane seen sys DiskRead stage answer = sym (ap (after_verdict t lane sys) answer.1)
answer_next t lane seen sys (Rotten root got) stage answer = sym (ap (after_verdict t lane sys) answer.0)

-- the lane's call, whatever it answers
pub activates : (t : State) (lane : ℕ) (seen : List LookedAt) (sys : Sys) (reply : ActivateEnd) (new : State) → IsReady t → IsSeen seen t.stock → IsStageOf t lane (Sealed sys) → IsAnswerTo t (staged_verdict t seen sys) reply
    → new ≡ with_books (after_verdict t lane sys (staged_verdict t seen sys)) new.books
    → ((root : Root) → book_at new.books root ≡ cond (has_root (roots_seen seen) root && not (has_root (protected_in t) root)) None (first_known (book_at t.books root) (looked_at seen root)))
    → IsSettled seen (next_activate t lane seen reply) new
activates t lane seen sys reply new h all stage answer rest left =
    subst (λ (n : State). IsSettled seen n new) (sym (answer_next t lane seen sys reply stage answer))
    (let verdict = staged_verdict t seen sys in
    settles_looked seen t (after_verdict t lane sys verdict) new h all (verdict_books t lane sys verdict) (verdict_stock t lane sys verdict)
    (λ root. ap (λ (roots : List Root). has_root roots root) (verdict_protected t lane sys verdict)) rest
    (λ root. left root ∙ ap (λ (roots : List Root). cond (has_root (roots_seen seen) root && not (has_root roots root)) None (first_known (book_at t.books root) (looked_at seen root))) (sym (verdict_protected t lane sys verdict))))

answer_back : (t : State) (books : Books) (verdict : Verdict) (reply : ActivateEnd) → IsAnswerTo (with_books t books) verdict reply → IsAnswerTo t verdict reply
answer_back t books verdict (Active slot) h = h
answer_back t books verdict (BaseMissing root) h = h
answer_back t books verdict (NotASystem why) h = h
answer_back t books verdict DiskRead h = h
answer_back t books verdict (Rotten root got) h = h

pub answered : (t u : State) (seen : List LookedAt) (sys : Sys) (verdict : Verdict) (reply : ActivateEnd) → LearnsAll seen t u → verdict ≡ staged_verdict t seen sys → IsAnswerTo u verdict reply → IsAnswerTo t (staged_verdict t seen sys) reply
answered t u seen sys verdict reply learned is answer =
    subst (λ (v : Verdict). IsAnswerTo t v reply) is (answer_back t u.books verdict reply (subst (λ (s : State). IsAnswerTo s verdict reply) learned.rest answer))

-- with what the store learned and forgot
pub activated_by : (t u v w : State) (lane : ℕ) (seen : List LookedAt) (sys : Sys) (verdict : Verdict) (reply : ActivateEnd) → IsReady t → IsSeen seen t.stock → IsStageOf t lane (Sealed sys) → LearnsAll seen t u
    → verdict ≡ staged_verdict t seen sys → v ≡ after_verdict u lane sys verdict → IsAnswerTo u verdict reply → Forgets (roots_seen seen) v w → IsSettled seen (next_activate t lane seen reply) w
activated_by t u v w lane seen sys verdict reply h all stage learned is after answer forgets =
    let v_is : v ≡ with_books (after_verdict t lane sys verdict) u.books =
    after ∙ ap (λ (s : State). after_verdict s lane sys verdict) learned.rest ∙ verdict_with t u.books lane sys verdict in
    let among : protected_in v ≡ protected_in t = ap protected_in v_is ∙ verdict_protected t lane sys verdict in
    activates t lane seen sys reply w h all stage (answered t u seen sys verdict reply learned is answer)
    (forgets.rest ∙ ap (λ (s : State). with_books s w.books) v_is ∙ ap (λ (vd : Verdict). with_books (after_verdict t lane sys vd) w.books) is)
    (λ root.
    forgets.books root
    ∙ ap (λ (roots : List Root). cond (has_root (roots_seen seen) root && not (has_root roots root)) None (book_at v.books root)) among
    ∙ ap (λ (m : Option Meta). cond (has_root (roots_seen seen) root && not (has_root (protected_in t) root)) None m)
    (ap (λ (s : State). book_at s.books root) v_is ∙ learned.books root))
