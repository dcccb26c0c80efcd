-- The picks of a restart, one after another.
use Rattle.std.proofs.Common.{◌≡◌, ◌≢◌, ◌⊎◌, ℕ, zero, suc, ◌+◌, ◌<◌, ◌≤◌, Bool, true, false, cond, List, [], ◌∷◌, ◌++◌, length, get_or, set, replicate, Option, Some, None, IsSome, sym, refl, ◌∙◌, ap, subst, inl, inr, arith, All, count_by, take, drop, ltb, slice_get, ltb-false, ◌-◌, take-append-drop, length-set, get_or-set_same, get_or-set_other}
use Rattle.std.proofs.lemmas.Bool.{cases_eq, true≢false}
use Rattle.std.proofs.lemmas.List.{get_or_append_left, get_or_push, length_push}
use Rattle.std.proofs.lemmas.List.Elements.{All-push, All-nil, All-cons}
use Rattle.std.proofs.lemmas.List.Quantifiers.{all_pairs_push}
use Rattle.std.proofs.lemmas.List.Sums.{sum_by-set}
use Rattle.disk_model.specs.declared.act.DiskAct.{DiskAct}
use Rattle.disk_model.specs.declared.power_loss.Pick.{Pick}
use Rattle.disk_model.specs.Past.{Page, Pages, page_at, PageState, Past, after_acts, state_of, IsPossible}
use Rattle.disk_model.specs.Images.{IsImage, contents_after}
use Rattle.disk_model.specs.Picks.{synced_len, synced_contents, value_on, pick_value, AreGood, Takes}
use Rattle.disk_model.proofs.StateLemmas.{after_acts-append}
use Rattle.disk_model.proofs.ImageLemmas.{now_after, length-contents_after}
use Rattle.disk_model.proofs.ReplayLemmas.{no_sync_after, stays_possible, comes_possible, slice_get-drop}

-- the pages of these picks are marked, and no other
pub record Marks (picks : List Pick) (marks : List Bool) : Type 0 where
  pub count : count_by (λ b. b) marks ≡ length picks
  pub marked : (n : ℕ) → get_or marks n false ≡ true → (k : ℕ) × (k < length picks) × ((d : Pick) → (get_or picks k d).page ≡ n)
  pub unmarked : (n : ℕ) → get_or marks n false ≡ false → All (λ pick. pick.page ≢ n) picks

-- the page of a pick, which had no mark, gets its value and a mark
pub record Puts (trail : List DiskAct) (pick : Pick) (old : Pages) (marks : List Bool)
    (new : Pages) (new_marks : List Bool) : Type 0 where
  pub inside : pick.page < length old
  pub free : get_or marks pick.page false ≡ false
  pub value : (bytes : Page) × (pick_value trail pick ≡ Some bytes) × (new ≡ set old pick.page bytes)
  pub mark : new_marks ≡ set marks pick.page true

pub good_none : (trail : List DiskAct) → AreGood trail []
good_none trail = record { each = All-nil (λ pick. IsSome (pick_value trail pick)); apart = λ i j d lt le. absurd (omega (arith, le)) }

pub takes_none : (trail : List DiskAct) (pages : Pages) → Takes trail [] pages pages
takes_none trail pages = record { size = refl; picked = All-nil (λ pick. pick_value trail pick ≡ Some (page_at pages pick.page)); others = λ n _. refl }

none_marked : (count : ℕ) → count_by (λ b. b) (replicate count false) ≡ 0
none_marked zero = refl
none_marked (suc count) = none_marked count

none_at : (count n : ℕ) → get_or (replicate count false) n false ≡ false
none_at zero n = refl
none_at (suc count) zero = refl
none_at (suc count) (suc n) = none_at count n

pub marks_none : (count : ℕ) → Marks [] (replicate count false)
marks_none count = record {
  count = none_marked count;
  marked = λ n is. absurd (true≢false (sym is ∙ none_at count n));
  unmarked = λ n is. All-nil (λ (pick : Pick). pick.page ≢ n);
}

module _ (trail : List DiskAct) (picks : List Pick) (pick : Pick) (first old new : Pages) (marks new_marks : List Bool) (good : AreGood trail picks) (takes : Takes trail picks first old) (marked : Marks picks marks) where
  pub good_more : Puts trail pick old marks new new_marks → AreGood trail (picks ++ pick ∷ [])
  good_more puts = record {
    each = All-push (λ p. IsSome (pick_value trail p)) picks pick good.each (subst (λ (o : Option Page). IsSome o) (sym puts.value.1) refl);
    apart = all_pairs_push (λ a b. a.page ≢ b.page) picks pick good.apart (marked.unmarked pick.page puts.free);
  }

  pub takes_more : Puts trail pick old marks new new_marks → Takes trail (picks ++ pick ∷ []) first new
  takes_more puts =
      let bytes = puts.value.0 in
      let here : page_at new pick.page ≡ bytes = ap (λ (l : Pages). page_at l pick.page) puts.value.2 ∙ get_or-set_same old pick.page bytes [] puts.inside in
      let apart : All (λ p. p.page ≢ pick.page) picks = marked.unmarked pick.page puts.free in
      let stays : (n : ℕ) → n ≢ pick.page → page_at new n ≡ page_at old n = λ n ne. ap (λ (l : Pages). page_at l n) puts.value.2 ∙ get_or-set_other old pick.page n bytes [] ne in
      record {
        size = ap length puts.value.2 ∙ length-set old pick.page bytes ∙ takes.size;
        picked = All-push (λ p. pick_value trail p ≡ Some (page_at new p.page)) picks pick
            (λ k d lt. takes.picked k d lt ∙ ap (λ (v : Page). Some v) (sym (stays (get_or picks k d).page (apart k d lt))))
            (puts.value.1 ∙ ap (λ (v : Page). Some v) (sym here));
        others = λ n all.
            let last : pick.page ≢ n = subst (λ (p : Pick). p.page ≢ n) (get_or_push picks pick pick (length picks) refl) (all (length picks) pick (omega (arith, length_push picks pick))) in
            let before : All (λ p. p.page ≢ n) picks = λ k d lt. subst (λ (p : Pick). p.page ≢ n) (get_or_append_left picks (pick ∷ []) d k lt) (all k d (omega (arith, lt, length_push picks pick))) in
            stays n (λ e. last (sym e)) ∙ takes.others n before;
      }

  pub marks_more : length marks ≡ length old → Puts trail pick old marks new new_marks → Marks (picks ++ pick ∷ []) new_marks
  marks_more size puts =
      let inside : pick.page < length marks = omega (arith, puts.inside, size) in
      record {
        count =
            ap (count_by (λ b. b)) puts.mark
            ∙ (let counted = sum_by-set (λ (b : Bool). cond b 1 0) marks pick.page true false inside in
            let none : cond {A = ℕ} (get_or marks pick.page false) 1 0 ≡ 0 = ap (λ (b : Bool). cond b 1 0) puts.free in
            omega (arith, counted, none, marked.count, length_push picks pick));
        marked = λ n is. elim (cases_eq n pick.page) [
          | inl e ↦ (length picks, omega (arith, length_push picks pick), λ d. ap (λ (p : Pick). p.page) (get_or_push picks pick d (length picks) refl) ∙ sym e)
          | inr ne ↦
              let old_mark = marked.marked n (sym (ap (λ (l : List Bool). get_or l n false) puts.mark ∙ get_or-set_other marks pick.page n true false ne) ∙ is) in
              (old_mark.0, omega (arith, old_mark.1, length_push picks pick), λ d. ap (λ (p : Pick). p.page) (get_or_append_left picks (pick ∷ []) d old_mark.0 old_mark.1) ∙ old_mark.2 d)
        ];
        unmarked = λ n is. elim (cases_eq n pick.page) [
          | inl e ↦ absurd (true≢false (sym (get_or-set_same marks pick.page true false inside) ∙ ap (λ (k : ℕ). get_or (set marks pick.page true) k false) (sym e) ∙ sym (ap (λ (l : List Bool). get_or l n false) puts.mark) ∙ is))
          | inr ne ↦ All-push (λ (p : Pick). p.page ≢ n) picks pick (marked.unmarked n (sym (ap (λ (l : List Bool). get_or l n false) puts.mark ∙ get_or-set_other marks pick.page n true false ne) ∙ is)) (λ e. ne (sym e))
        ];
      }

  -- a pick that can't be put makes them bad
  pub bad_more : (pick_value trail pick ≡ None) ⊎ (get_or marks pick.page false ≡ true) → AreGood trail (picks ++ pick ∷ []) → ⊥
  bad_more (inl none) all =
      let some : IsSome (pick_value trail pick) = subst (λ (p : Pick). IsSome (pick_value trail p)) (get_or_push picks pick pick (length picks) refl) (all.each (length picks) pick (omega (arith, length_push picks pick))) in
      none_is (pick_value trail pick) none some
    where
      none_is : (o : Option Page) → o ≡ None → IsSome o → ⊥
      none_is o e is = cc
  bad_more (inr is) all =
      let mark = marked.marked pick.page is in
      all.apart mark.0 (length picks) pick mark.1 (omega (arith, length_push picks pick))
      (ap (λ (p : Pick). p.page) (get_or_append_left picks (pick ∷ []) pick mark.0 mark.1) ∙ mark.2 pick ∙ sym (ap (λ (p : Pick). p.page) (get_or_push picks pick pick (length picks) refl)))

split_state : (past : Past) (m n : ℕ) → state_of past n ≡ after_acts n (after_acts n (record { older = []; now = page_at past.start n; failed = [] }) (take m past.trail)) (drop m past.trail)
split_state past m n =
    ap (after_acts n (record { older = []; now = page_at past.start n; failed = [] })) (sym (take-append-drop m past.trail))
    ∙ after_acts-append n (record { older = []; now = page_at past.start n; failed = [] }) (take m past.trail) (drop m past.trail)

-- some pick is of this page, or none is
find_page : (picks : List Pick) (n : ℕ) → ((k : ℕ) × (k < length picks) × ((d : Pick) → (get_or picks k d).page ≡ n)) ⊎ All (λ pick. pick.page ≢ n) picks
find_page [] n = inr (All-nil (λ (pick : Pick). pick.page ≢ n))
find_page (pick ∷ picks) n =
    elim (cases_eq pick.page n) [
      | inl e ↦ inl (0, omega arith, λ d. e)
      | inr ne ↦ elim (find_page picks n) [
        | inl found ↦ inl (suc found.0, omega (arith, found.1), found.2)
        | inr none ↦ inr (All-cons (λ (p : Pick). p.page ≢ n) pick picks ne none)
      ]
    ]

value_parts : (b : Bool) (o : Option Page) (v : Page) → cond b None o ≡ Some v → (b ≡ false) × (o ≡ Some v)
value_parts true o v e = cc
value_parts false o v e = (refl, e)

-- the value of a pick is possible at its page
pick_possible : (past : Past) (pick : Pick) (v : Page) → pick_value past.trail pick ≡ Some v → IsPossible (state_of past pick.page) v
pick_possible past pick v e =
    let trail = past.trail in
    let m = synced_len trail in
    let parts = value_parts (ltb pick.act m) (value_on pick.page (slice_get trail pick.act)) v e in
    let late : m ≤ pick.act = ltb-false pick.act m parts.0 in
    let first : PageState = record { older = []; now = page_at past.start pick.page; failed = [] } in
    let at : value_on pick.page (slice_get (drop m trail) (pick.act - m)) ≡ Some v =
    ap (value_on pick.page) (slice_get-drop m (pick.act - m) trail ∙ ap (slice_get trail) {x = m + (pick.act - m)} {y = pick.act} (omega arith)) ∙ parts.1 in
    subst (λ (s : PageState). IsPossible s v) (sym (split_state past m pick.page))
    (comes_possible pick.page (drop m trail) (after_acts pick.page first (take m trail)) (pick.act - m) v (no_sync_after trail) at)

-- what stood at a page at the last sync is possible there
synced_possible : (past : Past) (n : ℕ) → n < length past.start → IsPossible (state_of past n) (page_at (synced_contents past) n)
synced_possible past n lt =
    let m = synced_len past.trail in
    let first : PageState = record { older = []; now = page_at past.start n; failed = [] } in
    subst (λ (s : PageState). IsPossible s (page_at (synced_contents past) n)) (sym (split_state past m n))
    (stays_possible n (drop m past.trail) (after_acts n first (take m past.trail)) (page_at (synced_contents past) n) (no_sync_after past.trail)
    (inl (sym (now_after n (take m past.trail) first past.start lt refl))))

-- a restarted disk begins as an image
pub takes_image : (past : Past) (picks : List Pick) (new : Pages) → Takes past.trail picks (synced_contents past) new → IsImage past new
takes_image past picks new takes = record {
  size = takes.size ∙ length-contents_after (take (synced_len past.trail) past.trail) past.start;
  each = λ n lt. elim (find_page picks n) [
    | inl found ↦
        let pick = get_or picks found.0 (record { page = 0; act = 0 }) in
        let is : pick.page ≡ n = found.2 (record { page = 0; act = 0 }) in
        subst (λ (k : ℕ). IsPossible (state_of past k) (page_at new k)) is (pick_possible past pick (page_at new pick.page) (takes.picked found.0 (record { page = 0; act = 0 }) found.1))
    | inr none ↦ subst (IsPossible (state_of past n)) (sym (takes.others n none)) (synced_possible past n lt)
  ];
}

-- the same, where start and trail are known by equations
pub takes_image_at : (start from : Pages) (trail acts : List DiskAct) (picks : List Pick) (new : Pages) → from ≡ start → acts ≡ trail → Takes acts picks (contents_after (take (synced_len acts) acts) from) new → IsImage (record { start = start; trail = trail }) new
takes_image_at start from trail acts picks new is_start is_trail takes =
    takes_image (record { start = start; trail = trail }) picks new
    (subst (λ (l : List DiskAct). Takes l picks (contents_after (take (synced_len l) l) start) new) is_trail (subst (λ (s : Pages). Takes acts picks (contents_after (take (synced_len acts) acts) s) new) is_start takes))
