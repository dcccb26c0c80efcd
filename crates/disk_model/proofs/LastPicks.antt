-- The last write of each page since the last sync.
use Rattle.std.proofs.Common.{◌≡◌, ◌≢◌, ◌⊎◌, ℕ, zero, suc, ◌+◌, ◌<◌, ◌≤◌, Bool, true, false, cond, eqb, ltb, List, [], ◌∷◌, ◌++◌, length, get_or, slice_get, set, take, length-take-le, length-set, replicate, Option, Some, None, IsSome, sym, refl, ◌∙◌, ap, subst, inl, inr, arith, ltb-false, lt-ltb, le-ltb, Contains, get_or-set_same, get_or-set_other}
use Rattle.std.specs.List.{AllByRecursion}
use Rattle.std.proofs.lemmas.Bool.{cases_lt, cases_eq, cond-true, cond-false}
use Rattle.std.proofs.lemmas.Bool.Decides.{eqb_tells}
use Rattle.std.proofs.lemmas.List.{length_push, append-nil, take_more}
use Rattle.std.proofs.lemmas.List.Elements.{All-push, All-nil, All-from_recursion, Contains-push, Contains-append_left}
use Rattle.std.proofs.lemmas.List.Quantifiers.{all_pairs_push}
use Rattle.std.proofs.lemmas.Option.{slice_get_past}
use Rattle.disk_model.specs.declared.act.DiskAct.{DiskAct}
use Rattle.disk_model.specs.declared.act.DiskAct.TheVariants.{Wrote, Failed, Synced}
use Rattle.disk_model.specs.declared.power_loss.Pick.{Pick}
use Rattle.disk_model.specs.Past.{Page, IsActIn}
use Rattle.disk_model.specs.Picks.{synced_len, value_on, pick_value, AreGood, IsLastPick, AreLastPicks, IsLastAct, noted, picked, HasPicks}
use Rattle.disk_model.proofs.ReplayLemmas.{value_in}

-- the last act of each page
abbrev pub AreLastActs : List DiskAct → ℕ → List (Option ℕ) → Type 0
AreLastActs trail count last = (page : ℕ) → page < count → IsLastAct trail page (get_or last page None)

-- an act more, which doesn't write the page
same_value : (page : ℕ) (trail : List DiskAct) (act : DiskAct) (k : ℕ) → value_on page (Some act) ≡ None → value_on page (slice_get (trail ++ act ∷ []) k) ≡ value_on page (slice_get trail k)
same_value page [] act zero none = none
same_value page [] act (suc k) none = refl
same_value page (x ∷ trail) act zero none = refl
same_value page (x ∷ trail) act (suc k) none = same_value page trail act k none

last_stays : (page : ℕ) (trail : List DiskAct) (act : DiskAct) (last : Option ℕ) → value_on page (Some act) ≡ None → IsLastAct trail page last → IsLastAct (trail ++ act ∷ []) page last
last_stays page trail act None none is = λ k. same_value page trail act k none ∙ is k
last_stays page trail act (Some last) none is =
    (subst (λ (v : Option Page). IsSome v) (sym (same_value page trail act last none)) is.0, λ k lt. same_value page trail act k none ∙ is.1 k lt)

-- an act more, which writes it
at_push : (trail : List DiskAct) (act : DiskAct) → slice_get (trail ++ act ∷ []) (length trail) ≡ Some act
at_push [] act = refl
at_push (x ∷ trail) act = at_push trail act

last_comes : (page : ℕ) (trail : List DiskAct) (act : DiskAct) → IsSome (value_on page (Some act)) → IsLastAct (trail ++ act ∷ []) page (Some (length trail))
last_comes page trail act some = (
  subst (λ (o : Option DiskAct). IsSome (value_on page o)) (sym (at_push trail act)) some,
  λ k lt. ap (value_on page) (slice_get_past (trail ++ act ∷ []) k (omega (arith, lt, length_push trail act))),
)

-- whether an act writes the page
abbrev Writes : ℕ → ℕ → DiskAct → Type 0
Writes n page act = ((n ≡ page) × IsSome (value_on page (Some act))) ⊎ ((n ≢ page) × (value_on page (Some act) ≡ None))

writes_at : (n page : ℕ) (bytes : Page) → ((n ≡ page) × IsSome (cond (eqb n page) (Some bytes) None)) ⊎ ((n ≢ page) × (cond (eqb n page) (Some bytes) None ≡ None))
writes_at n page bytes =
    elim (eqb_tells n page) [
      | inl t ↦ inl (t.1, subst (λ (v : Option Page). IsSome v) (sym (cond-true (eqb n page) (Some bytes) None t.0)) refl)
      | inr t ↦ inr (t.1, cond-false (eqb n page) (Some bytes) None t.0)
    ]

last_set : (trail : List DiskAct) (act : DiskAct) (n count : ℕ) (last : List (Option ℕ)) → n < length last → ((page : ℕ) → Writes n page act) → AreLastActs trail count last → AreLastActs (trail ++ act ∷ []) count (set last n (Some (length trail)))
last_set trail act n count last inside writes all = λ page lt.
    let value : Option ℕ = Some (length trail) in
    elim (writes page) [
      | inl is ↦ subst (IsLastAct (trail ++ act ∷ []) page)
          (sym (ap (λ (k : ℕ). get_or (set last n value) k None) (sym is.0) ∙ get_or-set_same last n value None inside))
          (last_comes page trail act is.1)
      | inr not ↦ subst (IsLastAct (trail ++ act ∷ []) page)
          (sym (get_or-set_other last n page value None (λ e. not.0 (sym e))))
          (last_stays page trail act (get_or last page None) not.1 (all page lt))
    ]

last_act_more : (trail : List DiskAct) (act : DiskAct) (count : ℕ) (last : List (Option ℕ)) → length last ≡ count → IsActIn (λ n. n < count) act → AreLastActs trail count last → AreLastActs (trail ++ act ∷ []) count (noted act (length trail) last)
last_act_more trail (Wrote n bytes) count last size within all = last_set trail (Wrote n bytes) n count last (omega (arith, within, size)) (λ page. writes_at n page bytes) all
last_act_more trail (Failed n bytes) count last size within all = last_set trail (Failed n bytes) n count last (omega (arith, within, size)) (λ page. writes_at n page bytes) all
last_act_more trail Synced count last size within all = λ page lt. last_stays page trail Synced (get_or last page None) refl (all page lt)

length-noted : (act : DiskAct) (number : ℕ) (last : List (Option ℕ)) → length (noted act number last) ≡ length last
length-noted (Wrote n bytes) number last = length-set last n (Some number)
length-noted (Failed n bytes) number last = length-set last n (Some number)
length-noted Synced number last = refl

module _ (acts : List DiskAct) (i count : ℕ) (last new : List (Option ℕ)) (inside : i < length acts) (size : length last ≡ count) (is : new ≡ noted (get_or acts i (Wrote 0 [])) i last) where
  pub noted_size : length new ≡ count
  noted_size = ap length is ∙ length-noted (get_or acts i (Wrote 0 [])) i last ∙ size

  pub noted_last : AllByRecursion (IsActIn (λ n. n < count)) acts → AreLastActs (take i acts) count last → AreLastActs (take (i + 1) acts) count new
  noted_last within all =
      let act = get_or acts i (Wrote 0 []) in
      let taken : length (take i acts) ≡ i = length-take-le i acts (omega (arith, inside)) in
      subst (λ (l : List DiskAct). AreLastActs l count new) (sym (take_more acts i (Wrote 0 []) inside))
      (subst (AreLastActs (take i acts ++ act ∷ []) count) (ap (λ (n : ℕ). noted act n last) taken ∙ sym is)
      (last_act_more (take i acts) act count last size (All-from_recursion (IsActIn (λ n. n < count)) acts within i (Wrote 0 []) inside) all))

none_last : (count page : ℕ) → get_or (replicate {A = Option ℕ} count None) page None ≡ None
none_last zero page = refl
none_last (suc count) zero = refl
none_last (suc count) (suc page) = none_last count page

pub last_act_none : (count : ℕ) → AreLastActs [] count (replicate count None)
last_act_none count = λ page lt. subst (IsLastAct [] page) (sym (none_last count page)) (λ act. refl)

-- the picks of one page more
pub has_picks_none : (last : List (Option ℕ)) (synced : ℕ) → HasPicks last synced 0 []
has_picks_none last synced = record {
  each = All-nil (λ (pick : Pick). get_or last pick.page None ≡ Some pick.act);
  late = All-nil (λ (pick : Pick). synced ≤ pick.act);
  below = All-nil (λ (pick : Pick). pick.page < 0);
  all = λ pick lt. absurd (omega (arith, lt));
  order = λ i j d lt le. absurd (omega (arith, le));
}

same_number : (a b : ℕ) → Some a ≡ Some b → a ≡ b
same_number a b e = cc

same_pick : (a b : Pick) → a.page ≡ b.page → a.act ≡ b.act → a ≡ b
same_pick a b e f =
    let first : a ≡ record { page = b.page; act = a.act } = ap (λ (n : ℕ). record { page = n; act = a.act }) e in
    let second : record { page = b.page; act = a.act } ≡ b = ap (λ (n : ℕ). record { page = b.page; act = n }) f in
    first ∙ second

module _ (last : List (Option ℕ)) (synced n : ℕ) (picks : List Pick) (has : HasPicks last synced n picks) where
  -- a page without a pick
  skips : ((act : ℕ) → get_or last n None ≡ Some act → act < synced) → HasPicks last synced (n + 1) (picks ++ [])
  skips none = subst (HasPicks last synced (n + 1)) (sym (append-nil picks)) (record {
    each = has.each;
    late = has.late;
    below = λ k d lt. omega (arith, has.below k d lt);
    all = λ pick lt le is. elim (cases_eq pick.page n) [
      | inl e ↦ absurd (omega (arith, le, none pick.act (subst (λ (k : ℕ). get_or last k None ≡ Some pick.act) e is)))
      | inr ne ↦ has.all pick (omega (arith, lt, ne)) le is
    ];
    order = has.order;
  })

  pushes : (act : ℕ) → get_or last n None ≡ Some act → synced ≤ act → HasPicks last synced (n + 1) (picks ++ record { page = n; act = act } ∷ [])
  pushes act at le =
      let new : Pick = record { page = n; act = act } in
      record {
        each = All-push (λ (pick : Pick). get_or last pick.page None ≡ Some pick.act) picks new has.each at;
        late = All-push (λ (pick : Pick). synced ≤ pick.act) picks new has.late le;
        below = All-push (λ (pick : Pick). pick.page < n + 1) picks new (λ k d lt. omega (arith, has.below k d lt)) (omega arith);
        all = λ pick lt late is. elim (cases_eq pick.page n) [
          | inl e ↦
              let same : act ≡ pick.act = same_number act pick.act (sym at ∙ subst (λ (k : ℕ). get_or last k None ≡ Some pick.act) e is) in
              subst (Contains (picks ++ new ∷ [])) (same_pick new pick (sym e) same) (Contains-push picks new)
          | inr ne ↦ Contains-append_left picks (new ∷ []) pick (has.all pick (omega (arith, lt, ne)) late is)
        ];
        order = all_pairs_push (λ (a : Pick) (b : Pick). a.page < b.page) picks new has.order (λ k d lt. has.below k d lt);
      }

  more_at : (at : Option ℕ) → get_or last n None ≡ at → HasPicks last synced (n + 1) (picks ++ picked synced n at)
  more_at None e = skips (λ act is. absurd (no_some act (sym e ∙ is)))
    where
      no_some : (act : ℕ) → None ≡ Some act → ⊥
      no_some act e = cc
  more_at (Some act) e =
      elim (cases_lt act synced) [
        | inl lt ↦ subst (λ (l : List Pick). HasPicks last synced (n + 1) (picks ++ l)) (sym (cond-true (ltb act synced) [] (record { page = n; act = act } ∷ []) (lt-ltb act synced lt)))
            (skips (λ k is. omega (arith, lt, same_number act k (sym e ∙ is))))
        | inr ge ↦ subst (λ (l : List Pick). HasPicks last synced (n + 1) (picks ++ l)) (sym (cond-false (ltb act synced) [] (record { page = n; act = act } ∷ []) (le-ltb act synced ge)))
            (pushes act e ge)
      ]

  pub has_picks_more : HasPicks last synced (n + 1) (picks ++ picked synced n (get_or last n None))
  has_picks_more = more_at (get_or last n None) refl

-- picks by the last acts are the last picks
none_is : (o : Option Page) → o ≡ None → IsSome o → ⊥
none_is o e is = cc

pick_late : (trail : List DiskAct) (pick : Pick) → IsSome (pick_value trail pick) → (synced_len trail ≤ pick.act) × IsSome (value_on pick.page (slice_get trail pick.act))
pick_late trail pick is = parts (ltb pick.act (synced_len trail)) (value_on pick.page (slice_get trail pick.act)) refl is
  where
    parts : (b : Bool) (o : Option Page) → ltb pick.act (synced_len trail) ≡ b → IsSome (cond b None o) → (synced_len trail ≤ pick.act) × IsSome o
    parts true o e is = absurd (none_is None refl is)
    parts false o e is = (ltb-false pick.act (synced_len trail) e, is)

some_value : (o : Option Page) → IsSome o → (value : Page) × (o ≡ Some value)
some_value None is = absurd (none_is None refl is)
some_value (Some value) is = (value, refl)

module _ (trail : List DiskAct) (count : ℕ) (last : List (Option ℕ)) (picks : List Pick) (within : AllByRecursion (IsActIn (λ n. n < count)) trail) (acts : AreLastActs trail count last) (has : HasPicks last (synced_len trail) count picks) where
  is_last : (k : ℕ) (d : Pick) → k < length picks → IsLastPick trail (get_or picks k d)
  is_last k d lt =
      let pick = get_or picks k d in
      let is : IsLastAct trail pick.page (Some pick.act) = subst (IsLastAct trail pick.page) (has.each k d lt) (acts pick.page (has.below k d lt)) in
      record {
        writes = subst (λ (v : Option Page). IsSome v) (sym (cond-false (ltb pick.act (synced_len trail)) None (value_on pick.page (slice_get trail pick.act)) (le-ltb pick.act (synced_len trail) (has.late k d lt)))) is.0;
        last = is.1;
      }

  number_of : (pick : Pick) → IsLastPick trail pick → (at : Option ℕ) → IsLastAct trail pick.page at → IsSome (value_on pick.page (slice_get trail pick.act)) → at ≡ Some pick.act
  number_of pick is None none some = absurd (none_is (value_on pick.page (slice_get trail pick.act)) (none pick.act) some)
  number_of pick is (Some act) at some =
      elim (cases_lt act pick.act) [
        | inl lt ↦ absurd (none_is (value_on pick.page (slice_get trail pick.act)) (at.1 pick.act lt) some)
        | inr ge ↦ elim (cases_lt pick.act act) [
          | inl gt ↦ absurd (none_is (value_on pick.page (slice_get trail act)) (is.last act gt) at.0)
          | inr le ↦ ap (λ (n : ℕ). Some n) (omega (arith, ge, le))
        ]
      ]

  pub are_last : AreLastPicks trail picks
  are_last = record {
    each = is_last;
    all = λ pick is.
        let late = pick_late trail pick is.writes in
        let value = some_value (value_on pick.page (slice_get trail pick.act)) late.1 in
        let inside : pick.page < count = value_in (λ n. n < count) pick.page trail pick.act value.0 within value.1 in
        has.all pick inside late.0 (number_of pick is (get_or last pick.page None) (acts pick.page inside) late.1);
    order = has.order;
  }

  pub are_good : AreGood trail picks
  are_good = record {
    each = λ k d lt. (is_last k d lt).writes;
    apart = λ i j d lt le e. omega (arith, e, has.order i j d lt le);
  }
