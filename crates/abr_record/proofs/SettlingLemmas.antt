-- Boots change a record a number of times that its tries and its request for recovery bound.
use Rattle.std.proofs.Common.{ℕ, zero, suc, ◌≡◌, ◌≢◌, ◌⊎◌, ◌+◌, ◌-◌, ◌<◌, ◌≤◌, min, false, IsTrue, sym, refl, ap, ◌∙◌, subst, inl, inr, arith}
use Rattle.std.proofs.lemmas.Bool.{cases_order, cases_eq, cases_lt, cond_both, cond-false, false_from_ne_true}
use Rattle.std.proofs.lemmas.Bool.Decides.{nat_tests}
use Rattle.abr_record.specs.declared.Slot.{Slot}
use Rattle.abr_record.specs.declared.Slot.TheVariants.{A, B, R}
use Rattle.abr_record.specs.declared.SlotRecord.{SlotRecord}
use Rattle.abr_record.specs.declared.Record.{Record}
use Rattle.abr_record.specs.declared.settling.Settled.{Settled}
use Rattle.abr_record.specs.Boot.{is_bootable, boot_slot, boot_record, after_slot, tried}
use Rattle.abr_record.specs.Settling.{record_after, SettlesOn}

-- how often boots can change a record at most
abbrev pub changes_left : Record → ℕ
changes_left r = min r.one_shot 1 + r.a.tries + r.b.tries

tried_falls : (slot : SlotRecord) → (tried slot ≡ slot) ⊎ ((tried slot).tries + 1 ≡ slot.tries)
tried_falls slot =
    cond_both slot.successful slot (record slot { tries = slot.tries - 1 }) (λ s. (s ≡ slot) ⊎ (s.tries + 1 ≡ slot.tries))
    (λ _. inl refl)
    (λ _. elim (cases_eq slot.tries 0) [
      | inl none ↦ let same : slot.tries - 1 ≡ slot.tries = omega arith in inl (ap (λ (t : ℕ). record slot { tries = t }) same)
      | inr some ↦ inr (omega arith)
    ])

-- such a slot has a try left
tries_left : (slot : SlotRecord) → slot.successful ≡ false → IsTrue (is_bootable slot) → slot.tries ≡ slot.tries - 1 + 1
tries_left slot failed bootable = elim (cases_eq slot.tries 0) [
  | inl none ↦ absurd (grind (arith, nat_tests))
  | inr some ↦ omega arith
]

-- a slot that is booted before it has succeeded loses exactly one try
pub one_try : (slot : SlotRecord) → IsTrue (is_bootable slot) → (IsTrue slot.successful → ⊥)
    → (tries : ℕ) × (slot.tries ≡ tries + 1) × (tried slot ≡ record slot { tries = tries })
one_try slot bootable not_yet =
    let failed : slot.successful ≡ false = false_from_ne_true slot.successful not_yet in
    (slot.tries - 1, tries_left slot failed bootable, cond-false slot.successful slot (record slot { tries = slot.tries - 1 }) failed)

after_falls : (slot : Slot) (r : Record) → (after_slot slot r ≡ r) ⊎ (changes_left (after_slot slot r) + 1 ≤ changes_left r)
after_falls A r = elim (tried_falls r.a) [
  | inl same ↦ inl (ap (λ (s : SlotRecord). record r { a = s }) same)
  | inr falls ↦ inr (omega arith)
]
after_falls B r = elim (tried_falls r.b) [
  | inl same ↦ inl (ap (λ (s : SlotRecord). record r { b = s }) same)
  | inr falls ↦ inr (omega arith)
]
after_falls R r = elim (cases_eq r.one_shot 0) [
  | inl none ↦ inl (ap (λ (n : ℕ). record r { one_shot = n }) (sym none))
  | inr asked ↦ inr (omega arith)
]

-- a boot that changes the record takes one of them
pub boot_falls : (r : Record) → boot_record r ≢ r → changes_left (boot_record r) + 1 ≤ changes_left r
boot_falls r changes = elim (after_falls (boot_slot r) r) [ inl same ↦ absurd (changes same) | inr falls ↦ falls ]

-- ---- settling

rests : (r : Record) (n k : ℕ) → boot_record (record_after n r) ≡ record_after n r → record_after (k + n) r ≡ record_after n r
unfolding record_after
rests r n zero stays = let e : 0 + n ≡ n = omega arith in ap (λ m. record_after m r) e
rests r n (suc k) stays =
    let e : suc k + n ≡ suc (k + n) = omega arith in
    ap (λ m. record_after m r) e ∙ ap boot_record (rests r n k stays) ∙ stays

pub rests_from : (r : Record) (n m : ℕ) → boot_record (record_after n r) ≡ record_after n r → n ≤ m → record_after m r ≡ record_after n r
rests_from r n m stays le =
    let e : m ≡ m - n + n = omega arith in
    ap (λ k. record_after k r) e ∙ rests r n (m - n) stays

pub settles_once : (r : Record) (s t : Settled) → SettlesOn r s → SettlesOn r t → s ≡ t
settles_once r s t at_s at_t = elim (cases_order s.boots t.boots) [
  | inl e ↦
      let slots : s.slot ≡ t.slot = at_s.slot ∙ ap (λ n. boot_slot (record_after n r)) e ∙ sym at_t.slot in
      λ i. record { slot = slots i; boots = e i }
  | inr apart ↦ elim apart [
    | inl below ↦ absurd (at_t.least s.boots below at_s.stays)
    | inr above ↦ absurd (at_s.least t.boots above at_t.stays)
  ]
]

-- ---- the loop

-- so many boots led here, each of them changed the record, and few are left that can
pub record IsOnTheWay (first current : Record) (boots : ℕ) : Type 0 where
  pub here : current ≡ record_after boots first
  pub changed : (n : ℕ) → n < boots → boot_record (record_after n first) ≢ record_after n first
  pub few : boots + changes_left current ≤ 511

pub on_the_way_first : (first : Record) → changes_left first ≤ 511 → IsOnTheWay first first 0
unfolding record_after
on_the_way_first first few = record { here = refl; changed = λ n below. absurd (omega arith); few = omega arith }

pub on_the_way_more : (first current : Record) (boots : ℕ) → IsOnTheWay first current boots → boot_record current ≢ current
    → IsOnTheWay first (boot_record current) (boots + 1)
unfolding record_after
on_the_way_more first current boots way changes = record {
  here = ap boot_record way.here ∙ ap (λ n. record_after n first) (let e : suc boots ≡ boots + 1 = omega arith in e);
  changed = λ n below. elim (cases_lt n boots) [
    | inl before ↦ way.changed n before
    | inr last ↦
        let e : boots ≡ n = omega arith in
        subst (λ (k : ℕ). boot_record (record_after k first) ≢ record_after k first) e
        (subst (λ (q : Record). boot_record q ≢ q) way.here changes)
  ];
  few = omega (arith, boot_falls current changes, way.few);
}

pub on_the_way_end : (first current : Record) (settled : Settled) → IsOnTheWay first current settled.boots
    → boot_record current ≡ current → settled.slot ≡ boot_slot current → SettlesOn first settled
on_the_way_end first current settled way same slot = record {
  stays = subst (λ (q : Record). boot_record q ≡ q) way.here same;
  least = way.changed;
  slot = slot ∙ ap boot_slot way.here;
}
