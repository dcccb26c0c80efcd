-- Blobs go: their pages are given back, one entry's after another's.
use Rattle.std.proofs.Common.{inl, inr, ◌≡◌, ◌≢◌, ◌↔◌, ℕ, ◌+◌, ◌<◌, ◌≤◌, Bool, false, List, [], ◌∷◌, ◌++◌, length, get_or, remove, None, Vec, vec_capacity, All, refl, sym, ap, subst, ◌∙◌, arith, append_assoc, length-append, set, take, drop}
use Rattle.std.specs.declared.alloc.Global.{Global}
use Rattle.std.proofs.lemmas.Bool.{cases_Bool}
use Rattle.std.proofs.lemmas.List.{drop_more, take-append-drop, take_more}
use Rattle.std.proofs.lemmas.List.Elements.{All-append, All-nil}
use Rattle.std.proofs.lemmas.List.Sums.{sum_by-append, sum_by-cons}
use Rattle.pkg_names.specs.declared.root.Root.{Root}
use Rattle.image_layout.specs.declared.geometry.Geometry.{Geometry}
use Rattle.node_table.specs.declared.entry.Entry.{Entry}
use Rattle.node_table.specs.Entries.{is_among, without, AreSound}
use Rattle.node_table.specs.Table.{TableView, committed}
use Rattle.page_pool.specs.Flags.{with_flags, free_count, IsTaken, AreDistinct}
use Rattle.blob_disk.specs.Gone.{gone_pages}
use Rattle.blob_disk.specs.Pooled.{page_sum, IsPooled}
use Rattle.blob_disk.specs.Drafts.{AreBlobs}
use Rattle.blob_disk.proofs.Pooling.{pooled_give}
use Rattle.blob_disk.proofs.SoundLists.{entry_taken, entry_sound, middle_apart, sound_remove, remove-append}
use Rattle.blob_disk.proofs.Moving.{pairs_join}

flags_then : (first others : List ℕ) (flags : List Bool) → with_flags false (first ++ others) flags ≡ with_flags false others (with_flags false first flags)
flags_then [] others flags = refl
flags_then (a ∷ first) others flags = flags_then first others (set flags a false)

-- What holds once these pages were given back, and these entries are left.
pub record AreGiven (g : Geometry) (xs left ds : List Entry) (pages : List ℕ) (flags : List Bool) : Type 0 where
  pub sound : AreSound g (xs ++ (left ++ ds))
  pub pooled : IsPooled (xs ++ (left ++ ds)) (with_flags false pages flags) g.data_pages
  pub taken : All (IsTaken flags) pages
  pub distinct : AreDistinct pages

module _ (g : Geometry) (ds : List Entry) (roots : List Root)
    (long : (flag : Bool) (flags : List Bool) (pages : List ℕ) → length (with_flags flag pages flags) ≡ length flags)
    (give : (flags : List Bool) (pages : List ℕ) (page : ℕ) → IsTaken (with_flags false pages flags) page ↔ (IsTaken flags page × All (λ p. p ≢ page) pages))
    (count : (flags : List Bool) (pages : List ℕ) → All (IsTaken flags) pages → AreDistinct pages → free_count (with_flags false pages flags) ≡ free_count flags + length pages) where
  -- one that goes
  one_gone : (xs rest : List Entry) (entry : Entry) (flags : List Bool) → AreSound g (xs ++ entry ∷ rest) → IsPooled (xs ++ entry ∷ rest) flags g.data_pages → AreSound g (xs ++ rest) × IsPooled (xs ++ rest) (with_flags false entry.pages flags) g.data_pages
  one_gone xs rest entry flags sound pooled =
      let taken = entry_taken xs rest entry flags g.data_pages pooled in
      let is = entry_sound g xs rest entry sound in
      let at : length xs < length (xs ++ entry ∷ rest) = omega (arith, length-append xs (entry ∷ rest)) in (
        subst (λ (l : List Entry). AreSound g l) (ap (remove (xs ++ entry ∷ rest)) (omega arith) ∙ remove-append xs (entry ∷ rest) 0) (sound_remove g (xs ++ entry ∷ rest) (length xs) at sound),
        pooled_give xs rest entry flags g.data_pages (λ page. give flags entry.pages page) (long false flags entry.pages) (count flags entry.pages taken is.distinct) (middle_apart g xs rest entry sound) pooled,
      )

  pub are_given : (xs es : List Entry) (flags : List Bool) → AreSound g (xs ++ (es ++ ds)) → IsPooled (xs ++ (es ++ ds)) flags g.data_pages → AreGiven g xs (without roots es) ds (gone_pages roots es) flags
  are_given xs [] flags sound pooled = record { sound = sound; pooled = pooled; taken = All-nil (IsTaken flags); distinct = λ i j d lt within. absurd (omega (arith, lt, within)) }
  are_given xs (entry ∷ es) flags sound pooled =
      let more : List ℕ = gone_pages roots es in
      let left : List Entry = without roots es in
      elim (cases_Bool (is_among roots entry.root)) [
        | inl goes ↦
            let left_is : left ≡ without roots (entry ∷ es) = rw goes refl in
            let pages_are : entry.pages ++ more ≡ gone_pages roots (entry ∷ es) = rw goes refl in
            let next : List Bool = with_flags false entry.pages flags in
            let one = one_gone xs (es ++ ds) entry flags sound pooled in
            let rest = are_given xs es next one.0 one.1 in
            let is = entry_sound g xs (es ++ ds) entry sound in
            let all : AreGiven g xs left ds (entry.pages ++ more) flags = record {
              sound = rest.sound;
              pooled = subst (λ (f : List Bool). IsPooled (xs ++ (left ++ ds)) f g.data_pages) (sym (flags_then entry.pages more flags)) rest.pooled;
              taken = All-append (IsTaken flags) entry.pages more (entry_taken xs (es ++ ds) entry flags g.data_pages pooled) (λ k d below. ((give flags entry.pages (get_or more k d)).0 (rest.taken k d below)).0);
              distinct = pairs_join (λ (a b : ℕ). a ≢ b) entry.pages more is.distinct rest.distinct
                  (λ i j d on_entry on_more. ((give flags entry.pages (get_or more j d)).0 (rest.taken j d on_more)).1 i d on_entry);
            } in
            subst (λ (l : List Entry). AreGiven g xs l ds (gone_pages roots (entry ∷ es)) flags) left_is
            (subst (λ (p : List ℕ). AreGiven g xs left ds p flags) pages_are all)
        | inr stays ↦
            let left_is : entry ∷ left ≡ without roots (entry ∷ es) = rw stays refl in
            let pages_are : more ≡ gone_pages roots (entry ∷ es) = rw stays refl in
            let same : xs ++ entry ∷ (es ++ ds) ≡ (xs ++ entry ∷ []) ++ (es ++ ds) = sym (append_assoc xs (entry ∷ []) (es ++ ds)) in
            let rest = are_given (xs ++ entry ∷ []) es flags (subst (λ (l : List Entry). AreSound g l) same sound) (subst (λ (l : List Entry). IsPooled l flags g.data_pages) same pooled) in
            let back : (xs ++ entry ∷ []) ++ (left ++ ds) ≡ xs ++ entry ∷ (left ++ ds) = append_assoc xs (entry ∷ []) (left ++ ds) in
            let all : AreGiven g xs (entry ∷ left) ds more flags = record {
              sound = subst (λ (l : List Entry). AreSound g l) back rest.sound;
              pooled = subst (λ (l : List Entry). IsPooled l (with_flags false more flags) g.data_pages) back rest.pooled;
              taken = rest.taken;
              distinct = rest.distinct;
            } in
            subst (λ (l : List Entry). AreGiven g xs l ds (gone_pages roots (entry ∷ es)) flags) left_is
            (subst (λ (p : List ℕ). AreGiven g xs (entry ∷ left) ds p flags) pages_are all)
      ]

-- the pages of the entries that go are no more than all entries have
pub length-gone_pages : (roots : List Root) (es : List Entry) → length (gone_pages roots es) ≤ page_sum es
length-gone_pages roots [] = omega arith
length-gone_pages roots (entry ∷ es) =
    let sum = sum_by-cons (λ (e : Entry). length e.pages) entry es in
    elim (cases_Bool (is_among roots entry.root)) [
      | inl goes ↦
          let pages_are : entry.pages ++ gone_pages roots es ≡ gone_pages roots (entry ∷ es) = rw goes refl in
          omega (arith, ap length pages_are, length-append entry.pages (gone_pages roots es), length-gone_pages roots es, sum)
      | inr stays ↦
          let pages_are : gone_pages roots es ≡ gone_pages roots (entry ∷ es) = rw stays refl in
          omega (arith, ap length pages_are, length-gone_pages roots es, sum)
    ]

-- the fields after blobs have gone
pub with_removed : (t now : TableView) (ds : List Entry) (roots : List Root) (flags after : List Bool) (spare noted : Vec ℕ Global) (broken : Bool) → AreBlobs t ds flags spare broken → now ≡ committed t None roots → vec_capacity spare ≤ vec_capacity noted → AreGiven t.geometry [] (without roots t.entries) ds (gone_pages roots t.entries) flags → after ≡ with_flags false (gone_pages roots t.entries) flags → AreBlobs now ds after noted broken
with_removed t now ds roots flags after spare noted broken are now_is room given after_is =
    let left : TableView = committed t None roots in
    let there : AreBlobs left ds after noted broken = record {
      limits = are.limits;
      sound = given.sound;
      pool = subst (λ (f : List Bool). IsPooled (without roots t.entries ++ ds) f t.geometry.data_pages) (sym after_is) given.pooled;
      noted = λ whole. omega (arith, are.noted whole, room);
      flag = are.flag;
    } in
    subst (λ (v : TableView). AreBlobs v ds after noted broken) (sym now_is) there

gone-append : (roots : List Root) (xs ys : List Entry) → gone_pages roots (xs ++ ys) ≡ gone_pages roots xs ++ gone_pages roots ys
gone-append roots [] ys = refl
gone-append roots (entry ∷ xs) ys =
    elim (cases_Bool (is_among roots entry.root)) [
      | inl goes ↦
          let left : gone_pages roots (entry ∷ (xs ++ ys)) ≡ entry.pages ++ gone_pages roots (xs ++ ys) = rw goes refl in
          let right : entry.pages ++ gone_pages roots xs ≡ gone_pages roots (entry ∷ xs) = rw goes refl in
          left ∙ ap (λ (l : List ℕ). entry.pages ++ l) (gone-append roots xs ys) ∙ sym (append_assoc entry.pages (gone_pages roots xs) (gone_pages roots ys)) ∙ ap (λ (l : List ℕ). l ++ gone_pages roots ys) right
      | inr stays ↦
          let left : gone_pages roots (entry ∷ (xs ++ ys)) ≡ gone_pages roots (xs ++ ys) = rw stays refl in
          let right : gone_pages roots xs ≡ gone_pages roots (entry ∷ xs) = rw stays refl in
          left ∙ gone-append roots xs ys ∙ ap (λ (l : List ℕ). l ++ gone_pages roots ys) right
    ]

-- one entry more
pub gone_next : (roots : List Root) (es : List Entry) (i : ℕ) (entry : Entry) → i < length es → ((d : Entry) → get_or es i d ≡ entry) → gone_pages roots (take (i + 1) es) ≡ gone_pages roots (take i es) ++ gone_pages roots (entry ∷ [])
gone_next roots es i entry below here =
    ap (gone_pages roots) (take_more es i entry below ∙ ap (λ (e : Entry). take i es ++ e ∷ []) (here entry)) ∙ gone-append roots (take i es) (entry ∷ [])

-- there is room for it
pub gone_room : (roots : List Root) (es : List Entry) (i : ℕ) (entry : Entry) → i < length es → ((d : Entry) → get_or es i d ≡ entry) → length (gone_pages roots (take i es)) + length entry.pages ≤ page_sum es
gone_room roots es i entry below here =
    let pages : Entry → ℕ = λ e. length e.pages in
    let all : take i es ++ entry ∷ drop (i + 1) es ≡ es = ap (λ (l : List Entry). take i es ++ l) (sym (drop_more es i entry below ∙ ap (λ (e : Entry). e ∷ drop (i + 1) es) (here entry))) ∙ take-append-drop i es in
    omega (arith, length-gone_pages roots (take i es), sum_by-append pages (take i es) (entry ∷ drop (i + 1) es), sum_by-cons pages entry (drop (i + 1) es), ap (λ (l : List Entry). page_sum l) all)
