-- An entry goes from the drafts to the end of the stock.
use Rattle.std.proofs.Common.{inl, inr, ◌≡◌, ◌⊎◌, ◌↔◌, ℕ, suc, ◌+◌, ◌-◌, ◌/◌, ◌<◌, ◌≤◌, Bool, List, [], ◌∷◌, ◌++◌, length, take, drop, get_or, remove, Option, Some, All, Any, Contains, true, refl, sym, ap, subst, ◌∙◌, arith, length-append, vec_capacity, Vec}
use Rattle.std.specs.List.{AllPairs}
use Rattle.std.specs.declared.alloc.Global.{Global}
use Rattle.std.proofs.lemmas.Bool.{cases_lt}
use Rattle.std.proofs.lemmas.List.{get_or_append_left, get_or-append-add, get_or-append_right, get_or_at, get_or_default, length_push}
use Rattle.std.proofs.lemmas.List.Edits.{length-remove, get_or-remove_below, get_or-remove_above}
use Rattle.std.proofs.lemmas.List.Elements.{All-append, All-take, All-drop, All-push}
use Rattle.std.proofs.lemmas.List.Quantifiers.{all_pairs_push, all_pairs_remove}
use Rattle.std.proofs.lemmas.List.Sums.{sum_by-append, sum_by-cons, sum_by_push}
use Rattle.image_layout.specs.declared.geometry.Geometry.{Geometry}
use Rattle.image_layout.specs.Geometry.{data_start}
use Rattle.node_table.specs.declared.entry.Entry.{Entry}
use Rattle.node_table.specs.Entries.{IsEntry, AreSound, MayStandTogether, MayCome, IsChained}
use Rattle.node_table.specs.Table.{TableView, committed, IsCommitPage}
use Rattle.pkg_names.specs.declared.root.Root.{Root}
use Rattle.disk_model.specs.Past.{Past}
use Rattle.disk_model.specs.Images.{AtEach, WritesOnly}
use Rattle.pkg_merkle.specs.Merkle.{merkle_root}
use Rattle.blob_pages.specs.Pages.{open_page}
use Rattle.blob_pages.specs.Written.{IsOn, AreWritten}
use Rattle.blob_disk.specs.Stock.{HasBlobs, Stores}
use Rattle.blob_disk.specs.Pooled.{page_sum, IsPooled}
use Rattle.blob_disk.specs.Drafts.{AreBlobs, BlobsView, with_flag, with_failed}
use Rattle.blob_disk.proofs.Pooling.{any_left, any_right, any_split}
use Rattle.blob_disk.proofs.SoundLists.{split_at}
use Rattle.blob_disk.proofs.Placing.{IsBehind}
use Rattle.blob_disk.proofs.Committing.{without_none}

-- what is left of a list was at another place than the one that went
removed_at : {X : Type 0} (ys : List X) (i j : ℕ) (d : X) → i < length ys → j < length (remove ys i) → (m : ℕ) × (m < length ys) × ((m < i) ⊎ (i < m)) × (get_or (remove ys i) j d ≡ get_or ys m d)
removed_at ys i j d below within =
    let size = length-remove ys i below in
    elim (cases_lt j i) [
      | inl before ↦ (j, omega (arith, before, below), inl before, get_or-remove_below ys i d j before below)
      | inr behind ↦ (j + 1, omega (arith, size, within), inr (omega (arith, behind)), get_or-remove_above ys i d j behind below)
    ]

module _ {X : Type 0} (R : X → X → Type 0) where
  pub pairs_left : (xs ys : List X) → AllPairs R (xs ++ ys) → AllPairs R xs
  pairs_left xs ys all i j d lt within =
      subst (λ (a : X). R a (get_or xs j d)) (get_or_append_left xs ys d i (omega (arith, lt, within)))
      (subst (R (get_or (xs ++ ys) i d)) (get_or_append_left xs ys d j within) (all i j d lt (omega (arith, length-append xs ys, within))))

  pub pairs_right : (xs ys : List X) → AllPairs R (xs ++ ys) → AllPairs R ys
  pairs_right xs ys all i j d lt within =
      subst (λ (a : X). R a (get_or ys j d)) (get_or-append-add xs ys i d)
      (subst (R (get_or (xs ++ ys) (length xs + i) d)) (get_or-append-add xs ys j d) (all (length xs + i) (length xs + j) d (omega (arith, lt)) (omega (arith, length-append xs ys, within))))

  pub pairs_across : (xs ys : List X) → AllPairs R (xs ++ ys) → (i j : ℕ) (d : X) → i < length xs → j < length ys → R (get_or xs i d) (get_or ys j d)
  pairs_across xs ys all i j d below within =
      subst (λ (a : X). R a (get_or ys j d)) (get_or_append_left xs ys d i below)
      (subst (R (get_or (xs ++ ys) i d)) (get_or-append-add xs ys j d) (all i (length xs + j) d (omega (arith, below)) (omega (arith, length-append xs ys, within))))

  pub pairs_join : (xs ys : List X) → AllPairs R xs → AllPairs R ys → ((i j : ℕ) (d : X) → i < length xs → j < length ys → R (get_or xs i d) (get_or ys j d)) → AllPairs R (xs ++ ys)
  pairs_join xs ys left right across i j d lt within =
      let n : ℕ = length xs in
      let size = length-append xs ys in
      elim (cases_lt j n) [
        | inl j_left ↦
            subst (λ (a : X). R a (get_or (xs ++ ys) j d)) (sym (get_or_append_left xs ys d i (omega (arith, lt, j_left))))
            (subst (R (get_or xs i d)) (sym (get_or_append_left xs ys d j j_left)) (left i j d lt j_left))
        | inr j_right ↦
            let on_right : get_or (xs ++ ys) j d ≡ get_or ys (j - n) d = get_or-append_right xs ys n j d refl j_right in
            elim (cases_lt i n) [
              | inl i_left ↦
                  subst (λ (a : X). R a (get_or (xs ++ ys) j d)) (sym (get_or_append_left xs ys d i i_left))
                  (subst (R (get_or xs i d)) (sym on_right) (across i (j - n) d i_left (omega (arith, size, j_right, within))))
              | inr i_right ↦
                  subst (λ (a : X). R a (get_or (xs ++ ys) j d)) (sym (get_or-append_right xs ys n i d refl i_right))
                  (subst (R (get_or ys (i - n) d)) (sym on_right) (right (i - n) (j - n) d (omega (arith, lt, i_right, j_right)) (omega (arith, size, j_right, within))))
            ]
      ]

  -- an element of the second list goes behind the first
  pub pairs_move : ((a b : X) → R a b → R b a) → (xs ys : List X) (i : ℕ) (e : X) → i < length ys → ((d : X) → get_or ys i d ≡ e) → AllPairs R (xs ++ ys) → AllPairs R ((xs ++ e ∷ []) ++ remove ys i)
  pairs_move back xs ys i e below here all =
      let right = pairs_right xs ys all in
      let across = pairs_across xs ys all in
      pairs_join (xs ++ e ∷ []) (remove ys i)
      (all_pairs_push R xs e (pairs_left xs ys all) (λ k d lt. subst (R (get_or xs k d)) (here d) (across k i d lt below)))
      (all_pairs_remove R ys i below right)
      (λ k j d k_lt j_lt.
      let at = removed_at ys i j d below j_lt in
      let both : R (get_or (xs ++ e ∷ []) k d) (get_or ys at.0 d) = elim (cases_lt k (length xs)) [
        | inl k_left ↦ subst (λ (a : X). R a (get_or ys at.0 d)) (sym (get_or_append_left xs (e ∷ []) d k k_left)) (across k at.0 d k_left at.1)
        | inr k_last ↦
            let last : get_or (xs ++ e ∷ []) k d ≡ e = get_or_at xs e [] d k (omega (arith, k_last, k_lt, length_push xs e)) in
            let apart : R (get_or ys i d) (get_or ys at.0 d) = elim at.2 [
              | inl before ↦ back (get_or ys at.0 d) (get_or ys i d) (right at.0 i d before below)
              | inr behind ↦ right i at.0 d behind at.1
            ] in
            subst (λ (a : X). R a (get_or ys at.0 d)) (here d ∙ sym last) apart
      ] in
      subst (R (get_or (xs ++ e ∷ []) k d)) (sym at.3) both)

together_back : (a b : Entry) → MayStandTogether a b → MayStandTogether b a
together_back a b both = record { roots = λ e. both.roots (sym e); chains = λ page on_b on_a. both.chains page on_a on_b }

-- entries that could stand in one table still do
pub sound_move : (g : Geometry) (es ds : List Entry) (i : ℕ) (e : Entry) → i < length ds → ((d : Entry) → get_or ds i d ≡ e) → AreSound g (es ++ ds) → AreSound g ((es ++ e ∷ []) ++ remove ds i)
sound_move g es ds i e below here sound =
    let size = length-append es ds in
    let left : All (IsEntry g.data_pages) es = λ k d lt. subst (IsEntry g.data_pages) (get_or_append_left es ds d k lt) (sound.each k d (omega (arith, size, lt))) in
    let right : All (IsEntry g.data_pages) ds = λ k d lt. subst (IsEntry g.data_pages) (get_or-append-add es ds k d) (sound.each (length es + k) d (omega (arith, size, lt))) in
    record {
      room = omega (arith, sound.room, size, length-append (es ++ e ∷ []) (remove ds i), length_push es e, length-remove ds i below);
      each = All-append (IsEntry g.data_pages) (es ++ e ∷ []) (remove ds i) (All-push (IsEntry g.data_pages) es e left (subst (IsEntry g.data_pages) (here e) (right i e below)))
          (All-append (IsEntry g.data_pages) (take i ds) (drop (suc i) ds) (All-take (IsEntry g.data_pages) i ds right) (All-drop (IsEntry g.data_pages) (suc i) ds right));
      together = pairs_move MayStandTogether together_back es ds i e below here sound.together;
    }

-- the same pages are taken by entries in another order
pooled_as : (xs ys : List Entry) (flags : List Bool) (count : ℕ) → ((page : ℕ) → IsChained xs page ↔ IsChained ys page) → page_sum xs ≡ page_sum ys → IsPooled xs flags count → IsPooled ys flags count
pooled_as xs ys flags count same sum pooled =
    record {
      size = pooled.size;
      taken = λ page. ((λ is. (same page).0 ((pooled.taken page).0 is)), (λ chained. (pooled.taken page).1 ((same page).1 chained)));
      free = omega (arith, sum, pooled.free);
    }

any_move : {X : Type 0} (P : X → Type 0) (es first others : List X) (e : X) → Any P ((es ++ first) ++ e ∷ others) ↔ Any P ((es ++ e ∷ []) ++ (first ++ others))
any_move P es first others e = (
  (λ any. elim (any_split P (es ++ first) (e ∷ others) any) [
    | inl left ↦ elim (any_split P es first left) [
      | inl a ↦ any_left P (es ++ e ∷ []) (first ++ others) (any_left P es (e ∷ []) a)
      | inr b ↦ any_right P (es ++ e ∷ []) (first ++ others) (any_left P first others b)
    ]
    | inr right ↦ elim (any_split P (e ∷ []) others right) [
      | inl here ↦ any_left P (es ++ e ∷ []) (first ++ others) (any_right P es (e ∷ []) here)
      | inr b ↦ any_right P (es ++ e ∷ []) (first ++ others) (any_right P first others b)
    ]
  ]),
  (λ any. elim (any_split P (es ++ e ∷ []) (first ++ others) any) [
    | inl left ↦ elim (any_split P es (e ∷ []) left) [
      | inl a ↦ any_left P (es ++ first) (e ∷ others) (any_left P es first a)
      | inr here ↦ any_right P (es ++ first) (e ∷ others) (any_left P (e ∷ []) others here)
    ]
    | inr right ↦ elim (any_split P first others right) [
      | inl a ↦ any_left P (es ++ first) (e ∷ others) (any_right P es first a)
      | inr b ↦ any_right P (es ++ first) (e ∷ others) (any_right P (e ∷ []) others b)
    ]
  ]),
)

pub pooled_move : (es ds : List Entry) (i : ℕ) (e : Entry) (flags : List Bool) (count : ℕ) → i < length ds → ((d : Entry) → get_or ds i d ≡ e) → IsPooled (es ++ ds) flags count → IsPooled ((es ++ e ∷ []) ++ remove ds i) flags count
pooled_move es ds i e flags count below here pooled =
    let first : List Entry = take i ds in
    let others : List Entry = drop (suc i) ds in
    let pages : Entry → ℕ = λ entry. length entry.pages in
    pooled_as ((es ++ first) ++ e ∷ others) ((es ++ e ∷ []) ++ (first ++ others)) flags count
    (λ page. any_move (λ (entry : Entry). Contains entry.pages page) es first others e)
    (omega (arith, sum_by-append pages (es ++ first) (e ∷ others), sum_by-append pages es first, sum_by-cons pages e others, sum_by-append pages (es ++ e ∷ []) (first ++ others), sum_by_push pages es e, sum_by-append pages first others))
    (subst (λ (l : List Entry). IsPooled l flags count) (split_at es ds i e below here) pooled)

-- the fields after a draft's entry has come to the stock
pub landed_fields : (t now : TableView) (ds left : List Entry) (i : ℕ) (e : Entry) (flags : List Bool) (spare noted : Vec ℕ Global) (broken : Bool) → AreBlobs t ds flags spare broken → i < length ds → ((d : Entry) → get_or ds i d ≡ e) → now ≡ committed t (Some e) [] → left ≡ remove ds i → vec_capacity spare ≤ vec_capacity noted → AreBlobs now left flags noted broken
landed_fields t now ds left i e flags spare noted broken are below here now_is left_is room =
    let es : List Entry = t.entries in
    let after : TableView = committed t (Some e) [] in
    let same : (es ++ e ∷ []) ++ remove ds i ≡ after.entries ++ remove ds i = ap (λ (l : List Entry). (l ++ e ∷ []) ++ remove ds i) (sym (without_none es)) in
    let there : AreBlobs after (remove ds i) flags noted broken = record {
      limits = are.limits;
      sound = subst (λ (l : List Entry). AreSound t.geometry l) same (sound_move t.geometry es ds i e below here are.sound);
      pool = subst (λ (l : List Entry). IsPooled l flags t.geometry.data_pages) same (pooled_move es ds i e flags t.geometry.data_pages below here are.pool);
      noted = λ whole. omega (arith, are.noted whole, room);
      flag = are.flag;
    } in
    subst (λ (v : TableView). AreBlobs v left flags noted broken) (sym now_is)
    (subst (λ (l : List Entry). AreBlobs after l flags noted broken) (sym left_is) there)

-- the fields after a write has failed
pub failed_fields : (t now : TableView) (ds left : List Entry) (flags : List Bool) (spare noted : Vec ℕ Global) (broken : Bool) → AreBlobs t ds flags spare broken → now ≡ with_flag now.broken t → left ≡ ds → AreBlobs now left flags noted true
failed_fields t now ds left flags spare noted broken are now_is left_is =
    let there : AreBlobs (with_flag now.broken t) ds flags noted true = record {
      limits = are.limits;
      sound = are.sound;
      pool = are.pool;
      noted = λ whole. absurd (cc whole);
      flag = λ is. refl;
    } in
    subst (λ (v : TableView). AreBlobs v left flags noted true) (sym now_is)
    (subst (λ (l : List Entry). AreBlobs (with_flag now.broken t) l flags noted true) (sym left_is) there)

-- an entry behind the stock may come to it
pub behind_comes : (g : Geometry) (entries : List Entry) (entry : Entry) → IsBehind g entries entry → MayCome g entries entry
behind_comes g entries entry behind =
    record {
      entry = behind.is;
      fresh = λ k d below. (behind.together k d below).roots;
      free = λ k d below chained.
          let page : ℕ = get_or entry.pages k d in
          let other : Entry = chained.1 in
          let apart = subst (λ (o : Entry). MayStandTogether o entry) chained.3 (behind.together chained.0 other chained.2) in
          apart.chains page chained.4 (k, below, get_or_default entry.pages k page d below);
    }

abbrev pub view_of : TableView → List Entry → Bool → BlobsView
view_of t drafts broken = record { table = t; drafts = drafts; broken = broken }

pub same_view : (t s : TableView) (a b : List Entry) (broken : Bool) → t ≡ s → a ≡ b → view_of t a broken ≡ view_of s b broken
same_view t s a b broken table drafts = ap (λ (x : TableView). view_of x a broken) table ∙ ap (λ (l : List Entry). view_of s l broken) drafts

-- what is seen after a write has failed
pub failed_view : (v : BlobsView) (t now : TableView) (ds left : List Entry) (broken : Bool) → view_of t ds broken ≡ v → now ≡ with_flag now.broken t → left ≡ ds → view_of now left true ≡ with_failed now.broken v
failed_view v t now ds left broken view now_is left_is =
    same_view now (with_flag now.broken t) left ds true now_is left_is ∙ ap (with_failed now.broken) view

-- what an entry's landing makes of the images, and what it leaves
abbrev pub LandMoments : Option Past → Option Past → Option (List ℕ) → TableView → Entry → Type 0
LandMoments old new page t e =
    (blob : List ℕ) (contents : Root → List ℕ) → length blob ≡ e.len → page ≡ open_page blob → merkle_root blob ≡ e.root → contents e.root ≡ blob
    → AreWritten old (data_start t.geometry) e.pages blob (e.len / 4096) → Stores old t contents
    → AtEach old new (λ image. HasBlobs t contents image ⊎ HasBlobs (committed t (Some e) []) contents image)

abbrev pub LandStores : Option Past → Option Past → Option (List ℕ) → TableView → TableView → Entry → Type 0
LandStores old new page now t e =
    (blob : List ℕ) (contents : Root → List ℕ) → length blob ≡ e.len → page ≡ open_page blob → merkle_root blob ≡ e.root → contents e.root ≡ blob
    → AreWritten old (data_start t.geometry) e.pages blob (e.len / 4096) → Stores old t contents → Stores new now contents

pub moments_as : (old new : Option Past) (page : Option (List ℕ)) (t s : TableView) (e entry : Entry) → t ≡ s → e ≡ entry → LandMoments old new page t e → LandMoments old new page s entry
moments_as old new page t s e entry table is moments =
    subst (λ (x : TableView). LandMoments old new page x entry) table (subst (λ (o : Entry). LandMoments old new page t o) is moments)

pub land_stores_as : (old new : Option Past) (page : Option (List ℕ)) (now t s : TableView) (e entry : Entry) → t ≡ s → e ≡ entry → LandStores old new page now t e → LandStores old new page now s entry
land_stores_as old new page now t s e entry table is stores =
    subst (λ (x : TableView). LandStores old new page now x entry) table (subst (λ (o : Entry). LandStores old new page now t o) is stores)

pub land_only_as : (old new : Option Past) (t s : TableView) (pages chain : List ℕ) → t ≡ s → pages ≡ chain → WritesOnly old new (λ n. IsOn (data_start t.geometry) pages n ⊎ IsCommitPage t n) → WritesOnly old new (λ n. IsOn (data_start s.geometry) chain n ⊎ IsCommitPage s n)
land_only_as old new t s pages chain table is only =
    subst (λ (x : TableView). WritesOnly old new (λ n. IsOn (data_start x.geometry) chain n ⊎ IsCommitPage x n)) table
    (subst (λ (l : List ℕ). WritesOnly old new (λ n. IsOn (data_start t.geometry) l n ⊎ IsCommitPage t n)) is only)
