-- What two stations do.
use Rattle.std.proofs.Common.{◌≡◌, ◌≢◌, ℕ, ◌<◌, List, [], ◌∷◌, ◌++◌, length, take, ap, ◌∙◌, subst, sym, refl, arith, Some, IfSome, slice_index_or, slice_get, inl, length-append}
use Rattle.std.proofs.Math.Seq.{take-append_seam}
use Rattle.std.specs.List.{All}
use Rattle.std.specs.Prelude.{replicate}
use Rattle.turn_lock.specs.Sitting.{Sitting, Lock, Has, first_seat, mine}
use Rattle.turn_lock.specs.Entries.{entries_by}
use Rattle.threads_tests.specs.declared.depot.Put.{Put}
use Rattle.threads_tests.specs.declared.stations.Station.{Station}
use Rattle.threads_tests.specs.Depot.{Stock, PutTimes, HasPut, Drafted, repeated}
use Rattle.threads_tests.specs.Stations.{Served}

-- a list that was written back whole
pub written : {A : Type 0} (n : ℕ) (xs ys : List A) → n ≡ length xs → take n (xs ++ ys) ≡ xs
written n xs ys e = subst (λ m. take m (xs ++ ys) ≡ xs) (sym e) (take-append_seam xs ys)

-- a list of two, taken from its end
pub two_of : {A : Type 0} (items rest none : List A) (x y : A) → items ≡ rest ++ y ∷ [] → rest ≡ none ++ x ∷ [] → length items ≡ 2 → items ≡ x ∷ y ∷ []
two_of items rest [] x y a b two = a ∙ ap (λ z. z ++ y ∷ []) b
two_of items rest (z ∷ zs) x y a b two =
    absurd (omega (arith, two, ap length a, ap length b, length-append rest (y ∷ []), length-append (z ∷ zs) (x ∷ [])))

pub both_of : {A : Type 0} (P : A → A → Type 0) (old new : List A) (a b x y : A) → old ≡ a ∷ b ∷ [] → new ≡ x ∷ y ∷ []
    → ((i : ℕ) (d : A) → i < length old → P (slice_index_or old i d) (slice_index_or new i d)) → P a x × P b y
both_of {A} P old new a b x y e f h =
    let h1 = subst (λ z. (i : ℕ) (d : A) → i < length z → P (slice_index_or z i d) (slice_index_or new i d)) e h in
    let h2 = subst (λ z. (i : ℕ) (d : A) → i < length (a ∷ b ∷ []) → P (slice_index_or (a ∷ b ∷ []) i d) (slice_index_or z i d)) f h1 in
    let two : length (a ∷ b ∷ []) ≡ 2 = refl in (h2 0 a (omega arith), h2 1 a (omega arith))

-- the seat of a station that has served
pub served_seat : {D : Type 0} (old new : Station D) (s t : Sitting (Stock D)) (n : ℕ) → old.seat ≡ Some s → new.seat ≡ Some t → new.count ≡ n → Served old new → PutTimes (replicate 4096 old.byte) n s t
served_seat old new s t n was is counts served =
    let a = subst (λ z. IfSome z (λ s. IfSome new.seat (PutTimes (replicate 4096 old.byte) new.count s))) was served.1 in
    let b = subst (λ z. IfSome z (PutTimes (replicate 4096 old.byte) new.count s)) is a in
    subst (λ m. PutTimes (replicate 4096 old.byte) m s t) counts b

abbrev by_lane : Put → ℕ
by_lane p = p.lane

-- two lanes of a lock over x, split off, served and joined
module _ {D : Type 0} (turn : Lock) (x : Stock D) (f f1 f2 one two : Sitting (Stock D)) (made : f ≡ first_seat turn x)
    (split1 : f1 ≡ record f { splits = 1 ∷ f.splits }) (new1 : one ≡ record (first_seat f.lock f.made) { lane = 1; seen = f.seen })
    (split2 : f2 ≡ record f1 { splits = 2 ∷ f1.splits }) (new2 : two ≡ record (first_seat f1.lock f1.made) { lane = 2; seen = f1.seen }) where
  abbrev S : Type 0
  S = Sitting (Stock D)

  is1 : f1 ≡ record (first_seat turn x) { splits = 1 ∷ [] }
  is1 = split1 ∙ ap {A = S} (λ z. record z { splits = 1 ∷ z.splits }) made

  pub is2 : f2 ≡ record (first_seat turn x) { splits = 2 ∷ 1 ∷ [] }
  is2 = split2 ∙ ap {A = S} (λ z. record z { splits = 2 ∷ z.splits }) is1

  pub one_is : one ≡ record (first_seat turn x) { lane = 1 }
  one_is = new1 ∙ ap {A = S} (λ z. record (first_seat z.lock z.made) { lane = 1; seen = z.seen }) made

  pub two_is : two ≡ record (first_seat turn x) { lane = 2 }
  two_is = new2 ∙ ap {A = S} (λ z. record (first_seat z.lock z.made) { lane = 2; seen = z.seen }) is1

  module _ (pa pb : List ℕ) (n m : ℕ) (one' two' f3 f4 : Sitting (Stock D)) (p : PutTimes pa n one one') (q : PutTimes pb m two two') where
    pub one_then : one' ≡ record (first_seat turn x) { lane = 1; seen = one'.seen; kept = one'.kept }
    one_then = p.seat ∙ ap {A = S} (λ z. record z { seen = one'.seen; kept = one'.kept }) one_is

    pub two_then : two' ≡ record (first_seat turn x) { lane = 2; seen = two'.seen; kept = two'.kept }
    two_then = q.seat ∙ ap {A = S} (λ z. record z { seen = two'.seen; kept = two'.kept }) two_is

    pub first_join : (f2.lock ≡ turn) × (one'.lock ≡ turn)
    first_join = (ap (λ z. z.lock) is2, ap (λ z. z.lock) one_then)

    module _ (join1 : f3 ≡ record f2 { seen = f3.seen; ended = one'.lane ∷ f2.ended; remains = (one'.lane, one'.kept) ∷ f2.remains }) where
      pub is3 : f3 ≡ record (first_seat turn x) { seen = f3.seen; splits = 2 ∷ 1 ∷ []; ended = 1 ∷ []; remains = (1, one'.kept) ∷ [] }
      is3 = join1 ∙ ap {A = S × ℕ} (λ z. record z.0 { seen = f3.seen; ended = z.1 ∷ z.0.ended; remains = (z.1, one'.kept) ∷ z.0.remains })
          (λ i. (is2 i, ap (λ z. z.lane) one_then i))

      pub second_join : (f3.lock ≡ turn) × (two'.lock ≡ turn)
      second_join = (ap (λ z. z.lock) is3, ap (λ z. z.lock) two_then)

      module _ (join2 : f4 ≡ record f3 { seen = f4.seen; ended = two'.lane ∷ f3.ended; remains = (two'.lane, two'.kept) ∷ f3.remains }) where
        pub is4 : f4 ≡ record (first_seat turn x) { seen = f4.seen; splits = 2 ∷ 1 ∷ []; ended = 2 ∷ 1 ∷ []; remains = (2, two'.kept) ∷ (1, one'.kept) ∷ [] }
        is4 = join2 ∙ ap {A = S × ℕ} (λ z. record z.0 { seen = f4.seen; ended = z.1 ∷ z.0.ended; remains = (z.1, two'.kept) ∷ z.0.remains })
            (λ i. (is3 i, ap (λ z. z.lane) two_then i))

        pub all_joined : (l : ℕ) → Has f4.splits l → Has f4.ended l
        all_joined l h = subst (λ z. Has z l) (ap (λ z. z.splits) is4 ∙ sym (ap (λ z. z.ended) is4)) h

        -- and closed, with the value r
        module _ (r : Stock D) (list : r.puts ≡ f4.seen.puts) (empty : x.puts ≡ [])
            (joined1 : entries_by by_lane one'.lane f3.seen.puts ≡ mine (λ (s : Stock D). s.puts) by_lane one') (joined2 : entries_by by_lane two'.lane f4.seen.puts ≡ mine (λ (s : Stock D). s.puts) by_lane two')
            (ended2 : (l : ℕ) → Has f3.ended l → l ≢ two'.lane → entries_by by_lane l f3.seen.puts ≡ entries_by by_lane l f4.seen.puts)
            (rem : All (λ (z : ℕ × Stock D). slice_get z.1.drafts z.0 ≡ slice_get r.drafts z.0) f4.remains) where
          lane1 : one'.lane ≡ 1
          lane1 = ap (λ z. z.lane) one_then

          lane2 : two'.lane ≡ 2
          lane2 = ap (λ z. z.lane) two_then

          mine1 : mine (λ (s : Stock D). s.puts) by_lane one ≡ []
          mine1 = ap (λ z. mine (λ (s : Stock D). s.puts) by_lane z) one_is ∙ ap (λ z. entries_by by_lane 1 z) empty

          mine2 : mine (λ (s : Stock D). s.puts) by_lane two ≡ []
          mine2 = ap (λ z. mine (λ (s : Stock D). s.puts) by_lane z) two_is ∙ ap (λ z. entries_by by_lane 2 z) empty

          before : entries_by by_lane 1 f3.seen.puts ≡ entries_by by_lane 1 f4.seen.puts
          before = ended2 1 (subst (λ z. Has z 1) (sym (ap (λ z. z.ended) is3)) (inl refl)) (λ e. let two : 1 ≡ 2 = e ∙ lane2 in absurd (omega arith))

          count1 : length (entries_by by_lane 1 r.puts) ≡ n
          count1 =
              let a = ap (λ z. length (entries_by by_lane 1 z)) list in let b = ap length before in
              let d = ap length (subst (λ l. entries_by by_lane l f3.seen.puts ≡ mine (λ (s : Stock D). s.puts) by_lane one') lane1 joined1) in
              let e = p.count in let h = ap length mine1 in omega arith

          count2 : length (entries_by by_lane 2 r.puts) ≡ m
          count2 =
              let a = ap (λ z. length (entries_by by_lane 2 z)) list in
              let d = ap length (subst (λ l. entries_by by_lane l f4.seen.puts ≡ mine (λ (s : Stock D). s.puts) by_lane two') lane2 joined2) in
              let e = q.count in let h = ap length mine2 in omega arith

          held : All (λ (z : ℕ × Stock D). slice_get z.1.drafts z.0 ≡ slice_get r.drafts z.0) ((2, two'.kept) ∷ (1, one'.kept) ∷ [])
          held = subst (All (λ (z : ℕ × Stock D). slice_get z.1.drafts z.0 ≡ slice_get r.drafts z.0)) (ap (λ z. z.remains) is4) rem

          pub put1 : Drafted (slice_get x.drafts 1) [] → HasPut r 1 pa n
          put1 begun = record {
            count = count1;
            draft = subst (λ z. Drafted z (repeated n pa)) (held 1 (1, x) (omega arith))
                (subst (λ l. Drafted (slice_get one'.kept.drafts l) (repeated n pa)) lane1
                (p.draft [] (subst (λ (z : S). Drafted (slice_get z.kept.drafts z.lane) []) (sym one_is) begun)));
          }

          pub put2 : Drafted (slice_get x.drafts 2) [] → HasPut r 2 pb m
          put2 begun = record {
            count = count2;
            draft = subst (λ z. Drafted z (repeated m pb)) (held 0 (1, x) (omega arith))
                (subst (λ l. Drafted (slice_get two'.kept.drafts l) (repeated m pb)) lane2
                (q.draft [] (subst (λ (z : S). Drafted (slice_get z.kept.drafts z.lane) []) (sym two_is) begun)));
          }
