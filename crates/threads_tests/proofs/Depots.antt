-- What puts to a depot do.
use Rattle.std.proofs.Common.{◌≡◌, ◌≢◌, ◌⊎◌, ℕ, zero, suc, ◌+◌, List, [], ◌∷◌, ◌++◌, length, set, refl, ap, ◌∙◌, subst, sym, arith, slice_get, Option, Some, None, length-append}
use Rattle.std.proofs.lemmas.List.{append_assoc}
use Rattle.turn_lock.specs.Rule.{TakesTurn}
use Rattle.turn_lock.specs.Sitting.{Sitting, mine}
use Rattle.pkg_merkle.specs.Hasher.{StandsFor}
use Rattle.pkg_merkle.specs.declared.hasher.Hasher.{Hasher}
use Rattle.threads_tests.specs.declared.depot.Put.{Put}
use Rattle.threads_tests.specs.Depot.{Stock, AreNumbered, Drafted, PutTimes, depot_log, repeated}

pub get_else : {A : Type 0} (xs : List A) (i l : ℕ) (y : A) → l ≢ i → slice_get (set xs i y) l ≡ slice_get xs l
get_else [] i l y ne = refl
get_else (x ∷ xs) zero zero y ne = absurd (ne refl)
get_else (x ∷ xs) zero (suc l) y ne = refl
get_else (x ∷ xs) (suc i) zero y ne = refl
get_else (x ∷ xs) (suc i) (suc l) y ne = get_else xs i l y (λ e. ne (ap suc e))

pub numbered_more : (n : ℕ) (ps : List Put) (p : Put) → AreNumbered n ps → p.number ≡ n + length ps → AreNumbered n (ps ++ p ∷ [])
numbered_more n [] p all is = (omega (arith, is), tt)
numbered_more n (q ∷ ps) p all is = (all.0, numbered_more (n + 1) ps p all.1 (omega (arith, is)))

-- with one entry more, the lane's, and no other draft changed
pub takes : {D : Type 0} (lane : ℕ) (s t : Stock D) → t.begun ≡ s.begun → ((l : ℕ) → l ≢ lane → slice_get t.drafts l ≡ slice_get s.drafts l)
    → ((t.puts ≡ s.puts) ⊎ ((p : Put) × (p.lane ≡ lane) × (t.puts ≡ s.puts ++ p ∷ []))) → TakesTurn depot_log lane s t
takes lane s t begun drafts puts = record { list = puts; origin = begun; others = drafts }

abbrev some_or : {A : Type 0} → A → Option A → A
some_or d (Some x) = x
some_or d None = d

get_same : {A : Type 0} (xs : List A) (i : ℕ) (x y : A) → slice_get xs i ≡ Some x → slice_get (set xs i y) i ≡ Some y
get_same [] i x y at = absurd (cc)
get_same (z ∷ xs) zero x y at = refl
get_same (z ∷ xs) (suc i) x y at = get_same xs i x y at

set_same : {A : Type 0} (xs : List A) (i : ℕ) (x : A) → slice_get xs i ≡ Some x → set xs i x ≡ xs
set_same [] i x at = refl
set_same (z ∷ xs) zero x at = ap (λ y. y ∷ xs) (ap (some_or x) (sym at))
set_same (z ∷ xs) (suc i) x at = ap (λ ys. z ∷ ys) (set_same xs i x at)

pub unfed : (hs : List Hasher) (lane : ℕ) (h k : Hasher) → slice_get hs lane ≡ Some h → k ≡ h → set hs lane k ≡ hs
unfed hs lane h k at same = ap (λ z. set hs lane z) same ∙ set_same hs lane h at

-- a draft that is fed a piece
pub feeds : (hs : List Hasher) (lane : ℕ) (h k : Hasher) (piece : List ℕ) → slice_get hs lane ≡ Some h → ((blob : List ℕ) → StandsFor h blob → StandsFor k (blob ++ piece))
    → (blob : List ℕ) → Drafted (slice_get hs lane) blob → Drafted (slice_get (set hs lane k) lane) (blob ++ piece)
feeds hs lane h k piece at grows blob d = (k, get_same hs lane h k at, grows blob (subst (λ z. StandsFor z blob) (ap (some_or h) (sym d.1 ∙ at)) d.2))

repeated_more : (n : ℕ) (bytes : List ℕ) → repeated (n + 1) bytes ≡ repeated n bytes ++ bytes
repeated_more n bytes = let same : suc n ≡ n + 1 = omega arith in subst (λ m. repeated m bytes ≡ repeated n bytes ++ bytes) same refl

nothing_more : (bytes : List ℕ) → bytes ++ [] ≡ bytes
nothing_more [] = refl
nothing_more (b ∷ bs) = ap (λ z. b ∷ z) (nothing_more bs)

module _ {D : Type 0} (piece : List ℕ) where
  pub puts_begin : (s : Sitting (Stock D)) → PutTimes piece 0 s s
  puts_begin s = record { seat = refl; count = omega arith; draft = λ blob d. subst (Drafted (slice_get s.kept.drafts s.lane)) (sym (nothing_more blob)) d }

  pub puts_then : (n : ℕ) (s t u : Sitting (Stock D)) → PutTimes piece n s t → PutTimes piece 1 t u → PutTimes piece (n + 1) s u
  puts_then n s t u p q = record {
    seat = q.seat ∙ ap {A = Sitting (Stock D)} (λ z. record z { seen = u.seen; kept = u.kept }) p.seat;
    count = let a = p.count in let b = q.count in omega arith;
    draft = λ blob d. subst (Drafted (slice_get u.kept.drafts u.lane))
        (append_assoc blob (repeated n piece) piece ∙ ap (λ z. blob ++ z) (sym (repeated_more n piece))) (q.draft (blob ++ repeated n piece) (p.draft blob d));
  }

  pub puts_rest : (n : ℕ) (s t u : Sitting (Stock D)) → PutTimes piece n s t → PutTimes piece 0 t u → PutTimes piece n s u
  puts_rest n s t u p q = record {
    seat = q.seat ∙ ap {A = Sitting (Stock D)} (λ z. record z { seen = u.seen; kept = u.kept }) p.seat;
    count = let a = p.count in let b = q.count in omega arith;
    draft = λ blob d. subst (Drafted (slice_get u.kept.drafts u.lane)) (nothing_more (blob ++ repeated n piece)) (q.draft (blob ++ repeated n piece) (p.draft blob d));
  }

-- a turn of the seat s, which left the value v
module _ {D : Type 0} (piece : List ℕ) (s t : Sitting (Stock D)) (v : Stock D) (is : t ≡ record s { seen = v; kept = v }) where
  seat_stays : t ≡ record s { seen = t.seen; kept = t.kept }
  seat_stays = subst (λ (z : Sitting (Stock D)). z ≡ record s { seen = z.seen; kept = z.kept }) (sym is) refl

  -- and added no entry
  pub put_none : mine (λ (x : Stock D). x.puts) (λ p. p.lane) t ≡ mine (λ (x : Stock D). x.puts) (λ p. p.lane) s
      → slice_get v.drafts s.lane ≡ slice_get s.kept.drafts s.lane → PutTimes piece 0 s t
  put_none same draft = record {
    seat = seat_stays;
    count = let n = ap length same in omega arith;
    draft = subst (λ (z : Sitting (Stock D)). (blob : List ℕ) → Drafted (slice_get s.kept.drafts s.lane) blob → Drafted (slice_get z.kept.drafts z.lane) (blob ++ [])) (sym is)
        (λ blob d. subst (λ z. Drafted z (blob ++ [])) (sym draft) (subst (Drafted (slice_get s.kept.drafts s.lane)) (sym (nothing_more blob)) d));
  }

  -- and put the piece
  pub put_once : (p : ℕ × Put) (old : Stock D) (lane : ℕ) → mine (λ (x : Stock D). x.puts) (λ p. p.lane) t ≡ mine (λ (x : Stock D). x.puts) (λ p. p.lane) s ++ p ∷ []
      → lane ≡ s.lane → slice_get old.drafts s.lane ≡ slice_get s.kept.drafts s.lane
      → ((blob : List ℕ) → Drafted (slice_get old.drafts lane) blob → Drafted (slice_get v.drafts lane) (blob ++ piece)) → PutTimes piece 1 s t
  put_once p old lane more mine_too was fed = record {
    seat = seat_stays;
    count = let n = ap length more in omega (arith, length-append (mine (λ (x : Stock D). x.puts) (λ p. p.lane) s) (p ∷ []));
    draft = subst (λ (z : Sitting (Stock D)). (blob : List ℕ) → Drafted (slice_get s.kept.drafts s.lane) blob → Drafted (slice_get z.kept.drafts z.lane) (blob ++ piece)) (sym is)
        (λ blob d. subst (λ l. (b : List ℕ) → Drafted (slice_get old.drafts l) b → Drafted (slice_get v.drafts l) (b ++ piece)) mine_too fed blob
        (subst (λ z. Drafted z blob) (sym was) d));
  }
