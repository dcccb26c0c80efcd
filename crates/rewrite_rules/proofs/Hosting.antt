-- Pairs of a host and its repository, of which one has another repository.
use Rattle.std.proofs.Common.{◌≡◌, ◌≢◌, ℕ, zero, suc, ◌+◌, ◌<◌, Bool, true, false, List, [], ◌∷◌, length, get_or, set, All, Option, Some, None, inl, inr, refl, sym, ap, ◌∙◌, arith}
use Rattle.std.specs.Prelude.{find}
use Rattle.std.specs.Str.{bytes_eq}
use Rattle.std.proofs.lemmas.Bool.{cases_Bool, true≢false}
use Rattle.std.proofs.lemmas.List.{length-set}
use Rattle.std.proofs.lemmas.List.Elements.{All-nil, All-cons, All-head, All-tail}
use Rattle.std.proofs.lemmas.Slice.Eq.{bytes_eq-Decides}
use Rattle.rewrite_rules.specs.declared.hosts.HostRepo.{HostRepo}
use Rattle.rewrite_rules.specs.Hosts.{AreDistinct, has_host, with_other, with_repo_at}

module _ {R : Type 0} where
  pub set_is : (pairs : List (HostRepo R)) (place : ℕ) (pair : HostRepo R) (repo : R) → place < length pairs → pair ≡ get_or pairs place pair → set pairs place (with_other pair repo) ≡ with_repo_at pairs place repo
  set_is [] place pair repo lt is = absurd (omega arith)
  set_is (p ∷ pairs) zero pair repo lt is = ap (λ (x : HostRepo R). with_other x repo ∷ pairs) is
  set_is (p ∷ pairs) (suc place) pair repo lt is = ap (λ (rest : List (HostRepo R)). p ∷ rest) (set_is pairs place pair repo (omega arith) is)

  -- each pair keeps its host
  same_host : (pairs : List (HostRepo R)) (place k : ℕ) (pair d : HostRepo R) (repo : R) → place < length pairs → pair ≡ get_or pairs place pair → (get_or (set pairs place (with_other pair repo)) k d).host ≡ (get_or pairs k d).host
  same_host [] place k pair d repo lt is = absurd (omega arith)
  same_host (p ∷ pairs) zero zero pair d repo lt is = ap (λ (x : HostRepo R). x.host) is
  same_host (p ∷ pairs) zero (suc k) pair d repo lt is = refl
  same_host (p ∷ pairs) (suc place) zero pair d repo lt is = refl
  same_host (p ∷ pairs) (suc place) (suc k) pair d repo lt is = same_host pairs place k pair d repo (omega arith) is

  pub stays_distinct : (pairs : List (HostRepo R)) (place : ℕ) (pair : HostRepo R) (repo : R) → place < length pairs → pair ≡ get_or pairs place pair → AreDistinct pairs → AreDistinct (set pairs place (with_other pair repo))
  stays_distinct pairs place pair repo lt is apart i j d below within same =
      let inside : j < length pairs = omega (arith, length-set pairs place (with_other pair repo)) in
      apart i j d below inside (sym (same_host pairs place i pair d repo lt is) ∙ same ∙ same_host pairs place j pair d repo lt is)

  -- ---- whether a pair has the host

  pub all_others : (pairs : List (HostRepo R)) (host : List ℕ) → find (has_host host) pairs ≡ None → All (λ (pair : HostRepo R). pair.host ≢ host) pairs
  all_others [] host none = All-nil (λ (pair : HostRepo R). pair.host ≢ host)
  all_others (p ∷ pairs) host none =
      elim (cases_Bool (has_host host p)) [
        | inl on ↦ absurd (cc (rw on at none))
        | inr off ↦ All-cons (λ (pair : HostRepo R). pair.host ≢ host) p pairs (λ same. true≢false (sym ((bytes_eq-Decides p.host host).1 same) ∙ off)) (all_others pairs host (rw off at none))
      ]

  pub none_found : (pairs : List (HostRepo R)) (host : List ℕ) → All (λ (pair : HostRepo R). pair.host ≢ host) pairs → find (has_host host) pairs ≡ None
  none_found [] host others = refl
  none_found (p ∷ pairs) host others =
      elim (cases_Bool (has_host host p)) [
        | inl on ↦ absurd (All-head (λ (pair : HostRepo R). pair.host ≢ host) p pairs others ((bytes_eq-Decides p.host host).0 on))
        | inr off ↦ rw off (none_found pairs host (All-tail (λ (pair : HostRepo R). pair.host ≢ host) p pairs others))
      ]
