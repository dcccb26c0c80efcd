-- The greatest lane of requests that are looked at one after the other.
use Rattle.std.proofs.Common.{◌≡◌, ℕ, ◌≤◌, List, [], ◌∷◌, ◌++◌, ◌⊎◌, inl, inr, All, sym, ◌∙◌, arith}
use Rattle.std.specs.Prelude.{Contains}
use Rattle.std.proofs.lemmas.List.Elements.{All-weaker, All-append, All-cons, All-nil, Contains-append_left, Contains-push}
use Rattle.script_lang.specs.declared.request.Request.{Request}
use Rattle.script_lang.specs.Scripts.{IsGreatestLane}

pub one_more : (requests : List Request) (lane new : ℕ) (request : Request) → IsGreatestLane requests lane → lane ≤ new → request.lane ≤ new → (new ≡ lane) ⊎ (new ≡ request.lane)
    → IsGreatestLane (requests ++ request ∷ []) new
one_more requests lane new request is left right which = record {
  bound = All-append (λ (r : Request). r.lane ≤ new) requests (request ∷ []) (All-weaker (λ (r : Request). r.lane ≤ lane) (λ (r : Request). r.lane ≤ new) (λ r h. omega (arith, h, left)) requests is.bound)
      (All-cons (λ (r : Request). r.lane ≤ new) request [] right (All-nil (λ (r : Request). r.lane ≤ new)));
  met = met is.met which;
} where
  met : (lane ≡ 0) ⊎ ((r : Request) × Contains requests r × (r.lane ≡ lane)) → (new ≡ lane) ⊎ (new ≡ request.lane) → (new ≡ 0) ⊎ ((r : Request) × Contains (requests ++ request ∷ []) r × (r.lane ≡ new))
  met is (inr this) = inr (request, Contains-push requests request, sym this)
  met (inl none) (inl same) = inl (same ∙ none)
  met (inr h) (inl same) = inr (h.0, Contains-append_left requests (request ∷ []) h.0 h.1, h.2 ∙ sym same)
