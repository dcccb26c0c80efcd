-- The lines of a text, one after the other.
use Rattle.std.proofs.Common.{◌≡◌, ℕ, ◌+◌, List, [], ◌∷◌, ◌++◌, Some, None, Ok, inl, inr, length, sym, ap, subst, ◌∙◌, append_assoc, arith}
use Rattle.std.proofs.lemmas.List.{append-nil, length-append}
use Rattle.pkg_names.specs.Text.{lines_of}
use Rattle.script_lang.specs.declared.request.Request.{Request}
use Rattle.script_lang.specs.Requests.{line_in}
use Rattle.script_lang.specs.Scripts.{AskFor}

further : (number count : ℕ) (ys : List (List ℕ)) (qs : List Request) → AskFor (number + 1 + count) ys qs → AskFor (number + (1 + count)) ys qs
further number count ys qs b = subst (λ (n : ℕ). AskFor n ys qs) (omega arith) b

pub AskFor-append : (number : ℕ) (xs ys : List (List ℕ)) (ps qs : List Request) → AskFor number xs ps → AskFor (number + length xs) ys qs → AskFor number (xs ++ ys) (ps ++ qs)
AskFor-append number [] ys [] qs a b = subst (λ (n : ℕ). AskFor n ys qs) (omega arith) b
AskFor-append number [] ys (p ∷ ps) qs a b = absurd a
AskFor-append number (x ∷ xs) ys [] qs (inl a) b = inl (a.0, AskFor-append (number + 1) xs ys [] qs a.1 (subst (λ (n : ℕ). AskFor n ys qs) (omega arith) b))
AskFor-append number (x ∷ xs) ys [] qs (inr a) b = absurd a
AskFor-append number (x ∷ xs) ys (p ∷ ps) qs (inl a) b = inl (a.0, AskFor-append (number + 1) xs ys (p ∷ ps) qs a.1 (subst (λ (n : ℕ). AskFor n ys qs) (omega arith) b))
AskFor-append number (x ∷ xs) ys (p ∷ ps) qs (inr a) b = inr (a.0, AskFor-append (number + 1) xs ys ps qs a.1 (subst (λ (n : ℕ). AskFor n ys qs) (omega arith) b))

-- where a reader stands: the lines behind it asked for these requests
pub record StandsAt (text rest : List ℕ) (at : ℕ) (requests : List Request) : Type 0 where
  pub before : List (List ℕ)
  pub lines : lines_of text ≡ before ++ lines_of rest
  pub number : at ≡ length before
  pub asked : AskFor 1 before requests

module _ (text rest line after : List ℕ) (at : ℕ) (requests : List Request) (stands : StandsAt text rest at requests) (first : lines_of rest ≡ line ∷ lines_of after) where
  split : lines_of text ≡ (stands.before ++ line ∷ []) ++ lines_of after
  split = stands.lines ∙ ap (λ (ls : List (List ℕ)). stands.before ++ ls) first ∙ sym (append_assoc stands.before (line ∷ []) (lines_of after))

  numbered : at + 1 ≡ length (stands.before ++ line ∷ [])
  numbered = omega (arith, stands.number, length-append stands.before (line ∷ []))

  here : (more : List Request) → AskFor (at + 1) (line ∷ []) more → AskFor 1 (stands.before ++ line ∷ []) (requests ++ more)
  here more asked = AskFor-append 1 stands.before (line ∷ []) requests more stands.asked (subst (λ (n : ℕ). AskFor n (line ∷ []) more) (omega (arith, stands.number)) asked)

  pub past_skipped : line_in (at + 1) line ≡ Ok None → StandsAt text after (at + 1) requests
  past_skipped skipped = record { before = stands.before ++ line ∷ []; lines = split; number = numbered; asked = subst (AskFor 1 (stands.before ++ line ∷ [])) (append-nil requests) (here [] (inl (skipped, tt))) }

  pub past_asked : (request : Request) → line_in (at + 1) line ≡ Ok (Some request) → StandsAt text after (at + 1) (requests ++ request ∷ [])
  past_asked request asks = record { before = stands.before ++ line ∷ []; lines = split; number = numbered; asked = here (request ∷ []) (inr (asks, tt)) }
