-- A line asks for the request that it spells.
use Rattle.std.proofs.Common.{◌≡◌, ◌≢◌, ℕ, ◌+◌, ◌-◌, Bool, true, false, ◌&&◌, cond, eqb, List, [], ◌∷◌, ◌++◌, inl, inr, All, Option, Some, None, Result, Ok, Err, refl, sym, ap, subst, ◌∙◌, arith}
use Rattle.std.specs.Prelude.{IsUtf8, ◌↔◌}
use Rattle.std.specs.Str.{is_utf8}
use Rattle.std.proofs.lemmas.Bool.{ne_eqb, and_parts}
use Rattle.std.proofs.lemmas.Bool.Decides.{nat_tests}
use Rattle.std.proofs.lemmas.Str.{IsUtf8-from_is_utf8, is_utf8-from_IsUtf8}
use Rattle.std.proofs.lemmas.List.Elements.{All-nil, All-cons}
use Rattle.pkg_names.specs.Text.{space, hash_sign, HasNo, is_between}
use Rattle.package_url.specs.Reading.{first_cut, IsCut}
use Rattle.package_url.proofs.Places.{cut_there, is_cut}
use Rattle.script_lang.specs.declared.request.Ask.{Ask}
use Rattle.script_lang.specs.declared.request.LineFault.{LineFault}
use Rattle.script_lang.specs.declared.request.LineFault.TheVariants as faults
use Rattle.script_lang.specs.declared.request.Request.{Request}
use Rattle.script_lang.specs.Requests.{lane_in, one_digit, two_digits, ask_in, is_passed_over, ask_judged, behind_lane, request_in, line_in}
use Rattle.script_lang.specs.Spelling.{Asks}
use Rattle.script_lang.proofs.AsksSpelled.{UrlsAreSpelled, ask_spells, ask_there}

-- ---- the text of a lane

record IsPlain (text : List ℕ) : Type 0 where
  pub spaceless : HasNo space text
  pub begins : (rest : List ℕ) → is_passed_over (text ++ rest) ≡ false

digit : (c : ℕ) → is_between 48 57 c ≡ true → (c ≢ space) × (c ≢ hash_sign)
digit c on = (λ e. grind (arith, nat_tests), λ e. grind (arith, nat_tests))

plain_one : (c lane : ℕ) (test : Bool) → is_between 49 57 c ≡ test → cond test (Some (c - 48)) None ≡ Some lane → IsPlain (c ∷ [])
plain_one c lane false is e = absurd cc
plain_one c lane true is e =
    let one : is_between 48 57 c ≡ true = grind (arith, nat_tests) in
    record { spaceless = All-cons (λ x. x ≢ space) c [] (digit c one).0 (All-nil (λ x. x ≢ space)); begins = λ rest. ne_eqb c hash_sign (digit c one).1 }

plain_two : (c d lane : ℕ) (test : Bool) → ((eqb c 49) && is_between 48 54 d) ≡ test → cond test (Some (10 + (d - 48))) None ≡ Some lane → IsPlain (c ∷ d ∷ [])
plain_two c d lane false is e = absurd cc
plain_two c d lane true is e =
    let one : is_between 48 57 c ≡ true = grind (arith, nat_tests) in
    let two : is_between 48 57 d ≡ true = grind (arith, nat_tests) in
    record { spaceless = All-cons (λ x. x ≢ space) c (d ∷ []) (digit c one).0 (All-cons (λ x. x ≢ space) d [] (digit d two).0 (All-nil (λ x. x ≢ space))); begins = λ rest. ne_eqb c hash_sign (digit c one).1 }

plain : (text : List ℕ) (lane : ℕ) → lane_in text ≡ Some lane → IsPlain text
plain [] lane e = absurd cc
plain (c ∷ []) lane e = plain_one c lane (is_between 49 57 c) refl e
plain (c ∷ d ∷ []) lane e = plain_two c d lane ((eqb c 49) && is_between 48 54 d) refl e
plain (c ∷ d ∷ x ∷ rest) lane e = absurd cc

module _ (spelled : UrlsAreSpelled) where
  judged_is : (number : ℕ) (line word text : List ℕ) (lane : ℕ) (found : Result Ask LineFault) (request : Request) → line ≡ word ++ space ∷ text → lane_in word ≡ Some lane → ask_in text ≡ found
      → ask_judged number lane found ≡ Ok (Some request) → (request.line ≡ number) × Asks line request
  judged_is number line word text lane (Err fault) request whole at read e = absurd cc
  judged_is number line word text lane (Ok ask) request whole at read e =
      let made : Request = record { line = number; lane = lane; ask = ask } in
      let same : made ≡ request = cc in
      subst (λ (r : Request). (r.line ≡ number) × Asks line r) same (refl, record { lane_text = word; text = text; written = whole; lane = at; ask = ask_spells spelled text ask read })

  behind_is : (number : ℕ) (line word : List ℕ) (after : Option (List ℕ)) (lane : Option ℕ) (request : Request) → IsCut space line word after → lane_in word ≡ lane → behind_lane number lane after ≡ Ok (Some request)
      → (request.line ≡ number) × Asks line request
  behind_is number line word after None request cut at e = absurd cc
  behind_is number line word None (Some lane) request cut at e = absurd cc
  behind_is number line word (Some text) (Some lane) request cut at e = judged_is number line word text lane (ask_in text) request cut.1 at refl e

  line_is : (number : ℕ) (line : List ℕ) (text passed : Bool) (request : Request) → is_utf8 line ≡ text → is_passed_over line ≡ passed
      → cond text (cond passed (Ok None) (request_in number line)) (Err faults.Encoding) ≡ Ok (Some request) → IsUtf8 line × (request.line ≡ number) × Asks line request
  line_is number line false passed request is not e = absurd cc
  line_is number line true true request is not e = absurd cc
  line_is number line true false request is not e =
      let asked = behind_is number line (first_cut space line).0 (first_cut space line).1 (lane_in (first_cut space line).0) request (is_cut space line) refl e in
      (IsUtf8-from_is_utf8 line is, asked.0, asked.1)

  line_there : (number : ℕ) (line : List ℕ) (request : Request) → IsUtf8 line → request.line ≡ number → Asks line request → line_in number line ≡ Ok (Some request)
  line_there number line request is at asks =
      let lane = plain asks.lane_text request.lane asks.lane in
      let passed : is_passed_over line ≡ false = ap is_passed_over asks.written ∙ lane.begins (space ∷ asks.text) in
      let cut = ap (first_cut space) asks.written ∙ cut_there space asks.lane_text asks.text lane.spaceless in
      rw (is_utf8-from_IsUtf8 line is, passed, cut, asks.lane, ask_there spelled asks.text request.ask asks.ask, sym at) refl

  pub line_spells : (number : ℕ) (line : List ℕ) (request : Request) → (line_in number line ≡ Ok (Some request)) ↔ (IsUtf8 line × (request.line ≡ number) × Asks line request)
  line_spells number line request = (λ e. line_is number line (is_utf8 line) (is_passed_over line) request refl refl e, λ h. line_there number line request h.0 h.1 h.2)
