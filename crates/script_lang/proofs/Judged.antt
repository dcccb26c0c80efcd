-- A text is a script, or it is refused, for one reason, and never both.
use Rattle.std.proofs.Common.{◌≡◌, ℕ, ◌+◌, ◌<◌, ◌≤◌, List, [], ◌∷◌, ◌++◌, ◌⊎◌, inl, inr, length, Option, Some, None, Result, Ok, Err, refl, sym, ap, subst, ◌∙◌, arith}
use Rattle.pkg_names.specs.Text.{lines_of}
use Rattle.script_lang.specs.declared.request.Request.{Request}
use Rattle.script_lang.specs.declared.request.LineFault.{LineFault}
use Rattle.script_lang.specs.declared.script.ScriptRefusal.{ScriptRefusal}
use Rattle.script_lang.specs.declared.script.ScriptRefusal.TheVariants.{TooLong, Line, TooMany, NoMemory}
use Rattle.script_lang.specs.declared.script.TheConstants.{REQUEST_LIMIT, SCRIPT_LIMIT}
use Rattle.script_lang.specs.Requests.{line_in}
use Rattle.script_lang.specs.Scripts.{AskFor, IsScript, IsFirstBad, HasFault, IsPastLimit, IsRefused}

-- a line is passed over, asks for one thing, or has one fault
skips_or_asks : (r : Result (Option Request) LineFault) (request : Request) → r ≡ Ok None → r ≡ Ok (Some request) → ⊥
skips_or_asks r request skips asks = cc

asks_one : (r : Result (Option Request) LineFault) (a b : Request) → r ≡ Ok (Some a) → r ≡ Ok (Some b) → a ≡ b
asks_one r a b h k = cc

-- ---- a script asks for one list

ask_once : (number : ℕ) (lines : List (List ℕ)) (requests others : List Request) → AskFor number lines requests → AskFor number lines others → requests ≡ others
ask_once number [] [] [] h k = refl
ask_once number [] (r ∷ requests) others h k = absurd h
ask_once number [] [] (o ∷ others) h k = absurd k
ask_once number (line ∷ lines) requests others (inl h) (inl k) = ask_once (number + 1) lines requests others h.1 k.1
ask_once number (line ∷ lines) requests (o ∷ others) (inl h) (inr k) = absurd (skips_or_asks (line_in number line) o h.0 k.0)
ask_once number (line ∷ lines) requests [] (inl h) (inr k) = absurd k
ask_once number (line ∷ lines) (r ∷ requests) others (inr h) (inl k) = absurd (skips_or_asks (line_in number line) r k.0 h.0)
ask_once number (line ∷ lines) [] others (inr h) (inl k) = absurd h
ask_once number (line ∷ lines) (r ∷ requests) (o ∷ others) (inr h) (inr k) =
    ap (λ (x : Request). x ∷ requests) (asks_one (line_in number line) r o h.0 k.0) ∙ ap (λ (xs : List Request). o ∷ xs) (ask_once (number + 1) lines requests others h.1 k.1)
ask_once number (line ∷ lines) [] others (inr h) (inr k) = absurd h
ask_once number (line ∷ lines) (r ∷ requests) [] (inr h) (inr k) = absurd k

pub one_way : (text : List ℕ) (requests others : List Request) → IsScript text requests → IsScript text others → requests ≡ others
one_way text requests others h k = ask_once 1 (lines_of text) requests others h.lines k.lines

-- ---- a script has no first bad line

record Rest (number : ℕ) (rest : List (List ℕ)) (before requests : List Request) : Type 0 where
  more : List Request
  asks : AskFor number rest more
  count : length requests ≡ length before + length more

one_on : (number : ℕ) (line : List ℕ) (first rest : List (List ℕ)) (before requests : List Request) → Rest (number + 1 + length first) rest before requests → Rest (number + length (line ∷ first)) rest before requests
one_on number line first rest before requests h = subst (λ (n : ℕ). Rest n rest before requests) (omega arith) h

-- what lines ask for behind those that ask for the first requests
behind : (number : ℕ) (first rest : List (List ℕ)) (before requests : List Request) → AskFor number first before → AskFor number (first ++ rest) requests → Rest (number + length first) rest before requests
behind number [] rest [] requests h k = record { more = requests; asks = subst (λ (n : ℕ). AskFor n rest requests) (omega arith) k; count = omega arith }
behind number [] rest (b ∷ before) requests h k = absurd h
behind number (line ∷ first) rest before requests (inl h) (inl k) = one_on number line first rest before requests (behind (number + 1) first rest before requests h.1 k.1)
behind number (line ∷ first) rest (b ∷ before) requests (inr h) (inl k) = absurd (skips_or_asks (line_in number line) b k.0 h.0)
behind number (line ∷ first) rest [] requests (inr h) (inl k) = absurd h
behind number (line ∷ first) rest before (q ∷ requests) (inl h) (inr k) = absurd (skips_or_asks (line_in number line) q h.0 k.0)
behind number (line ∷ first) rest before [] (inl h) (inr k) = absurd k
behind number (line ∷ first) rest (b ∷ before) (q ∷ requests) (inr h) (inr k) =
    let left = one_on number line first rest before requests (behind (number + 1) first rest before requests h.1 k.1) in
    record { more = left.more; asks = left.asks; count = omega (arith, left.count) }
behind number (line ∷ first) rest [] (q ∷ requests) (inr h) (inr k) = absurd h
behind number (line ∷ first) rest (b ∷ before) [] (inr h) (inr k) = absurd k
behind number (line ∷ first) rest [] [] (inr h) (inr k) = absurd k

-- two ways to cut lines at one
record Within (before : List (List ℕ)) (line : List ℕ) (other : List (List ℕ)) : Type 0 where
  after : List (List ℕ)
  is : other ≡ before ++ line ∷ after

abbrev first_of : List (List ℕ) → List ℕ
first_of [] = []
first_of (x ∷ xs) = x

abbrev rest_of : List (List ℕ) → List (List ℕ)
rest_of [] = []
rest_of (x ∷ xs) = xs

abbrev Cuts : List (List ℕ) → List ℕ → List (List ℕ) → List ℕ → Type 0
Cuts before line others other = ((length before ≡ length others) × (line ≡ other)) ⊎ (Within before line others ⊎ Within others other before)

cuts : (before after : List (List ℕ)) (line : List ℕ) (others behind : List (List ℕ)) (other : List ℕ) → before ++ line ∷ after ≡ others ++ other ∷ behind → Cuts before line others other
cuts [] after line [] behind other h = inl (refl, ap first_of h)
cuts [] after line (x ∷ others) behind other h = inr (inl (record { after = others; is = ap (λ (l : List ℕ). l ∷ others) (sym (ap first_of h)) }))
cuts (x ∷ before) after line [] behind other h = inr (inr (record { after = before; is = ap (λ (l : List ℕ). l ∷ before) (ap first_of h) }))
cuts (x ∷ before) after line (y ∷ others) behind other h = onward (ap first_of h) (cuts before after line others behind other (ap rest_of h)) where
  onward : x ≡ y → Cuts before line others other → Cuts (x ∷ before) line (y ∷ others) other
  onward same (inl is) = inl (omega (arith, is.0), is.1)
  onward same (inr (inl w)) = inr (inl (record { after = w.after; is = ap (λ (l : List ℕ). l ∷ others) (sym same) ∙ ap (λ (ls : List (List ℕ)). x ∷ ls) w.is }))
  onward same (inr (inr w)) = inr (inr (record { after = w.after; is = ap (λ (l : List ℕ). l ∷ before) same ∙ ap (λ (ls : List (List ℕ)). y ∷ ls) w.is }))

-- a line that is bad for this is none of a script's
abbrev Clashes : (ℕ → List ℕ → List Request → Type 0) → Type 0
Clashes IsBad = (number : ℕ) (line : List ℕ) (after : List (List ℕ)) (first more : List Request) → IsBad number line first → AskFor number (line ∷ after) more → length first + length more ≤ REQUEST_LIMIT → ⊥

fault_clashes : (why : LineFault) → Clashes (λ number line requests. HasFault number why line requests)
fault_clashes why number line after first more bad (inl skipped) few = let h = skipped.0 in cc
fault_clashes why number line after first [] bad (inr asks) few = absurd asks
fault_clashes why number line after first (q ∷ more) bad (inr asks) few = let h = asks.0 in cc

many_clash : Clashes IsPastLimit
many_clash number line after first more bad (inl skipped) few = skips_or_asks (line_in number line) bad.1 skipped.0 bad.2
many_clash number line after first [] bad (inr asks) few = absurd asks
many_clash number line after first (q ∷ more) bad (inr asks) few = absurd (omega (arith, few, bad.0))

no_bad : (IsBad : ℕ → List ℕ → List Request → Type 0) → Clashes IsBad → (before after : List (List ℕ)) (line : List ℕ) (first requests : List Request) (number : ℕ) → AskFor 1 before first → AskFor 1 (before ++ line ∷ after) requests
    → length requests ≤ REQUEST_LIMIT → number ≡ length before + 1 → IsBad number line first → ⊥
no_bad IsBad clash before after line first requests number h k few at bad =
    let rest = behind 1 before (line ∷ after) first requests h k in
    let here = subst (λ (n : ℕ). AskFor n (line ∷ after) rest.more) (omega (arith, at)) rest.asks in
    clash number line after first rest.more bad here (omega (arith, rest.count, few))

pub script_or_bad : (IsBad : ℕ → List ℕ → List Request → Type 0) → Clashes IsBad → (text : List ℕ) (requests : List Request) (number : ℕ) → IsScript text requests → IsFirstBad (IsBad number) text number → ⊥
script_or_bad IsBad clash text requests number script bad =
    no_bad IsBad clash bad.before bad.after bad.line bad.requests requests number bad.good (subst (λ (lines : List (List ℕ)). AskFor 1 lines requests) bad.lines script.lines) script.few bad.number bad.bad

-- two first bad lines are one
same_line : (P Q : ℕ → List ℕ → List Request → Type 0) → Clashes P → Clashes Q → (text : List ℕ) (number other : ℕ) (a : IsFirstBad (P number) text number) (b : IsFirstBad (Q other) text other)
    → (number ≡ other) × (a.line ≡ b.line)
same_line P Q p q text number other a b = either (cuts a.before a.after a.line b.before b.after b.line (sym a.lines ∙ b.lines)) where
  either : Cuts a.before a.line b.before b.line → (number ≡ other) × (a.line ≡ b.line)
  either (inl same) = (omega (arith, a.number, b.number, same.0), same.1)
  either (inr (inl w)) = absurd (no_bad P p a.before w.after a.line a.requests b.requests number a.good (subst (λ (lines : List (List ℕ)). AskFor 1 lines b.requests) w.is b.good) b.few a.number a.bad)
  either (inr (inr w)) = absurd (no_bad Q q b.before w.after b.line b.requests a.requests other b.good (subst (λ (lines : List (List ℕ)). AskFor 1 lines a.requests) w.is a.good) a.few b.number b.bad)

pub script_or_refused : (text : List ℕ) (requests : List Request) (refusal : ScriptRefusal) → IsScript text requests → IsRefused text refusal → ⊥
script_or_refused text requests TooLong script bad = absurd (omega (arith, script.short, bad))
script_or_refused text requests (Line number why) script bad = script_or_bad (λ n line first. HasFault n why line first) (fault_clashes why) text requests number script bad
script_or_refused text requests (TooMany number) script bad = script_or_bad IsPastLimit many_clash text requests number script bad
script_or_refused text requests NoMemory script bad = bad

one_fault : (number other : ℕ) (why cause : LineFault) (line others : List ℕ) → number ≡ other → line ≡ others → line_in number line ≡ Err why → line_in other others ≡ Err cause → why ≡ cause
one_fault number other why cause line others same lines h k = cc

no_fault : (number other : ℕ) (why : LineFault) (request : Request) (line others : List ℕ) → number ≡ other → line ≡ others → line_in number line ≡ Err why → line_in other others ≡ Ok (Some request) → ⊥
no_fault number other why request line others same lines h k = cc

pub one_refusal : (text : List ℕ) (refusal other : ScriptRefusal) → IsRefused text refusal → IsRefused text other → refusal ≡ other
one_refusal text TooLong TooLong a b = refl
one_refusal text TooLong (Line m cause) a b = absurd (omega (arith, a, b.short))
one_refusal text TooLong (TooMany m) a b = absurd (omega (arith, a, b.short))
one_refusal text TooLong NoMemory a b = absurd b
one_refusal text (Line n why) TooLong a b = absurd (omega (arith, b, a.short))
one_refusal text (Line n why) (Line m cause) a b =
    let same = same_line (λ x line first. HasFault x why line first) (λ x line first. HasFault x cause line first) (fault_clashes why) (fault_clashes cause) text n m a b in
    let whys = one_fault n m why cause a.line b.line same.0 same.1 a.bad b.bad in
    ap (λ (x : ℕ). Line x why) same.0 ∙ ap (λ (w : LineFault). Line m w) whys
one_refusal text (Line n why) (TooMany m) a b =
    let same = same_line (λ x line first. HasFault x why line first) IsPastLimit (fault_clashes why) many_clash text n m a b in
    absurd (no_fault n m why b.bad.1 a.line b.line same.0 same.1 a.bad b.bad.2)
one_refusal text (Line n why) NoMemory a b = absurd b
one_refusal text (TooMany n) TooLong a b = absurd (omega (arith, b, a.short))
one_refusal text (TooMany n) (Line m cause) a b =
    let same = same_line IsPastLimit (λ x line first. HasFault x cause line first) many_clash (fault_clashes cause) text n m a b in
    absurd (no_fault m n cause a.bad.1 b.line a.line (sym same.0) (sym same.1) b.bad a.bad.2)
one_refusal text (TooMany n) (TooMany m) a b =
    let same = same_line IsPastLimit IsPastLimit many_clash many_clash text n m a b in
    ap (λ (x : ℕ). TooMany x) same.0
one_refusal text (TooMany n) NoMemory a b = absurd b
one_refusal text NoMemory other a b = absurd a
