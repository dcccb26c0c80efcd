-- Bytes that are written in several writes, and the lines of events.
use Rattle.std.proofs.Common.{◌≡◌, ℕ, ◌+◌, ◌<◌, min, List, [], ◌∷◌, ◌++◌, length, take, drop, get_or, Option, Some, None, sym, ap, subst, ◌∙◌, inl, inr, append_assoc, arith}
use Rattle.std.proofs.Math.Seq.{take-append-add, take-length}
use Rattle.std.proofs.lemmas.List.{append-nil, length-take-le, take-append-drop, take-append-le, take_min, take_more}
use Rattle.std.specs.Option.{option_map}
use Rattle.store_model.specs.declared.events.Event.{Event}
use Rattle.script_lang.specs.Text.{line, lines_from, text}
use Rattle.pkg_tool.specs.Written.{Wrote, WroteFront}
use Rattle.pkg_tool.specs.declared.running.Status.{Status}
use Rattle.pkg_tool.specs.declared.running.Status.TheVariants.{NoMemory}
use Rattle.pkg_tool.specs.Printing.{Prints, Ends, IsClosed}

wrote_then : (first second third : Option (List ℕ)) (xs ys : List ℕ) → Wrote first xs second → Wrote second ys third → Wrote first (xs ++ ys) third
wrote_then None second third xs ys a b = b ∙ ap (option_map _) a
wrote_then (Some w) second third xs ys a b = b ∙ ap (option_map (λ (written : List ℕ). written ++ ys)) a ∙ ap Some (append_assoc w xs ys)

-- all of the bytes are a front of them
pub as_front : (first now : Option (List ℕ)) (bytes : List ℕ) → Wrote first bytes now → WroteFront first bytes now
as_front first now bytes w = (length bytes, subst (λ (xs : List ℕ). Wrote first xs now) (sym (take-length bytes)) w)

-- a front of some bytes is one of more
pub front_of_more : (first now : Option (List ℕ)) (bytes later : List ℕ) → WroteFront first bytes now → WroteFront first (bytes ++ later) now
front_of_more first now bytes later w = (
  min w.0 (length bytes),
  subst (λ (xs : List ℕ). Wrote first xs now) (sym (take-append-le (min w.0 (length bytes)) bytes later (omega arith) ∙ take_min w.0 bytes)) w.1,
)

module _ (first now : Option (List ℕ)) (gathered bytes : List ℕ) (p : Prints first now gathered bytes) where
  -- one more piece is gathered
  pub push : (piece : List ℕ) → Prints first now (gathered ++ piece) (bytes ++ piece)
  push piece = record {
    given = p.given;
    wrote = p.wrote;
    all = sym (append_assoc p.given gathered piece) ∙ ap (λ (xs : List ℕ). xs ++ piece) p.all;
  }

  -- what is gathered is written
  pub whole : (then : Option (List ℕ)) → Wrote now gathered then → Wrote first bytes then
  whole then w = subst (λ (xs : List ℕ). Wrote first xs then) p.all (wrote_then first now then p.given gathered p.wrote w)

  -- and nothing is gathered from then on
  pub flush : (then : Option (List ℕ)) → Wrote now gathered then → Prints first then [] bytes
  flush then w = record {
    given = bytes;
    wrote = whole then w;
    all = append-nil bytes;
  }

  cut : (count : ℕ) → take (length p.given + count) bytes ≡ p.given ++ take count gathered
  cut count = ap (take (length p.given + count)) (sym p.all) ∙ take-append-add p.given gathered count

  -- a front of what is gathered is written
  pub front : (then : Option (List ℕ)) → WroteFront now gathered then → WroteFront first bytes then
  front then w = (
    length p.given + w.0,
    subst (λ (xs : List ℕ). Wrote first xs then) (sym (cut w.0)) (wrote_then first now then p.given (take w.0 gathered) p.wrote w.1),
  )

-- what is gathered is written where the last write was
closed_lines : (status : Status) (first now : Option (List ℕ)) (bytes : List ℕ) (faults faults_now : ℕ) → IsClosed status NoMemory first bytes now faults faults_now
    → status ≡ NoMemory → Wrote first bytes now
closed_lines status first now bytes faults faults_now (inl written) is = written.1
closed_lines status first now bytes faults faults_now (inr failed) is = let e = sym is ∙ failed.0 in absurd (cc e)

module _ (first now then : Option (List ℕ)) (gathered bytes piece : List ℕ) (p : Prints first now gathered bytes) where
  -- memory was short for the next piece
  pub ends_early : (status : Status) (faults faults_now : ℕ) → IsClosed status NoMemory now gathered then faults faults_now → WroteFront now gathered then
      → Ends status first then bytes piece
  ends_early status faults faults_now closed w = record {
    front = front_of_more first then bytes piece (front first now gathered bytes p then w);
    lines = λ is. whole first now gathered bytes p then (closed_lines status now then gathered faults faults_now closed is);
  }

-- ---- lines

lines_from-append : (number : ℕ) (xs ys : List Event) → lines_from number (xs ++ ys) ≡ lines_from number xs ++ lines_from (number + length xs) ys
lines_from-append number [] ys = ap (λ (n : ℕ). lines_from n ys) (omega arith)
lines_from-append number (x ∷ xs) ys =
    let next : number + 1 + length xs ≡ number + length (x ∷ xs) = omega arith in
    ap (λ (rest : List ℕ). line number x ++ rest) (lines_from-append (number + 1) xs ys)
    ∙ sym (append_assoc (line number x) (lines_from (number + 1) xs) (lines_from (number + 1 + length xs) ys))
    ∙ ap (λ (n : ℕ). (line number x ++ lines_from (number + 1) xs) ++ lines_from n ys) next

-- the line of the event at this place comes next
pub text_more : (history : List Event) (place : ℕ) (event : Event) → place < length history → event ≡ get_or history place event
    → text (take (place + 1) history) ≡ text (take place history) ++ line (place + 1) event
text_more history place event there is =
    let number : 1 + length (take place history) ≡ place + 1 = let all = length-take-le place history (omega arith) in omega (arith, all) in
    ap text (take_more history place event there)
    ∙ lines_from-append 1 (take place history) (get_or history place event ∷ [])
    ∙ ap (λ (n : ℕ). text (take place history) ++ lines_from n (get_or history place event ∷ [])) number
    ∙ ap (λ (e : Event). text (take place history) ++ lines_from (place + 1) (e ∷ [])) (sym is)
    ∙ ap (λ (xs : List ℕ). text (take place history) ++ xs) (append-nil (line (place + 1) event))

-- a front of the text of the first events is one of the text
pub front_of_text : (first now : Option (List ℕ)) (history : List Event) (count : ℕ) → WroteFront first (text (take count history)) now → WroteFront first (text history) now
front_of_text first now history count w =
    let rest = lines_from (1 + length (take count history)) (drop count history) in
    let all : text (take count history) ++ rest ≡ text history =
    sym (lines_from-append 1 (take count history) (drop count history)) ∙ ap text (take-append-drop count history) in
    subst (λ (xs : List ℕ). WroteFront first xs now) all (front_of_more first now (text (take count history)) rest w)
