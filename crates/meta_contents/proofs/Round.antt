-- Contents that are written are read again, and what is read is the text of the contents.
use Rattle.std.proofs.Common.{◌≡◌, ◌≢◌, ℕ, zero, suc, ◌+◌, ◌<◌, ◌≤◌, Bool, true, false, cond, eqb, List, [], ◌∷◌, ◌++◌, length, map, get_or, All, Some, Result, Ok, Err, refl, sym, ap, subst, ◌∙◌, append_assoc, inl, inr, ◌⊎◌, arith}
use Rattle.std.specs.Prelude.{IsUtf8, IsAscii, IsSome, ◌↔◌}
use Rattle.std.specs.List.{onto_first, join_with_byte, IsDistinct, AllByRecursion, AllPass}
use Rattle.std.specs.Str.{bytes_eq, is_utf8}
use Rattle.std.proofs.lemmas.Bool.{le-ltb, cases_lt, eqb-true}
use Rattle.std.proofs.lemmas.Bool.Decides.{nat_tests}
use Rattle.std.proofs.lemmas.List.{append-nil, length-append, append_cancel_right, get_or_past}
use Rattle.std.proofs.lemmas.List.Elements.{All-head, All-tail, All-cons, All-append}
use Rattle.std.proofs.lemmas.Str.{IsUtf8-append, IsUtf8-from_ascii}
use Rattle.pkg_names.specs.Root.{IsRoot, IsRootText, root_text, root_in, is_lower_digit}
use Rattle.pkg_names.specs.FileText.{IsFile, is_file_text}
use Rattle.pkg_names.specs.Text.{lines_of}
use Rattle.pkg_names.proofs.Lines.{lines_cut, lines_whole}
use Rattle.meta_contents.specs.declared.fault.ContentsFault.{ContentsFault}
use Rattle.meta_contents.specs.declared.fault.ContentsFault.TheVariants.{Utf8}
use Rattle.meta_contents.specs.Lines.{pair_in}
use Rattle.meta_contents.specs.Contents.{Pair, paths, is_in_meta, is_among, StandsFor, line_text, text_of, reading, contents_of}
use Rattle.meta_contents.proofs.Cuts.{FilesAreTested, cut_at_last}
use Rattle.meta_contents.proofs.Placing.{among_more, is_placed}
use Rattle.meta_contents.proofs.Law.{RootsHaveTexts, are_read, are_contents, in_text}

-- the texts of roots have 64 lower-case digits
abbrev pub RootsHaveDigits : Type 0
RootsHaveDigits = (text : List ℕ) → IsSome (root_in text) ↔ IsRootText text

-- ---- digits

not_ten : (c : ℕ) → is_lower_digit c ≡ true → c ≢ 10
not_ten c h e = let ten : is_lower_digit 10 ≡ true = subst (λ x. is_lower_digit x ≡ true) e h in cc

not_equals : (c : ℕ) → is_lower_digit c ≡ true → c ≢ 61
not_equals c h e = let sign : is_lower_digit 61 ≡ true = subst (λ x. is_lower_digit x ≡ true) e h in cc

is_small : (c : ℕ) → is_lower_digit c ≡ true → c < 128
is_small c h = grind (arith, nat_tests)

small_digits : (text : List ℕ) → AllPass is_lower_digit text → IsAscii text
small_digits text h i =
    elim (cases_lt i (length text)) [
      | inl lt ↦ is_small (get_or text i 0) (h i 0 lt)
      | inr le ↦ rw (get_or_past text i 0 le) (omega arith)
    ]

-- ---- a line

record Plain (pair : Pair) : Type 0 where
  feed : All (λ c. c ≢ 10) (line_text pair)
  some : 0 < length (line_text pair)
  utf8 : IsUtf8 (line_text pair)
  says : pair_in (line_text pair) ≡ Some pair

sign_ascii : (digits : List ℕ) → IsAscii digits → IsAscii (61 ∷ digits)
sign_ascii digits h zero = omega arith
sign_ascii digits h (suc i) = h i

sign_not_feed : (let sign : ℕ = 61 in sign ≡ 10) → ⊥
sign_not_feed e = omega (arith, e)

plain : FilesAreTested → RootsHaveTexts → RootsHaveDigits → (pair : Pair) → IsFile pair.0 → IsRoot pair.1 → Plain pair
plain tested texts digits_of pair file root =
    let read : root_in (root_text pair.1) ≡ Some pair.1 = (texts (root_text pair.1) pair.1).1 (refl, root) in
    let digits = ((digits_of (root_text pair.1)).0 (rw read refl)).digits in
    let on : is_file_text pair.0 ≡ true = (tested pair.0).1 file in
    record {
      feed = All-append (λ c. c ≢ 10) pair.0 (61 ∷ root_text pair.1) file.no_line_feed (All-cons (λ c. c ≢ 10) 61 (root_text pair.1) sign_not_feed (λ k d lt. not_ten _ (digits k d lt)));
      some = omega (arith, length-append pair.0 (61 ∷ root_text pair.1));
      utf8 = IsUtf8-append pair.0 (61 ∷ root_text pair.1) file.utf8 (IsUtf8-from_ascii (61 ∷ root_text pair.1) (sign_ascii (root_text pair.1) (small_digits (root_text pair.1) digits)));
      says = rw (cut_at_last pair.0 (root_text pair.1) (λ k d lt. not_equals _ (digits k d lt)), on, read) refl;
    }

feed_utf8 : IsUtf8 (10 ∷ [])
feed_utf8 = IsUtf8-from_ascii (10 ∷ []) feed_small
  where
    feed_small : IsAscii (10 ∷ [])
    feed_small zero = omega arith
    feed_small (suc i) = omega arith

-- ---- lines joined

abbrev joined : List Pair → List ℕ
joined list = join_with_byte 10 (map line_text list)

text_joined : (pair : Pair) (list : List Pair) → text_of (pair ∷ list) ≡ joined (pair ∷ list) ++ 10 ∷ []
text_joined pair [] = append-nil (line_text pair ++ 10 ∷ [])
text_joined pair (next ∷ list) =
    ap (λ (l : List ℕ). (line_text pair ++ 10 ∷ []) ++ l) (text_joined next list) ∙ append_assoc (line_text pair) (10 ∷ []) (joined (next ∷ list) ++ 10 ∷ [])
    ∙ sym (append_assoc (line_text pair) (10 ∷ joined (next ∷ list)) (10 ∷ []))

-- the lines of the joined ones, and of the text
lines_joined : (pair : Pair) (list : List Pair) → All Plain (pair ∷ list) → lines_of (joined (pair ∷ list)) ≡ map line_text (pair ∷ list)
lines_joined pair [] h = lines_whole (line_text pair) (All-head Plain pair [] h).feed (All-head Plain pair [] h).some
lines_joined pair (next ∷ list) h =
    lines_cut (line_text pair) (joined (next ∷ list)) (All-head Plain pair (next ∷ list) h).feed
    ∙ ap (λ (ls : List (List ℕ)). line_text pair ∷ ls) (lines_joined next list (All-tail Plain pair (next ∷ list) h))

lines_fed : (list : List Pair) → All Plain list → lines_of (text_of list) ≡ map line_text list
lines_fed [] h = refl
lines_fed (pair ∷ list) h =
    ap lines_of (append_assoc (line_text pair) (10 ∷ []) (text_of list)) ∙ lines_cut (line_text pair) (text_of list) (All-head Plain pair list h).feed
    ∙ ap (λ (ls : List (List ℕ)). line_text pair ∷ ls) (lines_fed list (All-tail Plain pair list h))

joined_utf8 : (pair : Pair) (list : List Pair) → All Plain (pair ∷ list) → IsUtf8 (joined (pair ∷ list))
joined_utf8 pair [] h = (All-head Plain pair [] h).utf8
joined_utf8 pair (next ∷ list) h =
    IsUtf8-append (line_text pair) (10 ∷ joined (next ∷ list)) (All-head Plain pair (next ∷ list) h).utf8 (IsUtf8-append (10 ∷ []) (joined (next ∷ list)) feed_utf8 (joined_utf8 next list (All-tail Plain pair (next ∷ list) h)))

all_plain : FilesAreTested → RootsHaveTexts → RootsHaveDigits → (list : List Pair) → All (λ pair. IsFile pair.0) list → All (λ pair. IsRoot pair.1) list → All Plain list
all_plain tested texts digits list files roots k d lt = plain tested texts digits _ (files k d lt) (roots k d lt)

-- the text is that of the lines, fed or not
two_ways : (text : List ℕ) (pair : Pair) (list : List Pair) → (text ≡ text_of (pair ∷ list)) ⊎ (text ++ 10 ∷ [] ≡ text_of (pair ∷ list)) → (text ≡ joined (pair ∷ list) ++ 10 ∷ []) ⊎ (text ≡ joined (pair ∷ list))
two_ways text pair list (inl fed) = inl (fed ∙ text_joined pair list)
two_ways text pair list (inr unfed) = inr (append_cancel_right text (joined (pair ∷ list)) (10 ∷ []) (unfed ∙ text_joined pair list))

lines_read : (list : List Pair) (text : List ℕ) → All Plain list → (text ≡ text_of list) ⊎ (text ++ 10 ∷ [] ≡ text_of list) → lines_of text ≡ map line_text list
lines_read list text h (inl fed) = ap lines_of fed ∙ lines_fed list h
lines_read [] text h (inr none) = absurd (omega (arith, ap length none, length-append text (10 ∷ [])))
lines_read (pair ∷ list) text h (inr unfed) =
    ap lines_of (append_cancel_right text (joined (pair ∷ list)) (10 ∷ []) (unfed ∙ text_joined pair list)) ∙ lines_joined pair list h

utf8_of : (list : List Pair) (text : List ℕ) → All Plain list → (text ≡ text_of list) ⊎ (text ++ 10 ∷ [] ≡ text_of list) → IsUtf8 text
utf8_of [] text h (inl none) = subst IsUtf8 (sym none) (IsUtf8-from_ascii [] (λ i. omega arith))
utf8_of [] text h (inr none) = absurd (omega (arith, ap length none, length-append text (10 ∷ [])))
utf8_of (pair ∷ list) text h way =
    elim (two_ways text pair list way) [
      | inl fed ↦ subst IsUtf8 (sym fed) (IsUtf8-append (joined (pair ∷ list)) (10 ∷ []) (joined_utf8 pair list h) feed_utf8)
      | inr unfed ↦ subst IsUtf8 (sym unfed) (joined_utf8 pair list h)
    ]

-- ---- reading them

still_fresh : (seen : List (List ℕ)) (path : List ℕ) (others : List (List ℕ)) → AllByRecursion (λ q. is_among q seen ≡ false) others → AllByRecursion (λ q. bytes_eq path q ≡ false) others
    → AllByRecursion (λ q. is_among q (seen ++ path ∷ []) ≡ false) others
still_fresh seen path [] h g = tt
still_fresh seen path (q ∷ others) h g = (among_more q path seen ∙ rw (g.0, h.0) refl, still_fresh seen path others h.1 g.1)

read_back : (list : List Pair) (seen : List (List ℕ)) (n : ℕ) → n + length list ≤ 4097 → All Plain list → All (λ pair. is_in_meta pair.0 ≡ false) list → AllByRecursion (λ q. is_among q seen ≡ false) (paths list)
    → IsDistinct bytes_eq (paths list) → reading seen n (map line_text list) ≡ Ok list
unfolding reading IsDistinct
read_back [] seen n few h outer fresh distinct = refl
read_back (pair ∷ list) seen n few h outer fresh distinct =
    let below = le-ltb 4096 n (omega arith) in
    let is = All-head Plain pair list h in
    let placed = is_placed n seen (line_text pair) pair.0 pair.1 is.says (All-head (λ (p : Pair). is_in_meta p.0 ≡ false) pair list outer) fresh.0 in
    let others = read_back list (seen ++ pair.0 ∷ []) (n + 1) (omega arith) (All-tail Plain pair list h) (All-tail (λ (p : Pair). is_in_meta p.0 ≡ false) pair list outer) (still_fresh seen pair.0 (paths list) fresh.1 distinct.0) distinct.1 in
    rw (below, placed, others) refl

none_seen : (others : List (List ℕ)) → AllByRecursion (λ q. is_among q [] ≡ false) others
none_seen [] = tt
none_seen (q ∷ others) = (refl, none_seen others)

-- what stands for contents is read as these
pub only : FilesAreTested → RootsHaveTexts → RootsHaveDigits → (text : List ℕ) (list : List Pair) → StandsFor text list → contents_of text ≡ Ok list
only tested texts digits text list is =
    let h = all_plain tested texts digits list is.valid.files is.valid.roots in
    sym (in_text text (utf8_of list text h is.written)) ∙ ap (reading [] 1) (lines_read list text h is.written)
    ∙ read_back list [] 1 (omega (arith, is.valid.few)) h is.valid.outer (none_seen (paths list)) is.valid.distinct

-- ---- what is read stands there

-- lines with a line feed behind each
fed : List (List ℕ) → List ℕ
fed [] = []
fed (line ∷ lines) = line ++ 10 ∷ fed lines

fed_onto : (c : ℕ) (text : List ℕ) (lines : List (List ℕ)) → (text ≡ fed lines) ⊎ (text ++ 10 ∷ [] ≡ fed lines) → (c ∷ text ≡ fed (onto_first c lines)) ⊎ (c ∷ text ++ 10 ∷ [] ≡ fed (onto_first c lines))
unfolding fed
fed_onto c text [] (inl e) = inr (ap (λ (l : List ℕ). c ∷ l ++ 10 ∷ []) e)
fed_onto c text [] (inr e) = absurd (omega (arith, ap length e, length-append text (10 ∷ [])))
fed_onto c text (line ∷ lines) (inl e) = inl (ap (λ (l : List ℕ). c ∷ l) e)
fed_onto c text (line ∷ lines) (inr e) = inr (ap (λ (l : List ℕ). c ∷ l) e)

fed_one : (c : ℕ) (text : List ℕ) (lines : List (List ℕ)) (b : Bool) → eqb c 10 ≡ b → (text ≡ fed lines) ⊎ (text ++ 10 ∷ [] ≡ fed lines)
    → (c ∷ text ≡ fed (cond b ([] ∷ lines) (onto_first c lines))) ⊎ (c ∷ text ++ 10 ∷ [] ≡ fed (cond b ([] ∷ lines) (onto_first c lines)))
unfolding fed
fed_one c text lines true feed (inl e) = inl (ap (λ (x : ℕ). x ∷ text) (eqb-true c 10 feed) ∙ ap (λ (l : List ℕ). 10 ∷ l) e)
fed_one c text lines true feed (inr e) = inr (ap (λ (x : ℕ). x ∷ text ++ 10 ∷ []) (eqb-true c 10 feed) ∙ ap (λ (l : List ℕ). 10 ∷ l) e)
fed_one c text lines false other way = fed_onto c text lines way

-- a text is its lines, each with a line feed, which the last may lack
is_fed : (text : List ℕ) → (text ≡ fed (lines_of text)) ⊎ (text ++ 10 ∷ [] ≡ fed (lines_of text))
unfolding fed
is_fed [] = inl refl
is_fed (c ∷ text) = fed_one c text (lines_of text) (eqb c 10) refl (is_fed text)

fed_text : (list : List Pair) → fed (map line_text list) ≡ text_of list
unfolding fed
fed_text [] = refl
fed_text (pair ∷ list) = ap (λ (l : List ℕ). line_text pair ++ 10 ∷ l) (fed_text list) ∙ sym (append_assoc (line_text pair) (10 ∷ []) (text_of list))

written_so : (text : List ℕ) (list : List Pair) → lines_of text ≡ map line_text list → (text ≡ text_of list) ⊎ (text ++ 10 ∷ [] ≡ text_of list)
written_so text list e =
    let whole : fed (lines_of text) ≡ text_of list = ap fed e ∙ fed_text list in
    elim (is_fed text) [ inl all ↦ inl (all ∙ whole) | inr less ↦ inr (less ∙ whole) ]

chosen : (b : Bool) (read : Result (List Pair) ContentsFault) (list : List Pair) → cond b read (Err Utf8) ≡ Ok list → read ≡ Ok list
chosen true read list e = e
chosen false read list e = absurd cc

pub stands : FilesAreTested → RootsHaveTexts → (text : List ℕ) (list : List Pair) → contents_of text ≡ Ok list → StandsFor text list
unfolding contents_of
stands tested texts text list e =
    let read = chosen (is_utf8 text) (reading [] 1 (lines_of text)) list e in
    let are = are_read tested texts (lines_of text) [] 1 list (omega arith) read in
    record { valid = are_contents tested texts (lines_of text) list read; written = written_so text list are.text }
