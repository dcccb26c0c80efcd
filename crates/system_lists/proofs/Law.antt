-- A static list is read from a text exactly where the text stands for it.
use Rattle.std.proofs.Common.{◌≡◌, ℕ, List, [], ◌∷◌, map, All, Option, Some, Result, Ok, Err, refl, ap, ◌∙◌}
use Rattle.std.proofs.lemmas.List.Elements.{All-head, All-tail, All-nil, All-cons}
use Rattle.pkg_names.specs.declared.pinned.Pinned.{Pinned}
use Rattle.pkg_names.specs.Text.{lines_of}
use Rattle.system_lists.specs.declared.list.ListFault.{ListFault}
use Rattle.system_lists.specs.declared.list.ListFault.TheVariants.{Bad, Repeat, NoMemory}
use Rattle.system_lists.specs.Entries.{listed}
use Rattle.system_lists.specs.Lists.{IsPinned, has_path_of}
use Rattle.system_lists.specs.Static.{line_text, pinned_line, as_static, static_of, StandsFor}
use Rattle.system_lists.proofs.Listing.{made}
use Rattle.system_lists.proofs.StaticLines.{line_says, pinned_line-line_text}

-- these lines say these packages
record AllSay (texts : List (List ℕ)) (list : List Pinned) : Type 0 where
  lines : texts ≡ map line_text list
  each : All IsPinned list

all_say : (lines : List (List ℕ)) (list : List Pinned) → map pinned_line lines ≡ map (λ pinned. Some pinned) list → AllSay lines list
all_say [] [] e = record { lines = refl; each = All-nil IsPinned }
all_say [] (pinned ∷ list) e = absurd cc
all_say (line ∷ lines) [] e = absurd cc
all_say (line ∷ lines) (pinned ∷ list) e =
    let first : pinned_line line ≡ Some pinned = cc in
    let more : map pinned_line lines ≡ map (λ pinned. Some pinned) list = cc in
    let says = line_says line pinned first in
    let others = all_say lines list more in
    record {
      lines = ap (λ (l : List ℕ). l ∷ lines) says.text ∙ ap (λ (ls : List (List ℕ)). line_text pinned ∷ ls) others.lines;
      each = All-cons IsPinned pinned list says.is others.each;
    }

all_read : (list : List Pinned) → All IsPinned list → map pinned_line (map line_text list) ≡ map (λ pinned. Some pinned) list
all_read [] each = refl
all_read (pinned ∷ list) each =
    ap (λ (o : Option Pinned). o ∷ map pinned_line (map line_text list)) (pinned_line-line_text pinned (All-head IsPinned pinned list each))
    ∙ ap (λ (os : List (Option Pinned)). Some pinned ∷ os) (all_read list (All-tail IsPinned pinned list each))

as_static_ok : (found : Result (List Pinned) ListFault) (list : List Pinned) → as_static found ≡ Ok list → found ≡ Ok list
as_static_ok (Ok found) list e =
    let same : found ≡ list = cc in
    ap (λ (l : List Pinned). let r : Result (List Pinned) ListFault = Ok l in r) same
as_static_ok (Err (Bad n)) list e = absurd cc
as_static_ok (Err (Repeat n)) list e = absurd cc
as_static_ok (Err NoMemory) list e = absurd cc

pub stands : (text : List ℕ) (list : List Pinned) → static_of text ≡ Ok list → StandsFor text list
stands text list e =
    let read = as_static_ok (listed has_path_of [] (map pinned_line (lines_of text))) list e in
    let is = (made has_path_of (map pinned_line (lines_of text)) list).0 read in
    let say = all_say (lines_of text) list is.said in
    record { valid = record { few = is.few; each = say.each; distinct = is.distinct }; lines = say.lines }

pub only : (text : List ℕ) (list : List Pinned) → StandsFor text list → static_of text ≡ Ok list
only text list is =
    let entries : map pinned_line (lines_of text) ≡ map (λ (pinned : Pinned). Some pinned) list = ap (map pinned_line) is.lines ∙ all_read list is.valid.each in
    ap as_static ((made has_path_of (map pinned_line (lines_of text)) list).1 (record { said = entries; few = is.valid.few; distinct = is.valid.distinct }))
