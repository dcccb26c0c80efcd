use Rattle.std.proofs.Common.{List, ℕ, Ok, sym, ap, subst, ◌∙◌, Some}
use Rattle.hex.specs.Hex.{encode_lower, decode_sized}
use Rattle.pkg_names.specs.Root.{IsRootText}
use Rattle.pkg_names.proofs.RootTexts.{decoded, is_text, read_again, root_in_none, root_in_some}
use Rattle.pkg_names.proofs.root.read_root.Goals as goal

pub returns-then-not-is_root_text-clause-only : goal.returns-then-not-is_root_text-clause-only
returns-then-not-is_root_text-clause-only c = λ root is e.
    let yes = c.is_root_text.ensures.1 (subst IsRootText (sym e) (is_text root is)) in cc

pub returns-clause-found : goal.returns-clause-found
returns-clause-found c =
    let d = decoded c.args.text.now (c.is_root_text.ensures.0 c.if-not-is_root_text.false) in
    let written = rw d.1 at c.decode_to_slice.ensures.value in
    d.2 ∙ ap encode_lower (sym written.1)

pub returns-clause-only : goal.returns-clause-only
returns-clause-only c = λ root is e.
    let read = ap (λ (t : List ℕ). decode_sized t 32) e ∙ read_again root is in
    let written = rw read at c.decode_to_slice.ensures.value in
    ap (λ (bytes : List ℕ). Ok (record { 0 = bytes })) written.1

pub returns-clause-valid : goal.returns-clause-valid
returns-clause-valid c =
    let d = decoded c.args.text.now (c.is_root_text.ensures.0 c.if-not-is_root_text.false) in
    let written = rw d.1 at c.decode_to_slice.ensures.value in
    rw written.1 d.3

pub returns-then-not-is_root_text-clause-value : goal.returns-then-not-is_root_text-clause-value
returns-then-not-is_root_text-clause-value c =
    sym (root_in_none c.args.text.now (λ is. let yes = c.is_root_text.ensures.1 is in cc))

pub returns-clause-value : goal.returns-clause-value
returns-clause-value c =
    let is = c.is_root_text.ensures.0 c.if-not-is_root_text.false in
    let d = decoded c.args.text.now is in
    let written = rw d.1 at c.decode_to_slice.ensures.value in
    sym (root_in_some c.args.text.now d.0 is d.1 ∙ ap (λ (bytes : List ℕ). Some (record { 0 = bytes })) (sym written.1))
