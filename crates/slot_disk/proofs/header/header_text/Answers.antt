use Rattle.std.proofs.Common.{List, ℕ, ◌++◌, codes, ap, ◌∙◌}
use Rattle.std.specs.Int.{w64, to_le_bytes}
use Rattle.slot_disk.specs.Header.{header_text}
use Rattle.slot_disk.proofs.header.header_text.Goals as goal

pub returns-clause-text : goal.returns-clause-text
unfolding header_text
returns-clause-text c =
    let sys = c.args.sys.now in
    let name : List ℕ = codes "SLOT" ++ to_le_bytes w64 sys.epoch ++ sys.system.0 in
    c.join.ensures ∙ ap (λ (l : List ℕ). l ++ c.sums_text.result) c.name_text.ensures.text ∙ ap (λ (l : List ℕ). name ++ l) c.sums_text.ensures.text
