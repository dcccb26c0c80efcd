use Rattle.std.proofs.Common.{◌≡◌, ℕ, ◌*◌, ◌-◌, List, length, take, drop, min, ap, ◌∙◌, arith}
use Rattle.std.proofs.lemmas.List.{take_min, take-take, length-drop}
use Rattle.pkg_merkle.proofs.binding.block_at.Goals as goal

pub returns : goal.returns
returns c =
    let bytes = c.args.bytes.now in
    let rest : List ℕ = drop (8192 * c.args.i) bytes in
    let size : length rest ≡ length bytes - 8192 * c.args.i = length-drop (8192 * c.args.i) bytes in
    let part : c.min.result ≡ min 8192 (length rest) = omega arith in
    take-take c.min.result (length bytes - 8192 * c.args.i) rest (omega arith) ∙ ap (λ n. take n rest) part ∙ take_min 8192 rest
