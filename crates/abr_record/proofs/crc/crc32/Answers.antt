use Rattle.std.proofs.Common.{ℕ, ◌≡◌, List, take, fold, bit_xor, ap, ◌∙◌, arith}
use Rattle.std.proofs.lemmas.List.{take_all}
use Rattle.abr_record.specs.Crc.{crc32, after_byte, all_ones}
use Rattle.abr_record.proofs.crc.crc32.Goals as goal

pub returns : goal.returns
unfolding crc32
returns c =
    let all : take c.loop-byte.byte-index c.args.bytes.now ≡ c.args.bytes.now = take_all _ _ (omega arith) in
    ap (λ (r : ℕ). bit_xor r 4294967295) (c.loop-byte.invariant ∙ ap (λ (xs : List ℕ). fold after_byte all_ones xs) all)
