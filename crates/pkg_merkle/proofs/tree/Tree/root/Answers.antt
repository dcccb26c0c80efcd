use Rattle.std.proofs.Common.{◌≡◌, ◌≤◌, ◌<◌, ◌*◌, ◌/◌, ℕ, List, length, ap, sym, ◌∙◌, arith}
use Rattle.pkg_names.specs.declared.root.Root.{Root}
use Rattle.pkg_merkle.specs.Merkle.{block_count, first_hashes, hashes}
use Rattle.pkg_merkle.proofs.RootLemmas.{length-first_hashes, hashes-one, merkle_root-no_level, merkle_root-one_level, merkle_root-two_levels}
use Rattle.pkg_merkle.proofs.Levels.{LevelHolds-last, open_block-short}
use Rattle.pkg_merkle.proofs.tree.Tree.root.Goals as goal

abbrev made : List ℕ → Root
made hash = record { 0 = hash }

pub returns-then-count-eq1 : goal.returns-then-count-eq1
returns-then-count-eq1 c = λ bytes is few held.
    let count : ℕ = c.args.count in
    let one : count ≡ 1 = c.if-count-eq1.true in
    let short : length bytes ≤ 8192 = omega arith in
    let size : length (first_hashes 0 bytes count) ≡ 32 * count = length-first_hashes 0 bytes count in
    let last = LevelHolds-last 1 c.args.self.hashes (first_hashes 0 bytes count) held.hashes (omega arith) in
    ap made (last ∙ sym (ap (first_hashes 0 bytes) is)) ∙ sym (merkle_root-no_level bytes short)

pub returns-then-blocks-eq1 : goal.returns-then-blocks-eq1
returns-then-blocks-eq1 c = λ bytes is few held.
    let above = c.closed-above.ensures bytes is held in
    let level : List ℕ = hashes 0 bytes in
    let size : length level ≡ 32 * block_count bytes = length-first_hashes 0 bytes (block_count bytes) in
    let top : length (hashes 1 level) ≡ 32 * block_count level = length-first_hashes 1 level (block_count level) in
    let long : 8192 < length bytes = omega arith in
    let short : length level ≤ 8192 = omega arith in
    let last = LevelHolds-last 2 c.closed-above.result (hashes 1 level) above (omega arith) in
    ap made last ∙ sym (merkle_root-one_level bytes long short)

pub returns : goal.returns
returns c = λ bytes is few held.
    let above = c.closed-above.ensures bytes is held in
    let level : List ℕ = hashes 0 bytes in
    let size : length level ≡ 32 * block_count bytes = length-first_hashes 0 bytes (block_count bytes) in
    let top : length (hashes 1 level) ≡ 32 * block_count level = length-first_hashes 1 level (block_count level) in
    let long : 8192 < length bytes = omega arith in
    let long' : 8192 < length level = omega arith in
    let short : length (hashes 1 level) < 8192 = omega arith in
    let last = c.close.ensures (hashes 1 level) (omega arith) (omega arith) (omega arith) above in
    let first : c.div_ceil-blocks.result / 256 ≡ 0 = omega arith in
    let all = open_block-short (hashes 1 level) short in
    let one = hashes-one 2 (hashes 1 level) (omega arith) in
    ap made (rw (first, all) at last ∙ sym one) ∙ sym (merkle_root-two_levels bytes long long' (omega arith))
