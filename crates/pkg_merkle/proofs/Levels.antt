-- How the levels follow the blocks.
use Rattle.std.proofs.Common.{◌≡◌, ℕ, suc, ◌+◌, ◌-◌, ◌*◌, ◌/◌, ◌%◌, ◌<◌, ◌≤◌, List, ◌++◌, length, take, drop, refl, ap, ◌∙◌, arith, length-drop, add-one}
use Rattle.std.proofs.lemmas.List.{take_all, drop-drop}
use Rattle.sha2.specs.Sha256.{sha256}
use Rattle.pkg_merkle.specs.Merkle.{block, block_count, block_input, first_hashes, hashes}
use Rattle.pkg_merkle.specs.Hasher.{LevelHolds, TreeHolds, open_block}
use Rattle.pkg_merkle.specs.declared.level.Level.{Level}
use Rattle.pkg_merkle.specs.declared.tree.Tree.{Tree}
use Rattle.pkg_merkle.proofs.RootLemmas.{first_hashes-suc, length-first_hashes}
use Rattle.pkg_merkle.proofs.Growing.{first_hashes-append}

-- one data block more: `added` is the hash of the block of hashes that it makes whole, or nothing
pub TreeHolds-more : (new : Tree) (bytes hash added : List ℕ) (index : ℕ)
    → hash ≡ sha256 (block_input 0 index (block bytes index))
    → LevelHolds 1 new.hashes (first_hashes 0 bytes index ++ hash)
    → first_hashes 1 (first_hashes 0 bytes index ++ hash) ((index + 1) / 256) ≡ first_hashes 1 (first_hashes 0 bytes index) (index / 256) ++ added
    → LevelHolds 2 new.above (first_hashes 1 (first_hashes 0 bytes index) (index / 256) ++ added)
    → TreeHolds new bytes (index + 1)
TreeHolds-more new bytes hash added index is hashes filled above =
    let more : first_hashes 0 bytes (index + 1) ≡ first_hashes 0 bytes index ++ hash = rw (add-one, is) (first_hashes-suc 0 bytes index) in
    record { hashes = rw more hashes; above = rw (more, filled) above }

-- bytes that come later change no hash of a whole block
pub TreeHolds-append : (tree : Tree) (bytes more : List ℕ) (n : ℕ) → 8192 * n ≤ length bytes → TreeHolds tree bytes n → TreeHolds tree (bytes ++ more) n
TreeHolds-append tree bytes more n whole held =
    let same = first_hashes-append 0 bytes more n whole in
    record { hashes = rw same held.hashes; above = rw same held.above }

-- block i of the bytes from block index on
pub block-drop : (bytes part : List ℕ) (index i : ℕ) → drop (8192 * index) bytes ≡ part → take 8192 (drop (8192 * i) part) ≡ block bytes (index + i)
block-drop bytes part index i is =
    let at : 8192 * index + 8192 * i ≡ 8192 * (index + i) = omega arith in
    rw (← is, drop-drop (8192 * i) (8192 * index) bytes, at) refl

-- the hashes of the first level, where its last block is whole
pub hashes-whole : (bytes : List ℕ) (count : ℕ) → block_count bytes ≡ count → count % 256 ≡ 0
    → hashes 1 (hashes 0 bytes) ≡ first_hashes 1 (first_hashes 0 bytes count) (count / 256)
hashes-whole bytes count is whole =
    let below : hashes 0 bytes ≡ first_hashes 0 bytes count = ap (first_hashes 0 bytes) is in
    let size = length-first_hashes 0 bytes count in
    let blocks : block_count (first_hashes 0 bytes count) ≡ count / 256 = omega arith in
    ap (hashes 1) below ∙ ap (first_hashes 1 (first_hashes 0 bytes count)) blocks

-- and where it is open
pub hashes-open : (bytes : List ℕ) (count : ℕ) → block_count bytes ≡ count → 0 < count % 256
    → hashes 1 (hashes 0 bytes) ≡ first_hashes 1 (first_hashes 0 bytes count) (count / 256)
    ++ sha256 (block_input 1 (count / 256) (open_block (first_hashes 0 bytes count)))
hashes-open bytes count is some =
    let level : List ℕ = first_hashes 0 bytes count in
    let q : ℕ = count / 256 in
    let below : hashes 0 bytes ≡ level = ap (first_hashes 0 bytes) is in
    let size : length level ≡ 32 * count = length-first_hashes 0 bytes count in
    let blocks : block_count level ≡ suc q = omega arith in
    let at : length level / 8192 ≡ q = omega arith in
    let contents : block level q ≡ open_block level =
    rw at (take_all 8192 (drop (8192 * q) level) (omega (arith, length-drop (8192 * q) level))) in
    ap (hashes 1) below ∙ ap (first_hashes 1 level) blocks ∙ first_hashes-suc 1 level q
    ∙ ap (λ part. first_hashes 1 level q ++ sha256 (block_input 1 q part)) contents

-- a level with one hash has it
pub LevelHolds-last : (number : ℕ) (level : Level) (bytes : List ℕ) → LevelHolds number level bytes → length bytes ≡ 32 → level.last ≡ bytes
LevelHolds-last number level bytes held one =
    let from : length bytes - 32 ≡ 0 = omega arith in
    held.last (omega arith) ∙ ap (λ n. drop n bytes) from

-- a level of less than a block has it open
pub open_block-short : (bytes : List ℕ) → length bytes < 8192 → open_block bytes ≡ bytes
open_block-short bytes short =
    let none : 8192 * (length bytes / 8192) ≡ 0 = omega arith in
    ap (λ n. drop n bytes) none
