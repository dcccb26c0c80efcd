-- How the hashes of a level grow with its bytes.
use Rattle.std.proofs.Common.{◌≡◌, ℕ, zero, suc, ◌+◌, ◌-◌, ◌*◌, ◌/◌, ◌%◌, ◌<◌, ◌≤◌, List, [], ◌++◌, length, drop, replicate, refl, sym, ◌∙◌, arith, length-append, length-drop}
use Rattle.std.proofs.lemmas.List.{take-append-le, drop-append-le, take_all, append_assoc, append-nil}
use Rattle.sha2.specs.Sha256.{sha256}
use Rattle.pkg_merkle.specs.Merkle.{block, block_input, first_inputs, first_hashes, head}
use Rattle.pkg_merkle.specs.Hasher.{open_block}
use Rattle.pkg_merkle.proofs.RootLemmas.{first_hashes-suc}

-- a whole block stays as bytes are added
pub block-append : (bytes more : List ℕ) (i : ℕ) → 8192 * suc i ≤ length bytes → block (bytes ++ more) i ≡ block bytes i
block-append bytes more i fits =
    let whole : 8192 ≤ length (drop (8192 * i) bytes) = omega (arith, length-drop (8192 * i) bytes) in
    rw (drop-append-le (8192 * i) bytes more (omega arith)) (take-append-le 8192 (drop (8192 * i) bytes) more whole)

pub first_hashes-zero : (level : ℕ) (bytes : List ℕ) → first_hashes level bytes 0 ≡ []
unfolding first_inputs
first_hashes-zero level bytes = refl

-- so do the hashes of whole blocks
pub first_hashes-append : (level : ℕ) (bytes more : List ℕ) (n : ℕ) → 8192 * n ≤ length bytes → first_hashes level (bytes ++ more) n ≡ first_hashes level bytes n
first_hashes-append level bytes more zero fits = first_hashes-zero level (bytes ++ more) ∙ sym (first_hashes-zero level bytes)
first_hashes-append level bytes more (suc n) fits =
    let left = first_hashes-suc level (bytes ++ more) n in
    let right = first_hashes-suc level bytes n in
    let before = first_hashes-append level bytes more n (omega arith) in
    let last = block-append bytes more n fits in
    cc

-- a whole block is hashed after its head, with no filling
pub block_input-whole : (level i : ℕ) (contents : List ℕ) → length contents ≡ 8192 → block_input level i contents ≡ head level i 8192 ++ contents
unfolding block_input
block_input-whole zero i contents whole = rw whole (append-nil (head 0 i 8192 ++ contents))
block_input-whole (suc level) i contents whole = rw whole (append-nil (head (suc level) i 8192 ++ contents))

-- a block of hashes is filled with zeros
pub block_input-partial : (level i : ℕ) (contents : List ℕ) → 0 < level → 0 < length contents → length contents ≤ 8192
    → block_input level i contents ≡ (head level i 8192 ++ contents) ++ replicate (8192 - length contents) 0
unfolding block_input
block_input-partial zero i contents above some within = absurd (omega arith)
block_input-partial (suc level) i contents above some within =
    let zeros : (8192 - length contents) % 8192 ≡ 8192 - length contents = omega arith in
    rw zeros refl

-- a hash that leaves the open block short
pub filled-none : (level index : ℕ) (bytes hash : List ℕ) → length bytes ≡ 32 * index → index % 256 < 255
    → first_hashes level (bytes ++ hash) ((index + 1) / 256) ≡ first_hashes level bytes (index / 256) ++ []
filled-none level index bytes hash size short =
    let same : (index + 1) / 256 ≡ index / 256 = omega arith in
    rw same (first_hashes-append level bytes hash (index / 256) (omega arith) ∙ sym (append-nil (first_hashes level bytes (index / 256))))

-- a hash that makes the open block whole
pub filled-some : (level index : ℕ) (bytes hash whole : List ℕ) → length bytes ≡ 32 * index → length hash ≡ 32 → 255 ≤ index % 256
    → whole ≡ sha256 ((head level (length bytes / 8192) 8192 ++ open_block bytes) ++ hash)
    → first_hashes level (bytes ++ hash) ((index + 1) / 256) ≡ first_hashes level bytes (index / 256) ++ whole
filled-some level index bytes hash whole size one full is =
    let q : ℕ = index / 256 in
    let next : (index + 1) / 256 ≡ suc q = omega arith in
    let at : length bytes / 8192 ≡ q = omega arith in
    let start : drop (8192 * q) (bytes ++ hash) ≡ drop (8192 * q) bytes ++ hash = drop-append-le (8192 * q) bytes hash (omega arith) in
    let size : length (drop (8192 * q) bytes ++ hash) ≡ 8192 = omega (arith, length-append (drop (8192 * q) bytes) hash, length-drop (8192 * q) bytes) in
    let contents : block (bytes ++ hash) q ≡ drop (8192 * q) bytes ++ hash = rw start (take_all 8192 (drop (8192 * q) bytes ++ hash) (omega arith)) in
    let input = block_input-whole level q (drop (8192 * q) bytes ++ hash) size in
    let more = first_hashes-suc level (bytes ++ hash) q in
    let before = first_hashes-append level bytes hash q (omega arith) in
    let grouped = append_assoc (head level q 8192) (drop (8192 * q) bytes) hash in
    rw (next, is, at, more, before, contents, input, grouped) refl
