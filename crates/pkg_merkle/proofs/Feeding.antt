-- How a hasher follows the bytes that it is fed.
use Rattle.std.proofs.Common.{◌≡◌, ℕ, ◌+◌, ◌*◌, ◌/◌, ◌%◌, ◌<◌, ◌≤◌, List, [], ◌++◌, length, take, drop, refl, sym, ◌∙◌, arith, length-append, length-drop}
use Rattle.std.proofs.lemmas.List.{drop-append-le, drop_all, take_all, append-nil}
use borrow.Rule.Slice.PartMut.{put_mid, post_of}
use Rattle.pkg_merkle.specs.Merkle.{block}
use Rattle.pkg_merkle.specs.Hasher.{TreeHolds, StandsFor, byte_count, open_block}
use Rattle.pkg_merkle.specs.declared.hasher.Hasher.{Hasher}
use Rattle.pkg_merkle.proofs.Levels.{TreeHolds-append}

-- bytes that leave the open block short
pub StandsFor-keep : (old new : Hasher) (blob more : List ℕ) → StandsFor old blob
    → byte_count old + length more ≤ 33554432 → byte_count old % 8192 + length more < 8192
    → byte_count new ≡ byte_count old + length more → new.tree ≡ old.tree
    → take (length blob % 8192 + length more) new.buffer ≡ take (length blob % 8192) old.buffer ++ more
    → StandsFor new (blob ++ more)
StandsFor-keep old new blob more held within short count same placed =
    let known = held.count in
    let q : ℕ = length blob / 8192 in
    let size : length (blob ++ more) ≡ length blob + length more = length-append blob more in
    let at : length (blob ++ more) / 8192 ≡ q = omega arith in
    let used : length (blob ++ more) % 8192 ≡ length blob % 8192 + length more = omega arith in
    let start : drop (8192 * q) (blob ++ more) ≡ open_block blob ++ more = drop-append-le (8192 * q) blob more (omega arith) in
    record {
      count = omega arith;
      within = omega arith;
      block = rw (at, used, placed, start, held.block) refl;
      tree = rw (at, same) (TreeHolds-append old.tree blob more q (omega arith) held.tree);
    }

-- a hasher with no open block
pub StandsFor-whole : (hasher : Hasher) (blob : List ℕ) → byte_count hasher ≡ length blob → length blob ≤ 33554432 → length blob % 8192 ≡ 0
    → TreeHolds hasher.tree blob (length blob / 8192) → StandsFor hasher blob
StandsFor-whole hasher blob count within whole tree =
    record {
      count = count;
      within = within;
      block = rw whole (sym (drop_all (8192 * (length blob / 8192)) blob (omega arith)));
      tree = tree;
    }

-- bytes that make the open block whole
pub block-fill : (old : Hasher) (blob more : List ℕ) → StandsFor old blob → length blob % 8192 + length more ≡ 8192
    → block (blob ++ more) (length blob / 8192) ≡ take (length blob % 8192) old.buffer ++ more
block-fill old blob more held full =
    let q : ℕ = length blob / 8192 in
    let start : drop (8192 * q) (blob ++ more) ≡ open_block blob ++ more = drop-append-le (8192 * q) blob more (omega arith) in
    let size : length (open_block blob ++ more) ≡ 8192 = omega (arith, length-append (open_block blob) more, length-drop (8192 * q) blob) in
    rw (start, take_all 8192 (open_block blob ++ more) (omega arith), held.block) refl

-- a write to the end of the buffer
pub put_mid-end : (buffer more : List ℕ) (used k : ℕ) → length buffer ≤ used + k → put_mid used k buffer more ≡ take used buffer ++ more
put_mid-end buffer more used k all =
    let rest : post_of used k buffer ≡ [] = drop_all k (drop used buffer) (omega (arith, length-drop used buffer)) in
    rw (rest, append-nil more) refl

-- the bytes after the whole blocks are the last block
pub block-last : (hasher : Hasher) (blob : List ℕ) → StandsFor hasher blob → block blob (length blob / 8192) ≡ take (length blob % 8192) hasher.buffer
block-last hasher blob held =
    let q : ℕ = length blob / 8192 in
    take_all 8192 (drop (8192 * q) blob) (omega (arith, length-drop (8192 * q) blob)) ∙ sym held.block
