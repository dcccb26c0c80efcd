use Rattle.std.proofs.Common.{◌*◌, ◌/◌, length}
use Rattle.std.proofs.lemmas.List.{append_assoc, take-append-drop}
use Rattle.pkg_merkle.proofs.hasher.Hasher.add_blocks.Goals as goal

pub returns-clause-grown : goal.returns-clause-grown
returns-clause-grown c = λ blob held.
    let bytes = c.args.bytes.now in
    let whole = take-append-drop (length bytes / 8192 * 8192) bytes in
    let grown = c.keep.ensures.grown _ (c.hash_blocks.ensures.grown blob held) in
    rw (c.split_at.ensures.front, c.split_at.ensures.back, append_assoc, whole) at grown
