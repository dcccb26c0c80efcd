use Rattle.std.proofs.Common.{◌+◌, ◌-◌, ◌%◌, length, arith, refl}
use Rattle.std.proofs.lemmas.Slice.{take-put_mid}
use Rattle.pkg_merkle.proofs.Feeding.{StandsFor-keep}
use Rattle.pkg_merkle.proofs.hasher.Hasher.keep.Goals as goal

pub returns-clause-grown : goal.returns-clause-grown
returns-clause-grown c = λ blob held.
    let used = c.args.self.now.length % 8192 in
    let placed = take-put_mid used (used + length c.args.bytes.now - used) c.args.self.now.buffer c.args.bytes.now (used + length c.args.bytes.now) refl (omega arith) in
    StandsFor-keep c.args.self.now _ blob c.args.bytes.now held c.requires.fits c.requires.short refl refl
    (rw (← held.count, c.copy_from_slice.ensures.after) placed)
