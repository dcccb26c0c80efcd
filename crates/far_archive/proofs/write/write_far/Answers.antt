use Rattle.std.proofs.Common.{◌<◌, ◌≤◌, ◌^◌, List, ℕ, length, sym, subst, arith}
use Rattle.std.proofs.lemmas.List.{length-map}
use Rattle.far_archive.specs.declared.write.FarEntry.{FarEntry}
use Rattle.far_archive.specs.Archive.{IsArchive}
use Rattle.far_archive.specs.Written.{listed, written, IsOrdered}
use Rattle.far_archive.proofs.Made.{made_stands}
use Rattle.far_archive.proofs.write.write_far.Goals as goal

pub returns-clause-stands : goal.returns-clause-stands
returns-clause-stands c =
    let files = listed c.args.entries.now in
    let ordered : IsOrdered files = rw c.in_default.is at c.first_unordered.ensures.none in
    let few : length files ≤ 65536 = omega (arith, length-map {B = List ℕ × List ℕ} c.args.entries.now (λ (e : FarEntry). (e.name, e.bytes))) in
    let text = c.in_ok-written.ensures.text in
    let short : length (written files) < 2 ^ 64 = subst (λ (l : List ℕ). length l < 2 ^ 64) text c.in_ok-written.ensures.small in
    subst (λ (l : List ℕ). IsArchive l files) (sym text) (made_stands files c.in_ok-written.ensures.paths ordered few short)
