use Rattle.std.proofs.Common.{◌≡◌, List, ℕ, None, refl, subst}
use Rattle.far_archive.specs.Archive.{IsArchive}
use Rattle.far_archive.specs.Faults.{first_fault}
use Rattle.package_book.proofs.reading.archive_in.Goals as goal

pub returns-in-Ok-clause-found : goal.returns-in-Ok-clause-found
returns-in-Ok-clause-found c =
    let is = c.into_vec.ensures.list in (
      subst (λ (l : List ℕ). first_fault l ≡ None) is (c.in-Ok.ensures.exact.0 refl),
      c.texts_stand_or_have_a_fault.ensures.one c.args.bytes c.in-Ok.archive (subst (λ (l : List ℕ). IsArchive l c.in-Ok.archive) is c.in-Ok.ensures.found),
    )
