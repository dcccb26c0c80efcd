use Rattle.std.proofs.Common.{◌≡◌, ◌≢◌, ◌++◌, Some, refl}
use Rattle.disk_model.specs.Past.{page_at}
use Rattle.disk_model.proofs.Moments.{at_end}
use Rattle.disk_model.proofs.Regions.{settled_outside}
use Rattle.disk_model.proofs.laws.untouched_page.Goals as goal

pub returns : goal.returns
returns c = λ past acts n value one within image is.
    let after = record past { trail = past.trail ++ acts } in
    at_end (λ l. page_at l n ≡ value) (Some past) (Some after)
    (settled_outside (λ k. k ≢ n) n value (Some past) (Some after) (λ ne. ne refl) one (record { start = refl; trail = (acts, refl, within) })) image is
