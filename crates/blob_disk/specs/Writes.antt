-- How many data pages a call writes.
use Rattle.std.specs.Prelude.{ℕ, ◌+◌, ◌≤◌, nat_le, List, [], ◌∷◌, Option, if◌then◌else◌}
use Rattle.disk_model.specs.declared.act.DiskAct.{DiskAct}
use Rattle.disk_model.specs.declared.act.DiskAct.TheVariants.{Wrote, Failed, Synced}
use Rattle.disk_model.specs.Past.{Past}
use Rattle.disk_model.specs.Images.{Both}

-- how many of the acts write a page from this one on
abbrev pub writes_from : ℕ → List DiskAct → ℕ
writes_from start [] = 0
writes_from start (Wrote n bytes ∷ acts) = (if nat_le start n then 1 else 0) + writes_from start acts
writes_from start (Failed n bytes ∷ acts) = (if nat_le start n then 1 else 0) + writes_from start acts
writes_from start (Synced ∷ acts) = writes_from start acts

-- at most one page from this one on was written since, where the disk tells its past
abbrev pub AddsOnePage : ℕ → Option Past → Option Past → Type 0
AddsOnePage start old new =
    Both (λ before after. writes_from start after.trail ≤ writes_from start before.trail + 1) old new
