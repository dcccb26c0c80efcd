use Rattle.std.proofs.Common.{◌≡◌, ℕ, get_or, Option, Ok, sym, subst, ◌∙◌, arith}
use Rattle.std.proofs.lemmas.List.{get_or_read}
use Rattle.disk_model.specs.Past.{Past}
use Rattle.node_table.specs.declared.entry.Entry.{Entry}
use Rattle.image_layout.specs.Geometry.{data_start}
use Rattle.blob_disk.specs.Reading.{Checks, IsRotten}
use Rattle.blob_disk.proofs.GoodBlobs.{good_all, good_next, rotten_found}
use Rattle.blob_disk.proofs.checking.check_all.Goals as goal

pub returns-in-Err-Rotten-clause-damaged : goal.returns-in-Err-Rotten-clause-damaged
returns-in-Err-Rotten-clause-damaged g c = λ second some.
    let disk = g.D.Disk in
    let g0 = c.args.geometry.now in
    let entries = c.args.entries.now in
    let told = disk.past c.args.disk.now in
    let i : ℕ = c.loop-entry.entry-index in
    let entry : Entry = c.entry-item.result in
    let here : (d : Entry) → get_or entries i d ≡ entry = λ d. sym (get_or_read entries i entry c.loop-entry-test.true c.entry-item.is d) in
    let got = c.in-Err-Rotten.field-0-0 in
    let rotten = rw c.in-Err-Rotten.field-0-is at c.in-Err-Rotten.ensures.checks in
    let here_rotten = subst (λ (t : Option Past). IsRotten t (data_start g0) entry got) c.loop-entry.invariant.past_stays (subst (λ (s : ℕ). IsRotten (disk.past c.loop-entry.disk) s entry got) c.data_start-start.ensures rotten) in
    rotten_found told (disk.pages c.args.disk.now) g0 second entries i entry c.requires.limits c.requires.room c.pages-count.ensures.told c.requires.sound c.loop-entry-test.true here got here_rotten (c.loop-entry.invariant.good second some)

pub loop-entry-preserved : goal.loop-entry-preserved
loop-entry-preserved g c =
    let disk = g.D.Disk in
    let g0 = c.args.geometry.now in
    let entries = c.args.entries.now in
    let told = disk.past c.args.disk.now in
    let i : ℕ = c.loop-entry.entry-index in
    let entry : Entry = c.entry-item.result in
    let here : (d : Entry) → get_or entries i d ≡ entry = λ d. sym (get_or_read entries i entry c.loop-entry-test.true c.entry-item.is d) in
    let inv = c.loop-entry.invariant in
    let step = c.check_entry.ensures in
    let len : ℕ = c.in-Ok.field-0 in
    let checks = subst (λ (t : Option Past). Checks t (data_start g0) entry (Ok len)) inv.past_stays (subst (λ (s : ℕ). Checks (disk.past c.loop-entry.disk) s entry (Ok len)) c.data_start-start.ensures c.in-Ok.ensures.checks) in
    record {
      good = λ second some. good_next told (disk.pages c.args.disk.now) g0 second entries i entry c.requires.limits c.requires.room c.pages-count.ensures.told c.requires.sound c.loop-entry-test.true here len checks (inv.good second some);
      past_stays = step.past_stays ∙ inv.past_stays;
      pages_stay = step.pages_stay ∙ inv.pages_stay;
      tie_stays = step.tie_stays ∙ inv.tie_stays;
      faults_never_fall = omega (arith, step.faults_never_fall, inv.faults_never_fall);
    }

pub returns-clause-good : goal.returns-clause-good
returns-clause-good g c = λ second some.
    good_all (g.D.Disk.past c.args.disk.now) c.args.geometry.now second c.args.entries.now c.loop-entry.entry-index c.loop-entry-test.false (c.loop-entry.invariant.good second some)
