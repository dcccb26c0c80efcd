use Rattle.std.proofs.Common.{◌+◌, IfSome, sym, subst, ◌∙◌, arith}
use Rattle.std.specs.List.{AllByRecursion}
use Rattle.std.proofs.lemmas.List.{length_push}
use Rattle.disk_model.specs.Past.{Pages, IsPage}
use Rattle.disk_model.specs.Disks.{ReadsPages}
use Rattle.disk_model.proofs.CopyLemmas.{pages_push, reads_push}
use Rattle.disk_model.proofs.copy.read_pages.Goals as goal

pub loop-page-preserved : goal.loop-page-preserved
loop-page-preserved g c =
    let inv = c.loop-page.invariant in
    let step = c.in_ok-read_next.ensures in
    let bytes = step.read.0 in
    let may = rw inv.past_stays at step.read.3 in
    record {
      pages = subst (AllByRecursion IsPage) (sym {A = Pages} step.read.1) (pages_push c.loop-page.pages.items bytes inv.pages step.read.2);
      size = rw step.read.1 (omega (arith, length_push c.loop-page.pages.items bytes, inv.size));
      read = subst (λ (l : Pages). IfSome (g.D.Disk.past c.args.disk.now) (λ past. ReadsPages past (c.loop-page.page + 1) l)) (sym {A = Pages} step.read.1) (reads_push (g.D.Disk.past c.args.disk.now) c.loop-page.page c.loop-page.pages.items bytes inv.read may);
      past_stays = step.past_stays ∙ inv.past_stays;
      tie_stays = step.tie_stays ∙ inv.tie_stays;
      pages_stay = step.pages_stay ∙ inv.pages_stay;
      counted = omega (arith, step.counted, inv.counted);
      reads = omega (arith, step.counted, inv.reads);
      faults_never_fall = omega (arith, step.faults_never_fall, inv.faults_never_fall);
    }
