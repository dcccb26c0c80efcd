use Rattle.far_archive.specs.Written.{listed}
use Rattle.far_archive.proofs.Made.{written_is}
use Rattle.far_archive.proofs.write.written.Goals as goal

pub returns-clause-text : goal.returns-clause-text
returns-clause-text c =
    written_is (listed c.args.entries.now) c.in-Some.p c.in-Some-data_start.start c.put_front.new.out.items c.fill.new.out.items c.put_files.new.out.items c.in-Some.ensures.value c.in-Some-data_start.ensures
    c.in_ok-put_front.ensures c.in_ok-fill.ensures c.in_ok-put_files.ensures
