use Rattle.std.proofs.Common.{length, drop, ap, ◌∙◌}
use Rattle.pkg_names.proofs.Taken.{took_front}
use Rattle.pkg_names.proofs.streams.memory.MemSourceSource.take.Goals as goal

pub returns-clause-took : goal.returns-clause-took
returns-clause-took c =
    let rest = c.split_at.ensures.back ∙ ap (drop c.self.inside.place) c.as_slice.ensures.list in
    rw (← c.self.view_is) (took_front c.self.inside.bytes c.split_at.result.1.now c.copy_front-count.new.out c.args.out.now c.self.inside.place c.copy_front-count.result (length c.args.out.now) rest c.requires c.copy_front-count.ensures.count c.copy_front-count.ensures.copied)
