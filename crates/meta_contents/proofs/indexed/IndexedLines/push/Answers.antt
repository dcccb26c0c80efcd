use Rattle.std.proofs.Common.{◌∙◌}
use Rattle.meta_contents.proofs.Placing.{known_more}
use Rattle.meta_contents.proofs.indexed.IndexedLines.push.Goals as goal

pub invariant_of-self-in-Ok : goal.invariant_of-self-in-Ok
invariant_of-self-in-Ok c =
    known_more c.self.inside.index c.insert.new.self c.self.inside.lines.items c.push.new.self.items c.args.line c.in_ok-path.path c.self.invariant
    c.in-Ok.ensures.updates (c.in_ok-path.ensures.items ∙ c.as_slice.ensures.text) c.in_ok-push.ensures.items
