use Rattle.std.proofs.Common.{◌≡◌, ◌++◌, List, length, map, take, drop, arith, sym, subst}
use Rattle.std.proofs.lemmas.Grind.{common_steps}
use Rattle.plain_drafts.specs.Drafts.{DraftOf, Drafted, added, draft_of, room_in}
use Rattle.plain_drafts.proofs.Drafting.{added_drafted}
use Rattle.plain_drafts.proofs.drafts.Drafts.add.Goals as goal

pub returns : goal.returns
returns c =
    let e : take c.self.inside.drafts.len (c.add.new.drafts ++ drop (length c.add.new.drafts) c.self.inside.drafts.items)
    ≡ map (added c.args.lane c.args.bytes.now) c.args.self.now = grind (arith, common_steps) in
    subst (λ (new : List DraftOf). Drafted c.args.lane (room_in c.args.self.now c.args.lane) (draft_of c.args.self.now c.args.lane ++ c.args.bytes.now) c.args.self.now new)
    (sym e) (added_drafted c.args.lane c.args.bytes.now c.args.self.now c.requires)
