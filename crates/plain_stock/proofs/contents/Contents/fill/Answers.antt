use Rattle.std.proofs.Common.{◌≡◌, List, true, Some, is_some, subst, sym, ap, ◌∙◌}
use Rattle.std.specs.Option.{option_copied_mut}
use Rattle.std.specs.BTreeMap.{get}
use Rattle.std.proofs.lemmas.Bool.{true≢false}
use Rattle.store_model.specs.declared.events.LookedAt.{LookedAt}
use Rattle.store_model.specs.Systems.{seen_bytes}
use Rattle.plain_stock.specs.Contents.{Holds, contents_in}
use Rattle.plain_stock.proofs.ContentsMap.{holds, is_got, root_cmp}
use Rattle.plain_stock.proofs.contents.Contents.fill.Goals as goal
use Rattle.plain_stock.proofs.contents.Contents.fill.Goals.{in-Some, in_default}

pub returns : goal.returns
returns c =
    let found : is_some (get root_cmp c.self.inside.blobs c.args.root.now) ≡ true =
    ap is_some (sym (is_got c.self.inside.blobs c.args.root.now))
    ∙ ap (λ (old : List LookedAt). is_some (seen_bytes old c.args.root.now)) c.self.view_is ∙ c.requires in
    subst (λ (old : List LookedAt). Holds c.args.root.now (Some c.args.bytes) old (contents_in c.match-get_mut.self-inside.blobs)) c.self.view_is
    (holds c.args.root.now (Some c.args.bytes) c.self.inside.blobs c.match-get_mut.self-inside.blobs (elim c.match-get_mut.branch [
      | in-Some w ↦ rw w.self-inside-is ((c.get_mut.follows.holds c.args.bytes).3 found).0
      | in_default w ↦ absurd (true≢false (sym found ∙ ap is_some (sym c.get_mut.ensures.value ∙ ap option_copied_mut w.in_default.is)))
    ]))
