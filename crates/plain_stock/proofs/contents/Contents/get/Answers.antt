use Rattle.std.proofs.Common.{ℕ, List, Some, sym, ap, ◌∙◌}
use Rattle.std.specs.Prelude.{option_copied}
use Rattle.store_model.specs.declared.events.LookedAt.{LookedAt}
use Rattle.store_model.specs.Systems.{seen_bytes}
use Rattle.plain_stock.proofs.ContentsMap.{is_got}
use Rattle.plain_stock.proofs.contents.Contents.get.Goals as goal

pub returns-in-Some : goal.returns-in-Some
returns-in-Some c =
    ap (λ (bytes : List ℕ). Some bytes) c.as_slice.ensures.list
    ∙ ap option_copied (sym c.in-Some.is)
    ∙ c.get.ensures.value
    ∙ sym (is_got c.self.inside.blobs c.args.root.now)
    ∙ ap (λ (blobs : List LookedAt). seen_bytes blobs c.args.root.now) c.self.view_is

pub returns-in-None : goal.returns-in-None
returns-in-None c =
    ap option_copied (sym c.in-None.is)
    ∙ c.get.ensures.value
    ∙ sym (is_got c.self.inside.blobs c.args.root.now)
    ∙ ap (λ (blobs : List LookedAt). seen_bytes blobs c.args.root.now) c.self.view_is
