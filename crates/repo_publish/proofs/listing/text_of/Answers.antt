use Rattle.std.proofs.Common.{◌≡◌, ℕ, ◌+◌, List, [], ◌∷◌, ◌++◌, take, All, sym, ap, subst, ◌∙◌, arith}
use Rattle.std.proofs.lemmas.List.{take_more, flat_map_more}
use Rattle.std.proofs.lemmas.List.Elements.{All-push}
use Rattle.pkg_names.specs.Text.{line_feed}
use Rattle.pkg_names.specs.declared.pinned.Pinned.{Pinned}
use Rattle.system_lists.specs.Lists.{IsPinned}
use Rattle.system_lists.specs.Static.{line_text}
use Rattle.repo_publish.specs.Published.{listing_text}
use Rattle.repo_publish.proofs.listing.text_of.Goals as goal

whole_line : Pinned → List ℕ
whole_line pair = line_text pair ++ line_feed ∷ []

pub loop-pair-preserved : goal.loop-pair-preserved
unfolding whole_line
loop-pair-preserved c =
    let at = c.loop-pair.pair-index in
    let pairs = c.args.listing.now in
    let pair = c.pair-item.result in
    let more : take (at + 1) pairs ≡ take at pairs ++ pair ∷ [] =
    take_more pairs at pair (omega arith) ∙ ap (λ (p : Pinned). take at pairs ++ p ∷ []) (sym c.pair-item.is) in
    record {
      text = c.in_ok-put_line.ensures.text ∙ ap (λ (t : List ℕ). t ++ whole_line pair) c.loop-pair.invariant.text
          ∙ flat_map_more whole_line [] (take at pairs) pair ∙ ap listing_text (sym more);
      pinned = subst (All IsPinned) (sym more) (All-push IsPinned (take at pairs) pair c.loop-pair.invariant.pinned c.in_ok-put_line.ensures.pinned);
    }
