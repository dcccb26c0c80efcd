use Rattle.std.proofs.Common.{◌≡◌, List, ℕ, All, inl, refl, sym, ap, subst, ◌∙◌, length}
use Rattle.std.specs.Prelude.{◌||◌, nat_lt}
use Rattle.pkg_names.specs.declared.pinned.Pinned.{Pinned}
use Rattle.system_lists.specs.declared.list.TheConstants.{ENTRY_LIMIT, LIST_LIMIT}
use Rattle.system_lists.specs.Lists.{IsPinned}
use Rattle.system_lists.specs.Static.{static_of}
use Rattle.repo_publish.specs.Published.{set_pair, listing_text, is_over}
use Rattle.repo_publish.proofs.Listed.{once_set, stands_set}
use Rattle.repo_publish.proofs.listing.text_with.Goals as goal

tested : (next pairs : List Pinned) (text : List ℕ) → pairs ≡ next → text ≡ listing_text next → (nat_lt ENTRY_LIMIT (length pairs) || nat_lt LIST_LIMIT (length text)) ≡ is_over next
tested next pairs text same is =
    ap (λ (l : List Pinned). nat_lt ENTRY_LIMIT (length l) || nat_lt LIST_LIMIT (length text)) same
    ∙ ap (λ (t : List ℕ). nat_lt ENTRY_LIMIT (length next) || nat_lt LIST_LIMIT (length t)) is

pub returns-then-is_over-clause-end : goal.returns-then-is_over-clause-end
returns-then-is_over-clause-end c =
    let next = set_pair c.args.path.now c.args.root c.args.listing in
    let pairs : c.set_pair.new.listing.items ≡ next = c.in-Ok.ensures ∙ ap (set_pair c.args.path.now c.args.root) c.into_vec-pairs.ensures.list in
    let text : c.in-Ok-text_of.text.items ≡ listing_text next = c.in-Ok-text_of.ensures.text ∙ ap listing_text (c.deref.ensures.value ∙ pairs) in
    inl (refl, sym (tested next c.deref-2.result.now c.deref-3.result.now (c.deref-2.ensures.value ∙ pairs) (c.deref-3.ensures.value ∙ text)) ∙ sym c.is_over.ensures ∙ c.if-is_over.true)

pub returns-clause-text : goal.returns-clause-text
returns-clause-text c =
    let next = set_pair c.args.path.now c.args.root c.args.listing in
    let pairs : c.set_pair.new.listing.items ≡ next = c.in-Ok.ensures ∙ ap (set_pair c.args.path.now c.args.root) c.into_vec-pairs.ensures.list in
    let text : c.in-Ok-text_of.text.items ≡ listing_text next = c.in-Ok-text_of.ensures.text ∙ ap listing_text (c.deref.ensures.value ∙ pairs) in
    let short = sym (tested next c.deref-2.result.now c.deref-3.result.now (c.deref-2.ensures.value ∙ pairs) (c.deref-3.ensures.value ∙ text)) ∙ sym c.is_over.ensures ∙ c.if-is_over.false in
    let each : All IsPinned next = subst (λ (l : List Pinned). All IsPinned l) (c.deref.ensures.value ∙ pairs) c.in-Ok-text_of.ensures.pinned in
    record {
      short = short;
      read = ap static_of text ∙ c.texts_stand_for_what_is_read.ensures.only (listing_text next) next
          (stands_set next (once_set c.args.path.now c.args.root c.args.listing c.requires) each short);
    }
