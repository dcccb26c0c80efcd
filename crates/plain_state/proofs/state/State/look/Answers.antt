use Rattle.std.proofs.Common.{◌≡◌, ◌≤◌, true, List, [], ◌∷◌, length, Some, is_some, sym, ap, subst, ◌∙◌, arith}
use Rattle.std.specs.Prelude.{option_copied}
use Rattle.package_book.specs.declared.book.TheConstants.{META_LIMIT}
use Rattle.store_model.specs.declared.events.LookedAt.{LookedAt}
use Rattle.store_model.specs.State.{State}
use Rattle.store_model.specs.Systems.{seen_bytes}
use Rattle.plain_state.specs.Looking.{Sees, AreAmong}
use Rattle.plain_state.proofs.Looking.{by_end, on_ok, sees_none, sees_one, among_none, among_one, seen_own}
use Rattle.plain_state.proofs.state.State.look.Goals as goal

pub returns-else-bytes-gt-META_LIMIT-clause-sees : goal.returns-else-bytes-gt-META_LIMIT-clause-sees
returns-else-bytes-gt-META_LIMIT-clause-sees c =
    let at : seen_bytes c.args.contents.now c.args.root ≡ Some c.in-Some.bytes.now = sym c.get.ensures ∙ ap option_copied c.in-Some.is in
    let short : length c.in-Some.bytes.now ≤ META_LIMIT = omega arith in
    by_end c.look_at.result (Sees c.args.contents.now c.args.seen.now.items c.look_at.new.seen.items c.args.self.now c.look_at.new.self) _ _ _ _ c.look_at.ensures.learns c.look_at.ensures.seen c.look_at.ensures.err c.look_at.ensures.unseen
    (λ learns seen. subst (λ (items : List LookedAt). Sees c.args.contents.now c.args.seen.now.items items c.args.self.now c.look_at.new.self) (sym seen)
    (sees_one c.args.contents.now c.args.seen.now.items c.args.root c.in-Some.bytes.now c.args.self.now c.look_at.new.self at short learns))
    (λ same unseen. subst (λ (items : List LookedAt). Sees c.args.contents.now c.args.seen.now.items items c.args.self.now c.look_at.new.self) (sym unseen)
    (subst (λ (s : State). Sees c.args.contents.now c.args.seen.now.items c.args.seen.now.items c.args.self.now s) (sym same) (sees_none c.args.contents.now c.args.seen.now.items c.args.self.now)))

pub returns-else-bytes-gt-META_LIMIT-clause-among : goal.returns-else-bytes-gt-META_LIMIT-clause-among
returns-else-bytes-gt-META_LIMIT-clause-among c =
    by_end c.look_at.result (AreAmong (c.args.root ∷ []) c.args.seen.now.items c.look_at.new.seen.items) _ _ _ _ c.look_at.ensures.learns c.look_at.ensures.seen c.look_at.ensures.err c.look_at.ensures.unseen
    (λ learns seen. subst (λ (items : List LookedAt). AreAmong (c.args.root ∷ []) c.args.seen.now.items items) (sym seen) (among_one c.args.seen.now.items c.args.root c.in-Some.bytes.now))
    (λ same unseen. subst (λ (items : List LookedAt). AreAmong (c.args.root ∷ []) c.args.seen.now.items items) (sym unseen) (among_none (c.args.root ∷ []) c.args.seen.now.items))

pub returns-else-bytes-gt-META_LIMIT-clause-looked : goal.returns-else-bytes-gt-META_LIMIT-clause-looked
returns-else-bytes-gt-META_LIMIT-clause-looked c =
    on_ok c.look_at.result _ _ c.look_at.ensures.seen
    (λ seen bytes at short. subst (λ (items : List LookedAt). is_some (seen_bytes items c.args.root) ≡ true) (sym seen) (seen_own c.args.seen.now.items c.args.root c.in-Some.bytes.now))
