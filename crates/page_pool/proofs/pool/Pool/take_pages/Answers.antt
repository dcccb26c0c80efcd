use Rattle.std.proofs.Common.{◌≢◌, ℕ, Bool, true, List, All, sym, ap, subst, ◌∙◌, arith, length, set}
use Rattle.std.proofs.lemmas.List.{length_push}
use Rattle.std.proofs.lemmas.List.Elements.{All-push}
use Rattle.std.proofs.lemmas.List.Quantifiers.{all_pairs_push}
use Rattle.page_pool.specs.Flags.{IsFree, IsTaken, AreDistinct, with_flags}
use Rattle.page_pool.proofs.FlagLemmas.{still_free, with_flags-push, are_taken}
use Rattle.page_pool.proofs.pool.Pool.take_pages.Goals as goal

pub loop-i-preserved : goal.loop-i-preserved
loop-i-preserved c =
    let inv = c.loop-i.invariant in
    let out = c.loop-i.out.items in
    let page = c.take_one.result in
    let first = c.args.self.now in
    let free = still_free out first page (subst (λ (l : List Bool). IsFree l page) inv.taken c.take_one.ensures.was_free) in
    let longer = sym {A = List ℕ} c.push_reserved.ensures.items in
    record {
      given = ap length c.push_reserved.ensures.items ∙ (omega (arith, length_push out page, inv.given));
      were_free = subst (All (IsFree first)) longer (All-push (IsFree first) out page inv.were_free free.0);
      apart = subst AreDistinct longer (all_pairs_push (λ a b. a ≢ b) out page inv.apart free.1);
      taken = c.take_one.ensures.taken ∙ ap (λ (l : List Bool). set l page true) inv.taken ∙ sym (with_flags-push true out page first) ∙ ap (λ (l : List ℕ). with_flags true l first) longer;
      left = omega (arith, c.take_one.ensures.left, inv.left);
      passed = c.take_one.ensures.passed;
      space = c.push_reserved.ensures.capacity ∙ inv.space;
    }

pub returns-clause-are_taken : goal.returns-clause-are_taken
returns-clause-are_taken c =
    let inv = c.loop-i.invariant in
    subst (λ (l : List Bool). All (IsTaken l) c.loop-i.out.items) (sym {A = List Bool} inv.taken) (are_taken c.loop-i.out.items c.args.self.now inv.were_free)
