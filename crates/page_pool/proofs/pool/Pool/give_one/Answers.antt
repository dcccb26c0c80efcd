use Rattle.std.proofs.Common.{◌≡◌, ◌+◌, Bool, false, List, length, sym, ◌∙◌, ap, subst, arith}
use Rattle.std.proofs.lemmas.List.{take_at}
use Rattle.page_pool.specs.Flags.{IsTaken, free_count}
use Rattle.page_pool.proofs.FlagLemmas.{free_count-lt, set_taken_count}
use Rattle.page_pool.proofs.WordLemmas.{length-flags, taken_below, flags_then, pool_then}
use Rattle.page_pool.proofs.pool.Pool.give_one.Goals as goal

pub clear_flag-requires : goal.clear_flag-requires
clear_flag-requires c =
    let below = taken_below c.self.inside.pages c.self.inside.words.items c.args.page (subst (λ (l : List Bool). IsTaken l c.args.page) (sym c.self.view_is) c.requires.taken) in
    omega (arith, below, c.self.invariant.words_of.enough, ap length c.deref_mut.ensures.value)

pub overflow_add-self : goal.overflow_add-self
overflow_add-self c =
    let free = c.self.invariant.counted ∙ ap free_count c.self.view_is in
    let all : length c.args.self.now ≡ c.self.inside.pages = sym (ap length c.self.view_is) ∙ length-flags c.self.inside.pages c.self.inside.words.items in
    record { fits = omega (arith, free, all, free_count-lt c.args.self.now c.args.page c.requires.taken, c.self.invariant.small) }

pub invariant_of-self : goal.invariant_of-self
invariant_of-self c =
    let below = taken_below c.self.inside.pages c.self.inside.words.items c.args.page (subst (λ (l : List Bool). IsTaken l c.args.page) (sym c.self.view_is) c.requires.taken) in
    let free = c.self.invariant.counted ∙ ap free_count c.self.view_is in
    pool_then c.self.inside.pages c.self.inside.free c.args.page false c.self.inside.words.items c.deref_mut.result.now c.clear_flag.new.words _ c.args.self.now
    c.self.invariant c.self.view_is c.deref_mut.ensures.value c.clear_flag.ensures
    (take_at c.clear_flag.new.words _ _ (omega (arith, c.clear_flag.ensures.size, c.deref_mut.ensures.len)))
    (c.self.inside.free + 1) below (omega (arith, free, set_taken_count c.args.self.now c.args.page c.requires.taken))

pub returns : goal.returns
returns c =
    let below = taken_below c.self.inside.pages c.self.inside.words.items c.args.page (subst (λ (l : List Bool). IsTaken l c.args.page) (sym c.self.view_is) c.requires.taken) in
    record {
      given = flags_then c.self.inside.pages c.self.inside.free c.args.page false c.self.inside.words.items c.deref_mut.result.now c.clear_flag.new.words _ c.args.self.now
          c.self.invariant c.self.view_is c.deref_mut.ensures.value c.clear_flag.ensures
          (take_at c.clear_flag.new.words _ _ (omega (arith, c.clear_flag.ensures.size, c.deref_mut.ensures.len))) below;
    }
