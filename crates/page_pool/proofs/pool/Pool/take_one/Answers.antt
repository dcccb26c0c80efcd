use Rattle.std.proofs.Common.{◌+◌, ◌-◌, ◌*◌, ℕ, Bool, true, List, Option, IfSome, length, get_or, sym, ◌∙◌, ap, subst, arith}
use Rattle.std.proofs.lemmas.List.{take_at, get_or_read}
use Rattle.page_pool.specs.Flags.{free_count}
use Rattle.page_pool.specs.Words.{IsFirstFree, NoneFreeBelow}
use Rattle.page_pool.proofs.FlagLemmas.{set_free_count}
use Rattle.page_pool.proofs.WordLemmas.{flags_then, pool_then, from_within, finds_one, taken_inside, taken_free, taken_passed, some_from}
use Rattle.page_pool.proofs.pool.Pool.take_one.Goals as goal

pub first_free_word-requires : goal.first_free_word-requires
first_free_word-requires c =
    from_within c.self.inside.pages c.self.inside.free c.args.from.now 0 0 0 c.self.inside.words.items c.deref.result.now c.args.self.now c.self.invariant c.self.view_is c.deref.ensures.value c.requires.passed c.requires.some

pub unwrap-place-requires : goal.unwrap-place-requires
unwrap-place-requires c =
    some_from c.first_free_word.result
    (λ none. finds_one c.self.inside.pages c.self.inside.free c.args.from.now 0 0 0 c.self.inside.words.items c.deref.result.now c.args.self.now c.self.invariant c.self.view_is c.deref.ensures.value c.requires.passed c.requires.some (c.first_free_word.ensures.none.0 none))

pub index-requires : goal.index-requires
index-requires c = omega (arith, (subst (λ (o : Option ℕ). IfSome o (IsFirstFree c.deref.result.now c.args.from.now)) c.unwrap-place.ensures c.first_free_word.ensures.first).inside, ap length c.deref.ensures.value, c.self.inside.words.ok.0)

pub lowest_clear-requires : goal.lowest_clear-requires
lowest_clear-requires c =
    let first = (subst (λ (o : Option ℕ). IfSome o (IsFirstFree c.deref.result.now c.args.from.now)) c.unwrap-place.ensures c.first_free_word.ensures.first) in
    let read = get_or_read c.self.inside.words.items c.unwrap-place.result c.index.result.now (omega (arith, first.inside, ap length c.deref.ensures.value)) c.index.ensures 0 in
    λ e. first.free (ap (λ (l : List ℕ). get_or l c.unwrap-place.result 0) c.deref.ensures.value ∙ sym read ∙ e)

pub overflow_add-page : goal.overflow_add-page
overflow_add-page c =
    let first = (subst (λ (o : Option ℕ). IfSome o (IsFirstFree c.deref.result.now c.args.from.now)) c.unwrap-place.ensures c.first_free_word.ensures.first) in
    let read = get_or_read c.self.inside.words.items c.unwrap-place.result c.index.result.now (omega (arith, first.inside, ap length c.deref.ensures.value)) c.index.ensures 0 in
    record {
      fits = omega (arith, c.self.invariant.small, taken_inside c.self.inside.pages c.self.inside.free c.args.from.now c.unwrap-place.result c.lowest_clear.result c.index.result.now c.self.inside.words.items c.deref.result.now c.args.self.now c.self.invariant c.self.view_is c.deref.ensures.value c.requires.passed first read c.lowest_clear.ensures.below c.lowest_clear.ensures.clear);
    }

pub invariant_of-self : goal.invariant_of-self
invariant_of-self c =
    let first = (subst (λ (o : Option ℕ). IfSome o (IsFirstFree c.deref.result.now c.args.from.now)) c.unwrap-place.ensures c.first_free_word.ensures.first) in
    let read = get_or_read c.self.inside.words.items c.unwrap-place.result c.index.result.now (omega (arith, first.inside, ap length c.deref.ensures.value)) c.index.ensures 0 in
    let page = c.unwrap-place.result * 64 + c.lowest_clear.result in
    let free = c.self.invariant.counted ∙ ap free_count c.self.view_is in
    let was = taken_free c.self.inside.pages c.self.inside.free c.args.from.now c.unwrap-place.result c.lowest_clear.result c.index.result.now c.self.inside.words.items c.deref.result.now c.args.self.now c.self.invariant c.self.view_is c.deref.ensures.value c.requires.passed first read c.lowest_clear.ensures.below c.lowest_clear.ensures.clear in
    pool_then c.self.inside.pages c.self.inside.free page true c.self.inside.words.items c.deref_mut.result.now c.set_flag.new.words _ c.args.self.now
    c.self.invariant c.self.view_is c.deref_mut.ensures.value c.set_flag.ensures
    (take_at c.set_flag.new.words _ _ (omega (arith, c.set_flag.ensures.size, c.deref_mut.ensures.len)))
    (c.self.inside.free - 1) (taken_inside c.self.inside.pages c.self.inside.free c.args.from.now c.unwrap-place.result c.lowest_clear.result c.index.result.now c.self.inside.words.items c.deref.result.now c.args.self.now c.self.invariant c.self.view_is c.deref.ensures.value c.requires.passed first read c.lowest_clear.ensures.below c.lowest_clear.ensures.clear) (omega (arith, free, set_free_count c.args.self.now page was))

pub returns-clause-was_free : goal.returns-clause-was_free
returns-clause-was_free c =
    let first = (subst (λ (o : Option ℕ). IfSome o (IsFirstFree c.deref.result.now c.args.from.now)) c.unwrap-place.ensures c.first_free_word.ensures.first) in
    let read = get_or_read c.self.inside.words.items c.unwrap-place.result c.index.result.now (omega (arith, first.inside, ap length c.deref.ensures.value)) c.index.ensures 0 in
    taken_free c.self.inside.pages c.self.inside.free c.args.from.now c.unwrap-place.result c.lowest_clear.result c.index.result.now c.self.inside.words.items c.deref.result.now c.args.self.now c.self.invariant c.self.view_is c.deref.ensures.value c.requires.passed first read c.lowest_clear.ensures.below c.lowest_clear.ensures.clear

pub returns-clause-taken : goal.returns-clause-taken
returns-clause-taken c =
    let first = (subst (λ (o : Option ℕ). IfSome o (IsFirstFree c.deref.result.now c.args.from.now)) c.unwrap-place.ensures c.first_free_word.ensures.first) in
    let read = get_or_read c.self.inside.words.items c.unwrap-place.result c.index.result.now (omega (arith, first.inside, ap length c.deref.ensures.value)) c.index.ensures 0 in
    let page = c.unwrap-place.result * 64 + c.lowest_clear.result in
    flags_then c.self.inside.pages c.self.inside.free page true c.self.inside.words.items c.deref_mut.result.now c.set_flag.new.words _ c.args.self.now
    c.self.invariant c.self.view_is c.deref_mut.ensures.value c.set_flag.ensures
    (take_at c.set_flag.new.words _ _ (omega (arith, c.set_flag.ensures.size, c.deref_mut.ensures.len)))
    (taken_inside c.self.inside.pages c.self.inside.free c.args.from.now c.unwrap-place.result c.lowest_clear.result c.index.result.now c.self.inside.words.items c.deref.result.now c.args.self.now c.self.invariant c.self.view_is c.deref.ensures.value c.requires.passed first read c.lowest_clear.ensures.below c.lowest_clear.ensures.clear)

pub returns-clause-left : goal.returns-clause-left
returns-clause-left c =
    let page = c.unwrap-place.result * 64 + c.lowest_clear.result in
    omega (arith, ap free_count (returns-clause-taken c), set_free_count c.args.self.now page (returns-clause-was_free c))

pub returns-clause-passed : goal.returns-clause-passed
returns-clause-passed c =
    let first = (subst (λ (o : Option ℕ). IfSome o (IsFirstFree c.deref.result.now c.args.from.now)) c.unwrap-place.ensures c.first_free_word.ensures.first) in
    let read = get_or_read c.self.inside.words.items c.unwrap-place.result c.index.result.now (omega (arith, first.inside, ap length c.deref.ensures.value)) c.index.ensures 0 in
    subst (λ (l : List Bool). NoneFreeBelow l (64 * c.unwrap-place.result)) (sym (returns-clause-taken c))
    (taken_passed c.self.inside.pages c.self.inside.free c.args.from.now c.unwrap-place.result c.lowest_clear.result c.index.result.now c.self.inside.words.items c.deref.result.now c.args.self.now c.self.invariant c.self.view_is c.deref.ensures.value c.requires.passed first read c.lowest_clear.ensures.below c.lowest_clear.ensures.clear)
