use Rattle.std.proofs.Common.{ℕ, List, Some, sym, ap, ◌∙◌}
use Rattle.std.specs.Prelude.{option_copied}
use Rattle.std.specs.Option.{option_map}
use Rattle.store_model.specs.declared.events.LookedAt.{LookedAt}
use Rattle.plain_state.proofs.SeenPairs.{seen_bytes-find}
use Rattle.plain_state.proofs.judging.bytes_in.Goals as goal

pub returns-in-Some : goal.returns-in-Some
returns-in-Some c =
    ap (λ (bytes : List ℕ). Some bytes) c.as_slice.ensures.list
    ∙ ap (option_map (λ (pair : LookedAt). pair.bytes)) (ap option_copied (sym c.in-Some.is) ∙ c.pair_of.ensures)
    ∙ sym (seen_bytes-find c.args.seen.now c.args.root.now)

pub returns-in-None : goal.returns-in-None
returns-in-None c =
    ap (option_map (λ (pair : LookedAt). pair.bytes)) (ap option_copied (sym c.in-None.is) ∙ c.pair_of.ensures)
    ∙ sym (seen_bytes-find c.args.seen.now c.args.root.now)
