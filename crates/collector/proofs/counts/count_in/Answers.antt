use Rattle.std.proofs.Common.{ℕ, Option, sym, ap, ◌∙◌}
use Rattle.std.specs.Prelude.{option_copied}
use Rattle.std.specs.Option.{unwrap_or}
use Rattle.collector.proofs.Maps.{count_found}
use Rattle.collector.proofs.counts.count_in.Goals as goal

pub returns-in-Some : goal.returns-in-Some
returns-in-Some c =
    ap (λ (found : Option ℕ). unwrap_or found 0) (ap option_copied (sym c.in-Some.is) ∙ c.get.ensures.value) ∙ count_found c.args.counts.now c.args.root.now

pub returns-in-None : goal.returns-in-None
returns-in-None c =
    ap (λ (found : Option ℕ). unwrap_or found 0) (ap option_copied (sym c.in-None.is) ∙ c.get.ensures.value) ∙ count_found c.args.counts.now c.args.root.now
