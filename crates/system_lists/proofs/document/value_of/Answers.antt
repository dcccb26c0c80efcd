use Rattle.std.proofs.Common.{List, ℕ, refl, inr, ap, sym, ◌∙◌}
use Rattle.serde_json.specs.Read as json
use Rattle.system_lists.proofs.Values.{none_in, found_in}
use Rattle.system_lists.proofs.document.value_of.Goals as goal

pub returns-in_default-clause-none : goal.returns-in_default-clause-none
returns-in_default-clause-none c = inr (refl, none_in c.args.bytes.now c.in_default.ensures.cases.0)

pub returns-in-Ok-from_str-clause-found : goal.returns-in-Ok-from_str-clause-found
returns-in-Ok-from_str-clause-found c =
    found_in c.args.bytes.now _ c.in-Ok.ensures.cases.1 (ap (λ (l : List ℕ). json.read l) (sym c.in-Ok.ensures.cases.0) ∙ c.in-Ok-from_str.ensures.ok)
