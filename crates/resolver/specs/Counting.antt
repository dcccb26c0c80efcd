-- How often events of a kind stand in a run.
use Rattle.std.specs.Prelude.{ℕ, zero, suc, Bool, true, false, List, count_by, is_some}
use Rattle.package_indexes.specs.declared.Choice.TheVariants as choices
use Rattle.pkg_names.specs.Streams.{one_more}
use Rattle.store_model.specs.declared.ends.Miss.TheVariants as misses
use Rattle.store_model.specs.declared.ends.WantEnd.TheVariants as wants
use Rattle.store_model.specs.declared.events.Act.{Act}
use Rattle.store_model.specs.declared.events.Act.TheVariants as acts
use Rattle.store_model.specs.declared.events.CallName.TheVariants as calls
use Rattle.store_model.specs.History.{Numbered}
use Rattle.store_model.specs.Lanes.{ends_claim_of}

abbrev pub is_begin : Act → Bool
is_begin (acts.Begin path choice reply seen) = true
is_begin (acts.Refused (calls.Begin path) broken) = true
is_begin act = false

abbrev pub is_grant : Act → Bool
is_grant (acts.Want ticket (wants.Fetch root)) = true
is_grant act = false

-- the repository could not be asked, or could not be read
abbrev pub is_failure : Act → Bool
is_failure (acts.Begin path choices.Failed reply seen) = true
is_failure (acts.Missed root misses.Read) = true
is_failure act = false

-- how often a package was asked for
abbrev pub begins : List Numbered → ℕ
begins run = count_by (λ (e : Numbered). is_begin e.event.act) run

-- how often a blob was granted
abbrev pub grants : List Numbered → ℕ
grants run = count_by (λ (e : Numbered). is_grant e.event.act) run

-- how often a claim was ended
abbrev pub ends : List Numbered → ℕ
ends run = count_by (λ (e : Numbered). is_some (ends_claim_of e.event)) run

-- how often the events say that the repository failed
abbrev pub failures : List Numbered → ℕ
failures run = count_by (λ (e : Numbered). is_failure e.event.act) run

-- a count that was raised so many times
abbrev pub counted : ℕ → ℕ → ℕ
counted zero count = count
counted (suc times) count = one_more (counted times count)
