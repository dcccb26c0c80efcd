use Rattle.std.proofs.Common.{◌≡◌, List, Result, sym, ap, subst, ◌∙◌}
use Rattle.script_lang.specs.declared.request.Ask.{Ask}
use Rattle.script_lang.specs.declared.request.Ask.TheVariants as asks
use Rattle.store_model.specs.Desk.{View}
use Rattle.system_updater.specs.Viewing.{Told}
use Rattle.lane_server.specs.declared.names.Binding.{Binding}
use Rattle.lane_server.specs.Serving.{Place, ServesOne}
use Rattle.lane_server.specs.Viewing.{Does}
use Rattle.lane_server.proofs.serving.serve.Goals as goal

-- what was asked is this
at_ask : (A E H : Type 0) (place : Place) (result : Result A E) (names later : List Binding) (a b : Ask) (v w : View) (r s : Told) (F G : Type 0) → b ≡ a → Does (λ run. ServesOne H place result names a run later) v w r s F G → Does (λ run. ServesOne H place result names b run later) v w r s F G
at_ask A E H place result names later a b v w r s F G same does = subst (λ (x : Ask). Does (λ run. ServesOne H place result names x run later) v w r s F G) (sym same) does

pub returns-in-OpenPath : goal.returns-in-OpenPath
returns-in-OpenPath g c = at_ask _ _ _ _ _ _ _ _ _ _ _ _ _ _ _ c.in-OpenPath.is (c.open.ensures _)

pub returns-in-Cat : goal.returns-in-Cat
returns-in-Cat g c = at_ask _ _ _ _ _ _ _ _ _ _ _ _ _ _ _ c.in-Cat.is (c.read.ensures _)

pub returns-in-Check : goal.returns-in-Check
returns-in-Check g c = at_ask _ _ _ _ _ _ _ _ _ _ _ _ _ _ _ c.in-Check.is (c.check.ensures _)

pub returns-in-Close : goal.returns-in-Close
returns-in-Close g c = at_ask _ _ _ _ _ _ _ _ _ _ _ _ _ _ _ c.in-Close.is (c.close.ensures _)

pub returns-in-Collect : goal.returns-in-Collect
returns-in-Collect g c = at_ask _ _ _ _ _ _ _ _ _ _ _ _ _ _ _ c.in-Collect.is (c.collect.ensures _)

pub returns-in-Retain : goal.returns-in-Retain
returns-in-Retain g c = at_ask _ _ _ _ _ _ _ _ _ _ _ _ _ _ _ (c.in-Retain.is ∙ ap asks.Retain (sym c.as_slice.ensures.list)) (c.retain.ensures _)

pub returns-in-Commit : goal.returns-in-Commit
returns-in-Commit g c = at_ask _ _ _ _ _ _ _ _ _ _ _ _ _ _ _ c.in-Commit.is (c.commit.ensures _)
