use Rattle.std.proofs.Common.{ℕ, ◌++◌, List, sym, ◌∙◌, ap}
use Rattle.std.proofs.lemmas.List.{append-nil}
use Rattle.page_pool.proofs.WordLemmas.{last_word_none, last_word_some}
use Rattle.page_pool.proofs.words.push_last.Goals as goal

pub returns-in_ok-push : goal.returns-in_ok-push
returns-in_ok-push c = c.in_ok-push.ensures.items ∙ ap (λ (l : List ℕ). c.args.words.now.items ++ l) (last_word_some c.args.rest c.requires c.if-rest-ne0.true)

pub returns-else-rest-ne0 : goal.returns-else-rest-ne0
returns-else-rest-ne0 c = sym (ap (λ (l : List ℕ). c.args.words.now.items ++ l) (last_word_none c.args.rest c.if-rest-ne0.false) ∙ append-nil c.args.words.now.items)
