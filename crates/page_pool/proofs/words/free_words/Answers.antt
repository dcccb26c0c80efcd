use Rattle.std.proofs.Common.{◌%◌, ◌++◌, ℕ, List, ◌∙◌, ap}
use Rattle.page_pool.specs.Words.{last_word}
use Rattle.page_pool.proofs.WordLemmas.{new_words, new_flags}
use Rattle.page_pool.proofs.words.free_words.Goals as goal

pub returns-clause-words : goal.returns-clause-words
returns-clause-words c = new_words c.args.pages c.push_last.new.words.items (c.in_ok-push_last.ensures ∙ ap (λ (l : List ℕ). l ++ last_word (c.args.pages % 64)) c.in_ok-words.ensures)

pub returns-clause-free : goal.returns-clause-free
returns-clause-free c = new_flags c.args.pages c.push_last.new.words.items (c.in_ok-push_last.ensures ∙ ap (λ (l : List ℕ). l ++ last_word (c.args.pages % 64)) c.in_ok-words.ensures)
