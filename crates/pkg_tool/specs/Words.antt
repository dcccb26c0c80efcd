-- The words of a command.
use Rattle.std.specs.Prelude.{ℕ, ◌==◌, ◌&&◌, ◌||◌, not, Bool, false, List, [], ◌∷◌, codes}
use Rattle.std.specs.Str.{bytes_eq}
use Rattle.pkg_names.specs.Text.{hyphen}
use Rattle.pkg_tool.specs.declared.words.Command.{Command}
use Rattle.pkg_tool.specs.declared.words.Command.TheVariants.{Run, Merkle, Publish}

-- a word that may name something: not empty, and not an option
abbrev pub is_word : List ℕ → Bool
is_word [] = false
is_word (c ∷ cs) = not (c == hyphen)

-- this command and three such words
abbrev pub are_three_after : List ℕ → List (List ℕ) → Bool
are_three_after name (command ∷ first ∷ second ∷ third ∷ []) =
    bytes_eq command name && is_word first && is_word second && is_word third
are_three_after name words = false

-- this command and one such word
abbrev pub is_one_after : List ℕ → List (List ℕ) → Bool
is_one_after name (command ∷ word ∷ []) = bytes_eq command name && is_word word
is_one_after name words = false

abbrev pub are_run_words : List (List ℕ) → Bool
are_run_words words = are_three_after (codes "run") words

abbrev pub are_publish_words : List (List ℕ) → Bool
are_publish_words words = are_three_after (codes "publish") words

abbrev pub are_merkle_words : List (List ℕ) → Bool
are_merkle_words words = is_one_after (codes "merkle") words

abbrev pub are_words : List (List ℕ) → Bool
are_words words = are_run_words words || are_publish_words words || are_merkle_words words

-- the words that a command is made of
abbrev pub words_of : Command → List (List ℕ)
words_of (Run image repo script) = codes "run" ∷ image.now ∷ repo.now ∷ script.now ∷ []
words_of (Publish folder repo path) = codes "publish" ∷ folder.now ∷ repo.now ∷ path.now ∷ []
words_of (Merkle file) = codes "merkle" ∷ file.now ∷ []
