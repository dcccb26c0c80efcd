-- What was written, where the sink tells it.
use Rattle.std.specs.Prelude.{◌≡◌, ℕ, ◌<◌, List, ◌++◌, length, take, Option}
use Rattle.std.specs.Option.{option_map}
use Rattle.store_model.specs.declared.events.Event.{Event}
use Rattle.script_lang.specs.Text.{text}

-- the bytes were written behind what was there
abbrev pub Wrote : Option (List ℕ) → List ℕ → Option (List ℕ) → Type 0
Wrote before bytes after = after ≡ option_map (λ written. written ++ bytes) before

-- a front of the bytes was
abbrev pub WroteFront : Option (List ℕ) → List ℕ → Option (List ℕ) → Type 0
WroteFront before bytes after = (count : ℕ) × Wrote before (take count bytes) after

-- the lines of the first events were, each whole
abbrev pub WroteLines : Option (List ℕ) → List Event → Option (List ℕ) → Type 0
WroteLines before history after = (count : ℕ) × Wrote before (text (take count history)) after

-- so they were, and at least one line is missing
abbrev pub WroteFewer : Option (List ℕ) → List Event → Option (List ℕ) → Type 0
WroteFewer before history after =
    (count : ℕ) × (count < length history) × Wrote before (text (take count history)) after
