-- The room that a draft takes for its bytes.
use Rattle.std.specs.Prelude.{ℕ, ◌+◌, nat_le, if◌then◌else◌}
use Rattle.blob_pages.specs.declared.draft.TheConstants.{PAGE_SIZE, PIECE_LIMIT, KEPT_LIMIT}

-- all bytes where the draft keeps them, else those of a piece and of the page that was open before it
abbrev pub room_for : ℕ → ℕ
room_for len = if nat_le len KEPT_LIMIT then len else PIECE_LIMIT + PAGE_SIZE

-- of these bytes of pages that were passed, those that the draft forgets
abbrev pub to_forget : ℕ → ℕ → ℕ
to_forget len from = if nat_le len KEPT_LIMIT then 0 else from
