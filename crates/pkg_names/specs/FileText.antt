-- Paths of files within a package.
use Rattle.std.specs.Prelude.{◌≢◌, ℕ, ◌<◌, ◌≤◌, ◌==◌, ◌&&◌, not, nat_lt, nat_le, Bool, List, length, codes, All, IsUtf8}
use Rattle.std.specs.List.{slice_split, list_all}
use Rattle.std.specs.Str.{bytes_eq, is_utf8}
use Rattle.pkg_names.specs.declared.file.TheConstants.{FILE_PATH_LIMIT, SEGMENT_LIMIT}
use Rattle.pkg_names.specs.Text.{nul, line_feed, slash, HasNo}

-- the parts of a text between its slashes: one more than it has slashes
abbrev pub segments : List ℕ → List (List ℕ)
segments text = slice_split (λ c. c == slash) text

-- a part of a path: 1 to 255 bytes, and neither `.` nor `..`
pub record IsSegment (text : List ℕ) : Type 0 where
  pub not_empty : 0 < length text
  pub not_long : length text ≤ SEGMENT_LIMIT
  pub not_dot : text ≢ codes "."
  pub not_dots : text ≢ codes ".."

-- A file path: 1 to 4095 bytes of UTF-8 without NUL and line feed, whose parts are segments. So it
-- neither begins nor ends with a slash, and no two stand side by side.
pub record IsFile (text : List ℕ) : Type 0 where
  pub not_empty : 0 < length text
  pub not_long : length text ≤ FILE_PATH_LIMIT
  pub no_nul : HasNo nul text
  pub no_line_feed : HasNo line_feed text
  pub parts : All IsSegment (segments text)
  pub utf8 : IsUtf8 text

-- the same as tests
abbrev pub is_segment_text : List ℕ → Bool
is_segment_text text =
    nat_lt 0 (length text) && nat_le (length text) SEGMENT_LIMIT
    && not (bytes_eq text (codes ".")) && not (bytes_eq text (codes ".."))

abbrev pub is_file_text : List ℕ → Bool
is_file_text text =
    nat_lt 0 (length text) && nat_le (length text) FILE_PATH_LIMIT
    && list_all (λ c. not (c == nul)) text && list_all (λ c. not (c == line_feed)) text
    && list_all is_segment_text (segments text) && is_utf8 text
