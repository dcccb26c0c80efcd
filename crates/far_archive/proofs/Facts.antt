-- What the tests of the faults say of the numbers of a text.
use Rattle.std.specs.Prelude.{◌≡◌, ℕ, ◌+◌, ◌%◌, ◌≤◌, List, length, codes}
use Rattle.std.specs.declared.cmp.Ordering.TheVariants.{Less}
use Rattle.std.specs.Ordering.{nat_cmp}
use Rattle.std.specs.Cmp.Lexicographic.{slice_cmp}
use Rattle.std.specs.Int.{w64}
use Rattle.pkg_names.specs.FileText.{IsFile}
use Rattle.pkg_names.specs.Numbers.{number_at}
use Rattle.far_archive.specs.Fields.{part, places, entry_of, name_of, end_of, names_end}
use Rattle.far_archive.specs.Faults.{name_before, floor}

-- the index: two entries, of the directory and of the names, which lie one behind the other within the file
pub record HasIndex (text : List ℕ) : Type 0 where
  pub long : 64 ≤ length text
  pub two_entries : number_at w64 text 8 ≡ 48
  pub first : part text 16 8 ≡ codes "DIR-----"
  pub second : part text 40 8 ≡ codes "DIRNAMES"
  pub dir_at : (places text).dir_at % 8 ≡ 0
  pub dir_len : (places text).dir_len % 8 ≡ 0
  pub names_at : (places text).names_at % 8 ≡ 0
  pub names_len : (places text).names_len % 8 ≡ 0
  pub behind : 64 ≤ (places text).dir_at
  pub order : (places text).dir_at + (places text).dir_len ≤ (places text).names_at
  pub inside : names_end text ≤ length text

-- entry k has a file path within the names, greater than the one before
pub record HasName (text : List ℕ) (k : ℕ) : Type 0 where
  pub inside : (entry_of text k).name_at + (entry_of text k).name_len ≤ (places text).names_len
  pub zero : (entry_of text k).name_zero ≡ 0
  pub path : IsFile (name_of text k)
  pub greater : slice_cmp nat_cmp (name_before text k) (name_of text k) ≡ Less

-- its data begin on a page, behind the names and behind the data before, and end within the file
pub record HasRange (text : List ℕ) (k : ℕ) : Type 0 where
  pub zero : (entry_of text k).end_zero ≡ 0
  pub page : (entry_of text k).data_at % 4096 ≡ 0
  pub behind_names : names_end text ≤ (entry_of text k).data_at
  pub behind : floor text k ≤ (entry_of text k).data_at
  pub inside : end_of text k ≤ length text
