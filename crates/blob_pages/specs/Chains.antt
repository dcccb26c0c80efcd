-- The bytes of a blob in an image, and what was read of them. Page p of a chain is page start + p of the disk.
use Rattle.std.specs.Prelude.{ℕ, ◌≡◌, ◌+◌, ◌*◌, ◌<◌, List, length, take, slice_index, Option, IfSome}
use Rattle.std.specs.List.{flat_map}
use Rattle.disk_model.specs.Past.{Page, Pages, page_at, Past, state_of, MayRead}

-- The bytes of a blob in an image: those of its chain's pages in order, cut to its length.
abbrev pub bytes_in : ℕ → List ℕ → ℕ → Pages → List ℕ
bytes_in start chain len image = take len (flat_map (λ (p : ℕ). page_at image (start + p)) chain)

-- the bytes of these pages, one behind the other
abbrev pub joined : Pages → List ℕ
joined pages = flat_map (λ (page : Page). page) pages

-- this is a whole page, as the disk may give it
abbrev pub IsReadAt : Option Past → ℕ → Page → Type 0
IsReadAt told n page = (length page ≡ 4096) × IfSome told (λ (past : Past). MayRead (state_of past n) page)

-- These bytes of a blob are those of the first n pages of its chain, each as the disk may give it.
pub record AreRead (told : Option Past) (start : ℕ) (chain : List ℕ) (len n : ℕ) (bytes : List ℕ) : Type 0 where
  pub pages : Pages
  pub count : length pages ≡ n
  pub whole : length (joined pages) ≡ 4096 * n
  pub each :
      IfSome told
      (λ (past : Past). (i : ℕ) → i < n → MayRead (state_of past (start + slice_index chain i)) (page_at pages i))
  pub are : bytes ≡ take len (joined pages)
