-- A page that is cut into parts of one size, and what a write to one part leaves.
use Rattle.std.proofs.Common.{◌≡◌, ℕ, ◌+◌, ◌-◌, ◌*◌, ◌<◌, ◌≤◌, List, ◌++◌, map, length, take, drop, get_or, sym, ◌∙◌, ap, arith}
use Rattle.std.specs.List.{between, range_with_len}
use Rattle.std.proofs.lemmas.Slice.{between_is, take-put_mid_below, between-put_mid}
use Rattle.std.proofs.lemmas.List.{length-append, length-take-le, length-drop, get_or_append_left, get_or-append-add, get_or-drop, get_or-take}
use Rattle.std.proofs.lemmas.List.FromFn.{get_or-map-range_with_len}
use borrow.Rule.Slice.PartMut.{put_mid}
use Rattle.disk_model.specs.Past.{Page}
use Rattle.node_table.specs.Spelling.{part}

-- the part that was written
pub part_same : (size k e : ℕ) (page ys : Page) → e ≡ size * k + size → e ≤ length page → length ys ≡ size → part size (put_mid (size * k) (e - size * k) page ys) k ≡ ys
part_same size k e page ys is room long =
    ap (λ (i : ℕ). between (size * k) i (put_mid (size * k) (e - size * k) page ys)) (sym is)
    ∙ between-put_mid (size * k) (e - size * k) page ys e (omega (arith, is, room)) (omega (arith, is, long))

-- a part before it
pub part_below : (size k e j : ℕ) (page ys : Page) → size * j + size ≤ size * k → size * k ≤ length page → part size (put_mid (size * k) (e - size * k) page ys) j ≡ part size page j
part_below size k e j page ys low room =
    between_is (put_mid (size * k) (e - size * k) page ys) (size * j) (size * j + size)
    ∙ ap (drop (size * j)) (take-put_mid_below (size * k) (e - size * k) page ys (size * j + size) low room)
    ∙ sym (between_is page (size * j) (size * j + size))

pub length-put : (size k e : ℕ) (page ys : Page) → e ≡ size * k + size → e ≤ length page → length ys ≡ size → length (put_mid (size * k) (e - size * k) page ys) ≡ length page
length-put size k e page ys is room long =
    length-append (take (size * k) page) (ys ++ drop (e - size * k) (drop (size * k) page))
    ∙ (omega (arith, length-append ys (drop (e - size * k) (drop (size * k) page)), length-take-le (size * k) page (omega (arith, is, room)), length-drop (e - size * k) (drop (size * k) page), length-drop (size * k) page, is, room, long))

module _ {X : Type 0} (f : Page → ℕ → X) (size : ℕ) where
  -- these items of a list, from the first of a page on, are those of the page
  abbrev pub Holds : List X → X → ℕ → Page → Type 0
  Holds xs d j page = (k : ℕ) → k < size → f page k ≡ get_or xs (size * j + k) d

  -- the items of a page are put behind those of the pages before it
  pub holds_more : (xs : List X) (d : X) (j : ℕ) (page : Page) → length xs ≡ size * j → Holds (xs ++ map (f page) (range_with_len 0 size)) d j page
  holds_more xs d j page long k lt =
      sym (ap (λ (i : ℕ). get_or (xs ++ map (f page) (range_with_len 0 size)) i d) {x = size * j + k} {y = length xs + k} (omega (arith, long))
      ∙ get_or-append-add xs (map (f page) (range_with_len 0 size)) k d
      ∙ get_or-map-range_with_len (f page) 0 size k k d lt (omega arith))

  -- and leave these as they were
  pub holds_stays : (xs ys : List X) (d : X) (j : ℕ) (page : Page) → size * j + size ≤ length xs → Holds xs d j page → Holds (xs ++ ys) d j page
  holds_stays xs ys d j page room holds k lt = holds k lt ∙ sym (get_or_append_left xs ys d (size * j + k) (omega (arith, room, lt)))

  -- a page that was made of a part of the list
  pub holds_part : (xs : List X) (d : X) (j at e : ℕ) (page : Page) → at ≡ size * j → e ≡ at + size → ((k : ℕ) (d : X) → k < size → f page k ≡ get_or (between at e xs) k d) → Holds xs d j page
  holds_part xs d j at e page is end made k lt =
      made k d lt
      ∙ ap (λ (l : List X). get_or l k d) (between_is xs at e)
      ∙ get_or-drop at (take e xs) k d
      ∙ get_or-take e xs (at + k) d (omega (arith, end, lt))
      ∙ ap (λ (i : ℕ). get_or xs i d) {x = at + k} {y = size * j + k} (omega (arith, is))
