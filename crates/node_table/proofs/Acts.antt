-- The writes of a row, one after another, and what is done after them.
use Rattle.std.proofs.Common.{◌≡◌, ℕ, suc, ◌+◌, List, [], ◌∷◌, ◌++◌, length, Option, Some, None, refl, sym, ◌∙◌, ap, arith, append_assoc, append-nil, length-append}
use Rattle.disk_model.specs.declared.act.DiskAct.{DiskAct}
use Rattle.disk_model.specs.declared.act.DiskAct.TheVariants.{Wrote}
use Rattle.disk_model.specs.Past.{Page, Pages, Past, with_act}
use Rattle.disk_model.specs.Images.{row_acts, with_acts}
use Rattle.node_table.specs.Table.{WritesRow}

row_acts-append : (first : ℕ) (a b : Pages) → row_acts first (a ++ b) ≡ row_acts first a ++ row_acts (first + length a) b
row_acts-append first [] b = ap (λ (n : ℕ). row_acts n b) {x = first} {y = first + 0} (omega arith)
row_acts-append first (p ∷ a) b =
    ap (λ (l : List DiskAct). Wrote first p ∷ l)
    (row_acts-append (first + 1) a b ∙ ap (λ (n : ℕ). row_acts (first + 1) a ++ row_acts n b) {x = first + 1 + length a} {y = first + suc (length a)} (omega arith))

acts_then : (told mid new : Option Past) (a b : List DiskAct) → mid ≡ with_acts told a → new ≡ with_acts mid b → new ≡ with_acts told (a ++ b)
acts_then None mid new a b e next = next ∙ ap (λ (o : Option Past). with_acts o b) e
acts_then (Some past) mid new a b e next =
    next ∙ ap (λ (o : Option Past). with_acts o b) e
    ∙ ap (λ (t : List DiskAct). Some (record { start = past.start; trail = t })) (append_assoc past.trail a b)

-- one act more behind the row
pub row_then : (first count : ℕ) (others : List DiskAct) (act : DiskAct) (old mid new : Option Past) → WritesRow first count others old mid → new ≡ with_act mid act → WritesRow first count (others ++ act ∷ []) old new
row_then first count others act old mid new row next = record {
  pages = row.pages;
  size = row.size;
  acts = acts_then old mid new (row_acts first row.pages ++ others) (act ∷ []) row.acts next
      ∙ ap (with_acts old) (append_assoc (row_acts first row.pages) others (act ∷ []));
}

-- a row and the row behind it
pub row_join : (first count second more : ℕ) (old mid new : Option Past) → second ≡ first + count → WritesRow first count [] old mid → WritesRow second more [] mid new → WritesRow first (count + more) [] old new
row_join first count second more old mid new at a b =
    let here : second ≡ first + length a.pages = at ∙ ap (λ (n : ℕ). first + n) (sym a.size) in
    record {
      pages = a.pages ++ b.pages;
      size = length-append a.pages b.pages ∙ omega (arith, a.size, b.size);
      acts = acts_then old mid new (row_acts first a.pages ++ []) (row_acts second b.pages ++ []) a.acts b.acts
          ∙ ap (with_acts old)
          (ap (λ (l : List DiskAct). l ++ (row_acts second b.pages ++ [])) (append-nil (row_acts first a.pages))
          ∙ sym (append_assoc (row_acts first a.pages) (row_acts second b.pages) [])
          ∙ ap (λ (n : ℕ). row_acts first a.pages ++ row_acts n b.pages ++ []) here
          ∙ ap (λ (l : List DiskAct). l ++ []) (sym (row_acts-append first a.pages b.pages)));
    }

-- one page more was written
pub row_more : (first count page : ℕ) (bytes : Page) (old mid new : Option Past) → page ≡ first + count → WritesRow first count [] old mid → new ≡ with_act mid (Wrote page bytes) → WritesRow first (count + 1) [] old new
row_more first count page bytes old mid new at row wrote =
    row_join first count page 1 old mid new at row (record { pages = bytes ∷ []; size = refl; acts = wrote })
