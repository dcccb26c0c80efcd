-- The writes of a row, one after another.
use Rattle.std.proofs.Common.{◌≡◌, ℕ, ◌+◌, ◌<◌, List, [], ◌∷◌, ◌++◌, length, take, Option, Some, None, refl, sym, ◌∙◌, ap, arith, append_assoc, append-nil, length-take-le}
use Rattle.std.proofs.lemmas.List.{take_more}
use Rattle.disk_model.specs.declared.act.DiskAct.{DiskAct}
use Rattle.disk_model.specs.declared.act.DiskAct.TheVariants.{Wrote}
use Rattle.disk_model.specs.Past.{Page, Pages, page_at, Past, with_act}
use Rattle.disk_model.specs.Images.{row_acts, with_acts}

-- the acts of a row that has one page more
row_acts-push : (first : ℕ) (pages : Pages) (page : Page) → row_acts first (pages ++ page ∷ []) ≡ row_acts first pages ++ Wrote (first + length pages) page ∷ []
row_acts-push first [] page = ap (λ (n : ℕ). Wrote n page ∷ []) (omega arith)
row_acts-push first (p ∷ pages) page =
    ap (λ (l : List DiskAct). Wrote first p ∷ l) (row_acts-push (first + 1) pages page ∙ ap (λ (n : ℕ). row_acts (first + 1) pages ++ Wrote n page ∷ []) (omega arith))

pub acts_none : (told : Option Past) (first : ℕ) (pages : Pages) → told ≡ with_acts told (row_acts first (take 0 pages))
acts_none None first pages = refl
acts_none (Some past) first pages = ap (λ (t : List DiskAct). Some (record { start = past.start; trail = t })) (sym (append-nil past.trail))

pub acts_more : (told mid new : Option Past) (acts : List DiskAct) (act : DiskAct) → mid ≡ with_acts told acts → new ≡ with_act mid act → new ≡ with_acts told (acts ++ act ∷ [])
acts_more None mid new acts act e next = next ∙ ap (λ (o : Option Past). with_act o act) e
acts_more (Some past) mid new acts act e next =
    next ∙ ap (λ (o : Option Past). with_act o act) e
    ∙ ap (λ (t : List DiskAct). Some (record { start = past.start; trail = t })) (append_assoc past.trail acts (act ∷ []))

-- one page more was written
pub acts_page : (told mid new : Option Past) (first i : ℕ) (pages : Pages) (page : Page) → i < length pages → page ≡ page_at pages i → mid ≡ with_acts told (row_acts first (take i pages)) → new ≡ with_act mid (Wrote (first + i) page) → new ≡ with_acts told (row_acts first (take (i + 1) pages))
acts_page told mid new first i pages page lt is e next =
    acts_more told mid new (row_acts first (take i pages)) (Wrote (first + i) page) e next
    ∙ ap (with_acts told) (ap (λ (n : ℕ). row_acts first (take i pages) ++ Wrote (first + n) page ∷ []) (sym (length-take-le i pages (omega arith)))
    ∙ sym (row_acts-push first (take i pages) page)
    ∙ ap (row_acts first) (ap (λ (p : Page). take i pages ++ p ∷ []) is ∙ sym (take_more pages i [] lt)))
