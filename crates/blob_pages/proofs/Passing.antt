-- How a draft follows the bytes that come, and the pages that are passed.
use Rattle.std.proofs.Common.{◌≡◌, ℕ, ◌+◌, ◌-◌, ◌*◌, ◌/◌, ◌%◌, ◌<◌, ◌≤◌, ◌==◌, if◌then◌else◌, List, ◌++◌, length, take, drop, Option, Some, None, sym, ◌∙◌, ap, arith, length-append, length-drop, is_some, true, false, inl, inr, eqb, eq-eqb}
use Rattle.std.proofs.lemmas.Bool.{cases_eq, cond-true}
use Rattle.std.proofs.lemmas.List.{drop-drop, drop-append-le, length-take, take_all}
use Rattle.pkg_names.specs.declared.root.Root.{Root}
use Rattle.pkg_merkle.specs.declared.hasher.Hasher.{Hasher}
use Rattle.pkg_merkle.specs.Hasher.{StandsFor}
use Rattle.blob_pages.specs.Pages.{filled, page_of, open_page, begun_page}
use Rattle.blob_pages.specs.Draft.{Progress, progress, kept_of, IsDraftOf}
use Rattle.blob_pages.proofs.PageBytes.{filled-full}

-- one page more is passed
pub progress-pass : (root : Root) (len : ℕ) (hasher : Hasher) (pages : ℕ) (tail : List ℕ) (from : ℕ) → progress root len hasher (pages + 1) tail (from + 4096) ≡ record { root = root; len = len; hasher = hasher; pages = pages + 1; rest = drop 4096 (drop from tail); kept = kept_of len tail }
progress-pass root len hasher pages tail from =
    ap (λ (rest : List ℕ). let v : Progress = record { root = root; len = len; hasher = hasher; pages = pages + 1; rest = rest; kept = kept_of len tail } in v) (sym (drop-drop 4096 from tail))

pub IsDraftOf-pass : (draft : Progress) (blob : List ℕ) → 4096 ≤ length draft.rest → IsDraftOf draft blob → IsDraftOf (record draft { pages = draft.pages + 1; rest = drop 4096 draft.rest }) blob
IsDraftOf-pass draft blob full is =
    let size : length draft.rest ≡ length blob - 4096 * draft.pages = ap length is.rest ∙ length-drop (4096 * draft.pages) blob in
    let next : drop (4096 * draft.pages + 4096) blob ≡ drop (4096 * (draft.pages + 1)) blob = ap (λ (k : ℕ). drop k blob) (omega arith) in
    record {
      hashed = is.hashed;
      within = omega arith;
      rest = ap (drop 4096) is.rest ∙ drop-drop 4096 (4096 * draft.pages) blob ∙ next;
      kept = is.kept;
    }

-- the next full page is the blob's next page
pub page_of-next : (draft : Progress) (blob : List ℕ) → 4096 ≤ length draft.rest → IsDraftOf draft blob → take 4096 draft.rest ≡ page_of blob draft.pages
page_of-next draft blob full is =
    let size : length (take 4096 draft.rest) ≡ 4096 = omega (arith, length-take 4096 draft.rest) in
    sym (filled-full (take 4096 draft.rest) size) ∙ ap (λ (rest : List ℕ). filled (take 4096 rest)) is.rest

-- Bytes are added. The draft may have forgotten bytes of pages that were passed.
pub IsDraftOf-add : (old new : Progress) (blob more : List ℕ) → IsDraftOf old blob → StandsFor new.hasher (blob ++ more) → new.len ≡ old.len → new.pages ≡ old.pages → new.rest ≡ old.rest ++ more → new.kept ≡ kept_of new.len (blob ++ more) → IsDraftOf new (blob ++ more)
IsDraftOf-add old new blob more is hashed len pages rest kept =
    let front : drop (4096 * old.pages) (blob ++ more) ≡ drop (4096 * old.pages) blob ++ more = drop-append-le (4096 * old.pages) blob more is.within in
    let same : drop (4096 * old.pages) (blob ++ more) ≡ drop (4096 * new.pages) (blob ++ more) = ap (λ (k : ℕ). drop (4096 * k) (blob ++ more)) (sym pages) in
    record {
      hashed = hashed;
      within = omega (arith, length-append blob more, is.within, pages);
      rest = rest ∙ ap (λ (before : List ℕ). before ++ more) is.rest ∙ sym front ∙ same;
      kept = kept;
    }

-- where no full page waits, the page that has begun is the blob's open page
pub begun_page-rest : (draft : Progress) (blob : List ℕ) → length draft.rest < 4096 → IsDraftOf draft blob → begun_page draft.rest ≡ open_page blob
begun_page-rest draft blob short is =
    let rest : List ℕ = draft.rest in
    let size : length rest ≡ length blob - 4096 * draft.pages = ap length is.rest ∙ length-drop (4096 * draft.pages) blob in
    let within : 4096 * draft.pages ≤ length blob = is.within in
    let part : length blob % 4096 ≡ length rest = omega arith in
    let index : length blob / 4096 ≡ draft.pages = omega arith in
    let page : page_of blob draft.pages ≡ filled rest = ap (λ (l : List ℕ). filled (take 4096 l)) (sym is.rest) ∙ ap filled (take_all 4096 rest (omega arith)) in
    let opened : ℕ → List ℕ → Option (List ℕ) = λ k l. if k == 0 then None else Some l in
    sym (ap (λ (k : ℕ). opened k (page_of blob (length blob / 4096))) part
    ∙ ap (λ (i : ℕ). opened (length rest) (page_of blob i)) index
    ∙ ap (opened (length rest)) page)

pub begun_some : (bytes : List ℕ) → is_some (begun_page bytes) ≡ true → 0 < length bytes
begun_some bytes some =
    elim (cases_eq (length bytes) 0) [
      | inl none ↦
          let empty : begun_page bytes ≡ None = cond-true (eqb (length bytes) 0) None (Some (filled bytes)) (eq-eqb (length bytes) 0 none) in
          let e : false ≡ true = sym (ap (λ (o : Option (List ℕ)). is_some o) empty) ∙ some in
          absurd (cc e)
      | inr more ↦ omega (arith, more)
    ]
