-- How the full pages of a draft are written, one after another.
use Rattle.std.proofs.Common.{◌≡◌, ◌≢◌, ℕ, ◌+◌, ◌/◌, ◌%◌, ◌<◌, eqb, eq-eqb, ne_eqb, List, [], length, Option, Some, None, ◌∙◌, ap, inl, inr, arith}
use Rattle.std.specs.Prelude.{unwrap_or}
use Rattle.std.specs.List.{AllPairs}
use Rattle.disk_model.specs.declared.act.DiskAct.TheVariants.{Wrote}
use Rattle.disk_model.specs.Past.{Page, Past, with_act}
use Rattle.disk_model.proofs.ManyPages.{all_written_more}
use Rattle.blob_pages.specs.Pages.{page_of, open_page, page_count}
use Rattle.std.proofs.lemmas.Bool.{cases_eq, cond-true, cond-false}
use Rattle.blob_pages.specs.Written.{place, AreWritten}

-- the places of a chain whose pages differ
pub places_apart : (start : ℕ) (chain : List ℕ) (k : ℕ) → AllPairs (λ a b. a ≢ b) chain → k < length chain → (i : ℕ) → i < k → place start chain k ≢ place start chain i
places_apart start chain k apart within i below e = apart i k 0 below within (omega (arith, e))

-- the next page of a blob is written
pub written_next : (start : ℕ) (chain blob : List ℕ) (k page : ℕ) (bytes : Page) (old new : Option Past) → AllPairs (λ a b. a ≢ b) chain → k < length chain → page ≡ place start chain k → bytes ≡ page_of blob k → new ≡ with_act old (Wrote page bytes) → AreWritten old start chain blob k → AreWritten new start chain blob (k + 1)
written_next start chain blob k page bytes old new apart within at is wrote before =
    let act : new ≡ with_act old (Wrote (place start chain k) (page_of blob k)) =
    wrote ∙ ap (λ (n : ℕ). with_act old (Wrote n bytes)) at ∙ ap (λ (b : Page). with_act old (Wrote (place start chain k) b)) is in
    all_written_more (place start chain) (page_of blob) k old new (places_apart start chain k apart within) act before

-- a blob without an open page has only full pages
pub open_none : (blob : List ℕ) → None ≡ open_page blob → page_count (length blob) ≡ length blob / 4096
open_none blob is =
    elim (cases_eq (length blob % 4096) 0) [
      | inl none ↦ omega arith
      | inr some ↦
          let page : Option (List ℕ) = Some (page_of blob (length blob / 4096)) in
          let open_is : open_page blob ≡ page = cond-false (eqb (length blob % 4096) 0) None page (ne_eqb (length blob % 4096) 0 some) in
          let e : None ≡ page = is ∙ open_is in
          absurd cc
    ]

-- the open page is the last one
pub open_some : (blob : List ℕ) (page : Page) → Some page ≡ open_page blob → (page ≡ page_of blob (length blob / 4096)) × (page_count (length blob) ≡ length blob / 4096 + 1)
open_some blob page is =
    elim (cases_eq (length blob % 4096) 0) [
      | inl none ↦
          let open_is : open_page blob ≡ None = cond-true (eqb (length blob % 4096) 0) None (Some (page_of blob (length blob / 4096))) (eq-eqb (length blob % 4096) 0 none) in
          let e : Some page ≡ None = is ∙ open_is in
          absurd cc
      | inr some ↦
          let last : Option (List ℕ) = Some (page_of blob (length blob / 4096)) in
          let open_is : open_page blob ≡ last = cond-false (eqb (length blob % 4096) 0) None last (ne_eqb (length blob % 4096) 0 some) in
          (ap (λ (o : Option (List ℕ)). unwrap_or o []) (is ∙ open_is), omega arith)
    ]
