use Rattle.std.proofs.Common.{◌≡◌, ℕ, ◌-◌, ◌<◌, ◌≤◌, List, length, take, drop, Option, Some, None, MatchOption, IfSome, ap, subst, ◌∙◌}
use Rattle.std.proofs.lemmas.List.{take_rest}
use Rattle.std.specs.Array.{IsFirstChunk}
use denote.Bor.{Bor}
use Rattle.blob_pages.specs.Pages.{page_of}
use Rattle.blob_pages.specs.Draft.{Progress, IsDraftOf}
use Rattle.blob_pages.proofs.Passing.{page_of-next}
use Rattle.blob_pages.proofs.draft.Draft.full_page.Goals as goal

-- the first page of what is left
next : (draft : Progress) (bytes blob : List ℕ) (page : Option (Bor (List ℕ))) → bytes ≡ draft.rest → IsDraftOf draft blob → MatchOption page (length bytes < 4096) (λ found. IsFirstChunk bytes found.now 4096) → IfSome page (λ found. found.now ≡ page_of blob draft.pages)
next draft bytes blob None same is cases = tt
next draft bytes blob (Some found) same is cases =
    cases.same ∙ ap (take 4096) same ∙ page_of-next draft blob (subst (λ (rest : List ℕ). 4096 ≤ length rest) same cases.enough) is

pub returns-clause-page : goal.returns-clause-page
returns-clause-page c = λ blob is.
    let from : ℕ = c.self.inside.from in
    let bytes : List ℕ = c.deref.result.now in
    let same = take_rest bytes from ∙ ap (drop from) c.deref.ensures.value ∙ ap (λ (v : Progress). v.rest) c.self.view_is in
    next c.args.self.now (take (length bytes - from) (drop from bytes)) blob c.first_chunk.result same is c.first_chunk.ensures.cases
