use Rattle.std.proofs.Common.{◌≡◌, ◌+◌, drop, sym, subst}
use Rattle.blob_pages.specs.Draft.{Progress, progress, IsDraftOf}
use Rattle.blob_pages.proofs.Passing.{progress-pass, IsDraftOf-pass}
use Rattle.blob_pages.proofs.draft.Draft.pass_page.Goals as goal

pub returns-clause-passed : goal.returns-clause-passed
returns-clause-passed c =
    let d = c.self.inside in
    subst (λ (v : Progress). progress d.root d.len d.hasher (d.pages + 1) d.tail.items (d.from + 4096) ≡ record v { pages = v.pages + 1; rest = drop 4096 v.rest }) c.self.view_is
    (progress-pass d.root d.len d.hasher d.pages d.tail.items d.from)

pub returns-clause-stands : goal.returns-clause-stands
returns-clause-stands c = λ blob is.
    subst (λ (v : Progress). IsDraftOf v blob) (sym (returns-clause-passed c)) (IsDraftOf-pass c.args.self.now blob c.requires is)
