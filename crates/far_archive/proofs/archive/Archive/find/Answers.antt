use Rattle.std.proofs.Common.{Some, None}
use Rattle.std.proofs.Common.{◌≡◌, ◌≢◌, ◌<◌, All, List, ℕ, ap, sym, subst, ◌∙◌}
use Rattle.std.specs.Prelude.{Contains}
use Rattle.far_archive.specs.Fields.{count, name_of, data_of}
use Rattle.far_archive.specs.Named.{file_named}
use Rattle.far_archive.proofs.Lookup.{none_named_so, found_named_so}
use Rattle.far_archive.proofs.Order.{contained, none_named}
use Rattle.far_archive.proofs.archive.Archive.find.Goals as goal

pub returns-in_default-clause-none : goal.returns-in_default-clause-none
returns-in_default-clause-none c =
    let none = rw c.in_default.is at c.place_of.ensures.none in
    let here = subst (λ (l : List ℕ). (k : ℕ) → k < count l → name_of l k ≢ c.args.name.now) c.deref.ensures.value none in
    subst (λ (l : List (List ℕ × List ℕ)). All (λ file. file.0 ≢ c.args.name.now) l) c.self.view_is (none_named c.self.inside.bytes.items c.args.name.now here)

pub returns-clause-found : goal.returns-clause-found
returns-clause-found c =
    let found = subst (λ (l : List ℕ). (c.in-Some.entry < count l) × (name_of l c.in-Some.entry ≡ c.args.name.now)) c.deref.ensures.value (c.in-Some.ensures.found) in
    let bytes : c.kept_file.result.now ≡ data_of c.self.inside.bytes.items c.in-Some.entry = c.kept_file.ensures ∙ ap (λ (l : List ℕ). data_of l c.in-Some.entry) c.deref-2.ensures.value in
    subst (λ (b : List ℕ). Contains c.args.self.now (c.args.name.now, b)) (sym bytes)
    (subst (λ (l : List (List ℕ × List ℕ)). Contains l (c.args.name.now, data_of c.self.inside.bytes.items c.in-Some.entry)) c.self.view_is
    (contained c.self.inside.bytes.items c.args.name.now c.in-Some.entry found.0 found.1))

pub returns-in_default-clause-value : goal.returns-in_default-clause-value
returns-in_default-clause-value c =
    let none = rw c.in_default.is at c.place_of.ensures.none in
    let here = subst (λ (l : List ℕ). (k : ℕ) → k < count l → name_of l k ≢ c.args.name.now) c.deref.ensures.value none in
    subst (λ (l : List (List ℕ × List ℕ)). None ≡ file_named c.args.name.now l) c.self.view_is (sym (none_named_so c.self.inside.bytes.items c.args.name.now here))

pub returns-clause-value : goal.returns-clause-value
returns-clause-value c =
    let found = subst (λ (l : List ℕ). (c.in-Some.entry < count l) × (name_of l c.in-Some.entry ≡ c.args.name.now)) c.deref.ensures.value (c.in-Some.ensures.found) in
    let bytes : c.kept_file.result.now ≡ data_of c.self.inside.bytes.items c.in-Some.entry = c.kept_file.ensures ∙ ap (λ (l : List ℕ). data_of l c.in-Some.entry) c.deref-2.ensures.value in
    subst (λ (l : List (List ℕ × List ℕ)). Some c.kept_file.result.now ≡ file_named c.args.name.now l) c.self.view_is
    (ap Some bytes ∙ sym (found_named_so c.self.inside.bytes.items c.args.name.now c.in-Some.entry c.self.invariant.sound found.0 found.1))
