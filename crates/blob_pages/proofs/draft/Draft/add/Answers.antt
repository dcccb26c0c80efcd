use Rattle.std.proofs.Common.{◌≡◌, ◌+◌, ◌-◌, ◌≤◌, ◌<◌, List, ℕ, ◌++◌, length, drop, vec_len, vec_capacity, sym, subst, ap, ◌∙◌, arith, refl, IsOk, length-drop}
use Rattle.pkg_merkle.specs.Hasher.{StandsFor}
use Rattle.blob_pages.specs.Room.{to_forget}
use Rattle.blob_pages.specs.Draft.{Progress, progress, IsDraftOf}
use Rattle.blob_pages.proofs.Passing.{IsDraftOf-add}
use Rattle.blob_pages.proofs.Adding.{ok_part, ok_items, to_forget-most, rest-add, kept-add, room-add}
use Rattle.blob_pages.proofs.draft.Draft.add.Goals as goal

pub returns-clause-ok : goal.returns-clause-ok
returns-clause-ok c = λ blob is.
    let d = c.self.inside in
    let more : List ℕ = c.args.bytes.now in
    let own : IsDraftOf (progress d.root d.len d.hasher d.pages d.tail.items d.from) blob = subst (λ (v : Progress). IsDraftOf v blob) (sym c.self.view_is) is in
    let inv = c.self.invariant in
    let gone = c.to_forget-passed.ensures in
    let within : d.from ≤ length d.tail.items = omega (arith, inv.within, d.tail.ok.0) in
    let front : c.forget_front.new.bytes.items ≡ drop (to_forget d.len d.from) d.tail.items = c.forget_front.ensures.rest ∙ ap (λ (k : ℕ). drop k d.tail.items) gone in
    let short : length (drop d.from d.tail.items) < 4096 = subst (λ (v : Progress). length v.rest < 4096) (sym c.self.view_is) c.requires.open in
    let fits : d.hasher.length + length more ≤ d.len = omega (arith, c.if-self-have.false, c.have.ensures.count, ap (λ (v : Progress). v.hasher.length) c.self.view_is, inv.most) in
    let hashable : IsOk c.update.result = c.update.ensures.exact.1 (omega (arith, fits, inv.limit)) in
    let hashed = ok_part c.update.result ((b : List ℕ) → StandsFor d.hasher b → StandsFor c.update.new.self (b ++ more)) hashable c.update.ensures.ok blob own.hashed in
    let size : vec_len c.forget_front.new.bytes ≡ vec_len d.tail - to_forget d.len d.from = omega (arith, c.forget_front.new.bytes.ok.0, ap length front, length-drop (to_forget d.len d.from) d.tail.items, d.tail.ok.0) in
    let roomy = room-add d.len d.from d.hasher.length d.pages (vec_len d.tail) (length more) (vec_capacity d.tail) inv.room inv.all inv.count inv.within (omega (arith, short, length-drop d.from d.tail.items, d.tail.ok.0)) c.requires.piece fits in
    let kept : IsOk c.extend_from_slice.result = c.extend_from_slice.ensures.succeeds (omega (arith, roomy, size, c.forget_front.ensures.room)) in
    let now = c.extend_from_slice.ensures.items ∙ ok_items c.extend_from_slice.result (c.forget_front.new.bytes.items ++ more) c.forget_front.new.bytes.items kept in
    let rest = ap (λ (k : ℕ). drop (d.from - k) c.extend_from_slice.new.self.items) gone
    ∙ rest-add d.from (to_forget d.len d.from) d.tail.items c.forget_front.new.bytes.items c.extend_from_slice.new.self.items more (to_forget-most d.len d.from) within front now in
    let all = kept-add d.len d.from d.tail.items c.forget_front.new.bytes.items c.extend_from_slice.new.self.items more blob front now own.kept in
    IsDraftOf-add (progress d.root d.len d.hasher d.pages d.tail.items d.from)
    (progress d.root d.len c.update.new.self d.pages c.extend_from_slice.new.self.items (d.from - c.to_forget-passed.result)) blob more own hashed refl refl rest all
