use Rattle.std.proofs.Common.{◌≡◌, ℕ, ◌+◌, ◌-◌, ◌*◌, ◌/◌, ◌%◌, List, ◌++◌, length, take, drop, min, sym, ◌∙◌, ap, inl, inr, arith, length-append, length-drop}
use Rattle.std.proofs.lemmas.Bool.{cases_eq}
use Rattle.std.proofs.lemmas.List.{length-take-le}
use Rattle.disk_model.specs.declared.act.DiskAct.TheVariants.{Wrote}
use Rattle.disk_model.specs.Past.{Page, with_act}
use Rattle.slot_disk.specs.Filling.{filled, page_of}
use Rattle.slot_disk.proofs.PageLemmas.{page_of-tail, page_of-end, page_of-more}
use Rattle.slot_disk.proofs.write.write_next.Goals as goal

-- the page with the front of a piece on it is the page of the image with this front
put_page : (bytes piece : List ℕ) (count used : ℕ) (next was : Page) → count ≡ min (length piece) (4096 - used) → used ≡ length bytes % 4096 → was ≡ page_of bytes (length bytes / 4096) → ((tail : List ℕ) → length tail ≡ used → was ≡ filled tail → next ≡ filled (tail ++ take count piece)) → (next ≡ page_of (bytes ++ take count piece) (length bytes / 4096)) × (length (take count piece) ≡ count)
put_page bytes piece count used next was few used_is is put =
    let tail : List ℕ = drop (4096 * (length bytes / 4096)) bytes in
    let size : length tail ≡ used = omega (arith, length-drop (4096 * (length bytes / 4096)) bytes, used_is) in
    let long : length (take count piece) ≡ count = length-take-le count piece (omega (arith, few)) in
    (put tail size (is ∙ page_of-tail bytes) ∙ sym (page_of-more bytes (take count piece) (omega (arith, few, used_is, long))), long)

pub returns-clause-wrote : goal.returns-clause-wrote
returns-clause-wrote g c = λ bytes size is.
    let old = g.D.Disk.past c.args.disk.now in
    let first : ℕ = c.args.first in
    let count : ℕ = c.put_next-count.result in
    let put = put_page bytes c.args.piece.now count (c.args.len % 4096) c.put_next-count.new.next c.args.next.now c.put_next-count.ensures.count (omega (arith, size)) is c.put_next-count.ensures.put in
    c.in_ok-write.ensures.wrote
    ∙ ap (λ (n : ℕ). with_act old (Wrote (first + n / 4096) c.put_next-count.new.next)) (sym size)
    ∙ ap (λ (p : Page). with_act old (Wrote (first + length bytes / 4096) p)) put.0

pub returns-clause-next : goal.returns-clause-next
returns-clause-next g c = λ bytes size is.
    let count : ℕ = c.put_next-count.result in
    let piece : List ℕ = c.args.piece.now in
    let put = put_page bytes piece count (c.args.len % 4096) c.put_next-count.new.next c.args.next.now c.put_next-count.ensures.count (omega (arith, size)) is c.put_next-count.ensures.put in
    let all : List ℕ = bytes ++ take count piece in
    let long : length all ≡ c.args.len + count = omega (arith, length-append bytes (take count piece), put.1, size) in
    elim (cases_eq ((c.args.len + count) % 4096) 0) [
      | inl full ↦ c.turn.ensures.full full ∙ sym (page_of-end all (omega (arith, full, long)))
      | inr short ↦
          let same : length bytes / 4096 ≡ length all / 4096 = omega (arith, long, size, short, c.put_next-count.ensures.count) in
          c.turn.ensures.other short ∙ put.0 ∙ ap (page_of all) same
    ]
