use Rattle.std.proofs.Common.{length, sym, ◌∙◌, ap, arith}
use Rattle.std.proofs.lemmas.List.{length-take-le}
use Rattle.slot_disk.proofs.ZeroPages.{zeros_behind}
use Rattle.slot_disk.proofs.record_page.write_record.Goals as goal

pub slice_bounds-copy_from_slice-end : goal.slice_bounds-copy_from_slice-end
slice_bounds-copy_from_slice-end c = sym (length-take-le 32 c.zeros-page.result (omega (arith, c.zeros-page.ensures.size)))

pub copy_from_slice-requires : goal.copy_from_slice-requires
copy_from_slice-requires c =
    length-take-le 32 c.zeros-page.result (omega (arith, c.zeros-page.ensures.size)) ∙ sym (ap length c.encode.ensures.spelled)

pub returns-clause-rest : goal.returns-clause-rest
returns-clause-rest c = λ i past.
    zeros_behind c.copy_from_slice.new.self c.zeros-page.result 32 i (omega arith) c.zeros-page.ensures.zeros c.copy_from_slice.ensures.len past
