use Rattle.std.proofs.Common.{sym, ◌∙◌, arith}
use Rattle.std.proofs.lemmas.List.{length-take-le}
use Rattle.slot_disk.proofs.ZeroPages.{zeros_behind}
use Rattle.slot_disk.proofs.HeaderLemmas.{header_named, length-head, page_headed}
use Rattle.slot_disk.proofs.header.write_header.Goals as goal

pub slice_bounds-copy_from_slice-end : goal.slice_bounds-copy_from_slice-end
slice_bounds-copy_from_slice-end c = sym (length-take-le 156 c.zeros-page.result (omega (arith, c.zeros-page.ensures.size)))

pub copy_from_slice-requires : goal.copy_from_slice-requires
copy_from_slice-requires c =
    length-take-le 156 c.zeros-page.result (omega (arith, c.zeros-page.ensures.size)) ∙ sym (length-head c.head.result c.args.sys.now c.head.ensures.sys c.head.ensures.head)

pub returns-clause-spelled : goal.returns-clause-spelled
returns-clause-spelled c =
    page_headed c.copy_from_slice.new.self c.zeros-page.result c.args.sys.now c.head.ensures.sys (c.copy_from_slice.ensures.after ∙ c.head.ensures.head)

pub returns-clause-names : goal.returns-clause-names
returns-clause-names c = header_named _ c.args.sys.now c.head.ensures.sys (returns-clause-spelled c)

pub returns-clause-rest : goal.returns-clause-rest
returns-clause-rest c = λ i past.
    zeros_behind c.copy_from_slice.new.self c.zeros-page.result 156 i (omega arith) c.zeros-page.ensures.zeros c.copy_from_slice.ensures.len past
