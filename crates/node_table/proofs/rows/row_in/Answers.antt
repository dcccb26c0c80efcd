use Rattle.std.proofs.Common.{sym, arith}
use Rattle.std.proofs.lemmas.List.{length-take-le}
use Rattle.node_table.proofs.rows.row_in.Goals as goal

pub slice_bounds-copy_from_slice-end-2 : goal.slice_bounds-copy_from_slice-end-2
slice_bounds-copy_from_slice-end-2 c = sym (length-take-le 32 c.args.bytes.now (omega (arith, c.requires)))
