use Rattle.std.proofs.Common.{arith}
use Rattle.node_table.proofs.RowText.{row_back}
use Rattle.node_table.proofs.rows.row_bytes.Goals as goal

pub returns : goal.returns
returns c = row_back c.args.row.now c.row_text.result c.row_text.ensures.text c.row_text.ensures.root (omega arith) (omega arith)
