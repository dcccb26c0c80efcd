use Rattle.std.proofs.Common.{◌+◌, ◌-◌, ◌%◌, length, ◌∙◌, arith}
use Rattle.pkg_merkle.proofs.Inputs.{block_input-made}
use Rattle.pkg_merkle.proofs.binding.block_input.Goals as goal

pub returns : goal.returns
returns c =
    let contents = c.args.contents.now in
    let n = c.len.result + (8192 - length contents) % 8192 in
    c.make.ensures.list ∙ block_input-made c.args.level c.args.index n c.told_size-size.result c.extend_from_slice-3.new.self.len contents c.to_le_bytes.result c.to_le_bytes-2.result
    c.new-input.result.items c.extend_from_slice.new.self.items c.extend_from_slice-2.new.self.items c.extend_from_slice-3.new.self.items c.resize.new.self.items
    c.to_le_bytes.ensures c.told_size-size.ensures c.to_le_bytes-2.ensures c.new-input.ensures.items
    c.in_ok-extend_from_slice.ensures.items c.in_ok-extend_from_slice-2.ensures.items c.in_ok-extend_from_slice-3.ensures.items
    c.extend_from_slice-3.new.self.ok.0 (omega arith) c.in_ok-resize.ensures.items
