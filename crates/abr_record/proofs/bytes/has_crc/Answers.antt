use Rattle.std.proofs.Common.{◌≡◌, take, drop, ap, ◌∙◌, arith}
use Rattle.std.specs.Int.{w32, to_be_bytes}
use Rattle.std.proofs.lemmas.List.{take_all, length-drop}
use Rattle.abr_record.proofs.ByteLemmas.{compared}
use Rattle.abr_record.proofs.bytes.has_crc.Goals as goal

pub returns : goal.returns
returns c =
    let whole : take 4 (drop 28 c.args.bytes.now) ≡ drop 28 c.args.bytes.now =
    take_all 4 _ (omega (arith, length-drop 28 c.args.bytes.now, c.told-bytes)) in
    compared c.eq.result (take 4 (drop 28 c.args.bytes.now)) _ c.to_be_bytes-crc.result _ c.eq.ensures whole
    (c.to_be_bytes-crc.ensures ∙ ap (to_be_bytes w32) c.crc32.ensures)
