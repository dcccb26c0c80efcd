use Rattle.std.proofs.Common.{ℕ, length, List, ap, ◌∙◌}
use Rattle.std.specs.Int.{w16, w64, to_le_bytes}
use Rattle.far_archive.proofs.Puts.{with, then}
use Rattle.far_archive.proofs.write.put_item.Goals as goal

pub returns : goal.returns
returns c =
    let name = ap (λ (l : List ℕ). to_le_bytes w16 (length l)) c.as_slice.ensures.text in
    let size = ap (λ (l : List ℕ). to_le_bytes w64 (length l)) c.as_slice-2.ensures.list in
    let e1 = with c.args.out.now.items c.put.new.out.items _ _ c.in_ok-put.ensures c.to_le_bytes.ensures in
    let e2 = then c.args.out.now.items c.put.new.out.items c.put-2.new.out.items _ _ _ e1 c.in_ok-put-2.ensures (c.to_le_bytes-2.ensures ∙ name) in
    let e3 = then c.args.out.now.items c.put-2.new.out.items c.put-3.new.out.items _ _ _ e2 c.in_ok-put-3.ensures c.to_le_bytes-3.ensures in
    let e4 = then c.args.out.now.items c.put-3.new.out.items c.put-4.new.out.items _ _ _ e3 c.in_ok-put-4.ensures c.to_le_bytes-4.ensures in
    let e5 = then c.args.out.now.items c.put-4.new.out.items c.put-5.new.out.items _ _ _ e4 c.in_ok-put-5.ensures (c.to_le_bytes-5.ensures ∙ size) in
    then c.args.out.now.items c.put-5.new.out.items c.put-6.new.out.items _ _ _ e5 c.in_ok-put-6.ensures c.to_le_bytes-6.ensures
