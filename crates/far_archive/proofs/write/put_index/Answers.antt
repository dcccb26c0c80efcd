use Rattle.std.proofs.Common.{refl}
use Rattle.far_archive.proofs.Puts.{then}
use Rattle.far_archive.proofs.write.put_index.Goals as goal

pub returns : goal.returns
returns c =
    let e1 = c.in_ok-put.ensures in
    let e2 = then c.args.out.now.items c.put.new.out.items c.put-2.new.out.items _ _ _ e1 c.in_ok-put-2.ensures c.to_le_bytes.ensures in
    let e3 = then c.args.out.now.items c.put-2.new.out.items c.put-3.new.out.items _ _ _ e2 c.in_ok-put-3.ensures refl in
    let e4 = then c.args.out.now.items c.put-3.new.out.items c.put-4.new.out.items _ _ _ e3 c.in_ok-put-4.ensures c.to_le_bytes-2.ensures in
    let e5 = then c.args.out.now.items c.put-4.new.out.items c.put-5.new.out.items _ _ _ e4 c.in_ok-put-5.ensures c.to_le_bytes-3.ensures in
    let e6 = then c.args.out.now.items c.put-5.new.out.items c.put-6.new.out.items _ _ _ e5 c.in_ok-put-6.ensures refl in
    let e7 = then c.args.out.now.items c.put-6.new.out.items c.put-7.new.out.items _ _ _ e6 c.in_ok-put-7.ensures c.to_le_bytes-4.ensures in
    then c.args.out.now.items c.put-7.new.out.items c.put-8.new.out.items _ _ _ e7 c.in_ok-put-8.ensures c.to_le_bytes-5.ensures
