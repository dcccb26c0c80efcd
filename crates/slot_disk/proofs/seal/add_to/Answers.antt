use Rattle.std.proofs.Common.{◌+◌, ◌≤◌, ℕ, List, ◌++◌, length, Result, Ok, Err, OnOk, sym, subst}
use Rattle.image_layout.specs.declared.ImageKind.{ImageKind}
use Rattle.slot_disk.specs.Areas.{area_size}
use Rattle.slot_disk.specs.Filling.{part_of, HoldsBytes, AreWritten}
use Rattle.slot_disk.proofs.WriteSteps.{area_only, piece_filled}
use Rattle.slot_disk.proofs.seal.add_to.Goals as goal

on_ok : {T E : Type 0} (r : Result T E) (P Q : Type 0) → (P → Q) → OnOk r P → OnOk r Q
on_ok (Ok x) P Q f p = f p
on_ok (Err e) P Q f p = tt

pub returns-in-Zbi-clause-only : goal.returns-in-Zbi-clause-only
returns-in-Zbi-clause-only g c =
    let past = g.D.Disk.past in
    let geometry = c.args.geometry.now in
    let parts = c.args.parts.now in
    let fits = subst (λ (k : ImageKind). (part_of parts k).len + length c.args.piece.now ≤ area_size geometry c.args.kind) c.in-Zbi.is c.requires.fits in
    area_only geometry c.args.slot c.args.kind c.area_start-first.result parts.zbi.len (length c.args.piece.now) (past c.args.disk.now) (past c.add_piece.new.disk) c.area_start-first.ensures.start fits c.add_piece.ensures.only

pub returns-in-Zbi-clause-filled : goal.returns-in-Zbi-clause-filled
returns-in-Zbi-clause-filled g c =
    let past = g.D.Disk.past in
    let first : ℕ = c.area_start-first.result in
    let piece : List ℕ = c.args.piece.now in
    let parts = c.args.parts.now in
    let old = past c.args.disk.now in
    let new = past c.add_piece.new.disk in
    on_ok c.add_piece.result ((bytes : List ℕ) → HoldsBytes parts.zbi bytes → AreWritten old first bytes → AreWritten new first (bytes ++ piece)) _
    (λ written. piece_filled c.args.geometry.now c.args.slot c.args.kind parts piece first old new c.area_start-first.ensures.start c.requires.fits
    (subst (λ (k : ImageKind). (bytes : List ℕ) → HoldsBytes (part_of parts k) bytes → AreWritten old first bytes → AreWritten new first (bytes ++ piece)) (sym c.in-Zbi.is) written)
    (returns-in-Zbi-clause-only g c))
    c.add_piece.ensures.written

pub returns-in-Vbmeta-clause-only : goal.returns-in-Vbmeta-clause-only
returns-in-Vbmeta-clause-only g c =
    let past = g.D.Disk.past in
    let geometry = c.args.geometry.now in
    let parts = c.args.parts.now in
    let fits = subst (λ (k : ImageKind). (part_of parts k).len + length c.args.piece.now ≤ area_size geometry c.args.kind) c.in-Vbmeta.is c.requires.fits in
    area_only geometry c.args.slot c.args.kind c.area_start-first.result parts.vbmeta.len (length c.args.piece.now) (past c.args.disk.now) (past c.add_piece-in-Vbmeta.new.disk) c.area_start-first.ensures.start fits c.add_piece-in-Vbmeta.ensures.only

pub returns-in-Vbmeta-clause-filled : goal.returns-in-Vbmeta-clause-filled
returns-in-Vbmeta-clause-filled g c =
    let past = g.D.Disk.past in
    let first : ℕ = c.area_start-first.result in
    let piece : List ℕ = c.args.piece.now in
    let parts = c.args.parts.now in
    let old = past c.args.disk.now in
    let new = past c.add_piece-in-Vbmeta.new.disk in
    on_ok c.add_piece-in-Vbmeta.result ((bytes : List ℕ) → HoldsBytes parts.vbmeta bytes → AreWritten old first bytes → AreWritten new first (bytes ++ piece)) _
    (λ written. piece_filled c.args.geometry.now c.args.slot c.args.kind parts piece first old new c.area_start-first.ensures.start c.requires.fits
    (subst (λ (k : ImageKind). (bytes : List ℕ) → HoldsBytes (part_of parts k) bytes → AreWritten old first bytes → AreWritten new first (bytes ++ piece)) (sym c.in-Vbmeta.is) written)
    (returns-in-Vbmeta-clause-only g c))
    c.add_piece-in-Vbmeta.ensures.written
