use Rattle.std.proofs.Common.{◌≡◌, ◌++◌, ◌∷◌, [], Bool, true, false, not, refl, ap, sym, subst, ◌∙◌}
use Rattle.std.proofs.Common.{Vec}
use Rattle.std.specs.declared.alloc.Global.{Global}
use Rattle.pkg_names.specs.declared.root.Root.{Root}
use Rattle.package_book.specs.Unprotected.{has_root}
use Rattle.package_book.proofs.Lines.{HasRoots, has_more, has_same, new_root, old_root}
use Rattle.package_book.proofs.reading.first_roots.Goals as goal
use Rattle.package_book.proofs.reading.first_roots.Goals.{then-branch+in_ok-push, else-branch}

was_new : (added known : Bool) → added ≡ not known → added ≡ true → known ≡ false
was_new added true e is = absurd cc
was_new added false e is = refl

was_there : (added known : Bool) → added ≡ not known → added ≡ false → known ≡ true
was_there added true e is = refl
was_there added false e is = absurd cc

pub loop-line-preserved : goal.loop-line-preserved
loop-line-preserved c =
    let lines = c.args.lines.now in
    let i = c.loop-line.line-index in
    let line = c.line-item.result in
    let roots = c.loop-line.roots.items in
    let lt = c.loop-line-test.true in
    let known = c.loop-line.invariant.known in
    elim c.if-branch.branch [
      | then-branch+in_ok-push w ↦
          let fresh : has_root roots line.root ≡ false = sym (known line.root) ∙ was_new _ _ c.in_ok-insert.ensures.added w.if-branch.true in
          let more : c.if-branch.roots.items ≡ roots ++ line.root ∷ [] = ap (λ (v : Vec Root Global). v.items) w.roots-is ∙ w.in_ok-push.ensures.items in
          record {
            list = more ∙ new_root lines i line roots lt c.line-item.is c.loop-line.invariant.list fresh;
            known = subst (HasRoots c.insert.new.self) (sym more) (has_more c.loop-line.seen c.insert.new.self roots line.root known c.in_ok-insert.ensures.updates.0);
          }
      | else-branch w ↦
          let old : has_root roots line.root ≡ true = sym (known line.root) ∙ was_there _ _ c.in_ok-insert.ensures.added w.if-branch.false in
          let same : c.if-branch.roots.items ≡ roots = ap (λ (v : Vec Root Global). v.items) w.roots-is in
          record {
            list = same ∙ old_root lines i line roots lt c.line-item.is c.loop-line.invariant.list old;
            known = subst (HasRoots c.insert.new.self) (sym same) (has_same c.loop-line.seen c.insert.new.self roots known (rw w.if-branch.false at c.in_ok-insert.ensures.unchanged));
          }
    ]
