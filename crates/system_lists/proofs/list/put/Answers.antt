use Rattle.std.proofs.Common.{◌≡◌, ◌+◌, length, inr, sym, ap, ◌∙◌, arith}
use Rattle.system_lists.specs.Lists.{has_path_of, is_among}
use Rattle.system_lists.proofs.Listing.{repeats, has_place}
use Rattle.system_lists.proofs.list.put.Goals.{in-Ok, in-Err}
use Rattle.system_lists.proofs.list.put.Goals as goal

pub returns-then-is_among-clause-fault : goal.returns-then-is_among-clause-fault
returns-then-is_among-clause-fault c =
    let front = c.args.list.now.items in
    let number : c.len.result + 1 ≡ length front + 1 = omega arith in
    inr (rw (c.in-Some.is, number) (repeats has_path_of front c.in-Some.pinned c.requires (sym (c.if-is_among.ensures ∙ ap (is_among c.in-Some.pinned.path) c.deref.ensures.value))))

pub returns-clause-found : goal.returns-clause-found
returns-clause-found c =
    elim c.match-push.branch [
      | in-Ok w ↦
          let fresh = sym (c.if-is_among.ensures ∙ ap (is_among c.in-Some.pinned.path) c.deref.ensures.value) in
          rw w.result-is (c.in-Some.pinned, rw c.in-Some.is (has_place has_path_of c.args.list.now.items c.in-Some.pinned c.requires fresh), w.in-Ok.ensures.items)
      | in-Err w ↦ rw w.result-is tt
    ]
