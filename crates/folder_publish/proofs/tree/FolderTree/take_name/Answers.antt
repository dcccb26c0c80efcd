use Rattle.std.proofs.Common.{sym, ◌∙◌, subst, map}
use Rattle.std.specs.String.{string_bytes}
use Rattle.folder_publish.specs.Tree.{WereLeft}
use Rattle.folder_publish.proofs.Names.{Names, seen, had, gathered, taken}
use Rattle.folder_publish.proofs.tree.FolderTree.take_name.Goals as goal
use Rattle.folder_publish.proofs.tree.FolderTree.take_name.Goals.{in-Some, in-None+in_ok-names-in-None}

pub returns-clause-takes : goal.returns-clause-takes
returns-clause-takes g c =
    let told = g.F.FolderFiles.below c.args.self.now.files in
    let folder = c.args.self.now.folder.now in
    let names = c.args.self.now.names in
    let were : WereLeft told folder (seen names) (map string_bytes c.match-take.names.keys) =
    elim c.match-take.branch [
      | in-Some w ↦ subst (λ (set : Names). WereLeft told folder (seen names) (map string_bytes set.keys)) (sym w.names-is)
          (had told folder names w.in-Some.names (sym c.take.ensures.value ∙ w.in-Some.is))
      | in-None+in_ok-names-in-None w ↦ subst (λ (set : Names). WereLeft told folder (seen names) (map string_bytes set.keys)) (sym w.names-is)
          (gathered told folder names w.in_ok-names-in-None.names (sym c.take.ensures.value ∙ w.in-None.is) w.in_ok-names-in-None.ensures.below)
    ] in
    taken told folder (seen names) c.match-take.names.keys c.pop_first-first.new.self.keys c.pop_first-first.result were
    c.pop_first-first.ensures.removal c.pop_first-first.ensures.all_above c.pop_first-first.ensures.unchanged c.pop_first-first.ensures.variant.1
