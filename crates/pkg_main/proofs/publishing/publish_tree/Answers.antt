use Rattle.std.proofs.Common.{ℕ, List, Option, OnOk, subst}
use Rattle.std.specs.Option.{option_copied}
use Rattle.pkg_tool.specs.Written.{Wrote}
use Rattle.folder_publish.specs.declared.post.PostTrouble.{PostTrouble}
use Rattle.pkg_report.specs.PublishLines.{line_of_publication}
use Rattle.pkg_main.proofs.publishing.publish_tree.Goals as goal

pub returns-clause-line : goal.returns-clause-line
returns-clause-line g c =
    let told = c.tell_publication-told in
    let end = c.publish-end.result in
    let said = g.E.Report.said c.args.errors.now in
    let said_now = g.E.Report.said told.new.errors in
    let of_trouble =
    subst (λ (t : Option PostTrouble). OnOk told.result.line (Wrote said (line_of_publication end (option_copied c.place.result) t c.args.folder.now c.args.repo.now) said_now))
    c.trouble.ensures told.ensures.line in
    subst (λ (p : Option (List ℕ)). OnOk told.result.line (Wrote said (line_of_publication end p (g.P.TroubledPost.trouble c.publish-end.new.post) c.args.folder.now c.args.repo.now) said_now)) c.place.ensures of_trouble
