use Rattle.std.proofs.Common.{sym, ◌∙◌}
use Rattle.folder_repo.proofs.Replies.{file_found, file_left, file_refused, none_tried}
use Rattle.folder_repo.proofs.folder.open_blob.Goals as goal

pub returns-in_default-clause-refused : goal.returns-in_default-clause-refused
returns-in_default-clause-refused g c = none_tried (g.F.BlobFiles.files c.args.files.now) c.args.folder.now c.args.root.now

pub returns-in-Ok-open-clause-opened : goal.returns-in-Ok-open-clause-opened
returns-in-Ok-open-clause-opened g c =
    file_found (g.F.BlobFiles.files c.args.files.now) c.as_str.result.now c.args.folder.now c.args.root.now (g.F.File.Read.remaining c.in-Ok-open.file) c.in-Ok-open.len
    (c.as_str.ensures.value ∙ c.in-Ok.ensures) c.in-Ok-open.ensures.opened

pub returns-in-Ok-open-clause-left : goal.returns-in-Ok-open-clause-left
returns-in-Ok-open-clause-left g c =
    file_left (g.F.BlobFiles.files c.args.files.now) c.as_str.result.now c.args.folder.now c.args.root.now (g.F.File.Read.remaining c.in-Ok-open.file) c.in-Ok-open.len
    (c.as_str.ensures.value ∙ c.in-Ok.ensures) c.in-Ok-open.ensures.opened

pub returns-clause-refused : goal.returns-clause-refused
returns-clause-refused g c =
    file_refused (g.F.BlobFiles.files c.args.files.now) c.as_str.result.now c.args.folder.now c.args.root.now c.reply_of.result
    (c.as_str.ensures.value ∙ c.in-Ok.ensures) c.reply_of.ensures.closed
    (λ absent. c.in-Err.ensures.missing (sym c.kind.ensures ∙ c.reply_of.ensures.absent.0 absent))
