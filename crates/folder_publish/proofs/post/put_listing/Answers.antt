use Rattle.std.proofs.Common.{◌∙◌, true, false}
use Rattle.folder_publish.proofs.Puts.{placed}
use Rattle.folder_publish.proofs.post.put_listing.Goals as goal

pub returns-in-Ok-clause-puts : goal.returns-in-Ok-clause-puts
returns-in-Ok-clause-puts g c =
    placed true (g.F.BlobFiles.files c.args.files.now) (g.F.BlobFiles.files c.put.new.self) c.args.bytes.now _ _ _ _
    (c.as_str.ensures.value ∙ c.in_ok-beside.ensures) (c.as_str-2.ensures.value ∙ c.in_ok-name.ensures) c.in-Ok.ensures.puts

pub returns-clause-puts : goal.returns-clause-puts
returns-clause-puts g c =
    placed false (g.F.BlobFiles.files c.args.files.now) (g.F.BlobFiles.files c.put.new.self) c.args.bytes.now _ _ _ _
    (c.as_str.ensures.value ∙ c.in_ok-beside.ensures) (c.as_str-2.ensures.value ∙ c.in_ok-name.ensures) c.in-Err.ensures.puts
