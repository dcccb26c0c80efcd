use Rattle.std.proofs.Common.{◌∙◌}
use Rattle.folder_repo.proofs.Texts.{none_read, short_read, file_read}
use Rattle.folder_repo.proofs.listing.read_listing.Goals as goal

pub returns-in_default-clause-reads : goal.returns-in_default-clause-reads
returns-in_default-clause-reads g c = short_read (g.F.BlobFiles.files c.args.files.now) c.args.folder.now

pub returns-in-Ok-open-clause-reads : goal.returns-in-Ok-open-clause-reads
returns-in-Ok-open-clause-reads g c =
    file_read (g.F.BlobFiles.files c.args.files.now) c.as_str.result.now c.args.folder.now (g.F.File.Read.remaining c.in-Ok-open.file) c.in-Ok-open.field-0-1 c.read_text.result
    (c.as_str.ensures.value ∙ c.in-Ok.ensures) c.in-Ok-open.ensures.opened c.read_text.ensures.says

pub returns-clause-reads : goal.returns-clause-reads
returns-clause-reads g c = none_read (g.F.BlobFiles.files c.args.files.now) c.args.folder.now c.fault_of.result _ c.fault_of.ensures.memory c.fault_of.ensures.other
