use Rattle.std.proofs.Common.{sym, ap, ◌∙◌}
use Rattle.std.specs.Prelude.{option_copied}
use Rattle.boot_core.proofs.Entries.{found_len, missing_len}
use Rattle.boot_core.proofs.memory.len_in.Goals as goal

pub returns-in-Some : goal.returns-in-Some
returns-in-Some c = sym (found_len c.args.blobs.now c.args.root.now c.in-Some.bytes.now (sym c.in-Some.ensures))

pub returns-in-None : goal.returns-in-None
returns-in-None c = sym (missing_len c.args.blobs.now c.args.root.now (sym c.bytes_in.ensures ∙ ap option_copied c.in-None.is))
