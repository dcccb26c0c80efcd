use Rattle.std.proofs.Common.{◌≡◌, drop}
use Rattle.boot_core.specs.Look.{bytes_in}
use Rattle.boot_core.proofs.seen.bytes_in.Given as goal

abbrev pub invariant-loop-blob : goal.invariant-loop-blob
invariant-loop-blob l = bytes_in (drop l.blob-index l.blobs) l.root ≡ bytes_in l.blobs l.root
