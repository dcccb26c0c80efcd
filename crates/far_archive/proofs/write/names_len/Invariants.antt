use Rattle.std.proofs.Common.{◌≡◌, length, take, All}
use Rattle.pkg_names.specs.FileText.{IsFile}
use Rattle.far_archive.specs.Written.{joined_names, listed}
use Rattle.far_archive.proofs.write.names_len.Given as goal

abbrev pub invariant-loop-entry : goal.invariant-loop-entry
invariant-loop-entry l = record {
  value : l.len ≡ length (joined_names (listed (take l.entry-index l.entries)));
  paths : All (λ file. IsFile file.0) (listed (take l.entry-index l.entries));
}
