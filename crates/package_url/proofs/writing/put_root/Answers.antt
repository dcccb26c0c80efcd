use Rattle.std.proofs.Common.{rules}
use Rattle.package_url.proofs.writing.put_root.Goals as goal

pub returns-clause-valid : goal.returns-clause-valid
returns-clause-valid c = record { length = search rules; bytes = λ i. search rules }
