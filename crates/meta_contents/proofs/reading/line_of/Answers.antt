use Rattle.std.proofs.Common.{List, ℕ, Result, Err, refl, inr, ap, subst}
use Rattle.pkg_names.specs.declared.file.FileFault.{FileFault}
use Rattle.pkg_names.specs.FileText.{IsFile}
use Rattle.meta_contents.proofs.Cuts.{says_nothing, bad_file, bad_root, says_so}
use Rattle.meta_contents.proofs.reading.line_of.Goals as goal

pub returns-in_default-clause-fault : goal.returns-in_default-clause-fault
returns-in_default-clause-fault c = inr (refl, says_nothing c.args.line.now c.in_default.ensures.none)

pub returns-in-Err-BadFile-clause-fault : goal.returns-in-Err-BadFile-clause-fault
returns-in-Err-BadFile-clause-fault c =
    inr (refl, bad_file c.files_are_tested.ensures c.args.line.now c.in-Some.at c.in-Some.ensures.found.0 c.in-Some.ensures.found.1 c.in-Some.ensures.last (c.in-Err-BadFile.ensures.bad_file (ap (λ (e : FileFault). let r : Result (List ℕ) FileFault = Err e in r) c.in-Err-BadFile.field-0-is)))

pub returns-in-Ok-read_root-clause-found : goal.returns-in-Ok-read_root-clause-found
returns-in-Ok-read_root-clause-found c =
    says_so c.files_are_tested.ensures c.args.line.now c.in-Some.at c.in-Some.ensures.found.0 c.in-Some.ensures.found.1 c.in-Some.ensures.last c.in-Ok.file c.in-Ok-read_root.root c.in-Ok.ensures.valid c.in-Ok.ensures.found c.in-Ok-read_root.ensures.value

pub returns-in-Err-clause-fault : goal.returns-in-Err-clause-fault
returns-in-Err-clause-fault c =
    inr (refl, bad_root c.files_are_tested.ensures c.args.line.now c.in-Some.at c.in-Some.ensures.found.0 c.in-Some.ensures.found.1 c.in-Some.ensures.last (subst IsFile c.in-Ok.ensures.found c.in-Ok.ensures.valid) c.in-Err.ensures.value)
