use Rattle.pkg_names.proofs.FileTests.{is_file_text-Decides}
use Rattle.pkg_names.proofs.file.files_are_tested.Goals as goal

pub returns : goal.returns
returns c = is_file_text-Decides
