use Rattle.far_archive.proofs.Law.{stands, has_one_list, has_no_fault, names_ascend}
use Rattle.far_archive.proofs.archive.texts_stand_or_have_a_fault.Goals as goal

pub returns : goal.returns
returns c =
    let tested = c.files_are_tested.ensures in
    record { stands = stands tested; one = has_one_list tested; no_fault = has_no_fault tested; ascend = names_ascend }
