use Rattle.meta_contents.proofs.Round.{stands, only}
use Rattle.meta_contents.proofs.reading.texts_stand_for_what_is_read.Goals as goal

pub returns : goal.returns
returns c =
    let tested = c.files_are_tested.ensures in
    let roots = c.roots_have_texts.ensures in
    record { stands = stands tested roots.text; only = only tested roots.text roots.some }
