use Rattle.blob_pages.proofs.PageBytes.{flat_map-page_of, length-page_of}
use Rattle.blob_pages.proofs.laws.blobs_are_their_pages.Goals as goal

pub returns-clause-joined : goal.returns-clause-joined
returns-clause-joined c = flat_map-page_of

pub returns-clause-size : goal.returns-clause-size
returns-clause-size c = length-page_of
