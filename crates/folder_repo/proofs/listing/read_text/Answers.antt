use Rattle.std.proofs.Common.{◌≡◌, ◌⊎◌, List, ℕ, Err, subst}
use Rattle.folder_repo.specs.Listing.{listing_in}
use Rattle.folder_repo.specs.declared.listing.DirFault.TheVariants.{NoMemory}
use Rattle.folder_repo.proofs.Texts.{read_says, no_text_read}
use Rattle.folder_repo.proofs.listing.read_text.Goals as goal

pub returns-in-Ok-clause-says : goal.returns-in-Ok-clause-says
returns-in-Ok-clause-says g c =
    let limit : c.take.result.limit ≡ 1048577 = c.take.ensures.limit in
    let limited = rw limit at c.in-Ok.ensures.bytes in
    let given = rw c.take.ensures.inner at limited in
    let after = rw c.new-text.ensures.items at given in
    let same = subst (λ (text : List ℕ). (c.listing_of.result ≡ listing_in text) ⊎ (c.listing_of.result ≡ Err NoMemory)) c.deref.ensures.value c.listing_of.ensures.listing in
    read_says (g.F.Read.remaining c.args.file) _ c.listing_of.result after same

pub returns-clause-says : goal.returns-clause-says
returns-clause-says g c = no_text_read (g.F.Read.remaining c.args.file) c.fault_of.result _ c.fault_of.ensures.memory c.fault_of.ensures.other
