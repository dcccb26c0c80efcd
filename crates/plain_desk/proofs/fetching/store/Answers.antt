use Rattle.std.proofs.Common.{ℕ, List, [], ◌∷◌, ◌++◌, length, Some, sym, ap, subst}
use Rattle.store_model.specs.State.{State, Stored}
use Rattle.store_model.specs.Acts.Put.{IsRoomOf}
use Rattle.plain_stock.specs.Contents.{AreBytesOf, Holds}
use Rattle.plain_stock.proofs.KeptBytes.{bytes_landed, bytes_undone, is_there, last_holds}
use Rattle.plain_desk.specs.Stores.{draft_of}
use Rattle.plain_desk.proofs.Claims.{unstored}
use Rattle.plain_desk.proofs.fetching.store.Goals as goal

pub fill-requires : goal.fill-requires
fill-requires c = is_there c.args.root [] c.args.contents.now c.reserve.new.self c.in_ok-reserve.ensures.ok

pub returns-in-Ok-clause-blobs : goal.returns-in-Ok-clause-blobs
returns-in-Ok-clause-blobs c =
    let bytes = draft_of c.args.drafts.now c.args.lane in
    subst (λ (x : List Stored). AreBytesOf c.fill.new.self x) (sym (ap (λ (s : State). s.stock) c.in-Ok.ensures.ok.state.rest))
    (subst (λ (b : List ℕ). AreBytesOf c.fill.new.self (c.args.ledger.now.state.stock ++ record { root = c.args.root; len = length b } ∷ [])) (sym c.bytes_of-bytes.ensures)
    (bytes_landed c.args.root bytes c.requires.blobs (unstored c.args.ledger.now c.args.root (IsRoomOf c.args.lane (length bytes)) c.requires.agrees c.requires.claim) c.requires.root
    (last_holds c.args.root (Some []) (Some bytes) c.args.contents.now c.reserve.new.self c.fill.new.self c.in_ok-reserve.ensures.ok
    (subst (λ b. Holds c.args.root (Some b) c.reserve.new.self c.fill.new.self) c.take.ensures.bytes c.fill.ensures))))

pub returns-in-Err-clause-blobs : goal.returns-in-Err-clause-blobs
returns-in-Err-clause-blobs c =
    subst (λ (x : List Stored). AreBytesOf c.remove.new.self x) (sym (ap (λ (s : State). s.stock) c.in-Err.ensures.err.state.rest))
    (bytes_undone c.args.root [] c.reserve.new.self c.requires.blobs (unstored c.args.ledger.now c.args.root (IsRoomOf c.args.lane (length (draft_of c.args.drafts.now c.args.lane))) c.requires.agrees c.requires.claim) c.in_ok-reserve.ensures.ok c.remove.ensures)
