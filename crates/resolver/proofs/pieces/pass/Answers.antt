use Rattle.std.proofs.Common.{◌≡◌, ◌+◌, ◌-◌, ◌<◌, ◌≤◌, ℕ, List, length, take, length-take, min, refl, ap, subst, arith}
use Rattle.store_model.specs.declared.ends.Miss.TheVariants as misses
use Rattle.store_model.specs.declared.ends.TheConstants.{PIECE_LIMIT}
use Rattle.store_model.specs.declared.replies.Claim.{Claim}
use Rattle.store_model.specs.declared.replies.PutReply.TheVariants as put
use Rattle.store_model.specs.Desk.{Kept, OfKept}
use Rattle.store_model.specs.Desk.Keeping.{Blob}
use Rattle.store_model.proofs.CallsHeld.{piece_put, missed}
use Rattle.resolver.specs.Serving.Point.{Roomy}
use Rattle.resolver.specs.Steps.{Goes, after_fetch}
use Rattle.resolver.proofs.Goes.{goes_from}
use Rattle.resolver.proofs.Desks.{put_goes, roomy_misses}
use Rattle.resolver.proofs.Filling.{fills_more, fits_left, too_long, filled}
use Rattle.resolver.proofs.Handles.{room_of}
use Rattle.resolver.proofs.pieces.pass.Goals as goal

-- the size of a piece
piece_size : (count : ℕ) (out buffer : List ℕ) → count ≤ length buffer → length out ≡ length buffer → length (take count out) ≡ count
piece_size count out buffer fits same = sizes (length out) (length buffer) (length (take count out)) (length-take count out) fits same where
  sizes : (a b c : ℕ) → c ≡ min count a → count ≤ b → a ≡ b → c ≡ count
  sizes a b c h k l = omega arith

few_enough : (size count length_ limit : ℕ) → size ≡ count → count ≤ length_ → length_ ≤ limit → size ≤ limit
few_enough size count length_ limit h k l = omega arith

less : (left count : ℕ) → 1 ≤ count → count ≤ left → left - count < left
less left count h k = omega arith

pub put-requires : goal.put-requires
put-requires g c =
    let fits : c.in-Given.count ≤ length c.args.buffer.now = c.in-Given.ensures.fits.1 in record {
      holds = (c.args.len, c.requires.room);
      few = few_enough (length (take c.in-Given.count c.next.new.out)) c.in-Given.count (length c.args.buffer.now) PIECE_LIMIT
          (piece_size c.in-Given.count c.next.new.out c.args.buffer.now fits c.next.auto.out) fits c.requires.few;
    }

pub returns-in-Taken-clause-fills : goal.returns-in-Taken-clause-fills
returns-in-Taken-clause-fills g c =
    let before : Kept = g.K.Desk.kept c.args.desk.now in
    let after : Kept = g.K.Desk.kept c.put.new.self in
    let files = g.R.Repo.files c.args.repo.now in
    let place = g.R.Repo.reading c.args.repo.now in
    let root = c.args.claim.root in
    let out = c.next.new.out in
    let count = c.in-Given.count in
    let size = piece_size count out c.args.buffer.now c.in-Given.ensures.fits.1 c.next.auto.out in
    let room = room_of (g.K.Desk.view c.args.desk.now) root c.args.len c.requires.room in
    let fit = subst (λ (n : ℕ). OfKept before Blob (λ bytes. length bytes + length (take count out) ≤ n)) room c.in-Taken.ensures.kept.2 in (
      ap (λ (k : Claim). k.root) c.in-Taken.ensures.event.1,
      less c.args.left count c.in-Given.ensures.fits.0 (fits_left before files root place c.args.len c.args.left out c.requires.fills count (take count out) refl size c.in-Given.ensures.given fit),
      fills_more before files root place c.args.len c.args.left out c.requires.fills count (take count out) refl size c.in-Given.ensures.given after (g.R.Repo.reading c.next.new.self) c.in-Given.ensures.advanced c.in-Taken.ensures.kept.1 fit,
    )

pub returns-in-Ended-clause-goes : goal.returns-in-Ended-clause-goes
returns-in-Ended-clause-goes g c = λ t.
    let before : Kept = g.K.Desk.kept c.args.desk.now in
    let listing = g.R.Repo.listing c.args.repo.now in
    let files = g.R.Repo.files c.args.repo.now in
    let place = g.R.Repo.reading c.args.repo.now in
    let root = c.args.claim.root in
    let out = c.next.new.out in
    let count = c.in-Given.count in
    let now = g.R.Repo.faults c.next.new.self in
    let size = piece_size count out c.args.buffer.now c.in-Given.ensures.fits.1 c.next.auto.out in
    let room = room_of (g.K.Desk.view c.args.desk.now) root c.args.len c.requires.room in
    let over = subst (λ (n : ℕ). OfKept before Blob (λ bytes. n < length bytes + length (take count out))) room c.in-Ended.ensures.kept.1 in
    goes_from 0 _ _ _ _ listing files (g.R.Repo.faults c.args.repo.now) now now c.in-Given.ensures.faults
    (put_goes listing files now t c.args.claim c.args.len (put.Ended c.in-Ended.field-0) (g.K.Desk.view c.args.desk.now) (g.K.Desk.view c.put.new.self) c.in-Ended.ensures.event c.in-Ended.ensures.fillers
    (λ end same. too_long before files root place c.args.len c.args.left out c.requires.fills count (take count out) refl size c.in-Given.ensures.given over))

pub returns-in-Ended-clause-held : goal.returns-in-Ended-clause-held
returns-in-Ended-clause-held g c = piece_put c.args.claim (put.Ended c.in-Ended.field-0) (g.K.Desk.view c.args.desk.now) (g.K.Desk.view c.put.new.self) c.in-Ended.ensures.event

pub returns-in-Broken-clause-held : goal.returns-in-Broken-clause-held
returns-in-Broken-clause-held g c = piece_put c.args.claim (put.Broken c.in-Broken.number) (g.K.Desk.view c.args.desk.now) (g.K.Desk.view c.put.new.self) c.in-Broken.ensures.event

pub returns-in-End-clause-goes : goal.returns-in-End-clause-goes
returns-in-End-clause-goes g c = λ t.
    let before : Kept = g.K.Desk.kept c.args.desk.now in
    let listing = g.R.Repo.listing c.args.repo.now in
    let files = g.R.Repo.files c.args.repo.now in
    let place = g.R.Repo.reading c.args.repo.now in
    let root = c.args.claim.root in
    let now = g.R.Repo.faults c.next.new.self in
    let old = g.K.Desk.view c.args.desk.now in
    let new = g.K.Desk.view c.land.new.desk in
    let room = room_of old root c.args.len c.requires.room in
    let all_put = filled before files root place c.args.len c.args.left c.next.new.out c.requires.fills c.in-End.ensures.given in
    goes_from 0 _ _ _ _ listing files (g.R.Repo.faults c.args.repo.now) now now c.in-End.ensures.faults
    (subst (λ (n : ℕ). Goes 0 (Roomy t root n) (after_fetch t c.land.result) old new listing files now now) room (c.land.ensures.goes t listing files now all_put))

pub returns-in-Failed-clause-goes : goal.returns-in-Failed-clause-goes
returns-in-Failed-clause-goes g c = λ t.
    roomy_misses (g.R.Repo.listing c.args.repo.now) (g.R.Repo.files c.args.repo.now) _ _ t c.args.claim.root c.args.len misses.Read _ _ c.miss.ensures.event c.miss.ensures.fillers
    c.in-Failed.ensures.faults (λ all told. tt)

pub returns-in-Failed-clause-held : goal.returns-in-Failed-clause-held
returns-in-Failed-clause-held g c = missed c.args.claim.root misses.Read _ _ c.miss.ensures.event
