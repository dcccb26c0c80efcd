-- Each event keeps the stock and the claims in room.
use Rattle.std.proofs.Common.{◌≡◌, ℕ, ◌+◌, ◌≤◌, ◌<◌, Bool, true, false, cond, List, Option, Some, None, refl, sym, subst, arith}
use Rattle.std.specs.Prelude.{◌-◌, nat_lt, nat_le, IsSomeAnd}
use Rattle.std.proofs.lemmas.Bool.{ltb-false, leb-false}
use Rattle.pkg_merkle.specs.declared.hasher.TheConstants.{BYTES_LIMIT}
use Rattle.image_layout.specs.declared.geometry.Geometry.{Geometry}
use Rattle.fetch_queue.specs.declared.FetchEnd.{FetchEnd}
use Rattle.fetch_queue.specs.declared.FetchEnd.TheVariants.{TooLarge, NoNode, NoSpace}
use Rattle.fetch_queue.specs.declared.queue.ClaimEntry.{ClaimEntry}
use Rattle.store_model.specs.declared.events.Event.{Event}
use Rattle.store_model.specs.declared.events.Act.{Act}
use Rattle.store_model.specs.declared.events.Act.TheVariants.{Want, Room, Put, Land, Missed, Collect, Refused}
use Rattle.store_model.specs.declared.events.CallName.{CallName}
use Rattle.store_model.specs.declared.events.CallName.TheVariants as calls
use Rattle.store_model.specs.declared.ends.Miss.TheVariants as misses
use Rattle.store_model.specs.declared.ends.WantEnd.TheVariants as wants
use Rattle.store_model.specs.State.{State, Stored, claim_of}
use Rattle.store_model.specs.Packages.{pages_of, stock_pages, claim_pages, free_pages, nodes}
use Rattle.store_model.specs.Step.{IsActDue, IsActDueIf, IsDue, next, next_broken, step}
use Rattle.store_model.specs.Acts.Room.{room_end}
use Rattle.store_model.specs.Sound.{IsInRoom}
use Rattle.store_model.proofs.Frames.{keeps_next}
use Rattle.store_model.proofs.SoundRoom.{AreApart, room_without, room_claimed, room_made, room_landed, room_removed}

-- what is there, and what holds of it
pub some_and : {X : Type 0} {P : X → Type 0} (o : Option X) → IsSomeAnd o P → (x : X) × (o ≡ Some x) × P x
some_and None h = absurd h
some_and (Some x) h = (x, refl, h)

abbrev pub InRoom : State → Type 0
InRoom s = IsInRoom s.geometry s.stock s.claims

same_room : (g h : Geometry) (stock new : List Stored) (claims left : List ClaimEntry) → h ≡ g → new ≡ stock → left ≡ claims → IsInRoom g stock claims → IsInRoom h new left
same_room g h stock new claims left e f k room =
    subst (λ (x : Geometry). IsInRoom x new left) (sym e)
    (subst (λ (x : List Stored). IsInRoom g x left) (sym f) (subst (λ (x : List ClaimEntry). IsInRoom g stock x) (sym k) room))

-- room is made where it is there
record Fits (s : State) (len : ℕ) : Type 0 where
  short : len ≤ BYTES_LIMIT
  entries : nodes s < s.geometry.blobs
  pages : pages_of len ≤ free_pages s

fits_from : (a b c : Bool) (x y z : FetchEnd) → None ≡ cond a (Some x) (cond b (Some y) (cond c (Some z) None)) → (a ≡ false) × (b ≡ false) × (c ≡ false)
fits_from true b c x y z e = absurd cc
fits_from false true c x y z e = absurd cc
fits_from false false true x y z e = absurd cc
fits_from false false false x y z e = (refl, refl, refl)

fits : (s : State) (len : ℕ) → None ≡ room_end s len → Fits s len
fits s len e =
    let parts = fits_from (nat_lt BYTES_LIMIT len) (nat_le s.geometry.blobs (nodes s)) (nat_lt (free_pages s) (pages_of len)) (TooLarge len) NoNode (NoSpace (pages_of len) (free_pages s)) e in
    record {
      short = ltb-false BYTES_LIMIT len parts.0;
      entries = leb-false s.geometry.blobs (nodes s) parts.1;
      pages = ltb-false (free_pages s) (pages_of len) parts.2;
    }

pages_left : (all used more : ℕ) → used ≤ all → more ≤ all - used → used + more ≤ all
pages_left all used more h k = omega arith

room_refused : (s : State) (call : CallName) → InRoom s → InRoom (next s 0 0 (Refused call 0))
room_refused s (calls.Room root) h = room_without s.geometry s.stock s.claims root h
room_refused s (calls.Put root) h = room_without s.geometry s.stock s.claims root h
room_refused s (calls.Land root) h = room_without s.geometry s.stock s.claims root h
room_refused s call h = h

pub room_next : (s : State) (number lane : ℕ) (act : Act) → IsActDue s lane act → AreApart s.claims → InRoom s → InRoom (next s number lane act)
room_next s number lane (Want ticket (wants.Fetch root)) due once h = room_claimed s.geometry s.stock s.claims root lane h
room_next s number lane (Want ticket wants.Opened) due once h = h
room_next s number lane (Want ticket (wants.Failed cause)) due once h = h
room_next s number lane (Room root len None) due once h =
    let found = some_and (claim_of s.claims root) due.0 in
    let fit = fits s len due.1 in
    room_made s.geometry s.stock s.claims root len found.0 once h found.1 found.2.len fit.short fit.entries
    (pages_left s.geometry.data_pages (stock_pages s.stock + claim_pages s.claims) (pages_of len) h.pages fit.pages)
room_next s number lane (Room root len (Some end)) due once h = room_without s.geometry s.stock s.claims root h
room_next s number lane (Put root None) due once h = h
room_next s number lane (Put root (Some end)) due once h = room_without s.geometry s.stock s.claims root h
room_next s number lane (Land root len None seen) due once h =
    let found = some_and (claim_of s.claims root) due.0 in
    room_landed s.geometry s.stock s.claims root len found.0 once h found.1 found.2.room
room_next s number lane (Land root len (Some end) seen) due once h = room_without s.geometry s.stock s.claims root h
room_next s number lane (Missed root misses.Absent) due once h = room_without s.geometry s.stock s.claims root h
room_next s number lane (Missed root misses.Read) due once h = room_without s.geometry s.stock s.claims root h
room_next s number lane (Missed root misses.Memory) due once h = room_without s.geometry s.stock s.claims root h
room_next s number lane (Collect None) due once h = h
room_next s number lane (Collect (Some roots)) due once h = room_removed s.geometry s.stock s.claims roots h
room_next s number lane (Refused call broken) due once h = room_refused s call h
room_next s number lane act due once h =
    let keeps = keeps_next s number lane act in
    same_room s.geometry (next s number lane act).geometry s.stock (next s number lane act).stock s.claims (next s number lane act).claims keeps.geometry (keeps.stock refl) (keeps.claims refl) h

room_broken : (s : State) (number : ℕ) (act : Act) → InRoom s → InRoom (next_broken s number act)
room_broken s number (Put root reply) h = room_without s.geometry s.stock s.claims root h
room_broken s number (Land root len reply seen) h = room_without s.geometry s.stock s.claims root h
room_broken s number act h = h

room_next_of : (s : State) (number lane : ℕ) (act : Act) (broke : Bool) → IsActDueIf broke s number lane act → AreApart s.claims → InRoom s → InRoom (cond broke (next_broken s number act) (next s number lane act))
room_next_of s number lane act true due once h = room_broken s number act h
room_next_of s number lane act false due once h = room_next s number lane act due once h

pub room_step : (s : State) (number : ℕ) (e : Event) → IsDue s number e → AreApart s.claims → InRoom s → InRoom (step s number e)
room_step s number e due once h = room_next_of s number e.lane e.act e.broke due.due once h
