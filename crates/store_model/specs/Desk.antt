-- What a call at a desk does: to what its lane has seen, to what the lane has done, and to the bytes that
-- the desk keeps for it.
use Rattle.std.specs.Prelude.{◌≡◌, ◌≢◌, ℕ, ◌+◌, ◌==◌, List, [], ◌∷◌, ◌++◌, length, All, Option, Some, None, if◌then◌else◌}
use Rattle.image_layout.specs.declared.ImageKind.{ImageKind}
use Rattle.image_layout.specs.declared.ImageKind.TheVariants as images
use Rattle.pkg_names.specs.declared.root.Root.{Root}
use Rattle.pkg_names.specs.Root.{root_eq}
use Rattle.store_model.specs.declared.events.Event.{Event}
use Rattle.store_model.specs.State.{State}
use Rattle.store_model.specs.Step.{IsDue}
use Rattle.store_model.specs.History.{Origin, IsLegal, Numbered, after, of_lane}
use Rattle.store_model.specs.Holding.{Held, held}

-- the files that alone have filled the two images, from their first byte on
pub record Fillers : Type 0 where
  pub zbi : Option Root
  pub vbmeta : Option Root

-- what is seen of a desk
pub record View : Type 0 where
  pub lane : ℕ
  -- which store the desk is at
  pub tie : List ℕ
  pub origin : Origin
  -- the events that the lane knows of: a front of the history
  pub seen : List Event
  -- the lane's own events
  pub mine : List Numbered
  pub fillers : Fillers

-- the state after what the lane has seen
abbrev pub state_of : View → State
state_of v = after v.origin v.seen

-- what the lane holds
abbrev pub held_by : View → Held
held_by v = held v.mine

-- no write has failed that the lane knows of
abbrev pub IsUnbroken : View → Type 0
IsUnbroken v = (state_of v).broken ≡ None

-- the number of the next event
abbrev next_number : List Event → ℕ
next_number seen = length seen + 1

-- ---- what a call does to what was seen

-- what no call changes
pub record Stays (old new : View) : Type 0 where
  pub lane : new.lane ≡ old.lane
  pub tie : new.tie ≡ old.tie
  pub origin : new.origin ≡ old.origin

-- events of other lanes
abbrev AreOthers : ℕ → List Event → Type 0
AreOthers lane events = All (λ (e : Event). e.lane ≢ lane) events

-- The call made one event, of which this is so. The lane has seen what other lanes did before it.
pub record Does (old new : View) (IsIts : ℕ → Event → Type 0) : Type 0 where
  pub stays : Stays old new
  pub others : List Event
  pub are_others : AreOthers old.lane others
  pub event : Event
  pub lane : event.lane ≡ old.lane
  pub its : IsIts (next_number (old.seen ++ others)) event
  pub seen : new.seen ≡ old.seen ++ others ++ event ∷ []
  pub mine : new.mine
      ≡ old.mine ++ record { number = next_number (old.seen ++ others); event = event } ∷ []
  pub due : IsDue (after old.origin (old.seen ++ others)) (next_number (old.seen ++ others)) event
  pub own : new.mine ≡ of_lane new.lane new.seen
  pub legal : IsLegal new.origin new.seen

-- the call made no event
pub record Rests (old new : View) : Type 0 where
  pub stays : Stays old new
  pub others : List Event
  pub are_others : AreOthers old.lane others
  pub seen : new.seen ≡ old.seen ++ others
  pub mine : new.mine ≡ old.mine
  pub own : new.mine ≡ of_lane new.lane new.seen
  pub legal : IsLegal new.origin new.seen

-- ---- what a call does to the bytes that are kept

-- what bytes are kept for: the blob of the lane's claim, or an image of the slot that it fills
pub data Keeping : Type 0 where
  Blob : Keeping
  Image : ImageKind → Keeping

-- the bytes that a desk stands for
abbrev pub Kept : Type 1
Kept = Keeping → List ℕ → Type 0

-- what was kept is kept
abbrev pub Keeps : Kept → Kept → Type 0
Keeps old new = (what : Keeping) (bytes : List ℕ) → old what bytes → new what bytes

abbrev pub KeepsImages : Kept → Kept → Type 0
KeepsImages old new = (image : ImageKind) (bytes : List ℕ) → old (Image image) bytes → new (Image image) bytes

abbrev pub KeepsBlob : Kept → Kept → Type 0
KeepsBlob old new = (bytes : List ℕ) → old Blob bytes → new Blob bytes

-- these bytes came behind what was kept
abbrev pub Appends : Kept → Kept → Keeping → List ℕ → Type 0
Appends old new what piece = (bytes : List ℕ) → old what bytes → new what (bytes ++ piece)

-- so it is of whatever bytes were kept
abbrev pub OfKept : Kept → Keeping → (List ℕ → Type 0) → Type 0
OfKept kept what P = (bytes : List ℕ) → kept what bytes → P bytes

-- ---- the files that fill the images

abbrev pub filler_of : Fillers → ImageKind → Option Root
filler_of fillers images.Zbi = fillers.zbi
filler_of fillers images.Vbmeta = fillers.vbmeta

abbrev pub with_filler : Fillers → ImageKind → Option Root → Fillers
with_filler fillers images.Zbi file = record fillers { zbi = file }
with_filler fillers images.Vbmeta file = record fillers { vbmeta = file }

abbrev same_filler : Root → Option Root → Option Root
same_filler file None = None
same_filler file (Some root) = if root_eq root file then Some root else None

-- the file that alone has filled an image of so many bytes, once more of this file comes
abbrev pub filler_after : ℕ → Root → Option Root → Option Root
filler_after place file filler = if place == 0 then Some file else same_filler file filler

-- no file has filled an image
abbrev pub no_fillers : Fillers
no_fillers = record { zbi = None; vbmeta = None }
