-- What a resolve leaves of what is seen of its desk.
use Rattle.std.specs.Prelude.{◌≡◌, ◌≤◌, ℕ, ◌+◌, ⊤, ◌∷◌, [], ◌++◌, List, Option, Some, All}
use Rattle.pkg_names.specs.NameAndVariant.{NameAndVariant}
use Rattle.pkg_names.specs.Streams.{RoseBy}
use Rattle.pkg_names.specs.declared.pinned.Pinned.{Pinned}
use Rattle.pkg_names.specs.declared.root.Root.{Root}
use Rattle.repo_source.specs.declared.file.RepoFile.{RepoFile}
use Rattle.store_model.specs.declared.events.Event.{Event}
use Rattle.store_model.specs.History.{IsLegal, Numbered, of_lane}
use Rattle.store_model.specs.Holding.{Held}
use Rattle.store_model.specs.Desk.{View, Stays, held_by}
use Rattle.resolver.specs.Serving.{Serves}
use Rattle.resolver.specs.Counting.{grants, failures, counted}
use Rattle.resolver.specs.Fetched.{Lists, Tells}
use Rattle.resolver.specs.declared.reply.ResolveReply.{ResolveReply}
use Rattle.resolver.specs.declared.reply.ResolveReply.TheVariants as replies

-- What the lane did is its part of what it has seen, and that is legal. So it is after each call.
pub record Agrees (v : View) : Type 0 where
  pub own : v.mine ≡ of_lane v.lane v.seen
  pub legal : IsLegal v.origin v.seen

-- what the lane holds: also the directory that is replied, of some package, and nothing else of the resolve
abbrev pub IsHeldAfter : ℕ → ResolveReply → Held → Held → Type 0
IsHeldAfter lane (replies.Resolved dir) old new =
    (root : Root)
    × (new ≡ record old { dirs = old.dirs ++ record { number = dir.number; lane = lane; root = root } ∷ [] })
IsHeldAfter lane reply old new = new ≡ old

-- The events tell of each fault: all do but those of a run that ends, before anything was granted, for want of memory
-- or since the store is broken. Then the store may not have taken the package that it was asked for.
abbrev pub TellsFaults : ResolveReply → List Numbered → Type 0
TellsFaults replies.NoMemory run = 1 ≤ grants run
TellsFaults (replies.Broken number) run = 1 ≤ grants run
TellsFaults reply run = ⊤

-- What the lane did is one run that resolves the package, and the reply is the run's. What it had seen is the front
-- of what it has seen. The repository was asked once for each grant of the run, it failed as often as the run says,
-- and no oftener where the run tells of each fault, and the run fits what the repository tells.
pub record Resolves (path : NameAndVariant) (pin : Option Root) (reply : ResolveReply) (old new : View)
    (listing : Option (List Pinned)) (files : Option (List RepoFile)) (faults faults_now fetches fetches_now : ℕ)
    : Type 0 where
  pub stays : Stays old new
  pub agrees : Agrees old → Agrees new
  pub more : List Event
  pub seen : new.seen ≡ old.seen ++ more
  pub run : List Numbered
  pub grows : new.mine ≡ old.mine ++ run
  pub serves : Serves path pin run reply
  pub held : IsHeldAfter old.lane reply (held_by old) (held_by new)
  pub fillers : new.fillers ≡ old.fillers
  pub asked : fetches_now ≡ counted (grants run) fetches
  pub failed : RoseBy (failures run) faults faults_now
  pub spared : TellsFaults reply run → faults_now ≤ faults + failures run
  pub lists : (all : List Pinned) → listing ≡ Some all → All (Lists all) run
  pub tells : (all : List RepoFile) → files ≡ Some all → All (Tells all) run
