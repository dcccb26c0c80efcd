-- A close and a stage, in the state where they come.
use Rattle.std.proofs.Common.{◌≡◌, ◌≢◌, ℕ, ◌+◌, Bool, true, false, List, ◌++◌, length, Option, Some, None, refl, sym, ap, subst, ◌∙◌}
use Rattle.std.specs.Prelude.{◌==◌, is_some, if◌then◌else◌}
use Rattle.std.specs.List.{AllPairs}
use Rattle.std.specs.Option.{option_map}
use Rattle.std.proofs.lemmas.List.Kept.{AllPairs-filter}
use Rattle.abr_record.specs.declared.Slot.{Slot}
use Rattle.open_tracker.specs.declared.dirs.DirEntry.{DirEntry}
use Rattle.open_tracker.specs.Directories.{root_of, without}
use Rattle.pkg_names.specs.declared.root.Root.{Root}
use Rattle.store_model.specs.declared.events.Event.{Event}
use Rattle.store_model.specs.declared.events.Act.{Act}
use Rattle.store_model.specs.declared.events.Act.TheVariants as acts
use Rattle.store_model.specs.declared.ends.StageEnd.{StageEnd}
use Rattle.store_model.specs.declared.ends.StageEnd.TheVariants as stages
use Rattle.store_model.specs.declared.replies.Dir.{Dir}
use Rattle.store_model.specs.declared.replies.StageReply.TheVariants as stage
use Rattle.store_model.specs.declared.replies.CloseReply.TheVariants as close
use Rattle.store_model.specs.History.{after}
use Rattle.store_model.specs.Holding.{Held}
use Rattle.store_model.specs.State.{State, Phase, Stage, is_recovery}
use Rattle.store_model.specs.Step.{IsActDue, IsActDueIf}
use Rattle.store_model.specs.Lanes.{if_of}
use Rattle.store_model.specs.Acts.Stage.{held_answer}
use Rattle.store_model.specs.Desk as desk
use Rattle.store_model.specs.Desk.{View, Rests, state_of, held_by}
use Rattle.store_model.specs.Replies.{Acts, IsStaged, IsClosed}
use Rattle.store_model.proofs.Calls.{held_by-Rests}
use Rattle.store_model.proofs.LanesOnce.{stand_once}
use Rattle.store_model.proofs.Views.{legal_before-Does, holds_before-Does, there_before-Does, there_after-Rests}
use Rattle.system_updater.specs.Holding.{WithDir, WithStage}
use Rattle.system_updater.proofs.Places.{without_last, root_last}

-- the act is due where it came
pub act_due : (old new : View) (IsIts : ℕ → Event → Type 0) (does : desk.Does old new IsIts) (act : Act) → Acts act does.event → IsActDue (after old.origin (old.seen ++ does.others)) old.lane act
act_due old new IsIts does act is =
    let s = after old.origin (old.seen ++ does.others) in
    let number = length (old.seen ++ does.others) + 1 in
    let e = does.event in
    subst (λ (l : ℕ). IsActDue s l act) does.lane (subst (λ (a : Act). IsActDue s e.lane a) is.0 (subst (λ (b : Bool). IsActDueIf b s number e.lane e.act) is.1 does.due.due))

-- ---- a slot is taken where no lane has one

not_in_recovery : (b : Bool) (slot : Slot) (answer : StageEnd) → stages.Turn slot ≡ (if b then stages.InRecovery else answer) → stages.Turn slot ≡ answer
not_in_recovery true slot answer is = absurd (cc is)
not_in_recovery false slot answer is = is

not_busy : (s : State) (epoch : ℕ) (slot : Slot) (o : Option Stage) → stages.Turn slot ≡ held_answer s epoch o → o ≡ None
not_busy s epoch slot None is = refl
not_busy s epoch slot (Some held) is = absurd (cc is)

pub none_staged : (epoch : ℕ) (slot : Slot) (old new : View) → desk.Does old new (IsStaged epoch (stage.Turn slot)) → (held_by old).stage ≡ None
none_staged epoch slot old new does =
    let s = after old.origin (old.seen ++ does.others) in
    let due = act_due old new (IsStaged epoch (stage.Turn slot)) does (acts.Stage epoch (stages.Turn slot)) does.its in
    let none : s.stage ≡ None = not_busy s epoch slot s.stage (not_in_recovery (is_recovery s.running) slot (held_answer s epoch s.stage) due) in
    (holds_before-Does old new (IsStaged epoch (stage.Turn slot)) does).stage ∙ ap (λ (o : Option Stage). option_map (λ (x : Stage). x.phase) (if_of old.lane o)) none

pub unstaged : (less now : Held) (phase : Phase) → WithStage phase less now → ◌≡◌ {A = Held} (record now { stage = None }) less
unstaged less now phase is =
    ap (λ (h : Held). let held : Held = record h { stage = None } in held) is.is ∙ ap (λ (o : Option Phase). let held : Held = record less { stage = o } in held) (sym is.none)

-- ---- an open directory is closed

-- it is there
pub open_there : (lane : ℕ) (dir : Dir) (less now : Held) → WithDir lane dir less now → (root : Root) × (root_of now.dirs dir.number lane ≡ Some root)
open_there lane dir less now is =
    let found = root_last dir.number lane is.root less.dirs in
    (found.0, ap (λ (h : Held). root_of h.dirs dir.number lane) is.is ∙ found.1)

-- the directories of a lane are apart
dirs_apart : (old new : View) (IsIts : ℕ → Event → Type 0) → desk.Does old new IsIts → AllPairs (λ (a b : DirEntry). a.number ≢ b.number) (held_by old).dirs
dirs_apart old new IsIts does =
    let s = after old.origin (old.seen ++ does.others) in
    let once = stand_once old.origin (old.seen ++ does.others) (legal_before-Does old new IsIts does) in
    subst (AllPairs (λ (a b : DirEntry). a.number ≢ b.number)) (sym (holds_before-Does old new IsIts does).dirs)
    (AllPairs-filter (λ (a b : DirEntry). a.number ≢ b.number) (λ (d : DirEntry). d.lane == old.lane) s.dirs once.dirs.apart)

-- what is left of what was held
pub closed_less : (dir : Dir) (less : Held) (old new : View) → (does : desk.Does old new (IsClosed dir.number close.Closed)) → WithDir old.lane dir less (held_by old)
    → held_by new ≡ record (held_by old) { dirs = without (held_by old).dirs dir.number old.lane } → held_by new ≡ less
closed_less dir less old new does is held =
    let apart = subst (λ (h : Held). AllPairs (λ (a b : DirEntry). a.number ≢ b.number) h.dirs) is.is (dirs_apart old new (IsClosed dir.number close.Closed) does) in
    held ∙ ap (λ (h : Held). let k : Held = record h { dirs = without h.dirs dir.number old.lane } in k) is.is ∙
    ap (λ (ds : List DirEntry). let k : Held = record less { dirs = ds } in k) (without_last dir.number old.lane is.root less.dirs apart)

some_of : (A : Type 0) (o : Option Root) (root : Root) → o ≡ Some root → false ≡ is_some o → A
some_of A None root is lacks = absurd (cc is)
some_of A (Some found) root is lacks = absurd (cc lacks)

none_of : (A : Type 0) (o : Option Root) (root : Root) → o ≡ Some root → o ≡ None → A
none_of A o root is lacks = absurd (cc (is, lacks))

-- it is neither not open
pub never_bad : (A : Type 0) (dir : Dir) (less : Held) (old new : View) → desk.Does old new (IsClosed dir.number close.BadDir) → WithDir old.lane dir less (held_by old) → A
never_bad A dir less old new does is =
    let s = after old.origin (old.seen ++ does.others) in
    let there = open_there old.lane dir less (held_by old) is in
    let due = act_due old new (IsClosed dir.number close.BadDir) does (acts.Close dir.number false) does.its in
    some_of A (root_of s.dirs dir.number old.lane) there.0 (sym ((there_before-Does old new (IsClosed dir.number close.BadDir) does).dir dir.number) ∙ there.1) due

-- nor wants memory
pub never_short : (A : Type 0) (dir : Dir) (less : Held) (old new : View) → (rests : Rests old new) → root_of (state_of new).dirs dir.number old.lane ≡ None → WithDir old.lane dir less (held_by old) → A
never_short A dir less old new rests none is =
    let there = open_there old.lane dir less (held_by old) is in
    let s = state_of new in
    let by_lane = subst (λ (l : ℕ). root_of (held_by new).dirs dir.number l ≡ root_of s.dirs dir.number l) rests.stays.lane ((there_after-Rests old new rests).dir dir.number) in
    none_of A (root_of s.dirs dir.number old.lane) there.0 (sym by_lane ∙ ap (λ (h : Held). root_of h.dirs dir.number old.lane) (held_by-Rests old new rests) ∙ there.1) none
