-- A directory that the lane holds is open, so no recovery runs, and the slot that it fills can't be booted.
use Rattle.std.proofs.Common.{◌≡◌, ℕ, Bool, true, false, not, List, [], ◌++◌, Option, Some, None, refl, sym, ap, subst, ◌∙◌}
use Rattle.std.specs.Prelude.{IfSome, if◌then◌else◌, nat_lt}
use Rattle.abr_record.specs.declared.Slot.{Slot}
use Rattle.image_layout.specs.declared.ImageKind.{ImageKind}
use Rattle.open_tracker.specs.declared.dirs.DirEntry.{DirEntry}
use Rattle.open_tracker.specs.Directories.{root_of}
use Rattle.far_archive.specs.Named.{file_named}
use Rattle.package_book.specs.Book.{MetaAndFiles, outer_at}
use Rattle.pkg_names.specs.declared.root.Root.{Root}
use Rattle.store_model.specs.declared.events.Act.TheVariants as acts
use Rattle.store_model.specs.declared.ends.ReadEnd.TheVariants as reads
use Rattle.store_model.specs.declared.ends.CopyEnd.{CopyEnd}
use Rattle.store_model.specs.declared.ends.CopyEnd.TheVariants as copies
use Rattle.store_model.specs.declared.ends.RetainEnd.TheVariants as retains
use Rattle.store_model.specs.declared.ends.StageEnd.TheVariants as stages
use Rattle.store_model.specs.declared.replies.Dir.{Dir}
use Rattle.store_model.specs.declared.replies.ReadReply.TheVariants as read
use Rattle.store_model.specs.declared.replies.CopyReply.TheVariants as copy
use Rattle.store_model.specs.declared.replies.RetainReply.TheVariants as retain
use Rattle.store_model.specs.declared.replies.StageReply.TheVariants as stage
use Rattle.store_model.specs.Acts.Copy.{area, too_large, copy_end_of}
use Rattle.store_model.specs.Acts.Read.{IsReadFrom}
use Rattle.store_model.specs.Acts.Stage.{held_answer}
use Rattle.store_model.specs.Desk as desk
use Rattle.store_model.specs.Desk.{View, held_by}
use Rattle.store_model.specs.Files.{Found, found, found_at, found_of, found_in, found_outer, found_len}
use Rattle.store_model.specs.Files.Found.{NotOpen, NoSuchFile, Inner, Outer}
use Rattle.store_model.specs.History.{after}
use Rattle.store_model.specs.Holding.{Held}
use Rattle.store_model.specs.Replies.{IsRead, IsCopied, IsRetained, IsStaged as IsStagedBy}
use Rattle.store_model.specs.Packages.{known_book}
use Rattle.store_model.specs.Sound.{IsInPhase, IsUnderWay}
use Rattle.store_model.specs.State.{State, Stage, stored_len, is_committed, is_recovery, running_epoch, other_slot}
use Rattle.store_model.specs.State.Phase.{Filling as Fills}
use Rattle.store_model.proofs.Sound.{stage_after}
use Rattle.store_model.proofs.Views.{legal_before-Does, there_before-Does}
use Rattle.system_updater.specs.Holding.{WithDir, IsStaged}
use Rattle.system_updater.proofs.Closes.{act_due, open_there}
use Rattle.system_updater.proofs.Recovery.{bare_after}

-- ---- a file is looked for in an open directory

outer_found : (A : Type 0) (root : Option Root) → found_outer root ≡ NotOpen → A
outer_found A None is = absurd (cc is)
outer_found A (Some root) is = absurd (cc is)

inner_found : (A : Type 0) (book : MetaAndFiles) (file : List ℕ) (inner : Option (List ℕ)) → found_in book file inner ≡ NotOpen → A
inner_found A book file None is = outer_found A (outer_at file book.outer) is
inner_found A book file (Some bytes) is = absurd (cc is)

book_found : (A : Type 0) (book : Option MetaAndFiles) (file : List ℕ) → found_of book file ≡ NotOpen → A
book_found A None file is = absurd (cc is)
book_found A (Some book) file is = inner_found A book file (file_named file book.inner) is

is_found : (A : Type 0) (s : State) (lane dir : ℕ) (file : List ℕ) (root : Root) → root_of s.dirs dir lane ≡ Some root → found s lane dir file ≡ NotOpen → A
is_found A s lane dir file root there is = book_found A (known_book s.books root) file (sym (ap (λ (o : Option Root). found_at s o file) there) ∙ is)

-- ---- it is read

outer_bad : (A : Type 0) (s : State) (root : Root) (len : Option ℕ) → stored_len s.stock root ≡ len → IsReadFrom s (Outer root) reads.BadDir → A
outer_bad A s root None same = rw same (λ is. absurd is)
outer_bad A s root (Some len) same = rw same (λ is. absurd is)

read_bad : (s : State) (place : Found) → IsReadFrom s place reads.BadDir → place ≡ NotOpen
read_bad s NotOpen is = refl
read_bad s NoSuchFile is = absurd (cc is)
read_bad s (Inner bytes) is = absurd is
read_bad s (Outer root) is = outer_bad (Outer root ≡ NotOpen) s root (stored_len s.stock root) refl is

pub read_never_bad : (A : Type 0) (dir : Dir) (file : List ℕ) (less : Held) (old new : View) → desk.Does old new (IsRead dir.number file read.BadDir) → WithDir old.lane dir less (held_by old) → A
read_never_bad A dir file less old new does is =
    let s = after old.origin (old.seen ++ does.others) in
    let there = open_there old.lane dir less (held_by old) is in
    let due = act_due old new (IsRead dir.number file read.BadDir) does (acts.Read dir.number file reads.BadDir) does.its in
    is_found A s old.lane dir.number file there.0 (sym ((there_before-Does old new (IsRead dir.number file read.BadDir) does).dir dir.number) ∙ there.1) (read_bad s (found s old.lane dir.number file) due)

-- ---- it is copied

if_large : (A : Type 0) (large : Bool) (len room : ℕ) → ◌≡◌ {A = Option CopyEnd} (if large then Some (copies.TooLarge len room) else None) (Some copies.BadDir) → A
if_large A true len room is = absurd (cc is)
if_large A false len room is = absurd (cc is)

large_bad : (A : Type 0) (room : ℕ) (len : Option ℕ) → too_large room len ≡ Some copies.BadDir → A
large_bad A room None is = absurd (cc is)
large_bad A room (Some len) is = if_large A (nat_lt room len) len room is

copy_bad : (s : State) (room : ℕ) (place : Found) → copy_end_of s room place ≡ Some copies.BadDir → place ≡ NotOpen
copy_bad s room NotOpen is = refl
copy_bad s room NoSuchFile is = absurd (cc is)
copy_bad s room (Inner bytes) is = large_bad (Inner bytes ≡ NotOpen) room (found_len s (Inner bytes)) is
copy_bad s room (Outer root) is = large_bad (Outer root ≡ NotOpen) room (found_len s (Outer root)) is

pub copy_never_bad : (A : Type 0) (kind : ImageKind) (dir : Dir) (file : List ℕ) (less : Held) (old new : View) → desk.Does old new (IsCopied kind dir.number file copy.BadDir) → WithDir old.lane dir less (held_by old) → A
copy_never_bad A kind dir file less old new does is =
    let s = after old.origin (old.seen ++ does.others) in
    let there = open_there old.lane dir less (held_by old) is in
    let due = act_due old new (IsCopied kind dir.number file copy.BadDir) does (acts.Copy kind dir.number file (Some copies.BadDir)) does.its in
    is_found A s old.lane dir.number file there.0 (sym ((there_before-Does old new (IsCopied kind dir.number file copy.BadDir) does).dir dir.number) ∙ there.1)
    (copy_bad s (area s.geometry kind) (found s old.lane dir.number file) due.1)

-- ---- packages are retained while a slot is filled

pub never_in_use : (A : Type 0) (dir : Dir) (roots : List Root) (count : ℕ) (base : Held) (old new : View) → desk.Does old new (IsRetained roots count retain.SlotInUse) → IsStaged old.lane dir Fills base (held_by old) → A
never_in_use A dir roots count base old new does is =
    let IsIts = IsRetained roots count retain.SlotInUse in
    let s = after old.origin (old.seen ++ does.others) in
    let stage = (there_before-Does old new IsIts does).stage Fills (ap (λ (h : Held). h.stage) is.2.is) in
    let under_way : IsUnderWay s = subst (λ (o : Option Stage). IfSome o (λ (st : Stage). IsInPhase s st.phase)) stage (stage_after old.origin (old.seen ++ does.others) (legal_before-Does old new IsIts does)) in
    let due = act_due old new IsIts does (acts.Retain roots retains.SlotInUse does.its.0) does.its.1 in
    absurd (cc (due, under_way.other))

-- ---- no update begins in recovery

if_older : (A : Type 0) (committed older : Bool) (have : ℕ) (slot : Slot)
    → stages.InRecovery ≡ (if not committed then stages.NotCommitted else if older then stages.Older have else stages.Turn slot) → A
if_older A false older have slot is = absurd (cc is)
if_older A true true have slot is = absurd (cc is)
if_older A true false have slot is = absurd (cc is)

by_stage : (A : Type 0) (s : State) (epoch : ℕ) (held : Option Stage) → stages.InRecovery ≡ held_answer s epoch held → A
by_stage A s epoch (Some held) is = absurd (cc is)
by_stage A s epoch None is = if_older A (is_committed s) (nat_lt epoch (running_epoch s)) (running_epoch s) (other_slot s.running) is

in_recovery : (s : State) (epoch : ℕ) (recovery : Bool) → stages.InRecovery ≡ (if recovery then stages.InRecovery else held_answer s epoch s.stage) → recovery ≡ true
in_recovery s epoch true is = refl
in_recovery s epoch false is = by_stage (false ≡ true) s epoch s.stage is

none_open : (A : Type 0) (dirs : List DirEntry) (dir lane : ℕ) (root : Root) → dirs ≡ [] → root_of dirs dir lane ≡ Some root → A
none_open A dirs dir lane root none there = absurd (cc (sym (ap (λ (ds : List DirEntry). root_of ds dir lane) none) ∙ there))

pub never_in_recovery : (A : Type 0) (epoch : ℕ) (dir : Dir) (less : Held) (old new : View) → desk.Does old new (IsStagedBy epoch stage.InRecovery) → WithDir old.lane dir less (held_by old) → A
never_in_recovery A epoch dir less old new does is =
    let IsIts = IsStagedBy epoch stage.InRecovery in
    let s = after old.origin (old.seen ++ does.others) in
    let there = open_there old.lane dir less (held_by old) is in
    let due = act_due old new IsIts does (acts.Stage epoch stages.InRecovery) does.its in
    let bare = bare_after old.origin (old.seen ++ does.others) (legal_before-Does old new IsIts does) (in_recovery s epoch (is_recovery s.running) due) in
    none_open A s.dirs dir.number old.lane there.0 bare.dirs (sym ((there_before-Does old new IsIts does).dir dir.number) ∙ there.1)
