-- The text of a history: a line for each event.
use Rattle.std.specs.Prelude.{ℕ, ◌+◌, Bool, true, false, List, [], ◌∷◌, ◌++◌, length, codes, if◌then◌else◌}
use Rattle.std.specs.Fmt.{decimal}
use Rattle.pkg_names.specs.NameAndVariant.{path_text}
use Rattle.pkg_names.specs.Root.{root_text}
use Rattle.pkg_names.specs.Text.{line_feed}
use Rattle.store_model.specs.declared.events.Event.{Event}
use Rattle.store_model.specs.declared.events.Act.{Act}
use Rattle.store_model.specs.declared.events.Act.TheVariants as acts
use Rattle.store_model.specs.declared.events.CallName.{CallName}
use Rattle.store_model.specs.declared.events.CallName.TheVariants.{Begin, Want, Room, Put, Land, OpenPath, Read, Check, Collect, Retain, Stage, Copy, Seal, Activate, Commit, Reject}
use Rattle.script_lang.specs.Ends.{slot_text, image_text, manifest_text, begin_text, want_text, miss_text, made_text, put_text, open_text, read_text, check_text, collect_text, retain_text, stage_text, copy_text, seal_text, activate_text}

-- a directory and a file in it
abbrev pub file_text : ℕ → List ℕ → List ℕ
file_text dir file = decimal dir ++ codes " " ++ file

-- a call, with what it is about
abbrev pub name_text : CallName → List ℕ
name_text (Begin path) = codes "begin " ++ path_text path
name_text (Want ticket) = codes "want " ++ decimal ticket
name_text (Room root) = codes "room " ++ root_text root
name_text (Put root) = codes "put " ++ root_text root
name_text (Land root) = codes "land " ++ root_text root
name_text (OpenPath path) = codes "open " ++ path_text path
name_text (Read dir file) = codes "read " ++ file_text dir file
name_text (Check dir file) = codes "check " ++ file_text dir file
name_text Collect = codes "collect"
name_text (Retain count) = codes "retain " ++ decimal count
name_text (Stage epoch) = codes "stage " ++ decimal epoch
name_text (Copy image dir file) = codes "copy " ++ image_text image ++ codes " " ++ file_text dir file
name_text Seal = codes "seal"
name_text Activate = codes "activate"
name_text Commit = codes "commit"
name_text (Reject file) = codes "reject " ++ manifest_text file

-- the call of an act, with what it is about
abbrev pub call_text : Act → List ℕ
call_text (acts.Boot slot seen) = codes "boot"
call_text (acts.Begin path choice reply seen) = name_text (Begin path)
call_text (acts.Want ticket reply) = name_text (Want ticket)
call_text (acts.Room root len reply) = name_text (Room root)
call_text (acts.Put root reply) = name_text (Put root)
call_text (acts.Land root len reply seen) = name_text (Land root)
call_text (acts.Missed root why) = codes "miss " ++ root_text root
call_text (acts.GaveUp ticket) = codes "give-up " ++ decimal ticket
call_text (acts.OpenPath path reply) = name_text (OpenPath path)
call_text (acts.Read dir file reply) = name_text (Read dir file)
call_text (acts.Check dir file reply) = name_text (Check dir file)
call_text (acts.Close dir closed) = codes "close " ++ decimal dir
call_text (acts.Collect reply) = name_text Collect
call_text (acts.Retain roots reply seen) = name_text (Retain (length roots))
call_text (acts.Stage epoch reply) = name_text (Stage epoch)
call_text (acts.Copy image dir file reply) = name_text (Copy image dir file)
call_text (acts.Seal sys reply) = name_text Seal
call_text (acts.Activate reply seen) = name_text Activate
call_text acts.LeftStage = codes "leave-stage"
call_text (acts.Commit done) = name_text Commit
call_text (acts.Reject file why) = name_text (Reject file)
call_text (acts.Refused call broken) = name_text call

abbrev pub closed_text : Bool → List ℕ
closed_text true = codes "closed"
closed_text false = codes "bad-dir"

abbrev pub committed_text : Bool → List ℕ
committed_text true = codes "committed"
committed_text false = codes "not-pending"

-- the words of its answer
abbrev pub words_text : Act → List ℕ
words_text (acts.Boot slot seen) = slot_text slot
words_text (acts.Begin path choice reply seen) = begin_text reply
words_text (acts.Want ticket reply) = want_text reply
words_text (acts.Room root len reply) = made_text (codes "made ") len reply
words_text (acts.Land root len reply seen) = made_text (codes "landed ") len reply
words_text (acts.Missed root why) = miss_text why
words_text (acts.OpenPath path reply) = open_text reply
words_text (acts.Read dir file reply) = read_text reply
words_text (acts.Check dir file reply) = check_text reply
words_text (acts.Close dir closed) = closed_text closed
words_text (acts.Collect reply) = collect_text reply
words_text (acts.Retain roots reply seen) = retain_text reply
words_text (acts.Stage epoch reply) = stage_text reply
words_text (acts.Seal sys reply) = seal_text reply
words_text (acts.Activate reply seen) = activate_text reply
words_text (acts.Commit done) = committed_text done
words_text act = []

-- and its answer, behind a space; some calls have none
abbrev pub answer_text : Act → List ℕ
answer_text (acts.Put root reply) = put_text reply
answer_text (acts.GaveUp ticket) = []
answer_text (acts.Copy image dir file reply) = copy_text reply
answer_text acts.LeftStage = []
answer_text (acts.Reject file why) = []
answer_text (acts.Refused call broken) = codes " broken " ++ decimal broken
answer_text act = codes " " ++ words_text act

-- the answer, or that a write failed in the call
abbrev pub outcome_text : Event → List ℕ
outcome_text e = if e.broke then codes " broke" else answer_text e.act

-- one event: its number, its lane, its call and the outcome
abbrev pub line : ℕ → Event → List ℕ
line number e =
    decimal number ++ codes " " ++ decimal e.lane ++ codes " " ++ call_text e.act ++ outcome_text e ++ line_feed ∷ []

-- the lines of events from this number on
abbrev pub lines_from : ℕ → List Event → List ℕ
lines_from number [] = []
lines_from number (e ∷ es) = line number e ++ lines_from (number + 1) es

abbrev pub text : List Event → List ℕ
text history = lines_from 1 history
