use Rattle.std.proofs.Common.{◌≡◌, ℕ, ◌+◌, ◌/◌, ◌≤◌, Bool, List, length, sym, ◌∙◌, ap, subst, arith, Option, Some, None, IfSome, IfNone}
use Rattle.std.proofs.lemmas.Bool.{false≢true}
use Rattle.disk_model.specs.Images.{SomeImage}
use Rattle.std.specs.HashMap.{hash_map_len, spare}
use Rattle.image_layout.specs.declared.geometry.Geometry.{Geometry}
use Rattle.node_table.specs.declared.entry.Entry.{Entry}
use Rattle.node_table.specs.declared.rows.Row.{Row}
use Rattle.node_table.specs.Steps.{AreSheets, IsRead, IsIndex, Judges}
use Rattle.node_table.proofs.TableReads.{some_table, some_damage, each_from_some}
use Rattle.node_table.proofs.table.Table.load.Goals as goal

-- the rows and links that were judged are those that were read
judged : (g : Geometry) (rows read_rows : List Row) (links read_links : List ℕ) (entries : List Entry) (bad found : Option ℕ) → rows ≡ read_rows → links ≡ read_links → bad ≡ found → AreSheets g read_rows read_links → ((g : Geometry) → AreSheets g rows links → Judges g rows links entries bad) → Judges g read_rows read_links entries found
judged g rows read_rows links read_links entries bad found e f h sheets all =
    subst (λ (o : Option ℕ). Judges g read_rows read_links entries o) h
    (subst (λ (l : List ℕ). Judges g read_rows l entries bad) f
    (subst (λ (r : List Row). Judges g r links entries bad) e
    (all g (subst (λ (r : List Row). AreSheets g r links) (sym e) (subst (λ (l : List ℕ). AreSheets g read_rows l) (sym f) sheets)))))

sheets_of : (g : Geometry) (rows : List Row) (links : List ℕ) (choice : Option Bool) (second : Bool) → choice ≡ Some second → IfSome choice (λ _. AreSheets g rows links) → AreSheets g rows links
sheets_of g rows links choice second e h = let k : IfSome (Some second) (λ _. AreSheets g rows links) = subst (λ (o : Option Bool). IfSome o (λ _. AreSheets g rows links)) e h in k

pub returns-in_default-clause-told : goal.returns-in_default-clause-told
returns-in_default-clause-told g c = c.pages-pages.ensures.told

pub invariant_of-result : goal.invariant_of-result
invariant_of-result g c =
    let geometry = c.args.geometry.now in
    let rows = c.read_table.new.rows.items in
    let links = c.read_table.new.links.items in
    let sheets = sheets_of geometry rows links c.in-Ok-Some.field-0 c.in-Ok-Some.second c.in-Ok-Some.field-0-is c.in-Ok-Some.ensures.sheets in
    let laid = judged geometry c.deref.result.now rows c.deref-2.result.now links c.judge.new.entries.items c.in-Ok-None-judge.field-0 None c.deref.ensures.value c.deref-2.ensures.value c.in-Ok-None-judge.field-0-is sheets c.in-Ok-None-judge.ensures.judged in
    let enough = subst (λ (o : Option ℕ). IfNone o (length c.deref.result.now ≤ hash_map_len c.judge.new.index + spare c.judge.new.index)) c.in-Ok-None-judge.field-0-is c.in-Ok-None-judge.ensures.room in
    let left = subst (λ (o : Option ℕ). IfNone o (length c.deref.result.now ≤ length c.judge.new.entries.items + spare c.judge.new.index)) c.in-Ok-None-judge.field-0-is c.in-Ok-None-judge.ensures.left in
    record {
      limits = c.requires.limits;
      sound = laid.listed.sound;
      sheets = sheets;
      capacity = c.judge.ensures.capacity ∙ c.in-Ok.ensures.entry_room;
      index = subst (λ (o : Option ℕ). IfNone o (IsIndex c.judge.new.index c.judge.new.entries.items)) c.in-Ok-None-judge.field-0-is c.in-Ok-None-judge.ensures.index;
      left = omega (arith, left, ap length c.deref.ensures.value, sheets.row_count);
      room = omega (arith, enough, ap length c.deref.ensures.value, sheets.row_count);
      laid = λ yes. absurd (false≢true yes);
    }

pub returns-in-Ok-None-judge-clause-sound : goal.returns-in-Ok-None-judge-clause-sound
returns-in-Ok-None-judge-clause-sound g c =
    let geometry = c.args.geometry.now in
    let rows = c.read_table.new.rows.items in
    let links = c.read_table.new.links.items in
    let sheets = sheets_of geometry rows links c.in-Ok-Some.field-0 c.in-Ok-Some.second c.in-Ok-Some.field-0-is c.in-Ok-Some.ensures.sheets in
    let laid = judged geometry c.deref.result.now rows c.deref-2.result.now links c.judge.new.entries.items c.in-Ok-None-judge.field-0 None c.deref.ensures.value c.deref-2.ensures.value c.in-Ok-None-judge.field-0-is sheets c.in-Ok-None-judge.ensures.judged in
    laid.listed.sound

pub returns-in-Ok-None-judge-clause-table : goal.returns-in-Ok-None-judge-clause-table
returns-in-Ok-None-judge-clause-table g c =
    let geometry = c.args.geometry.now in
    let told = g.D.Disk.past c.args.disk.now in
    let rows = c.read_table.new.rows.items in
    let links = c.read_table.new.links.items in
    let sheets = sheets_of geometry rows links c.in-Ok-Some.field-0 c.in-Ok-Some.second c.in-Ok-Some.field-0-is c.in-Ok-Some.ensures.sheets in
    let laid = judged geometry c.deref.result.now rows c.deref-2.result.now links c.judge.new.entries.items c.in-Ok-None-judge.field-0 None c.deref.ensures.value c.deref-2.ensures.value c.in-Ok-None-judge.field-0-is sheets c.in-Ok-None-judge.ensures.judged in
    some_table geometry c.in-Ok-Some.second rows links c.judge.new.entries.items told c.requires.limits laid
    (subst (λ (choice : Option Bool). SomeImage told (IsRead geometry rows links choice)) c.in-Ok-Some.field-0-is c.in-Ok-Some.ensures.read)

pub returns-in-Ok-None-judge-clause-fits : goal.returns-in-Ok-None-judge-clause-fits
returns-in-Ok-None-judge-clause-fits g c = λ one.
    let geometry = c.args.geometry.now in
    let told = g.D.Disk.past c.args.disk.now in
    rw c.read_table.ensures.past_stays (each_from_some geometry c.in-Ok-Some.second c.judge.new.entries.items told one (returns-in-Ok-None-judge-clause-table g c))

pub returns-in-Ok-Some-judge-clause-damaged : goal.returns-in-Ok-Some-judge-clause-damaged
returns-in-Ok-Some-judge-clause-damaged g c =
    let geometry = c.args.geometry.now in
    let told = g.D.Disk.past c.args.disk.now in
    let rows = c.read_table.new.rows.items in
    let links = c.read_table.new.links.items in
    let sheets = sheets_of geometry rows links c.in-Ok-Some.field-0 c.in-Ok-Some.second c.in-Ok-Some.field-0-is c.in-Ok-Some.ensures.sheets in
    let row = c.in-Ok-Some-judge.row in
    let bad = judged geometry c.deref.result.now rows c.deref-2.result.now links c.judge.new.entries.items c.in-Ok-Some-judge.field-0 (Some row) c.deref.ensures.value c.deref-2.ensures.value c.in-Ok-Some-judge.field-0-is sheets c.in-Ok-Some-judge.ensures.judged in
    some_damage geometry c.in-Ok-Some.second rows links row (c.table_start.result + row / 64) told c.requires.limits bad (ap (λ (n : ℕ). n + row / 64) c.table_start.ensures)
    (subst (λ (choice : Option Bool). SomeImage told (IsRead geometry rows links choice)) c.in-Ok-Some.field-0-is c.in-Ok-Some.ensures.read)
