use Rattle.std.proofs.Common.{ℕ, ◌+◌, ◌/◌, Bool, ◌∙◌, subst, arith, Option}
use Rattle.disk_model.specs.Past.{Past}
use Rattle.image_layout.specs.declared.geometry.TheConstants.{SELECTOR_PAGE}
use Rattle.node_table.specs.Spelling.{Selects}
use Rattle.node_table.specs.Steps.{ReadAs, IsChoice, HasRows, HasLinks}
use Rattle.node_table.proofs.TableReads.{read_one, read_copy, copy_within}
use Rattle.node_table.proofs.copy.read_table.Goals as goal

pub returns-in_default-clause-read : goal.returns-in_default-clause-read
returns-in_default-clause-read g c =
    let disk = g.D.Disk in
    let told = disk.past c.args.disk.now in
    let read = subst (λ (choice : Option Bool). ReadAs told SELECTOR_PAGE (IsChoice choice)) c.in_default.is c.in_ok-second.ensures.read in
    read_one SELECTOR_PAGE (λ page. (second : Bool) → Selects page second → ⊥) (disk.pages c.args.disk.now) told (omega (arith, c.requires.room)) c.read_selector.ensures.told read

pub returns-clause-read : goal.returns-clause-read
returns-clause-read g c =
    let disk = g.D.Disk in
    let told = disk.past c.args.disk.now in
    let geometry = c.args.geometry.now in
    let second = c.in-Some.second in
    let first = c.table_start-first.ensures in
    let choice = subst (λ (choice : Option Bool). ReadAs told SELECTOR_PAGE (IsChoice choice)) c.in-Some.is c.in_ok-second.ensures.read in
    let rows = c.read_rows.new.rows.items in
    let links = c.read_links.new.links.items in
    read_copy geometry second rows links told choice
    (λ j lt. subst (λ (n : ℕ). ReadAs told (n + j) (HasRows rows j)) first
    (subst (λ (past : Option Past). ReadAs past (c.table_start-first.result + j) (HasRows rows j)) c.read_selector.ensures.past_stays (c.in_ok-read_rows.ensures.read j lt)))
    (λ j lt. subst (λ (n : ℕ). ReadAs told (n + geometry.blobs / 64 + j) (HasLinks links j)) first
    (subst (λ (past : Option Past). ReadAs past (c.table_start-first.result + geometry.blobs / 64 + j) (HasLinks links j)) (c.read_rows.ensures.past_stays ∙ c.read_selector.ensures.past_stays) (c.in_ok-read_links.ensures.read j lt)))
    (disk.pages c.args.disk.now) (omega (arith, c.requires.room, copy_within geometry second)) c.read_selector.ensures.told
