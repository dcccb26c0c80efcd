use Rattle.std.proofs.Common.{not, length}
use Rattle.node_table.specs.Entries.{without, with_added}
use Rattle.node_table.proofs.LayLemmas.{lays_out}
use Rattle.node_table.proofs.CommitLemmas.{comes_beside, sound_after, counts_before, counts_either, nothing_done}
use Rattle.node_table.proofs.write.write_commit.Goals as goal

pub returns-then-not-lay_all-clause-each_moment : goal.returns-then-not-lay_all-clause-each_moment
returns-then-not-lay_all-clause-each_moment g c = λ counts.
    let geometry = c.args.geometry.now in
    nothing_done geometry c.args.second (not c.args.second) c.args.entries.now (with_added c.args.add.now (without c.args.gone.now c.args.entries.now)) (g.D.Disk.past c.args.disk.now) counts

pub lay_all-requires-clause-added : goal.lay_all-requires-clause-added
lay_all-requires-clause-added g c = comes_beside c.args.geometry.now c.args.entries.now c.args.add.now (length c.args.links.now) c.requires.sheets.link_count c.requires.added

pub returns-in-Ok-clause-sound : goal.returns-in-Ok-clause-sound
returns-in-Ok-clause-sound g c = λ _.
    sound_after c.args.geometry.now c.args.gone.now c.args.entries.now c.args.add.now (length c.args.rows.now) c.requires.sound c.requires.added c.requires.sheets.row_count (c.lay_all.ensures.fits.0 c.if-not-lay_all.false)

pub returns-in-Ok-clause-each_moment : goal.returns-in-Ok-clause-each_moment
returns-in-Ok-clause-each_moment g c = λ counts.
    let past = g.D.Disk.past in
    let geometry = c.args.geometry.now in
    let entries = c.args.entries.now in
    let after = with_added c.args.add.now (without c.args.gone.now entries) in
    let sound = sound_after geometry c.args.gone.now entries c.args.add.now (length c.args.rows.now) c.requires.sound c.requires.added c.requires.sheets.row_count (c.lay_all.ensures.fits.0 c.if-not-lay_all.false) in
    let laid = lays_out geometry c.lay_all.new.rows c.lay_all.new.links after (c.lay_all.ensures.laid c.if-not-lay_all.false) sound in
    counts_either geometry c.args.second entries after (past c.args.disk.now) (past c.switch.new.disk)
    (c.switch.ensures.each_moment entries after (counts_before geometry c.args.second entries (past c.args.disk.now) counts) laid)

pub returns-in-Err-clause-sound : goal.returns-in-Err-clause-sound
returns-in-Err-clause-sound g c = λ _.
    sound_after c.args.geometry.now c.args.gone.now c.args.entries.now c.args.add.now (length c.args.rows.now) c.requires.sound c.requires.added c.requires.sheets.row_count (c.lay_all.ensures.fits.0 c.if-not-lay_all.false)

pub returns-in-Err-clause-each_moment : goal.returns-in-Err-clause-each_moment
returns-in-Err-clause-each_moment g c = λ counts.
    let past = g.D.Disk.past in
    let geometry = c.args.geometry.now in
    let entries = c.args.entries.now in
    let after = with_added c.args.add.now (without c.args.gone.now entries) in
    let sound = sound_after geometry c.args.gone.now entries c.args.add.now (length c.args.rows.now) c.requires.sound c.requires.added c.requires.sheets.row_count (c.lay_all.ensures.fits.0 c.if-not-lay_all.false) in
    let laid = lays_out geometry c.lay_all.new.rows c.lay_all.new.links after (c.lay_all.ensures.laid c.if-not-lay_all.false) sound in
    counts_either geometry c.args.second entries after (past c.args.disk.now) (past c.switch.new.disk)
    (c.switch.ensures.each_moment entries after (counts_before geometry c.args.second entries (past c.args.disk.now) counts) laid)

pub returns-in-Ok-clause-done : goal.returns-in-Ok-clause-done
returns-in-Ok-clause-done g c = λ _.
    let geometry = c.args.geometry.now in
    let entries = c.args.entries.now in
    let after = with_added c.args.add.now (without c.args.gone.now entries) in
    let sound = sound_after geometry c.args.gone.now entries c.args.add.now (length c.args.rows.now) c.requires.sound c.requires.added c.requires.sheets.row_count (c.lay_all.ensures.fits.0 c.if-not-lay_all.false) in
    c.in-Ok.ensures.done after (lays_out geometry c.lay_all.new.rows c.lay_all.new.links after (c.lay_all.ensures.laid c.if-not-lay_all.false) sound)

pub returns-in-Ok-clause-laid : goal.returns-in-Ok-clause-laid
returns-in-Ok-clause-laid g c = λ _. c.lay_all.ensures.laid c.if-not-lay_all.false
