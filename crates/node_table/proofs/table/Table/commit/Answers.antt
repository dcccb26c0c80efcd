use Rattle.node_table.proofs.CommitLemmas.{view_moment, view_only}
use Rattle.node_table.proofs.table.Table.commit.Goals as goal

pub returns-in-Done-clause-each_moment : goal.returns-in-Done-clause-each_moment
returns-in-Done-clause-each_moment g c =
    let t = c.self.inside in
    view_moment c.args.self.now t.geometry t.second t.broken t.entries.items c.deref.result.now c.self.view_is c.deref.ensures.value (g.D.Disk.past c.args.disk.now) (g.D.Disk.past c.write_commit-reply.new.disk) c.args.add c.args.drop.now c.write_commit-reply.ensures.each_moment

pub returns-in-Done-clause-only : goal.returns-in-Done-clause-only
returns-in-Done-clause-only g c =
    let t = c.self.inside in
    view_only c.args.self.now t.geometry t.second t.broken t.entries.items c.deref.result.now c.self.view_is c.deref.ensures.value (g.D.Disk.past c.args.disk.now) (g.D.Disk.past c.write_commit-reply.new.disk) c.write_commit-reply.ensures.only

pub returns-in-NoNode-clause-each_moment : goal.returns-in-NoNode-clause-each_moment
returns-in-NoNode-clause-each_moment g c =
    let t = c.self.inside in
    view_moment c.args.self.now t.geometry t.second t.broken t.entries.items c.deref.result.now c.self.view_is c.deref.ensures.value (g.D.Disk.past c.args.disk.now) (g.D.Disk.past c.write_commit-reply.new.disk) c.args.add c.args.drop.now c.write_commit-reply.ensures.each_moment

pub returns-in-NoNode-clause-only : goal.returns-in-NoNode-clause-only
returns-in-NoNode-clause-only g c =
    let t = c.self.inside in
    view_only c.args.self.now t.geometry t.second t.broken t.entries.items c.deref.result.now c.self.view_is c.deref.ensures.value (g.D.Disk.past c.args.disk.now) (g.D.Disk.past c.write_commit-reply.new.disk) c.write_commit-reply.ensures.only

pub returns-in-Broke-clause-each_moment : goal.returns-in-Broke-clause-each_moment
returns-in-Broke-clause-each_moment g c =
    let t = c.self.inside in
    view_moment c.args.self.now t.geometry t.second t.broken t.entries.items c.deref.result.now c.self.view_is c.deref.ensures.value (g.D.Disk.past c.args.disk.now) (g.D.Disk.past c.write_commit-reply.new.disk) c.args.add c.args.drop.now c.write_commit-reply.ensures.each_moment

pub returns-in-Broke-clause-only : goal.returns-in-Broke-clause-only
returns-in-Broke-clause-only g c =
    let t = c.self.inside in
    view_only c.args.self.now t.geometry t.second t.broken t.entries.items c.deref.result.now c.self.view_is c.deref.ensures.value (g.D.Disk.past c.args.disk.now) (g.D.Disk.past c.write_commit-reply.new.disk) c.write_commit-reply.ensures.only
