use Rattle.std.proofs.Common.{inl, inr, ◌≡◌, ℕ, Some, refl, ap, ◌∙◌}
use Rattle.open_tracker.specs.Directories.{root_of}
use Rattle.pkg_names.specs.declared.root.Root.{Root}
use Rattle.store_model.specs.Desk.{View, held_by}
use Rattle.store_model.specs.Holding.{Held}
use Rattle.system_updater.specs.Serving.Point.{Copying}
use Rattle.system_updater.proofs.Goes.{goes_none, goes_then}
use Rattle.system_updater.proofs.Grown.{last_part}
use Rattle.system_updater.proofs.images.copy_file.Goals as goal

-- the directory stays open
still_open : (dir : ℕ) (root : Root) (old new : View) → new.lane ≡ old.lane → held_by new ≡ held_by old → root_of (held_by old).dirs dir old.lane ≡ Some root → root_of (held_by new).dirs dir new.lane ≡ Some root
still_open dir root old new lane held open_ = ap (λ (l : ℕ). root_of (held_by new).dirs dir l) lane ∙ ap (λ (h : Held). root_of h.dirs dir old.lane) held ∙ open_

pub copy_part-requires : goal.copy_part-requires
copy_part-requires g c = ap (λ (h : Held). h.stage) c.loop.invariant.held ∙ c.requires

pub loop-init : goal.loop-init
loop-init g c = record {
  next = tt;
  finite = tt;
  goes = λ dir plan task later repo kind named. goes_none (Copying dir plan task c.args.from later) (g.K.Desk.view c.args.desk.now) repo (g.K.Desk.firm c.args.desk.now);
  held = refl;
  images = λ root open_ empty. (inl empty, λ other bytes isnt is. is, refl, λ firm. firm);
}

pub loop-preserved : goal.loop-preserved
loop-preserved g c = record {
  next = tt;
  finite = tt;
  goes = λ dir plan task later repo kind named. goes_then _ _ _ _ _ _ repo repo repo _ _ _ (c.loop.invariant.goes dir plan task later repo kind named) (c.in-More.ensures.goes dir plan task later repo kind named);
  held = c.in-More.ensures.held ∙ c.loop.invariant.held;
  images = λ root open_ empty.
      let so_far = c.loop.invariant.images root open_ empty in
      let more = c.in-More.ensures.images root (still_open c.args.from.number root (g.K.Desk.view c.args.desk.now) (g.K.Desk.view c.loop.desk) so_far.2 c.loop.invariant.held open_) so_far.0 in
      (inr more.0, λ other bytes isnt is. more.1 other bytes isnt (so_far.1 other bytes isnt is), more.2 ∙ so_far.2, λ firm. more.3 (so_far.3 firm));
}

pub returns-in-Last-clause-goes : goal.returns-in-Last-clause-goes
returns-in-Last-clause-goes g c = λ dir plan task later repo kind named. goes_then _ _ _ _ _ _ repo repo repo _ _ _ (c.loop.invariant.goes dir plan task later repo kind named) (c.in-Last.ensures.goes dir plan task later repo kind named)

pub returns-in-Last-clause-images : goal.returns-in-Last-clause-images
returns-in-Last-clause-images g c = λ root open_ empty.
    let so_far = c.loop.invariant.images root open_ empty in
    let last = c.in-Last.ensures.images root (still_open c.args.from.number root (g.K.Desk.view c.args.desk.now) (g.K.Desk.view c.loop.desk) so_far.2 c.loop.invariant.held open_) so_far.0 in
    last_part (g.K.Desk.firm c.args.desk.now) (g.K.Desk.firm c.loop.desk) (g.K.Desk.kept c.args.desk.now) (g.K.Desk.kept c.loop.desk) (g.K.Desk.kept c.copy_part.new.desk) (g.K.Desk.view c.copy_part.new.desk)
    c.args.kind c.args.from.number c.args.file.now c.in-Last.result so_far.3 so_far.1 last
