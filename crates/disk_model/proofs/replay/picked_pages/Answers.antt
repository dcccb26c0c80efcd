use Rattle.std.proofs.Common.{◌<◌, length, take, sym, arith, length-take-le}
use Rattle.disk_model.proofs.ReplayLemmas.{synced_len-le, within_take, within_same}
use Rattle.disk_model.proofs.replay.picked_pages.Goals as goal

pub slice_bounds-replay-end : goal.slice_bounds-replay-end
slice_bounds-replay-end c = sym (length-take-le c.synced_len-synced.result c.args.acts.now (omega (arith, synced_len-le c.args.acts.now, c.synced_len-synced.ensures)))

pub replay-requires : goal.replay-requires
replay-requires c =
    within_same (take c.synced_len-synced.result c.args.acts.now) (length c.args.start.now) (length c.deref_mut.result.now) (omega (arith, c.deref_mut.ensures.len, c.in_ok-pages.ensures.len))
    (within_take (λ k. k < length c.args.start.now) c.synced_len-synced.result c.args.acts.now c.requires.range)

pub put_picks-requires-clause-range : goal.put_picks-requires-clause-range
put_picks-requires-clause-range c =
    within_same c.args.acts.now (length c.args.start.now) (length c.deref_mut-2.result.now) (omega (arith, c.deref_mut-2.ensures.len, c.in_ok-pages.ensures.len)) c.requires.range
