use Rattle.std.proofs.Common.{◌≡◌, ℕ, Option, None, length, sym, subst, ap, ◌∙◌, arith}
use Rattle.std.proofs.lemmas.List.{length-replicate, take_at}
use Rattle.disk_model.specs.Picks.{synced_len, HasPicks}
use Rattle.disk_model.proofs.LastPicks.{AreLastActs, are_last, are_good}
use Rattle.disk_model.proofs.last.last_picks_of.Goals as goal

size : (c : goal.After-drop-last-2) → length c.deref_mut.result.now ≡ c.args.count
size c = ap length c.deref_mut.ensures.value ∙ ap length c.in_ok-last.ensures ∙ length-replicate {A = Option ℕ} c.args.count None

same : (c : goal.After-drop-last-2) → c.note_all.new.last ≡ c.deref.result.now
same c = sym (c.deref.ensures.value ∙ take_at c.note_all.new.last _ _ (omega (arith, c.note_all.ensures.size, c.deref_mut.ensures.len)))

acts : (c : goal.After-drop-last-2) → AreLastActs c.args.acts.now c.args.count c.deref.result.now
acts c =
    subst (λ (n : ℕ). AreLastActs c.args.acts.now n c.deref.result.now) (size c)
    (subst (AreLastActs c.args.acts.now (length c.deref_mut.result.now)) (same c) c.note_all.ensures.each)

has : (c : goal.After-drop-last-2) → HasPicks c.deref.result.now (synced_len c.args.acts.now) c.args.count c.in_ok-picks.picks.items
has c =
    let count : length c.deref.result.now ≡ c.args.count = sym (ap length (same c)) ∙ c.note_all.ensures.size ∙ size c in
    subst (λ (n : ℕ). HasPicks c.deref.result.now n c.args.count c.in_ok-picks.picks.items) c.synced_len.ensures
    (subst (λ (n : ℕ). HasPicks c.deref.result.now c.synced_len.result n c.in_ok-picks.picks.items) count c.in_ok-picks.ensures)

pub returns-clause-last : goal.returns-clause-last
returns-clause-last c = are_last c.args.acts.now c.args.count c.deref.result.now c.in_ok-picks.picks.items c.requires.range (acts c) (has c)

pub returns-clause-good : goal.returns-clause-good
returns-clause-good c = are_good c.args.acts.now c.args.count c.deref.result.now c.in_ok-picks.picks.items c.requires.range (acts c) (has c)
