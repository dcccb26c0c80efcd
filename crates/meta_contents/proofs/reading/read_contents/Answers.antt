use Rattle.std.proofs.Common.{◌≡◌, ◌⊎◌, inl, inr, ◌∙◌}
use Rattle.meta_contents.proofs.Law.{in_text, in_no_text}
use Rattle.meta_contents.proofs.reading.read_contents.Goals as goal

through : {A : Type 0} (r total whole full : A) → total ≡ whole → (r ≡ total) ⊎ (r ≡ full) → (r ≡ whole) ⊎ (r ≡ full)
through r total whole full e (inl same) = inl (same ∙ e)
through r total whole full e (inr memory) = inr memory

pub returns-in-Ok : goal.returns-in-Ok
returns-in-Ok c = record { exact = through _ _ _ _ (in_text c.args.bytes.now c.in-Ok.ensures.cases.1) c.read_lines.ensures }

pub returns-in-Err : goal.returns-in-Err
returns-in-Err c = record { exact = inl (in_no_text c.args.bytes.now c.in-Err.ensures.cases.0) }
