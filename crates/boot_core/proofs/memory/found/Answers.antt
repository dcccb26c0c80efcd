use Rattle.std.proofs.Common.{sym, subst, ap, ◌∙◌, arith, List, ℕ}
use Rattle.std.specs.Prelude.{option_copied, ◌≤◌, length, ◌≡◌}
use Rattle.boot_core.specs.Look.{stock_of, IsBlob}
use Rattle.boot_core.proofs.Entries.{found_len, missing_len, found_blob}
use Rattle.boot_core.proofs.memory.found.Goals as goal

pub returns-in_default-clause-gives : goal.returns-in_default-clause-gives
returns-in_default-clause-gives c = missing_len c.args.blobs.now c.args.root.now (sym c.bytes_in.ensures ∙ ap option_copied c.in_default.is)

pub returns-then-bytes-from-clause-gives : goal.returns-then-bytes-from-clause-gives
returns-then-bytes-from-clause-gives c = (omega (arith, c.if-bytes-from.true, c.from.ensures), found_len c.args.blobs.now c.args.root.now c.in-Some.bytes.now (sym c.in-Some.ensures))

pub returns-in-Ok-clause-gives : goal.returns-in-Ok-clause-gives
returns-in-Ok-clause-gives c =
    let same : c.make.result ≡ c.in-Some.bytes.now = c.make.ensures.list ∙ c.in-Ok.ensures.items in
    let short : length c.in-Some.bytes.now ≤ c.args.limit = omega (arith, c.if-bytes-from.false, c.from.ensures) in
    subst (λ (l : List ℕ). (length l ≤ c.args.limit) × IsBlob (stock_of c.args.blobs.now) c.args.root.now l) (sym same)
    (short, found_blob c.args.blobs.now c.args.root.now c.in-Some.bytes.now c.requires (sym c.in-Some.ensures))
