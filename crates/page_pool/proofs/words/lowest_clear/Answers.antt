use Rattle.std.proofs.Common.{◌≡◌, ◌<◌, ℕ, sym, subst, arith, w64}
use Rattle.std.specs.Int.{bit_at}
use Rattle.std.proofs.lemmas.Nat.Bits.{bit_at-trailing_ones}
use Rattle.page_pool.proofs.words.lowest_clear.Goals as goal

pub returns-clause-below : goal.returns-clause-below
returns-clause-below c =
    subst (λ (bit : ℕ). bit < 64) (sym c.trailing_ones.ensures) (bit_at-trailing_ones w64 c.args.word (omega (arith, c.ranges.word.fits, c.requires))).0

pub returns-clause-clear : goal.returns-clause-clear
returns-clause-clear c =
    subst (λ (bit : ℕ). bit_at c.args.word bit ≡ 0) (sym c.trailing_ones.ensures) (bit_at-trailing_ones w64 c.args.word (omega (arith, c.ranges.word.fits, c.requires))).1
