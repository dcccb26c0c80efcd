use Rattle.std.proofs.Common.{◌/◌, ◌%◌, true, get_or, eqb, ℕ, ap, refl, arith, w64}
use Rattle.std.proofs.lemmas.Nat.Bits.{bit_at_set_same, bit_at_set_other}
use Rattle.page_pool.proofs.WordLemmas.{sets_flag}
use Rattle.page_pool.proofs.words.set_flag.Goals as goal

pub returns : goal.returns
returns c =
    let words = c.args.words.now in
    let page = c.args.page in
    let word = get_or words (page / 64) 0 in
    sets_flag words _ page _ true c.requires refl
    (ap (λ (b : ℕ). eqb b 1) (bit_at_set_same w64 word (page % 64) (omega arith)))
    (λ i below ne. bit_at_set_other w64 word (page % 64) (omega arith) i ne)
