use Rattle.std.proofs.Common.{ℕ, ◌^◌, ◌-◌, Bool, not, eqb, get_or, take, drop, sym, ◌∙◌, arith, w64}
use Rattle.std.proofs.lemmas.Simd.{length-chunk, bitmask_splat, none_from_empty_mask}
use Rattle.page_pool.proofs.WordLemmas.{none_free, eq_from_true}
use Rattle.page_pool.proofs.words.are_taken.Goals as goal

pub returns : goal.returns
returns c = λ zero place behind below.
    let words = c.args.words.now in
    let at = c.args.at in
    let differs : ℕ → ℕ → Bool = λ a b. not (eqb a b) in
    let mask = bitmask_splat w64 (λ a b. not (eqb a b)) (take 8 (drop at words)) 8 (2 ^ 64 - 1) (length-chunk at 8 words c.requires) (omega arith) in
    none_free (get_or words place 0)
    (none_from_empty_mask (λ w. not (eqb w (2 ^ 64 - 1))) words at 8 0 c.requires (sym mask ∙ eq_from_true _ _ zero) place behind below)
