-- The Merkle root of any bytes: levels, the hash that is left, and what it is made of.
use Rattle.std.proofs.Common.{◌≡◌, ℕ, zero, suc, ◌*◌, ◌<◌, ◌≤◌, List, [], ◌∷◌, ◌++◌, length, take, refl, sym, ap, ◌∙◌, inl, inr, arith}
use Rattle.std.proofs.lemmas.List.{take_all, length-append, append-nil, append_assoc}
use Rattle.std.proofs.lemmas.Grind.{flat_map-append}
use Rattle.std.proofs.lemmas.Bool.{cases_lt}
use Rattle.std.proofs.lemmas.Bool.Decides.{nat_tests}
use Rattle.std.specs.Prelude.{slice_index}
use Rattle.std.specs.Int.{to_be_bytes, w32}
use Rattle.sha2.specs.Sha256.{digest_bytes, final_hash, initial_hash_256, sha256}
use Rattle.sha2.proofs.Facts256.{length-sha256}
use Rattle.pkg_names.specs.declared.root.Root.{Root}
use Rattle.pkg_names.specs.Root.{IsRoot}
use Rattle.pkg_merkle.specs.Merkle.{block, block_count, block_input, first_inputs, first_hashes, level_inputs, hashes, root_above, merkle_root, inputs_above, inputs, HashesLast}

-- one block more
pub first_hashes-suc : (level : ℕ) (bytes : List ℕ) (n : ℕ) → first_hashes level bytes (suc n) ≡ first_hashes level bytes n ++ sha256 (block_input level n (block bytes n))
unfolding first_inputs
first_hashes-suc level bytes n =
    flat_map-append sha256 (first_inputs level bytes n) (block_input level n (block bytes n) ∷ [])
    ∙ ap (λ last. first_hashes level bytes n ++ last) (append-nil (sha256 (block_input level n (block bytes n))))

-- a hash has 32 bytes
pub length-first_hashes : (level : ℕ) (bytes : List ℕ) (n : ℕ) → length (first_hashes level bytes n) ≡ 32 * n
unfolding first_inputs
length-first_hashes level bytes zero = refl
length-first_hashes level bytes (suc n) =
    let more = first_hashes-suc level bytes n in
    let before = length-first_hashes level bytes n in
    let hash = length-sha256 (block_input level n (block bytes n)) in
    let both = length-append (first_hashes level bytes n) (sha256 (block_input level n (block bytes n))) in
    ap length more ∙ omega (arith, before, hash, both)

-- at most 8192 bytes are one block
pub block_count-one : (bytes : List ℕ) → length bytes ≤ 8192 → block_count bytes ≡ 1
block_count-one bytes short = omega arith

-- the hash of the one block is left
pub root_above-one : (n level : ℕ) (bytes : List ℕ) → length bytes ≤ 8192 → root_above n level bytes ≡ hashes level bytes
unfolding root_above
root_above-one zero level bytes short = refl
root_above-one (suc n) level bytes short =
    let one : block_count bytes ≡ 1 = omega arith in
    grind (arith, nat_tests)

-- what is left above more than one block is what is left above their joined hashes
pub root_above-more : (n level : ℕ) (bytes : List ℕ) → 8192 < length bytes → root_above (suc n) level bytes ≡ root_above n (suc level) (hashes level bytes)
unfolding root_above
root_above-more n level bytes long =
    let more : 1 < block_count bytes = omega arith in
    grind (arith, nat_tests)

-- one block's hash
pub hashes-one : (level : ℕ) (bytes : List ℕ) → length bytes ≤ 8192 → hashes level bytes ≡ sha256 (block_input level 0 bytes)
unfolding first_inputs
hashes-one level bytes short =
    let one = block_count-one bytes short in
    let all : take 8192 bytes ≡ bytes = take_all 8192 bytes short in
    ap (first_hashes level bytes) one ∙ first_hashes-suc level bytes 0 ∙ ap (λ contents. sha256 (block_input level 0 contents)) all

-- the hash of a level of one block has 32 bytes
length-hashes-one : (level : ℕ) (bytes : List ℕ) → length bytes ≤ 8192 → length (hashes level bytes) ≡ 32
length-hashes-one level bytes short = ap length (hashes-one level bytes short) ∙ length-sha256 (block_input level 0 bytes)

-- more than one block have fewer bytes of hashes than bytes
pub shorter-hashes : (n level : ℕ) (bytes : List ℕ) → 8192 < length bytes → length bytes ≤ suc n → length (hashes level bytes) ≤ n
shorter-hashes n level bytes long within =
    let total = length-first_hashes level bytes (block_count bytes) in
    omega (arith, total)

-- so as many levels as bytes suffice: one hash is left
pub length-root_above : (n level : ℕ) (bytes : List ℕ) → length bytes ≤ n → length (root_above n level bytes) ≡ 32
length-root_above zero level bytes within =
    let short : length bytes ≤ 8192 = omega arith in
    ap length (root_above-one zero level bytes short) ∙ length-hashes-one level bytes short
length-root_above (suc n) level bytes within =
    elim (cases_lt 8192 (length bytes)) [
      | inr short ↦ ap length (root_above-one (suc n) level bytes short) ∙ length-hashes-one level bytes short
      | inl long ↦ ap length (root_above-more n level bytes long)
          ∙ length-root_above n (suc level) (hashes level bytes) (shorter-hashes n level bytes long within)
    ]

-- and more levels change nothing of what is made level by level
pub levels-same : {X : Type 0} (made : ℕ → ℕ → List ℕ → X) (top : ℕ → List ℕ → X) (step : ℕ → List ℕ → X → X)
    → ((n level : ℕ) (bytes : List ℕ) → length bytes ≤ 8192 → made n level bytes ≡ top level bytes)
    → ((n level : ℕ) (bytes : List ℕ) → 8192 < length bytes → made (suc n) level bytes ≡ step level bytes (made n (suc level) (hashes level bytes)))
    → (m n level : ℕ) (bytes : List ℕ) → length bytes ≤ m → length bytes ≤ n → made m level bytes ≡ made n level bytes
levels-same made top step one more zero n level bytes within within' =
    let short : length bytes ≤ 8192 = omega arith in
    one zero level bytes short ∙ sym (one n level bytes short)
levels-same made top step one more (suc m) zero level bytes within within' =
    let short : length bytes ≤ 8192 = omega arith in
    one (suc m) level bytes short ∙ sym (one zero level bytes short)
levels-same made top step one more (suc m) (suc n) level bytes within within' =
    elim (cases_lt 8192 (length bytes)) [
      | inr short ↦ one (suc m) level bytes short ∙ sym (one (suc n) level bytes short)
      | inl long ↦ more m level bytes long
          ∙ ap (step level bytes)
          (levels-same made top step one more m n (suc level) (hashes level bytes) (shorter-hashes m level bytes long within) (shorter-hashes n level bytes long within'))
          ∙ sym (more n level bytes long)
    ]

pub root_above-same : (m n level : ℕ) (bytes : List ℕ) → length bytes ≤ m → length bytes ≤ n → root_above m level bytes ≡ root_above n level bytes
root_above-same = levels-same root_above hashes (λ level bytes above. above) root_above-one root_above-more

-- the root has 32 bytes
pub length-merkle_root : (bytes : List ℕ) → length (merkle_root bytes).0 ≡ 32
unfolding merkle_root
length-merkle_root bytes = length-root_above (length bytes) 0 bytes (omega arith)

-- a level of one block is hashed once
pub level_inputs-one : (level : ℕ) (bytes : List ℕ) → length bytes ≤ 8192 → level_inputs level bytes ≡ block_input level 0 bytes ∷ []
unfolding first_inputs
level_inputs-one level bytes short =
    let one = block_count-one bytes short in
    let all : take 8192 bytes ≡ bytes = take_all 8192 bytes short in
    ap (first_inputs level bytes) one ∙ ap (λ contents. block_input level 0 contents ∷ []) all

HashesLast-one : (from : List (List ℕ)) (hash : List ℕ) (level : ℕ) (bytes : List ℕ) → length bytes ≤ 8192
    → from ≡ level_inputs level bytes → hash ≡ hashes level bytes → HashesLast from hash
HashesLast-one from hash level bytes short is hashed = record {
  before = [];
  last = block_input level 0 bytes;
  is = is ∙ level_inputs-one level bytes short;
  hashed = hashed ∙ hashes-one level bytes short;
}

HashesLast-append : (first from : List (List ℕ)) (hash : List ℕ) → HashesLast from hash → HashesLast (first ++ from) hash
HashesLast-append first from hash h = record {
  before = first ++ h.before;
  last = h.last;
  is = ap (λ rest. first ++ rest) h.is ∙ sym (append_assoc first h.before (h.last ∷ []));
  hashed = h.hashed;
}

pub inputs_above-one : (n level : ℕ) (bytes : List ℕ) → length bytes ≤ 8192 → inputs_above n level bytes ≡ level_inputs level bytes
unfolding inputs_above
inputs_above-one zero level bytes short = refl
inputs_above-one (suc n) level bytes short =
    let one : block_count bytes ≡ 1 = omega arith in
    grind (arith, nat_tests)

pub inputs_above-more : (n level : ℕ) (bytes : List ℕ) → 8192 < length bytes
    → inputs_above (suc n) level bytes ≡ level_inputs level bytes ++ inputs_above n (suc level) (hashes level bytes)
unfolding inputs_above
inputs_above-more n level bytes long =
    let more : 1 < block_count bytes = omega arith in
    grind (arith, nat_tests)

HashesLast-above : (n level : ℕ) (bytes : List ℕ) → length bytes ≤ n → HashesLast (inputs_above n level bytes) (root_above n level bytes)
HashesLast-above zero level bytes within =
    let short : length bytes ≤ 8192 = omega arith in
    HashesLast-one _ _ level bytes short (inputs_above-one zero level bytes short) (root_above-one zero level bytes short)
HashesLast-above (suc n) level bytes within =
    elim (cases_lt 8192 (length bytes)) [
      | inr short ↦ HashesLast-one _ _ level bytes short (inputs_above-one (suc n) level bytes short) (root_above-one (suc n) level bytes short)
      | inl long ↦
          let above = HashesLast-above n (suc level) (hashes level bytes) (shorter-hashes n level bytes long within) in
          let all = HashesLast-append (level_inputs level bytes) _ _ above in
          rw (inputs_above-more n level bytes long, root_above-more n level bytes long) all
    ]

-- the root is made of its inputs: it is the digest of the last of them
pub HashesLast-merkle_root : (bytes : List ℕ) → HashesLast (inputs bytes) (merkle_root bytes).0
unfolding merkle_root inputs
HashesLast-merkle_root bytes = HashesLast-above (length bytes) 0 bytes (omega arith)

-- each element is a byte
abbrev AllBytes : List ℕ → Type 0
AllBytes xs = (i : ℕ) → slice_index xs i < 256

AllBytes-append : (xs ys : List ℕ) → AllBytes xs → AllBytes ys → AllBytes (xs ++ ys)
AllBytes-append [] ys left right i = right i
AllBytes-append (x ∷ xs) ys left right zero = left 0
AllBytes-append (x ∷ xs) ys left right (suc i) = AllBytes-append xs ys (λ k. left (suc k)) right i

AllBytes-word : (n : ℕ) → AllBytes (to_be_bytes w32 n)
AllBytes-word n zero = omega arith
AllBytes-word n (suc zero) = omega arith
AllBytes-word n (suc (suc zero)) = omega arith
AllBytes-word n (suc (suc (suc zero))) = omega arith
AllBytes-word n (suc (suc (suc (suc i)))) = omega arith

AllBytes-digest : (h : List ℕ) (n : ℕ) → AllBytes (digest_bytes h n)
unfolding digest_bytes
AllBytes-digest h zero = λ i. omega arith
AllBytes-digest h (suc n) = AllBytes-append (digest_bytes h n) (to_be_bytes w32 (slice_index h n)) (AllBytes-digest h n) (AllBytes-word (slice_index h n))

AllBytes-sha256 : (m : List ℕ) → AllBytes (sha256 m)
unfolding sha256
AllBytes-sha256 m = AllBytes-digest (final_hash initial_hash_256 m) 8

-- a root is 32 bytes
pub IsRoot-merkle_root : (bytes : List ℕ) → IsRoot (merkle_root bytes)
IsRoot-merkle_root bytes =
    let h = HashesLast-merkle_root bytes in
    record { length = length-merkle_root bytes; bytes = λ i. rw h.hashed (AllBytes-sha256 h.last i) }

-- the roots of blobs with no, one and two levels above the data
pub merkle_root-no_level : (bytes : List ℕ) → length bytes ≤ 8192 → merkle_root bytes ≡ record { 0 = hashes 0 bytes }
unfolding merkle_root
merkle_root-no_level bytes short =
    let make : List ℕ → Root = λ hash. record { 0 = hash } in
    ap make (root_above-one (length bytes) 0 bytes short)

pub merkle_root-one_level : (bytes : List ℕ) → 8192 < length bytes → length (hashes 0 bytes) ≤ 8192
    → merkle_root bytes ≡ record { 0 = hashes 1 (hashes 0 bytes) }
unfolding merkle_root
merkle_root-one_level bytes long short =
    let make : List ℕ → Root = λ hash. record { 0 = hash } in
    let n : ℕ = suc (length bytes) in
    ap make (root_above-same (length bytes) n 0 bytes (omega arith) (omega arith)
    ∙ root_above-more (length bytes) 0 bytes long
    ∙ root_above-one (length bytes) 1 (hashes 0 bytes) short)

pub merkle_root-two_levels : (bytes : List ℕ) → 8192 < length bytes → 8192 < length (hashes 0 bytes) → length (hashes 1 (hashes 0 bytes)) ≤ 8192
    → merkle_root bytes ≡ record { 0 = hashes 2 (hashes 1 (hashes 0 bytes)) }
unfolding merkle_root
merkle_root-two_levels bytes long long' short =
    let make : List ℕ → Root = λ hash. record { 0 = hash } in
    let n : ℕ = suc (suc (length bytes)) in
    ap make (root_above-same (length bytes) n 0 bytes (omega arith) (omega arith)
    ∙ root_above-more (suc (length bytes)) 0 bytes long
    ∙ root_above-more (length bytes) 1 (hashes 0 bytes) long'
    ∙ root_above-one (length bytes) 2 (hashes 1 (hashes 0 bytes)) short)
