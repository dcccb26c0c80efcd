-- Two levels above which one hash is left: equal, or their inputs collide.
use Rattle.std.proofs.Common.{◌≡◌, ◌≢◌, ℕ, zero, suc, ◌+◌, ◌-◌, ◌*◌, ◌%◌, ◌^◌, ◌<◌, ◌≤◌, ◌⊎◌, List, [], ◌∷◌, ◌++◌, length, take, drop, refl, sym, ap, ◌∙◌, subst, inl, inr, arith, add-one, length-drop, Contains}
use Rattle.std.proofs.Math.Seq.{take-add}
use Rattle.std.proofs.lemmas.List.{take_all, take-append-le, drop_at, drop-append-le}
use Rattle.std.proofs.lemmas.List.Elements.{Contains-append_left, Contains-append_right, Contains-append_cases, Contains-push}
use Rattle.std.proofs.lemmas.Bool.{cases_lt}
use Rattle.sha2.specs.Sha256.{sha256}
use Rattle.sha2.proofs.Facts256.{length-sha256}
use Rattle.pkg_names.specs.declared.root.Root.{Root}
use Rattle.pkg_merkle.specs.Merkle.{block, block_count, block_input, first_inputs, first_hashes, level_inputs, hashes, root_above, merkle_root, inputs_above, inputs}
use Rattle.pkg_merkle.specs.declared.binding.Binding.{Binding}
use Rattle.pkg_merkle.specs.declared.binding.Binding.TheVariants.{Same, Collision, ZeroDigest}
use Rattle.pkg_merkle.specs.Binding.{zero_digest, IsFreeOfCollisions, Collide, HasZeroDigest, IsFound, IsLevel, IsTop}
use Rattle.pkg_merkle.proofs.RootLemmas.{first_hashes-suc, length-first_hashes, root_above-one, root_above-more, root_above-same, levels-same, hashes-one, level_inputs-one, inputs_above-one, inputs_above-more, shorter-hashes}
use Rattle.pkg_merkle.proofs.Inputs.{input-level, same_contents, length-block, IsLevel-block}

-- every member of the first list is one of the second
pub record Within (part whole : List (List ℕ)) : Type 0 where
  pub each : (x : List ℕ) → Contains part x → Contains whole x

-- the input of each block is listed
pub Contains-first_inputs : (level : ℕ) (bytes : List ℕ) (n i : ℕ) → i < n → Contains (first_inputs level bytes n) (block_input level i (block bytes i))
unfolding first_inputs
Contains-first_inputs level bytes zero i less = absurd (omega arith)
Contains-first_inputs level bytes (suc n) i less =
    let last : List ℕ = block_input level n (block bytes n) in
    elim (cases_lt i n) [
      | inl below ↦ Contains-append_left (first_inputs level bytes n) (last ∷ []) _ (Contains-first_inputs level bytes n i below)
      | inr above ↦
          let here : n ≡ i = omega arith in
          subst (λ k. Contains (first_inputs level bytes n ++ last ∷ []) (block_input level k (block bytes k))) here (Contains-push (first_inputs level bytes n) last)
    ]

-- and its digest stands at its place
pub hash-first_hashes : (level : ℕ) (bytes : List ℕ) (n i : ℕ) → i < n → take 32 (drop (32 * i) (first_hashes level bytes n)) ≡ sha256 (block_input level i (block bytes i))
hash-first_hashes level bytes zero i less = absurd (omega arith)
hash-first_hashes level bytes (suc n) i less =
    let before : List ℕ = first_hashes level bytes n in
    let hash : List ℕ = sha256 (block_input level n (block bytes n)) in
    let size : length before ≡ 32 * n = length-first_hashes level bytes n in
    let one : length hash ≡ 32 = length-sha256 (block_input level n (block bytes n)) in
    let more = ap (λ (l : List ℕ). take 32 (drop (32 * i) l)) (first_hashes-suc level bytes n) in
    elim (cases_lt i n) [
      | inl below ↦
          let rest = length-drop (32 * i) before in
          let long : 32 ≤ length (drop (32 * i) before) = omega arith in
          more
          ∙ ap (λ (l : List ℕ). take 32 l) (drop-append-le (32 * i) before hash (omega arith))
          ∙ take-append-le 32 (drop (32 * i) before) hash long
          ∙ hash-first_hashes level bytes n i below
      | inr above ↦
          let here : n ≡ i = omega arith in
          more
          ∙ ap (λ (l : List ℕ). take 32 l) (drop_at before hash (32 * i) (omega arith))
          ∙ take_all 32 hash (omega arith)
          ∙ ap (λ k. sha256 (block_input level k (block bytes k))) here
    ]

-- bytes are their blocks
same-first_blocks : (a b : List ℕ) (n : ℕ) → ((i : ℕ) → i < n → block a i ≡ block b i) → take (8192 * n) a ≡ take (8192 * n) b
same-first_blocks a b zero same = refl
same-first_blocks a b (suc n) same =
    let next : 8192 * suc n ≡ 8192 * n + 8192 = omega arith in
    let left = ap (λ k. take k a) next ∙ take-add (8192 * n) 8192 a in
    let right = ap (λ k. take k b) next ∙ take-add (8192 * n) 8192 b in
    let before = same-first_blocks a b n (λ i less. same i (omega arith)) in
    let last = same n (omega arith) in
    cc

pub same_blocks : (a b : List ℕ) → block_count a ≡ block_count b → ((i : ℕ) → i < block_count a → block a i ≡ block b i) → a ≡ b
same_blocks a b count same =
    sym (take_all (8192 * block_count a) a (omega arith))
    ∙ same-first_blocks a b (block_count a) same
    ∙ take_all (8192 * block_count a) b (omega arith)

-- levels of the same hashes have as many blocks
pub same_count : (level : ℕ) (a b : List ℕ) → hashes level a ≡ hashes level b → block_count a ≡ block_count b
same_count level a b e =
    let left = length-first_hashes level a (block_count a) in
    let right = length-first_hashes level b (block_count b) in
    let sizes : length (hashes level a) ≡ length (hashes level b) = ap length e in
    omega arith

-- and blocks of the same digests
pub same_digests : (level : ℕ) (a b : List ℕ) (i : ℕ) → hashes level a ≡ hashes level b → i < block_count a
    → sha256 (block_input level i (block a i)) ≡ sha256 (block_input level i (block b i))
same_digests level a b i e less =
    let count = same_count level a b e in
    sym (hash-first_hashes level a (block_count a) i less)
    ∙ ap (λ (l : List ℕ). take 32 (drop (32 * i) l)) e
    ∙ hash-first_hashes level b (block_count b) i (omega arith)

-- the hashes above a level, where none is the zero digest
pub IsLevel-above : (level : ℕ) (bytes : List ℕ) → ((i : ℕ) → 32 * i < length (hashes level bytes) → take 32 (drop (32 * i) (hashes level bytes)) ≢ zero_digest)
    → IsLevel (suc level) (hashes level bytes)
IsLevel-above level bytes none =
    let size = length-first_hashes level bytes (block_count bytes) in
    record { width = λ above. omega arith; hashes = λ above. none }

pub IsLevel-data : (bytes : List ℕ) → IsLevel 0 bytes
IsLevel-data bytes = record { width = λ above. absurd (omega arith); hashes = λ above. absurd (omega arith) }

-- one level up
pub root_above-step : (level : ℕ) (bytes : List ℕ) → 8192 < length bytes
    → root_above (length bytes) level bytes ≡ root_above (length (hashes level bytes)) (suc level) (hashes level bytes)
root_above-step level bytes long =
    let less : length (hashes level bytes) ≤ length bytes = shorter-hashes (length bytes) level bytes long (omega arith) in
    root_above-same (length bytes) (suc (length bytes)) level bytes (omega arith) (omega arith)
    ∙ root_above-more (length bytes) level bytes long
    ∙ root_above-same (length bytes) (length (hashes level bytes)) (suc level) (hashes level bytes) less (omega arith)

inputs_above-same : (m n level : ℕ) (bytes : List ℕ) → length bytes ≤ m → length bytes ≤ n → inputs_above m level bytes ≡ inputs_above n level bytes
inputs_above-same = levels-same inputs_above level_inputs (λ level bytes above. level_inputs level bytes ++ above) inputs_above-one inputs_above-more

inputs_above-step : (level : ℕ) (bytes : List ℕ) → 8192 < length bytes
    → inputs_above (length bytes) level bytes ≡ level_inputs level bytes ++ inputs_above (length (hashes level bytes)) (suc level) (hashes level bytes)
inputs_above-step level bytes long =
    let less : length (hashes level bytes) ≤ length bytes = shorter-hashes (length bytes) level bytes long (omega arith) in
    inputs_above-same (length bytes) (suc (length bytes)) level bytes (omega arith) (omega arith)
    ∙ inputs_above-more (length bytes) level bytes long
    ∙ ap (λ (rest : List (List ℕ)). level_inputs level bytes ++ rest)
    (inputs_above-same (length bytes) (length (hashes level bytes)) (suc level) (hashes level bytes) less (omega arith))

-- fewer hashes than bytes
pub length-hashes : (level : ℕ) (bytes : List ℕ) → 8192 < length bytes → suc (length (hashes level bytes)) ≤ length bytes
length-hashes level bytes long =
    let n : ℕ = length bytes - 1 in
    let less : length (hashes level bytes) ≤ n = shorter-hashes n level bytes long (omega arith) in
    omega arith

-- the inputs of a level, and those above it, are among all
pub Within-here : (level : ℕ) (bytes : List ℕ) → 8192 < length bytes → Within (level_inputs level bytes) (inputs_above (length bytes) level bytes)
Within-here level bytes long = record {
  each = λ x member.
      rw (inputs_above-step level bytes long)
      (Contains-append_left (level_inputs level bytes) (inputs_above (length (hashes level bytes)) (suc level) (hashes level bytes)) x member);
}

pub Within-above : (level : ℕ) (bytes : List ℕ) → 8192 < length bytes
    → Within (inputs_above (length (hashes level bytes)) (suc level) (hashes level bytes)) (inputs_above (length bytes) level bytes)
Within-above level bytes long = record {
  each = λ x member.
      rw (inputs_above-step level bytes long)
      (Contains-append_right (level_inputs level bytes) (inputs_above (length (hashes level bytes)) (suc level) (hashes level bytes)) x member);
}

pub Within-append : (a b c d : List (List ℕ)) → Within a c → Within b d → Within (a ++ b) (c ++ d)
Within-append a b c d left right = record {
  each = λ x member.
      elim (Contains-append_cases a b x member) [
        | inl h ↦ Contains-append_left c d x (left.each x h)
        | inr h ↦ Contains-append_right c d x (right.each x h)
      ];
}

-- what is found in a part is found in the whole
pub IsFound-within : (part whole : List (List ℕ)) (binding : Binding) → Within part whole → IsFound part binding → IsFound whole binding
IsFound-within part whole Same within found = tt
IsFound-within part whole (Collision x y) within found = record {
  first = within.each x found.first;
  second = within.each y found.second;
  apart = found.apart;
  digest = found.digest;
}
IsFound-within part whole (ZeroDigest x) within found = record { input = within.each x found.input; digest = found.digest }

-- the input at the top, of one block and of more
pub IsTop-one : (level : ℕ) (bytes : List ℕ) → length bytes ≤ 8192 → IsTop level bytes (block_input level 0 bytes)
IsTop-one level bytes short =
    let listed : inputs_above (length bytes) level bytes ≡ block_input level 0 bytes ∷ [] = inputs_above-one (length bytes) level bytes short ∙ level_inputs-one level bytes short in
    record {
      within = rw listed (Contains-push [] (block_input level 0 bytes));
      digest = root_above-one (length bytes) level bytes short ∙ hashes-one level bytes short;
      one = λ _. refl;
      number = level;
      contents = bytes;
      is = refl;
      from = omega arith;
      above = λ long. absurd (omega arith);
      bound = omega arith;
    }

pub IsTop-more : (level : ℕ) (bytes input : List ℕ) → 8192 < length bytes → IsTop (suc level) (hashes level bytes) input → IsTop level bytes input
IsTop-more level bytes input long top =
    let less = length-hashes level bytes long in
    let bound = top.bound in
    let from = top.from in
    record {
      within = (Within-above level bytes long).each input top.within;
      digest = root_above-step level bytes long ∙ top.digest;
      one = λ short. absurd (omega arith);
      number = top.number;
      contents = top.contents;
      is = top.is;
      from = omega arith;
      above = λ _. omega arith;
      bound = omega arith;
    }

top_of : (k level : ℕ) (bytes : List ℕ) → length bytes ≤ k → (input : List ℕ) × IsTop level bytes input
top_of zero level bytes within = (block_input level 0 bytes, IsTop-one level bytes (omega arith))
top_of (suc k) level bytes within =
    elim (cases_lt 8192 (length bytes)) [
      | inr short ↦ (block_input level 0 bytes, IsTop-one level bytes short)
      | inl long ↦
          let above = top_of k (suc level) (hashes level bytes) (shorter-hashes k level bytes long within) in
          (above.0, IsTop-more level bytes above.0 long above.1)
    ]

-- one input at the top, where one level has one block
pub same_tops : (level : ℕ) (a b x y : List ℕ) → IsLevel level a → IsLevel level b → level + length b < 2 ^ 64 → length a ≤ 8192
    → IsTop level a x → IsTop level b y → x ≡ y → a ≡ b
same_tops level a b x y left right small short top top' e =
    elim (cases_lt 8192 (length b)) [
      | inr short' ↦ same_contents level 0 a b short short' left right (sym (top.one short) ∙ e ∙ top'.one short')
      | inl long ↦
          let bound = top'.bound in
          let above = top'.above long in
          let same = input-level level top'.number a top'.contents (omega arith) (omega arith) (sym (top.one short) ∙ e ∙ top'.is) in
          absurd (omega arith)
    ]

-- a level whose inputs are among these
record Side (from : List (List ℕ)) (level : ℕ) (bytes : List ℕ) : Type 0 where
  size : level + length bytes < 2 ^ 64
  held : IsLevel level bytes
  listed : Within (inputs_above (length bytes) level bytes) from

Side-above : (from : List (List ℕ)) (level : ℕ) (bytes : List ℕ) → IsFreeOfCollisions from → 8192 < length bytes → Side from level bytes
    → Side from (suc level) (hashes level bytes)
Side-above from level bytes free long side =
    let less = length-hashes level bytes long in
    let size = side.size in
    let count = length-first_hashes level bytes (block_count bytes) in
    record {
      size = omega arith;
      held = IsLevel-above level bytes (λ i within zeros.
          let at : i < block_count bytes = omega arith in
          let listed = (Within-here level bytes long).each _ (Contains-first_inputs level bytes (block_count bytes) i at) in
          free.not_zero _ (side.listed.each _ listed) (sym (hash-first_hashes level bytes (block_count bytes) i at) ∙ zeros));
      listed = record { each = λ x member. side.listed.each x ((Within-above level bytes long).each x member) };
    }

bind-short : (level : ℕ) (a b : List ℕ) (from : List (List ℕ)) → IsFreeOfCollisions from → length a ≤ 8192 → Side from level a → Side from level b
    → root_above (length a) level a ≡ root_above (length b) level b → a ≡ b
bind-short level a b from free short left right root =
    let top = top_of (length a) level a (omega arith) in
    let top' = top_of (length b) level b (omega arith) in
    let same = free.distinct top.0 top'.0 (left.listed.each top.0 top.1.within) (right.listed.each top'.0 top'.1.within) (sym top.1.digest ∙ root ∙ top'.1.digest) in
    same_tops level a b top.0 top'.0 left.held right.held right.size short top.1 top'.1 same

bind-long : (level : ℕ) (a b : List ℕ) (from : List (List ℕ)) → IsFreeOfCollisions from → 8192 < length a → 8192 < length b → Side from level a → Side from level b
    → hashes level a ≡ hashes level b → a ≡ b
bind-long level a b from free long long' left right e =
    let count = same_count level a b e in
    same_blocks a b count (λ i less.
    let less' : i < block_count b = omega arith in
    let listed = left.listed.each _ ((Within-here level a long).each _ (Contains-first_inputs level a (block_count a) i less)) in
    let listed' = right.listed.each _ ((Within-here level b long').each _ (Contains-first_inputs level b (block_count b) i less')) in
    same_contents level i (block a i) (block b i) (length-block a i) (length-block b i) (IsLevel-block level a i left.held) (IsLevel-block level b i right.held)
    (free.distinct _ _ listed listed' (same_digests level a b i e less)))

bind : (k level : ℕ) (a b : List ℕ) (from : List (List ℕ)) → IsFreeOfCollisions from → length a ≤ k → Side from level a → Side from level b
    → root_above (length a) level a ≡ root_above (length b) level b → a ≡ b
bind zero level a b from free within left right root = bind-short level a b from free (omega arith) left right root
bind (suc k) level a b from free within left right root =
    elim (cases_lt 8192 (length a)) [
      | inr short ↦ bind-short level a b from free short left right root
      | inl long ↦ elim (cases_lt 8192 (length b)) [
        | inr short ↦ sym (bind-short level b a from free short right left (sym root))
        | inl long' ↦ bind-long level a b from free long long' left right
            (bind k (suc level) (hashes level a) (hashes level b) from free (shorter-hashes k level a long within)
            (Side-above from level a free long left) (Side-above from level b free long' right)
            (sym (root_above-step level a long) ∙ root ∙ root_above-step level b long'))
      ]
    ]

-- blobs of one root are equal, where no collision is met
pub merkle_root-binds : (a b : List ℕ) → length a < 2 ^ 64 → length b < 2 ^ 64 → IsFreeOfCollisions (inputs a ++ inputs b) → merkle_root a ≡ merkle_root b → a ≡ b
unfolding merkle_root inputs
merkle_root-binds a b small small' free root =
    bind (length a) 0 a b (inputs a ++ inputs b) free (omega arith)
    (record { size = omega arith; held = IsLevel-data a; listed = record { each = λ x member. Contains-append_left (inputs a) (inputs b) x member } })
    (record { size = omega arith; held = IsLevel-data b; listed = record { each = λ x member. Contains-append_right (inputs a) (inputs b) x member } })
    (ap (λ (r : Root). r.0) root)

-- What the code meets on its way up: `above` are the hashes of a level, as it made them.

-- one hash more
pub first_hashes-more : (level i : ℕ) (bytes above part hash new : List ℕ) → above ≡ first_hashes level bytes i → part ≡ block bytes i
    → hash ≡ sha256 (block_input level i part) → new ≡ above ++ hash → new ≡ first_hashes level bytes (i + 1)
first_hashes-more level i bytes above part hash new before is digest grown =
    let next : i + 1 ≡ suc i = omega arith in
    let more = first_hashes-suc level bytes i in
    cc

-- where all blocks but the last are equal, the last ones differ
pub last-apart : (a b : List ℕ) (last : ℕ) → block_count b ≡ block_count a → last ≡ block_count a - 1 → ((j : ℕ) → j < last → block a j ≡ block b j) → a ≢ b
    → block a last ≢ block b last
last-apart a b last count is same apart e =
    apart (same_blocks a b (sym count) (λ i less.
    elim (cases_lt i last) [
      | inl below ↦ same i below
      | inr above ↦
          let here : last ≡ i = omega arith in
          subst (λ k. block a k ≡ block b k) here e
    ]))

pub IsTop-up : (level : ℕ) (bytes above input : List ℕ) → 8192 < length bytes → above ≡ hashes level bytes → IsTop (level + 1) above input → IsTop level bytes input
IsTop-up level bytes above input long is top = IsTop-more level bytes input long (rw (add-one, is) at top)

pub IsLevel-up : (level : ℕ) (bytes above : List ℕ) → above ≡ hashes level bytes
    → ((i : ℕ) → 32 * i < length above → take 32 (drop (32 * i) above) ≢ zero_digest) → IsLevel (level + 1) above
IsLevel-up level bytes above is none = rw (add-one, is) (IsLevel-above level bytes (rw is at none))

pub root_above-up : (level : ℕ) (a b above above' : List ℕ) → 8192 < length a → 8192 < length b → above ≡ hashes level a → above' ≡ hashes level b
    → root_above (length a) level a ≡ root_above (length b) level b
    → root_above (length above) (level + 1) above ≡ root_above (length above') (level + 1) above'
root_above-up level a b above above' long long' is is' root =
    rw (add-one, is, is') (sym (root_above-step level a long) ∙ root ∙ root_above-step level b long')

-- the inputs at the top of both
pub Collide-tops : (level : ℕ) (a b x y : List ℕ) → IsLevel level a → IsLevel level b → level + length a < 2 ^ 64 → level + length b < 2 ^ 64
    → (length a ≤ 8192) ⊎ (length b ≤ 8192) → IsTop level a x → IsTop level b y
    → root_above (length a) level a ≡ root_above (length b) level b → a ≢ b
    → Collide (inputs_above (length a) level a ++ inputs_above (length b) level b) x y
Collide-tops level a b x y left right small small' short top top' root apart = record {
  first = Contains-append_left (inputs_above (length a) level a) (inputs_above (length b) level b) x top.within;
  second = Contains-append_right (inputs_above (length a) level a) (inputs_above (length b) level b) y top'.within;
  apart = λ e.
      elim short [
        | inl short_a ↦ apart (same_tops level a b x y left right small' short_a top top' e)
        | inr short_b ↦ apart (sym (same_tops level b a y x right left small short_b top' top (sym e)))
      ];
  digest = sym top.digest ∙ root ∙ top'.digest;
}

-- a hash that is the zero digest
HasZeroDigest-here : (level i : ℕ) (bytes above x : List ℕ) → 8192 < length bytes → above ≡ hashes level bytes → i < block_count bytes
    → take 32 (drop (32 * i) above) ≡ zero_digest → x ≡ block_input level i (block bytes i)
    → HasZeroDigest (inputs_above (length bytes) level bytes) x
HasZeroDigest-here level i bytes above x long is less zeros made =
    let input : List ℕ = block_input level i (block bytes i) in
    let listed : Contains (inputs_above (length bytes) level bytes) input = (Within-here level bytes long).each input (Contains-first_inputs level bytes (block_count bytes) i less) in
    let digest : sha256 input ≡ zero_digest = sym (hash-first_hashes level bytes (block_count bytes) i less) ∙ (rw is at zeros) in
    rw made (record { input = listed; digest = digest })

pub HasZeroDigest-first : (level i : ℕ) (a b above x : List ℕ) → 8192 < length a → above ≡ hashes level a → i < block_count a
    → take 32 (drop (32 * i) above) ≡ zero_digest → x ≡ block_input level i (block a i)
    → HasZeroDigest (inputs_above (length a) level a ++ inputs_above (length b) level b) x
HasZeroDigest-first level i a b above x long is less zeros made =
    let here = HasZeroDigest-here level i a above x long is less zeros made in
    record { input = Contains-append_left (inputs_above (length a) level a) (inputs_above (length b) level b) x here.input; digest = here.digest }

pub HasZeroDigest-second : (level i : ℕ) (a b above x : List ℕ) → 8192 < length b → above ≡ hashes level b → i < block_count b
    → take 32 (drop (32 * i) above) ≡ zero_digest → x ≡ block_input level i (block b i)
    → HasZeroDigest (inputs_above (length a) level a ++ inputs_above (length b) level b) x
HasZeroDigest-second level i a b above x long is less zeros made =
    let here = HasZeroDigest-here level i b above x long is less zeros made in
    record { input = Contains-append_right (inputs_above (length a) level a) (inputs_above (length b) level b) x here.input; digest = here.digest }

pub count-up : (level i : ℕ) (bytes above : List ℕ) → above ≡ hashes level bytes → 32 * i < length above → i < block_count bytes
count-up level i bytes above is less =
    let size = length-first_hashes level bytes (block_count bytes) in
    let same : length above ≡ length (hashes level bytes) = ap length is in
    omega arith

pub width-up : (level : ℕ) (bytes above : List ℕ) → above ≡ hashes level bytes → length above % 32 ≡ 0
width-up level bytes above is =
    let size = length-first_hashes level bytes (block_count bytes) in
    let same : length above ≡ length (hashes level bytes) = ap length is in
    omega arith

pub length-up : (level : ℕ) (bytes above : List ℕ) → 8192 < length bytes → above ≡ hashes level bytes → suc (length above) ≤ length bytes
length-up level bytes above long is =
    let less = length-hashes level bytes long in
    let same : length above ≡ length (hashes level bytes) = ap length is in
    omega arith

-- two blocks that differ below equal hashes
pub Collide-blocks : (level i : ℕ) (a b x y : List ℕ) → IsLevel level a → IsLevel level b → 8192 < length a → 8192 < length b
    → hashes level a ≡ hashes level b → i < block_count a → block a i ≢ block b i → x ≡ block_input level i (block a i) → y ≡ block_input level i (block b i)
    → Collide (inputs_above (length a) level a ++ inputs_above (length b) level b) x y
Collide-blocks level i a b x y left right long long' e less apart is is' =
    let count = same_count level a b e in
    let less' : i < block_count b = omega arith in
    let listed = (Within-here level a long).each _ (Contains-first_inputs level a (block_count a) i less) in
    let listed' = (Within-here level b long').each _ (Contains-first_inputs level b (block_count b) i less') in
    rw (is, is') (record {
      first = Contains-append_left (inputs_above (length a) level a) (inputs_above (length b) level b) _ listed;
      second = Contains-append_right (inputs_above (length a) level a) (inputs_above (length b) level b) _ listed';
      apart = λ same. apart (same_contents level i (block a i) (block b i) (length-block a i) (length-block b i) (IsLevel-block level a i left) (IsLevel-block level b i right) same);
      digest = same_digests level a b i e less;
    })

-- what is found above
pub IsFound-up : (level : ℕ) (a b above above' : List ℕ) (binding : Binding) → 8192 < length a → 8192 < length b → above ≡ hashes level a → above' ≡ hashes level b
    → IsFound (inputs_above (length above) (level + 1) above ++ inputs_above (length above') (level + 1) above') binding
    → IsFound (inputs_above (length a) level a ++ inputs_above (length b) level b) binding
IsFound-up level a b above above' binding long long' is is' found =
    IsFound-within _ _ binding (Within-append _ _ _ _ (Within-above level a long) (Within-above level b long')) (rw (add-one, is, is') at found)
