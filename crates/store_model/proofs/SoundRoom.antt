-- What the acts leave of the stock and the claims has the room that it needs.
use Rattle.std.proofs.Common.{inl, inr, ◌≡◌, ◌≢◌, ℕ, ◌+◌, ◌≤◌, ◌<◌, Bool, true, false, not, List, [], ◌∷◌, ◌++◌, length, Option, Some, None, is_some, All, refl, sym, ap, ◌∙◌, arith}
use Rattle.std.specs.Prelude.{filter, IfSome}
use Rattle.std.specs.List.{AllPairs}
use Rattle.std.proofs.lemmas.Bool.{cases_Bool, false_from_ne_true}
use Rattle.std.proofs.lemmas.List.{append-nil, length-append}
use Rattle.std.proofs.lemmas.List.Elements.{All-head, All-tail, All-weaker, All-filter, All-map, All-push, filter-append}
use Rattle.pkg_names.specs.declared.root.Root.{Root}
use Rattle.pkg_names.specs.Root.{root_eq}
use Rattle.pkg_names.proofs.Roots.{root_eq-true}
use Rattle.pkg_merkle.specs.declared.hasher.TheConstants.{BYTES_LIMIT}
use Rattle.image_layout.specs.declared.geometry.Geometry.{Geometry}
use Rattle.fetch_queue.specs.declared.queue.ClaimEntry.{ClaimEntry}
use Rattle.fetch_queue.specs.Fetches.{roomed, with_room, without_claim}
use Rattle.store_model.specs.State.{Stored, has_root, without_blobs, claim_of}
use Rattle.store_model.specs.Packages.{pages_of, stock_pages, claim_pages}
use Rattle.store_model.specs.Sound.{IsInRoom}
use Rattle.store_model.proofs.LanesLists.{found_all, apart_head, apart_tail}

-- ---- sizes

abbrev has_room : ClaimEntry → Bool
has_room claim = is_some claim.len

abbrev roomed_claims : List ClaimEntry → ℕ
roomed_claims claims = length (filter has_room claims)

length_filter-le : {X : Type 0} (p : X → Bool) (xs : List X) → length (filter p xs) ≤ length xs
length_filter-le p [] = omega arith
length_filter-le p (x ∷ xs) =
    let rest = length_filter-le p xs in
    elim (cases_Bool (p x)) [ inl yes' ↦ rw yes' (omega arith) | inr no' ↦ rw no' (omega arith) ]

claim_pages-filter : (p : ClaimEntry → Bool) (claims : List ClaimEntry) → claim_pages (filter p claims) ≤ claim_pages claims
claim_pages-filter p [] = omega arith
claim_pages-filter p (claim ∷ claims) =
    let rest = claim_pages-filter p claims in
    elim (cases_Bool (p claim)) [ inl yes' ↦ rw yes' (omega arith) | inr no' ↦ rw no' (omega arith) ]

roomed-filter : (p : ClaimEntry → Bool) (claims : List ClaimEntry) → roomed_claims (filter p claims) ≤ roomed_claims claims
roomed-filter p [] = omega arith
roomed-filter p (claim ∷ claims) =
    let rest = roomed-filter p claims in
    elim (cases_Bool (p claim)) [
      | inl yes' ↦ elim (cases_Bool (has_room claim)) [
        | inl with' ↦ rw (yes', with') (omega arith)
        | inr without' ↦ rw (yes', without') (omega arith)
      ]
      | inr no' ↦ elim (cases_Bool (has_room claim)) [
        | inl with' ↦ rw (no', with') (omega arith)
        | inr without' ↦ rw (no', without') (omega arith)
      ]
    ]

stock_pages-filter : (p : Stored → Bool) (stock : List Stored) → stock_pages (filter p stock) ≤ stock_pages stock
stock_pages-filter p [] = omega arith
stock_pages-filter p (blob ∷ stock) =
    let rest = stock_pages-filter p stock in
    elim (cases_Bool (p blob)) [ inl yes' ↦ rw yes' (omega arith) | inr no' ↦ rw no' (omega arith) ]

stock_pages-push : (stock : List Stored) (blob : Stored) → stock_pages (stock ++ blob ∷ []) ≡ stock_pages stock + pages_of blob.len
stock_pages-push [] blob = omega arith
stock_pages-push (other ∷ stock) blob = let rest = stock_pages-push stock blob in omega arith

abbrev pub new_claim : Root → ℕ → ClaimEntry
new_claim root lane = record { root = root; lane = lane; len = None }

claim_pages-push : (claims : List ClaimEntry) (root : Root) (lane : ℕ) → claim_pages (claims ++ new_claim root lane ∷ []) ≡ claim_pages claims
claim_pages-push [] root lane = omega arith
claim_pages-push (claim ∷ claims) root lane = let rest = claim_pages-push claims root lane in omega arith

roomed-push : (claims : List ClaimEntry) (root : Root) (lane : ℕ) → roomed_claims (claims ++ new_claim root lane ∷ []) ≡ roomed_claims claims
roomed-push claims root lane = ap (λ (l : List ClaimEntry). length l) (filter-append has_room claims (new_claim root lane ∷ []) ∙ append-nil (filter has_room claims))

-- ---- the claim of a root

abbrev is_for : Root → ClaimEntry → Bool
is_for root claim = root_eq claim.root root

abbrev pub AreApart : List ClaimEntry → Type 0
AreApart claims = AllPairs (λ (a b : ClaimEntry). a.root ≢ b.root) claims

-- no other claim is of the root
rest_apart : (claim : ClaimEntry) (claims : List ClaimEntry) (root : Root) → AreApart (claim ∷ claims) → root_eq claim.root root ≡ true → All (λ (other : ClaimEntry). root_eq other.root root ≡ false) claims
rest_apart claim claims root apart same =
    All-weaker (λ (other : ClaimEntry). claim.root ≢ other.root) (λ (other : ClaimEntry). root_eq other.root root ≡ false)
    (λ other ne. false_from_ne_true (root_eq other.root root) (λ is. ne (root_eq-true claim.root root same ∙ sym (root_eq-true other.root root is))))
    claims (apart_head (λ (a b : ClaimEntry). a.root ≢ b.root) claim claims apart)

room_apart : (claims : List ClaimEntry) (root : Root) (len : ℕ) → All (λ (other : ClaimEntry). root_eq other.root root ≡ false) claims → with_room claims root len ≡ claims
room_apart [] root len apart = refl
room_apart (claim ∷ claims) root len apart =
    rw (All-head (λ (other : ClaimEntry). root_eq other.root root ≡ false) claim claims apart)
    (ap (λ (l : List ClaimEntry). claim ∷ l) (room_apart claims root len (All-tail (λ (other : ClaimEntry). root_eq other.root root ≡ false) claim claims apart)))

gone_apart : (claims : List ClaimEntry) (root : Root) → All (λ (other : ClaimEntry). root_eq other.root root ≡ false) claims → without_claim claims root ≡ claims
gone_apart [] root apart = refl
gone_apart (claim ∷ claims) root apart =
    rw (All-head (λ (other : ClaimEntry). root_eq other.root root ≡ false) claim claims apart)
    (ap (λ (l : List ClaimEntry). claim ∷ l) (gone_apart claims root (All-tail (λ (other : ClaimEntry). root_eq other.root root ≡ false) claim claims apart)))

-- what room for a claim without room adds, and what a claim with room leaves behind
record Sizes (claims : List ClaimEntry) (root : Root) (len : ℕ) (more : List ClaimEntry) : Type 0 where
  pages : claim_pages more ≡ claim_pages claims + pages_of len
  nodes : roomed_claims more ≡ roomed_claims claims + 1

some_same : {X : Type 0} (a b : X) → ◌≡◌ {A = Option X} (Some a) (Some b) → a ≡ b
some_same a b same = cc

len_of : (claim found : ClaimEntry) (len : Option ℕ) → ◌≡◌ {A = Option ClaimEntry} (Some claim) (Some found) → found.len ≡ len → claim.len ≡ len
len_of claim found len same is = ap (λ (c : ClaimEntry). c.len) (some_same claim found same) ∙ is

sizes_with : (claims : List ClaimEntry) (root : Root) (len : ℕ) (found : ClaimEntry) → AreApart claims → claim_of claims root ≡ Some found → found.len ≡ None → Sizes claims root len (with_room claims root len)
sizes_with [] root len found distinct e none = absurd cc
sizes_with (claim ∷ claims) root len found distinct e none =
    elim (cases_Bool (root_eq claim.root root)) [
      | inl same ↦
          let rest = room_apart claims root len (rest_apart claim claims root distinct same) in
          let bare : claim.len ≡ None = len_of claim found None (rw same at e) none in
          record {
            pages = rw (same, rest, bare) (omega arith);
            nodes = rw (same, rest, bare) (omega arith);
          }
      | inr other ↦
          let rest = sizes_with claims root len found (apart_tail (λ (a b : ClaimEntry). a.root ≢ b.root) claim claims distinct) (rw other at e) none in
          let pages = rest.pages in
          let nodes = rest.nodes in
          record {
            pages = rw other (omega (arith, pages));
            nodes = rw other (elim (cases_Bool (has_room claim)) [
              | inl with' ↦ rw with' (omega (arith, nodes))
              | inr without' ↦ rw without' (omega (arith, nodes))
            ]);
          }
    ]

sizes_without : (claims : List ClaimEntry) (root : Root) (len : ℕ) (found : ClaimEntry) → AreApart claims → claim_of claims root ≡ Some found → found.len ≡ Some len → Sizes (without_claim claims root) root len claims
sizes_without [] root len found distinct e is = absurd cc
sizes_without (claim ∷ claims) root len found distinct e is =
    elim (cases_Bool (root_eq claim.root root)) [
      | inl same ↦
          let rest = gone_apart claims root (rest_apart claim claims root distinct same) in
          let roomy : claim.len ≡ Some len = len_of claim found (Some len) (rw same at e) is in
          record {
            pages = rw (same, rest, roomy) (omega arith);
            nodes = rw (same, rest, roomy) (omega arith);
          }
      | inr other ↦
          let rest = sizes_without claims root len found (apart_tail (λ (a b : ClaimEntry). a.root ≢ b.root) claim claims distinct) (rw other at e) is in
          let pages = rest.pages in
          let nodes = rest.nodes in
          record {
            pages = rw other (omega (arith, pages));
            nodes = rw other (elim (cases_Bool (has_room claim)) [
              | inl with' ↦ rw with' (omega (arith, nodes))
              | inr without' ↦ rw without' (omega (arith, nodes))
            ]);
          }
    ]

-- ---- the changes

abbrev IsShortRoom : ClaimEntry → Type 0
IsShortRoom claim = IfSome claim.len (λ len. len ≤ BYTES_LIMIT)

-- a claim goes
pub room_without : (g : Geometry) (stock : List Stored) (claims : List ClaimEntry) (root : Root) → IsInRoom g stock claims → IsInRoom g stock (without_claim claims root)
room_without g stock claims root h =
    let keeps : ClaimEntry → Bool = λ claim. not (root_eq claim.root root) in
    let pages = h.pages in
    let nodes = h.nodes in
    record {
      lengths = h.lengths;
      rooms = All-filter keeps IsShortRoom claims h.rooms;
      pages = let less = claim_pages-filter keeps claims in omega (arith, less, pages);
      nodes = let less = roomed-filter keeps claims in omega (arith, less, nodes);
    }

-- a lane claims a blob
pub room_claimed : (g : Geometry) (stock : List Stored) (claims : List ClaimEntry) (root : Root) (lane : ℕ) → IsInRoom g stock claims → IsInRoom g stock (claims ++ new_claim root lane ∷ [])
room_claimed g stock claims root lane h =
    let pages = h.pages in
    let nodes = h.nodes in
    record {
      lengths = h.lengths;
      rooms = All-push IsShortRoom claims (new_claim root lane) h.rooms tt;
      pages = rw (claim_pages-push claims root lane) pages;
      nodes = rw (roomed-push claims root lane) nodes;
    }

-- room is made for a claim that has none
pub room_made : (g : Geometry) (stock : List Stored) (claims : List ClaimEntry) (root : Root) (len : ℕ) (found : ClaimEntry) → AreApart claims → IsInRoom g stock claims → claim_of claims root ≡ Some found → found.len ≡ None
    → len ≤ BYTES_LIMIT → length stock + length (filter (λ (claim : ClaimEntry). is_some claim.len) claims) < g.blobs → stock_pages stock + claim_pages claims + pages_of len ≤ g.data_pages
    → IsInRoom g stock (with_room claims root len)
room_made g stock claims root len found once h e none short entries enough =
    let sizes = sizes_with claims root len found once e none in
    let pages = sizes.pages in
    let nodes = sizes.nodes in
    record {
      lengths = h.lengths;
      rooms = All-map IsShortRoom (roomed root len) claims
          (All-weaker IsShortRoom (λ claim. IsShortRoom (roomed root len claim)) (λ claim room. short_room root len claim short room) claims h.rooms);
      pages = omega (arith, pages, enough);
      nodes = omega (arith, nodes, entries);
    }
  where
    short_room : (root : Root) (len : ℕ) (claim : ClaimEntry) → len ≤ BYTES_LIMIT → IsShortRoom claim → IsShortRoom (roomed root len claim)
    short_room root len claim short room =
        elim (cases_Bool (root_eq claim.root root)) [ inl same ↦ rw same short | inr other ↦ rw other room ]

-- a claimed blob lands
pub room_landed : (g : Geometry) (stock : List Stored) (claims : List ClaimEntry) (root : Root) (len : ℕ) (found : ClaimEntry) → AreApart claims → IsInRoom g stock claims → claim_of claims root ≡ Some found → found.len ≡ Some len
    → IsInRoom g (stock ++ record { root = root; len = len } ∷ []) (without_claim claims root)
room_landed g stock claims root len found once h e is =
    let keeps : ClaimEntry → Bool = λ claim. not (root_eq claim.root root) in
    let blob : Stored = record { root = root; len = len } in
    let sizes = sizes_without claims root len found once e is in
    let claimed_pages = sizes.pages in
    let claimed_nodes = sizes.nodes in
    let stored_pages = stock_pages-push stock blob in
    let stored_nodes = length-append stock (blob ∷ []) in
    let pages = h.pages in
    let nodes = h.nodes in
    let fits : IfSome found.len (λ n. n ≤ BYTES_LIMIT) = found_all (is_for root) IsShortRoom claims found e h.rooms in
    let short : len ≤ BYTES_LIMIT = rw is at fits in
    record {
      lengths = All-push (λ (b : Stored). b.len ≤ BYTES_LIMIT) stock blob h.lengths short;
      rooms = All-filter keeps IsShortRoom claims h.rooms;
      pages = omega (arith, claimed_pages, stored_pages, pages);
      nodes = omega (arith, claimed_nodes, stored_nodes, nodes);
    }

-- blobs are removed
pub room_removed : (g : Geometry) (stock : List Stored) (claims : List ClaimEntry) (roots : List Root) → IsInRoom g stock claims → IsInRoom g (without_blobs stock roots) claims
room_removed g stock claims roots h =
    let keeps : Stored → Bool = λ blob. not (has_root roots blob.root) in
    let pages = h.pages in
    let nodes = h.nodes in
    record {
      lengths = All-filter keeps (λ (blob : Stored). blob.len ≤ BYTES_LIMIT) stock h.lengths;
      rooms = h.rooms;
      pages = let less = stock_pages-filter keeps stock in omega (arith, less, pages);
      nodes = let less = length_filter-le keeps stock in omega (arith, less, nodes);
    }
