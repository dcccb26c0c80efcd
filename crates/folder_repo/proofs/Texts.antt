-- What is read of a listing's file says what its text says.
use Rattle.std.proofs.Common.{◌≡◌, ℕ, ◌+◌, ◌↔◌, ◌⊎◌, Bool, true, false, cond, List, [], ◌++◌, length, take, refl, sym, ◌∙◌, ap, subst, arith, inl, inr, Option, Some, None, Result, Ok, Err, IfSome}
use Rattle.std.specs.Option.{option_map}
use Rattle.std.specs.Prelude.{nat_le}
use Rattle.std.proofs.lemmas.Bool.{leb-true, leb-false, lt-leb}
use Rattle.std.proofs.lemmas.List.{take_all, length-take-le}
use Rattle.pkg_names.specs.declared.pinned.Pinned.{Pinned}
use Rattle.system_lists.specs.Static.{static_of}
use Rattle.system_lists.specs.declared.list.TheConstants.{LIST_LIMIT}
use Rattle.folder_repo.specs.Folder.{listing_name, Opens, SaysListing, ReadsListing}
use Rattle.folder_repo.specs.Listing.{judged, listing_in}
use Rattle.folder_repo.specs.declared.listing.DirFault.{DirFault}
use Rattle.folder_repo.specs.declared.listing.DirFault.TheVariants.{Unreadable, BadListing, NoMemory}

abbrev within : ℕ → List ℕ → Result (List Pinned) DirFault
within limit text = cond (nat_le (length text) limit) (judged (static_of text)) (Err (BadListing 0))

-- a text says the same when it is cut one past the limit
cut_same : (limit : ℕ) (all : List ℕ) → within limit (take (limit + 1) all) ≡ within limit all
cut_same limit all = either (nat_le (length all) limit) refl where
  either : (short : Bool) → nat_le (length all) limit ≡ short → within limit (take (limit + 1) all) ≡ within limit all
  either true is =
      let lt = leb-true (length all) limit is in
      ap (within limit) (take_all (limit + 1) all (omega (arith, lt)))
  either false is =
      let gt = leb-false (length all) limit is in
      let long = length-take-le (limit + 1) all (omega (arith, gt)) in
      let cut : nat_le (length (take (limit + 1) all)) limit ≡ false = lt-leb (length (take (limit + 1) all)) limit (omega (arith, long)) in
      ap (λ (b : Bool). cond b (judged (static_of (take (limit + 1) all))) (Err (BadListing 0))) cut
      ∙ sym (ap (λ (b : Bool). cond b (judged (static_of all)) (Err (BadListing 0))) is)

says : (text : List ℕ) (found : Result (List Pinned) DirFault) → found ≡ listing_in text → SaysListing (Some text) found
says text (Ok list) e = sym e
says text (Err Unreadable) e = tt
says text (Err (BadListing line)) e = sym e
says text (Err NoMemory) e = tt

nothing : (holds : Option (List ℕ)) (found : Result (List Pinned) DirFault) → found ≡ Err NoMemory → SaysListing holds found
nothing holds found e = subst (λ (r : Result (List Pinned) DirFault). SaysListing holds r) (sym e) tt

-- the listing of what was read, up to one byte more than the limit
pub read_says : (remaining : Option (List ℕ)) (text : List ℕ) (found : Result (List Pinned) DirFault) → IfSome (option_map (take (LIST_LIMIT + 1)) remaining) (λ xs. text ≡ [] ++ xs) → ((found ≡ listing_in text) ⊎ (found ≡ Err NoMemory)) → IfSome remaining (λ all. SaysListing (Some all) found)
read_says None text found cut is = tt
read_says (Some all) text found cut (inl is) = says all found (is ∙ ap (within LIST_LIMIT) cut ∙ cut_same LIST_LIMIT all)
read_says (Some all) text found cut (inr is) = nothing (Some all) found is

-- a fault that isn't of the text
pub no_text : (holds : Option (List ℕ)) (fault : DirFault) (P : Type 0) → ((fault ≡ NoMemory) ↔ P) → ((fault ≡ Unreadable) ↔ (P → ⊥)) → SaysListing holds (Err fault)
no_text holds Unreadable P memory other = tt
no_text holds NoMemory P memory other = tt
no_text holds (BadListing line) P memory other =
    let bad : BadListing line ≡ Unreadable = other.1 (λ p. (let short : BadListing line ≡ NoMemory = memory.1 p in cc)) in
    absurd (cc bad)

pub no_text_read : (remaining : Option (List ℕ)) (fault : DirFault) (P : Type 0) → ((fault ≡ NoMemory) ↔ P) → ((fault ≡ Unreadable) ↔ (P → ⊥)) → IfSome remaining (λ all. SaysListing (Some all) (Err fault))
no_text_read None fault P memory other = tt
no_text_read (Some all) fault P memory other = no_text (Some all) fault P memory other

-- of a folder
pub none_read : (files : Option (List ℕ → Option (List ℕ))) (folder : List ℕ) (fault : DirFault) (P : Type 0) → ((fault ≡ NoMemory) ↔ P) → ((fault ≡ Unreadable) ↔ (P → ⊥)) → ReadsListing files folder (Err fault)
none_read None folder fault P memory other = tt
none_read (Some at) folder fault P memory other = no_text (at (listing_name folder)) fault P memory other

pub short_read : (files : Option (List ℕ → Option (List ℕ))) (folder : List ℕ) → ReadsListing files folder (Err NoMemory)
short_read None folder = tt
short_read (Some at) folder = tt

pub file_read : (files : Option (List ℕ → Option (List ℕ))) (name folder : List ℕ) (remaining : Option (List ℕ)) (len : ℕ) (found : Result (List Pinned) DirFault) → name ≡ listing_name folder → Opens files name remaining len → IfSome remaining (λ all. SaysListing (Some all) found) → ReadsListing files folder found
file_read None name folder remaining len found is opened read = tt
file_read (Some at) name folder remaining len found is opened read =
    let all : SaysListing (Some opened.bytes) found = subst (λ (o : Option (List ℕ)). IfSome o (λ text. SaysListing (Some text) found)) opened.whole read in
    subst (λ (n : List ℕ). SaysListing (at n) found) is (subst (λ (o : Option (List ℕ)). SaysListing o found) (sym opened.there) all)
