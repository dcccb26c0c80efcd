-- The bytes on their way: what a piece makes of what was put, and when that is the whole file.
use Rattle.std.proofs.Common.{◌≡◌, ℕ, ◌+◌, ◌-◌, ◌<◌, ◌≤◌, List, [], ◌++◌, length, take, Option, Some, None, IfSome, IsSomeAnd, refl, sym, ap, subst, ◌∙◌, length-append, arith}
use Rattle.std.specs.Option.{option_map}
use Rattle.pkg_names.specs.declared.root.Root.{Root}
use Rattle.repo_source.specs.declared.file.RepoFile.{RepoFile}
use Rattle.repo_source.specs.declared.repo.FetchReply.TheVariants as fetched
use Rattle.repo_source.specs.declared.repo.NextReply.{NextReply}
use Rattle.repo_source.specs.declared.repo.NextReply.TheVariants as nexts
use Rattle.repo_source.specs.Repo.{Reading, file_under, Fetches, Continues, Gives, advanced}
use Rattle.repo_source.proofs.Pieces.{take-piece, take-end}
use Rattle.store_model.specs.Desk.{Kept, Appends, OfKept}
use Rattle.store_model.specs.Desk.Keeping.{Blob}
use Rattle.resolver.specs.Fetched.{HasFile}
use Rattle.resolver.specs.Steps.{Fills, IsFilled}

-- what is so where something is told
pub if_told : {X : Type 0} (o : Option X) (P : X → Type 0) (all : X) → o ≡ Some all → IfSome o P → P all
if_told {X} o P all told is = let Q : Option X → Type 0 = λ o. IfSome o P in subst Q told is

-- ---- what is declared

-- there is a file, and it has the declared length
record IsDeclared (answer : Option RepoFile) (len : ℕ) : Type 0 where
  file : RepoFile
  found : answer ≡ Some file
  declared : file.len ≡ len

declared_file : (found : Option RepoFile) (len : ℕ) → option_map (λ (file : RepoFile). file.len) found ≡ Some len → IsDeclared found len
declared_file None len is = absurd (let h : None ≡ Some len = is in cc)
declared_file (Some file) len is = record { file = file; found = refl; declared = (let h : Some file.len ≡ Some len = is in cc) }

has_found : (all : List RepoFile) (root : Root) (file : RepoFile) (P : RepoFile → Type 0) → file_under all root ≡ Some file → P file → HasFile all root P
has_found all root file P found is = subst (λ (o : Option RepoFile). IsSomeAnd o P) (sym found) is

pub has_declared : (files : Option (List RepoFile)) (root : Root) (len : ℕ) → IfSome files (λ all. Fetches all root (fetched.Found len)) → (all : List RepoFile) → files ≡ Some all
    → HasFile all root (λ (file : RepoFile). file.len ≡ len)
has_declared files root len found all told =
    let d = declared_file (file_under all root) len (if_told files (λ all. Fetches all root (fetched.Found len)) all told found) in
    has_found all root d.file (λ (file : RepoFile). file.len ≡ len) d.found d.declared

-- ---- the first piece is yet to come

pub fills_first : (kept : Kept) (files : Option (List RepoFile)) (root : Root) (place : Reading) (len : ℕ) → kept Blob [] → IfSome files (λ all. Fetches all root (fetched.Found len))
    → IfSome files (λ _. place ≡ record { root = root; given = 0 }) → Fills kept files root place len len
fills_first kept files root place len empty found begun = record {
  bytes = [];
  put = empty;
  size = omega arith;
  front = λ all told.
      let d = declared_file (file_under all root) len (if_told files (λ all. Fetches all root (fetched.Found len)) all told found) in record {
        file = d.file;
        found = d.found;
        declared = d.declared;
        reads = if_told files (λ _. place ≡ record { root = root; given = 0 }) all told begun;
        front = refl;
      };
}

-- ---- a piece

module _ (before : Kept) (files : Option (List RepoFile)) (root : Root) (place : Reading) (len left : ℕ) (out : List ℕ) (f : Fills before files root place len left) where
  -- what the answer says of the file
  gives : (reply : NextReply) (all : List RepoFile) (told : files ≡ Some all) → IfSome files (λ all. Continues all place out reply) → Gives (f.front all told).file.bytes (length f.bytes) out reply
  gives reply all told is =
      let fr = f.front all told in
      let at : IfSome (file_under all root) (λ file. Gives file.bytes (length f.bytes) out reply) = subst (λ (p : Reading). Continues all p out reply) fr.reads (if_told files (λ all. Continues all place out reply) all told is) in
      subst (λ (o : Option RepoFile). IfSome o (λ file. Gives file.bytes (length f.bytes) out reply)) fr.found at

  module _ (count : ℕ) (piece : List ℕ) (is_piece : piece ≡ take count out) (size : length piece ≡ count) (given : IfSome files (λ all. Continues all place out (nexts.Given count))) where
    pub fills_more : (after : Kept) (place_then : Reading) → IfSome files (λ _. place_then ≡ advanced place (nexts.Given count)) → Appends before after Blob piece
        → OfKept before Blob (λ bytes. length bytes + length piece ≤ len) → Fills after files root place_then len (left - count)
    fills_more after place_then moved appends fit =
        let fits : length f.bytes + length piece ≤ len = fit f.bytes f.put in
        let sum : length (f.bytes ++ piece) ≡ length f.bytes + count = length-append f.bytes piece ∙ ap (λ (n : ℕ). length f.bytes + n) size in record {
          bytes = f.bytes ++ piece;
          put = appends f.bytes f.put;
          size = sizes (length f.bytes) (length piece) (length (f.bytes ++ piece)) f.size size sum fits;
          front = λ all told.
              let fr = f.front all told in record {
                file = fr.file;
                found = fr.found;
                declared = fr.declared;
                reads = if_told files (λ _. place_then ≡ advanced place (nexts.Given count)) all told moved ∙ ap (λ (p : Reading). advanced p (nexts.Given count)) fr.reads ∙
                    ap (λ (n : ℕ). let p : Reading = record { root = root; given = n } in p) (sym sum);
                front = ap (λ (n : ℕ). take n fr.file.bytes) sum ∙ take-piece fr.file.bytes out (length f.bytes) count (gives (nexts.Given count) all told given) ∙
                    ap (λ (b : List ℕ). b ++ take count out) fr.front ∙ ap (λ (b : List ℕ). f.bytes ++ b) (sym is_piece);
              };
        } where
          sizes : (a b c : ℕ) → a + left ≡ len → b ≡ count → c ≡ a + count → a + b ≤ len → c + (left - count) ≡ len
          sizes a b c h k l m = omega arith

    -- there is room for the piece
    pub fits_left : OfKept before Blob (λ bytes. length bytes + length piece ≤ len) → count ≤ left
    fits_left fit = fits (length f.bytes) (length piece) f.size size (fit f.bytes f.put) where
      fits : (a b : ℕ) → a + left ≡ len → b ≡ count → a + b ≤ len → count ≤ left
      fits a b h k l = omega arith

    pub too_long : OfKept before Blob (λ bytes. len < length bytes + length piece) → (all : List RepoFile) → files ≡ Some all → HasFile all root (λ (file : RepoFile). file.len < length file.bytes)
    too_long over all told =
        let fr = f.front all told in
        has_found all root fr.file (λ (file : RepoFile). file.len < length file.bytes) fr.found
        (longer (length f.bytes) (length piece) fr.file.len (length fr.file.bytes) size fr.declared (over f.bytes f.put) (gives (nexts.Given count) all told given).within) where
          longer : (a b l n : ℕ) → b ≡ count → l ≡ len → len < a + b → a + count ≤ n → l < n
          longer a b l n h k m w = omega arith

  -- ---- the end

  pub filled : IfSome files (λ all. Continues all place out nexts.End) → IsFilled before files root
  filled end = record {
    bytes = f.bytes;
    put = f.put;
    whole = λ all told.
        let fr = f.front all told in
        has_found all root fr.file (λ (file : RepoFile). file.bytes ≡ f.bytes) fr.found
        (sym (take-end fr.file.bytes (length f.bytes) (gives nexts.End all told end)) ∙ fr.front);
  }
