-- What is kept once one file more was taken.
use Rattle.std.proofs.Common.{◌≡◌, ℕ, ◌<◌, ◌≤◌, Bool, true, false, not, cond, List, [], ◌∷◌, ◌++◌, length, map, Option, Some, None, refl, sym, ap, subst, ◌∙◌, arith}
use Rattle.std.specs.Prelude.{nat_lt}
use Rattle.std.specs.List.{All}
use Rattle.std.specs.Str.{bytes_eq}
use Rattle.std.specs.Ordering.{nat_cmp}
use Rattle.std.specs.Cmp.Lexicographic.{slice_cmp}
use Rattle.std.specs.declared.cmp.Ordering.TheVariants.{Less}
use Rattle.std.proofs.lemmas.Bool.{ltb-true}
use Rattle.std.proofs.lemmas.List.{append-nil, length_push, length-map, map-append}
use Rattle.std.proofs.lemmas.List.Elements.{filter-append, All-filter, All-head, All-tail}
use Rattle.std.proofs.lemmas.Map.Text.{is_eq-slice_cmp}
use Rattle.far_archive.specs.declared.write.FarEntry.{FarEntry}
use Rattle.meta_contents.specs.Contents.{Pair, is_in_meta, is_among, paths}
use Rattle.pkg_merkle.specs.declared.hasher.TheConstants.{BYTES_LIMIT}
use Rattle.pkg_merkle.specs.Merkle.{merkle_root}
use Rattle.repo_publish.specs.declared.publishing.TheConstants.{FILE_LIMIT}
use Rattle.repo_publish.specs.Refusals.{is_inner, is_outer, inner_of, outer_of, file_refusal}
use Rattle.repo_publish.specs.Steps.{IsTaken}
use Rattle.repo_publish.proofs.Fine.{last_pushed, all_less, unrefused, fine_more}

abbrev pair_of : FarEntry → Pair
pair_of file = (file.name, merkle_root file.bytes)

-- the parts of the files with one more
inner_more : (done : List FarEntry) (file : FarEntry) → is_in_meta file.name ≡ true → inner_of (done ++ file ∷ []) ≡ inner_of done ++ file ∷ []
inner_more done file is = filter-append is_inner done (file ∷ []) ∙ ap (λ (b : Bool). inner_of done ++ cond b (file ∷ []) []) is

inner_same : (done : List FarEntry) (file : FarEntry) → is_in_meta file.name ≡ false → inner_of (done ++ file ∷ []) ≡ inner_of done
inner_same done file is =
    filter-append is_inner done (file ∷ []) ∙ ap (λ (b : Bool). inner_of done ++ cond b (file ∷ []) []) is ∙ append-nil (inner_of done)

outer_more : (done : List FarEntry) (file : FarEntry) → is_in_meta file.name ≡ false → outer_of (done ++ file ∷ []) ≡ outer_of done ++ file ∷ []
outer_more done file is = filter-append is_outer done (file ∷ []) ∙ ap (λ (b : Bool). outer_of done ++ cond (not b) (file ∷ []) []) is

outer_same : (done : List FarEntry) (file : FarEntry) → is_in_meta file.name ≡ true → outer_of (done ++ file ∷ []) ≡ outer_of done
outer_same done file is =
    filter-append is_outer done (file ∷ []) ∙ ap (λ (b : Bool). outer_of done ++ cond (not b) (file ∷ []) []) is ∙ append-nil (outer_of done)

-- none of these names is one that all are less than
no_name : (files : List FarEntry) (name : List ℕ) → All (λ (file : FarEntry). slice_cmp nat_cmp file.name name ≡ Less) files → is_among name (paths (map pair_of files)) ≡ false
no_name [] name less = refl
no_name (file ∷ files) name less =
    let P = λ (f : FarEntry). slice_cmp nat_cmp f.name name ≡ Less in
    let here : bytes_eq file.name name ≡ false = sym (is_eq-slice_cmp file.name name) ∙ ap Rattle.std.specs.Ordering.is_eq (All-head P file files less) in
    rw here (no_name files name (All-tail P file files less))

module _ (done files : List FarEntry) (pairs : List Pair) (name : Option (List ℕ)) (file : FarEntry) (taken : IsTaken done files pairs name) (none : file_refusal done file ≡ None) where
  few : (b : Bool) → is_in_meta file.name ≡ b → cond b (nat_lt (length (inner_of done)) FILE_LIMIT) (nat_lt (length (outer_of done)) FILE_LIMIT) ≡ true
  few b is = ap (λ (c : Bool). cond c (nat_lt (length (inner_of done)) FILE_LIMIT) (nat_lt (length (outer_of done)) FILE_LIMIT)) (sym is) ∙ (unrefused done file none).room

  room_inner : is_in_meta file.name ≡ true → length files < FILE_LIMIT
  room_inner is = subst (λ (l : List FarEntry). length l < FILE_LIMIT) (sym taken.inner) (ltb-true (length (inner_of done)) FILE_LIMIT (few true is))

  pub room_outer : is_in_meta file.name ≡ false → length pairs < FILE_LIMIT
  room_outer is =
      let lt = ltb-true (length (outer_of done)) FILE_LIMIT (few false is) in
      omega (arith, lt, ap length taken.contents ∙ length-map {B = Pair} (outer_of done) pair_of)

  pub fresh_outer : is_among file.name (paths pairs) ≡ false
  fresh_outer =
      ap (λ (l : List Pair). is_among file.name (paths l)) taken.contents
      ∙ no_name (outer_of done) file.name (All-filter is_outer (λ (f : FarEntry). slice_cmp nat_cmp f.name file.name ≡ Less) done
      (all_less done file.name taken.fine.ascend (unrefused done file none).behind))

  pub small_file : length file.bytes ≤ BYTES_LIMIT
  small_file = (unrefused done file none).small

  pub taken_inner : is_in_meta file.name ≡ true → IsTaken (done ++ file ∷ []) (files ++ file ∷ []) pairs (Some file.name)
  taken_inner is =
      let room = room_inner is in
      record {
        fine = fine_more done file taken.fine none;
        inner = ap (λ (l : List FarEntry). l ++ file ∷ []) taken.inner ∙ sym (inner_more done file is);
        contents = taken.contents ∙ ap (map pair_of) (sym (outer_same done file is));
        last = sym (last_pushed done file);
        few_inner = omega (arith, room, length_push files file);
        few_outer = taken.few_outer;
      }

  pub taken_outer : is_in_meta file.name ≡ false → IsTaken (done ++ file ∷ []) files (pairs ++ pair_of file ∷ []) (Some file.name)
  taken_outer is =
      let room = room_outer is in
      record {
        fine = fine_more done file taken.fine none;
        inner = taken.inner ∙ sym (inner_same done file is);
        contents = ap (λ (l : List Pair). l ++ pair_of file ∷ []) taken.contents ∙ sym (map-append pair_of (outer_of done) (file ∷ [])) ∙ ap (map pair_of) (sym (outer_more done file is));
        last = sym (last_pushed done file);
        few_inner = taken.few_inner;
        few_outer = omega (arith, room, length_push pairs (pair_of file));
      }
