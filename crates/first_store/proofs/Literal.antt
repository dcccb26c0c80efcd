-- The bytes of the system package, without a root that has to be computed.
use Rattle.std.proofs.Common.{◌≡◌, ℕ, List, [], ◌∷◌, ◌++◌, refl, ap, ◌∙◌}
use Rattle.std.specs.Prelude.{codes}
use Rattle.sha2.specs.Sha256.{digest_bytes, first_words, rounds}
use Rattle.hex.specs.Hex.{encode_with}
use Rattle.pkg_names.specs.declared.root.Root.{Root}
use Rattle.pkg_merkle.specs.Merkle.{merkle_root, first_inputs, block_input, head}
use Rattle.far_archive.specs.Written.{written}
use Rattle.meta_contents.specs.Contents.{Pair, text_of}
use Rattle.package_book.specs.Book.{Files, contents_name, package_name}
use Rattle.system_lists.specs.Judging.{static_name}
use Rattle.first_store.specs.Start.{outer_files, inner_files, system_meta}
use Rattle.first_store.proofs.Quick.{quick}
use Rattle.first_store.proofs.QuickRoot.{quick_above, root_is}

-- the root of no bytes
abbrev pub empty_root : Root
empty_root = record { 0 = 0x15 ∷ 0xec ∷ 0x7b ∷ 0xf0 ∷ 0xb5 ∷ 0x07 ∷ 0x32 ∷ 0xb4 ∷ 0x9f ∷ 0x82 ∷ 0x28 ∷ 0xe0 ∷ 0x7d ∷ 0x24 ∷ 0x36 ∷ 0x53 ∷ 0x38 ∷ 0xf9 ∷ 0xe3 ∷ 0xab ∷ 0x99 ∷ 0x4b ∷ 0x00 ∷ 0xaf ∷ 0x08 ∷ 0xe5 ∷ 0xa3 ∷ 0xbf ∷ 0xfe ∷ 0x55 ∷ 0xfd ∷ 0x8b ∷ [] }

abbrev pub contents_text : List ℕ
contents_text = codes "data/static_packages=15ec7bf0b50732b49f8228e07d24365338f9e3ab994b00af08e5a3bffe55fd8b" ++ 10 ∷ []

abbrev pub package_text : List ℕ
package_text = codes "{\"name\":\"system_image\",\"version\":\"0\"}"

abbrev pub files : Files
files = (contents_name, contents_text) ∷ (package_name, package_text) ∷ []

abbrev pub outer : List Pair
outer = (static_name, empty_root) ∷ []

unfoldable pub bytes : List ℕ
bytes = written files

pub empty_is : merkle_root [] ≡ empty_root
unfolding quick quick_above first_inputs block_input head digest_bytes first_words rounds
empty_is = root_is [] ∙ refl

pub outer_is : outer_files ≡ outer
outer_is = ap (λ (root : Root). (static_name, root) ∷ []) empty_is

pub files_are : inner_files ≡ files
unfolding encode_with
files_are = ap (λ (list : List Pair). (contents_name, text_of list) ∷ (package_name, package_text) ∷ []) outer_is

pub meta_is : system_meta ≡ bytes
unfolding system_meta bytes
meta_is = ap written files_are
