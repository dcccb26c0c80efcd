use Rattle.std.proofs.Common.{inl, inr, ◌≡◌, ◌≤◌, ◌⊎◌, ℕ, List, [], length, Bool, true, false, Option, Some, None, Result, Ok, Err, sym}
use Rattle.std.specs.Prelude.{◌↔◌, codes, option_and_then, if◌then◌else◌}
use Rattle.serde_json.specs.Data.{Data, Items}
use Rattle.serde_json.specs.Find.{get, as_array}
use Rattle.pkg_names.specs.declared.pinned.Pinned.{Pinned}
use Rattle.system_lists.specs.declared.document.DocumentFault.{DocumentFault}
use Rattle.system_lists.specs.declared.list.ListFault.{ListFault}
use Rattle.system_lists.specs.declared.list.ListFault.TheVariants as list
use Rattle.system_lists.specs.declared.fault.CachedFault.{CachedFault}
use Rattle.system_lists.specs.declared.fault.ManifestFault.{ManifestFault}
use Rattle.system_lists.specs.declared.fault.ManifestFault.TheVariants as faults
use Rattle.system_lists.specs.Cached.{pinned_entry, as_cached, content_of, cached_document, cached_of}
use Rattle.system_lists.specs.Document.{document_in, entries}
use Rattle.system_lists.specs.Entries.{listed, IsMadeOf}
use Rattle.system_lists.specs.Lists.{has_path_of, is_among}
use Rattle.system_lists.specs.Judging.{system_path}
use Rattle.update_manifest.specs.Packages.{packages_of, packages_in}
use Rattle.system_updater.proofs.manifests.judge_packages.Goals as goal

of_if : (b : Bool) (all packages : List Pinned) → ◌≡◌ {A = Result (List Pinned) ManifestFault} (if b then Ok all else Err faults.NoSystem) (Ok packages) → all ≡ packages
of_if true all packages is = cc is
of_if false all packages is = absurd (cc is)

of_list : (found : Result (List Pinned) CachedFault) (packages : List Pinned) → packages_of found ≡ Ok packages → found ≡ Ok packages
of_list (Ok all) packages is = let same : all ≡ packages = of_if (is_among system_path all) all packages is in cc
of_list (Err fault) packages is = absurd (cc is)

of_listed : (found : Result (List Pinned) ListFault) (packages : List Pinned) → as_cached found ≡ Ok packages → found ≡ Ok packages
of_listed (Ok all) packages is = cc is
of_listed (Err (list.Bad n)) packages is = absurd (cc is)
of_listed (Err (list.Repeat n)) packages is = absurd (cc is)
of_listed (Err list.NoMemory) packages is = absurd (cc is)

-- what was read was listed
of_content : (items : Option Items) (packages : List Pinned) → content_of items ≡ Ok packages → (all : List (Option Pinned)) × (listed has_path_of [] all ≡ Ok packages)
of_content None packages is = absurd (cc is)
of_content (Some items) packages is = (entries pinned_entry items, of_listed (listed has_path_of [] (entries pinned_entry items)) packages is)

of_document : (found : Result Data DocumentFault) (packages : List Pinned) → cached_document found ≡ Ok packages → (all : List (Option Pinned)) × (listed has_path_of [] all ≡ Ok packages)
of_document (Ok value) packages is = of_content (option_and_then as_array (get (codes "content") value)) packages is
of_document (Err fault) packages is = absurd (cc is)

few_read : (text : List ℕ) (packages : List Pinned) → ((all : List (Option Pinned)) (read : List Pinned) → (listed has_path_of [] all ≡ Ok read) ↔ IsMadeOf has_path_of all read)
    → (Ok packages ≡ packages_in text) ⊎ (◌≡◌ {A = Result (List Pinned) ManifestFault} (Ok packages) (Err faults.NoMemory)) → length packages ≤ 4096
few_read text packages law (inl is) =
    let from = of_document (document_in text) packages (of_list (cached_of text) packages (sym is)) in ((law from.0 packages).0 from.1).few
few_read text packages law (inr is) = absurd (cc is)

pub returns-in-Ok-clause-few : goal.returns-in-Ok-clause-few
returns-in-Ok-clause-few c = few_read c.as_slice.result.now c.in-Ok.packages c.lists_are_made_of_entries.ensures.made c.in-Ok.ensures.exact
