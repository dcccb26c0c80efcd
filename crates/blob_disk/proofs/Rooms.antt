-- One draft more.
use Rattle.std.proofs.Common.{inl, inr, refl, false, Some, ◌≡◌, ◌≢◌, ℕ, ◌<◌, Bool, List, [], ◌∷◌, ◌++◌, length, Vec, All, sym, ap, subst, ◌∙◌, ◌+◌, arith, append_assoc, length-append}
use Rattle.std.specs.declared.alloc.Global.{Global}
use Rattle.node_table.specs.declared.entry.Entry.{Entry}
use Rattle.pkg_names.specs.declared.root.Root.{Root}
use Rattle.pkg_names.specs.Root.{root_eq}
use Rattle.pkg_names.proofs.Roots.{root_eq-true, root_eq-refl}
use Rattle.std.proofs.lemmas.Bool.{cases_Bool}
use Rattle.std.proofs.lemmas.List.{get_or-append-add}
use Rattle.std.proofs.lemmas.List.Elements.{All-head, All-tail}
use Rattle.node_table.specs.Entries.{IsEntry, AreSound, MayStandTogether, entry_of}
use Rattle.node_table.specs.Table.{TableView}
use Rattle.page_pool.specs.Flags.{IsFree}
use Rattle.blob_disk.specs.Pooled.{IsPooled}
use Rattle.blob_disk.specs.Drafts.{AreBlobs}
use Rattle.blob_disk.proofs.SoundLists.{sound_push, fresh_apart}

pub with_draft : (t : TableView) (drafts now : List Entry) (entry : Entry) (flags after : List Bool) (spare : Vec ℕ Global) (broken : Bool) → AreBlobs t drafts flags spare broken → length (t.entries ++ drafts) < t.geometry.blobs → IsEntry t.geometry.data_pages entry → All (IsFree flags) entry.pages → All (λ (other : Entry). other.root ≢ entry.root) (t.entries ++ drafts) → IsPooled ((t.entries ++ drafts) ++ entry ∷ []) after t.geometry.data_pages → now ≡ drafts ++ entry ∷ [] → AreBlobs t now after spare broken
with_draft t drafts now entry flags after spare broken are room is free fresh pooled now_is =
    let all : List Entry = t.entries ++ drafts in
    let together : All (λ (other : Entry). MayStandTogether other entry) all = λ k d below.
    record { roots = fresh k d below; chains = fresh_apart flags all entry.pages (λ page chained. (are.pool.taken page).1 chained) free k d below } in
    let same : all ++ entry ∷ [] ≡ t.entries ++ now = append_assoc t.entries drafts (entry ∷ []) ∙ ap (λ (l : List Entry). t.entries ++ l) (sym now_is) in
    record {
      limits = are.limits;
      sound = subst (λ (l : List Entry). AreSound t.geometry l) same (sound_push t.geometry all entry are.sound room is together);
      pool = subst (λ (l : List Entry). IsPooled l after t.geometry.data_pages) same pooled;
      noted = are.noted;
      flag = are.flag;
    }

-- the root of an entry is another
other_root : (root : Root) (entry : Entry) → entry.root ≢ root → root_eq root entry.root ≡ false
other_root root entry other =
    elim (cases_Bool (root_eq root entry.root)) [
      | inl same ↦ absurd (other (sym (root_eq-true root entry.root same)))
      | inr not ↦ not
    ]

found_last : (entries : List Entry) (entry : Entry) → All (λ (other : Entry). other.root ≢ entry.root) entries → entry_of (entries ++ entry ∷ []) entry.root ≡ Some entry
found_last [] entry others = rw (root_eq-refl entry.root) refl
found_last (first ∷ entries) entry others =
    let here : root_eq entry.root first.root ≡ false = other_root entry.root first (All-head (λ (other : Entry). other.root ≢ entry.root) first entries others) in
    rw here (found_last entries entry (All-tail (λ (other : Entry). other.root ≢ entry.root) first entries others))

-- the last draft is found where no other entry has its root
pub last_found : (es ds : List Entry) (entry : Entry) → All (λ (other : Entry). other.root ≢ entry.root) (es ++ ds) → entry_of (ds ++ entry ∷ []) entry.root ≡ Some entry
last_found es ds entry others =
    found_last ds entry (λ k d below. subst (λ (other : Entry). other.root ≢ entry.root) (get_or-append-add es ds k d) (others (length es + k) d (omega (arith, length-append es ds, below))))
