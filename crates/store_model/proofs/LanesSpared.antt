-- What a collection spares: the blobs of packages that arrive, are open, are retained, or can be opened.
use Rattle.std.proofs.Common.{◌≡◌, ℕ, Bool, true, false, cond, ◌||◌, List, [], ◌∷◌, map, Option, Some, None, inl, inr, refl, subst, ◌∙◌}
use Rattle.std.specs.Prelude.{find, Contains}
use Rattle.std.specs.Option.{option_map}
use Rattle.std.proofs.lemmas.Bool.{cases_Bool, or_left, or_right}
use Rattle.std.proofs.lemmas.List.Folds.{list_any_at}
use Rattle.pkg_names.specs.NameAndVariant.{NameAndVariant, path_eq}
use Rattle.pkg_names.specs.declared.root.Root.{Root}
use Rattle.pkg_names.specs.declared.pinned.Pinned.{Pinned}
use Rattle.pkg_names.specs.Root.{root_eq}
use Rattle.pkg_names.proofs.Roots.{root_eq-same}
use Rattle.open_tracker.specs.declared.dirs.DirEntry.{DirEntry}
use Rattle.open_tracker.specs.Directories.{is_of, root_of}
use Rattle.package_indexes.specs.Indexes.{root_at, or_else, roots_of}
use Rattle.package_book.specs.Names.{names}
use Rattle.package_book.proofs.NameLaws.{unprotected_so}
use Rattle.store_model.specs.declared.events.Event.{Event}
use Rattle.store_model.specs.declared.events.Act.{Act}
use Rattle.store_model.specs.declared.events.Act.TheVariants.{Collect}
use Rattle.store_model.specs.State.{State, Arrival, arrival_of, stock_roots, has_root, protected_in, is_committed}
use Rattle.store_model.specs.Packages.{rest, is_complete}
use Rattle.store_model.specs.Acts.Collect.{collect_answer}
use Rattle.store_model.specs.Acts.OpenPath.{root_to_open}
use Rattle.store_model.specs.Step.{IsDue, IsActDue, IsActDueIf, MayWrite}
use Rattle.store_model.proofs.LanesLists.{any_made}
use Rattle.store_model.proofs.LanesMarks.{names_it}
use Rattle.store_model.proofs.LanesQuiet.{arriving_protected}
use Rattle.store_model.proofs.LanesDue.{parts}

-- ---- what is protected

inside : (s : State) (top : Root) → (((((has_root (roots_of s.base) top || has_root (roots_of s.cached) top) || has_root (roots_of s.active) top) || has_root s.retained top) || has_root (map (λ (a : Arrival). a.root) s.arriving) top) || has_root (map (λ (d : DirEntry). d.root) s.dirs) top) ≡ true → has_root (protected_in s) top ≡ true
inside s top one = parts top s.base s.cached s.active s.retained (map (λ (a : Arrival). a.root) s.arriving) (map (λ (d : DirEntry). d.root) s.dirs) ∙ one

dir_protected : (s : State) (dir lane : ℕ) (top : Root) (found : Option DirEntry) → find (λ (d : DirEntry). is_of d dir lane) s.dirs ≡ found → option_map (λ (d : DirEntry). d.root) found ≡ Some top → has_root (protected_in s) top ≡ true
dir_protected s dir lane top None is root = absurd (cc root)
dir_protected s dir lane top (Some d) is root =
    let both : Some d.root ≡ Some top = root in
    let same : d.root ≡ top = cc both in
    inside s top (or_right _ _ (any_made (λ (x : DirEntry). is_of x dir lane) (λ other. root_eq other top) (λ (x : DirEntry). x.root) s.dirs d is (root_eq-same d.root top same)))

retained_protected : (s : State) (top : Root) → Contains s.retained top → has_root (protected_in s) top ≡ true
retained_protected s top has =
    inside s top (or_left _ _ (or_left _ _ (or_right _ _ (list_any_at (λ other. root_eq other top) s.retained has.0 top has.1 (root_eq-same _ _ has.2)))))

at_path : (pairs : List Pinned) (path : NameAndVariant) (top : Root) → root_at pairs path ≡ Some top → has_root (roots_of pairs) top ≡ true
at_path [] path top is = absurd (cc is)
at_path (pair ∷ pairs) path top is =
    elim (cases_Bool (path_eq pair.path path)) [
      | inl here ↦
          let both : Some pair.root ≡ Some top = rw here at is in
          let same : pair.root ≡ top = cc both in
          or_left _ _ (root_eq-same pair.root top same)
      | inr other ↦ or_right _ _ (at_path pairs path top (rw other at is))
    ]

-- the cached package, if it is complete
abbrev if_complete : State → Option Root → Option Root
if_complete s None = None
if_complete s (Some root) = cond (is_complete s root) (Some root) None

if_complete_so : (s : State) (found : Option Root) (top : Root) → if_complete s found ≡ Some top → found ≡ Some top
if_complete_so s None top is = absurd (cc is)
if_complete_so s (Some root) top is = elim (cases_Bool (is_complete s root)) [ inl whole ↦ rw whole at is | inr part ↦ absurd (cc (rw part at is)) ]

path_protected : (s : State) (path : NameAndVariant) (top : Root) → root_to_open s path ≡ Some top → has_root (protected_in s) top ≡ true
path_protected s path top is = by_base (root_at s.base path) refl is where
  by_active : (active : Option Root) → root_at s.active path ≡ active → or_else active (if_complete s (root_at s.cached path)) ≡ Some top → has_root (protected_in s) top ≡ true
  by_active (Some root) found so = inside s top (or_left _ _ (or_left _ _ (or_left _ _ (or_right _ _ (at_path s.active path top (found ∙ so))))))
  by_active None found so = inside s top (or_left _ _ (or_left _ _ (or_left _ _ (or_left _ _ (or_right _ _ (at_path s.cached path top (if_complete_so s (root_at s.cached path) top so)))))))

  by_base : (base : Option Root) → root_at s.base path ≡ base → or_else base (or_else (root_at s.active path) (if_complete s (root_at s.cached path))) ≡ Some top → has_root (protected_in s) top ≡ true
  by_base (Some root) found so = inside s top (or_left _ _ (or_left _ _ (or_left _ _ (or_left _ _ (or_left _ _ (at_path s.base path top (found ∙ so)))))))
  by_base None found so = by_active (root_at s.active path) refl so

-- ---- the collection

collect_due : (s : State) (number lane : ℕ) (act : Act) (broke : Bool) (reply : Option (List Root)) → act ≡ Collect reply → IsActDueIf broke s number lane act → reply ≡ collect_answer s
collect_due s number lane act true reply is due = (subst (MayWrite s number lane) is due.0).0
collect_due s number lane act false reply is due = subst (IsActDue s lane) is due

are_rest : (s : State) (roots : List Root) → Some roots ≡ collect_answer s → roots ≡ rest s
are_rest s roots is = elim (cases_Bool (is_committed s)) [
  | inl stays ↦ let both : Some roots ≡ Some (rest s) = rw stays at is in cc both
  | inr pending ↦ absurd (cc (rw pending at is))
]

spares : (s : State) (number : ℕ) (e : Event) (roots : List Root) (top root : Root) → IsDue s number e → e.act ≡ Collect (Some roots) → has_root (protected_in s) top ≡ true → Contains (names top s.books) root → ¬ Contains roots root
spares s number e roots top root due is among named gone =
    let rests = are_rest s roots (collect_due s number e.lane e.act e.broke (Some roots) is due.due) in
    let free = ((unprotected_so (stock_roots s.stock) (protected_in s) s.books root).0 (subst (λ (list : List Root). Contains list root) rests gone)).1 in
    free top (names_it (protected_in s) top among) named

pub spares_arriving : (s : State) (number : ℕ) (e : Event) (roots : List Root) (ticket : ℕ) (arrival : Arrival) (root : Root) → IsDue s number e → e.act ≡ Collect (Some roots) → arrival_of s.arriving ticket ≡ Some arrival → Contains (names arrival.root s.books) root → ¬ Contains roots root
spares_arriving s number e roots ticket arrival root due is found named =
    spares s number e roots arrival.root root due is (arriving_protected s ticket arrival found) named

pub spares_open : (s : State) (number : ℕ) (e : Event) (roots : List Root) (dir lane : ℕ) (top root : Root) → IsDue s number e → e.act ≡ Collect (Some roots) → root_of s.dirs dir lane ≡ Some top → Contains (names top s.books) root → ¬ Contains roots root
spares_open s number e roots dir lane top root due is found named =
    spares s number e roots top root due is (dir_protected s dir lane top (find (λ (d : DirEntry). is_of d dir lane) s.dirs) refl found) named

pub spares_retained : (s : State) (number : ℕ) (e : Event) (roots : List Root) (top root : Root) → IsDue s number e → e.act ≡ Collect (Some roots) → Contains s.retained top → Contains (names top s.books) root → ¬ Contains roots root
spares_retained s number e roots top root due is has named =
    spares s number e roots top root due is (retained_protected s top has) named

pub spares_path : (s : State) (number : ℕ) (e : Event) (roots : List Root) (path : NameAndVariant) (top root : Root) → IsDue s number e → e.act ≡ Collect (Some roots) → root_to_open s path ≡ Some top → Contains (names top s.books) root → ¬ Contains roots root
spares_path s number e roots path top root due is found named =
    spares s number e roots top root due is (path_protected s path top found) named
