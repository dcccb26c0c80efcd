-- The chain of a draft, as its writes are told it.
use Rattle.std.proofs.Common.{◌≡◌, ◌≢◌, ℕ, ◌+◌, ◌*◌, ◌<◌, ◌≤◌, Bool, List, ◌++◌, length, Vec, All, sym, ap, subst, ◌∙◌, arith}
use Rattle.std.specs.List.{AllPairs}
use Rattle.std.specs.declared.alloc.Global.{Global}
use Rattle.pkg_names.specs.declared.root.Root.{Root}
use Rattle.image_layout.specs.declared.geometry.Geometry.{Geometry}
use Rattle.image_layout.specs.Geometry.{IsWithinLimits, data_start}
use Rattle.node_table.specs.declared.entry.Entry.{Entry}
use Rattle.node_table.specs.Entries.{AreSound}
use Rattle.node_table.specs.Table.{TableView}
use Rattle.blob_pages.specs.Draft.{Progress}
use Rattle.blob_disk.specs.Chains.{chain_of}
use Rattle.blob_disk.specs.Drafts.{AreBlobs, BlobsView, IsDraftIn}
use Rattle.blob_disk.proofs.Placing.{IsBehind, draft_behind, chain-found, chain_range}
use Rattle.blob_disk.proofs.Moving.{view_of}

-- Its pages are counted from `start`, which is the first data page; they differ, lie on the disk and are enough.
pub record OwnChain (v : BlobsView) (draft : Progress) (own : Entry) (start : ℕ) (chain : List ℕ) : Type 0 where
  pub start_is : start ≡ data_start v.table.geometry
  pub chain_is : chain ≡ chain_of v.drafts draft.root
  pub pages_are : chain ≡ own.pages
  pub limits : IsWithinLimits v.table.geometry
  pub behind : IsBehind v.table.geometry v.table.entries own
  pub whole : draft.len ≤ 4096 * length chain
  pub distinct : AllPairs (λ a b. a ≢ b) chain
  pub range : (count : ℕ) → data_start v.table.geometry + v.table.geometry.data_pages ≤ count → All (λ page. start + page < count) chain

pub own_chain : (v : BlobsView) (t : TableView) (ds : List Entry) (flags : List Bool) (spare : Vec ℕ Global) (broken : Bool) → view_of t ds broken ≡ v → AreBlobs t ds flags spare broken →
    (draft : Progress) (own : IsDraftIn v draft) (start : ℕ) (chain : List ℕ) (g : Geometry) → g ≡ t.geometry → start ≡ data_start g →
    (drafts : List Entry) (root : Root) → drafts ≡ ds → root ≡ draft.root → chain ≡ chain_of drafts root → OwnChain v draft own.0 start chain
own_chain v t ds flags spare broken view are draft own start chain g geometry from drafts root all named found =
    let h : Geometry = v.table.geometry in
    let start_is : start ≡ data_start h = from ∙ ap data_start (geometry ∙ ap (λ (b : BlobsView). b.table.geometry) view) in
    let chain_is : chain ≡ chain_of v.drafts draft.root = found ∙ ap (λ (l : List Entry). chain_of l root) (all ∙ ap (λ (b : BlobsView). b.drafts) view) ∙ ap (chain_of v.drafts) named in
    let pages_are : chain ≡ own.0.pages = chain_is ∙ chain-found v.drafts draft.root own.0 own.1 in
    let sound : AreSound h (v.table.entries ++ v.drafts) = subst (λ (b : BlobsView). AreSound b.table.geometry (b.table.entries ++ b.drafts)) view are.sound in
    let behind = draft_behind h v.table.entries v.drafts draft.root own.0 sound own.1 in
    record {
      start_is = start_is;
      chain_is = chain_is;
      pages_are = pages_are;
      limits = subst (λ (b : BlobsView). IsWithinLimits b.table.geometry) view are.limits;
      behind = behind;
      whole = omega (arith, ap length pages_are, behind.is.count, own.2);
      distinct = subst (λ (l : List ℕ). AllPairs (λ a b. a ≢ b) l) (sym pages_are) behind.is.distinct;
      range = λ count room. subst (λ (l : List ℕ). All (λ page. start + page < count) l) (sym pages_are)
          (subst (λ (s : ℕ). All (λ page. s + page < count) own.0.pages) (sym start_is) (chain_range h own.0.pages count room behind.is.below));
    }
