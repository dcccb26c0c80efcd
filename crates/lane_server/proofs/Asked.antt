-- What a resolve and an update come to, as requests.
use Rattle.std.proofs.Common.{◌≡◌, ◌≢◌, ℕ, ◌++◌, List, [], ◌∷◌, Option, refl, sym, ap, ◌∙◌}
use Rattle.std.specs.Prelude.{◌↔◌}
use Rattle.std.proofs.lemmas.List.{append-nil}
use Rattle.open_tracker.specs.declared.dirs.DirEntry.{DirEntry}
use Rattle.package_url.specs.declared.url.Url.{Url}
use Rattle.pkg_names.specs.declared.pinned.Pinned.{Pinned}
use Rattle.repo_source.specs.declared.file.RepoFile.{RepoFile}
use Rattle.script_lang.specs.declared.request.Ask.TheVariants as asks
use Rattle.store_model.specs.History.{Numbered}
use Rattle.store_model.specs.Holding.{Held}
use Rattle.store_model.specs.Desk.{View, held_by}
use Rattle.resolver.specs.declared.reply.ResolveReply.{ResolveReply}
use Rattle.resolver.specs.declared.reply.ResolveReply.TheVariants as resolved
use Rattle.resolver.specs.Serving.Point.{Asking}
use Rattle.resolver.specs.Viewing.{IsHeldAfter, Resolves}
use Rattle.system_updater.specs.declared.reply.UpdateReply.{UpdateReply}
use Rattle.system_updater.specs.declared.reply.UpdateReply.TheVariants as updates
use Rattle.system_updater.specs.Filled.{IsFilledBy}
use Rattle.system_updater.specs.Viewing.{Told, told, Updates}
use Rattle.system_updater.proofs.Goes.{does_resolve, does_update}
use Rattle.lane_server.specs.declared.names.Binding.{Binding}
use Rattle.lane_server.specs.Serving.{place_of, Serves, IsCut, after_resolve}
use Rattle.lane_server.specs.Viewing.{Does}

-- a part of what is held that no directory changes
same_part : {A : Type 0} (part : Held → A) → ((h : Held) (dirs : List DirEntry) → part (record h { dirs = dirs }) ≡ part h) → (lane : ℕ) (reply : ResolveReply) (old new : Held) → IsHeldAfter lane reply old new → part new ≡ part old
same_part part keeps lane (resolved.Resolved dir) old new is = ap part is.1 ∙ keeps old (old.dirs ++ record { number = dir.number; lane = lane; root = is.0 } ∷ [])
same_part part keeps lane resolved.InRecovery old new is = ap part is
same_part part keeps lane resolved.NotFound old new is = ap part is
same_part part keeps lane resolved.ListingFault old new is = ap part is
same_part part keeps lane (resolved.Failed cause) old new is = ap part is
same_part part keeps lane resolved.DiskRead old new is = ap part is
same_part part keeps lane (resolved.Rotten root got) old new is = ap part is
same_part part keeps lane (resolved.Broken number) old new is = ap part is
same_part part keeps lane resolved.NoMemory old new is = ap part is

module _ (url : Url) (old new : View) (listing listing_now : Option (List Pinned)) (files files_now : Option (List RepoFile)) (x y p q : ℕ) (F G : Type 0) where
  resolve_does : (P : List Numbered → Type 0) (reply : ResolveReply) (is : Resolves url.path url.pin reply old new listing files x y p q) → P is.run → listing_now ≡ listing → files_now ≡ files → F ↔ G
      → Does P old new (told listing files x p) (told listing_now files_now y q) F G
  resolve_does P reply is its same_listing same_files firm = record {
    run = is.run;
    its = its;
    does = does_resolve url.path url.pin reply old new listing listing_now files files_now x y p q F G is same_listing same_files firm;
    tickets = same_part (λ (h : Held). h.tickets) (λ h dirs. refl) old.lane reply (held_by old) (held_by new) is.held;
    stage = same_part (λ (h : Held). h.stage) (λ h dirs. refl) old.lane reply (held_by old) (held_by new) is.held;
  }

  pub resolve_served : (names later : List Binding) (name : List ℕ) (reply : ResolveReply) (is : Resolves url.path url.pin reply old new listing files x y p q) → reply ≢ resolved.NoMemory → later ≡ after_resolve names name reply
      → listing_now ≡ listing → files_now ≡ files → F ↔ G → Does (λ run. Serves F (place_of new) names (asks.Resolve name url) run later) old new (told listing files x p) (told listing_now files_now y q) F G
  resolve_served names later name reply is whole after same_listing same_files firm =
      resolve_does (λ run. Serves F (place_of new) names (asks.Resolve name url) run later) reply is (record { reply = reply; serves = is.serves; whole = whole; leads = after }) same_listing same_files firm

  pub resolve_cut : (name : List ℕ) (is : Resolves url.path url.pin resolved.NoMemory old new listing files x y p q) → listing_now ≡ listing → files_now ≡ files → F ↔ G
      → Does (IsCut (asks.Resolve name url)) old new (told listing files x p) (told listing_now files_now y q) F G
  resolve_cut name is same_listing same_files firm = resolve_does (IsCut (asks.Resolve name url)) resolved.NoMemory is is.serves same_listing same_files firm

-- nothing was asked yet
pub resolve_none : (name : List ℕ) (url : Url) → IsCut (asks.Resolve name url) []
resolve_none name url = record { point = Asking url.path url.pin; leads = refl; replied = refl }

module _ (url : Url) (old new : View) (r s : Told) (F G : Type 0) where
  update_does : (P : List Numbered → Type 0) (reply : UpdateReply) (is : Updates url.path url.pin reply old new r s) → P is.run → F ↔ G → Does P old new r s F G
  update_does P reply is its firm = record {
    run = is.run;
    its = its;
    does = does_update url.path url.pin reply old new r s F G is firm;
    tickets = ap (λ (h : Held). h.tickets) is.held;
    stage = ap (λ (h : Held). h.stage) is.held;
  }

  pub update_served : (names : List Binding) (reply : UpdateReply) (is : Updates url.path url.pin reply old new r s) → IsFilledBy F old new reply → reply ≢ updates.NoMemory → F ↔ G → Does (λ run. Serves F (place_of new) names (asks.Update url) run names) old new r s F G
  update_served names reply is filled whole firm =
      update_does (λ run. Serves F (place_of new) names (asks.Update url) run names) reply is
      (record { reply = reply; serves = is.serves; filled = record { old = old; new = new; mine = is.grows; lane = refl; origin = refl; later = []; front = sym (append-nil new.seen); is = filled }; whole = whole; leads = refl }) firm

  pub update_cut : (is : Updates url.path url.pin updates.NoMemory old new r s) → F ↔ G → Does (IsCut (asks.Update url)) old new r s F G
  update_cut is firm = update_does (IsCut (asks.Update url)) updates.NoMemory is is.serves firm
