-- What the lane holds from one point to the next.
use Rattle.std.proofs.Common.{inl, inr, ◌≡◌, ◌≢◌, ℕ, suc, true, false, List, [], ◌∷◌, ◌++◌, length, length-append, get_or, ◌<◌, Option, Some, None, Result, Ok, Err, refl, sym, ap, subst, ◌∙◌, arith}
use Rattle.std.specs.List.{AllPairs}
use Rattle.std.proofs.lemmas.Bool.{cases_Bool, eq-eqb, ne_eqb}
use Rattle.open_tracker.specs.declared.dirs.DirEntry.{DirEntry}
use Rattle.open_tracker.specs.Directories.{is_of, root_of, without}
use Rattle.pkg_names.specs.declared.pinned.Pinned.{Pinned}
use Rattle.pkg_names.specs.declared.root.Root.{Root}
use Rattle.system_lists.specs.declared.fault.ManifestFault.{ManifestFault}
use Rattle.update_manifest.specs.declared.image.Images.{Images}
use Rattle.update_manifest.specs.Epoch.{epoch_in}
use Rattle.update_manifest.specs.Packages.{packages_in}
use Rattle.update_manifest.specs.Images.{images_in}
use Rattle.store_model.specs.declared.replies.Dir.{Dir}
use Rattle.store_model.specs.Holding.{Held}
use Rattle.store_model.specs.State.{Phase}
use Rattle.system_updater.specs.declared.reply.UpdateReply.{UpdateReply}
use Rattle.system_updater.specs.declared.reply.UpdateReply.TheVariants as replies
use Rattle.system_updater.specs.Serving.{Point, Prior, with_epoch, with_packages, with_images, judged, closed, left, Follows, CanCome}
use Rattle.system_updater.specs.Serving.Prior.{NothingRead, EpochRead, PackagesRead}
use Rattle.system_updater.specs.Holding.{IsOpen, IsStaged, IsHeldAt}

-- ---- ends

pub open_closed : (lane : ℕ) (dir : Dir) (reply : UpdateReply) (base now : Held) → CanCome reply → IsOpen lane dir base now → IsHeldAt lane (closed dir reply) base now
open_closed lane dir reply base now comes is = (base, (comes, refl), is)

pub staged_left : (lane : ℕ) (dir : Dir) (phase : Phase) (reply : UpdateReply) (base now : Held) → CanCome reply → IsStaged lane dir phase base now → IsHeldAt lane (left dir reply) base now
staged_left lane dir phase reply base now comes is = (is.0, open_closed lane dir reply base is.0 comes is.1, (phase, is.2))

-- the stage is in another phase
pub restaged : (lane : ℕ) (dir : Dir) (p q : Phase) (base now new : Held) → IsStaged lane dir p base now → new ≡ record now { stage = Some q } → IsStaged lane dir q base new
restaged lane dir p q base now new is same = (is.0, is.1, record { none = is.2.none; is = same ∙ ap (λ (h : Held). let held : Held = record h { stage = Some q } in held) is.2.is })

-- what holds of the same
pub same_held : (lane : ℕ) (a b : Point) (base h k : Held) → k ≡ h → (IsHeldAt lane a base h → IsHeldAt lane b base h) → IsHeldAt lane a base h → IsHeldAt lane b base k
same_held lane a b base h k same f is = subst (λ (x : Held). IsHeldAt lane b base x) (sym same) (f is)

-- ---- manifests that were read

epoch_open : (lane : ℕ) (dir : Dir) (found : Result ℕ ManifestFault) (base now : Held) → IsOpen lane dir base now → IsHeldAt lane (with_epoch dir found) base now
epoch_open lane dir (Ok epoch) base now is = is
epoch_open lane dir (Err why) base now is = is

packages_open : (lane : ℕ) (dir : Dir) (epoch : ℕ) (found : Result (List Pinned) ManifestFault) (base now : Held) → IsOpen lane dir base now → IsHeldAt lane (with_packages dir epoch found) base now
packages_open lane dir epoch (Ok packages) base now is = is
packages_open lane dir epoch (Err why) base now is = is

images_open : (lane : ℕ) (dir : Dir) (epoch : ℕ) (packages : List Pinned) (found : Result Images ManifestFault) (base now : Held) → IsOpen lane dir base now → IsHeldAt lane (with_images dir epoch packages found) base now
images_open lane dir epoch packages (Ok images) base now is = is
images_open lane dir epoch packages (Err why) base now is = is

pub judged_open : (lane : ℕ) (dir : Dir) (prior : Prior) (found : Option (List ℕ)) (base now : Held) → IsOpen lane dir base now → IsHeldAt lane (judged dir prior found) base now
judged_open lane dir NothingRead None base now is = is
judged_open lane dir NothingRead (Some bytes) base now is = epoch_open lane dir (epoch_in bytes) base now is
judged_open lane dir (EpochRead epoch) None base now is = is
judged_open lane dir (EpochRead epoch) (Some bytes) base now is = packages_open lane dir epoch (packages_in bytes) base now is
judged_open lane dir (PackagesRead epoch packages) None base now is = is
judged_open lane dir (PackagesRead epoch packages) (Some bytes) base now is = images_open lane dir epoch packages (images_in bytes) base now is

epoch_open-back : (lane : ℕ) (dir : Dir) (found : Result ℕ ManifestFault) (base now : Held) → IsHeldAt lane (with_epoch dir found) base now → IsOpen lane dir base now
epoch_open-back lane dir (Ok epoch) base now is = is
epoch_open-back lane dir (Err why) base now is = is

packages_open-back : (lane : ℕ) (dir : Dir) (epoch : ℕ) (found : Result (List Pinned) ManifestFault) (base now : Held) → IsHeldAt lane (with_packages dir epoch found) base now → IsOpen lane dir base now
packages_open-back lane dir epoch (Ok packages) base now is = is
packages_open-back lane dir epoch (Err why) base now is = is

images_open-back : (lane : ℕ) (dir : Dir) (epoch : ℕ) (packages : List Pinned) (found : Result Images ManifestFault) (base now : Held) → IsHeldAt lane (with_images dir epoch packages found) base now → IsOpen lane dir base now
images_open-back lane dir epoch packages (Ok images) base now is = is
images_open-back lane dir epoch packages (Err why) base now is = is

pub judged_open-back : (lane : ℕ) (dir : Dir) (prior : Prior) (found : Option (List ℕ)) (base now : Held) → IsHeldAt lane (judged dir prior found) base now → IsOpen lane dir base now
judged_open-back lane dir NothingRead None base now is = is
judged_open-back lane dir NothingRead (Some bytes) base now is = epoch_open-back lane dir (epoch_in bytes) base now is
judged_open-back lane dir (EpochRead epoch) None base now is = is
judged_open-back lane dir (EpochRead epoch) (Some bytes) base now is = packages_open-back lane dir epoch (packages_in bytes) base now is
judged_open-back lane dir (PackagesRead epoch packages) None base now is = is
judged_open-back lane dir (PackagesRead epoch packages) (Some bytes) base now is = images_open-back lane dir epoch packages (images_in bytes) base now is

-- wherever they lead, memory may be short
epoch_cut : (dir : Dir) (found : Result ℕ ManifestFault) → Follows (with_epoch dir found) [] (closed dir replies.NoMemory)
epoch_cut dir (Ok epoch) = inr (refl, refl)
epoch_cut dir (Err why) = inr (refl, refl)

packages_cut : (dir : Dir) (epoch : ℕ) (found : Result (List Pinned) ManifestFault) → Follows (with_packages dir epoch found) [] (closed dir replies.NoMemory)
packages_cut dir epoch (Ok packages) = inr (refl, refl)
packages_cut dir epoch (Err why) = inr (refl, refl)

images_cut : (dir : Dir) (epoch : ℕ) (packages : List Pinned) (found : Result Images ManifestFault) → Follows (with_images dir epoch packages found) [] (closed dir replies.NoMemory)
images_cut dir epoch packages (Ok images) = inr (refl, refl)
images_cut dir epoch packages (Err why) = inr (refl, refl)

pub judged_cut : (dir : Dir) (prior : Prior) (found : Option (List ℕ)) → Follows (judged dir prior found) [] (closed dir replies.NoMemory)
judged_cut dir NothingRead None = inr (refl, refl)
judged_cut dir NothingRead (Some bytes) = epoch_cut dir (epoch_in bytes)
judged_cut dir (EpochRead epoch) None = inr (refl, refl)
judged_cut dir (EpochRead epoch) (Some bytes) = packages_cut dir epoch (packages_in bytes)
judged_cut dir (PackagesRead epoch packages) None = inr (refl, refl)
judged_cut dir (PackagesRead epoch packages) (Some bytes) = images_cut dir epoch packages (images_in bytes)

-- ---- the directory that was opened last

apart_tail : (x : DirEntry) (xs : List DirEntry) → AllPairs (λ (a b : DirEntry). a.number ≢ b.number) (x ∷ xs) → AllPairs (λ (a b : DirEntry). a.number ≢ b.number) xs
apart_tail x xs apart = λ i j d lt inside. apart (suc i) (suc j) d (omega arith) (omega arith)

last_at : (ds : List DirEntry) (x d : DirEntry) → get_or (ds ++ x ∷ []) (length ds) d ≡ x
last_at [] x d = refl
last_at (y ∷ ds) x d = last_at ds x d

differs : (d : DirEntry) (number lane : ℕ) → d.number ≢ number → is_of d number lane ≡ false
differs d number lane other = rw (ne_eqb d.number number other) refl

pub without_last : (number lane : ℕ) (root : Root) (ds : List DirEntry)
    → AllPairs (λ (a b : DirEntry). a.number ≢ b.number) (ds ++ record { number = number; lane = lane; root = root } ∷ [])
    → without (ds ++ record { number = number; lane = lane; root = root } ∷ []) number lane ≡ ds
without_last number lane root [] apart = rw (eq-eqb number number refl, eq-eqb lane lane refl) refl
without_last number lane root (d ∷ ds) apart =
    let x : DirEntry = record { number = number; lane = lane; root = root } in
    let other : d.number ≢ number = λ same. apart 0 (suc (length ds)) d (omega arith) (more ds x) (same ∙ sym (ap (λ (e : DirEntry). e.number) (last_at ds x d))) in
    rw (differs d number lane other)
    (ap (λ (es : List DirEntry). d ∷ es) (without_last number lane root ds (apart_tail d (ds ++ x ∷ []) apart))) where
      more : (ds : List DirEntry) (x : DirEntry) → suc (length ds) < length (d ∷ ds ++ x ∷ [])
      more ds x = omega (arith, length-append ds (x ∷ []))

-- it is there
pub root_last : (number lane : ℕ) (root : Root) (ds : List DirEntry) → (found : Root) × (root_of (ds ++ record { number = number; lane = lane; root = root } ∷ []) number lane ≡ Some found)
root_last number lane root ds = first ds where
  x : DirEntry
  x = record { number = number; lane = lane; root = root }

  is : is_of x number lane ≡ true
  is = rw (eq-eqb number number refl, eq-eqb lane lane refl) refl

  first : (ds : List DirEntry) → (found : Root) × (root_of (ds ++ x ∷ []) number lane ≡ Some found)
  first [] = (root, rw is refl)
  first (d ∷ ds) = elim (cases_Bool (is_of d number lane)) [
    | inl holds ↦ (d.root, rw holds refl)
    | inr lacks ↦ let rest = first ds in (rest.0, rw lacks rest.1)
  ]
