-- What calls that write only pages of a region leave of all else.
use Rattle.std.proofs.Common.{◌≡◌, ℕ, List, [], ◌∷◌, ◌++◌, length, set, sym, refl, ◌∙◌, ap, subst, inl, inr, Option, Some, None, append_assoc, append-nil, get_or-set_other, length-set}
use Rattle.std.specs.List.{AllByRecursion}
use Rattle.disk_model.specs.declared.act.DiskAct.{DiskAct}
use Rattle.disk_model.specs.declared.act.DiskAct.TheVariants.{Wrote, Failed, Synced}
use Rattle.disk_model.specs.Past.{Page, Pages, page_at, Past, IsActIn, then_act, with_act}
use Rattle.disk_model.specs.Images.{EachImage, IsSettled, IsWritten, GoesOn, Both, Keeps, AtEach, WritesOnly, LastsOver}
use Rattle.disk_model.proofs.Moments.{Tried, Ended, each_write, each_sync, at_start, at_write, at_sync, at_end, at_then, written_write, written_sync}

pub all_push : (P : DiskAct → Type 0) (xs : List DiskAct) (x : DiskAct) → AllByRecursion P xs → P x → AllByRecursion P (xs ++ x ∷ [])
all_push P [] x all p = (p, tt)
all_push P (y ∷ xs) x all p = (all.0, all_push P xs x all.1 p)

all_append : (P : DiskAct → Type 0) (xs ys : List DiskAct) → AllByRecursion P xs → AllByRecursion P ys → AllByRecursion P (xs ++ ys)
all_append P [] ys all more = more
all_append P (x ∷ xs) ys all more = (all.0, all_append P xs ys all.1 more)

all_weaker : (P Q : DiskAct → Type 0) (xs : List DiskAct) → ((x : DiskAct) → P x → Q x) → AllByRecursion P xs → AllByRecursion Q xs
all_weaker P Q [] f all = tt
all_weaker P Q (x ∷ xs) f all = (f x all.0, all_weaker P Q xs f all.1)

-- Nothing was written yet.
pub writes_start : (region : ℕ → Type 0) (told : Option Past) → WritesOnly told told region
writes_start region None = tt
writes_start region (Some past) = record { start = refl; trail = ([], sym (append-nil past.trail), tt) }

writes_act : (region : ℕ → Type 0) (start old : Option Past) (act : DiskAct) → IsActIn region act → WritesOnly start old region → WritesOnly start (with_act old act) region
writes_act region None None act within w = w
writes_act region None (Some old) act within w = w
writes_act region (Some start) None act within w = w
writes_act region (Some start) (Some old) act within w = record {
  start = w.start;
  trail = (w.trail.0 ++ act ∷ [], ap (λ (l : List DiskAct). l ++ act ∷ []) w.trail.1 ∙ append_assoc start.trail w.trail.0 (act ∷ []), all_push (IsActIn region) w.trail.0 act w.trail.2 within);
}

-- A write of a page of the region, and a sync.
pub writes_write : (region : ℕ → Type 0) (page : ℕ) (bytes : Page) (start old new : Option Past) → region page → Tried page bytes old new → WritesOnly start old region → WritesOnly start new region
writes_write region page bytes start old new within (inl e) w = subst (λ told. WritesOnly start told region) (sym e) (writes_act region start old (Wrote page bytes) within w)
writes_write region page bytes start old new within (inr (inl e)) w = subst (λ told. WritesOnly start told region) (sym e) (writes_act region start old (Failed page bytes) within w)
writes_write region page bytes start old new within (inr (inr e)) w = subst (λ told. WritesOnly start told region) (sym e) w

pub writes_sync : (region : ℕ → Type 0) (start old new : Option Past) → Ended old new → WritesOnly start old region → WritesOnly start new region
writes_sync region start old new (inl e) w = subst (λ told. WritesOnly start told region) (sym e) (writes_act region start old Synced tt w)
writes_sync region start old new (inr e) w = subst (λ told. WritesOnly start told region) (sym e) w

-- A call that leaves the past, as a read does, and one that fails and adds no act.
pub writes_same : (region : ℕ → Type 0) (start old new : Option Past) → new ≡ old → WritesOnly start old region → WritesOnly start new region
writes_same region start old new e w = subst (λ told. WritesOnly start told region) (sym e) w

-- One run after another.
pub writes_then : (region : ℕ → Type 0) (start mid new : Option Past) → WritesOnly start mid region → WritesOnly mid new region → WritesOnly start new region
writes_then region None None None w v = tt
writes_then region None None (Some new) w v = v
writes_then region None (Some mid) new w v = absurd w
writes_then region (Some start) None new w v = absurd w
writes_then region (Some start) (Some mid) None w v = v
writes_then region (Some start) (Some mid) (Some new) w v = record {
  start = v.start ∙ w.start;
  trail = (w.trail.0 ++ v.trail.0, v.trail.1 ∙ ap (λ (l : List DiskAct). l ++ v.trail.0) w.trail.1 ∙ append_assoc start.trail w.trail.0 v.trail.0, all_append (IsActIn region) w.trail.0 v.trail.0 w.trail.2 v.trail.2);
}

wider_act : (region wide : ℕ → Type 0) → ((n : ℕ) → region n → wide n) → (act : DiskAct) → IsActIn region act → IsActIn wide act
wider_act region wide f (Wrote page bytes) within = f page within
wider_act region wide f (Failed page bytes) within = f page within
wider_act region wide f Synced within = within

-- A wider region.
pub writes_wider : (region wide : ℕ → Type 0) (old new : Option Past) → ((n : ℕ) → region n → wide n) → WritesOnly old new region → WritesOnly old new wide
writes_wider region wide None None f w = tt
writes_wider region wide None (Some new) f w = w
writes_wider region wide (Some old) None f w = w
writes_wider region wide (Some old) (Some new) f w = record { start = w.start; trail = (w.trail.0, w.trail.1, all_weaker (IsActIn region) (IsActIn wide) w.trail.0 (wider_act region wide f) w.trail.2) }

-- the past with more acts
plus : Past → List DiskAct → Past
plus past acts = record past { trail = past.trail ++ acts }

one : (region : ℕ → Type 0) (P : Pages → Type 0) → LastsOver region P → (act : DiskAct) → IsActIn region act → (past : Past) → EachImage (Some past) P → EachImage (Some (then_act past act)) P
one region P lasts (Wrote page bytes) within past h = each_write P P page bytes (Some past) (Some (then_act past (Wrote page bytes))) (inl refl) h (λ image p. p) (λ image lt p. lasts image page bytes within lt p)
one region P lasts (Failed page bytes) within past h = each_write P P page bytes (Some past) (Some (then_act past (Failed page bytes))) (inr (inl refl)) h (λ image p. p) (λ image lt p. lasts image page bytes within lt p)
one region P lasts Synced within past h = each_sync P (Some past) (Some (then_act past Synced)) (inl refl) h

one_at : (region : ℕ → Type 0) (P : Pages → Type 0) → LastsOver region P → (act : DiskAct) → IsActIn region act → (past : Past) → EachImage (Some past) P → Keeps P past (then_act past act)
one_at region P lasts (Wrote page bytes) within past h = at_write P page bytes (Some past) (Some past) (Some (then_act past (Wrote page bytes))) (at_start P (Some past) h) (inl refl) (one region P lasts (Wrote page bytes) within past h)
one_at region P lasts (Failed page bytes) within past h = at_write P page bytes (Some past) (Some past) (Some (then_act past (Failed page bytes))) (at_start P (Some past) h) (inr (inl refl)) (one region P lasts (Failed page bytes) within past h)
one_at region P lasts Synced within past h = at_sync P (Some past) (Some past) (Some (then_act past Synced)) (at_start P (Some past) h) (inl refl)

many : (region : ℕ → Type 0) (P : Pages → Type 0) → LastsOver region P → (acts : List DiskAct) → AllByRecursion (IsActIn region) acts → (past : Past) → EachImage (Some past) P → Keeps P past (plus past acts)
unfolding plus
many region P lasts [] within past h = subst (λ trail. Keeps P past (record past { trail = trail })) (sym (append-nil past.trail)) (at_start P (Some past) h)
many region P lasts (act ∷ acts) within past h =
    let next = then_act past act in
    let rest : Keeps P next (plus next acts) = many region P lasts acts within.1 next (one region P lasts act within.0 past h) in
    let all : Keeps P past (plus next acts) = at_then P (Some past) (Some next) (Some (plus next acts)) (one_at region P lasts act within.0 past h) rest in
    subst (λ trail. Keeps P past (record past { trail = trail })) (append_assoc past.trail (act ∷ []) acts) all

-- What each image has, and writes of the region leave, each image has at each moment.
pub outside : (region : ℕ → Type 0) (P : Pages → Type 0) (old new : Option Past) → LastsOver region P → EachImage old P → WritesOnly old new region → AtEach old new P
unfolding plus
outside region P None None lasts h w = tt
outside region P None (Some new) lasts h w = w
outside region P (Some old) None lasts h w = w
outside region P (Some old) (Some new) lasts h w =
    let same : new ≡ plus old w.trail.0 = ap (λ (s : Pages). record { start = s; trail = new.trail }) w.start ∙ ap (λ (t : List DiskAct). record { start = old.start; trail = t }) w.trail.1 in
    subst (Keeps P old) (sym same) (many region P lasts w.trail.0 w.trail.2 old h)

-- A page outside the region stays settled.
pub settled_outside : (region : ℕ → Type 0) (n : ℕ) (value : Page) (old new : Option Past) → (region n → ⊥) → IsSettled old n value → WritesOnly old new region → AtEach old new (λ image. page_at image n ≡ value)
settled_outside region n value old new not_in h w =
    outside region (λ image. page_at image n ≡ value) old new
    (λ image k bytes within lt p. get_or-set_other image k n bytes [] (λ e. not_in (subst region (sym e) within)) ∙ p) h w

one_written : (region : ℕ → Type 0) (n : ℕ) (value : Page) → (region n → ⊥) → (act : DiskAct) → IsActIn region act → (past : Past) → IsWritten (Some past) n value → IsWritten (Some (then_act past act)) n value
one_written region n value not_in (Wrote page bytes) within past h = written_write n value page bytes (Some past) (Some (then_act past (Wrote page bytes))) (λ e. not_in (subst region e within)) (inl refl) h
one_written region n value not_in (Failed page bytes) within past h = written_write n value page bytes (Some past) (Some (then_act past (Failed page bytes))) (λ e. not_in (subst region e within)) (inr (inl refl)) h
one_written region n value not_in Synced within past h = written_sync n value (Some past) (Some (then_act past Synced)) (inl refl) h

many_written : (region : ℕ → Type 0) (n : ℕ) (value : Page) → (region n → ⊥) → (acts : List DiskAct) → AllByRecursion (IsActIn region) acts → (past : Past) → IsWritten (Some past) n value → IsWritten (Some (plus past acts)) n value
unfolding plus
many_written region n value not_in [] within past h = subst (λ trail. IsWritten (Some (record past { trail = trail })) n value) (sym (append-nil past.trail)) h
many_written region n value not_in (act ∷ acts) within past h =
    subst (λ trail. IsWritten (Some (record past { trail = trail })) n value) (append_assoc past.trail (act ∷ []) acts)
    (many_written region n value not_in acts within.1 (then_act past act) (one_written region n value not_in act within.0 past h))

-- A page outside the region stays written.
pub written_outside : (region : ℕ → Type 0) (n : ℕ) (value : Page) (old new : Option Past) → (region n → ⊥) → IsWritten old n value → WritesOnly old new region → IsWritten new n value
unfolding plus
written_outside region n value None None not_in h w = tt
written_outside region n value None (Some new) not_in h w = absurd w
written_outside region n value (Some old) None not_in h w = tt
written_outside region n value (Some old) (Some new) not_in h w =
    let same : new ≡ plus old w.trail.0 = ap (λ (s : Pages). record { start = s; trail = new.trail }) w.start ∙ ap (λ (t : List DiskAct). record { start = old.start; trail = t }) w.trail.1 in
    subst (λ past. IsWritten (Some past) n value) (sym same) (many_written region n value not_in w.trail.0 w.trail.2 old h)

-- The past has gone on.
pub writes_goes_on : (region : ℕ → Type 0) (old new : Option Past) → WritesOnly old new region → Both GoesOn old new
writes_goes_on region None None w = tt
writes_goes_on region None (Some new) w = w
writes_goes_on region (Some old) None w = w
writes_goes_on region (Some old) (Some new) w = record { start = w.start; trail = (w.trail.0, w.trail.1) }

-- What is said of a page outside the region lasts, and so does what depends on such pages alone.
pub lasts_page : (region : ℕ → Type 0) (n : ℕ) (Q : Page → Type 0) → (region n → ⊥) → LastsOver region (λ image. Q (page_at image n))
lasts_page region n Q not_in image k bytes within lt q =
    subst Q (sym (get_or-set_other image k n bytes [] (λ e. not_in (subst region (sym e) within)))) q

pub lasts_apart : (region own : ℕ → Type 0) (P : Pages → Type 0) → ((n : ℕ) → region n → own n → ⊥) → ((image other : Pages) → length image ≡ length other → ((n : ℕ) → own n → page_at image n ≡ page_at other n) → P image → P other) → LastsOver region P
lasts_apart region own P apart depends image k bytes within lt p =
    depends image (set image k bytes) (sym (length-set image k bytes))
    (λ n is. sym (get_or-set_other image k n bytes [] (λ e. apart k within (subst own e is)))) p

-- What lasts over writes of the region goes on holding at each moment over a write there.
pub at_write_lasts : (region : ℕ → Type 0) (P : Pages → Type 0) (page : ℕ) (bytes : Page) (start old new : Option Past) → LastsOver region P → region page → AtEach start old P → Tried page bytes old new → AtEach start new P
at_write_lasts region P page bytes start old new lasts within at tried =
    at_write P page bytes start old new at tried
    (each_write P P page bytes old new tried (at_end P start old at) (λ image p. p) (λ image lt p. lasts image page bytes within lt p))

-- The same over a run.
pub at_outside : (region : ℕ → Type 0) (P : Pages → Type 0) (start old new : Option Past) → LastsOver region P → AtEach start old P → WritesOnly old new region → AtEach start new P
at_outside region P start old new lasts at w = at_then P start old new at (outside region P old new lasts (at_end P start old at) w)
