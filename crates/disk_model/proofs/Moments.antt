-- What a call makes of each image, and of each moment since an earlier one. A caller's proof takes a
-- line or two of these for each call of the disk.
use Rattle.std.proofs.Common.{◌≡◌, ◌≢◌, ◌⊎◌, ℕ, ◌+◌, ◌<◌, ◌≤◌, List, [], ◌∷◌, ◌++◌, length, take, set, sym, refl, ◌∙◌, ap, subst, inl, inr, arith, Option, Some, None, IfSome, append_assoc, append-nil, length-append, take_all, get_or-set_same, get_or-set_other}
use Rattle.std.proofs.lemmas.Bool.{cases_lt}
use Rattle.std.proofs.lemmas.List.{take-append-le}
use Rattle.disk_model.specs.declared.act.DiskAct.{DiskAct}
use Rattle.disk_model.specs.declared.act.DiskAct.TheVariants.{Wrote, Failed, Synced}
use Rattle.disk_model.specs.Past.{Page, Pages, page_at, PageState, Past, IsPast, IsActIn, then_act, with_act, state_of, MayRead}
use Rattle.disk_model.specs.Images.{IsImage, EachImage, SomeImage, IsSettled, IsWritten, moment, GoesOn, Both, Keeps, AtEach}
use Rattle.disk_model.proofs.StateLemmas.{state_of-then_act, other_wrote, other_failed, same_wrote}
use Rattle.disk_model.proofs.ImageLemmas.{image_wrote, image_failed, image_synced, image_of, synced_page, fresh_image}

-- What a call of `write` may have done, and one of `sync`: `inl` of its clause at `Ok`, `inr` of that at `Err`.
abbrev pub Tried : ℕ → Page → Option Past → Option Past → Type 0
Tried page bytes old new = (new ≡ with_act old (Wrote page bytes)) ⊎ ((new ≡ with_act old (Failed page bytes)) ⊎ (new ≡ old))

abbrev pub Ended : Option Past → Option Past → Type 0
Ended old new = (new ≡ with_act old Synced) ⊎ (new ≡ old)

-- The past with one act more, or the same.
abbrev pub Stepped : (DiskAct → Type 0) → Option Past → Option Past → Type 0
Stepped A old new = (new ≡ old) ⊎ ((act : DiskAct) × A act × (new ≡ with_act old act))

tried_step : (region : ℕ → Type 0) (page : ℕ) (bytes : Page) (old new : Option Past) → region page → Tried page bytes old new → Stepped (IsActIn region) old new
tried_step region page bytes old new in_region (inl e) = inr (Wrote page bytes, in_region, e)
tried_step region page bytes old new in_region (inr (inl e)) = inr (Failed page bytes, in_region, e)
tried_step region page bytes old new in_region (inr (inr e)) = inl e

ended_step : (region : ℕ → Type 0) (old new : Option Past) → Ended old new → Stepped (IsActIn region) old new
ended_step region old new (inl e) = inr (Synced, tt, e)
ended_step region old new (inr e) = inl e

-- Each image

pub each_weaker : (P Q : Pages → Type 0) (told : Option Past) → ((image : Pages) → P image → Q image) → EachImage told P → EachImage told Q
each_weaker P Q None f h = tt
each_weaker P Q (Some past) f h = λ image is. f image (h image is)

pub each_both : (P Q : Pages → Type 0) (told : Option Past) → EachImage told P → EachImage told Q → EachImage told (λ image. P image × Q image)
each_both P Q None h k = tt
each_both P Q (Some past) h k = λ image is. (h image is, k image is)

changed : (P Q : Pages → Type 0) (past : Past) (page : ℕ) (bytes : Page) (image : Pages) → ((image : Pages) → IsImage past image → P image) → ((image : Pages) → P image → Q image) → ((image : Pages) → page < length image → P image → Q (set image page bytes)) → IsImage past image ⊎ ((old : Pages) × (page < length old) × IsImage past old × (image ≡ set old page bytes)) → Q image
changed P Q past page bytes image h stays comes (inl is) = stays image (h image is)
changed P Q past page bytes image h stays comes (inr c) = subst Q (sym c.3) (comes c.0 c.1 (h c.0 c.2))

each_wrote : (P Q : Pages → Type 0) (old : Option Past) (page : ℕ) (bytes : Page) → EachImage old P → ((image : Pages) → P image → Q image) → ((image : Pages) → page < length image → P image → Q (set image page bytes)) → EachImage (with_act old (Wrote page bytes)) Q
each_wrote P Q None page bytes h stays comes = tt
each_wrote P Q (Some past) page bytes h stays comes = λ image is. changed P Q past page bytes image h stays comes (image_wrote past page bytes image is)

each_failed : (P Q : Pages → Type 0) (old : Option Past) (page : ℕ) (bytes : Page) → EachImage old P → ((image : Pages) → P image → Q image) → ((image : Pages) → page < length image → P image → Q (set image page bytes)) → EachImage (with_act old (Failed page bytes)) Q
each_failed P Q None page bytes h stays comes = tt
each_failed P Q (Some past) page bytes h stays comes = λ image is. changed P Q past page bytes image h stays comes (image_failed past page bytes image is)

-- After a write an image is one from before it, or one with the bytes at the page.
pub each_write : (P Q : Pages → Type 0) (page : ℕ) (bytes : Page) (old new : Option Past) → Tried page bytes old new → EachImage old P → ((image : Pages) → P image → Q image) → ((image : Pages) → page < length image → P image → Q (set image page bytes)) → EachImage new Q
each_write P Q page bytes old new (inl e) h stays comes = subst (λ told. EachImage told Q) (sym e) (each_wrote P Q old page bytes h stays comes)
each_write P Q page bytes old new (inr (inl e)) h stays comes = subst (λ told. EachImage told Q) (sym e) (each_failed P Q old page bytes h stays comes)
each_write P Q page bytes old new (inr (inr e)) h stays comes = subst (λ told. EachImage told Q) (sym e) (each_weaker P Q old stays h)

synced : (P : Pages → Type 0) (old : Option Past) → EachImage old P → EachImage (with_act old Synced) P
synced P None h = tt
synced P (Some past) h = λ image is. h image (image_synced past image is)

-- After a sync an image is one from before it.
pub each_sync : (P : Pages → Type 0) (old new : Option Past) → Ended old new → EachImage old P → EachImage new P
each_sync P old new (inl e) h = subst (λ told. EachImage told P) (sym e) (synced P old h)
each_sync P old new (inr e) h = subst (λ told. EachImage told P) (sym e) h

-- Pages that were written

wrote_some : (old : Option Past) (page : ℕ) (bytes : Page) → IsWritten (with_act old (Wrote page bytes)) page bytes
wrote_some None page bytes = tt
wrote_some (Some past) page bytes =
    let e = state_of-then_act past (Wrote page bytes) page ∙ same_wrote page (state_of past page) bytes in
    (ap (λ (s : PageState). s.now) e, ap (λ (s : PageState). s.failed) e)

pub written : (page : ℕ) (bytes : Page) (old new : Option Past) → new ≡ with_act old (Wrote page bytes) → IsWritten new page bytes
written page bytes old new e = subst (λ told. IsWritten told page bytes) (sym e) (wrote_some old page bytes)

stays_written : (n : ℕ) (value : Page) (old : Option Past) (act : DiskAct) → ((past : Past) → (state_of (then_act past act) n).now ≡ (state_of past n).now) → ((past : Past) → (state_of (then_act past act) n).failed ≡ (state_of past n).failed) → IsWritten old n value → IsWritten (with_act old act) n value
stays_written n value None act now none h = tt
stays_written n value (Some past) act now none h = (now past ∙ h.0, none past ∙ h.1)

-- A write of another page leaves it so, and so does a sync.
pub written_write : (n : ℕ) (value : Page) (page : ℕ) (bytes : Page) (old new : Option Past) → page ≢ n → Tried page bytes old new → IsWritten old n value → IsWritten new n value
written_write n value page bytes old new ne (inl e) h =
    let same = λ (past : Past). state_of-then_act past (Wrote page bytes) n ∙ other_wrote n page (state_of past n) bytes ne in
    subst (λ told. IsWritten told n value) (sym e) (stays_written n value old (Wrote page bytes) (λ past. ap (λ (s : PageState). s.now) (same past)) (λ past. ap (λ (s : PageState). s.failed) (same past)) h)
written_write n value page bytes old new ne (inr (inl e)) h =
    let same = λ (past : Past). state_of-then_act past (Failed page bytes) n ∙ other_failed n page (state_of past n) bytes ne in
    subst (λ told. IsWritten told n value) (sym e) (stays_written n value old (Failed page bytes) (λ past. ap (λ (s : PageState). s.now) (same past)) (λ past. ap (λ (s : PageState). s.failed) (same past)) h)
written_write n value page bytes old new ne (inr (inr e)) h = subst (λ told. IsWritten told n value) (sym e) h

pub written_sync : (n : ℕ) (value : Page) (old new : Option Past) → Ended old new → IsWritten old n value → IsWritten new n value
written_sync n value old new (inl e) h =
    let same = λ (past : Past). state_of-then_act past Synced n in
    subst (λ told. IsWritten told n value) (sym e) (stays_written n value old Synced (λ past. ap (λ (s : PageState). s.now) (same past)) (λ past. ap (λ (s : PageState). s.failed) (same past)) h)
written_sync n value old new (inr e) h = subst (λ told. IsWritten told n value) (sym e) h

settled_some : (n : ℕ) (value : Page) (count : ℕ) (old : Option Past) → n < count → IfSome old (IsPast count) → IsWritten old n value → IsSettled (with_act old Synced) n value
settled_some n value count None lt fits h = tt
settled_some n value count (Some past) lt fits h = λ image is. synced_page past n value (omega (arith, fits.size)) h.0 h.1 image is

-- After a sync a page that was written has that one value.
pub settled : (n : ℕ) (value : Page) (count : ℕ) (old new : Option Past) → n < count → IfSome old (IsPast count) → IsWritten old n value → new ≡ with_act old Synced → IsSettled new n value
settled n value count old new lt fits h e = subst (λ told. IsSettled told n value) (sym e) (settled_some n value count old lt fits h)

-- A disk without acts has each page settled on what it began with.
pub settled_start : (start : Pages) (n : ℕ) → IsSettled (Some (record { start = start; trail = [] })) n (page_at start n)
settled_start start n = λ image is. ap (λ (l : Pages). page_at l n) (fresh_image start image is)

-- A settled page stays so over a write of another page, and over a sync.
pub settled_write : (n : ℕ) (value : Page) (page : ℕ) (bytes : Page) (old new : Option Past) → page ≢ n → Tried page bytes old new → IsSettled old n value → IsSettled new n value
settled_write n value page bytes old new ne tried h =
    each_write (λ image. page_at image n ≡ value) (λ image. page_at image n ≡ value) page bytes old new tried h (λ image e. e)
    (λ image lt e. get_or-set_other image page n bytes [] (λ same. ne (sym same)) ∙ e)

pub settled_sync : (n : ℕ) (value : Page) (old new : Option Past) → Ended old new → IsSettled old n value → IsSettled new n value
settled_sync n value old new ended h = each_sync (λ image. page_at image n ≡ value) old new ended h

-- Once it is written anew, each image has the one value there or the other.
pub either_write : (n : ℕ) (value bytes : Page) (old new : Option Past) → Tried n bytes old new → IsSettled old n value → EachImage new (λ image. (page_at image n ≡ value) ⊎ (page_at image n ≡ bytes))
either_write n value bytes old new tried h =
    each_write (λ image. page_at image n ≡ value) (λ image. (page_at image n ≡ value) ⊎ (page_at image n ≡ bytes)) n bytes old new tried h (λ image e. inl e)
    (λ image lt e. inr (get_or-set_same image n bytes [] lt))

-- Reads

-- A read gives what was written last.
pub read_written : (n : ℕ) (value out : Page) (told : Option Past) → IsWritten told n value → IfSome told (λ past. MayRead (state_of past n) out) → IfSome told (λ past. out ≡ value)
read_written n value out None h may = tt
read_written n value out (Some past) h may = may.written h.1 ∙ h.0

-- A read of a settled page gives its value.
pub read_settled : (n : ℕ) (value out : Page) (count : ℕ) (told : Option Past) → n < count → IfSome told (IsPast count) → IsSettled told n value → IfSome told (λ past. MayRead (state_of past n) out) → IfSome told (λ past. out ≡ value)
read_settled n value out count None lt fits h may = tt
read_settled n value out count (Some past) lt fits h may =
    let found = image_of past n out (omega (arith, fits.size)) may.possible in
    sym found.2 ∙ h found.0 found.1

-- A read gives what stands at the page in some image.
pub read_image : (P : Pages → Type 0) (n : ℕ) (out : Page) (count : ℕ) (told : Option Past) → n < count → IfSome told (IsPast count) → EachImage told P → IfSome told (λ past. MayRead (state_of past n) out) → SomeImage told (λ image. P image × (page_at image n ≡ out))
read_image P n out count None lt fits h may = tt
read_image P n out count (Some past) lt fits h may =
    let found = image_of past n out (omega (arith, fits.size)) may.possible in
    (found.0, found.1, (h found.0 found.1, found.2))

-- Moments

now : (P : Pages → Type 0) (past : Past) (count : ℕ) (image : Pages) → length past.trail ≤ count → IsImage (moment past count) image → IsImage past image
now P past count image high is = subst (λ trail. IsImage (record past { trail = trail }) image) (take_all count past.trail high) is

-- At this moment, which is the first and the last.
pub at_start : (P : Pages → Type 0) (told : Option Past) → EachImage told P → AtEach told told P
at_start P None h = tt
at_start P (Some past) h = record {
  goes_on = record { start = refl; trail = ([], sym (append-nil past.trail)) };
  each = λ count low high image is. h image (now P past count image low is);
}

act_more : (P : Pages → Type 0) (start old : Option Past) (act : DiskAct) → AtEach start old P → EachImage (with_act old act) P → AtEach start (with_act old act) P
act_more P None None act at h = tt
act_more P None (Some old) act at h = at
act_more P (Some start) None act at h = at
act_more P (Some start) (Some old) act at h =
    let more = at.goes_on.trail in
    let long : length (old.trail ++ act ∷ []) ≡ length old.trail + 1 = length-append old.trail (act ∷ []) in
    record {
      goes_on = record {
        start = at.goes_on.start;
        trail = (more.0 ++ act ∷ [], ap (λ (l : List DiskAct). l ++ act ∷ []) more.1 ∙ append_assoc start.trail more.0 (act ∷ []));
      };
      each = λ count low high image is. elim (cases_lt count (length (old.trail ++ act ∷ []))) [
        | inl lt ↦ at.each count low (omega (arith, long)) image (subst (λ trail. IsImage (record old { trail = trail }) image) (take-append-le count old.trail (act ∷ []) (omega (arith, long))) is)
        | inr le ↦ h image (now P (then_act old act) count image le is)
      ];
    }

step : (P : Pages → Type 0) (A : DiskAct → Type 0) (start old new : Option Past) → AtEach start old P → Stepped A old new → EachImage new P → AtEach start new P
step P A start old new at (inl e) h = subst (λ told. AtEach start told P) (sym e) at
step P A start old new at (inr s) h =
    subst (λ told. AtEach start told P) (sym s.2) (act_more P start old s.0 at (subst (λ told. EachImage told P) s.2 h))

-- P goes on holding at each moment over a write after which each image has it,
pub at_write : (P : Pages → Type 0) (page : ℕ) (bytes : Page) (start old new : Option Past) → AtEach start old P → Tried page bytes old new → EachImage new P → AtEach start new P
at_write P page bytes start old new at tried h = step P (IsActIn (λ _. Unit {0})) start old new at (tried_step (λ _. Unit {0}) page bytes old new tt tried) h

-- The last moment.
pub at_end : (P : Pages → Type 0) (start new : Option Past) → AtEach start new P → EachImage new P
at_end P start None at = tt
at_end P None (Some new) at = absurd at
at_end P (Some start) (Some new) at = λ image is.
    let more = at.goes_on.trail in
    at.each (length new.trail) (omega (arith, ap length more.1, length-append start.trail more.0)) (omega arith) image (subst (λ trail. IsImage (record new { trail = trail }) image) (sym (take_all (length new.trail) new.trail (omega arith))) is)

pub at_sync : (P : Pages → Type 0) (start old new : Option Past) → AtEach start old P → Ended old new → AtEach start new P
at_sync P start old new at ended = step P (IsActIn (λ _. Unit {0})) start old new at (ended_step (λ _. Unit {0}) old new ended) (each_sync P old new ended (at_end P start old at))

-- and over a call that leaves the past, as a read does, and one that fails and adds no act
pub at_same : (P : Pages → Type 0) (start old new : Option Past) → AtEach start old P → new ≡ old → AtEach start new P
at_same P start old new at e = subst (λ told. AtEach start told P) (sym e) at

pub at_weaker : (P Q : Pages → Type 0) (start new : Option Past) → ((image : Pages) → P image → Q image) → AtEach start new P → AtEach start new Q
at_weaker P Q None None f at = tt
at_weaker P Q None (Some new) f at = at
at_weaker P Q (Some start) None f at = at
at_weaker P Q (Some start) (Some new) f at = record { goes_on = at.goes_on; each = λ count low high image is. f image (at.each count low high image is) }

-- At each moment both, and what holds for each number below k.
pub at_both : (P Q : Pages → Type 0) (start new : Option Past) → AtEach start new P → AtEach start new Q → AtEach start new (λ image. P image × Q image)
at_both P Q None None at more = tt
at_both P Q None (Some new) at more = at
at_both P Q (Some start) None at more = at
at_both P Q (Some start) (Some new) at more = record { goes_on = at.goes_on; each = λ count low high image is. (at.each count low high image is, more.each count low high image is) }

pub at_all : (P : ℕ → Pages → Type 0) (k : ℕ) (start new : Option Past) → Both GoesOn start new → ((i : ℕ) → i < k → AtEach start new (P i)) → AtEach start new (λ image. (i : ℕ) → i < k → P i image)
at_all P k None None on at = tt
at_all P k None (Some new) on at = on
at_all P k (Some start) None on at = on
at_all P k (Some start) (Some new) on at = record { goes_on = on; each = λ count low high image is i lt. (at i lt).each count low high image is }

-- One run after another.
pub at_then : (P : Pages → Type 0) (start mid new : Option Past) → AtEach start mid P → AtEach mid new P → AtEach start new P
at_then P None None None at then = tt
at_then P None None (Some new) at then = then
at_then P None (Some mid) new at then = absurd at
at_then P (Some start) None new at then = absurd at
at_then P (Some start) (Some mid) None at then = absurd then
at_then P (Some start) (Some mid) (Some new) at then =
    let more = at.goes_on.trail in
    let rest = then.goes_on.trail in
    record {
      goes_on = record {
        start = then.goes_on.start ∙ at.goes_on.start;
        trail = (more.0 ++ rest.0, rest.1 ∙ ap (λ (l : List DiskAct). l ++ rest.0) more.1 ∙ append_assoc start.trail more.0 rest.0);
      };
      each = λ count low high image is. elim (cases_lt count (length mid.trail)) [
        | inl lt ↦ at.each count low (omega arith) image
            (let trails : take count new.trail ≡ take count mid.trail = ap (take count) rest.1 ∙ take-append-le count mid.trail rest.0 (omega arith) in
            let same : moment new count ≡ moment mid count = ap (λ (s : Pages). record { start = s; trail = take count new.trail }) then.goes_on.start ∙ ap (λ (t : List DiskAct). record { start = mid.start; trail = t }) trails in
            subst (λ past. IsImage past image) same is)
        | inr le ↦ then.each count le high image is
      ];
    }

-- What each image has for each number below k, each image has for all of them.
pub each_all : (P : ℕ → Pages → Type 0) (k : ℕ) (told : Option Past) → ((i : ℕ) → i < k → EachImage told (P i)) → EachImage told (λ image. (i : ℕ) → i < k → P i image)
each_all P k None h = tt
each_all P k (Some past) h = λ image is i lt. h i lt image is

-- the past has gone on
pub at_goes_on : (P : Pages → Type 0) (start new : Option Past) → AtEach start new P → Both GoesOn start new
at_goes_on P None None at = tt
at_goes_on P None (Some new) at = at
at_goes_on P (Some start) None at = at
at_goes_on P (Some start) (Some new) at = at.goes_on

-- What held at each moment of a run is true of these moments also once more was done.
pub at_moment : (P : Pages → Type 0) (start mid new : Past) → Keeps P start mid → GoesOn mid new → (count : ℕ) → length start.trail ≤ count → count ≤ length mid.trail → (image : Pages) → IsImage (moment new count) image → P image
at_moment P start mid new keeps on count low high image is =
    let trails : take count new.trail ≡ take count mid.trail = ap (take count) on.trail.1 ∙ take-append-le count mid.trail on.trail.0 high in
    let same : moment new count ≡ moment mid count = ap (λ (s : Pages). record { start = s; trail = take count new.trail }) on.start ∙ ap (λ (t : List DiskAct). record { start = mid.start; trail = t }) trails in
    keeps.each count low high image (subst (λ past. IsImage past image) same is)

-- What holds at each moment of a run holds at those from any moment of it on.
pub at_rest : (P : Pages → Type 0) (start mid new : Past) → Keeps P start new → GoesOn start mid → GoesOn mid new → Keeps P mid new
at_rest P start mid new keeps on rest = record {
  goes_on = rest;
  each = λ count low high image is. keeps.each count (omega (arith, low, ap length on.trail.1, length-append start.trail on.trail.0)) high image is;
}
