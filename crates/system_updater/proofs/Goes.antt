-- Steps of an update: one event, none, a whole resolve, and one step after another.
use Rattle.std.proofs.Common.{◌≡◌, ℕ, zero, suc, add-zero, add-suc, ◌+◌, Bool, true, false, List, [], ◌∷◌, ◌++◌, length, Option, refl, sym, ap, subst, ◌∙◌, append_assoc, cond}
use Rattle.std.specs.Prelude.{◌↔◌}
use Rattle.std.proofs.lemmas.List.{append-nil}
use Rattle.std.proofs.lemmas.List.Elements.{All-nil, All-cons, All-append}
use Rattle.std.proofs.lemmas.List.Sums.{sum_by-append}
use Rattle.pkg_names.specs.NameAndVariant.{NameAndVariant}
use Rattle.pkg_names.specs.Streams.{one_more, RoseBy}
use Rattle.pkg_names.specs.declared.pinned.Pinned.{Pinned}
use Rattle.pkg_names.specs.declared.root.Root.{Root}
use Rattle.repo_source.specs.declared.file.RepoFile.{RepoFile}
use Rattle.store_model.specs.declared.events.Event.{Event}
use Rattle.store_model.specs.declared.events.Act.{Act}
use Rattle.store_model.specs.declared.events.Act.TheVariants as acts
use Rattle.store_model.specs.declared.events.CallName.TheVariants as calls
use Rattle.store_model.specs.declared.ends.ReadEnd.TheVariants as reads
use Rattle.store_model.specs.declared.ends.RetainEnd.TheVariants as retains
use Rattle.store_model.specs.declared.replies.ReadReply.{ReadReply}
use Rattle.store_model.specs.declared.replies.ReadReply.TheVariants as read
use Rattle.store_model.specs.declared.replies.RetainReply.{RetainReply}
use Rattle.store_model.specs.declared.replies.RetainReply.TheVariants as retain
use Rattle.store_model.specs.Replies.{IsRead, IsRetained}
use Rattle.store_model.specs.History.{Numbered}
use Rattle.store_model.specs.Holding.{Held}
use Rattle.store_model.specs.Desk as desk
use Rattle.store_model.specs.Desk.{View, Stays, Rests, held_by}
use Rattle.resolver.specs.Counting.{is_grant, is_failure, grants, failures, counted}
use Rattle.resolver.specs.Fetched.{Lists, ListsInAct, Tells, TellsInAct, TellsUnless}
use Rattle.resolver.specs.Viewing.{Resolves as Resolved, IsHeldAfter}
use Rattle.resolver.specs.declared.reply.ResolveReply.{ResolveReply}
use Rattle.resolver.specs.declared.reply.ResolveReply.TheVariants as resolved
use Rattle.repo_source.proofs.Faults.{rose_then, rose_same}
use Rattle.resolver.proofs.Handles.{iff_then}
use Rattle.system_updater.specs.Serving.{Point, Follows, Leads, joined}
use Rattle.system_updater.specs.Holding.{IsHeldAt}
use Rattle.system_updater.specs.declared.reply.UpdateReply.{UpdateReply}
use Rattle.system_updater.specs.Viewing.{Told, told, Does, Updates}
use Rattle.system_updater.specs.Steps.{Goes}

-- ---- what the lane did

counted_then : (m n x : ℕ) → counted n (counted m x) ≡ counted (m + n) x
counted_then m zero x = ap (λ (i : ℕ). counted i x) (sym (add-zero m))
counted_then m (suc n) x = ap one_more (counted_then m n x) ∙ ap (λ (i : ℕ). counted i x) (sym (add-suc m n))

grants_then : (xs ys : List Numbered) → grants (xs ++ ys) ≡ grants xs + grants ys
grants_then xs ys = sum_by-append (λ (e : Numbered). cond (is_grant e.event.act) 1 0) xs ys

failures_then : (xs ys : List Numbered) → failures (xs ++ ys) ≡ failures xs + failures ys
failures_then xs ys = sum_by-append (λ (e : Numbered). cond (is_failure e.event.act) 1 0) xs ys

stays_then : (v w u : View) → Stays v w → Stays w u → Stays v u
stays_then v w u h k = record {
  lane = k.lane ∙ h.lane;
  tie = k.tie ∙ h.tie;
  origin = k.origin ∙ h.origin;
}

pub does_none : (v : View) (repo : Told) (F : Type 0) → Does [] v v repo repo F F
does_none v repo F = record {
  stays = record { lane = refl; tie = refl; origin = refl };
  agrees = λ agree. agree;
  more = [];
  seen = sym (append-nil v.seen);
  mine = sym (append-nil v.mine);
  claim = refl;
  asked = refl;
  failed = rose_same repo.faults;
  lists = λ all is. All-nil (Lists all);
  tells = λ all is. All-nil (Tells all);
  listing = refl;
  files = refl;
  firm = (λ is. is, λ is. is);
}

pub does_then : (xs ys : List Numbered) (v w u : View) (r s t : Told) (F G H : Type 0) → Does xs v w r s F G → Does ys w u s t G H → Does (xs ++ ys) v u r t F H
does_then xs ys v w u r s t F G H h k = record {
  stays = stays_then v w u h.stays k.stays;
  agrees = λ agree. k.agrees (h.agrees agree);
  more = h.more ++ k.more;
  seen = k.seen ∙ ap (λ (es : List Event). es ++ k.more) h.seen ∙ append_assoc v.seen h.more k.more;
  mine = k.mine ∙ ap (λ (es : List Numbered). es ++ ys) h.mine ∙ append_assoc v.mine xs ys;
  claim = k.claim ∙ h.claim;
  asked = k.asked ∙ ap (counted (grants ys)) h.asked ∙ counted_then (grants xs) (grants ys) r.fetches ∙ ap (λ (i : ℕ). counted i r.fetches) (sym (grants_then xs ys));
  failed = subst (λ (i : ℕ). RoseBy i r.faults t.faults) (sym (failures_then xs ys)) (rose_then (failures xs) (failures ys) r.faults s.faults t.faults h.failed k.failed);
  lists = λ all is. All-append (Lists all) xs ys (h.lists all is) (k.lists all (h.listing ∙ is));
  tells = λ all is. All-append (Tells all) xs ys (h.tells all is) (k.tells all (h.files ∙ is));
  listing = k.listing ∙ h.listing;
  files = k.files ∙ h.files;
  firm = iff_then F G H h.firm k.firm;
}

-- the act says nothing of a repository
pub record IsPlain (act : Act) : Type 0 where
  pub grant : is_grant act ≡ false
  pub failure : is_failure act ≡ false
  pub lists : (all : List Pinned) → ListsInAct all act
  pub tells : (all : List RepoFile) → TellsInAct all act

-- the event of a call says nothing of a repository
pub record IsPlainEvent (e : Event) : Type 0 where
  pub act : Act
  pub is : e.act ≡ act
  pub plain : IsPlain act

pub plain_by : (act : Act) (e : Event) → e.act ≡ act → is_grant act ≡ false → is_failure act ≡ false → ((all : List Pinned) → ListsInAct all act) → ((all : List RepoFile) → TellsInAct all act) → IsPlainEvent e
plain_by act e is grant failure lists tells = record { act = act; is = is; plain = record { grant = grant; failure = failure; lists = lists; tells = tells } }

-- the read of a file
pub read_plain : (dir : ℕ) (file : List ℕ) (reply : ReadReply) (number : ℕ) (e : Event) → IsRead dir file reply number e → IsPlainEvent e
read_plain dir file (read.Got bytes) number e is = plain_by (acts.Read dir file (reads.Got bytes)) e is.0 refl refl (λ all. tt) (λ all. tt)
read_plain dir file read.BadDir number e is = plain_by (acts.Read dir file reads.BadDir) e is.0 refl refl (λ all. tt) (λ all. tt)
read_plain dir file read.NoFile number e is = plain_by (acts.Read dir file reads.NoFile) e is.0 refl refl (λ all. tt) (λ all. tt)
read_plain dir file (read.TooLong len) number e is = plain_by (acts.Read dir file (reads.TooLong len)) e is.0 refl refl (λ all. tt) (λ all. tt)
read_plain dir file read.DiskRead number e is = plain_by (acts.Read dir file reads.DiskRead) e is.0 refl refl (λ all. tt) (λ all. tt)
read_plain dir file (read.Rotten root got) number e is = plain_by (acts.Read dir file (reads.Rotten root got)) e is.0 refl refl (λ all. tt) (λ all. tt)
read_plain dir file (read.Broken broken) number e is = plain_by (acts.Refused (calls.Read dir file) broken) e is.0 refl refl (λ all. tt) (λ all. tt)
read_plain dir file read.NoMemory number e is = absurd is

-- a retaining
pub retain_plain : (roots : List Root) (count : ℕ) (reply : RetainReply) (number : ℕ) (e : Event) → IsRetained roots count reply number e → IsPlainEvent e
retain_plain roots count retain.Done number e is = plain_by (acts.Retain roots retains.Done is.0) e is.1.0 refl refl (λ all. tt) (λ all. tt)
retain_plain roots count retain.SlotInUse number e is = plain_by (acts.Retain roots retains.SlotInUse is.0) e is.1.0 refl refl (λ all. tt) (λ all. tt)
retain_plain roots count retain.DiskRead number e is = plain_by (acts.Retain roots retains.DiskRead is.0) e is.1.0 refl refl (λ all. tt) (λ all. tt)
retain_plain roots count (retain.Rotten root got) number e is = plain_by (acts.Retain roots (retains.Rotten root got) is.0) e is.1.0 refl refl (λ all. tt) (λ all. tt)
retain_plain roots count (retain.Broken broken) number e is = plain_by (acts.Refused (calls.Retain count) broken) e is.0 refl refl (λ all. tt) (λ all. tt)
retain_plain roots count retain.NoMemory number e is = absurd is

unless : (broke : Bool) (all : List RepoFile) (act : Act) → TellsInAct all act → TellsUnless broke all act
unless true all act is = tt
unless false all act is = is

module _ (old new : View) (repo : Told) (F G : Type 0) where
  -- the call made one event
  pub does_event : (IsIts : ℕ → Event → Type 0) (does : desk.Does old new IsIts) (act : Act) → does.event.act ≡ act → IsPlain act → (held_by new).claim ≡ (held_by old).claim → F ↔ G
      → Does (record { number = length (old.seen ++ does.others) + 1; event = does.event } ∷ []) old new repo repo F G
  does_event IsIts does act is plain claim firm =
      let e : Numbered = record { number = length (old.seen ++ does.others) + 1; event = does.event } in record {
        stays = does.stays;
        agrees = λ agree. record { own = does.own; legal = does.legal };
        more = does.others ++ does.event ∷ [];
        seen = does.seen ∙ append_assoc old.seen does.others (does.event ∷ []);
        mine = does.mine;
        claim = claim;
        asked = sym (ap (λ (a : Act). counted (0 + cond (is_grant a) 1 0) repo.fetches) is ∙ ap (λ (b : Bool). counted (0 + cond b 1 0) repo.fetches) plain.grant);
        failed = subst (λ (n : ℕ). RoseBy n repo.faults repo.faults) (sym (ap (λ (a : Act). 0 + cond (is_failure a) 1 0) is ∙ ap (λ (b : Bool). 0 + cond b 1 0) plain.failure)) (rose_same repo.faults);
        lists = λ all told. All-cons (Lists all) e [] (subst (λ (a : Act). ListsInAct all a) (sym is) (plain.lists all)) (All-nil (Lists all));
        tells = λ all told. All-cons (Tells all) e [] (subst (λ (a : Act). TellsUnless does.event.broke all a) (sym is) (unless does.event.broke all act (plain.tells all))) (All-nil (Tells all));
        listing = refl;
        files = refl;
        firm = firm;
      }

  -- the call made none
  pub does_rest : Rests old new → (held_by new).claim ≡ (held_by old).claim → F ↔ G → Does [] old new repo repo F G
  does_rest rests claim firm = record {
    stays = rests.stays;
    agrees = λ agree. record { own = rests.own; legal = rests.legal };
    more = rests.others;
    seen = rests.seen;
    mine = rests.mine ∙ sym (append-nil old.mine);
    claim = claim;
    asked = refl;
    failed = rose_same repo.faults;
    lists = λ all told. All-nil (Lists all);
    tells = λ all told. All-nil (Tells all);
    listing = refl;
    files = refl;
    firm = firm;
  }

claim_after : (lane : ℕ) (reply : ResolveReply) (old new : Held) → IsHeldAfter lane reply old new → new.claim ≡ old.claim
claim_after lane (resolved.Resolved dir) old new is = ap (λ (h : Held). h.claim) is.1
claim_after lane resolved.InRecovery old new is = ap (λ (h : Held). h.claim) is
claim_after lane resolved.NotFound old new is = ap (λ (h : Held). h.claim) is
claim_after lane resolved.ListingFault old new is = ap (λ (h : Held). h.claim) is
claim_after lane (resolved.Failed cause) old new is = ap (λ (h : Held). h.claim) is
claim_after lane resolved.DiskRead old new is = ap (λ (h : Held). h.claim) is
claim_after lane (resolved.Rotten root got) old new is = ap (λ (h : Held). h.claim) is
claim_after lane (resolved.Broken number) old new is = ap (λ (h : Held). h.claim) is
claim_after lane resolved.NoMemory old new is = ap (λ (h : Held). h.claim) is

-- a whole resolve
pub does_resolve : (path : NameAndVariant) (pin : Option Root) (reply : ResolveReply) (old new : View) (listing listing_now : Option (List Pinned)) (files files_now : Option (List RepoFile)) (x y p q : ℕ) (F G : Type 0)
    → (is : Resolved path pin reply old new listing files x y p q) → listing_now ≡ listing → files_now ≡ files → F ↔ G
    → Does is.run old new (told listing files x p) (told listing_now files_now y q) F G
does_resolve path pin reply old new listing listing_now files files_now x y p q F G is same_listing same_files firm = record {
  stays = is.stays;
  agrees = is.agrees;
  more = is.more;
  seen = is.seen;
  mine = is.grows;
  claim = claim_after old.lane reply (held_by old) (held_by new) is.held;
  asked = is.asked;
  failed = is.failed;
  lists = is.lists;
  tells = is.tells;
  listing = same_listing;
  files = same_files;
  firm = firm;
}

-- a whole update
pub does_update : (path : NameAndVariant) (pin : Option Root) (reply : UpdateReply) (old new : View) (repo repo_now : Told) (F G : Type 0)
    → (is : Updates path pin reply old new repo repo_now) → F ↔ G → Does is.run old new repo repo_now F G
does_update path pin reply old new repo repo_now F G is firm = record {
  stays = is.stays;
  agrees = is.agrees;
  more = is.more;
  seen = is.seen;
  mine = is.grows;
  claim = ap (λ (h : Held). h.claim) is.held;
  asked = is.asked;
  failed = is.failed;
  lists = is.lists;
  tells = is.tells;
  listing = is.listing;
  files = is.files;
  firm = firm;
}

-- ---- one step after another

pub joined_then : (xs ys : List (List Numbered)) → joined (xs ++ ys) ≡ joined xs ++ joined ys
joined_then [] ys = refl
joined_then (x ∷ xs) ys = ap (λ (es : List Numbered). x ++ es) (joined_then xs ys) ∙ sym (append_assoc x (joined xs) (joined ys))

pub leads_then : (a b c : Point) (xs ys : List (List Numbered)) → Leads a xs b → Leads b ys c → Leads a (xs ++ ys) c
leads_then a b c [] ys h k = subst (λ (p : Point). Leads p ys c) (sym h) k
leads_then a b c (x ∷ xs) ys h k = (h.0, h.1, leads_then h.0 b c xs ys h.2 k)

pub goes_then : (a b c : Point) (v w u : View) (r s t : Told) (F G H : Type 0) → Goes a b v w r s F G → Goes b c w u s t G H → Goes a c v u r t F H
goes_then a b c v w u r s t F G H h k = record {
  legs = h.legs ++ k.legs;
  leads = leads_then a b c h.legs k.legs h.leads k.leads;
  does = subst (λ (es : List Numbered). Does es v u r t F H) (sym (joined_then h.legs k.legs)) (does_then (joined h.legs) (joined k.legs) v w u r s t F G H h.does k.does);
  held = λ base is. subst (λ (l : ℕ). IsHeldAt l c base (held_by u)) h.does.stays.lane (k.held base (subst (λ (l : ℕ). IsHeldAt l b base (held_by w)) (sym h.does.stays.lane) (h.held base is)));
}

-- nothing was done
pub goes_none : (p : Point) (v : View) (repo : Told) (F : Type 0) → Goes p p v v repo repo F F
goes_none p v repo F = record { legs = []; leads = refl; does = does_none v repo F; held = λ base is. is }

-- one leg
pub goes_leg : (a b : Point) (leg : List Numbered) (v w : View) (r s : Told) (F G : Type 0) → Follows a leg b → Does leg v w r s F G
    → ((base : Held) → IsHeldAt v.lane a base (held_by v) → IsHeldAt v.lane b base (held_by w)) → Goes a b v w r s F G
goes_leg a b leg v w r s F G follows does held = record {
  legs = leg ∷ [];
  leads = (b, follows, refl);
  does = subst (λ (es : List Numbered). Does es v w r s F G) (sym (append-nil leg)) does;
  held = held;
}

-- a leg that no event shows, where no call was made
pub goes_pass : (a b : Point) (v : View) (repo : Told) (F : Type 0) → Follows a [] b → ((base : Held) → IsHeldAt v.lane a base (held_by v) → IsHeldAt v.lane b base (held_by v)) → Goes a b v v repo repo F F
goes_pass a b v repo F follows held = goes_leg a b [] v v repo repo F F follows (does_none v repo F) held

-- the same point under another name
pub goes_to : (a b c : Point) (v w : View) (r s : Told) (F G : Type 0) → b ≡ c → Goes a b v w r s F G → Goes a c v w r s F G
goes_to a b c v w r s F G same h = subst (λ (p : Point). Goes a p v w r s F G) same h

pub goes_at : (a b c : Point) (v w : View) (r s : Told) (F G : Type 0) → a ≡ b → Goes b c v w r s F G → Goes a c v w r s F G
goes_at a b c v w r s F G same h = subst (λ (p : Point). Goes p c v w r s F G) (sym same) h
