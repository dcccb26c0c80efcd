-- Steps of a resolve: one event, none, and one step after another.
use Rattle.std.proofs.Common.{◌≡◌, ℕ, zero, suc, add-zero, add-suc, ◌+◌, Bool, cond, List, [], ◌∷◌, ◌++◌, length, Option, Some, refl, sym, ap, subst, ◌∙◌, append_assoc, arith}
use Rattle.std.proofs.lemmas.List.{append-nil}
use Rattle.std.proofs.lemmas.List.Elements.{All-nil, All-cons, All-append}
use Rattle.std.proofs.lemmas.List.Sums.{sum_by-append}
use Rattle.pkg_names.specs.Streams.{one_more}
use Rattle.repo_source.specs.Repo.{FailedBy}
use Rattle.repo_source.proofs.Faults.{failed_then}
use Rattle.pkg_names.specs.declared.pinned.Pinned.{Pinned}
use Rattle.repo_source.specs.declared.file.RepoFile.{RepoFile}
use Rattle.store_model.specs.declared.events.Event.{Event}
use Rattle.store_model.specs.declared.events.Act.{Act}
use Rattle.store_model.specs.History.{Numbered}
use Rattle.store_model.specs.Replies.{Acts, Breaks}
use Rattle.store_model.specs.Desk.{View, Stays, Does, Rests}
use Rattle.resolver.specs.Serving.{Point, Follows, Leads}
use Rattle.resolver.specs.Counting.{is_grant, is_failure, grants, failures, counted}
use Rattle.resolver.specs.Fetched.{Lists, ListsInAct, Tells, TellsInAct, TellsUnless}
use Rattle.resolver.specs.Steps.{Goes, Fetches}

-- ---- counts that rise

counted_then : (m n x : ℕ) → counted n (counted m x) ≡ counted (m + n) x
counted_then m zero x = ap (λ (i : ℕ). counted i x) (sym (add-zero m))
counted_then m (suc n) x = ap one_more (counted_then m n x) ∙ ap (λ (i : ℕ). counted i x) (sym (add-suc m n))

-- ---- one event

-- what an event adds to the counts, and that it fits what the repository tells
pub record Fits (granted failed : ℕ) (listing : Option (List Pinned)) (files : Option (List RepoFile)) (e : Numbered) : Type 0 where
  pub grants : grants (e ∷ []) ≡ granted
  pub failures : failures (e ∷ []) ≡ failed
  pub lists : (all : List Pinned) → listing ≡ Some all → Lists all e
  pub tells : (all : List RepoFile) → files ≡ Some all → Tells all e

abbrev pub as_numbered : ℕ → Event → Numbered
as_numbered number e = record { number = number; event = e }

module _ (listing : Option (List Pinned)) (files : Option (List RepoFile)) (number : ℕ) (e : Event) (act : Act) where
  pub fits_act : Acts act e → ((all : List Pinned) → listing ≡ Some all → ListsInAct all act) → ((all : List RepoFile) → files ≡ Some all → TellsInAct all act)
      → Fits (0 + cond (is_grant act) 1 0) (0 + cond (is_failure act) 1 0) listing files (as_numbered number e)
  fits_act is lists tells = record {
    grants = ap (λ (a : Act). 0 + cond (is_grant a) 1 0) is.0;
    failures = ap (λ (a : Act). 0 + cond (is_failure a) 1 0) is.0;
    lists = λ all told. subst (λ (a : Act). ListsInAct all a) (sym is.0) (lists all told);
    tells = λ all told. subst (λ (b : Bool). TellsUnless b all e.act) (sym is.1) (subst (λ (a : Act). TellsInAct all a) (sym is.0) (tells all told));
  }

  -- a write failed
  pub fits_break : (broken : ℕ) → Breaks act broken number e → ((all : List Pinned) → listing ≡ Some all → ListsInAct all act)
      → Fits (0 + cond (is_grant act) 1 0) (0 + cond (is_failure act) 1 0) listing files (as_numbered number e)
  fits_break broken is lists = record {
    grants = ap (λ (a : Act). 0 + cond (is_grant a) 1 0) is.1;
    failures = ap (λ (a : Act). 0 + cond (is_failure a) 1 0) is.1;
    lists = λ all told. subst (λ (a : Act). ListsInAct all a) (sym is.1) (lists all told);
    tells = λ all told. subst (λ (b : Bool). TellsUnless b all e.act) (sym is.2) tt;
  }

stays_then : (v w u : View) → Stays v w → Stays w u → Stays v u
stays_then v w u h k = record {
  lane = k.lane ∙ h.lane;
  tie = k.tie ∙ h.tie;
  origin = k.origin ∙ h.origin;
}

-- the call made one event
pub goes_does : (granted failed : ℕ) (from to : Point) (old new : View) (IsIts : ℕ → Event → Type 0) (listing : Option (List Pinned)) (files : Option (List RepoFile)) (before after : ℕ)
    → (does : Does old new IsIts) → new.fillers ≡ old.fillers → Follows from (length (old.seen ++ does.others) + 1) does.event to
    → Fits granted failed listing files (as_numbered (length (old.seen ++ does.others) + 1) does.event) → FailedBy failed before after
    → Goes granted from to old new listing files before after
goes_does granted failed from to old new IsIts listing files before after does fillers follows fits rose =
    let e : Numbered = as_numbered (length (old.seen ++ does.others) + 1) does.event in record {
      stays = does.stays;
      fillers = fillers;
      agrees = λ agree. record { own = does.own; legal = does.legal };
      more = does.others ++ does.event ∷ [];
      seen = does.seen ∙ append_assoc old.seen does.others (does.event ∷ []);
      run = e ∷ [];
      mine = does.mine;
      leads = (to, follows, refl);
      grants = fits.grants;
      lists = λ all told. All-cons (Lists all) e [] (fits.lists all told) (All-nil (Lists all));
      tells = λ all told. All-cons (Tells all) e [] (fits.tells all told) (All-nil (Tells all));
      faults = subst (λ (n : ℕ). FailedBy n before after) (sym fits.failures) rose;
    }

-- the call made none
pub goes_rests : (from : Point) (old new : View) (listing : Option (List Pinned)) (files : Option (List RepoFile)) (before after : ℕ)
    → Rests old new → new.fillers ≡ old.fillers → FailedBy 0 before after → Goes 0 from from old new listing files before after
goes_rests from old new listing files before after rests fillers rose = record {
  stays = rests.stays;
  fillers = fillers;
  agrees = λ agree. record { own = rests.own; legal = rests.legal };
  more = rests.others;
  seen = rests.seen;
  run = [];
  mine = rests.mine ∙ sym (append-nil old.mine);
  leads = refl;
  grants = refl;
  lists = λ all told. All-nil (Lists all);
  tells = λ all told. All-nil (Tells all);
  faults = rose;
}

-- no call was made
pub goes_none : (from : Point) (v : View) (listing : Option (List Pinned)) (files : Option (List RepoFile)) (before after : ℕ)
    → FailedBy 0 before after → Goes 0 from from v v listing files before after
goes_none from v listing files before after rose = record {
  stays = record { lane = refl; tie = refl; origin = refl };
  fillers = refl;
  agrees = λ agree. agree;
  more = [];
  seen = sym (append-nil v.seen);
  run = [];
  mine = sym (append-nil v.mine);
  leads = refl;
  grants = refl;
  lists = λ all told. All-nil (Lists all);
  tells = λ all told. All-nil (Tells all);
  faults = rose;
}

-- ---- one step after another

leads_then : (a b c : Point) (xs ys : List Numbered) → Leads a xs b → Leads b ys c → Leads a (xs ++ ys) c
leads_then a b c [] ys h k = subst (λ (p : Point). Leads p ys c) (sym h) k
leads_then a b c (x ∷ xs) ys h k = (h.0, h.1, leads_then h.0 b c xs ys h.2 k)

grants_then : (xs ys : List Numbered) → grants (xs ++ ys) ≡ grants xs + grants ys
grants_then xs ys = sum_by-append (λ (e : Numbered). cond (is_grant e.event.act) 1 0) xs ys

failures_then : (xs ys : List Numbered) → failures (xs ++ ys) ≡ failures xs + failures ys
failures_then xs ys = sum_by-append (λ (e : Numbered). cond (is_failure e.event.act) 1 0) xs ys

pub goes_then : (m n : ℕ) (a b c : Point) (v w u : View) (listing : Option (List Pinned)) (files : Option (List RepoFile)) (x y z : ℕ)
    → Goes m a b v w listing files x y → Goes n b c w u listing files y z → Goes (m + n) a c v u listing files x z
goes_then m n a b c v w u listing files x y z h k = record {
  stays = stays_then v w u h.stays k.stays;
  fillers = k.fillers ∙ h.fillers;
  agrees = λ agree. k.agrees (h.agrees agree);
  more = h.more ++ k.more;
  seen = k.seen ∙ ap (λ (es : List Event). es ++ k.more) h.seen ∙ append_assoc v.seen h.more k.more;
  run = h.run ++ k.run;
  mine = k.mine ∙ ap (λ (es : List Numbered). es ++ k.run) h.mine ∙ append_assoc v.mine h.run k.run;
  leads = leads_then a b c h.run k.run h.leads k.leads;
  grants = grants_then h.run k.run ∙ ap (λ (i : ℕ). i + grants k.run) h.grants ∙ ap (λ (i : ℕ). m + i) k.grants;
  lists = λ all told. All-append (Lists all) h.run k.run (h.lists all told) (k.lists all told);
  tells = λ all told. All-append (Tells all) h.run k.run (h.tells all told) (k.tells all told);
  faults = subst (λ (i : ℕ). FailedBy i x z) (sym (failures_then h.run k.run)) (failed_then (failures h.run) (failures k.run) x y z h.faults k.faults);
}

-- the same where the count rose by nothing before
pub goes_from : (n : ℕ) (a b : Point) (v w : View) (listing : Option (List Pinned)) (files : Option (List RepoFile)) (x y z : ℕ) → FailedBy 0 x y
    → Goes n a b v w listing files y z → Goes n a b v w listing files x z
goes_from n a b v w listing files x y z none h =
    subst (λ (k : ℕ). Goes k a b v w listing files x z) zero_more (goes_then 0 n a a b v v w listing files x y z (goes_none a v listing files x y none) h) where
      zero_more : 0 + n ≡ n
      zero_more = omega arith

-- the same where the second step has what the repository tells after the first
pub goes_on : (m n : ℕ) (a b c : Point) (v w u : View) (listing listing_then : Option (List Pinned)) (files files_then : Option (List RepoFile)) (x y z : ℕ)
    → Goes m a b v w listing files x y → listing_then ≡ listing → files_then ≡ files → Goes n b c w u listing_then files_then y z → Goes (m + n) a c v u listing files x z
goes_on m n a b c v w u listing listing_then files files_then x y z h same_listing same_files k =
    goes_then m n a b c v w u listing files x y z h
    (subst (λ (l : Option (List Pinned)). Goes n b c w u l files y z) same_listing (subst (λ (f : Option (List RepoFile)). Goes n b c w u listing_then f y z) same_files k))

pub fetches_on : (a b c : Point) (v w u : View) (listing listing_then : Option (List Pinned)) (files files_then : Option (List RepoFile)) (x y z p q r : ℕ)
    → Fetches a b v w listing files x y p q → listing_then ≡ listing → files_then ≡ files → Fetches b c w u listing_then files_then y z q r → Fetches a c v u listing files x z p r
fetches_on a b c v w u listing listing_then files files_then x y z p q r h same_listing same_files k = record {
  granted = h.granted + k.granted;
  goes = goes_on h.granted k.granted a b c v w u listing listing_then files files_then x y z h.goes same_listing same_files k.goes;
  fetches = k.fetches ∙ ap (counted k.granted) h.fetches ∙ counted_then h.granted k.granted p;
}
