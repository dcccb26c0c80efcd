-- No root is claimed twice, no claimed root is stored, a lane has one claim at most, and no ticket and no
-- directory stands twice: each event keeps it so.
use Rattle.std.proofs.Common.{◌≡◌, ◌≢◌, ℕ, ◌+◌, ◌<◌, Bool, true, false, cond, not, List, [], ◌∷◌, ◌++◌, ◌||◌, length, Option, Some, None, is_some, All, inl, inr, refl, sym, ap, subst, ◌∙◌, arith}
use Rattle.std.specs.Prelude.{◌==◌, IsSomeAnd, Contains}
use Rattle.std.proofs.lemmas.Bool.{cases_Bool, true≢false, eq-eqb, not-true, or_parts, or_from}
use Rattle.std.proofs.lemmas.List.Elements.{All-nil, All-cons, All-map, All-filter, All-push, All-weaker, All-contains_itself, filter_passes}
use Rattle.std.proofs.lemmas.List.Kept.{AllPairs-filter}
use Rattle.std.proofs.lemmas.List.Quantifiers.{all_pairs_push}
use Rattle.pkg_names.specs.declared.root.Root.{Root}
use Rattle.pkg_names.specs.Root.{root_eq}
use Rattle.pkg_names.proofs.Roots.{root_eq-true, root_eq-same, root_eq-refl}
use Rattle.fetch_queue.specs.declared.FetchEnd.{FetchEnd}
use Rattle.fetch_queue.specs.declared.queue.ClaimEntry.{ClaimEntry}
use Rattle.fetch_queue.specs.Fetches.{is_claimed, roomed, with_room, without_claim}
use Rattle.open_tracker.specs.declared.dirs.DirEntry.{DirEntry}
use Rattle.open_tracker.specs.Directories.{is_of, without}
use Rattle.package_book.specs.Books.{Books}
use Rattle.package_book.specs.Names.{names}
use Rattle.store_model.specs.declared.events.Event.{Event}
use Rattle.store_model.specs.declared.events.CallName.TheVariants as calls
use Rattle.store_model.specs.declared.events.Act.{Act}
use Rattle.store_model.specs.declared.events.Act.TheVariants.{Begin, Want, Room, Put, Land, Missed, GaveUp, OpenPath, Close, Collect, Refused}
use Rattle.store_model.specs.declared.ends.BeginEnd.TheVariants as begins
use Rattle.store_model.specs.declared.ends.WantEnd.TheVariants as wants
use Rattle.store_model.specs.declared.ends.Miss.TheVariants as misses
use Rattle.package_book.specs.declared.fault.PackageFault.{PackageFault}
use Rattle.store_model.specs.State.{State, Stored, Arrival, opened, factory, arrival_of, claim_of, holds_claim, without_ticket, stored_len, is_stored, has_root, without_blobs}
use Rattle.store_model.specs.Packages.{known_fault, is_complete}
use Rattle.store_model.specs.Acts.Marking.{marked, marked_arrivals}
use Rattle.store_model.specs.Acts.Want.{is_free, first_free, answer_for, IsAnswered, IsDueWant, with_directory}
use Rattle.store_model.specs.Acts.Put.{IsRoomOf}
use Rattle.store_model.specs.Step.{IsDue, IsActDue, IsActDueIf, MayWrite, next, next_broken, step}
use Rattle.store_model.specs.History.{Beginning, Origin, start, IsLegalFrom, IsLegal, after_from, after}
use Rattle.store_model.specs.History.Beginning.{Lasted, Factory}
use Rattle.store_model.specs.Lanes.{AreClaims, AreTickets, AreDirs, AreBlobs, StandOnce, IsGranted}
use Rattle.store_model.proofs.LanesLists.{found_passes, found_all, none_passes, AllPairs-map, all_both}
use Rattle.store_model.proofs.LanesLasting.{keeps_rest, left_len}
use Rattle.store_model.proofs.LanesMarks.{marked_ticket}

-- ---- the stock

pub stored_more : (stock : List Stored) (blob : Stored) (root : Root) → is_stored (stock ++ blob ∷ []) root ≡ (is_stored stock root || root_eq blob.root root)
stored_more [] blob root = elim (cases_Bool (root_eq blob.root root)) [ inl holds ↦ rw holds refl | inr lacks ↦ rw lacks refl ]
stored_more (b ∷ stock) blob root = elim (cases_Bool (root_eq b.root root)) [ inl holds ↦ rw holds refl | inr lacks ↦ rw lacks (stored_more stock blob root) ]

-- what is collected is not stored any more, and nothing else is
stored_less : (stock : List Stored) (roots : List Root) (root : Root) → is_stored stock root ≡ false → is_stored (without_blobs stock roots) root ≡ false
stored_less stock roots root out =
    ap (λ (len : Option ℕ). is_some len) (left_len stock roots root) ∙ by_test (has_root roots root) where
      by_test : (b : Bool) → is_some (cond b None (stored_len stock root)) ≡ false
      by_test true = refl
      by_test false = out

apart_from_stock : (stock : List Stored) (root : Root) → is_stored stock root ≡ false → All (λ (b : Stored). b.root ≢ root) stock
apart_from_stock [] root out = All-nil (λ (b : Stored). b.root ≢ root)
apart_from_stock (b ∷ stock) root out =
    elim (cases_Bool (root_eq b.root root)) [
      | inl same ↦ absurd (cc (rw same at out))
      | inr other ↦ All-cons (λ (x : Stored). x.root ≢ root) b stock (λ same. true≢false (sym (root_eq-same b.root root same) ∙ other)) (apart_from_stock stock root (rw other at out))
    ]

-- ---- claims

claims_filtered : (claims : List ClaimEntry) (stock : List Stored) (root : Root) → AreClaims claims stock → AreClaims (without_claim claims root) stock
claims_filtered claims stock root once = record {
  roots = AllPairs-filter (λ (a b : ClaimEntry). a.root ≢ b.root) (λ (c : ClaimEntry). not (root_eq c.root root)) claims once.roots;
  lanes = AllPairs-filter (λ (a b : ClaimEntry). a.lane ≢ b.lane) (λ (c : ClaimEntry). not (root_eq c.root root)) claims once.lanes;
  missing = All-filter (λ (c : ClaimEntry). not (root_eq c.root root)) (λ (c : ClaimEntry). is_stored stock c.root ≡ false) claims once.missing;
}

pub roomed_root : (root : Root) (len : ℕ) (claim : ClaimEntry) → (roomed root len claim).root ≡ claim.root
roomed_root root len claim = elim (cases_Bool (root_eq claim.root root)) [ inl holds ↦ rw holds refl | inr lacks ↦ rw lacks refl ]

pub roomed_lane : (root : Root) (len : ℕ) (claim : ClaimEntry) → (roomed root len claim).lane ≡ claim.lane
roomed_lane root len claim = elim (cases_Bool (root_eq claim.root root)) [ inl holds ↦ rw holds refl | inr lacks ↦ rw lacks refl ]

claims_roomed : (claims : List ClaimEntry) (stock : List Stored) (root : Root) (len : ℕ) → AreClaims claims stock → AreClaims (with_room claims root len) stock
claims_roomed claims stock root len once = record {
  roots = AllPairs-map (λ (c : ClaimEntry). c.root) (roomed root len) (roomed_root root len) claims once.roots;
  lanes = AllPairs-map (λ (c : ClaimEntry). c.lane) (roomed root len) (roomed_lane root len) claims once.lanes;
  missing = All-map (λ (c : ClaimEntry). is_stored stock c.root ≡ false) (roomed root len) claims
      (All-weaker (λ (c : ClaimEntry). is_stored stock c.root ≡ false) (λ (c : ClaimEntry). is_stored stock (roomed root len c).root ≡ false) (λ c out. ap (is_stored stock) (roomed_root root len c) ∙ out) claims once.missing);
}

claims_more : (claims : List ClaimEntry) (stock : List Stored) (claim : ClaimEntry) → AreClaims claims stock → is_claimed claims claim.root ≡ false → is_stored stock claim.root ≡ false → holds_claim claims claim.lane ≡ false → AreClaims (claims ++ claim ∷ []) stock
claims_more claims stock claim once free out none = record {
  roots = all_pairs_push (λ (a b : ClaimEntry). a.root ≢ b.root) claims claim once.roots
      (λ k d lt same. true≢false (sym (root_eq-same _ _ same) ∙ none_passes (λ (c : ClaimEntry). root_eq c.root claim.root) claims free k d lt));
  lanes = all_pairs_push (λ (a b : ClaimEntry). a.lane ≢ b.lane) claims claim once.lanes
      (λ k d lt same. true≢false (sym (eq-eqb _ _ same) ∙ none_passes (λ (c : ClaimEntry). c.lane == claim.lane) claims none k d lt));
  missing = All-push (λ (c : ClaimEntry). is_stored stock c.root ≡ false) claims claim once.missing out;
}

claims_landed : (claims : List ClaimEntry) (stock : List Stored) (blob : Stored) → AreClaims claims stock → AreClaims (without_claim claims blob.root) (stock ++ blob ∷ [])
claims_landed claims stock blob once =
    let left = claims_filtered claims stock blob.root once in
    record {
      roots = left.roots;
      lanes = left.lanes;
      missing = all_both (λ (c : ClaimEntry). is_stored stock c.root ≡ false) (λ (c : ClaimEntry). not (root_eq c.root blob.root) ≡ true) (λ (c : ClaimEntry). is_stored (stock ++ blob ∷ []) c.root ≡ false)
          (λ c out other. stored_more stock blob c.root ∙ or_from _ _ out (swapped blob.root c.root (not-true _ other)))
          (without_claim claims blob.root) left.missing (filter_passes (λ (c : ClaimEntry). not (root_eq c.root blob.root)) claims);
    } where
      swapped : (a b : Root) → root_eq b a ≡ false → root_eq a b ≡ false
      swapped a b lacks = elim (cases_Bool (root_eq a b)) [ inl holds ↦ absurd (true≢false (sym (root_eq-same b a (sym (root_eq-true a b holds))) ∙ lacks)) | inr other ↦ other ]

claims_collected : (claims : List ClaimEntry) (stock : List Stored) (roots : List Root) → AreClaims claims stock → AreClaims claims (without_blobs stock roots)
claims_collected claims stock roots once = record {
  roots = once.roots;
  lanes = once.lanes;
  missing = All-weaker (λ (c : ClaimEntry). is_stored stock c.root ≡ false) (λ (c : ClaimEntry). is_stored (without_blobs stock roots) c.root ≡ false) (λ c out. stored_less stock roots c.root out) claims once.missing;
}

claims_kept : (s t : State) → t.claims ≡ s.claims → t.stock ≡ s.stock → AreClaims s.claims s.stock → AreClaims t.claims t.stock
claims_kept s t claims stock once = rw (claims, stock) once

-- ---- what is granted

-- the answer that a blob is to be fetched
free_answer : (mark : Option FetchEnd) (fault : Option PackageFault) (complete : Bool) (free : Option Root) (root : Root) → answer_for mark fault complete free ≡ Some (wants.Fetch root) → free ≡ Some root
free_answer (Some end) fault complete free root is = absurd (cc)
free_answer None (Some why) complete free root is = absurd (cc)
free_answer None None true free root is = absurd (cc)
free_answer None None false (Some other) root is = cc
free_answer None None false None root is = absurd (cc)

granted_for : (s : State) (lane ticket : ℕ) (root : Root) (found : Option Arrival) → arrival_of s.arriving ticket ≡ found → IsSomeAnd found (IsAnswered s lane (wants.Fetch root)) → IsGranted s lane ticket root
granted_for s lane ticket root None is due = absurd due
granted_for s lane ticket root (Some arrival) is due =
    let free = free_answer arrival.mark (known_fault s.books arrival.root) (is_complete s arrival.root) (first_free s arrival.root) root due.answer in
    let both = or_parts _ _ (not-true _ (found_passes (is_free s) (names arrival.root s.books) root free)) in
    record {
      arrival = arrival;
      found = is;
      lane = due.lane;
      named = found_all (is_free s) (Contains (names arrival.root s.books)) (names arrival.root s.books) root free (All-contains_itself (names arrival.root s.books));
      stored = both.0;
      claimed = both.1;
      none = due.free;
    }

pub granted : (s : State) (lane ticket : ℕ) (root : Root) → IsDueWant s lane ticket (wants.Fetch root) → IsGranted s lane ticket root
granted s lane ticket root due = granted_for s lane ticket root (arrival_of s.arriving ticket) refl due

-- ---- each event

pub claims_next : (s : State) (number lane : ℕ) (act : Act) → IsActDue s lane act → AreClaims s.claims s.stock → AreClaims (next s number lane act).claims (next s number lane act).stock
claims_next s number lane (Want ticket (wants.Fetch root)) due once =
    let grant = granted s lane ticket root due in
    claims_more s.claims s.stock (record { root = root; lane = lane; len = None }) once grant.claimed grant.stored grant.none
claims_next s number lane (Want ticket wants.Opened) due once = once
claims_next s number lane (Want ticket (wants.Failed cause)) due once = once
claims_next s number lane (Room root len None) due once = claims_roomed s.claims s.stock root len once
claims_next s number lane (Room root len (Some end)) due once = claims_filtered s.claims s.stock root once
claims_next s number lane (Put root None) due once = once
claims_next s number lane (Put root (Some end)) due once = claims_filtered s.claims s.stock root once
claims_next s number lane (Land root len None seen) due once = claims_landed s.claims s.stock (record { root = root; len = len }) once
claims_next s number lane (Land root len (Some end) seen) due once = claims_filtered s.claims s.stock root once
claims_next s number lane (Missed root misses.Absent) due once = claims_filtered s.claims s.stock root once
claims_next s number lane (Missed root misses.Read) due once = claims_filtered s.claims s.stock root once
claims_next s number lane (Missed root misses.Memory) due once = claims_filtered s.claims s.stock root once
claims_next s number lane (Refused (calls.Room root) broken) due once = claims_filtered s.claims s.stock root once
claims_next s number lane (Refused (calls.Put root) broken) due once = claims_filtered s.claims s.stock root once
claims_next s number lane (Refused (calls.Land root) broken) due once = claims_filtered s.claims s.stock root once
claims_next s number lane (Refused call broken) due once = once
claims_next s number lane (Collect None) due once = once
claims_next s number lane (Collect (Some roots)) due once = claims_collected s.claims s.stock roots once
claims_next s number lane act due once =
    let kept = keeps_rest s number (record { lane = lane; act = act; broke = false }) in
    claims_kept s (next s number lane act) (kept.claims refl) (kept.stock refl) once

-- ---- tickets

tickets_later : (arriving : List Arrival) (number : ℕ) → AreTickets arriving number → AreTickets arriving (number + 1)
tickets_later arriving number once = record {
  apart = once.apart;
  before = All-weaker (λ (a : Arrival). a.ticket < number) (λ (a : Arrival). a.ticket < number + 1) (λ a lt. omega arith) arriving once.before;
}

tickets_filtered : (arriving : List Arrival) (number gone : ℕ) → AreTickets arriving number → AreTickets (without_ticket arriving gone) (number + 1)
tickets_filtered arriving number gone once =
    let later = tickets_later arriving number once in
    record {
      apart = AllPairs-filter (λ (a b : Arrival). a.ticket ≢ b.ticket) (λ (a : Arrival). not (a.ticket == gone)) arriving once.apart;
      before = All-filter (λ (a : Arrival). not (a.ticket == gone)) (λ (a : Arrival). a.ticket < number + 1) arriving later.before;
    }

tickets_marked : (s : State) (number : ℕ) (root : Root) (end : FetchEnd) → AreTickets s.arriving number → AreTickets (marked_arrivals s root end) (number + 1)
tickets_marked s number root end once = record {
  apart = AllPairs-map (λ (a : Arrival). a.ticket) (marked s.books root end) (marked_ticket s.books root end) s.arriving once.apart;
  before = All-map (λ (a : Arrival). a.ticket < number + 1) (marked s.books root end) s.arriving
      (All-weaker (λ (a : Arrival). a.ticket < number) (λ (a : Arrival). (marked s.books root end a).ticket < number + 1) (λ a lt. rw (marked_ticket s.books root end a) (omega arith)) s.arriving once.before);
}

tickets_more : (arriving : List Arrival) (number : ℕ) (arrival : Arrival) → arrival.ticket ≡ number → AreTickets arriving number → AreTickets (arriving ++ arrival ∷ []) (number + 1)
tickets_more arriving number arrival is once =
    let later = tickets_later arriving number once in
    record {
      apart = all_pairs_push (λ (a b : Arrival). a.ticket ≢ b.ticket) arriving arrival once.apart (λ k d lt same. let below = once.before k d lt in absurd (omega arith));
      before = All-push (λ (a : Arrival). a.ticket < number + 1) arriving arrival later.before (omega arith);
    }

tickets_kept : (arriving others : List Arrival) (number : ℕ) → others ≡ arriving → AreTickets arriving number → AreTickets others (number + 1)
tickets_kept arriving others number is once = rw is (tickets_later arriving number once)

tickets_next : (s : State) (number lane : ℕ) (act : Act) → AreTickets s.arriving number → AreTickets (next s number lane act).arriving (number + 1)
tickets_next s number lane (Begin path choice (begins.Ticket root) seen) once =
    tickets_more s.arriving number (record { ticket = number; lane = lane; path = path; root = root; mark = None }) refl once
tickets_next s number lane (Begin path choice reply seen) once = tickets_later s.arriving number once
tickets_next s number lane (Want gone wants.Opened) once = tickets_filtered s.arriving number gone once
tickets_next s number lane (Want gone (wants.Failed cause)) once = tickets_filtered s.arriving number gone once
tickets_next s number lane (Want gone (wants.Fetch root)) once = tickets_later s.arriving number once
tickets_next s number lane (GaveUp gone) once = tickets_filtered s.arriving number gone once
tickets_next s number lane (Refused (calls.Want gone) broken) once = tickets_filtered s.arriving number gone once
tickets_next s number lane (Refused call broken) once = tickets_later s.arriving number once
tickets_next s number lane (Room root len None) once = tickets_later s.arriving number once
tickets_next s number lane (Room root len (Some end)) once = tickets_marked s number root end once
tickets_next s number lane (Put root None) once = tickets_later s.arriving number once
tickets_next s number lane (Put root (Some end)) once = tickets_marked s number root end once
tickets_next s number lane (Land root len None seen) once = tickets_later s.arriving number once
tickets_next s number lane (Land root len (Some end) seen) once = tickets_marked s number root end once
tickets_next s number lane (Missed root misses.Absent) once = tickets_marked s number root _ once
tickets_next s number lane (Missed root misses.Read) once = tickets_marked s number root _ once
tickets_next s number lane (Missed root misses.Memory) once = tickets_later s.arriving number once
tickets_next s number lane act once =
    tickets_kept s.arriving (next s number lane act).arriving number ((keeps_rest s number (record { lane = lane; act = act; broke = false })).arriving refl) once

-- ---- directories

dirs_later : (dirs : List DirEntry) (number : ℕ) → AreDirs dirs number → AreDirs dirs (number + 1)
dirs_later dirs number once = record {
  apart = once.apart;
  before = All-weaker (λ (d : DirEntry). d.number < number) (λ (d : DirEntry). d.number < number + 1) (λ d lt. omega arith) dirs once.before;
}

dirs_filtered : (dirs : List DirEntry) (number gone lane : ℕ) → AreDirs dirs number → AreDirs (without dirs gone lane) (number + 1)
dirs_filtered dirs number gone lane once =
    let later = dirs_later dirs number once in
    record {
      apart = AllPairs-filter (λ (a b : DirEntry). a.number ≢ b.number) (λ (d : DirEntry). not (is_of d gone lane)) dirs once.apart;
      before = All-filter (λ (d : DirEntry). not (is_of d gone lane)) (λ (d : DirEntry). d.number < number + 1) dirs later.before;
    }

dirs_more : (dirs : List DirEntry) (number lane : ℕ) (root : Root) → AreDirs dirs number → AreDirs (dirs ++ record { number = number; lane = lane; root = root } ∷ []) (number + 1)
dirs_more dirs number lane root once =
    let later = dirs_later dirs number once in
    record {
      apart = all_pairs_push (λ (a b : DirEntry). a.number ≢ b.number) dirs (record { number = number; lane = lane; root = root }) once.apart (λ k d lt same. let below = once.before k d lt in absurd (omega arith));
      before = All-push (λ (d : DirEntry). d.number < number + 1) dirs (record { number = number; lane = lane; root = root }) later.before (omega arith);
    }

dirs_kept : (dirs others : List DirEntry) (number : ℕ) → others ≡ dirs → AreDirs dirs number → AreDirs others (number + 1)
dirs_kept dirs others number is once = rw is (dirs_later dirs number once)

dirs_opened : (dirs : List DirEntry) (number lane : ℕ) (found : Option Arrival) → AreDirs dirs number → AreDirs (with_directory dirs number lane found) (number + 1)
dirs_opened dirs number lane None once = dirs_later dirs number once
dirs_opened dirs number lane (Some arrival) once = dirs_more dirs number lane arrival.root once

dirs_next : (s : State) (number lane : ℕ) (act : Act) → AreDirs s.dirs number → AreDirs (next s number lane act).dirs (number + 1)
dirs_next s number lane (Want ticket wants.Opened) once = dirs_opened s.dirs number lane (arrival_of s.arriving ticket) once
dirs_next s number lane (Want ticket reply) once = dirs_later s.dirs number once
dirs_next s number lane (OpenPath path None) once = dirs_later s.dirs number once
dirs_next s number lane (OpenPath path (Some root)) once = dirs_more s.dirs number lane root once
dirs_next s number lane (Close dir closed) once = dirs_filtered s.dirs number dir lane once
dirs_next s number lane act once =
    dirs_kept s.dirs (next s number lane act).dirs number ((keeps_rest s number (record { lane = lane; act = act; broke = false })).dirs refl) once

-- ---- the event, and the history

once_next : (s : State) (number lane : ℕ) (act : Act) → IsActDue s lane act → StandOnce s number → StandOnce (next s number lane act) (number + 1)
once_next s number lane act due once = record {
  claims = claims_next s number lane act due once.claims;
  tickets = tickets_next s number lane act once.tickets;
  dirs = dirs_next s number lane act once.dirs;
}

pub broken_claims : (s : State) (number : ℕ) (act : Act) → AreClaims s.claims s.stock → AreClaims (next_broken s number act).claims s.stock
broken_claims s number (Put root reply) once = claims_filtered s.claims s.stock root once
broken_claims s number (Land root len reply seen) once = claims_filtered s.claims s.stock root once
broken_claims s number act once = once

pub once_after : (s : State) (number : ℕ) (e : Event) → IsDue s number e → StandOnce s number → StandOnce (step s number e) (number + 1)
once_after s number e due once = by_broke e.broke due.due where
  settled : (t : State) → StandOnce t (number + 1) → (books : Books) → StandOnce (record t { books = books }) (number + 1)
  settled t so books = record { claims = so.claims; tickets = so.tickets; dirs = so.dirs }

  by_broke : (b : Bool) → IsActDueIf b s number e.lane e.act → StandOnce (record (cond b (next_broken s number e.act) (next s number e.lane e.act)) { books = (step s number e).books }) (number + 1)
  by_broke true may = record {
    claims = broken_claims s number e.act once.claims;
    tickets = tickets_later s.arriving number once.tickets;
    dirs = dirs_later s.dirs number once.dirs;
  }
  by_broke false act_due = settled (next s number e.lane e.act) (once_next s number e.lane e.act act_due once) (step s number e).books

pub once_start : (origin : Origin) → StandOnce (start origin) 1
once_start origin = by_beginning origin.beginning where
  empty : (s : State) → s.claims ≡ [] → s.arriving ≡ [] → s.dirs ≡ [] → StandOnce s 1
  empty s claims arriving dirs = record {
    claims = rw claims (record { roots = λ i j d lt inside. absurd (omega arith); lanes = λ i j d lt inside. absurd (omega arith); missing = All-nil _ });
    tickets = rw arriving (record { apart = λ i j d lt inside. absurd (omega arith); before = All-nil _ });
    dirs = rw dirs (record { apart = λ i j d lt inside. absurd (omega arith); before = All-nil _ });
  }

  by_beginning : (beginning : Beginning) → StandOnce (start (record { geometry = origin.geometry; beginning = beginning })) 1
  by_beginning (Lasted d) = empty (opened origin.geometry d) refl refl refl
  by_beginning Factory = empty (factory origin.geometry) refl refl refl

once_from : (s : State) (number : ℕ) (history : List Event) → IsLegalFrom s number history → StandOnce s number → StandOnce (after_from s number history) (number + length history)
once_from s number [] legal once = subst (StandOnce s) (omega arith) once
once_from s number (e ∷ history) legal once =
    subst (StandOnce (after_from (step s number e) (number + 1) history)) (omega arith)
    (once_from (step s number e) (number + 1) history legal.1 (once_after s number e legal.0 once))

pub stand_once : (origin : Origin) (history : List Event) → IsLegal origin history → StandOnce (after origin history) (length history + 1)
stand_once origin history legal =
    subst (StandOnce (after origin history)) (omega arith) (once_from (start origin) 1 history legal (once_start origin))

-- ---- a grant

changes_nothing : (s : State) (number lane ticket : ℕ) (root : Root) → MayWrite s number lane (Want ticket (wants.Fetch root)) → ⊥
changes_nothing s number lane ticket root may = may.1 refl refl

-- the condition of a want that is answered by a blob, and that no write failed in it
want_due : (s : State) (number lane ticket : ℕ) (root : Root) (act : Act) (broke : Bool) → act ≡ Want ticket (wants.Fetch root) → IsActDueIf broke s number lane act → (broke ≡ false) × IsDueWant s lane ticket (wants.Fetch root)
want_due s number lane ticket root act true is due = absurd (changes_nothing s number lane ticket root (subst (MayWrite s number lane) is due.0))
want_due s number lane ticket root act false is due = (refl, subst (IsActDue s lane) is due)

pub granted_once : (s : State) (number : ℕ) (e : Event) (ticket : ℕ) (root : Root) → IsDue s number e → e.act ≡ Want ticket (wants.Fetch root) → IsGranted s e.lane ticket root
granted_once s number e ticket root due is = granted s e.lane ticket root (want_due s number e.lane ticket root e.act e.broke is due.due).1

claim_made : (claims : List ClaimEntry) (claim : ClaimEntry) → is_claimed claims claim.root ≡ false → claim_of (claims ++ claim ∷ []) claim.root ≡ Some claim
claim_made [] claim free = rw (root_eq-refl claim.root) refl
claim_made (c ∷ claims) claim free =
    let both = or_parts (root_eq c.root claim.root) (is_claimed claims claim.root) free in
    rw both.0 (claim_made claims claim both.1)

pub made_then : (s : State) (number : ℕ) (e : Event) (ticket : ℕ) (root : Root) → IsDue s number e → e.act ≡ Want ticket (wants.Fetch root) → claim_of (step s number e).claims root ≡ Some (record { root = root; lane = e.lane; len = None })
made_then s number e ticket root due is =
    let want = want_due s number e.lane ticket root e.act e.broke is due.due in
    let grant = granted s e.lane ticket root want.1 in
    rw (want.0, is) (claim_made s.claims (record { root = root; lane = e.lane; len = None }) grant.claimed)

-- ---- the stock

pub claimed_missing : (s : State) (root : Root) (P : ClaimEntry → Type 0) (found : Option ClaimEntry) → claim_of s.claims root ≡ found → IsSomeAnd found P → AreClaims s.claims s.stock → is_stored s.stock root ≡ false
claimed_missing s root P None is due once = absurd due
claimed_missing s root P (Some claim) is due once =
    let own = root_eq-true claim.root root (found_passes (λ (c : ClaimEntry). root_eq c.root root) s.claims claim is) in
    let out = found_all (λ (c : ClaimEntry). root_eq c.root root) (λ (c : ClaimEntry). is_stored s.stock c.root ≡ false) s.claims claim is once.missing in
    subst (λ (r : Root). is_stored s.stock r ≡ false) own out

pub blobs_next : (s : State) (number lane : ℕ) (act : Act) → IsActDue s lane act → AreClaims s.claims s.stock → AreBlobs s.stock → AreBlobs (next s number lane act).stock
blobs_next s number lane (Land root len None seen) due once blobs =
    all_pairs_push (λ (a b : Stored). a.root ≢ b.root) s.stock (record { root = root; len = len }) blobs
    (apart_from_stock s.stock root (claimed_missing s root (IsRoomOf lane len) (claim_of s.claims root) refl due.0 once))
blobs_next s number lane (Land root len (Some end) seen) due once blobs = blobs
blobs_next s number lane (Collect None) due once blobs = blobs
blobs_next s number lane (Collect (Some roots)) due once blobs =
    AllPairs-filter (λ (a b : Stored). a.root ≢ b.root) (λ (b : Stored). not (has_root roots b.root)) s.stock blobs
blobs_next s number lane act due once blobs =
    rw ((keeps_rest s number (record { lane = lane; act = act; broke = false })).stock refl) blobs

pub blobs_after : (s : State) (number : ℕ) (e : Event) → IsDue s number e → AreClaims s.claims s.stock → AreBlobs s.stock → AreBlobs (step s number e).stock
blobs_after s number e due once blobs = by_broke e.broke due.due where
  by_broke : (b : Bool) → IsActDueIf b s number e.lane e.act → AreBlobs (cond b (next_broken s number e.act) (next s number e.lane e.act)).stock
  by_broke true may = blobs
  by_broke false act_due = blobs_next s number e.lane e.act act_due once blobs

blobs_from : (s : State) (number : ℕ) (history : List Event) → IsLegalFrom s number history → StandOnce s number → AreBlobs s.stock → AreBlobs (after_from s number history).stock
blobs_from s number [] legal once blobs = blobs
blobs_from s number (e ∷ history) legal once blobs =
    blobs_from (step s number e) (number + 1) history legal.1 (once_after s number e legal.0 once) (blobs_after s number e legal.0 once.claims blobs)

pub stored_once : (origin : Origin) (history : List Event) → AreBlobs (start origin).stock → IsLegal origin history → AreBlobs (after origin history).stock
stored_once origin history blobs legal = blobs_from (start origin) 1 history legal (once_start origin) blobs
