-- What each call of a resolve at its desk comes to, by its reply.
use Rattle.std.proofs.Common.{inl, inr, ◌≡◌, ℕ, ◌+◌, ◌<◌, ◌++◌, cond, List, [], length, Option, Some, None, IsSomeAnd, refl, sym, subst}
use Rattle.fetch_queue.specs.declared.FetchEnd.{FetchEnd}
use Rattle.fetch_queue.specs.declared.FetchEnd.TheVariants as ends
use Rattle.package_indexes.specs.declared.Choice.{Choice}
use Rattle.package_indexes.specs.declared.Choice.TheVariants as choices
use Rattle.pkg_names.specs.NameAndVariant.{NameAndVariant}
use Rattle.pkg_names.specs.declared.pinned.Pinned.{Pinned}
use Rattle.pkg_names.specs.declared.root.Root.{Root}
use Rattle.pkg_merkle.specs.Merkle.{merkle_root}
use Rattle.repo_source.specs.declared.file.RepoFile.{RepoFile}
use Rattle.repo_source.specs.Repo.{FailedBy, file_under}
use Rattle.store_model.specs.declared.ends.Miss.{Miss}
use Rattle.store_model.specs.declared.ends.Miss.TheVariants as misses
use Rattle.store_model.specs.declared.ends.BeginEnd.{BeginEnd}
use Rattle.store_model.specs.declared.ends.BeginEnd.TheVariants as begins
use Rattle.store_model.specs.declared.ends.WantEnd.TheVariants as wants
use Rattle.store_model.specs.declared.events.Act.TheVariants as acts
use Rattle.store_model.specs.declared.events.CallName.TheVariants as calls
use Rattle.store_model.specs.declared.events.Event.{Event}
use Rattle.store_model.specs.declared.events.LookedAt.{LookedAt}
use Rattle.store_model.specs.declared.replies.Claim.{Claim}
use Rattle.store_model.specs.declared.replies.Ticket.{Ticket}
use Rattle.store_model.specs.declared.replies.BeginReply.{BeginReply}
use Rattle.store_model.specs.declared.replies.BeginReply.TheVariants as begin
use Rattle.store_model.specs.declared.replies.WantReply.{WantReply}
use Rattle.store_model.specs.declared.replies.WantReply.TheVariants as want
use Rattle.store_model.specs.declared.replies.RoomReply.{RoomReply}
use Rattle.store_model.specs.declared.replies.RoomReply.TheVariants as room
use Rattle.store_model.specs.declared.replies.PutReply.{PutReply}
use Rattle.store_model.specs.declared.replies.PutReply.TheVariants as put
use Rattle.store_model.specs.declared.replies.LandReply.{LandReply}
use Rattle.store_model.specs.declared.replies.LandReply.TheVariants as land
use Rattle.store_model.specs.Holding.{HeldTicket}
use Rattle.store_model.specs.Desk.{View, Does, Kept}
use Rattle.store_model.specs.Replies.{Acts, IsBegun, IsWanted, IsRoom, IsPut, IsLanded, IsMissed, IsGivenUp}
use Rattle.store_model.specs.Calls as desk
use Rattle.store_model.specs.Calls.{room_by, Carries, IsLandedWith, IsLandingOf, KeepsAtLand}
use Rattle.resolver.specs.declared.reply.ResolveReply.{ResolveReply}
use Rattle.resolver.specs.declared.reply.ResolveReply.TheVariants as replies
use Rattle.resolver.specs.Serving.{Point, IsChoiceFor, ticket_for, after_begin, after_want, after_room, after_put, after_land, after_miss, Misses, Follows}
use Rattle.resolver.specs.Serving.Point.{Asking, Waiting, Granted, Roomy, Giving, Refused}
use Rattle.resolver.specs.Counting.{is_failure}
use Rattle.resolver.specs.Fetched.{IsListed, HasFile, IsBlob, IsOther, TellsInAct}
use Rattle.resolver.specs.Steps.{Goes, IsFilled, failures_of}
use Rattle.repo_source.proofs.Faults.{failed_same}
use Rattle.resolver.proofs.Goes.{Fits, as_numbered, fits_act, fits_break, goes_does, goes_rests}

-- ---- a package is asked for

-- the count of faults that the event tells of
abbrev pub told_at : BeginReply → ℕ → ℕ → ℕ
told_at (begin.Broken number) before after = before
told_at begin.NoMemory before after = before
told_at reply before after = after

module _ (path : NameAndVariant) (pin : Option Root) (choice : Choice) (listing : Option (List Pinned)) (files : Option (List RepoFile)) (before after : ℕ) where
  failed_once : (reply : BeginEnd) (seen : List LookedAt) → FailedBy (failures_of choice) before after → FailedBy (0 + cond (is_failure (acts.Begin path choice reply seen)) 1 0) before after
  failed_once reply seen rose = elim choice as (λ (c : Choice). FailedBy (failures_of c) before after → FailedBy (0 + cond (is_failure (acts.Begin path c reply seen)) 1 0) before after) [
    | choices.Pinned root ↦ λ h. h
    | choices.Listed root ↦ λ h. h
    | choices.Absent ↦ λ h. h
    | choices.Failed ↦ λ h. h
  ] rose

  -- it was answered
  begun : (reply : BeginReply) (end : BeginEnd) (old new : View) → (does : Does old new (IsBegun path choice reply)) → (seen : List LookedAt) → Acts (acts.Begin path choice end seen) does.event
      → new.fillers ≡ old.fillers → IsChoiceFor pin choice → ((all : List Pinned) → listing ≡ Some all → IsListed all path choice) → FailedBy (failures_of choice) before after
      → Goes 0 (Asking path pin) (after_begin path pin reply) old new listing files before after
  begun reply end old new does seen is fillers chosen lists rose =
      goes_does 0 (0 + cond (is_failure (acts.Begin path choice end seen)) 1 0) (Asking path pin) (after_begin path pin reply) old new (IsBegun path choice reply) listing files before after does fillers
      (record { choice = choice; chosen = chosen; reply = reply; event = does.its; leads = refl })
      (fits_act listing files (length (old.seen ++ does.others) + 1) does.event (acts.Begin path choice end seen) is lists (λ all told. tt))
      (failed_once end seen rose)

  pub begin_goes : (reply : BeginReply) (old new : View) → desk.Begins path choice reply old new → new.fillers ≡ old.fillers → IsChoiceFor pin choice
      → ((all : List Pinned) → listing ≡ Some all → IsListed all path choice) → FailedBy (failures_of choice) before after
      → Goes 0 (Asking path pin) (after_begin path pin reply) old new listing files before (told_at reply before after)
  begin_goes (begin.Made ticket) old new does = begun (begin.Made ticket) (begins.Ticket ticket.root) old new does does.its.1.0 does.its.1.1
  begin_goes begin.InRecovery old new does = begun begin.InRecovery begins.InRecovery old new does does.its.0 does.its.1
  begin_goes begin.NotFound old new does = begun begin.NotFound begins.NotFound old new does does.its.0 does.its.1
  begin_goes begin.ListingFault old new does = begun begin.ListingFault begins.ListingFault old new does does.its.0 does.its.1
  begin_goes begin.DiskRead old new does = begun begin.DiskRead begins.DiskRead old new does does.its.0 does.its.1
  begin_goes (begin.Rotten root got) old new does = begun (begin.Rotten root got) (begins.Rotten root got) old new does does.its.0 does.its.1
  begin_goes (begin.Broken number) old new does = λ fillers chosen lists rose.
      goes_does 0 0 (Asking path pin) (Refused (replies.Broken number)) old new (IsBegun path choice (begin.Broken number)) listing files before before does fillers
      (record { choice = choice; chosen = chosen; reply = begin.Broken number; event = does.its; leads = refl })
      (fits_act listing files (length (old.seen ++ does.others) + 1) does.event (acts.Refused (calls.Begin path) number) does.its (λ all told. tt) (λ all told. tt))
      (failed_same before)
  begin_goes begin.NoMemory old new rests = λ fillers chosen lists rose.
      goes_rests (Asking path pin) old new listing files before before rests fillers (failed_same before)

-- ---- what is missing is asked for

-- how many blobs the reply grants
abbrev pub granted_by : WantReply → ℕ
granted_by (want.Fetch back claim) = 1
granted_by reply = 0

module _ (listing : Option (List Pinned)) (files : Option (List RepoFile)) (faults : ℕ) where
  same : FailedBy 0 faults faults
  same = failed_same faults

  pub want_goes : (path : NameAndVariant) (ticket : Ticket) (reply : WantReply) (old new : View) → desk.Wants ticket reply old new → new.fillers ≡ old.fillers
      → Goes (granted_by reply) (Waiting (ticket_for path ticket)) (after_want (ticket_for path ticket) reply) old new listing files faults faults
  want_goes path ticket (want.Failed cause) old new does fillers =
      let t = ticket_for path ticket in
      goes_does 0 0 (Waiting t) (Refused (replies.Failed cause)) old new (IsWanted ticket.number (want.Failed cause)) listing files faults faults does fillers
      (inl (record { reply = want.Failed cause; event = does.its; leads = refl }))
      (fits_act listing files (length (old.seen ++ does.others) + 1) does.event (acts.Want ticket.number (wants.Failed cause)) does.its (λ all told. tt) (λ all told. tt)) same
  want_goes path ticket (want.Opened dir) old new does fillers =
      let t = ticket_for path ticket in
      goes_does 0 0 (Waiting t) (after_want t (want.Opened dir)) old new (IsWanted ticket.number (want.Opened dir)) listing files faults faults does fillers
      (inl (record { reply = want.Opened dir; event = does.its; leads = refl }))
      (fits_act listing files (length (old.seen ++ does.others) + 1) does.event (acts.Want ticket.number wants.Opened) does.its.1 (λ all told. tt) (λ all told. tt)) same
  want_goes path ticket (want.Fetch back claim) old new is fillers =
      let t = ticket_for path ticket in
      let does = is.0 in
      goes_does 1 0 (Waiting t) (Granted t claim.root) old new (IsWanted ticket.number (want.Fetch back claim)) listing files faults faults does fillers
      (inl (record { reply = want.Fetch back claim; event = does.its; leads = refl }))
      (fits_act listing files (length (old.seen ++ does.others) + 1) does.event (acts.Want ticket.number (wants.Fetch claim.root)) does.its (λ all told. tt) (λ all told. tt)) same
  want_goes path ticket (want.NotYet back bell) old new is fillers =
      goes_rests (Waiting (ticket_for path ticket)) old new listing files faults faults is.0 fillers same
  want_goes path ticket (want.Broken number) old new does fillers =
      let t = ticket_for path ticket in
      goes_does 0 0 (Waiting t) (Refused (replies.Broken number)) old new (IsWanted ticket.number (want.Broken number)) listing files faults faults does fillers
      (inl (record { reply = want.Broken number; event = does.its; leads = refl }))
      (fits_act listing files (length (old.seen ++ does.others) + 1) does.event (acts.Refused (calls.Want ticket.number) number) does.its (λ all told. tt) (λ all told. tt)) same
  want_goes path ticket (want.NoMemory back) old new is fillers =
      goes_rests (Waiting (ticket_for path ticket)) old new listing files faults faults is.0 fillers same

  -- ---- a ticket is given up

  pub give_up_goes : (ticket : HeldTicket) (reply : ResolveReply) (old new : View) → Does old new (IsGivenUp ticket.number) → new.fillers ≡ old.fillers
      → Goes 0 (Giving ticket reply) (Refused reply) old new listing files faults faults
  give_up_goes ticket reply old new does fillers =
      goes_does 0 0 (Giving ticket reply) (Refused reply) old new (IsGivenUp ticket.number) listing files faults faults does fillers
      (record { event = does.its; leads = refl })
      (fits_act listing files (length (old.seen ++ does.others) + 1) does.event (acts.GaveUp ticket.number) does.its (λ all told. tt) (λ all told. tt)) same

  -- for want of memory
  pub cut_goes : (ticket : HeldTicket) (old new : View) → Does old new (IsGivenUp ticket.number) → new.fillers ≡ old.fillers
      → Goes 0 (Waiting ticket) (Refused replies.NoMemory) old new listing files faults faults
  cut_goes ticket old new does fillers =
      goes_does 0 0 (Waiting ticket) (Refused replies.NoMemory) old new (IsGivenUp ticket.number) listing files faults faults does fillers
      (inr (record { event = does.its; leads = refl }))
      (fits_act listing files (length (old.seen ++ does.others) + 1) does.event (acts.GaveUp ticket.number) does.its (λ all told. tt) (λ all told. tt)) same

  -- ---- room is made

  pub room_goes : (ticket : HeldTicket) (claim : Claim) (len : ℕ) (reply : RoomReply) (old new : View) → desk.MakesRoom claim len reply old new → new.fillers ≡ old.fillers
      → ((all : List RepoFile) → files ≡ Some all → HasFile all claim.root (λ (file : RepoFile). file.len ≡ len))
      → Goes 0 (Granted ticket claim.root) (after_room ticket claim.root len reply) old new listing files faults faults
  room_goes ticket claim len (room.Made back) old new is fillers tells =
      let does = is.0 in
      goes_does 0 0 (Granted ticket claim.root) (Roomy ticket claim.root len) old new (IsRoom claim.root len (room.Made back)) listing files faults faults does fillers
      (inl (record { len = len; reply = room.Made back; event = does.its; leads = refl }))
      (fits_act listing files (length (old.seen ++ does.others) + 1) does.event (acts.Room claim.root len None) does.its (λ all told. tt) tells) same
  room_goes ticket claim len (room.Ended end) old new does fillers tells =
      goes_does 0 0 (Granted ticket claim.root) (Waiting ticket) old new (IsRoom claim.root len (room.Ended end)) listing files faults faults does fillers
      (inl (record { len = len; reply = room.Ended end; event = does.its; leads = refl }))
      (fits_act listing files (length (old.seen ++ does.others) + 1) does.event (acts.Room claim.root len (Some end)) does.its (λ all told. tt) tells) same
  room_goes ticket claim len (room.Broken number) old new does fillers tells =
      goes_does 0 0 (Granted ticket claim.root) (Giving ticket (replies.Broken number)) old new (IsRoom claim.root len (room.Broken number)) listing files faults faults does fillers
      (inl (record { len = len; reply = room.Broken number; event = does.its; leads = refl }))
      (fits_act listing files (length (old.seen ++ does.others) + 1) does.event (acts.Refused (calls.Room claim.root) number) does.its (λ all told. tt) (λ all told. tt)) same
  room_goes ticket claim len (room.NoMemory back) old new is fillers tells =
      goes_rests (Granted ticket claim.root) old new listing files faults faults is.0 fillers same

  -- ---- bytes come

  put_broke : (ticket : HeldTicket) (claim : Claim) (len number : ℕ) (old new : View) → (does : Does old new (IsPut claim.root (put.Broken number))) → new.fillers ≡ old.fillers
      → Goes 0 (Roomy ticket claim.root len) (Giving ticket (replies.Broken number)) old new listing files faults faults
  put_broke ticket claim len number old new does fillers =
      goes_does 0 0 (Roomy ticket claim.root len) (Giving ticket (replies.Broken number)) old new (IsPut claim.root (put.Broken number)) listing files faults faults does fillers
      (inl (record { reply = put.Broken number; event = does.its; leads = refl }))
      fits same where
        fits : Fits 0 0 listing files (as_numbered (length (old.seen ++ does.others) + 1) does.event)
        fits = elim does.its [
          | inl refused ↦ fits_act listing files (length (old.seen ++ does.others) + 1) does.event (acts.Refused (calls.Put claim.root) number) refused (λ all told. tt) (λ all told. tt)
          | inr failed ↦ fits_break listing files (length (old.seen ++ does.others) + 1) does.event (acts.Put claim.root None) number failed (λ all told. tt)
        ]

  pub put_goes : (ticket : HeldTicket) (claim : Claim) (len : ℕ) (reply : PutReply) (old new : View) → desk.Puts claim reply old new → new.fillers ≡ old.fillers
      → ((end : FetchEnd) → reply ≡ put.Ended end → (all : List RepoFile) → files ≡ Some all → HasFile all claim.root (λ (file : RepoFile). file.len < length file.bytes))
      → Goes 0 (Roomy ticket claim.root len) (after_put ticket claim.root len reply) old new listing files faults faults
  put_goes ticket claim len (put.Taken back) old new is fillers tells =
      goes_rests (Roomy ticket claim.root len) old new listing files faults faults is.0 fillers same
  put_goes ticket claim len (put.Ended end) old new does fillers tells =
      goes_does 0 0 (Roomy ticket claim.root len) (Waiting ticket) old new (IsPut claim.root (put.Ended end)) listing files faults faults does fillers
      (inl (record { reply = put.Ended end; event = does.its; leads = refl }))
      (fits_act listing files (length (old.seen ++ does.others) + 1) does.event (acts.Put claim.root (Some end)) does.its (λ all told. tt) (tells end refl)) same
  put_goes ticket claim len (put.Broken number) old new does fillers tells = put_broke ticket claim len number old new does fillers

  -- ---- the bytes are whole

  -- what is so of the bytes that were put is so of the file
  of_file : (all : List RepoFile) (root : Root) (bytes : List ℕ) (P : List ℕ → Type 0) → HasFile all root (λ (file : RepoFile). file.bytes ≡ bytes) → P bytes → HasFile all root (λ (file : RepoFile). P file.bytes)
  of_file all root bytes P whole is = within (file_under all root) whole where
    within : (found : Option RepoFile) → IsSomeAnd found (λ (file : RepoFile). file.bytes ≡ bytes) → IsSomeAnd found (λ (file : RepoFile). P file.bytes)
    within None h = h
    within (Some file) h = subst P (sym h) is

  has_file : (all : List RepoFile) (root : Root) (P Q : RepoFile → Type 0) → ((file : RepoFile) → P file → Q file) → HasFile all root P → HasFile all root Q
  has_file all root P Q f h = within (file_under all root) h where
    within : (found : Option RepoFile) → IsSomeAnd found P → IsSomeAnd found Q
    within None h = h
    within (Some file) h = f file h

  -- the bytes have another length or another root
  ended_tells : (root : Root) (len : ℕ) (end : FetchEnd) (all : List RepoFile) (bytes : List ℕ) → IsLandingOf root len (land.Ended end) bytes → HasFile all root (λ (file : RepoFile). file.bytes ≡ bytes)
      → TellsInAct all (acts.Land root len (Some end) [])
  ended_tells root len (ends.Short have) all bytes is whole = of_file all root bytes (λ (b : List ℕ). length b ≡ have) whole (sym is)
  ended_tells root len (ends.Wrong got) all bytes is whole =
      has_file all root (λ (file : RepoFile). (length file.bytes ≡ len) × (merkle_root file.bytes ≡ got)) (IsOther len got) (λ file h. record { size = h.0; other = h.1 })
      (of_file all root bytes (λ (b : List ℕ). (length b ≡ len) × (merkle_root b ≡ got)) whole is)
  ended_tells root len end all bytes is whole = tt

  land_broke : (ticket : HeldTicket) (claim : Claim) (number : ℕ) (old new : View) → (does : Does old new (IsLanded claim.root (room_by old) (land.Broken number))) → new.fillers ≡ old.fillers
      → Goes 0 (Roomy ticket claim.root (room_by old)) (Giving ticket (replies.Broken number)) old new listing files faults faults
  land_broke ticket claim number old new does fillers =
      goes_does 0 0 (Roomy ticket claim.root (room_by old)) (Giving ticket (replies.Broken number)) old new (IsLanded claim.root (room_by old) (land.Broken number)) listing files faults faults does fillers
      (inr (inl (record { reply = land.Broken number; event = does.its; leads = refl })))
      fits same where
        fits : Fits 0 0 listing files (as_numbered (length (old.seen ++ does.others) + 1) does.event)
        fits = elim does.its [
          | inl refused ↦ fits_act listing files (length (old.seen ++ does.others) + 1) does.event (acts.Refused (calls.Land claim.root) number) refused (λ all told. tt) (λ all told. tt)
          | inr failed ↦ fits_break listing files (length (old.seen ++ does.others) + 1) does.event (acts.Land claim.root (room_by old) None []) number failed (λ all told. tt)
        ]

  pub land_goes : (ticket : HeldTicket) (claim : Claim) (reply : LandReply) (before after : Kept) (old new : View) → desk.Lands claim before reply old new → KeepsAtLand claim.root (room_by old) reply before after
      → new.fillers ≡ old.fillers → IsFilled before files claim.root
      → Goes 0 (Roomy ticket claim.root (room_by old)) (after_land ticket claim.root (room_by old) reply) old new listing files faults faults
  land_goes ticket claim land.Landed before after old new does keeps fillers filled =
      let len = room_by old in
      let seen = does.its.0 in
      let is = keeps.1 filled.bytes filled.put in
      goes_does 0 0 (Roomy ticket claim.root len) (Waiting ticket) old new (IsLandedWith claim.root len before) listing files faults faults does fillers
      (inr (inl (record { reply = land.Landed; event = (seen, does.its.1); leads = refl })))
      (fits_act listing files (length (old.seen ++ does.others) + 1) does.event (acts.Land claim.root len None seen) does.its.1 (λ all told. tt)
      (λ all told. has_file all claim.root (λ (file : RepoFile). (length file.bytes ≡ len) × (merkle_root file.bytes ≡ claim.root) × Carries claim.root file.bytes seen) (IsBlob claim.root len seen)
      (λ file h. record { size = h.0; same = h.1; carried = h.2 })
      (of_file all claim.root filled.bytes (λ (b : List ℕ). (length b ≡ len) × (merkle_root b ≡ claim.root) × Carries claim.root b seen) (filled.whole all told) (is.0, is.1, does.its.2 filled.bytes filled.put)))) same
  land_goes ticket claim (land.Ended end) before after old new does keeps fillers filled =
      let len = room_by old in
      goes_does 0 0 (Roomy ticket claim.root len) (Waiting ticket) old new (IsLanded claim.root len (land.Ended end)) listing files faults faults does fillers
      (inr (inl (record { reply = land.Ended end; event = does.its; leads = refl })))
      (fits_act listing files (length (old.seen ++ does.others) + 1) does.event (acts.Land claim.root len (Some end) []) does.its (λ all told. tt)
      (λ all told. ended_tells claim.root len end all filled.bytes (keeps.1 filled.bytes filled.put) (filled.whole all told))) same
  land_goes ticket claim (land.Broken number) before after old new does keeps fillers filled = land_broke ticket claim number old new does fillers
  land_goes ticket claim (land.NoMemory back) before after old new is keeps fillers filled =
      goes_rests (Roomy ticket claim.root (room_by old)) old new listing files faults faults is.0 fillers same

-- ---- the bytes don't come

-- how often the repository failed
abbrev pub failures_at : Miss → ℕ
failures_at misses.Read = 1
failures_at why = 0

module _ (listing : Option (List Pinned)) (files : Option (List RepoFile)) (before after : ℕ) where
  missed : (from : Point) (ticket : HeldTicket) (root : Root) (why : Miss) (old new : View) → ((number : ℕ) (e : Event) → Misses ticket root number e (after_miss ticket why) → Follows from number e (after_miss ticket why))
      → Does old new (IsMissed root why) → new.fillers ≡ old.fillers → FailedBy (failures_at why) before after
      → ((all : List RepoFile) → files ≡ Some all → TellsInAct all (acts.Missed root why))
      → Goes 0 from (after_miss ticket why) old new listing files before after
  missed from ticket root why old new follows does fillers rose tells =
      goes_does 0 (0 + cond (is_failure (acts.Missed root why)) 1 0) from (after_miss ticket why) old new (IsMissed root why) listing files before after does fillers
      (follows (length (old.seen ++ does.others) + 1) does.event (record { why = why; event = does.its; leads = refl }))
      (fits_act listing files (length (old.seen ++ does.others) + 1) does.event (acts.Missed root why) does.its (λ all told. tt) tells)
      (elim why as (λ (w : Miss). FailedBy (failures_at w) before after → FailedBy (0 + cond (is_failure (acts.Missed root w)) 1 0) before after) [
        | misses.Absent ↦ λ h. h
        | misses.Read ↦ λ h. h
        | misses.Memory ↦ λ h. h
      ] rose)

  pub granted_misses : (ticket : HeldTicket) (root : Root) (why : Miss) (old new : View) → Does old new (IsMissed root why) → new.fillers ≡ old.fillers → FailedBy (failures_at why) before after
      → ((all : List RepoFile) → files ≡ Some all → TellsInAct all (acts.Missed root why))
      → Goes 0 (Granted ticket root) (after_miss ticket why) old new listing files before after
  granted_misses ticket root why old new does fillers rose tells = missed (Granted ticket root) ticket root why old new (λ number e h. inr h) does fillers rose tells

  pub roomy_misses : (ticket : HeldTicket) (root : Root) (len : ℕ) (why : Miss) (old new : View) → Does old new (IsMissed root why) → new.fillers ≡ old.fillers → FailedBy (failures_at why) before after
      → ((all : List RepoFile) → files ≡ Some all → TellsInAct all (acts.Missed root why))
      → Goes 0 (Roomy ticket root len) (after_miss ticket why) old new listing files before after
  roomy_misses ticket root len why old new does fillers rose tells = missed (Roomy ticket root len) ticket root why old new (λ number e h. inr (inr h)) does fillers rose tells
