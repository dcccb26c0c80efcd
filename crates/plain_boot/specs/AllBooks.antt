-- What all that is stored says of a system, whatever was looked at of it.
use Rattle.std.specs.Prelude.{ℕ, nat_le, false, List, map, length, if◌then◌else◌}
use Rattle.package_book.specs.declared.book.TheConstants.{META_LIMIT}
use Rattle.package_book.specs.Books.{Meta, Books, Known}
use Rattle.package_book.specs.Books.Meta.{Read, Long}
use Rattle.system_lists.specs.Judging.{AtHand}
use Rattle.store_model.specs.declared.events.LookedAt.{LookedAt}
use Rattle.store_model.specs.State.{State}
use Rattle.plain_state.specs.Judged.{hand_of}

-- the bytes of a meta blob, or its length where it is too long to be read
abbrev pub meta_of : List ℕ → Meta
meta_of bytes = if nat_le (length bytes) META_LIMIT then Read bytes else Long (length bytes)

abbrev pub known_as : LookedAt → Known
known_as pair = record { root = pair.root; meta = meta_of pair.bytes }

-- the books that know each stored blob
abbrev pub all_books : List LookedAt → Books
all_books contents = map known_as contents

-- what is at hand of a system, where the books know each stored blob and each was looked at
abbrev pub all_at_hand : List LookedAt → State → AtHand
all_at_hand contents s = hand_of (record s { books = all_books contents }) contents false
