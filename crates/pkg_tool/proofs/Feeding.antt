-- A hasher that is fed a file, piece by piece.
use Rattle.std.proofs.Common.{◌≡◌, ℕ, List, ◌++◌, take, Option, Some, None, sym, ap, ◌∙◌, append_assoc}
use Rattle.std.specs.Option.{option_map}
use Rattle.pkg_names.specs.Streams.{Took}
use Rattle.pkg_merkle.specs.Hasher.{StandsFor}
use Rattle.pkg_merkle.specs.declared.hasher.Hasher.{Hasher}
use Rattle.pkg_tool.specs.Hashing.{Fed}

pieces : (given piece : List ℕ) (first now later : Option (List ℕ)) → first ≡ option_map (λ (rest : List ℕ). given ++ rest) now
    → now ≡ option_map (λ (rest : List ℕ). piece ++ rest) later → first ≡ option_map (λ (rest : List ℕ). (given ++ piece) ++ rest) later
pieces given piece first now None before next = rw next at before
pieces given piece first now (Some rest) before next =
    let joined : first ≡ Some (given ++ (piece ++ rest)) = rw next at before in
    joined ∙ ap Some (sym (append_assoc given piece rest))

pub fed_more : (first now later : Option (List ℕ)) (out : List ℕ) (count : ℕ) (hasher fed : Hasher) → Fed first now hasher → Took now out count later
    → ((blob : List ℕ) → StandsFor hasher blob → StandsFor fed (blob ++ take count out)) → Fed first later fed
fed_more first now later out count hasher fed before took grows = record {
  given = before.given ++ take count out;
  stands = grows before.given before.stands;
  all = pieces before.given (take count out) first now later before.all took.next;
}
