-- What the boot has looked at suffices: its verdict is the one by all that is stored.
use Rattle.std.proofs.Common.{◌≡◌, ℕ, true, false, List, [], Option, Some, None, is_some, refl, sym, ap, subst, ◌∙◌}
use Rattle.std.specs.Prelude.{option_and_then}
use Rattle.std.specs.Option.{option_map}
use Rattle.std.proofs.lemmas.Bool.{true≢false}
use Rattle.pkg_names.specs.declared.root.Root.{Root}
use Rattle.package_book.specs.Books.{Meta, book_at}
use Rattle.package_book.specs.Books.Meta.{Read}
use Rattle.system_lists.specs.Judging.{AtHand, Verdict, static_name, cached_name, judged}
use Rattle.system_judge.specs.Listed.{listed}
use Rattle.store_model.specs.declared.events.LookedAt.{LookedAt}
use Rattle.store_model.specs.State.{State}
use Rattle.store_model.specs.Packages.{book_of, the_book}
use Rattle.store_model.specs.Systems.{seen_bytes}
use Rattle.store_model.proofs.SameBooks.{with_books}
use Rattle.plain_stock.specs.Contents.{AreBytesOf}
use Rattle.plain_state.specs.Learning.{looked_at}
use Rattle.plain_state.specs.Looking.{LearnsAll, AreFrom, Sees, IsLearned, AreLearned}
use Rattle.plain_state.specs.Judged.{outer_in, hand_of, IsListSeen, AreListsSeen, IsJudged}
use Rattle.plain_state.proofs.Looking.{sees_then}
use Rattle.plain_state.proofs.Learned.{learns_seen}
use Rattle.plain_state.proofs.Hands.{hand_so}
use Rattle.plain_state.proofs.Verdicts.{judged_by, lists_read}
use Rattle.plain_boot.specs.AllBooks.{all_books, all_at_hand}
use Rattle.plain_boot.specs.Looking.{HasLookedAt, WasJudged}
use Rattle.plain_boot.proofs.AllBooks.{SameBook, from_at, learned_at, same_at, same_bytes}
use Rattle.plain_boot.proofs.Agreeing.{hand, SameList, Agree, same_listed, same_verdict}

-- ---- one look after another

learned_stays : (contents seen more : List LookedAt) (t u : State) (root : Root) → Sees contents seen more t u → IsLearned contents t root → IsLearned contents u root
learned_stays contents seen more t u root sees learned bytes at short =
    let known = learned bytes at short in
    ap (λ (m : Option Meta). is_some m) (sees.known root known) ∙ known

-- a package that was looked at where that could be is known as then
package_stays : (contents before seen : List LookedAt) (t u v : State) (root : Root) → t.books ≡ [] → LearnsAll seen t v → AreFrom contents seen → Sees contents before seen u v → IsLearned contents u root → book_at v.books root ≡ book_at u.books root
package_stays contents before seen t u v root none learns from sees learned = first (book_at u.books root) refl (seen_bytes seen root) refl where
  now : book_at v.books root ≡ looked_at seen root
  now = learned_at seen t v root none learns

  first : (known : Option Meta) → book_at u.books root ≡ known → (found : Option (List ℕ)) → seen_bytes seen root ≡ found → book_at v.books root ≡ book_at u.books root
  first (Some meta) e found is = sees.known root (ap (λ (m : Option Meta). is_some m) e)
  first None e None is = now ∙ ap (option_map Read) is ∙ sym e
  first None e (Some bytes) is =
      let it = from_at contents seen root bytes from is in
      absurd (true≢false (sym (learned bytes it.at it.short) ∙ ap (λ (m : Option Meta). is_some m) e))

list_stays : (contents seen more : List LookedAt) (u v : State) (system : Root) (name : List ℕ) → ((root : Root) → is_some (seen_bytes seen root) ≡ true → is_some (seen_bytes more root) ≡ true) → book_at v.books system ≡ book_at u.books system
    → IsListSeen contents seen u system name → IsListSeen contents more v system name
list_stays contents seen more u v system name stays same looked root at bytes has short =
    stays root (looked root (ap (λ (m : Option Meta). outer_in (option_and_then (λ meta. the_book (book_of meta)) m) name) (sym same) ∙ at) bytes has short)

lists_stay : (contents seen more : List LookedAt) (u v : State) (system : Root) → ((root : Root) → is_some (seen_bytes seen root) ≡ true → is_some (seen_bytes more root) ≡ true) → book_at v.books system ≡ book_at u.books system
    → AreListsSeen contents seen u system → AreListsSeen contents more v system
lists_stay contents seen more u v system stays same looked = record {
  base = list_stays contents seen more u v system static_name stays same looked.base;
  cached = list_stays contents seen more u v system cached_name stays same looked.cached;
}

-- ---- what was looked at and all that is stored

list_agrees : (contents seen : List LookedAt) (t u : State) (system : Root) (name : List ℕ) → AreBytesOf contents t.stock → AreFrom contents seen → SameBook (book_at u.books system) (book_at (all_books contents) system) → IsListSeen contents seen u system name
    → (list : Root) → (hand t (all_books contents) contents).outer system name ≡ Some list → SameList t seen contents list
list_agrees contents seen t u system name all from same looked list at =
    same_bytes contents seen t.stock list all from (looked list (ap (λ o. outer_in o name) same.book ∙ at))

agrees : (contents seen : List LookedAt) (t u : State) (system : Root) → t.books ≡ [] → AreBytesOf contents t.stock → LearnsAll seen t u → AreFrom contents seen → IsLearned contents u system → AreListsSeen contents seen u system
    → Agree t u.books (all_books contents) seen contents system
agrees contents seen t u system none all learns from learned looked =
    let same = same_at contents seen t u system none learns from learned in
    record {
      known = same;
      base_of_it = list_agrees contents seen t u system static_name all from same looked.base;
      cached_of_it = list_agrees contents seen t u system cached_name all from same looked.cached;
    }

hand_is : (seen : List LookedAt) (t u : State) → LearnsAll seen t u → hand_of u seen false ≡ hand t u.books seen
hand_is seen t u learns = ap (λ (s : State). hand_of s seen false) learns.rest

-- all looks of the boot
pub looked_so : (contents one two three : List LookedAt) (t u v w : State) (system : Root) (roots : List Root) → t.books ≡ [] → AreBytesOf contents t.stock → Sees contents [] one t u → IsLearned contents u system
    → Sees contents one two u v → AreListsSeen contents two u system → roots ≡ listed (hand_of v two false) system → Sees contents two three v w → AreLearned contents roots w → HasLookedAt contents system t three w
looked_so contents one two three t u v w system roots none all first learned second lists are third last =
    let to_v = sees_then contents [] one two t u v first second in
    let to_w = sees_then contents [] two three t v w to_v third in
    let from_u = sees_then contents one two three u v w second third in
    let learns_v = learns_seen contents two t v to_v in
    let learns_w = learns_seen contents three t w to_w in
    let from_v : AreFrom contents two = to_v.from tt in
    let from_w : AreFrom contents three = to_w.from tt in
    let v_known = learned_stays contents one two u v system second learned in
    let same_v = package_stays contents one two t u v system none learns_v from_v second learned in
    let same_w = package_stays contents one three t u w system none learns_w from_w from_u learned in
    let lists_v = lists_stay contents two two u v system (λ root seen. seen) same_v lists in
    let agree_v = agrees contents two t v system none all learns_v from_v v_known lists_v in
    record {
      sees = to_w;
      known = learned_stays contents one three u w system from_u learned;
      lists = lists_stay contents two three u w system third.stays same_w lists;
      listed = subst (λ (rs : List Root). AreLearned contents rs w)
          (are ∙ ap (λ (at : AtHand). listed at system) (hand_is two t v learns_v) ∙ same_listed t v.books (all_books contents) two contents system agree_v) last;
    }

-- ---- the verdict

pub judged_so : (contents seen : List LookedAt) (t u : State) (system : Root) (verdict : Verdict) → t.books ≡ [] → AreBytesOf contents t.stock → HasLookedAt contents system t seen u → verdict ≡ judged (hand_of u seen false) system → WasJudged contents system t seen u verdict
judged_so contents seen t u system verdict none all looked is =
    let learns = learns_seen contents seen t u looked.sees in
    let from : AreFrom contents seen = looked.sees.from tt in
    let by_all : verdict ≡ judged (all_at_hand contents t) system =
    is ∙ ap (λ (at : AtHand). judged at system) (hand_is seen t u learns)
    ∙ same_verdict t u.books (all_books contents) seen contents system (agrees contents seen t u system none all learns from looked.known looked.lists)
    (λ root among. same_at contents seen t u root none learns from (looked.listed root among)) in
    record {
      looked = looked;
      by_seen = is ∙ ap (λ (at : AtHand). judged at system) (hand_so t u seen false (λ root. true) learns (λ root. refl));
      by_all = by_all;
      read = subst IsJudged (sym by_all) (judged_by (all_at_hand contents t) system
          (lists_read contents contents (with_books t (all_books contents)) (with_books t (all_books contents)) false system all refl (λ here. refl)
          (record {
            base = λ root at bytes has short. ap (λ (o : Option (List ℕ)). is_some o) has;
            cached = λ root at bytes has short. ap (λ (o : Option (List ℕ)). is_some o) has;
          })));
    }
