use Rattle.std.proofs.Common.{◌≡◌, ℕ, List, [], Some, ap, subst, ◌∙◌}
use Rattle.package_book.specs.declared.shelf.Shelved.{Shelved}
use Rattle.package_book.specs.declared.shelf.Shelved.TheVariants.{Bad}
use Rattle.package_book.specs.declared.fault.PackageFault.TheVariants as faults
use Rattle.package_book.specs.Books.{Books, Sets}
use Rattle.package_book.specs.Books.Meta.{Long}
use Rattle.package_book.specs.Shelf.{shelved_of}
use Rattle.package_book.specs.Invariant.{books_in}
use Rattle.package_book.proofs.Shelves.{still_shelf, added_stands, added_sets}
use Rattle.package_book.proofs.shelf.Shelf.add_long.Goals as goal

-- no bytes are kept
kept : (len : ℕ) (bytes : List ℕ) → bytes ≡ [] → Bad (faults.Long len) bytes ≡ shelved_of (Long len)
kept len bytes none = ap (λ (l : List ℕ). let s : Shelved = Bad (faults.Long len) l in s) none

pub invariant_of-self-2 : goal.invariant_of-self-2
invariant_of-self-2 c =
    let value : Shelved = Bad (faults.Long c.args.len) c.make-bytes.result in
    still_shelf c.args.root (Some value) c.self.inside.entries c.insert.new.self c.self.invariant c.in_ok-insert.ensures.updates.0
    (added_stands value (Long c.args.len) (kept c.args.len c.make-bytes.result (c.make-bytes.ensures.list ∙ c.new.ensures.items)))

pub returns-clause-ok : goal.returns-clause-ok
returns-clause-ok c =
    let value : Shelved = Bad (faults.Long c.args.len) c.make-bytes.result in
    subst (λ (old : Books). Sets c.args.root (Some (Long c.args.len)) old (books_in c.insert.new.self)) c.self.view_is
    (added_sets c.args.root value (Long c.args.len) c.self.inside.entries c.insert.new.self (kept c.args.len c.make-bytes.result (c.make-bytes.ensures.list ∙ c.new.ensures.items))
    c.in_ok-insert.ensures.updates.0)
