use Rattle.std.proofs.Common.{◌≡◌, [], ◌∷◌, refl, subst, inl, inr, arith}
use Rattle.std.specs.Prelude.{Contains, ◌≢◌, IsSomeAnd}
use Rattle.std.proofs.lemmas.List.Elements.{Contains-push_cases}
use Rattle.pkg_names.specs.declared.root.Root.{Root}
use Rattle.fetch_queue.specs.declared.queue.ClaimEntry.{ClaimEntry}
use Rattle.package_book.specs.Names.{names}
use Rattle.store_model.specs.State.{claim_of}
use Rattle.store_model.specs.History.{after}
use Rattle.store_model.specs.Examples.{wanted, from_factory, both_asked}
use Rattle.store_model.proofs.examples.examples_of_waiting.Goals as goal

only_one : (y x : Root) → Contains (y ∷ []) x → y ≡ x
only_one y x h = elim (Contains-push_cases [] y x h) [ inl never ↦ absurd (omega (arith, never.1)) | inr same ↦ same ]

pub returns-clause-quiet : goal.returns-clause-quiet
unfolding names
returns-clause-quiet c = record {
  some = (wanted, record { named = (0, omega arith, refl); missing = refl });
  each = λ root missing.
      subst (λ (r : Root). IsSomeAnd (claim_of (after from_factory both_asked).claims r) (λ (claim : ClaimEntry). claim.lane ≢ 2))
      (only_one wanted root missing.named) (λ same. omega (arith, same));
  unmarked = refl;
  no_fault = refl;
}

pub returns-clause-waits : goal.returns-clause-waits
unfolding names
returns-clause-waits c reply due = let never = due.answer in absurd cc

pub returns-clause-fails : goal.returns-clause-fails
unfolding names
returns-clause-fails c = record { lane = refl; free = refl; answer = refl }

pub returns-clause-both : goal.returns-clause-both
unfolding names
returns-clause-both c = record { lane = refl; free = refl; answer = refl }

pub returns-clause-goes_on : goal.returns-clause-goes_on
unfolding names
returns-clause-goes_on c = record { lane = refl; free = refl; answer = refl }
