use Rattle.std.proofs.Common.{◌≡◌, ◌⊎◌, inl, inr, List, ℕ, Ok, Err, sym, subst}
use Rattle.pkg_names.specs.declared.pinned.Pinned.{Pinned}
use Rattle.system_lists.specs.Static.{StandsFor, static_of}
use Rattle.system_lists.specs.declared.fault.StaticFault.TheVariants.{NoMemory}
use Rattle.repo_publish.specs.Post.{NamesOnce}
use Rattle.repo_publish.proofs.memory_post.MemPostPost.list.Goals as goal

once_read : (bytes : List ℕ) (list : List Pinned) → (static_of bytes ≡ Ok list → StandsFor bytes list) → ((Ok list ≡ static_of bytes) ⊎ (Ok list ≡ Err NoMemory)) → NamesOnce list
once_read bytes list stands (inl is) = (stands (sym is)).valid.distinct
once_read bytes list stands (inr short) = absurd (cc short)

pub invariant_of-self-in-Ok : goal.invariant_of-self-in-Ok
invariant_of-self-in-Ok c =
    subst (λ (list : List Pinned). NamesOnce list) (sym c.into_vec.ensures.list)
    (once_read c.args.bytes.now c.in-Ok.list (c.texts_stand_for_what_is_read.ensures.stands c.args.bytes.now c.in-Ok.list) c.in-Ok.ensures.exact)
