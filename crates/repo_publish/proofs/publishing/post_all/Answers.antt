use Rattle.std.proofs.Common.{◌≡◌, List, ℕ, Option, Ok, IfSome, ap, subst, ◌∙◌}
use Rattle.std.specs.Prelude.{is_some}
use Rattle.pkg_merkle.specs.Merkle.{merkle_root}
use Rattle.pkg_names.specs.declared.pinned.Pinned.{Pinned}
use Rattle.repo_source.specs.declared.file.RepoFile.{RepoFile}
use Rattle.system_lists.specs.Static.{static_of}
use Rattle.repo_publish.specs.Post.{Puts}
use Rattle.repo_publish.specs.Published.{set_pair}
use Rattle.repo_publish.specs.Steps.{IsNext}
use Rattle.repo_publish.proofs.Ended.{all_posted}
use Rattle.repo_publish.proofs.publishing.post_all.Goals as goal

pub put_package-requires : goal.put_package-requires
put_package-requires g c =
    let next = c.in-Ok-next_listing.ensures.next in
    (set_pair c.args.path.now c.root_of-root.result next.old, ap static_of c.deref-3.ensures.value ∙ next.made.read)

pub returns-in-Ok-put_package-clause-posted : goal.returns-in-Ok-put_package-clause-posted
returns-in-Ok-put_package-clause-posted g c =
    let path = c.args.path.now in
    let root = c.root_of-root.result in
    let meta = c.in-Ok.meta.items in
    let bytes = c.in-Ok-next_listing.listing.items in
    let told = g.P.Post.listing c.args.post.now in
    let new = g.P.Post.listing c.put_package.new.post in
    let before = g.P.Post.files c.args.post.now in
    let mid = g.P.Post.files c.meta_of.new.post in
    let after = g.P.Post.files c.put_package.new.post in
    let root_is : root ≡ merkle_root meta = c.root_of-root.ensures.root ∙ ap merkle_root c.deref.ensures.value in
    let next : IsNext told path root bytes = subst (λ (l : Option (List Pinned)). IsNext l path root bytes) c.meta_of.ensures.listing c.in-Ok-next_listing.ensures.next in
    let lists : is_some new ≡ is_some told = c.put_package.ensures.listing_told ∙ ap (λ (l : Option (List Pinned)). is_some l) (c.next_listing.ensures.listing ∙ c.meta_of.ensures.listing) in
    let puts : IfSome mid (λ old. IfSome after (Puts root meta old)) =
    subst (λ (f : Option (List RepoFile)). IfSome f (λ old. IfSome after (Puts root meta old))) c.in-Ok-next_listing.ensures.files
    (subst (λ (m : List ℕ). IfSome (g.P.Post.files c.next_listing.new.post) (λ old. IfSome after (Puts root m old))) c.deref-2.ensures.value c.in-Ok-put_package.ensures.blob) in
    let listed : IfSome new (λ list. static_of bytes ≡ Ok list) =
    subst (λ (b : List ℕ). IfSome new (λ list. static_of b ≡ Ok list)) c.deref-3.ensures.value c.in-Ok-put_package.ensures.listed in
    all_posted (g.T.Tree.left c.args.tree.now) path told before mid meta c.in-Ok.ensures.made root root_is bytes next new after c.meta_of.ensures.files_told lists puts listed
