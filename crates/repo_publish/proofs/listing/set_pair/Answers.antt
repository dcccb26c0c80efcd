use Rattle.std.proofs.Common.{List, [], ◌∷◌, ◌++◌, set, sym, ap, ◌∙◌}
use Rattle.std.specs.List.{position}
use Rattle.pkg_names.specs.NameAndVariant.{NameAndVariant, path_eq}
use Rattle.pkg_names.specs.declared.pinned.Pinned.{Pinned}
use Rattle.repo_publish.proofs.Lists.{put_in_place, put_in_end}
use Rattle.repo_publish.proofs.listing.set_pair.Goals as goal

pub returns-in-Some : goal.returns-in-Some
returns-in-Some c =
    let path = c.args.path.now in
    let pairs = c.args.listing.now.items in
    let pair : Pinned = record { path = path; root = c.args.root } in
    let has = λ (p : Pinned). path_eq p.path path in
    ap (λ (p : NameAndVariant). set pairs c.in-Some.place (record { path = p; root = c.args.root })) c.in_ok-try_copy.ensures.same
    ∙ put_in_place has pair pairs c.in-Some.place pair (sym (c.place_of.ensures ∙ ap (position has) c.deref.ensures.value) ∙ c.in-Some.is)

pub returns-in_ok-push-in-None : goal.returns-in_ok-push-in-None
returns-in_ok-push-in-None c =
    let path = c.args.path.now in
    let pairs = c.args.listing.now.items in
    let pair : Pinned = record { path = path; root = c.args.root } in
    let has = λ (p : Pinned). path_eq p.path path in
    let pushed : NameAndVariant → List Pinned = λ p. pairs ++ (let q : Pinned = record { path = p; root = c.args.root } in q) ∷ [] in
    c.in_ok-push-in-None.ensures.items ∙ ap pushed c.in_ok-try_copy.ensures.same
    ∙ put_in_end has pair pairs (sym (c.place_of.ensures ∙ ap (position has) c.deref.ensures.value) ∙ c.in-None.is)
