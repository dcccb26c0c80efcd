use Rattle.std.proofs.Common.{◌≡◌, ◌++◌, ◌∷◌, [], ◌<◌, List, ℕ, length, ap, sym, subst, ◌∙◌, arith, rules}
use Rattle.std.proofs.lemmas.List.{length-map, map-append}
use Rattle.pkg_names.specs.Root.{IsRoot}
use Rattle.meta_contents.specs.declared.contents.ContentsLine.{ContentsLine}
use Rattle.meta_contents.specs.Contents.{Pair, IsContents, pairs, paths, is_in_meta, is_among}
use Rattle.meta_contents.proofs.Pairs.{one_more}
use Rattle.meta_contents.proofs.contents.Contents.add.Goals as goal

pub invariant_of-self-2 : goal.invariant_of-self-2
invariant_of-self-2 c =
    let root : IsRoot c.args.root = record { length = search rules; bytes = λ i. search rules } in
    let pair : ContentsLine → Pair = λ l. (l.file, l.root) in
    let before = c.self.inside.lines in
    let more : pairs c.push.new.self ≡ pairs before ++ (c.args.file, c.args.root) ∷ [] = ap pairs c.in_ok-push.ensures.ok ∙ map-append pair before _ in
    let few : length (pairs before) < 4096 = omega (arith, length-map {B = Pair} before pair, ap (λ (l : List ContentsLine). length l) c.as_slice-3.ensures) in
    let outer = ap is_in_meta (sym c.as_slice.ensures.text) ∙ sym c.is_in_meta.ensures ∙ c.if-is_in_meta.false in
    let fresh = ap (λ (l : List ℕ). is_among l (paths (pairs before))) (sym c.as_slice-2.ensures.text) ∙ sym c.has.ensures ∙ c.if-has.false in
    subst IsContents (sym more) (one_more (pairs before) (c.args.file, c.args.root) c.self.invariant few c.as_slice.ensures.valid root outer fresh)
