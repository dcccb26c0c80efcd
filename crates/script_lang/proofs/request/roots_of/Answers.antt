use Rattle.std.proofs.Common.{inl}
use Rattle.script_lang.specs.Requests.{roots_in, words_in}
use Rattle.script_lang.proofs.RootWords.{bad_root, good_root, rest_shrinks, all_read, within}
use Rattle.script_lang.proofs.request.roots_of.Goals as goal

pub returns-in-Err : goal.returns-in-Err
returns-in-Err c =
    let before = rw c.in-Some.is at c.loop-rest.invariant.roots in
    let why = rw c.first_word.ensures.before at c.in-Err.ensures.fault in
    inl (bad_root c.loop-rest.roots.items c.loop-rest.number c.in-Some.words.now c.in-Err.fault (roots_in 1 (words_in c.args.text.now)) before why)

pub loop-rest-smaller : goal.loop-rest-smaller
loop-rest-smaller c = rw (c.in-Some.is, c.first_word.ensures.after) (rest_shrinks c.in-Some.words.now)

pub loop-rest-preserved : goal.loop-rest-preserved
loop-rest-preserved c =
    let before = rw c.in-Some.is at c.loop-rest.invariant.roots in
    let found = rw c.first_word.ensures.before at c.in-Ok.ensures.found in
    record {
      roots = rw (c.in_ok-push-in-Ok.ensures.items, c.first_word.ensures.after)
          (good_root c.loop-rest.roots.items c.loop-rest.number c.in-Some.words.now c.in-Ok.root (roots_in 1 (words_in c.args.text.now)) before found.0 found.1);
      few = within c.loop-rest.number found.1;
    }

pub returns : goal.returns
returns c = inl (rw c.make.ensures.list (all_read c.loop-rest.roots.items c.loop-rest.number c.loop-rest.rest (roots_in 1 (words_in c.args.text.now)) c.loop-rest.invariant.roots c.in_default.not-Some))
