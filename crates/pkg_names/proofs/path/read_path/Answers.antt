use Rattle.std.proofs.Common.{◌∷◌, []}
use Rattle.pkg_names.proofs.PathTexts.{spelled_alone, spelled_with, is_read, is_not_bad}
use Rattle.pkg_names.proofs.path.read_path.Goals as goal

pub returns-in-Some-clause-only : goal.returns-in-Some-clause-only
returns-in-Some-clause-only c = λ path spells.
    let cut = spelled_with c.args.text.now c.in-Some.name.now c.in-Some.variant.now c.in-Some.ensures.found c.in-Some.ensures.first path spells in
    is_read c.path_of.result c.args.text.now c.in-Some.name.now c.in-Some.variant.now path cut spells c.path_of.ensures.found c.path_of.ensures.bad_name

pub returns-in-Some-clause-bad_name : goal.returns-in-Some-clause-bad_name
returns-in-Some-clause-bad_name c = λ e path spells.
    let cut = spelled_with c.args.text.now c.in-Some.name.now c.in-Some.variant.now c.in-Some.ensures.found c.in-Some.ensures.first path spells in
    is_not_bad c.path_of.result c.args.text.now c.in-Some.name.now c.in-Some.variant.now path cut spells c.path_of.ensures.found c.path_of.ensures.bad_name e

pub returns-in-None-clause-only : goal.returns-in-None-clause-only
returns-in-None-clause-only c = λ path spells.
    is_read c.path_of-in-None.result c.args.text.now c.args.text.now (48 ∷ []) path (spelled_alone c.args.text.now c.in-None.ensures.none path spells) spells c.path_of-in-None.ensures.found c.path_of-in-None.ensures.bad_name

pub returns-in-None-clause-bad_name : goal.returns-in-None-clause-bad_name
returns-in-None-clause-bad_name c = λ e path spells.
    is_not_bad c.path_of-in-None.result c.args.text.now c.args.text.now (48 ∷ []) path (spelled_alone c.args.text.now c.in-None.ensures.none path spells) spells c.path_of-in-None.ensures.found c.path_of-in-None.ensures.bad_name e
