use Rattle.std.proofs.Common.{inl, inr, sym, ◌∙◌}
use Rattle.package_url.specs.Reading.{lent}
use Rattle.package_url.proofs.Written.{no_scheme_read, whole_read}
use Rattle.package_url.proofs.reading.read_whole.Goals as goal

pub returns-in_default : goal.returns-in_default
returns-in_default c = inl (sym (no_scheme_read c.args.text.now c.behind.result c.in_default.not-Some c.behind.ensures))

pub returns : goal.returns
returns c =
    elim c.read_parts.ensures [
      | inl same ↦ inl (same ∙ whole_read c.args.text.now c.in-Some.rest.now c.first_cut.result.0.now c.first_cut-2.result.0.now c.first_cut-3.result.0.now (lent c.first_cut.result.1) (lent c.first_cut-2.result.1) (lent c.first_cut-3.result.1) c.in-Some.ensures
          c.first_cut.ensures.before c.first_cut.ensures.after c.first_cut-2.ensures.before c.first_cut-2.ensures.after c.first_cut-3.ensures.before c.first_cut-3.ensures.after)
      | inr memory ↦ inr memory
    ]
