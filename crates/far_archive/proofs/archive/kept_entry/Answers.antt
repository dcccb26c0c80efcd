use Rattle.std.proofs.Common.{◌≡◌, ◌+◌, ◌*◌, ◌≤◌, length, ap, sym, subst, ◌∙◌, arith}
use Rattle.far_archive.specs.declared.fields.Places.{Places}
use Rattle.far_archive.specs.declared.fields.Entry.{Entry}
use Rattle.far_archive.specs.Fields.{entry, entry_of}
use Rattle.far_archive.proofs.Order.{entry_within, name_within, file_within}
use Rattle.far_archive.proofs.archive.kept_entry.Goals as goal

pub overflow_add-at : goal.overflow_add-at
overflow_add-at c = omega (arith, entry_within c.args.bytes.now c.args.p.now c.args.k c.requires.kept c.requires.within)

pub entry_at-requires : goal.entry_at-requires
entry_at-requires c = entry_within c.args.bytes.now c.args.p.now c.args.k c.requires.kept c.requires.within

pub returns-clause-name : goal.returns-clause-name
returns-clause-name c =
    let same : c.entry_at.result ≡ entry_of c.args.bytes.now c.args.k = c.entry_at.ensures ∙ ap (λ (p : Places). entry c.args.bytes.now (p.dir_at + 32 * c.args.k)) c.requires.kept.places in
    subst (λ (e : Entry). c.args.p.now.names_at + e.name_at + e.name_len ≤ length c.args.bytes.now) (sym same) (name_within c.args.bytes.now c.args.p.now c.args.k c.requires.kept c.requires.within)

pub returns-clause-file : goal.returns-clause-file
returns-clause-file c =
    let same : c.entry_at.result ≡ entry_of c.args.bytes.now c.args.k = c.entry_at.ensures ∙ ap (λ (p : Places). entry c.args.bytes.now (p.dir_at + 32 * c.args.k)) c.requires.kept.places in
    subst (λ (e : Entry). e.data_at + e.data_len ≤ length c.args.bytes.now) (sym same) (file_within c.args.bytes.now c.args.p.now c.args.k c.requires.kept c.requires.within)
