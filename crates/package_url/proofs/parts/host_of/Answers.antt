use Rattle.std.proofs.Common.{List, ℕ, Some, refl, inr, ap, sym, ◌∙◌}
use Rattle.package_url.proofs.PartTexts.{host_in_none, host_in-host, host_is_utf8}
use Rattle.package_url.proofs.parts.host_of.Goals as goal

pub returns-then-not-is_host-clause-fault : goal.returns-then-not-is_host-clause-fault
returns-then-not-is_host-clause-fault c =
    inr (refl, host_in_none c.args.text.now (λ is. let on = c.is_host.ensures.1 is in cc))

pub returns-in_ok-from_str-in-Ok-clause-found : goal.returns-in_ok-from_str-in-Ok-clause-found
returns-in_ok-from_str-in-Ok-clause-found c =
    host_in-host c.args.text.now (c.is_host.ensures.0 c.if-not-is_host.false)
    ∙ ap (λ (t : List ℕ). Some t) (sym (c.make.ensures.bytes ∙ c.in_ok-from_str-in-Ok.ensures.ok ∙ c.in-Ok.ensures.cases.0))

pub returns-in-Err-clause-fault : goal.returns-in-Err-clause-fault
returns-in-Err-clause-fault c =
    absurd (c.in-Err.ensures.cases.0 (host_is_utf8 c.args.text.now (c.is_host.ensures.0 c.if-not-is_host.false)))
