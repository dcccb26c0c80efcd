use Rattle.std.proofs.Common.{◌≡◌, ℕ, List, sym, ap, ◌∙◌}
use Rattle.store_model.specs.declared.replies.OpenReply.TheVariants as opening
use Rattle.lane_server.specs.declared.names.Binding.{Binding}
use Rattle.lane_server.specs.Names.{unbound, bound}
use Rattle.lane_server.proofs.Called.{open_served, unopened}
use Rattle.lane_server.proofs.calls.open.Goals as goal

-- the copy of a name is bound, where the name was unbound
rebinds : (names free later : List Binding) (name copy : List ℕ) (number : ℕ) → later ≡ bound free copy number → free ≡ unbound names name → copy ≡ name → later ≡ bound (unbound names name) name number
rebinds names free later name copy number is frees same =
    is ∙ ap (λ (bs : List Binding). bound bs copy number) frees ∙ ap (λ (n : List ℕ). bound (unbound names name) n number) same

pub returns-in-Opened : goal.returns-in-Opened
returns-in-Opened g c = λ repo.
    open_served c.args.names.now.bindings c.bind.new.self.bindings c.args.name.now c.args.path.now (g.K.Desk.view c.args.desk.now) (g.K.Desk.view c.open_path.new.self) repo (g.K.Desk.firm c.args.desk.now) (g.K.Desk.firm c.open_path.new.self) (opening.Opened c.in-Opened.dir) (λ is. absurd (cc is))
    (rebinds c.args.names.now.bindings c.reserve.new.self.bindings c.bind.new.self.bindings c.args.name.now c.in-Ok.copy c.in-Opened.dir.number c.bind.ensures c.in-Ok.ensures.names c.in-Ok.ensures.copy) c.in-Opened.ensures.event c.in-Opened.ensures.firm

pub returns-in_default-open_path : goal.returns-in_default-open_path
returns-in_default-open_path g c = λ repo.
    open_served c.args.names.now.bindings c.reserve.new.self.bindings c.args.name.now c.args.path.now (g.K.Desk.view c.args.desk.now) (g.K.Desk.view c.open_path.new.self) repo (g.K.Desk.firm c.args.desk.now) (g.K.Desk.firm c.open_path.new.self) c.open_path.result c.in_default-open_path.not-NoMemory
    (c.in-Ok.ensures.names ∙ sym (unopened c.args.names.now.bindings c.args.name.now c.open_path.result c.in_default-open_path.not-Opened)) c.open_path.ensures.event c.open_path.ensures.firm
