use Rattle.std.proofs.Common.{◌≡◌, ℕ, Bool, false, ◌||◌, ◌∙◌, List, ap, sym, subst, arith}
use Rattle.system_updater.specs.Viewing.{Told}
use Rattle.plain_desk.specs.Stores.{StoreOf}
use Rattle.script_lang.specs.declared.request.Request.{Request}
use Rattle.script_server.specs.Lanes.{AreFresh, ServesLanes}
use Rattle.script_server.proofs.Turns.{none_behind, one_more}
use Rattle.script_server.proofs.lanes.+serve_behind.Goals as goal

-- as many lanes as there are left
none_left : (requests : List Request) (before count : ℕ) (repos : List Told) (s : StoreOf) → 0 ≡ count → AreFresh before s.history → ServesLanes requests before count false repos repos s s
none_left requests before count repos s is fresh = subst (λ (n : ℕ). ServesLanes requests before n false repos repos s s) is (none_behind requests before repos s fresh)

pub returns-then-count-eq0 : goal.returns-then-count-eq0
returns-then-count-eq0 g n c = none_left c.args.requests.now c.args.before c.args.count _ c.args.store.now (omega (arith, c.if-count-eq0.true)) c.requires.fresh

pub returns-then-cut : goal.returns-then-cut
returns-then-cut g n c = rw c.in-Some.ensures.cases.0 (
    one_more c.args.requests.now c.args.before c.args.count c.args.store.now c.serve_one-cut.new.store c.serve_one-cut.ensures.others
    c.serve_one-cut.result c.serve_behind-later.result c.serve_one-cut.result _ _ _ _ c.serve_behind-later.new.store
    (ap (λ (b : Bool). b || c.serve_behind-later.result) c.if-cut.true ∙ sym c.if-cut.true)
    (omega (arith, c.if-count-eq0.false)) c.serve_one-cut.ensures.served c.serve_one-cut.ensures.grows c.serve_one-cut.ensures.origin c.serve_behind-later.ensures)

pub returns-else-cut : goal.returns-else-cut
returns-else-cut g n c = rw c.in-Some.ensures.cases.0 (
    one_more c.args.requests.now c.args.before c.args.count c.args.store.now c.serve_one-cut.new.store c.serve_one-cut.ensures.others
    c.serve_one-cut.result c.serve_behind-later.result c.serve_behind-later.result _ _ _ _ c.serve_behind-later.new.store
    (ap (λ (b : Bool). b || c.serve_behind-later.result) c.if-cut.false)
    (omega (arith, c.if-count-eq0.false)) c.serve_one-cut.ensures.served c.serve_one-cut.ensures.grows c.serve_one-cut.ensures.origin c.serve_behind-later.ensures)
