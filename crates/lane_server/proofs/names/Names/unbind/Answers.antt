use Rattle.std.proofs.Common.{rules, ◌≡◌, ap, ◌∙◌}
use Rattle.std.proofs.lemmas.Fn.{filter_same}
use Rattle.lane_server.specs.Names.{Named, unbound}
use Rattle.lane_server.proofs.names.Names.unbind.Goals as goal

pub returns : goal.returns
returns c =
    let kept : c.retain.new.self.items ≡ unbound c.self.inside.bindings.items c.args.name.now =
    filter_same _ _ _ (λ x b f' k. search rules) _ _ c.retain.ensures.filtered in
    kept ∙ ap (λ (n : Named). unbound n.bindings c.args.name.now) c.self.view_is
