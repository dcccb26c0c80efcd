use Rattle.std.proofs.Common.{◌++◌, ◌∷◌, [], length, ap, ◌∙◌, sym, arith}
use Rattle.std.specs.Option.{option_to_list}
use Rattle.threads_tests.specs.Stations.{Served}
use Rattle.threads_tests.proofs.Pairs.{written, two_of, both_of}
use Rattle.threads_tests.proofs.stations.serve_two.Goals as goal

pub returns : goal.returns
returns g c =
    let old = c.as_mut_slice.ensures.value ∙ (c.in_ok-push-2.ensures.items ∙ ap (λ z. z ++ c.args.two ∷ []) (c.in_ok-push.ensures.items ∙ ap (λ z. z ++ c.args.one ∷ []) c.in_ok-stations.ensures.items)) in
    let new = two_of c.serve_all.new.stations c.pop.new.self.items c.pop-2.new.self.items c.unwrap-one.result c.unwrap-two.result
    (sym (written c.push-2.new.self.len c.serve_all.new.stations _ (omega (arith, c.push-2.new.self.ok.0, ap length c.as_mut_slice.ensures.value, c.serve_all.ensures.len))) ∙ c.pop.ensures.items ∙ ap (λ z. c.pop.new.self.items ++ option_to_list z) c.unwrap-two.ensures)
    (c.pop-2.ensures.items ∙ ap (λ z. c.pop-2.new.self.items ++ option_to_list z) c.unwrap-one.ensures)
    (c.serve_all.ensures.len ∙ ap length old) in
    let both = both_of Served c.as_mut_slice.result.now c.serve_all.new.stations c.args.one c.args.two c.unwrap-one.result c.unwrap-two.result old new c.serve_all.ensures.each in
    record { one = both.0; two = both.1 }
