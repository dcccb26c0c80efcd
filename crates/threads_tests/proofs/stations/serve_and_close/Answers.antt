use Rattle.std.proofs.Common.{ap, subst}
use Rattle.std.specs.Prelude.{replicate}
use Rattle.threads_tests.specs.Depot.{HasPut}
use Rattle.threads_tests.proofs.Pairs.{served_seat, first_join, second_join, all_joined, put1, put2}
use Rattle.threads_tests.proofs.stations.serve_and_close.Goals as goal

pub join-requires-clause-lock : goal.join-requires-clause-lock
join-requires-clause-lock g c =
    let p = served_seat c.new-one.result c.in_ok-one.one c.split.result c.into_seat-one.result.0 c.into_seat-one.result.1 (ap (λ z. z.seat) c.new-one.ensures) c.into_seat-one.ensures.0 c.into_seat-one.ensures.1 c.in_ok-one.ensures.one in
    let q = served_seat c.new-two.result c.in_ok-one.two c.split-2.result c.into_seat-two.result.0 c.into_seat-two.result.1 (ap (λ z. z.seat) c.new-two.ensures) c.into_seat-two.ensures.0 c.into_seat-two.ensures.1 c.in_ok-one.ensures.two in
    first_join c.in-Ok.turn c.in_ok-make.field-0 c.in-Ok.first c.split.new.seat c.split-2.new.seat c.split.result c.split-2.result c.in-Ok.ensures.ok c.split.ensures.seat c.split.ensures.new c.split-2.ensures.seat c.split-2.ensures.new _ _ _ _ c.into_seat-one.result.0 c.into_seat-two.result.0 c.split-2.new.seat c.split-2.new.seat p q

pub join-requires-2-clause-lock : goal.join-requires-2-clause-lock
join-requires-2-clause-lock g c =
    let p = served_seat c.new-one.result c.in_ok-one.one c.split.result c.into_seat-one.result.0 c.into_seat-one.result.1 (ap (λ z. z.seat) c.new-one.ensures) c.into_seat-one.ensures.0 c.into_seat-one.ensures.1 c.in_ok-one.ensures.one in
    let q = served_seat c.new-two.result c.in_ok-one.two c.split-2.result c.into_seat-two.result.0 c.into_seat-two.result.1 (ap (λ z. z.seat) c.new-two.ensures) c.into_seat-two.ensures.0 c.into_seat-two.ensures.1 c.in_ok-one.ensures.two in
    second_join c.in-Ok.turn c.in_ok-make.field-0 c.in-Ok.first c.split.new.seat c.split-2.new.seat c.split.result c.split-2.result c.in-Ok.ensures.ok c.split.ensures.seat c.split.ensures.new c.split-2.ensures.seat c.split-2.ensures.new _ _ _ _ c.into_seat-one.result.0 c.into_seat-two.result.0 c.join.new.seat c.join.new.seat p q c.join.ensures.seat

pub close-requires-clause-joined : goal.close-requires-clause-joined
close-requires-clause-joined g c =
    let p = served_seat c.new-one.result c.in_ok-one.one c.split.result c.into_seat-one.result.0 c.into_seat-one.result.1 (ap (λ z. z.seat) c.new-one.ensures) c.into_seat-one.ensures.0 c.into_seat-one.ensures.1 c.in_ok-one.ensures.one in
    let q = served_seat c.new-two.result c.in_ok-one.two c.split-2.result c.into_seat-two.result.0 c.into_seat-two.result.1 (ap (λ z. z.seat) c.new-two.ensures) c.into_seat-two.ensures.0 c.into_seat-two.ensures.1 c.in_ok-one.ensures.two in
    all_joined c.in-Ok.turn c.in_ok-make.field-0 c.in-Ok.first c.split.new.seat c.split-2.new.seat c.split.result c.split-2.result c.in-Ok.ensures.ok c.split.ensures.seat c.split.ensures.new c.split-2.ensures.seat c.split-2.ensures.new _ _ _ _ c.into_seat-one.result.0 c.into_seat-two.result.0 c.join.new.seat c.join-2.new.seat p q c.join.ensures.seat c.join-2.ensures.seat

pub returns-clause-one : goal.returns-clause-one
returns-clause-one g c =
    let p = served_seat c.new-one.result c.in_ok-one.one c.split.result c.into_seat-one.result.0 c.into_seat-one.result.1 (ap (λ z. z.seat) c.new-one.ensures) c.into_seat-one.ensures.0 c.into_seat-one.ensures.1 c.in_ok-one.ensures.one in
    let q = served_seat c.new-two.result c.in_ok-one.two c.split-2.result c.into_seat-two.result.0 c.into_seat-two.result.1 (ap (λ z. z.seat) c.new-two.ensures) c.into_seat-two.ensures.0 c.into_seat-two.ensures.1 c.in_ok-one.ensures.two in
    subst (λ b. HasPut c.close.result 1 (replicate 4096 b) c.into_seat-one.result.1) (ap (λ z. z.byte) c.new-one.ensures)
    (put1 c.in-Ok.turn c.in_ok-make.field-0 c.in-Ok.first c.split.new.seat c.split-2.new.seat c.split.result c.split-2.result c.in-Ok.ensures.ok c.split.ensures.seat c.split.ensures.new c.split-2.ensures.seat c.split-2.ensures.new _ _ _ _ c.into_seat-one.result.0 c.into_seat-two.result.0 c.join.new.seat c.join-2.new.seat p q c.join.ensures.seat c.join-2.ensures.seat
    c.close.result c.close.ensures.list c.in_ok-make.ensures.begun.1 c.join.ensures.joined c.join-2.ensures.joined c.join-2.ensures.ended c.close.ensures.remains c.in_ok-make.ensures.drafts.0)

pub returns-clause-two : goal.returns-clause-two
returns-clause-two g c =
    let p = served_seat c.new-one.result c.in_ok-one.one c.split.result c.into_seat-one.result.0 c.into_seat-one.result.1 (ap (λ z. z.seat) c.new-one.ensures) c.into_seat-one.ensures.0 c.into_seat-one.ensures.1 c.in_ok-one.ensures.one in
    let q = served_seat c.new-two.result c.in_ok-one.two c.split-2.result c.into_seat-two.result.0 c.into_seat-two.result.1 (ap (λ z. z.seat) c.new-two.ensures) c.into_seat-two.ensures.0 c.into_seat-two.ensures.1 c.in_ok-one.ensures.two in
    subst (λ b. HasPut c.close.result 2 (replicate 4096 b) c.into_seat-two.result.1) (ap (λ z. z.byte) c.new-two.ensures)
    (put2 c.in-Ok.turn c.in_ok-make.field-0 c.in-Ok.first c.split.new.seat c.split-2.new.seat c.split.result c.split-2.result c.in-Ok.ensures.ok c.split.ensures.seat c.split.ensures.new c.split-2.ensures.seat c.split-2.ensures.new _ _ _ _ c.into_seat-one.result.0 c.into_seat-two.result.0 c.join.new.seat c.join-2.new.seat p q c.join.ensures.seat c.join-2.ensures.seat
    c.close.result c.close.ensures.list c.in_ok-make.ensures.begun.1 c.join.ensures.joined c.join-2.ensures.joined c.join-2.ensures.ended c.close.ensures.remains c.in_ok-make.ensures.drafts.1)
