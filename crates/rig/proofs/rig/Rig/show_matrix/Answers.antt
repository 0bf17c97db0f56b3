use Rattle.std.proofs.Common.{◌≡◌, ◌*◌, ◌<◌, length, sym, ap, ◌∙◌, subst, drop, take}
use Rattle.std.proofs.lemmas.List.{length-take-le, get_or_append_left}
use Rattle.rig.proofs.Asked.{long_enough}
use Rattle.rig.proofs.Listed.{front_fits, shown_over}
use Rattle.rig.proofs.rig.Rig.show_matrix.Goals as goal

pub slice_bounds-clear-end-2 : goal.slice_bounds-clear-end-2
slice_bounds-clear-end-2 g c =
    let n = c.args.self.now.n in
    let long = long_enough n (n * n) (length c.args.res.now) (length c.args.work.now) c.in_ok-check_lists.ensures in
    sym (length-take-le (n * n) c.args.res.now long.0)

pub own_inertias-requires : goal.own_inertias-requires
own_inertias-requires g c =
    let n = c.args.self.now.n in
    (long_enough n (n * n) (length c.args.res.now) (length c.args.work.now) c.in_ok-check_lists.ensures).1

pub composites-requires-clause-room : goal.composites-requires-clause-room
composites-requires-clause-room g c =
    let n = c.args.self.now.n in
    let long = long_enough n (n * n) (length c.args.res.now) (length c.args.work.now) c.in_ok-check_lists.ensures in
    front_fits c.clear.new.list (drop (n * n) c.args.res.now) (n * n) (c.clear.auto.list ∙ length-take-le (n * n) c.args.res.now long.0)

pub composites-requires-clause-long : goal.composites-requires-clause-long
composites-requires-clause-long g c =
    let n = c.args.self.now.n in
    let long = long_enough n (n * n) (length c.args.res.now) (length c.args.work.now) c.in_ok-check_lists.ensures in
    subst (λ m. n < m) (sym c.own_inertias.auto.work) long.1

pub composites-requires-clause-clear : goal.composites-requires-clause-clear
composites-requires-clause-clear g c j l d =
    let v = g.R.Ring.value in
    let n = c.args.self.now.n in
    let long = long_enough n (n * n) (length c.args.res.now) (length c.args.work.now) c.in_ok-check_lists.ensures in
    let all : length (take (n * n) c.args.res.now) ≡ n * n = length-take-le (n * n) c.args.res.now long.0 in
    let here : j < length (take (n * n) c.args.res.now) = subst (λ m. j < m) (sym all) l in
    ap v (get_or_append_left c.clear.new.list (drop (n * n) c.args.res.now) d j (subst (λ m. j < m) (sym c.clear.auto.list) here))
    ∙ c.clear.ensures j here d

pub returns-clause-shown : goal.returns-clause-shown
returns-clause-shown g c =
    let n = c.args.self.now.n in
    let long = long_enough n (n * n) (length c.args.res.now) (length c.args.work.now) c.in_ok-check_lists.ensures in
    shown_over g.R.Ring.value (n * n) _ c.args.res.now c.clear.new.list c.composites.new.res
    (c.clear.auto.list ∙ length-take-le (n * n) c.args.res.now long.0) c.composites.ensures
