use Rattle.std.proofs.Common.{◌≡◌, Some, ap, ◌∙◌}
use Rattle.std.specs.Option.{option_map}
use Rattle.pendulum.specs.NewtonEuler.{pendulum, steps, newton_euler, newton_euler_at}
use Rattle.pendulum.proofs.Torque.{torque_equation}
use Rattle.pendulum.proofs.Pendulum.torque.Goals as goal

pub returns-in_err-x : goal.returns-in_err-x
returns-in_err-x g c =
    let k = g.R.Ring.ring in
    let v = g.R.Ring.value in
    let p = pendulum v c.args.self in
    let is : option_map (steps v) c.from_residual.result ≡ newton_euler k p =
    ap (option_map (steps v)) c.from_residual.ensures ∙ ap (option_map (newton_euler_at k p)) c.in_err-x.ensures in
    record {
      is = is;
      equation = ap (option_map (λ s. v s.torque)) c.from_residual.ensures ∙ ap (option_map (λ s. s.torque)) (ap (option_map (newton_euler_at k p)) c.in_err-x.ensures) ∙ torque_equation k p;
    }

pub returns : goal.returns
returns g c =
    let k = g.R.Ring.ring in
    let v = g.R.Ring.value in
    let p = pendulum v c.args.self in
    let is = ap Some c.steps_at.ensures ∙ ap (option_map (newton_euler_at k p)) c.in_ok-x.ensures in
    record { is = is; equation = ap (option_map (λ s. s.torque)) is ∙ torque_equation k p }
