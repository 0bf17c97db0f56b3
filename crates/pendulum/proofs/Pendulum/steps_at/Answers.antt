use Rattle.std.proofs.Common.{◌≡◌}
use Rattle.motion.specs.Vectors.{motion, force, unit_turn, motion_scale}
use Rattle.spatial.specs.Placements.{placement}
use Rattle.pendulum.specs.NewtonEuler.{pendulum, newton_euler_at}
use Rattle.pendulum.proofs.Pendulum.steps_at.Goals as goal

pub returns : goal.returns
returns g c =
    let k = g.R.Ring.ring in
    let v = g.R.Ring.value in
    let p = pendulum v c.args.self in
    let x = placement v c.args.x in
    let s = newton_euler_at k p x in
    let spin : motion v c.scale-spin.result ≡ motion_scale k p.rate (unit_turn k) = cc in
    let velocity : motion v c.add-velocity.result ≡ s.velocity = cc in
    let acceleration : motion v c.add-acceleration.result ≡ s.acceleration = cc in
    let total : force v c.add-force.result ≡ s.force = cc in
    let torque : v c.dot.result ≡ s.torque = cc in
    λ i. record { velocity = velocity i; acceleration = acceleration i; force = total i; torque = torque i }
