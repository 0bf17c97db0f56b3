use Rattle.std.proofs.Common.{Some, sym, refl, ap, ◌∙◌}
use Rattle.joint.specs.Joints.{own}
use Rattle.pose.specs.Poses.{own_at}
use Rattle.rig.specs.Slots.{blank_slot}
use Rattle.rig.proofs.Given.{still_own}
use Rattle.rig.proofs.rig.making.at_rest.Goals as goal

pub returns : goal.returns
unfolding blank_slot
returns g c turned =
    let k = g.R.Ring.ring in
    let b = c.blank.ensures in
    record {
      given_offset = refl;
      given_turn = refl;
      given_link = refl;
      turned = turned;
      placed_at =
          ap (λ s. own k c.args.kind s.position) b
          ∙ still_own k c.args.kind
          ∙ ap (λ s. Some (own_at k c.args.kind s.cosine s.sine s.position)) (sym b);
      position = ap (λ s. s.position) b;
      rate = ap (λ s. s.rate) b;
      acceleration = ap (λ s. s.acceleration) b;
      force = ap (λ s. s.force) b;
    }
