use Rattle.std.proofs.Common.{ap, ◌∙◌}
use Rattle.std.specs.Option.{option_map}
use Rattle.modular.specs.Below.{one_part}
use Rattle.residue.specs.Residues.{residues, residue_value}
use Rattle.pendulum.specs.NewtonEuler.{newton_euler}
use Rattle.figures.proofs.Figures.{skew_figure, torque_of}
use Rattle.figures.proofs.skew_torque.Goals as goal

pub returns : goal.returns
returns c =
    let is = c.torque.ensures.is ∙ ap (newton_euler (residues 2147483647)) c.skew_arm.ensures in
    record {
      is = is;
      figure =
          torque_of (residue_value 2147483647) one_part c.torque.result ∙ ap (option_map (λ s. one_part s.torque)) is ∙ skew_figure;
    }
