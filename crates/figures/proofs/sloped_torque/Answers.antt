use Rattle.std.proofs.Common.{ap, ◌∙◌}
use Rattle.std.specs.Option.{option_map}
use Rattle.modular.specs.Below.{one_part}
use Rattle.residue.specs.Residues.{residues, residue_value}
use Rattle.dual.specs.DualNumbers.{duals, dual_map, dual_parts}
use Rattle.pendulum.specs.NewtonEuler.{newton_euler}
use Rattle.figures.proofs.Figures.{slope_figure, torque_of}
use Rattle.figures.proofs.sloped_torque.Goals as goal

pub returns : goal.returns
returns c =
    let is = c.torque.ensures.is ∙ ap (newton_euler (duals (residues 2147483647))) c.sloped_arm.ensures in
    record {
      is = is;
      figure =
          torque_of (dual_map (residue_value 2147483647)) (dual_parts one_part) c.torque.result ∙ ap (option_map (λ s. dual_parts one_part s.torque)) is ∙ slope_figure;
    }
