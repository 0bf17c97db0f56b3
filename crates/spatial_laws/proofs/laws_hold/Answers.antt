use Rattle.spatial_laws.proofs.Laws.{adjoint, outward_add, outward_scale, inward_add, inward_scale, momentum_add, momentum_scale, momentum_symmetric, link_is_inertia, applied_add, applied_scale, applied_symmetric, sum_applied, carried_applied, minus_outer_applied, cross_adjoint, jacobi}
use Rattle.spatial_laws.proofs.laws_hold.Goals as goal

pub returns : goal.returns
returns g c =
    let k = g.R.Ring.ring in
    record {
      adjoint = adjoint k;
      outward_add = outward_add k;
      outward_scale = outward_scale k;
      inward_add = inward_add k;
      inward_scale = inward_scale k;
      momentum_add = momentum_add k;
      momentum_scale = momentum_scale k;
      momentum_symmetric = momentum_symmetric k;
      link_is_inertia = link_is_inertia k;
      applied_add = applied_add k;
      applied_scale = applied_scale k;
      applied_symmetric = applied_symmetric k;
      sum_applied = sum_applied k;
      carried_applied = carried_applied k;
      minus_outer_applied = minus_outer_applied k;
      cross_adjoint = cross_adjoint k;
      jacobi = jacobi k;
    }
