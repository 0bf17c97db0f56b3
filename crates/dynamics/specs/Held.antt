-- What a rig holds.
use Rattle.std.specs.Prelude.{ℕ, zero, suc, min}
use Rattle.triple.specs.Triples.{triple}
use Rattle.triple.specs.declared.triple.Triple.{Triple}
use Rattle.spatial.specs.Links.{link}
use Rattle.spatial.specs.declared.link.Link.{Link}
use Rattle.joint.specs.Joints.{joint}
use Rattle.joint.specs.declared.joint.Joint.{Joint}

-- joints 1 to n, by tables over the joint's number; what stands past n is not looked at
pub record Held (N : Type 0) : Type 0 where
  pub n : ℕ
  pub gravity : Triple N
  pub parent : ℕ → ℕ
  pub joints : ℕ → Joint N
  pub links : ℕ → Link N
  pub rate : ℕ → N
  pub acceleration : ℕ → N
  pub force : ℕ → N

-- each number by f
abbrev pub held : {S N : Type 0} → (S → N) → Held S → Held N
held f h =
    record {
      n = h.n;
      gravity = triple f h.gravity;
      parent = h.parent;
      joints = λ i. joint f (h.joints i);
      links = λ i. link f (h.links i);
      rate = λ i. f (h.rate i);
      acceleration = λ i. f (h.acceleration i);
      force = λ i. f (h.force i);
    }

-- the same with other accelerations
abbrev pub moving : {N : Type 0} → Held N → (ℕ → N) → Held N
moving h q =
    record {
      n = h.n;
      gravity = h.gravity;
      parent = h.parent;
      joints = h.joints;
      links = h.links;
      rate = h.rate;
      acceleration = q;
      force = h.force;
    }

-- p(i); a parent that is not lower than its joint counts as the joint just below
abbrev pub par : {N : Type 0} → Held N → ℕ → ℕ
par h zero = 0
par h (suc i) = min (h.parent (suc i)) i
