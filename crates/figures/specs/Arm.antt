-- Arms whose figures are known.
use Rattle.std.specs.Prelude.{pos, negsuc}
use Rattle.ring.specs.CommRing.{CommRing}
use Rattle.ring.specs.Whole.{whole}
use Rattle.pendulum.specs.declared.Pendulum.{Pendulum}

-- mass 2, first moment (2, 0, 0), J₂₂ = J₃₃ = 2, gravity (0, −10, 0), acceleration 3
abbrev pub arm : {N : Type 0} → CommRing N → N → N → Pendulum N
arm k position rate =
    let two = whole k (pos 2) in
    record {
      link =
          record {
            mass = two;
            first_moment = record { x = two; y = k.zero; z = k.zero };
            inertia = record { xx = k.zero; xy = k.zero; xz = k.zero; yy = two; yz = k.zero; zz = two };
          };
      gravity = record { x = k.zero; y = whole k (negsuc 9); z = k.zero };
      position = position;
      rate = rate;
      acceleration = whole k (pos 3);
    }

-- mass 2, first moment (5, 10, 15), inertia 1 2 3 4 5 7, gravity (1, 2, 3), t = 2, rate 5, acceleration 3
abbrev pub skew : {N : Type 0} → CommRing N → Pendulum N
skew k =
    record {
      link =
          record {
            mass = whole k (pos 2);
            first_moment = record { x = whole k (pos 5); y = whole k (pos 10); z = whole k (pos 15) };
            inertia =
                record {
                  xx = whole k (pos 1);
                  xy = whole k (pos 2);
                  xz = whole k (pos 3);
                  yy = whole k (pos 4);
                  yz = whole k (pos 5);
                  zz = whole k (pos 7);
                };
          };
      gravity = record { x = whole k (pos 1); y = whole k (pos 2); z = whole k (pos 3) };
      position = whole k (pos 2);
      rate = whole k (pos 5);
      acceleration = whole k (pos 3);
    }
