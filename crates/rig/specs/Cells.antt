-- A square matrix of side n that lies in a list row by row, and what the walk over composite bodies leaves in it.
use Rattle.std.specs.Prelude.{◌≡◌, ℕ, suc, ◌+◌, ◌*◌, ◌<◌, ◌≤◌, ◌≢◌, List, get_or, slice_index_or}
use Rattle.ring.specs.CommRing.{CommRing}
use Rattle.motion.specs.Vectors.{force}
use Rattle.motion.specs.declared.vectors.Force.{Force}
use Rattle.inertia.specs.Inertias.{inertia, of_link}
use Rattle.inertia.specs.declared.inertia.Inertia.{Inertia}
use Rattle.dynamics.specs.Held.{Held}
use Rattle.dynamics.specs.Tables.{climbed}
use Rattle.rig.specs.declared.work.Work.{Work}

-- the place of row a and column b, counted from 0
abbrev pub cell : ℕ → ℕ → ℕ → ℕ
cell n a b = a * n + b

-- the entries (a, b) and (b, a) stand for x
pub record Both {V N : Type 0} (v : V → N) (n : ℕ) (xs : List V) (a b : ℕ) (x : N) : Type 0 where
  pub here : (d : V) → v (slice_index_or xs (cell n a b) d) ≡ x
  pub mirror : (d : V) → v (slice_index_or xs (cell n b a) d) ≡ x

-- the entries (a, b) and (b, a) are as they were
pub record Left {V : Type 0} (n : ℕ) (old new : List V) (a b : ℕ) : Type 0 where
  pub here : (d : V) → slice_index_or new (cell n a b) d ≡ slice_index_or old (cell n a b) d
  pub mirror : (d : V) → slice_index_or new (cell n b a) d ≡ slice_index_or old (cell n b a) d

-- everything past the matrix is as it was
abbrev pub Past : {V : Type 0} → ℕ → List V → List V → Type 0
Past {V} m old new = (j : ℕ) → m ≤ j → (d : V) → slice_index_or new j d ≡ slice_index_or old j d

-- the first m entries are zero
abbrev pub Zeros : {V N : Type 0} → CommRing N → (V → N) → ℕ → List V → Type 0
Zeros {V} k v m xs = (j : ℕ) → j < m → (d : V) → v (slice_index_or xs j d) ≡ k.zero

module _ {V N : Type 0} (k : CommRing N) (v : V → N) (h : Held N) where
  -- the force F of joint a + 1 was felt at each joint on the way to the base: row and column a up to the diagonal are
  -- filled, and all else is as it was
  pub record Climbs (n a : ℕ) (F : Force V) (old new : List V) : Type 0 where
    pub row : (b : ℕ) → b ≤ a → Both v n new a b (climbed k h (suc a) (force v F) (suc b))
    pub others : (p q : ℕ) → p < n → q ≤ p → p ≢ a → Left n old new p q
    pub past : Past (n * n) old new

  -- the entries 1 to m of the work list have the inertias of the joints' own links
  abbrev pub OwnInertias : ℕ → List (Work V) → Type 0
  OwnInertias m work = (i : ℕ) → i < m → (d : Work V) → inertia v (get_or work (suc i) d).inertia ≡ of_link k (h.links (suc i))

abbrev pub with_inertia : {V : Type 0} → Inertia V → Work V → Work V
with_inertia a w = record { moving = w.moving; inertia = a }
