-- What was worked out stays true to the numbers that were given.
use Rattle.std.proofs.Common.{◌≡◌, ℕ, zero, suc, ◌+◌, ◌<◌, ◌≤◌, ◌≢◌, ◌⊎◌, List, [], ◌∷◌, length, get_or, set, ℤ, Some, None, Option, sym, refl, ap, ◌∙◌, subst, ap₂, inl, inr, add-one, arith, get_or-set_other, get_or-set_same, below_more}
use Rattle.std.proofs.lemmas.Bool.{cases_eq}
use Rattle.std.specs.Option.{option_map}
use Rattle.ring.specs.CommRing.{CommRing}
use Rattle.ring.specs.Laws.{mul_zero, neg_zero, inverse_of}
use Rattle.spatial.specs.Placements.{turn, turn_norm, turned}
use Rattle.spatial.specs.declared.placement.Placement.{Placement}
use Rattle.joint.specs.Joints.{own}
use Rattle.third_axis.specs.Turns.{rotated, cosine_at, sine_at}
use Rattle.pose.specs.Poses.{own_at}
use Rattle.pose.proofs.Turns.{turned_is}
use Rattle.rotation.specs.Rotations.{rotation, quaternion}
use Rattle.rotation.specs.declared.quaternion.Quaternion.{Quaternion}
use Rattle.triple.specs.declared.triple.Triple.{Triple}
use Rattle.linear.specs.declared.matrix.Matrix3.{Matrix3}
use Rattle.joint.specs.declared.joint.Joint.{Joint}
use Rattle.spatial.specs.declared.link.Link.{Link}
use Rattle.joint.specs.declared.kind.JointKind.{JointKind}
use Rattle.joint.specs.declared.kind.JointKind.TheVariants.{Revolute, Prismatic}
use Rattle.dynamics.specs.Given.{placed, placed_by}
use Rattle.rig.specs.declared.slot.Slot.{Slot}
use Rattle.rig.specs.declared.table.Row.{Row}
use Rattle.rig.specs.declared.table.Table.{Table}
use Rattle.rig.specs.declared.rig.Rig.{Rig}
use Rattle.rig.specs.Tables.{row, row_at, with_row, blank_row, Low}
use Rattle.rig.specs.Slots.{slot, slot_joint, slot_given}
use Rattle.rig.specs.Calls.{with_position, Changed, Fresh, Added, Positioned, TrueToGiven}

module _ {N : Type 0} (k : CommRing N) where
  -- 1 + 0 0 is one
  still_norm : turn_norm k k.zero ≡ k.one
  unfolding turn_norm
  still_norm = ap (k.add k.one) (mul_zero k k.zero) ∙ k.add_zero k.one

  -- a turn by nothing
  still_turn : turned k k.zero k.one ≡ rotated k k.one k.zero
  unfolding turned rotated
  still_turn =
      let c : k.mul (k.add k.one (k.neg (k.mul k.zero k.zero))) k.one ≡ k.one =
      k.mul_one _
      ∙ ap (λ x. k.add k.one (k.neg x)) (mul_zero k k.zero)
      ∙ ap (k.add k.one) (neg_zero k)
      ∙ k.add_zero k.one in
      let s : k.mul (k.add k.zero k.zero) k.one ≡ k.zero = k.mul_one _ ∙ k.add_zero k.zero in
      λ i.
      record {
        rotation =
            record {
              x = record { x = c i; y = s i; z = k.zero };
              y = record { x = k.neg (s i); y = c i; z = k.zero };
              z = record { x = k.zero; y = k.zero; z = k.one };
            };
        offset = record { x = k.zero; y = k.zero; z = k.zero };
      }

  -- at position zero the cosine is one and the sine is zero
  pub still_own : (κ : JointKind) → own k κ k.zero ≡ Some (own_at k κ k.one k.zero k.zero)
  still_own Revolute =
      ap (λ n. option_map (turned k k.zero) (k.inverse n)) still_norm
      ∙ ap (option_map (turned k k.zero)) (inverse_of k k.one k.one (k.mul_one k.one))
      ∙ ap Some still_turn
  still_own Prismatic = refl

  -- a turn has its cosine and its sine in its first row
  turned_row :
      (t i : N) (p : Placement N) → p ≡ turned k t i → p ≡ rotated k p.rotation.x.x p.rotation.x.y
  unfolding turned
  turned_row t i p e =
      e ∙ turned_is k t i t ∙ sym (row_of e)
    where
      row_of : p ≡ turned k t i → rotated k p.rotation.x.x p.rotation.x.y ≡ rotated k (cosine_at k t i) (sine_at k t i)
      row_of e = ap (λ q. rotated k q.rotation.x.x q.rotation.x.y) e

  -- so the first row of a joint's own placement is all that has to be kept
  pub kept_own :
      (κ : JointKind) (t : N) (p : Placement N) → Some p ≡ own k κ t
      → own k κ t ≡ Some (own_at k κ p.rotation.x.x p.rotation.x.y t)
  kept_own Revolute t p e = sym e ∙ ap Some (go (k.inverse (turn_norm k t)) e)
    where
      inside : {a b : Placement N} → ◌≡◌ {A = Option (Placement N)} (Some a) (Some b) → a ≡ b
      inside h = cc

      go : (o : Option N) → Some p ≡ option_map (turned k t) o → p ≡ rotated k p.rotation.x.x p.rotation.x.y
      go None h = absurd (let z : ◌≡◌ {A = ℕ} 0 1 = cc in omega arith)
      go (Some i) h = turned_row t i p (inside h)
  kept_own Prismatic t p e = refl

module _ {S N : Type 0} (k : CommRing N) (v : S → N) where
  -- the joint of this row and slot is the one that its given numbers place
  abbrev Good : Row → Slot S → Type 0
  Good r s = placed k (slot_given r (slot v s)) ≡ Some (slot_joint k r (slot v s))

  -- a change of one slot that keeps this
  pub changed_true :
      (s t : Rig S) (j : ℕ) (f : Slot S → Slot S) → Changed s t j f
      → ((i : ℕ) → suc i ≡ j → (x : Slot S) → Good (row_at s.table i) x → Good (row_at s.table i) (f x))
      → TrueToGiven k v s → TrueToGiven k v t
  changed_true s t j f ch keep true_s i l d = rw (ch.table, ch.slots d) (by (cases_eq (suc i) j))
    where
      xs : List (Slot S)
      xs = s.slots.now

      low : i < s.n
      low = subst (λ m. i < m) ch.n l

      by : (suc i ≡ j) ⊎ (suc i ≢ j) → Good (row_at s.table i) (get_or (set xs j (f (get_or xs j d))) (suc i) d)
      by (inl e) =
          subst (λ m. Good (row_at s.table i) (get_or (set xs m (f (get_or xs m d))) (suc i) d)) e
          (rw (get_or-set_same xs (suc i) (f (get_or xs (suc i) d)) d (let h = s.fit in omega arith)) (keep i e _ (true_s i low d)))
      by (inr ne) = rw (get_or-set_other xs j (suc i) (f (get_or xs j d)) d ne) (true_s i low d)

  pub positioned_true :
      (s t : Rig S) (j : ℕ) (q : S) → Positioned k v s t j q → TrueToGiven k v s → TrueToGiven k v t
  positioned_true s t j q p = changed_true s t j _ p.changed keep
    where
      keep :
          (i : ℕ) → suc i ≡ j → (x : Slot S) → Good (row_at s.table i) x
          → Good (row_at s.table i) (with_position q p.cosine p.sine x)
      keep i e x h = again (rotation k (quaternion v x.turn)) h
        where
          r : Row
          r = row_at s.table i

          y : Slot S
          y = with_position q p.cosine p.sine x

          P : Placement N
          P = own_at k r.kind (v p.cosine) (v p.sine) (v q)

          at : own k r.kind (v q) ≡ Some P
          at =
              subst
              (λ m.
              own k (row_at s.table m).kind (v q)
              ≡ Some (own_at k (row_at s.table m).kind (v p.cosine) (v p.sine) (v q)))
              (omega arith) p.placed_at

          again :
              (o : Option (Matrix3 N)) → placed_by k (slot_given r (slot v x)) o (own k r.kind (v x.position)) ≡ Some (slot_joint k r (slot v x))
              → placed_by k (slot_given r (slot v y)) o (own k r.kind (v q)) ≡ Some (slot_joint k r (slot v y))
          again None h = absurd (let z : ◌≡◌ {A = ℕ} 0 1 = cc in omega arith)
          again (Some m) h = rw at (turns (own k r.kind (v x.position)) h)
            where
              turns :
                  (o : Option (Placement N)) → placed_by k (slot_given r (slot v x)) (Some m) o ≡ Some (slot_joint k r (slot v x))
                  → placed_by k (slot_given r (slot v y)) (Some m) (Some P) ≡ Some (slot_joint k r (slot v y))
              turns None h = absurd (let z : ◌≡◌ {A = ℕ} 0 1 = cc in omega arith)
              turns (Some o) h = ap (λ f. Some (record { kind = r.kind; fixed = f; own = P })) (ap (λ j. j.fixed) (inside h))
                where
                  inside : {a b : Joint N} → ◌≡◌ {A = Option (Joint N)} (Some a) (Some b) → a ≡ b
                  inside e = cc

  -- the joint that was added is the one that its given numbers place
  fresh_good :
      (κ : JointKind) (p : ℕ) (offset : Triple S) (turn : Quaternion S) (link : Link S) (s : Slot S)
      → Fresh k v κ offset turn link s → Good (row p κ) s
  fresh_good κ p offset turn link s f =
      ap₂ (placed_by k (slot_given (row p κ) (slot v s)))
      (ap (λ q. rotation k (quaternion v q)) f.given_turn ∙ f.turned) f.placed_at

  pub added_true :
      (s t : Rig S) (parent : ℤ) (letter : ℕ) (offset : Triple S) (turn : Quaternion S) (link : Link S)
      → Added k v s t parent letter offset turn link → s.n < 24 → s.n + 1 < length s.slots.now
      → TrueToGiven k v s → TrueToGiven k v t
  added_true s t parent letter offset turn link a few room true_s i l d =
      rw (a.table, a.slots) (by (cases_eq i s.n))
    where
      xs : List (Slot S)
      xs = s.slots.now

      rows : List Row
      rows = s.table.rows

      r : Row
      r = row a.parent_number a.kind

      x : Slot S
      x = a.new_slot

      At : ℕ → Type 0
      At i = Good (get_or (set rows s.n r) i blank_row) (get_or (set xs (s.n + 1) x) (suc i) d)

      low : i < s.n + 1
      low = subst (λ m. i < m) a.n l

      here : At s.n
      here =
          rw (get_or-set_same rows s.n r blank_row (let h = s.full in omega arith))
          (rw (sym (add-one s.n)) (rw (get_or-set_same xs (s.n + 1) x d room) (fresh_good a.kind a.parent_number offset turn link x a.fresh)))

      by : (i ≡ s.n) ⊎ (i ≢ s.n) → At i
      by (inl e) = subst At (sym e) here
      by (inr ne) =
          rw (get_or-set_other rows s.n i r blank_row ne)
          (rw (get_or-set_other xs (s.n + 1) (suc i) x d (λ e. ne (omega arith))) (true_s i (omega arith) d))

parent_set : (rows : List Row) (n m : ℕ) (r : Row) → r.parent ≤ m → (get_or (set rows n r) n blank_row).parent ≤ m
parent_set [] n m r h = omega arith
parent_set (x ∷ xs) zero m r h = h
parent_set (x ∷ xs) (suc n) m r h = parent_set xs n m r h

-- one row more
pub low_set : (t : Table) (n : ℕ) (r : Row) → r.parent ≤ n → Low n t → Low (n + 1) (with_row t n r)
low_set t n r h low =
    below_more _ n
    (λ i l. let ne : i ≢ n = omega arith in rw (get_or-set_other t.rows n i r blank_row ne) (low i l))
    (parent_set t.rows n n r h)
