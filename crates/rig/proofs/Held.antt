-- What a rig holds of a joint is what its row and its slot have.
use Rattle.std.proofs.Common.{◌≡◌, ℕ, zero, suc, ◌-◌, ◌<◌, ◌≤◌, min, true, cond, map, length, get_or, pos, refl, sym, ap, ◌∙◌, arith}
use Rattle.std.proofs.lemmas.List.{get_or-map}
use Rattle.ring.specs.CommRing.{CommRing}
use Rattle.triple.specs.Triples.{triple}
use Rattle.dynamics.specs.Held.{par}
use Rattle.rig.specs.declared.slot.Slot.{Slot}
use Rattle.rig.specs.declared.table.Row.{Row}
use Rattle.rig.specs.declared.rig.Rig.{Rig}
use Rattle.rig.specs.Tables.{row_at, blank_row}
use Rattle.rig.specs.Slots.{slot, slot_joint, blank_slot}
use Rattle.rig.specs.Questions.{is_joint}
use Rattle.spatial.specs.Links.{link}
use Rattle.joint.specs.declared.joint.Joint.{Joint}
use Rattle.pose.specs.Poses.{pose, posed, moves, moves_kept}
use Rattle.pose.specs.declared.pose.Pose.{Pose}
use Rattle.rig.specs.Holds.{held_row, held_slot, rig_holds, HeldAt}
use Rattle.rig.proofs.Asked.{joint_yes}

module _ {S N : Type 0} (k : CommRing N) (v : S → N) (r : Rig S) where
  pub holds_n : (rig_holds k v r).n ≡ r.n
  unfolding rig_holds
  holds_n = refl

  pub holds_gravity : (d : Slot S) → 0 < length r.slots.now → (rig_holds k v r).gravity ≡ triple v (get_or r.slots.now 0 d).gravity
  unfolding rig_holds
  holds_gravity d l = ap (λ s. s.gravity) (get_or-map (slot v) r.slots.now 0 d (blank_slot k) l)

  module _ (i : ℕ) (low : 0 < i) (high : i ≤ r.n) where
    yes : is_joint r.n (pos i) ≡ true
    yes = joint_yes r.n i (pos i) refl low high

    the_row : held_row k r.n r.table (map (slot v) r.slots.now) i ≡ row_at r.table (i - 1)
    the_row = ap (λ b. cond b (row_at r.table (i - 1)) blank_row) yes

    the_slot : (d : Slot S) → held_slot k r.n r.table (map (slot v) r.slots.now) i ≡ slot v (get_or r.slots.now i d)
    the_slot d =
        ap (λ b. cond b (get_or (map (slot v) r.slots.now) i (blank_slot k)) (blank_slot k)) yes
        ∙ get_or-map (slot v) r.slots.now i d (blank_slot k) (let fit = r.fit in omega arith)

    pub holds_joint : (d : Slot S) → (rig_holds k v r).joints i ≡ slot_joint k (row_at r.table (i - 1)) (slot v (get_or r.slots.now i d))
    unfolding rig_holds
    holds_joint d = λ j. slot_joint k (the_row j) (the_slot d j)

    -- a field of a held slot
    pub holds_link : (d : Slot S) → (rig_holds k v r).links i ≡ (slot v (get_or r.slots.now i d)).link
    unfolding rig_holds
    holds_link d = ap (λ s. s.link) (the_slot d)

    pub holds_rate : (d : Slot S) → (rig_holds k v r).rate i ≡ v (get_or r.slots.now i d).rate
    unfolding rig_holds
    holds_rate d = ap (λ s. s.rate) (the_slot d)

    pub holds_acceleration : (d : Slot S) → (rig_holds k v r).acceleration i ≡ v (get_or r.slots.now i d).acceleration
    unfolding rig_holds
    holds_acceleration d = ap (λ s. s.acceleration) (the_slot d)

  low_parent : (i : ℕ) → i < r.n → min (row_at r.table (suc i - 1)).parent i ≡ (row_at r.table (suc i - 1)).parent
  low_parent i l =
      let e : suc i - 1 ≡ i = omega arith in
      rw e (let b = r.low i l in omega arith)

  pub holds_par : (i : ℕ) → 0 < i → i ≤ r.n → par (rig_holds k v r) i ≡ (row_at r.table (i - 1)).parent
  unfolding rig_holds
  holds_par zero low high = absurd (omega arith)
  holds_par (suc i) low high = ap (λ (ρ : Row). min ρ.parent i) (the_row (suc i) low high) ∙ low_parent i high

  pub parent_low : (i : ℕ) → 0 < i → i ≤ r.n → (row_at r.table (i - 1)).parent < i
  parent_low i low high = let b = r.low (i - 1) (omega arith) in omega arith

  pub held_at :
      (i : ℕ) → 0 < i → i ≤ r.n → (ρ : Row) (s : Slot S) → ρ ≡ row_at r.table (i - 1) → ((d : Slot S) → s ≡ get_or r.slots.now i d)
      → HeldAt k v (rig_holds k v r) i ρ s
  held_at i low high ρ s row_is slot_is =
      record {
        joint_is = (λ j. slot_joint k (row_is j) (slot v (slot_is s j))) ∙ sym (holds_joint i low high s);
        parent_is = ap (λ (ρ : Row). ρ.parent) row_is ∙ sym (holds_par i low high);
        link_is = ap (λ x. link v x.link) (slot_is s) ∙ sym (holds_link i low high s);
        rate_is = ap (λ x. v x.rate) (slot_is s) ∙ sym (holds_rate i low high s);
        acceleration_is = ap (λ x. v x.acceleration) (slot_is s) ∙ sym (holds_acceleration i low high s);
      }

-- a pose moves as the joint that it stands for
pub moves_as : {S N : Type 0} (k : CommRing N) (v : S → N) (p : Pose S) (j : Joint N) → posed k (pose v p) ≡ j → moves p.own ≡ j.kind
moves_as k v p j e = sym (moves_kept v p.own) ∙ ap (λ j. j.kind) e
