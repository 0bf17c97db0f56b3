-- Questions that got a yes or a no.
use Rattle.std.proofs.Common.{◌≡◌, ℕ, suc, ◌+◌, ◌-◌, ◌<◌, ◌≤◌, Bool, true, false, cond, ◌&&◌, leb, List, [], ◌∷◌, length, get_or, set, ℤ, pos, is_some, Some, None, Ok, Err, Option, Result, sym, refl, ap, ◌∙◌, subst, negsuc, MatchOption, arith, length-set}
use Rattle.std.proofs.lemmas.List.{get_or_default}
use Rattle.std.proofs.lemmas.Bool.{le-leb, lt-leb, leb-true}
use Rattle.std.specs.Option.{option_map, ok_or}
use Rattle.std.specs.Result.{IsErrAnd}
use Rattle.std.proofs.lemmas.Result.{err_from_is_err_and}
use Rattle.ring.specs.CommRing.{CommRing}
use Rattle.spatial.specs.Placements.{turned, turn_norm}
use Rattle.spatial.specs.declared.placement.Placement.{Placement}
use Rattle.rotation.specs.Rotations.{norm}
use Rattle.joint.specs.Joints.{own}
use Rattle.rotation.specs.declared.quaternion.Quaternion.{Quaternion}
use Rattle.joint.specs.declared.kind.JointKind.{JointKind}
use Rattle.joint.specs.declared.kind.JointKind.TheVariants.{Revolute, Prismatic}
use Rattle.joint.specs.Letters.{kind_of}
use Rattle.rig.specs.Tables.{row_at}
use Rattle.rig.specs.declared.table.Table.{Table}
use Rattle.refusal.specs.declared.Refusal.{Refusal}
use Rattle.refusal.specs.declared.Refusal.TheVariants.{NoSlot, NoParent, NoKind, NoRotation, NoJoint, NoPosition, ShortResult, ShortWork}
use Rattle.rig.specs.Questions.{Question, ask, first_no, answered, has_room, is_parent, is_between, is_joint, joint_number, is_unit, is_position, adding, positioning, showing}

pub refuses :
    {X : Type 0} (x : X) (b : Bool) (e : Refusal) (qs : List Question) → b ≡ false
    → Err e ≡ answered x (first_no (ask b e ∷ qs))
refuses x b e qs h = ap (λ y. answered x (cond y (first_no qs) (Some e))) (sym h)

pub passes :
    {X : Type 0} (x : X) (b : Bool) (e : Refusal) (qs : List Question) → b ≡ true
    → answered x (first_no qs) ≡ answered x (first_no (ask b e ∷ qs))
passes x b e qs h = ap (λ y. answered x (cond y (first_no qs) (Some e))) (sym h)

-- what is known of a number that was found to be one of `least` to n, and of one that was not
pub within_some :
    {o : Option ℕ} (least n : ℕ) (z : ℤ) {i : ℕ} → o ≡ Some i
    → MatchOption o (is_between least n z ≡ false) (λ i. (z ≡ pos i) × (least ≤ i) × (i ≤ n))
    → (z ≡ pos i) × (least ≤ i) × (i ≤ n)
within_some least n z e m =
    subst (λ o. MatchOption o (is_between least n z ≡ false) (λ i. (z ≡ pos i) × (least ≤ i) × (i ≤ n))) e m

pub within_none :
    {o : Option ℕ} (least n : ℕ) (z : ℤ) → o ≡ None
    → MatchOption o (is_between least n z ≡ false) (λ i. (z ≡ pos i) × (least ≤ i) × (i ≤ n)) → is_between least n z ≡ false
within_none least n z e m =
    subst (λ o. MatchOption o (is_between least n z ≡ false) (λ i. (z ≡ pos i) × (least ≤ i) × (i ≤ n))) e m

pub no_joint_between : (n : ℕ) (z : ℤ) → is_between 1 n z ≡ false → is_joint n z ≡ false
no_joint_between n (pos j) e = e
no_joint_between n (negsuc j) e = e

pub no_parent_between : (n : ℕ) (z : ℤ) → is_between 0 n z ≡ false → is_parent n z ≡ false
no_parent_between n (pos p) e = ap (λ b. b && leb p n) (sym (le-leb 0 p (omega arith))) ∙ e
no_parent_between n (negsuc p) e = e

-- an entry at most the n-th of a list longer than n
pub there : {X : Type 0} (xs : List X) (n i : ℕ) → i ≤ n → n < length xs → i < length xs
there xs n i le long = omega arith

-- a count that goes on no further
pub last : (n i : ℕ) → n ≤ i → i ≤ n → n ≡ i
last n i a b = omega arith

pub counted : (i : ℕ) → i + 1 - 1 ≡ i
counted i = omega arith

-- the entry before the i-th, and any entry where none is left
pub below : (n i m : ℕ) → 1 ≤ i → i ≤ n → n ≤ m → i - 1 < m
below n i m low high le = omega arith

pub just_below : (i : ℕ) → 1 ≤ i → i - 1 < i
just_below i low = omega arith

pub lower : (n i p : ℕ) → p < i → i ≤ n → p ≤ n
lower n i p low high = omega arith

pub left_none : (i j : ℕ) → i < 1 → i ≤ j
left_none i j none = omega arith

pub above : (i : ℕ) → 1 ≤ i → i ≡ suc (i - 1)
above i low = omega arith

-- the entry before one that is there
pub before : {X : Type 0} (xs : List X) (i : ℕ) → i < length xs → i - 1 < length xs
before xs i there = omega arith

-- a joint has a slot
pub slot_there : {X : Type 0} (xs : List X) (n i : ℕ) → 1 ≤ i → i ≤ n → n ≤ length xs - 1 → i < length xs
slot_there xs n i low high fit = omega arith

pub joint_yes : (n i : ℕ) (joint : ℤ) → joint ≡ pos i → 0 < i → i ≤ n → is_joint n joint ≡ true
joint_yes n i joint e low high =
    ap (is_joint n) e ∙ ap (λ b. b && leb i n) (le-leb 1 i low) ∙ le-leb i n high

pub parent_yes : (n p : ℕ) (parent : ℤ) → parent ≡ pos p → p ≤ n → is_parent n parent ≡ true
parent_yes n p parent e h = ap (is_parent n) e ∙ le-leb p n h

pub room_no : (n slots : ℕ) → slots ≤ n + 1 → has_room n slots ≡ false
room_no n slots h = ap (λ b. b && leb (n + 1) 24) (lt-leb (n + 2) slots (omega arith))

pub few_no : (n slots : ℕ) → 24 ≤ n → has_room n slots ≡ false
few_no n slots h = ap (λ b. leb (n + 2) slots && b) (lt-leb (n + 1) 24 (omega arith)) ∙ falsely (leb (n + 2) slots)
  where
    falsely : (b : Bool) → (b && false) ≡ false
    falsely true = refl
    falsely false = refl

pub room_yes : (n slots : ℕ) → n + 1 < slots → n < 24 → has_room n slots ≡ true
room_yes n slots a b =
    ap (λ c. c && leb (n + 1) 24) (le-leb (n + 2) slots (omega arith)) ∙ le-leb (n + 1) 24 (omega arith)

-- what a rig with one joint more owes
pub few_more : (n : ℕ) → n < 24 → n + 1 ≤ 24
few_more n h = omega arith

pub fit_more : {X : Type 0} (n : ℕ) (xs : List X) (x : X) → n + 1 < length xs → n + 1 ≤ length (set xs (n + 1) x) - 1
fit_more n xs x h = simp length-set (omega arith)

pub fit_kept : {X : Type 0} (n i : ℕ) (xs : List X) (x : X) → n ≤ length xs - 1 → n ≤ length (set xs i x) - 1
fit_kept n i xs x h = simp length-set h

-- a map of an option keeps whether there is a value
pub is_some_mapped : {X Y : Type 0} (f : X → Y) (o : Option X) → is_some (option_map f o) ≡ is_some o
is_some_mapped f None = refl
is_some_mapped f (Some x) = refl

-- the answers of adding, question by question
module _ {N : Type 0} (k : CommRing N) (n slots : ℕ) (parent : ℤ) (letter : ℕ) (turn : Quaternion N) where
  abbrev fourth : List Question
  fourth = ask (is_unit k (norm k turn)) NoRotation ∷ []

  abbrev third : List Question
  third = ask (is_some (kind_of letter)) NoKind ∷ fourth

  abbrev second : List Question
  second = ask (is_parent n parent) NoParent ∷ third

  abbrev pub Adds : Result ℕ Refusal → Type 0
  Adds r = r ≡ answered (n + 1) (first_no (adding k n slots parent letter turn))

  pub no_room : has_room n slots ≡ false → Adds (Err NoSlot)
  no_room a = refuses (n + 1) (has_room n slots) NoSlot second a

  module _ (a : has_room n slots ≡ true) where
    pub no_parent : is_parent n parent ≡ false → Adds (Err NoParent)
    no_parent b = refuses (n + 1) (is_parent n parent) NoParent third b ∙ passes (n + 1) (has_room n slots) NoSlot second a

    module _ (b : is_parent n parent ≡ true) where
      past_parent : answered (n + 1) (first_no third) ≡ answered (n + 1) (first_no (adding k n slots parent letter turn))
      past_parent = passes (n + 1) (is_parent n parent) NoParent third b ∙ passes (n + 1) (has_room n slots) NoSlot second a

      pub no_kind : is_some (kind_of letter) ≡ false → Adds (Err NoKind)
      no_kind c = refuses (n + 1) (is_some (kind_of letter)) NoKind fourth c ∙ past_parent

      module _ (c : is_some (kind_of letter) ≡ true) where
        past_kind : answered (n + 1) (first_no fourth) ≡ answered (n + 1) (first_no (adding k n slots parent letter turn))
        past_kind = passes (n + 1) (is_some (kind_of letter)) NoKind fourth c ∙ past_parent

        pub no_rotation : is_unit k (norm k turn) ≡ false → Adds (Err NoRotation)
        no_rotation d = refuses (n + 1) (is_unit k (norm k turn)) NoRotation [] d ∙ past_kind

        pub adds : is_unit k (norm k turn) ≡ true → Adds (Ok (n + 1))
        adds d = passes (n + 1) (is_unit k (norm k turn)) NoRotation [] d ∙ past_kind

-- the answers of setting a position
module _ {N : Type 0} (k : CommRing N) (n : ℕ) (table : Table) (joint : ℤ) (t : N) where
  abbrev Positions : Result (Unit {0}) Refusal → Type 0
  Positions r = r ≡ answered (tt {0}) (first_no (positioning k n table joint t))

  abbrev kind : JointKind
  kind = (row_at table (joint_number joint - 1)).kind

  abbrev lawful : List Question
  lawful = ask (is_position k kind t) (NoPosition (joint_number joint)) ∷ []

  -- a position is lawful where it makes a placement
  pub position_told : (κ : JointKind) → is_some (own k κ t) ≡ is_position k κ t
  position_told Revolute = is_some_mapped (turned k t) (k.inverse (turn_norm k t))
  position_told Prismatic = refl

  pub no_joint : is_joint n joint ≡ false → Positions (Err NoJoint)
  no_joint a = refuses (tt {0}) (is_joint n joint) NoJoint lawful a

  module _ (i : ℕ) (e : joint ≡ pos i) (low : 0 < i) (high : i ≤ n) where
    past_joint : answered (tt {0}) (first_no lawful) ≡ answered (tt {0}) (first_no (positioning k n table joint t))
    past_joint = passes (tt {0}) (is_joint n joint) NoJoint lawful (joint_yes n i joint e low high)

    told : (o : Option (Placement N)) → o ≡ own k (row_at table (i - 1)).kind t → is_position k kind t ≡ is_some o
    told o h =
        sym (position_told kind) ∙ ap (λ j. is_some (own k (row_at table (joint_number j - 1)).kind t)) e ∙ ap is_some (sym h)

    pub no_position : None ≡ own k (row_at table (i - 1)).kind t → Positions (Err (NoPosition i))
    no_position h =
        ap (λ j. Err (NoPosition (joint_number j))) (sym e)
        ∙ refuses (tt {0}) (is_position k kind t) (NoPosition (joint_number joint)) [] (told None h)
        ∙ past_joint

    pub positions : (p : Placement N) → Some p ≡ own k (row_at table (i - 1)).kind t → Positions (Ok (tt {0}))
    positions p h = passes (tt {0}) (is_position k kind t) (NoPosition (joint_number joint)) [] (told (Some p) h) ∙ past_joint

-- the lists of a show that is taken are long enough
pub long_enough :
    (n wanted results works : ℕ) → ◌≡◌ {A = Result (Unit {0}) Refusal} (Ok tt) (answered tt (first_no (showing n wanted results works)))
    → (wanted ≤ results) × (n < works)
long_enough n wanted results works e =
    let p = both (leb wanted results) (leb (n + 1) works) e in
    (leb-true wanted results p.0, at_least n works (leb-true (n + 1) works p.1))
  where
    both :
        (a b : Bool) → ◌≡◌ {A = Result (Unit {0}) Refusal} (Ok tt) (answered tt (cond a (cond b None (Some ShortWork)) (Some ShortResult)))
        → (a ≡ true) × (b ≡ true)
    both true true e = (refl, refl)
    both true false e = cc
    both false b e = cc

    at_least : (n works : ℕ) → n + 1 ≤ works → n < works
    at_least n works h = omega arith

-- one entry changed, the joint by its number
pub settled :
    {X : Type 0} (xs : List X) (f : X → X) (i : ℕ) (joint : ℤ) (r d : X) → joint ≡ pos i → i < length xs
    → set xs i (f (get_or xs i r)) ≡ set xs (joint_number joint) (f (get_or xs (joint_number joint) d))
settled xs f i joint r d e l =
    ap (λ x. set xs i (f x)) (get_or_default xs i r d l) ∙ ap (λ j. set xs (joint_number j) (f (get_or xs (joint_number j) d))) (sym e)

-- an entry by the joint's number
pub set_at : {X : Type 0} (xs : List X) (x : X) (i : ℕ) (joint : ℤ) → joint ≡ pos i → set xs i x ≡ set xs (joint_number joint) x
set_at xs x i joint e = ap (λ j. set xs (joint_number j) x) (sym e)

-- what a `?` hands on where there was no value, as f
pub handed_on :
    {X Y : Type 0} (r : Result X Refusal) {o : Option Y} (e : Refusal) {f : Refusal} → IsErrAnd r (λ y. y ≡ f)
    → ◌≡◌ {A = Result Y Refusal} (Err f) (ok_or o e) → o ≡ None → r ≡ Err e
handed_on r {o} e {f} is made none =
    let p = err_from_is_err_and r is in
    let made_of_none : ◌≡◌ {A = Result _ Refusal} (Err f) (Err e) = made ∙ ap (λ o. ok_or o e) none in
    let same : f ≡ e = cc in
    p.1 ∙ ap Err (p.2 ∙ same)
