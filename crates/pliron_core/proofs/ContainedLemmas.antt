-- Lemmas on what is used nowhere outside an operation or a block.
use Rattle.std.proofs.Common.{◌≡◌, ◌≢◌, ◌⊎◌, ◌↔◌, IsTrue, ℕ, ◌+◌, ◌<◌, ◌≤◌, Bool, true, false, List, [], ◌∷◌, length, Option, Some, None, refl, sym, ap, ◌∙◌, subst, inl, inr, arith}
use Rattle.std.specs.List.{slice_get}
use Rattle.std.proofs.lemmas.Bool.{cases_eq, false≢true}
use Rattle.std.proofs.lemmas.Option.{none-some, same_Some, slice_get_within}
use Rattle.pliron_core.specs.declared.uses.Use.{Use}
use Rattle.pliron_core.specs.declared.context.Def.{Def}
use Rattle.pliron_core.specs.declared.context.Def.TheVariants.{Result, Argument}
use Rattle.pliron_core.specs.declared.context.RegionSlot.{RegionSlot}
use Rattle.pliron_core.specs.declared.context.contained.Scope.{Scope}
use Rattle.pliron_core.specs.declared.context.contained.Scope.TheVariants.{Inside, InBlock}
use Rattle.pliron_core.specs.Lists.{In, IsDistinct, first_of, next_in}
use Rattle.pliron_core.specs.Tree.{Tree, View, IsListedBy, IsMadeBy, IsDefinedWithin, IsInside, IsWithin, up_from, op_of_slot, uses_of, operands_of, successors_of, results_of, regions_of, arguments_of, layout_of, body_of, slot_of, block_parent_of, region_parent_of, block_parent_operation_of, parent_of, definition_of, parent_operation_of}
use Rattle.pliron_core.specs.Tree.IsInside.{Directly}
use Rattle.pliron_core.specs.Invariant.{IsTree, HaveUses}
use Rattle.pliron_core.specs.Erased.{IsSelfContained, IsInOperation, IsBlockWithin, IsDefinedInBlock, IsSelfContainedBlock}
use Rattle.pliron_core.specs.Reads.{next_of, next_block_of}
use Rattle.pliron_core.specs.WalkSteps.{rest_from}
use Rattle.pliron_core.specs.Contained.{IsInScope, IsValueKept, IsTargetKept, IsBlockKept, IsOperationKept, IsPreorderKept, IsBodyKept}
use Rattle.pliron_core.proofs.MemberLemmas.{in_slice, in_at}
use Rattle.pliron_core.proofs.ReadLemmas.{In-next}
use Rattle.pliron_core.proofs.NextLemmas.{rest_from-first, rest_from-step}
use Rattle.pliron_core.proofs.WalkLemmas.{inside_step, inside_trans}

-- what a test answers that found a use outside, or none
pub not_kept : {P Q : Type 0} (b : Bool) → b ≡ false → (IsTrue b ↔ P) → (Q → P) → (IsTrue false ↔ Q)
not_kept b e test back = (λ f. absurd (false≢true f), λ q. absurd (false≢true (sym e ∙ test.1 (back q))))

pub is_kept : {Q : Type 0} → Q → (IsTrue true ↔ Q)
is_kept q = (λ e. q, λ r. refl)

-- a loop by index: what holds of all members before this one
abbrev pub ArePassed : {A : Type 0} → (A → Type 0) → List A → ℕ → Type 0
ArePassed {A} P xs i = (j : ℕ) (x : A) → j < i → slice_get xs j ≡ Some x → P x

pub passed-more : {A : Type 0} (P : A → Type 0) (xs : List A) (i : ℕ) (y : A) → ArePassed P xs i → slice_get xs i ≡ Some y → P y → ArePassed P xs (i + 1)
passed-more P xs i y passed e p j x lt f =
    elim (cases_eq j i) [
      | inl same ↦ subst P (same_Some y x (sym e ∙ ap (slice_get xs) (sym same) ∙ f)) p
      | inr ne ↦ let below : j < i = omega arith in passed j x below f
    ]

pub passed-all : (P : ℕ → Type 0) (xs : List ℕ) (i : ℕ) → ArePassed P xs i → length xs ≤ i → (x : ℕ) → In x xs → P x
passed-all P xs i passed all x is =
    let at = in_at xs x is in
    let within : at.0 < length xs = slice_get_within xs at.0 x at.1 in
    let below : at.0 < i = omega arith in
    passed at.0 x below at.1

-- a loop by what comes next: what holds of all members before this one
pub record IsWalked (P : ℕ → Type 0) (xs : List ℕ) (at : Option ℕ) : Type 0 where
  pub member : (x : ℕ) → at ≡ Some x → In x xs
  pub passed : (x : ℕ) → In x xs → P x ⊎ In x (rest_from at xs)

pub walk-first : (P : ℕ → Type 0) (xs : List ℕ) (o : Option ℕ) → o ≡ first_of xs None → IsWalked P xs o
walk-first P xs o e = subst (IsWalked P xs) (sym e) (start xs)
  where
    start : (xs : List ℕ) → IsWalked P xs (first_of xs None)
    start [] = record { member = λ x f. absurd (none-some x f); passed = λ x i. absurd i }
    start (y ∷ ys) = record {
      member = λ x f. inl (sym (same_Some y x f));
      passed = λ x i. inr (subst (In x) (sym (rest_from-first y ys)) i);
    }

pub walk-next : (P : ℕ → Type 0) (xs : List ℕ) (x : ℕ) (o : Option ℕ) → IsDistinct xs → o ≡ next_in x xs → P x → IsWalked P xs (Some x) → IsWalked P xs o
walk-next P xs x o d e p w = record {
  member = λ z f. In-next x xs z (sym e ∙ f);
  passed = λ z i.
      elim (w.passed z i) [
        | inl q ↦ inl q
        | inr j ↦
            let here : In z (x ∷ rest_from o xs) = subst (In z) (rest_from-step xs x o d (w.member x refl) e) j in
            elim here [ inl s ↦ inl (subst P (sym s) p) | inr k ↦ inr k ]
      ];
}

pub walk-smaller : (P : ℕ → Type 0) (xs : List ℕ) (x : ℕ) (o : Option ℕ) → IsDistinct xs → o ≡ next_in x xs → IsWalked P xs (Some x) → length (rest_from o xs) < length (rest_from (Some x) xs)
walk-smaller P xs x o d e w = omega (arith, ap length (rest_from-step xs x o d (w.member x refl) e))

pub walk-all : (P : ℕ → Type 0) (xs : List ℕ) → IsWalked P xs None → (x : ℕ) → In x xs → P x
walk-all P xs w x i = elim (w.passed x i) [ inl p ↦ p | inr j ↦ absurd j ]

-- all uses that are listed are in the scope exactly if all uses are
module _ (v : View) (u : HaveUses v) (scope : Scope) where
  pub value_kept : (value n : ℕ) → ArePassed (λ (one : Use). IsInScope v.tree scope one.user) (uses_of v.value_uses value) n → length (uses_of v.value_uses value) ≤ n → IsValueKept v.tree scope value
  value_kept value n passed all x is =
      let place = in_at (operands_of v.tree x) value is in
      let one : Use = record { user = x; place = place.0 } in
      let listed = u.value_uses.complete x place.0 value place.1 in
      let within : listed.0 < length (uses_of v.value_uses value) = slice_get_within (uses_of v.value_uses value) listed.0 one listed.1 in
      let below : listed.0 < n = omega arith in
      passed listed.0 one below listed.1

  pub value_used : (value i : ℕ) (one : Use) → slice_get (uses_of v.value_uses value) i ≡ Some one → IsValueKept v.tree scope value → IsInScope v.tree scope one.user
  value_used value i one e kept =
      kept one.user (in_slice (operands_of v.tree one.user) one.place value (u.value_uses.listed value i one e))

  pub target_kept : (block n : ℕ) → ArePassed (λ (one : Use). IsInScope v.tree scope one.user) (uses_of v.block_uses block) n → length (uses_of v.block_uses block) ≤ n → IsTargetKept v.tree scope block
  target_kept block n passed all x is =
      let place = in_at (successors_of v.tree x) block is in
      let one : Use = record { user = x; place = place.0 } in
      let listed = u.block_uses.complete x place.0 block place.1 in
      let within : listed.0 < length (uses_of v.block_uses block) = slice_get_within (uses_of v.block_uses block) listed.0 one listed.1 in
      let below : listed.0 < n = omega arith in
      passed listed.0 one below listed.1

  pub target_used : (block i : ℕ) (one : Use) → slice_get (uses_of v.block_uses block) i ≡ Some one → IsTargetKept v.tree scope block → IsInScope v.tree scope one.user
  target_used block i one e kept =
      kept one.user (in_slice (successors_of v.tree one.user) one.place block (u.block_uses.listed block i one e))

-- what is within is inside of the parent operation
pub within_up : (t : Tree) (x p z : ℕ) → parent_operation_of t x ≡ Some p → IsWithin t x z → IsInside t p z
within_up t x p z h (inl e) = Directly (ap (λ k. parent_operation_of t k) e ∙ h)
within_up t x p z h (inr u) = inside_trans t p x z (Directly h) u

-- what stands in a block does so in it or further up
pub stands_up : (t : Tree) (block x : ℕ) → parent_of t x ≢ Some block → IsInOperation t block x → (p : ℕ) × (parent_operation_of t x ≡ Some p) × IsInOperation t block p
stands_up t block x ne s =
    elim s.2 [
      | inl e ↦ absurd (ne (ap (λ k. parent_of t k) e ∙ s.1))
      | inr i ↦ let up = inside_step t s.0 x i in (up.0, up.1, (s.0, s.1, up.2))
    ]

module _ (t : Tree) (w : IsTree t) where
  -- what comes next in a region and in a block
  pub next_in_layout : (b r : ℕ) → In b (layout_of t r) → next_block_of t b ≡ next_in b (layout_of t r)
  next_in_layout b r i = ap (λ o. up_from o (λ z. next_in b (layout_of t z))) (w.layouts.owned b r i)

  pub next_in_body : (x b : ℕ) → In x (body_of t b) → next_of t x ≡ next_in x (body_of t b)
  next_in_body x b i = ap (λ o. up_from o (λ z. next_in x (body_of t z))) (w.bodies.owned x b i)

  -- a block that an operation holds directly stands in one of its regions
  pub block_in : (b k : ℕ) → block_parent_operation_of t b ≡ Some k → (r : ℕ) × In r (regions_of t k) × In b (layout_of t r)
  block_in b k e = region (block_parent_of t b) refl e
    where
      slot : (r : ℕ) → block_parent_of t b ≡ Some r → (o : Option RegionSlot) → IsListedBy t r o → op_of_slot o ≡ Some k → (r : ℕ) × In r (regions_of t k) × In b (layout_of t r)
      slot r p None is f = absurd is
      slot r p (Some s) is f =
          (r, subst (λ z. In r (regions_of t z)) (same_Some s.op k f) (in_slice (regions_of t s.op) s.index r is), w.layouts.listed b r p)

      region : (o : Option ℕ) → block_parent_of t b ≡ o → up_from o (λ r. region_parent_of t r) ≡ Some k → (r : ℕ) × In r (regions_of t k) × In b (layout_of t r)
      region None p f = absurd (none-some k f)
      region (Some r) p f = slot r p (slot_of t r) (w.joined.placed b r p) f

  pub block_held : (k r b : ℕ) → In r (regions_of t k) → In b (layout_of t r) → block_parent_operation_of t b ≡ Some k
  block_held k r b i j =
      let at = in_at (regions_of t k) r i in
      ap (λ o. up_from o (λ z. region_parent_of t z)) (w.layouts.owned b r j) ∙ ap op_of_slot (w.joined.regions k at.0 r at.1)

  -- what is made is kept, if all that stands in the scope keeps to it
  block_kept : (scope : Scope) → ((k : ℕ) → IsInScope t scope k → IsOperationKept t scope k) → (b k : ℕ) → block_parent_operation_of t b ≡ Some k → IsInScope t scope k → IsBlockKept t scope b
  block_kept scope all b k e here = let p = block_in b k e in (all k here).regions p.0 p.1 b p.2

  -- and the other way round
  keeps_block : (scope : Scope) (b : ℕ) → ((i v : ℕ) → definition_of t v ≡ Some (Argument b i) → IsValueKept t scope v) → IsTargetKept t scope b → IsBlockKept t scope b
  keeps_block scope b made target = record {
    block = target;
    arguments = λ v is. let at = in_at (arguments_of t b) v is in made at.0 v (w.joined.arguments b at.0 v at.1);
  }

  keeps_operation : (scope : Scope) (k : ℕ) → ((i v : ℕ) → definition_of t v ≡ Some (Result k i) → IsValueKept t scope v) → ((b : ℕ) → block_parent_operation_of t b ≡ Some k → IsBlockKept t scope b) → IsOperationKept t scope k
  keeps_operation scope k made held = record {
    results = λ v is. let at = in_at (results_of t k) v is in made at.0 v (w.joined.results k at.0 v at.1);
    regions = λ r i b j. held b (block_held k r b i j);
  }

  -- an operation
  module _ (op : ℕ) where
    pub contained-from : IsPreorderKept t (Inside op) op → IsSelfContained t op
    contained-from all = record {
      values = λ x v is made. value x v is (definition_of t v) (w.joined.operands x v is) made;
      blocks = λ x b is h. (block_kept (Inside op) all b h.0 h.1 h.2).block x is;
    }
      where
        value : (x v : ℕ) → In v (operands_of t x) → (d : Option Def) → IsMadeBy t v d → IsDefinedWithin t op d → IsWithin t op x
        value x v is None by made = absurd made
        value x v is (Some (Result k i)) by made = (all k made).results v (in_slice (results_of t k) i v by) x is
        value x v is (Some (Argument b i)) by made =
            (block_kept (Inside op) all b made.0 made.1 made.2).arguments v (in_slice (arguments_of t b) i v by) x is

    pub contained-to : IsSelfContained t op → IsPreorderKept t (Inside op) op
    contained-to c k here =
        keeps_operation (Inside op) k (λ i v made x is. c.values x v is (subst (IsDefinedWithin t op) (sym made) here)) (λ b held.
        keeps_block (Inside op) b (λ i v made x is. c.values x v is (subst (IsDefinedWithin t op) (sym made) (k, held, here))) (λ x is. c.blocks x b is (k, held, here)))

  -- a block
  module _ (block : ℕ) where
    pub contained_block-from : IsBlockKept t (InBlock block) block → IsBodyKept t (InBlock block) block → IsSelfContainedBlock t block
    contained_block-from own body = record {
      values = λ x v is made. value x v is (definition_of t v) (w.joined.operands x v is) made;
      blocks = λ x b is h. (each b h).block x is;
    }
      where
        all : (k : ℕ) → IsInOperation t block k → IsOperationKept t (InBlock block) k
        all k s = body s.0 (w.bodies.listed s.0 block s.1) k s.2

        each : (b : ℕ) → IsBlockWithin t block b → IsBlockKept t (InBlock block) b
        each b (inl e) = subst (IsBlockKept t (InBlock block)) (sym e) own
        each b (inr h) = block_kept (InBlock block) all b h.0 h.1 h.2

        value : (x v : ℕ) → In v (operands_of t x) → (d : Option Def) → IsMadeBy t v d → IsDefinedInBlock t block d → IsInOperation t block x
        value x v is None by made = absurd made
        value x v is (Some (Result k i)) by made = (all k made).results v (in_slice (results_of t k) i v by) x is
        value x v is (Some (Argument b i)) by made = (each b made).arguments v (in_slice (arguments_of t b) i v by) x is

    keeps_inner : IsSelfContainedBlock t block → (b : ℕ) → IsBlockWithin t block b → IsBlockKept t (InBlock block) b
    keeps_inner c b here =
        keeps_block (InBlock block) b (λ i v made x is. c.values x v is (subst (IsDefinedInBlock t block) (sym made) here)) (λ x is. c.blocks x b is here)

    pub contained_block-own : IsSelfContainedBlock t block → IsBlockKept t (InBlock block) block
    contained_block-own c = keeps_inner c block (inl refl)

    pub contained_block-body : IsSelfContainedBlock t block → IsBodyKept t (InBlock block) block
    contained_block-body c k i x u =
        let here : IsInOperation t block x = (k, w.bodies.owned k block i, u) in
        keeps_operation (InBlock block) x (λ j v made y is. c.values y v is (subst (IsDefinedInBlock t block) (sym made) here)) (λ b held. keeps_inner c b (inr (x, held, here)))
