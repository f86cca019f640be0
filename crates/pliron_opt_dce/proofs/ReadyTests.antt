-- What the tests for ready things find.
use Rattle.std.proofs.Common.{◌≡◌, ◌↔◌, ◌⊎◌, inl, inr, ℕ, ◌+◌, ◌<◌, ◌≤◌, Bool, true, false, true≢false, List, [], ◌∷◌, length, Option, Some, None, IsTrue, slice_get, refl, sym, ap, ◌∙◌, subst, arith}
use mathlib.Core.Bool.{not}
use Rattle.std.proofs.lemmas.Option.{slice_get_within}
use Rattle.pliron_core.specs.declared.uses.Use.{Use as Edge}
use Rattle.pliron_core.specs.declared.context.Def.{Def}
use Rattle.pliron_core.specs.declared.context.Def.TheVariants.{Result, Argument}
use Rattle.pliron_core.specs.Uses.{AreAgreed}
use Rattle.pliron_core.specs.Tree.{Tree, In, IsLive, IsDefined, IsMadeBy, IsDefinedWithin, IsInside, IsWithin, head_of, operands_of, results_of, block_parent_operation_of, definition_of, uses_of}
use Rattle.pliron_core.specs.Changes.{IsDefinedInside, IsDefiningOperationInside}
use Rattle.pliron_core.specs.Invariant.{IsTree}
use Rattle.pliron_core.specs.Erased.{IsSelfContained}
use Rattle.pliron_core.proofs.HoldingLemmas.{some_is, some_of, in_slice, slice_in}
use Rattle.pliron_core.proofs.TreeLemmas.{cases_lt}
use Rattle.pliron_laws.specs.Datum.{Head, Meaning}
use Rattle.pliron_laws.specs.Answers.{ReadsHead, ReadsPlace, HeadPasses}
use Rattle.pliron_opt_dce.specs.Dead.{IsHarmless, MayLose, KeepsAlive, OfResult, OfInside}
use Rattle.pliron_opt_dce.specs.Incoming.{BranchesLead}
use Rattle.pliron_opt_dce.specs.Readiness.{IsReadyOperation, IsReadyArgument, HaveNoUse, IsKeptAlive, IsUsedOutside}
use Rattle.pliron_core.proofs.WithinLemmas.{block_holder_live}
use Rattle.pliron_theory.proofs.SweptParts.{block_place_of}

pub no_false : {A : Type 0} → (A → ⊥) → IsTrue false ↔ A
no_false n = ((λ e. absurd (true≢false (sym e))), (λ a. absurd (n a)))

-- the answer on side effects
pub harmless_told : (m : Meaning) (side_effects : Head → Option Bool) (t : Tree) (op : ℕ) (r : Option Bool) (b : Bool) → IsLive t op → ReadsHead side_effects t op r → r ≡ Some false → ReadsHead m.is_terminator t op b → IsTrue (not b) ↔ IsHarmless m side_effects t op
harmless_told m side_effects t op r true l read e ends = no_false (λ h. let y = some_of (head_of t op) l in true≢false (ends y.0 y.1 ∙ h.plain y.0 y.1))
harmless_told m side_effects t op r false l read e ends = ((λ z. record { harmless = λ h q. sym (read h q) ∙ e; plain = λ h q. sym (ends h q) }), (λ h. refl))

pub harmful_told : (m : Meaning) (side_effects : Head → Option Bool) (t : Tree) (op : ℕ) (r : Option Bool) → IsLive t op → ReadsHead side_effects t op r → (r ≡ Some false → ⊥) → IsTrue false ↔ IsHarmless m side_effects t op
harmful_told m side_effects t op r l read n = no_false (λ h. let y = some_of (head_of t op) l in n (read y.0 y.1 ∙ h.harmless y.0 y.1))

-- a value is used exactly if it has a use
pub no_use : (t : Tree) (uses : List (List Edge)) (v : ℕ) → AreAgreed t.operands uses → length (uses_of uses v) ≡ 0 → (user : ℕ) → In v (operands_of t user) → ⊥
no_use t uses v a e user i =
    let p = slice_in (operands_of t user) v i in
    let u = a.complete user p.0 v p.1 in
    let lt = slice_get_within (uses_of uses v) u.0 _ u.1 in
    absurd (omega (arith, lt, e))

pub some_use : (t : Tree) (uses : List (List Edge)) (v : ℕ) → AreAgreed t.operands uses → (length (uses_of uses v) ≡ 0 → ⊥) → (user : ℕ) × In v (operands_of t user)
some_use t uses v a n = go (uses_of uses v) refl
  where
    go : (xs : List Edge) → uses_of uses v ≡ xs → (user : ℕ) × In v (operands_of t user)
    go [] e = absurd (n (ap length e))
    go (x ∷ xs) e = (x.user, in_slice (operands_of t x.user) x.place v (a.listed v 0 x (ap (λ z. slice_get z 0) e)))

-- an operation that passes all tests is ready
pub ready_told : (m : Meaning) (side_effects : Head → Option Bool) (t : Tree) (root k : ℕ) → IsTree t → IsInside t root k → IsHarmless m side_effects t k → HaveNoUse t k → IsSelfContained t k → IsReadyOperation m side_effects t root k
ready_told m side_effects t root k w i h n c = record {
  may = record { inside = i; harmless = h.harmless; plain = h.plain };
  none = none;
}
  where
    within : (o : Option Def) → (v user : ℕ) → definition_of t v ≡ o → In v (operands_of t user) → IsDefinedInside t k v → IsWithin t k user
    within None v user e j q = absurd (subst (IsDefiningOperationInside t k) e q)
    within (Some (Result p n)) v user e j q = c.values user v j (subst (IsDefinedWithin t k) (sym e) (inr (subst (IsDefiningOperationInside t k) e q)))
    within (Some (Argument b n)) v user e j q = c.values user v j (subst (IsDefinedWithin t k) (sym e) (subst (IsDefiningOperationInside t k) e q))

    none : (user place : ℕ) → KeepsAlive t k user place → ⊥
    none user place (OfResult v e j) = n v user j (in_slice (operands_of t user) place v e)
    none user place (OfInside v e j out) = out (within (definition_of t v) v user refl (in_slice (operands_of t user) place v e) j)

-- a use of a result holds the operation, and so does one outside it of what is defined inside
pub held_by_result : (t : Tree) (k v user : ℕ) → In v (results_of t k) → In v (operands_of t user) → IsKeptAlive t k
held_by_result t k v user i j = let p = slice_in (operands_of t user) v j in (user, p.0, OfResult v p.1 i)

pub held_from_inside : (t : Tree) (k v : ℕ) → IsDefinedInside t k v → IsUsedOutside t k v → IsKeptAlive t k
held_from_inside t k v i u = let p = slice_in (operands_of t u.0) v u.1 in (u.0, p.0, OfInside v p.1 i u.2)

-- and one that is ready passes them
pub ready_unused : (m : Meaning) (side_effects : Head → Option Bool) (t : Tree) (root k : ℕ) → IsReadyOperation m side_effects t root k → HaveNoUse t k
ready_unused m side_effects t root k r v user i j = let p = slice_in (operands_of t user) v j in r.none user p.0 (OfResult v p.1 i)

pub ready_unheld : (m : Meaning) (side_effects : Head → Option Bool) (t : Tree) (root k : ℕ) → IsReadyOperation m side_effects t root k → IsKeptAlive t k → ⊥
ready_unheld m side_effects t root k r h = r.none h.0 h.1 h.2

pub ready_harmless : (m : Meaning) (side_effects : Head → Option Bool) (t : Tree) (root k : ℕ) → IsReadyOperation m side_effects t root k → IsHarmless m side_effects t k
ready_harmless m side_effects t root k r = record { harmless = r.may.harmless; plain = r.may.plain }

pub less_or_same : {A : Type 0} (n j : ℕ) → j < n + 1 → (j < n → A) → (j ≡ n → A) → A
less_or_same {A = A} n j l f g = go (cases_lt j n)
  where
    go : (j < n) ⊎ (n ≤ j) → A
    go (inl lt) = f lt
    go (inr le) = g (omega (arith, l, le))

-- a value that is no argument, or is one outside the root, is no ready argument
module _ (m : Meaning) (removable : Head → ℕ → Bool → Option Bool) (t : Tree) (root v : ℕ) (w : IsTree t) where
  pub ready_defined : IsReadyArgument m removable t root v → IsDefined t v
  ready_defined r = subst (IsMadeBy t v) (sym (w.joined.arguments r.may.block r.may.index v r.may.argument)) r.may.argument

  pub not_result : (k i : ℕ) → definition_of t v ≡ Some (Result k i) → IsReadyArgument m removable t root v → ⊥
  not_result k i e r = let f : Some (Result k i) ≡ Some (Argument r.may.block r.may.index) = sym e ∙ w.joined.arguments r.may.block r.may.index v r.may.argument in absurd (cc)

  module _ (block index : ℕ) (e : definition_of t v ≡ Some (Argument block index)) (holder : ℕ) (h : block_parent_operation_of t block ≡ Some holder) where
    same : (r : IsReadyArgument m removable t root v) → r.may.block ≡ block
    same r = let f : Some (Argument r.may.block r.may.index) ≡ Some (Argument block index) = sym (w.joined.arguments r.may.block r.may.index v r.may.argument) ∙ e in cc

    pub holder_within : IsReadyArgument m removable t root v → IsWithin t root holder
    holder_within r = let i = r.may.inside in subst (IsWithin t root) (some_is (sym i.1 ∙ ap (block_parent_operation_of t) (same r) ∙ h)) i.2

    pub ready_loses : IsReadyArgument m removable t root v → MayLose removable t block
    ready_loses r = subst (λ z. MayLose removable t z) (same r) r.may.allowed

    pub ready_led : IsReadyArgument m removable t root v → BranchesLead m t block
    ready_led r = subst (λ z. BranchesLead m t z) (same r) r.may.branches

    pub argument_told : IsDefined t v → ((user : ℕ) → In v (operands_of t user) → ⊥) → IsWithin t root holder → MayLose removable t block → BranchesLead m t block → IsReadyArgument m removable t root v
    argument_told d none i allowed branches = record {
      may = record {
        block = block;
        index = index;
        argument = subst (IsMadeBy t v) e d;
        inside = (holder, h, i);
        allowed = allowed;
        branches = branches;
      };
      none = none;
    }

-- what is read of a place is one answer
pub place_answer : (removable : Head → ℕ → Bool → Option Bool) (t : Tree) (k b : ℕ) (x y : Option Bool) → IsTree t → block_parent_operation_of t b ≡ Some k → ReadsPlace removable t k b x → ReadsPlace removable t k b y → x ≡ y
place_answer removable t k b x y w e p q =
    let s = block_place_of t w b k e in
    let h = some_of (head_of t k) (block_holder_live t b k w.joined e) in
    p h.0 s.region s.index h.1 s.in_region s.slot ∙ sym (q h.0 s.region s.index h.1 s.in_region s.slot)

-- where the parent operation of a block answers yes, it does so for each that holds it
pub allowed_told : (removable : Head → ℕ → Bool → Option Bool) (t : Tree) (k b : ℕ) (x : Option Bool) → block_parent_operation_of t b ≡ Some k → ReadsPlace removable t k b x → x ≡ Some true → (p : ℕ) → block_parent_operation_of t b ≡ Some p → ReadsPlace removable t p b (Some true)
allowed_told removable t k b x e r said p f = subst (λ z. ReadsPlace removable t z b (Some true)) (some_is (sym e ∙ f)) (λ h q i hd bp sl. sym said ∙ r h q i hd bp sl)

pub head_told : (f : Head → Bool) (t : Tree) (op : ℕ) (b : Bool) → IsLive t op → ReadsHead f t op b → HeadPasses f t op → b ≡ true
head_told f t op b l r p = let h = some_of (head_of t op) l in r h.0 h.1 ∙ p h.0 h.1
