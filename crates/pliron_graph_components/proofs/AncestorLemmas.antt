-- Searches for ancestors.
use Rattle.std.proofs.Common.{◌≡◌, ◌≢◌, ◌↔◌, IsTrue, ℕ, ◌-◌, ◌<◌, suc, Bool, true, false, length, Option, Some, None, refl, sym, ap, ◌∙◌, subst, inl, inr}
use Rattle.std.specs.Option.{IsSome, IfSome, is_some, option_map_or}
use Rattle.std.proofs.lemmas.Bool.{false≢true}
use Rattle.std.proofs.lemmas.Option.{none-some, same_Some}
use Rattle.pliron_core.specs.Tree.{Tree, IsLive, IsBlock, IsInside, IsWithin, up_from, head_of, parent_of, block_parent_of, region_parent_of, block_parent_operation_of, parent_operation_of}
use Rattle.pliron_core.specs.Tree.IsInside.{Directly}
use Rattle.pliron_core.specs.Invariant.{IsTree}
use Rattle.pliron_core.specs.Erased.{IsInOperation, IsBlockWithin}
use Rattle.pliron_core.specs.Walks.{contents}
use Rattle.pliron_core.proofs.WalkLemmas.{holder_live, inside_step, inside_trans, inside_live-outer, not_inside-itself}
use Rattle.pliron_core.proofs.WalkStepLemmas.{up_smaller}
use Rattle.pliron_core.proofs.ContainedLemmas.{within_up}
use Rattle.pliron_laws.specs.Datum.{Head}
use Rattle.pliron_laws.specs.Answers.{ReadsHead, HeadPasses}
use Rattle.pliron_graph_components.specs.Ancestors.{IsAtOrAbove, IsAncestor, IsDirectlyIn, IsDirectlyInRegion, IsBlockInside, IsNearestAncestor, FindsNearest}

-- a search has come up to here: what is here is one of those that are visited, and each of them that
-- meets the test is here or further up
pub record IsClimb (t : Tree) (Among Meets : ℕ → Type 0) (at : Option ℕ) : Type 0 where
  pub live : (k : ℕ) → at ≡ Some k → IsLive t k
  pub among : (k : ℕ) → at ≡ Some k → Among k
  pub further : (k : ℕ) → Among k → Meets k → (x : ℕ) × (at ≡ Some x) × IsWithin t k x

-- how far it is to the top
abbrev pub left_above : Tree → Option ℕ → ℕ
left_above t at = option_map_or (λ k. suc (length t.operations - length (contents t k))) at 0

pub above_smaller : (t : Tree) → IsTree t → (at : Option ℕ) (x : ℕ) (o : Option ℕ) → at ≡ Some x → o ≡ parent_operation_of t x → left_above t o < left_above t at
above_smaller t w at x o is e = subst (λ z. left_above t o < left_above t z) (sym is) (up_smaller t w x o e)

module _ (t : Tree) (w : IsTree t) (Meets : ℕ → Type 0) where
  -- it begins at the operation, or directly above it
  pub climb_here : (op : ℕ) → IsLive t op → IsClimb t (IsAtOrAbove t op) Meets (Some op)
  climb_here op live = record {
    live = λ k e. subst (IsLive t) (same_Some op k e) live;
    among = λ k e. inl (same_Some op k e);
    further = λ k a m. (op, refl, a);
  }

  pub climb_above : (op : ℕ) (o : Option ℕ) → o ≡ parent_operation_of t op → IsClimb t (IsAncestor t op) Meets o
  climb_above op o f = record {
    live = λ k e. holder_live t w op k (sym f ∙ e);
    among = λ k e. Directly (sym f ∙ e);
    further = λ k a m. let s = inside_step t k op a in (s.0, f ∙ s.1, s.2);
  }

  -- one step up
  climb_step : (Among : ℕ → Type 0) → ((x p : ℕ) → Among x → parent_operation_of t x ≡ Some p → Among p) → (at : Option ℕ) (x : ℕ) (o : Option ℕ) → at ≡ Some x → o ≡ parent_operation_of t x → (Meets x → ⊥) → IsClimb t Among Meets at → IsClimb t Among Meets o
  climb_step Among up at x o is f out c = record {
    live = λ k e. holder_live t w x k (sym f ∙ e);
    among = λ k e. up x k (c.among x is) (sym f ∙ e);
    further = λ k a m.
        let r = c.further k a m in
        let here : r.0 ≡ x = same_Some r.0 x (sym r.1 ∙ is) in
        elim (subst (λ z. IsWithin t k z) here r.2) [
          | inl e ↦ absurd (out (subst Meets (sym e) m))
          | inr i ↦ let s = inside_step t k x i in (s.0, f ∙ s.1, s.2)
        ];
  }

  pub climb_on : (op : ℕ) (at : Option ℕ) (x : ℕ) (o : Option ℕ) → at ≡ Some x → o ≡ parent_operation_of t x → (Meets x → ⊥) → IsClimb t (IsAtOrAbove t op) Meets at → IsClimb t (IsAtOrAbove t op) Meets o
  climb_on op = climb_step (IsAtOrAbove t op) (λ x p a e. inr (within_up t x p op e a))

  pub climb_on_above : (op : ℕ) (at : Option ℕ) (x : ℕ) (o : Option ℕ) → at ≡ Some x → o ≡ parent_operation_of t x → (Meets x → ⊥) → IsClimb t (IsAncestor t op) Meets at → IsClimb t (IsAncestor t op) Meets o
  climb_on_above op = climb_step (IsAncestor t op) (λ x p a e. inside_trans t p x op (Directly e) a)

  -- it ends at the first that meets the test, or at the top
  pub climb_found : (Among : ℕ → Type 0) (at : Option ℕ) (x : ℕ) → at ≡ Some x → Meets x → IsClimb t Among Meets at → IsNearestAncestor (IsInside t) Among Meets x
  climb_found Among at x is m c = record {
    among = c.among x is;
    meets = m;
    nearest = λ k i a q.
        let r = c.further k a q in
        let here : r.0 ≡ x = same_Some r.0 x (sym r.1 ∙ is) in
        elim (subst (λ z. IsWithin t k z) here r.2) [
          | inl e ↦ not_inside-itself t w x (subst (λ z. IsInside t x z) (sym e) i)
          | inr j ↦ not_inside-itself t w x (inside_trans t x k x i j)
        ];
  }

  pub climb_none : (Among : ℕ → Type 0) (at : Option ℕ) → at ≡ None → IsClimb t Among Meets at → (k : ℕ) → Among k → Meets k → ⊥
  climb_none Among at is c k a m = let r = c.further k a m in none-some r.0 (sym is ∙ r.1)

-- what an answer that is read off the head says
pub head_passes : (f : Head → Bool) (t : Tree) (k : ℕ) (b : Bool) → ReadsHead f t k b → b ≡ true → HeadPasses f t k
head_passes f t k b r e h is = sym (r h is) ∙ e

pub head_fails : (f : Head → Bool) (t : Tree) (k : ℕ) (b : Bool) → IsLive t k → ReadsHead f t k b → b ≡ false → HeadPasses f t k → ⊥
head_fails f t k b live r e p = go (head_of t k) refl live
  where
    go : (o : Option Head) → head_of t k ≡ o → IsSome o → ⊥
    go None is some = absurd (cc)
    go (Some h) is some = false≢true (sym e ∙ r h is ∙ p h is)

module _ (t : Tree) (w : IsTree t) (r : ℕ) where
  -- of two blocks of one region none stands inside the other
  not_nested : (b c : ℕ) → IsDirectlyIn t r b → IsDirectlyIn t r c → IsBlockInside t b c → ⊥
  not_nested b c at_b at_c i =
      let holds : region_parent_of t r ≡ Some i.0 = sym (ap (λ o. up_from o (λ z. region_parent_of t z)) at_c) ∙ i.1 in
      let m = i.2.0 in
      let up : parent_operation_of t m ≡ Some i.0 = ap (λ o. up_from o (λ z. block_parent_operation_of t z)) i.2.1 ∙ ap (λ o. up_from o (λ z. region_parent_of t z)) at_b ∙ holds in
      elim i.2.2 [
        | inl e ↦ not_inside-itself t w m (Directly (up ∙ ap Some e))
        | inr j ↦ not_inside-itself t w m (inside_trans t m i.0 m j (Directly up))
      ]

  -- the block of the operation that was found
  pub block_of_found : (op a : ℕ) (o : Option ℕ) → o ≡ parent_of t a → IsNearestAncestor (IsInside t) (IsAtOrAbove t op) (IsDirectlyInRegion t r) a → FindsNearest (IsBlockInside t) (λ b. IsInOperation t b op) (IsDirectlyIn t r) o
  block_of_found op a o e n =
      let found : IsNearestAncestor (IsBlockInside t) (λ b. IsInOperation t b op) (IsDirectlyIn t r) n.meets.0 =
      record { among = (a, n.meets.1, n.among); meets = n.meets.2; nearest = λ c i s m. not_nested n.meets.0 c n.meets.2 m i } in
      subst (FindsNearest (IsBlockInside t) (λ b. IsInOperation t b op) (IsDirectlyIn t r)) (sym n.meets.1 ∙ sym e) found

  pub no_block : (op : ℕ) (o : Option ℕ) → o ≡ None → ((k : ℕ) → IsAtOrAbove t op k → IsDirectlyInRegion t r k → ⊥) → FindsNearest (IsBlockInside t) (λ b. IsInOperation t b op) (IsDirectlyIn t r) o
  no_block op o e none =
      let nothing : FindsNearest (IsBlockInside t) (λ b. IsInOperation t b op) (IsDirectlyIn t r) None = λ b s m. none s.0 s.2 (b, s.1, m) in
      subst (FindsNearest (IsBlockInside t) (λ b. IsInOperation t b op) (IsDirectlyIn t r)) (sym e) nothing

  -- the block itself
  pub block_itself : (b : ℕ) → IsDirectlyIn t r b → IsNearestAncestor (IsBlockInside t) (λ c. IsBlockWithin t c b) (IsDirectlyIn t r) b
  block_itself b at_b = record { among = inl refl; meets = at_b; nearest = λ c i s m. not_nested b c at_b m i }

  -- or what stands around the operation that holds it
  pub block_further : (b own p : ℕ) (o : Option ℕ) → IsDirectlyIn t own b → own ≢ r → region_parent_of t own ≡ Some p → FindsNearest (IsBlockInside t) (λ c. IsInOperation t c p) (IsDirectlyIn t r) o → FindsNearest (IsBlockInside t) (λ c. IsBlockWithin t c b) (IsDirectlyIn t r) o
  block_further b own p o at_b differs holds found = go o found
    where
      up : block_parent_operation_of t b ≡ Some p
      up = ap (λ z. up_from z (λ x. region_parent_of t x)) at_b ∙ holds

      back : (c : ℕ) → IsBlockWithin t c b → IsDirectlyIn t r c → IsInOperation t c p
      back c (inl e) m = absurd (differs (same_Some own r (sym at_b ∙ ap (λ z. block_parent_of t z) e ∙ m)))
      back c (inr s) m = subst (λ z. IsInOperation t c z) (same_Some s.0 p (sym s.1 ∙ up)) s.2

      go : (o : Option ℕ) → FindsNearest (IsBlockInside t) (λ c. IsInOperation t c p) (IsDirectlyIn t r) o → FindsNearest (IsBlockInside t) (λ c. IsBlockWithin t c b) (IsDirectlyIn t r) o
      go None none = λ c s m. none c (back c s m) m
      go (Some a) n = record { among = inr (p, up, n.among); meets = n.meets; nearest = λ c i s m. n.nearest c i (back c s m) m }

-- what is found stands
pub at_or_above_live : (t : Tree) → IsTree t → (op k : ℕ) → IsLive t op → IsAtOrAbove t op k → IsLive t k
at_or_above_live t w op k live (inl e) = subst (IsLive t) e live
at_or_above_live t w op k live (inr i) = inside_live-outer t w k op i

pub in_region_stands : (t : Tree) (r : ℕ) (o : Option ℕ) (Among : ℕ → Type 0) → FindsNearest (IsBlockInside t) Among (IsDirectlyIn t r) o → IfSome o (λ b. IsBlock t b)
in_region_stands t r None Among f = tt
in_region_stands t r (Some b) Among f = ap is_some f.meets

-- what a test that failed says
pub fails : {P : Type 0} (b : Bool) → b ≡ false → (IsTrue b ↔ P) → P → ⊥
fails b e test p = false≢true (sym e ∙ test.1 p)

pub answers_no : {P : Type 0} → (P → ⊥) → IsTrue false ↔ P
answers_no out = (λ e. absurd (false≢true e), λ p. absurd (out p))

pub answers_yes : {P : Type 0} → P → IsTrue true ↔ P
answers_yes p = (λ e. p, λ q. refl)
