-- Edges that all forward one value, or an argument itself.
use Rattle.std.proofs.Common.{◌≡◌, ◌≢◌, ◌⊎◌, ◌<◌, ◌≤◌, ◌+◌, inl, inr, ⊎_elim, ℕ, zero, suc, List, [], ◌∷◌, Bool, true, false, nat_eq, Option, Some, None, IfSome, IfNone, length, slice_get, true≢false, refl, sym, ap, ◌∙◌, subst, arith}
use Rattle.std.proofs.lemmas.Bool.Decides.{eqb_tells}
use Rattle.std.specs.Option.{option_map}
use Rattle.pliron_core.specs.declared.uses.Use.{Use}
use Rattle.pliron_core.specs.Tree.{Tree, View, In, IsLive, first_of, head_of, uses_of, successors_of, arguments_of, block_parent_of, layout_of}
use Rattle.pliron_core.specs.Invariant.{IsTree, HaveUses}
use Rattle.pliron_core.proofs.HoldingLemmas.{some_is, not_none, some_of, in_slice, slice_in}
use Rattle.pliron_laws.specs.Datum.{Head, Meaning}
use Rattle.pliron_laws.specs.Tree.{op_at}
use Rattle.pliron_laws.specs.Answers.{HeadPasses, ReadsHead, IsForwardedAt}
use Rattle.pliron_laws.proofs.Records.{operation_of, make_op}
use Rattle.pliron_theory.specs.Dropping.{AreEdgesTo}
use Rattle.pliron_rewrite_arguments.specs.OneValue.{IsOneValue}
use Rattle.pliron_rewrite_arguments.specs.Finding.{EdgeForwards, AreOneSoFar, IsEntry}

within : {A : Type 0} (xs : List A) (n : ℕ) (x : A) → slice_get xs n ≡ Some x → n < length xs
within [] n x e = absurd (not_none e)
within (y ∷ xs) zero x e = omega arith
within (y ∷ xs) (suc n) x e = let l = within xs n x e in omega (arith, l)

below_next : (k n : ℕ) → k < n + 1 → (k < n) ⊎ (k ≡ n)
below_next k n l = grind (arith, l)

-- what is no branch
pub no_branch : (m : Meaning) (t : Tree) (op : ℕ) (answer : Bool) → IsLive t op → ReadsHead m.is_branch t op answer → answer ≡ false → HeadPasses m.is_branch t op → ⊥
no_branch m t op answer live reads isnt passes =
    let x = some_of (head_of t op) live in
    true≢false (sym (passes x.0 x.1) ∙ sym (reads x.0 x.1) ∙ isnt)

-- the uses of a block are the edges to it
pub edges_to : (v : View) → HaveUses v → (block : ℕ) → AreEdgesTo v.tree block (uses_of v.block_uses block)
edges_to v h block = record {
  listed = λ n e at. h.block_uses.listed block n e at;
  once = λ n l e a b. h.block_uses.once block n l e a b;
  complete = λ k i at. h.block_uses.complete k i block at;
}

pub some_there : (xs : List Use) (n : ℕ) → n < length xs → (e : Use) × (slice_get xs n ≡ Some e)
some_there [] n l = absurd (omega (arith, l))
some_there (x ∷ xs) zero l = (x, refl)
some_there (x ∷ xs) (suc n) l = some_there xs n (omega (arith, l))

pub told_same : (a b : ℕ) (r : Bool) → r ≡ nat_eq a b → r ≡ true → a ≡ b
told_same a b r is e = ⊎_elim (λ y. y.1) (λ y. absurd (true≢false (sym e ∙ is ∙ y.0))) (eqb_tells a b)

pub told_apart : (a b : ℕ) (r : Bool) → r ≡ nat_eq a b → r ≡ false → b ≢ a
told_apart a b r is e = ⊎_elim (λ y. absurd (true≢false (sym y.0 ∙ sym is ∙ e))) (λ y. λ s. y.1 (sym s)) (eqb_tells a b)

-- what was found is not the value
pub other_found : (found : Option ℕ) (v : ℕ) → (((first : ℕ) → found ≡ Some first → first ≡ v) → ⊥) → (first : ℕ) × (found ≡ Some first) × (first ≢ v)
other_found None v isnt = absurd (isnt (λ first e. absurd (not_none e)))
other_found (Some x) v isnt = (x, refl, λ e. isnt (λ first y. sym (some_is y) ∙ e))

module _ (m : Meaning) (t : Tree) (w : IsTree t) (block index argument : ℕ) (edges : List Use) (a : AreEdgesTo t block edges) where
  user_live : (n : ℕ) (e : Use) → slice_get edges n ≡ Some e → (x : Head) × (head_of t e.user ≡ Some x)
  user_live n e at = go (head_of t e.user) refl
    where
      there : In block (successors_of t e.user)
      there = in_slice (successors_of t e.user) e.place block (a.listed n e at)

      go : (o : Option Head) → head_of t e.user ≡ o → (x : Head) × (head_of t e.user ≡ Some x)
      go None h = absurd (subst (In block) (w.joined.erased e.user h).1 there)
      go (Some x) h = (x, h)

  -- an edge forwards one operand at a place
  pub same_forwarded : (n : ℕ) (e : Use) (u v : Option ℕ) → slice_get edges n ≡ Some e → IsForwardedAt m t e.user e.place index u → IsForwardedAt m t e.user e.place index v → option_map Some u ≡ option_map Some v
  same_forwarded n e u v at p q =
      let x = user_live n e at in
      let o : op_at t e.user ≡ Some (operation_of t e.user x.0) = make_op t e.user x.0 x.1 in
      p (operation_of t e.user x.0) o ∙ sym (q (operation_of t e.user x.0) o)

  pub same_value : (n : ℕ) (e : Use) (u v : ℕ) → slice_get edges n ≡ Some e → EdgeForwards m t e index u → EdgeForwards m t e index v → u ≡ v
  same_value n e u v at p q = some_is (some_is (same_forwarded n e (Some u) (Some v) at p.1 q.1))

  pub none_forwarded : (n : ℕ) (e : Use) (v : ℕ) → slice_get edges n ≡ Some e → IsForwardedAt m t e.user e.place index None → EdgeForwards m t e index v → ⊥
  none_forwarded n e v at p q = not_none (same_forwarded n e None (Some v) at p q.1)

  pub so_far_start : AreOneSoFar m t edges index argument None zero
  so_far_start = record { each = λ k e l at. absurd (grind (arith, l)); one = λ v e. absurd (not_none e) }

  -- the next edge forwards the argument itself
  pub so_far_itself : (found : Option ℕ) (n : ℕ) (e : Use) → AreOneSoFar m t edges index argument found n → slice_get edges n ≡ Some e → EdgeForwards m t e index argument → AreOneSoFar m t edges index argument found (n + 1)
  so_far_itself found n e s at f = record {
    each = λ k e' l at'. ⊎_elim
        (λ y. s.each k e' y at')
        (λ y. inl (subst (λ z. EdgeForwards m t z index argument) (some_is (sym at ∙ ap (slice_get edges) (sym y) ∙ at')) f))
        (below_next k n l);
    one = s.one;
  }

  -- the next edge forwards another value, which was found already or is the first
  pub so_far_value : (found : Option ℕ) (n v : ℕ) (e : Use) → AreOneSoFar m t edges index argument found n → slice_get edges n ≡ Some e → EdgeForwards m t e index v → argument ≢ v → ((u : ℕ) → found ≡ Some u → u ≡ v) → AreOneSoFar m t edges index argument (Some v) (n + 1)
  so_far_value found n v e s at f ne same = record {
    each = λ k e' l at'. ⊎_elim
        (λ y. ⊎_elim
        (λ z. inl z)
        (λ z. inr (v, refl, subst (EdgeForwards m t e' index) (same z.0 z.1) z.2))
        (s.each k e' y at'))
        (λ y. inr (v, refl, subst (λ z. EdgeForwards m t z index v) (some_is (sym at ∙ ap (slice_get edges) (sym y) ∙ at')) f))
        (below_next k n l);
    one = λ u y. let z : v ≡ u = some_is y in (λ g. ne (g ∙ sym z), (n, e, at, subst (EdgeForwards m t e index) z f));
  }

  -- all edges
  pub all_one : (n v : ℕ) → length edges ≤ n → slice_get (arguments_of t block) index ≡ Some argument → ((r : ℕ) → block_parent_of t block ≡ Some r → first_of (layout_of t r) None ≢ Some block) → AreOneSoFar m t edges index argument (Some v) n → IsOneValue m t block index v
  all_one n v long there no_entry s = record {
    argument = argument;
    apart = one.0;
    there = there;
    no_entry = no_entry;
    branches = λ k i.
        let p = slice_in (successors_of t k) block i in
        ⊎_elim (λ y. y.0) (λ y. y.2.0) (each k p.0 p.1);
    edges = λ k p at. ⊎_elim (λ y. inr y.1) (λ y. inl (subst (λ z. IsForwardedAt m t k p index (Some z)) (sym (some_is y.1)) y.2.1)) (each k p at);
    some_edge = record { branch = one.1.1.user; edge = one.1.1.place; leads = a.listed one.1.0 one.1.1 one.1.2; forwards = one.1.3.1 };
  }
    where
      one : (argument ≢ v) × ((k : ℕ) × (e : Use) × (slice_get edges k ≡ Some e) × EdgeForwards m t e index v)
      one = s.one v refl

      each : (k p : ℕ) → slice_get (successors_of t k) p ≡ Some block → EdgeForwards m t (record { user = k; place = p }) index argument ⊎ ((u : ℕ) × (Some v ≡ Some u) × EdgeForwards m t (record { user = k; place = p }) index u)
      each k p at =
          let c = a.complete k p at in
          let l = within edges c.0 (record { user = k; place = p }) c.1 in
          s.each c.0 (record { user = k; place = p }) (omega (arith, l, long)) c.1

  module _ (there : slice_get (arguments_of t block) index ≡ Some argument) (v : ℕ) (h : IsOneValue m t block index v) where
    is_argument : h.argument ≡ argument
    is_argument = some_is (sym h.there ∙ there)

    -- what an edge forwards
    forwards_either : (n : ℕ) (e : Use) → slice_get edges n ≡ Some e → EdgeForwards m t e index v ⊎ EdgeForwards m t e index argument
    forwards_either n e at =
        let b = h.branches e.user (in_slice (successors_of t e.user) e.place block (a.listed n e at)) in
        ⊎_elim
        (λ y. inl (b, y))
        (λ y. inr (b, subst (λ z. IsForwardedAt m t e.user e.place index (Some z)) is_argument y))
        (h.edges e.user e.place (a.listed n e at))

    source : (n : ℕ) × (slice_get edges n ≡ Some (record { user = h.some_edge.branch; place = h.some_edge.edge }))
    source = a.complete h.some_edge.branch h.some_edge.edge h.some_edge.leads

    source_forwards : EdgeForwards m t (record { user = h.some_edge.branch; place = h.some_edge.edge }) index v
    source_forwards = (h.branches h.some_edge.branch (in_slice (successors_of t h.some_edge.branch) h.some_edge.edge block h.some_edge.leads), h.some_edge.forwards)

    -- an edge that forwards nothing there
    pub not_without : (n : ℕ) (e : Use) → slice_get edges n ≡ Some e → ((u : ℕ) → EdgeForwards m t e index u → ⊥) → ⊥
    not_without n e at none = ⊎_elim (λ y. none v y) (λ y. none argument y) (forwards_either n e at)

    -- edges that forward the argument alone
    pub not_itself_alone : (n : ℕ) → length edges ≤ n → AreOneSoFar m t edges index argument None n → ⊥
    not_itself_alone n long s =
        let l = within edges source.0 (record { user = h.some_edge.branch; place = h.some_edge.edge }) source.1 in
        ⊎_elim
        (λ y. h.apart (is_argument ∙ same_value source.0 (record { user = h.some_edge.branch; place = h.some_edge.edge }) argument v source.1 y source_forwards))
        (λ y. not_none y.1)
        (s.each source.0 (record { user = h.some_edge.branch; place = h.some_edge.edge }) (omega (arith, l, long)) source.1)

    -- what an edge forwards that is not the argument
    other_is : (n : ℕ) (e : Use) (u : ℕ) → slice_get edges n ≡ Some e → EdgeForwards m t e index u → argument ≢ u → u ≡ v
    other_is n e u at f ne = ⊎_elim (λ y. same_value n e u v at f y) (λ y. absurd (ne (same_value n e argument u at y f))) (forwards_either n e at)

    -- edges that forward two other values
    pub not_two : (n : ℕ) (found u : ℕ) (e : Use) → AreOneSoFar m t edges index argument (Some found) n → slice_get edges n ≡ Some e → EdgeForwards m t e index u → argument ≢ u → found ≢ u → ⊥
    not_two n found u e s at f ne two =
        let o = s.one found refl in
        two (other_is o.1.0 o.1.1 found o.1.2 o.1.3 o.0 ∙ sym (other_is n e u at f ne))

  -- what is found when all edges were asked
  pub ends_some : (found : Option ℕ) (n : ℕ) → length edges ≤ n → slice_get (arguments_of t block) index ≡ Some argument → (IsEntry t block → ⊥) → AreOneSoFar m t edges index argument found n → IfSome found (λ v. IsOneValue m t block index v)
  ends_some None n long there inner s = tt
  ends_some (Some v) n long there inner s = all_one n v long there (λ r br fr. inner (r, br, fr)) s

  pub ends_none : (found : Option ℕ) (n : ℕ) → length edges ≤ n → slice_get (arguments_of t block) index ≡ Some argument → AreOneSoFar m t edges index argument found n → IfNone found ((v : ℕ) → IsOneValue m t block index v → ⊥)
  ends_none None n long there s = λ v h. not_itself_alone there v h n long s
  ends_none (Some v) n long there s = tt
