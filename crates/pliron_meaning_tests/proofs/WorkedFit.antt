-- The root of the worked tree is fit to run.
use Rattle.std.proofs.Common.{◌≡◌, ◌≢◌, ℕ, zero, suc, false, List, [], ◌∷◌, ◌++◌, length, Some, None, slice_get, refl, sym, subst, inl, inr, true≢false, IsTrue, arith}
use Rattle.pliron_core.specs.declared.attrs.Head.{Head}
use Rattle.pliron_core.specs.Tree.{In, IsInside, IsInside.Directly, IsWithin, head_of, operands_of, successors_of, results_of, regions_of, parent_of, body_of, arguments_of, block_parent_of, last_of}
use Rattle.pliron_core.specs.Changes.{IsDefinedInside}
use Rattle.pliron_core.specs.Reads.{has_ssa}
use Rattle.pliron_core.proofs.HoldingLemmas.{some_is, not_none}
use Rattle.pliron_laws.specs.Answers.{HeadPasses}
use Rattle.pliron_laws.specs.Tree.{Operation, op_at, shape_of}
use Rattle.pliron_laws.specs.Root.{IsDominated, WellDefined}
use Rattle.pliron_laws.specs.Linked.{EdgesLast, IsAdmitted}
use Rattle.pliron_theory.specs.Keeps.{IsFit}
use Rattle.pliron_evaluator.specs.Tiny.{tiny, forwarded_along}
use Rattle.pliron_meaning_tests.specs.Worked.{worked_example}

not_true : IsTrue false → ⊥
not_true e = true≢false (sym e)

only : {x y : ℕ} → In x (y ∷ []) → x ≡ y
only (inl e) = e
only (inr i) = absurd i

same_first : {a b : ℕ} {xs ys : List ℕ} → a ∷ xs ≡ b ∷ ys → a ≡ b
same_first e = cc

own_values : (k v : ℕ) → IsInside worked_example 0 k → In v (operands_of worked_example k) → IsDefinedInside worked_example 0 v
own_values zero v w i = absurd i
own_values (suc zero) v w i = absurd i
own_values (suc (suc zero)) v w i = subst (λ z. IsDefinedInside worked_example 0 z) (sym (only i)) (Directly refl)
own_values (suc (suc (suc zero))) v w i = subst (λ z. IsDefinedInside worked_example 0 z) (sym (only i)) (0, refl, inl refl)
own_values (suc (suc (suc (suc k)))) v w i = absurd i

dominance : (k r : ℕ) → IsWithin worked_example 0 k → In r (regions_of worked_example k) → IsTrue (has_ssa worked_example r)
dominance zero r w i = subst (λ z. IsTrue (has_ssa worked_example z)) (sym (only i)) refl
dominance (suc zero) r w i = absurd i
dominance (suc (suc zero)) r w i = absurd i
dominance (suc (suc (suc zero))) r w i = absurd i
dominance (suc (suc (suc (suc k)))) r w i = absurd i

-- the one edge forwards the one operand
along : (i b : ℕ) → slice_get (1 ∷ []) i ≡ Some b → length (forwarded_along i 1) ≡ length (arguments_of worked_example b)
along zero b s = subst (λ z. 1 ≡ length (arguments_of worked_example z)) (some_is s) refl
along (suc i) b s = absurd (not_none s)

forwards : (k i b : ℕ) (o : Operation) → IsInside worked_example 0 k → op_at worked_example k ≡ Some o → IsTrue (tiny.is_branch o.head) → slice_get o.successors i ≡ Some b → length (tiny.forwarded (shape_of tiny worked_example o) i) ≡ length (arguments_of worked_example b)
unfolding tiny shape_of op_at
forwards zero i b o w e is s = absurd (not_true (subst (λ z. IsTrue (tiny.is_branch z.head)) (sym (some_is e)) is))
forwards (suc zero) i b o w e is s = absurd (not_true (subst (λ z. IsTrue (tiny.is_branch z.head)) (sym (some_is e)) is))
forwards (suc (suc zero)) i b o w e is s =
    subst (λ z. length (tiny.forwarded (shape_of tiny worked_example z) i) ≡ length (arguments_of worked_example b)) (some_is e)
    (along i b (subst (λ z. slice_get z.successors i ≡ Some b) (sym (some_is e)) s))
forwards (suc (suc (suc zero))) i b o w e is s = absurd (not_true (subst (λ z. IsTrue (tiny.is_branch z.head)) (sym (some_is e)) is))
forwards (suc (suc (suc (suc k)))) i b o w e is s = absurd (not_none e)

terminators : (k b : ℕ) (h : Head) → IsInside worked_example 0 k → head_of worked_example k ≡ Some h → IsTrue (tiny.is_terminator h) → parent_of worked_example k ≡ Some b → last_of None (body_of worked_example b) ≡ Some k
unfolding tiny
terminators zero b h w e is p = absurd (not_true (subst (λ z. IsTrue (tiny.is_terminator z)) (sym (some_is e)) is))
terminators (suc zero) b h w e is p = absurd (not_true (subst (λ z. IsTrue (tiny.is_terminator z)) (sym (some_is e)) is))
terminators (suc (suc zero)) b h w e is p = subst (λ z. last_of None (body_of worked_example z) ≡ Some 2) (some_is p) refl
terminators (suc (suc (suc zero))) b h w e is p = absurd (not_true (subst (λ z. IsTrue (tiny.is_terminator z)) (sym (some_is e)) is))
terminators (suc (suc (suc (suc k)))) b h w e is p = absurd (not_none e)

unused : (k v user : ℕ) → IsInside worked_example 0 k → successors_of worked_example k ≢ [] → In v (results_of worked_example k) → In v (operands_of worked_example user) → ⊥
unused zero v user w n i j = n refl
unused (suc zero) v user w n i j = n refl
unused (suc (suc zero)) v user w n i j = i
unused (suc (suc (suc zero))) v user w n i j = n refl
unused (suc (suc (suc (suc k)))) v user w n i j = n refl

-- what comes before the branch has the constant
before_branch : (done rest : List ℕ) → 1 ∷ 2 ∷ [] ≡ done ++ 2 ∷ rest → In 1 done
before_branch [] rest f = let e : 1 ≡ 2 = same_first f in absurd (omega (arith, e))
before_branch (d ∷ done) rest f = inl (same_first f)

forwarded_dominated : IsDominated worked_example 2 0
forwarded_dominated = record {
  around = 2;
  holds = inl refl;
  block = 0;
  region = 0;
  in_block = refl;
  in_region = refl;
  defined = refl;
  passes = λ entry before done rest e p f. inl (before_branch done rest f);
}

asked_dominated : IsDominated worked_example 3 1
asked_dominated = record {
  around = 3;
  holds = inl refl;
  block = 1;
  region = 0;
  in_block = refl;
  in_region = refl;
  defined = refl;
  passes = λ entry before done rest e p f. inl refl;
}

dominated : (user v : ℕ) → In v (operands_of worked_example user) → IsDefinedInside worked_example 0 v → IsDominated worked_example user v
dominated zero v i m = absurd i
dominated (suc zero) v i m = absurd i
dominated (suc (suc zero)) v i m = subst (λ z. IsDominated worked_example 2 z) (sym (only i)) forwarded_dominated
dominated (suc (suc (suc zero))) v i m = subst (λ z. IsDominated worked_example 3 z) (sym (only i)) asked_dominated
dominated (suc (suc (suc (suc k)))) v i m = absurd i

edges : EdgesLast worked_example 0
edges zero s i w = absurd i
edges (suc zero) s i w = absurd i
edges (suc (suc zero)) s i w = record {
  block = 0;
  in_block = refl;
  last = refl;
  own_region = λ x j. subst (λ z. block_parent_of worked_example z ≡ Some 0) (sym (only j)) refl;
}
edges (suc (suc (suc zero))) s i w = absurd i
edges (suc (suc (suc (suc k)))) s i w = absurd i

admitted : (k : ℕ) → IsWithin worked_example 0 k → IsAdmitted tiny worked_example k
unfolding tiny
admitted zero w h e = subst (λ z. IsTrue (tiny.admits z 0 0 0 1)) (some_is e) refl
admitted (suc zero) w h e = subst (λ z. IsTrue (tiny.admits z 0 1 0 0)) (some_is e) refl
admitted (suc (suc zero)) w h e = subst (λ z. IsTrue (tiny.admits z 1 0 1 0)) (some_is e) refl
admitted (suc (suc (suc zero))) w h e = subst (λ z. IsTrue (tiny.admits z 1 1 0 0)) (some_is e) refl
admitted (suc (suc (suc (suc k)))) w h e = absurd (not_none e)

any_root : HeadPasses tiny.may_be_root worked_example 0
unfolding tiny
any_root h e = subst (λ z. IsTrue (tiny.may_be_root z)) (some_is e) refl

well_defined : WellDefined tiny worked_example 0
well_defined = record {
  no_successors = refl;
  own_values = own_values;
  dominance = dominance;
  forwards = forwards;
  terminators = terminators;
  unused = unused;
  dominated = dominated;
}

pub worked_fit : IsFit tiny worked_example 0
worked_fit = record {
  live = refl;
  chosen = any_root;
  defined = well_defined;
  linked = record { edges = edges; admitted = admitted };
}
