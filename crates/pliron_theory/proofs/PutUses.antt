-- Users of a value may use the result of an operation that was put before what defines the value.
use Rattle.std.proofs.Common.{◌≡◌, ◌≢◌, inl, inr, ⊎_elim, ℕ, List, [], ◌∷◌, ◌++◌, if◌then◌else◌, Option, Some, None, slice_get, refl, sym, ap, ◌∙◌, subst, arith}
use Rattle.std.proofs.lemmas.Bool.Decides.{eqb_tells}
use Rattle.pliron_core.specs.declared.context.Def.{Def}
use Rattle.pliron_core.specs.declared.context.Def.TheVariants.{Result, Argument}
use Rattle.pliron_core.specs.Lists.{In, put_before}
use Rattle.pliron_core.specs.Tree.{Tree, IsInside, IsInside.Directly, IsInside.Deeper, IsWithin, HoldsBlock, operands_of, successors_of, results_of, regions_of, parent_of, body_of, block_parent_of, block_parent_operation_of, parent_operation_of, definition_of, up_from}
use Rattle.pliron_core.specs.Changes.{IsDefiningOperationInside}
use Rattle.pliron_core.specs.Invariant.{IsTree}
use Rattle.pliron_core.proofs.HoldingLemmas.{some_is, slice_in}
use Rattle.pliron_core.proofs.ListLemmas.{In-left}
use Rattle.pliron_laws.specs.Datum.{Meaning}
use Rattle.pliron_laws.specs.Root.{defining_block, HasPassed, IsDominated}
use Rattle.pliron_theory.specs.Keeps.{IsFit}
use Rattle.pliron_theory.specs.Renaming.{MayUse}
use Rattle.pliron_laws.proofs.ConstantLemmas.{insideless}

-- what was put directly before an operation was passed where that one was
pub put_passed : (at n u : ℕ) (xs done rest : List ℕ) → put_before at n xs ≡ done ++ u ∷ rest → In at done → In n done
put_passed at n u [] [] rest e i = absurd i
put_passed at n u [] (d ∷ done) rest e i = grind arith
put_passed at n u (x ∷ xs) [] rest e i = absurd i
put_passed at n u (x ∷ xs) (d ∷ done) rest e i = ⊎_elim (λ y. here (ap (λ b. if b then n ∷ x ∷ xs else x ∷ put_before at n xs) (sym y.0) ∙ e)) (λ y. there y.1 (ap (λ b. if b then n ∷ x ∷ xs else x ∷ put_before at n xs) (sym y.0) ∙ e) (λ f j. put_passed at n u xs done rest f j) i) (eqb_tells at x)
  where
    here : n ∷ x ∷ xs ≡ d ∷ done ++ u ∷ rest → In n (d ∷ done)
    here f = let g : n ≡ d = cc in inl g

    there : at ≢ x → x ∷ put_before at n xs ≡ d ∷ done ++ u ∷ rest → (put_before at n xs ≡ done ++ u ∷ rest → In at done → In n done) → In at (d ∷ done) → In n (d ∷ done)
    there ne f again (inl q) = let g : x ≡ d = cc in absurd (ne (q ∙ sym g))
    there ne f again (inr j) = let g : put_before at n xs ≡ done ++ u ∷ rest = cc in inr (again g j)

-- the operation n stands in the block, holds nothing, uses nothing and makes v alone
pub record IsPut (t : Tree) (n v block : ℕ) : Type 0 where
  pub results : results_of t n ≡ v ∷ []
  pub operands : operands_of t n ≡ []
  pub successors : successors_of t n ≡ []
  pub regions : regions_of t n ≡ []
  pub parent : parent_of t n ≡ Some block

-- a value is defined inside the root exactly if the root holds the block that defines it
pub maker_holds : (t : Tree) (root block : ℕ) (d : Option Def) → defining_block t d ≡ Some block → IsDefiningOperationInside t root d → HoldsBlock t root block
maker_holds t root block None e i = absurd i
maker_holds t root block (Some (Argument b j)) e i = subst (HoldsBlock t root) (some_is e) i
maker_holds t root block (Some (Result k j)) e i = go i
  where
    up : (p : ℕ) → parent_operation_of t k ≡ Some p → block_parent_operation_of t block ≡ Some p
    up p f = ap (λ o. up_from o (λ b. block_parent_operation_of t b)) (sym e) ∙ f

    go : IsInside t root k → HoldsBlock t root block
    go (Directly f) = (root, up root f, inl refl)
    go (Deeper p f j) = (p, up p f, inr j)

pub holds_maker : (t : Tree) (root block k j : ℕ) → parent_of t k ≡ Some block → HoldsBlock t root block → IsDefiningOperationInside t root (Some (Result k j))
holds_maker t root block k j e (p, f, inl s) = Directly (ap (λ o. up_from o (λ b. block_parent_operation_of t b)) e ∙ f ∙ ap Some s)
holds_maker t root block k j e (p, f, inr i) = Deeper p (ap (λ o. up_from o (λ b. block_parent_operation_of t b)) e ∙ f) i

module _ (m : Meaning) (t : Tree) (w : IsTree t) (n v block old : ℕ) (p : IsPut t n v block) (home : defining_block t (definition_of t old) ≡ Some block) where
  made : definition_of t v ≡ Some (Result n 0)
  made = w.joined.results n 0 v (ap (λ l. slice_get l 0) p.results)

  only_result : (k : ℕ) → In v (results_of t k) → k ≡ n
  only_result k i = let j = slice_in (results_of t k) v i in let f : Result k j.0 ≡ Result n 0 = some_is (sym (w.joined.results k j.0 v j.1) ∙ made) in cc

  -- what passed the definition of the old value on its way to a user passed the new operation
  abbrev pub PassesToo : Type 0
  PassesToo = (around user b : ℕ) (before done rest : List ℕ) → IsWithin t around user → In old (operands_of t user) → body_of t b ≡ done ++ around ∷ rest → HasPassed t (definition_of t old) before b done → HasPassed t (Some (Result n 0)) before b done

  may_use : PassesToo → (root : ℕ) → IsFit m t root → (user : ℕ) → In old (operands_of t user) → MayUse t root user v
  may_use passes root f user i = record {
    own = λ inside. subst (IsDefiningOperationInside t root) (sym made) (holds_maker t root block n 0 p.parent (maker_holds t root block (definition_of t old) home (f.defined.own_values user old inside i)));
    no_jumper = λ k inside ne j. ne (ap (successors_of t) (only_result k j) ∙ p.successors);
    dominated = λ inner. dominated (maker_holds t root block (Some (Result n 0)) p.parent (subst (IsDefiningOperationInside t root) made inner));
  }
    where
      old_made : HoldsBlock t root block → (o : Option Def) → defining_block t o ≡ Some block → IsDefiningOperationInside t root o
      old_made held None e = grind arith
      old_made held (Some (Argument b j)) e = subst (HoldsBlock t root) (sym (some_is e)) held
      old_made held (Some (Result k j)) e = holds_maker t root block k j e held

      dominated : HoldsBlock t root block → IsDominated t user v
      dominated held = record {
        around = d.around;
        holds = d.holds;
        block = d.block;
        region = d.region;
        in_block = d.in_block;
        in_region = d.in_region;
        defined = ap (λ x. up_from (defining_block t x) (λ b. block_parent_of t b)) made ∙ ap (λ o. up_from o (λ b. block_parent_of t b)) (p.parent ∙ sym home) ∙ d.defined;
        passes = λ entry before done rest fe pe be. subst (λ x. HasPassed t x before d.block done) (sym made) (passes d.around user d.block before done rest d.holds i be (d.passes entry before done rest fe pe be));
      }
        where
          d : IsDominated t user old
          d = f.defined.dominated user old i (old_made held (definition_of t old) home)

  -- directly before the operation that makes the old value
  pub may_use_before : (at j : ℕ) (xs : List ℕ) → definition_of t old ≡ Some (Result at j) → body_of t block ≡ put_before at n xs → (root : ℕ) → IsFit m t root → (user : ℕ) → In old (operands_of t user) → MayUse t root user v
  may_use_before at j xs def body = may_use passes
    where
      all_in_place : parent_of t at ≡ Some block
      all_in_place = ap (defining_block t) (sym def) ∙ home

      passes : PassesToo
      passes around user b before done rest holds i be q = go (subst (λ x. HasPassed t x before b done) def q)
        where
          go : HasPassed t (Some (Result at j)) before b done → HasPassed t (Some (Result n 0)) before b done
          go (inl y) =
              let listed : In at (body_of t b) = subst (In at) (sym be) (In-left at done (around ∷ rest) y) in
              let same : b ≡ block = some_is (sym (w.bodies.owned at b listed) ∙ all_in_place) in
              inl (put_passed at n around xs done rest (sym body ∙ ap (body_of t) (sym same) ∙ be) y)
          go (inr x) = inr (x.0, p.parent ∙ sym all_in_place ∙ x.1, x.2)

  -- first in the block that has the old value as an argument
  pub may_use_first : (j : ℕ) (xs : List ℕ) → definition_of t old ≡ Some (Argument block j) → body_of t block ≡ n ∷ xs → (root : ℕ) → IsFit m t root → (user : ℕ) → In old (operands_of t user) → MayUse t root user v
  may_use_first j xs def body = may_use passes
    where
      passes : PassesToo
      passes around user b before done rest holds i be q = go (subst (λ x. HasPassed t x before b done) def q)
        where
          no_user : IsWithin t n user → ⊥
          no_user (inl e) = subst (In old) (ap (operands_of t) e ∙ p.operands) i
          no_user (inr k) = insideless t w n user p.regions k

          first : (done : List ℕ) → n ∷ xs ≡ done ++ around ∷ rest → In n done
          first [] e = let f : around ≡ n = cc in absurd (no_user (subst (λ z. IsWithin t z user) f holds))
          first (d ∷ done) e = let f : n ≡ d = cc in inl f

          go : HasPassed t (Some (Argument block j)) before b done → HasPassed t (Some (Result n 0)) before b done
          go (inl e) = inl (first done (sym body ∙ ap (body_of t) e ∙ be))
          go (inr y) = inr (block, p.parent, y)
