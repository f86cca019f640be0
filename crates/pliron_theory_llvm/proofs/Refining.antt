-- What refines in LLVM's meaning.
use Rattle.std.proofs.Common.{◌≡◌, inr, ℕ, ◌<◌, ◌≤◌, Bool, length, IsSome, refl, sym, subst, arith}
use Rattle.pliron_core.specs.Tree.{Tree, In, IsLive, operands_of, parent_of}
use Rattle.pliron_core.specs.Invariant.{IsTree}
use Rattle.pliron_core.specs.Erased.{after_erasing, IsSelfContained}
use Rattle.pliron_core.proofs.HoldingLemmas.{past_live}
use Rattle.pliron_laws.specs.Answers.{HeadPasses}
use Rattle.pliron_theory.specs.Keeps.{IsFit, KeepsRuns}
use Rattle.pliron_theory.specs.Sweeping.{IsSwept, AreNotLive}
use Rattle.pliron_theory.specs.Renaming.{IsRenamed, MayUse}
use Rattle.pliron_theory.proofs.SweptParts.{lives, gone_away}
use Rattle.pliron_theory.proofs.SweptStays.{swept_fit}
use Rattle.pliron_theory.proofs.ErasedKeeps.{op_erased, block_erased_with, only_op, as_many, erased_swept, erased_gone}
use Rattle.pliron_theory.proofs.Renamed.{renamed_fit}
use Rattle.pliron_theory_refinement.specs.Refinement.{Relation, HaveLessData, DeadRemovable}
use Rattle.pliron_theory_refinement.proofs.Paces.{agreed_refines, refinements_compose}
use Rattle.pliron_theory_refinement.proofs.Monotone.{renamed_refines}
use Rattle.pliron_theory_refinement.proofs.SweptRefines.{swept_refines}
use Rattle.pliron_theory_llvm.specs.Llvm.{Llvm, llvm, may_become, elements_may, IsMonotone}
use Rattle.pliron_theory_llvm.specs.LlvmLaws.{RefinesLlvm, DeadPure, is_pure_head}
use Rattle.pliron_theory_llvm.proofs.LlvmOrder.{become_preorder, elements_preorder}
use Rattle.pliron_theory_llvm.proofs.LlvmMonotone.{llvm_monotone}
use Rattle.pliron_theory_llvm.proofs.PureGives.{pure_ends}

module _ (l : Llvm) (mono : IsMonotone l) where
  abbrev effects : Relation
  effects = elements_may (may_become l)

  pub kept_refines : (t u : Tree) → KeepsRuns (llvm l) t u → RefinesLlvm l t u
  kept_refines t u a = record {
    refines = λ root f live. agreed_refines (may_become l) effects (become_preorder l mono.flat) (elements_preorder l mono.flat) (llvm l) t u root (a.agrees root f live);
    stays = a.stays;
    grows = a.grows;
    fewer = a.fewer;
  }

  pub refined_composes : (t u v : Tree) → RefinesLlvm l t u → RefinesLlvm l u v → RefinesLlvm l t v
  refined_composes t u v a b = record {
    refines = λ root f live. refinements_compose (may_become l) effects (become_preorder l mono.flat) (elements_preorder l mono.flat) (llvm l) t u v root (a.refines root f (mid root f live)) (b.refines root (a.stays root f (mid root f live)) live);
    stays = λ root f live. b.stays root (a.stays root f (mid root f live)) live;
    grows = let x = a.grows in let y = b.grows in omega (arith, x, y);
    fewer = λ root lt live. a.fewer root lt (b.fewer root (more root lt) live);
  }
    where
      more : (root : ℕ) → root < length t.operations → root < length u.operations
      more root lt = let x = a.grows in omega (arith, x, lt)

      mid : (root : ℕ) → IsFit (llvm l) t root → IsLive v root → IsLive u root
      mid root f live = b.fewer root (more root (past_live t root f.live)) live

  removable : (t : Tree) (dead dead_block : ℕ → Bool) (root : ℕ) → IsFit (llvm l) t root → DeadPure t dead dead_block root → DeadRemovable (llvm l) t dead dead_block root
  removable t dead dead_block root f pure k b i d p q = pure_ends l t k (f.linked.admitted k (inr i)) (pure k b i d p q)

  pub swept_refined : (t u : Tree) (dead dead_block : ℕ → Bool) → IsTree t → IsTree u → IsSwept t u dead dead_block → AreNotLive u dead dead_block → length t.operations ≤ length u.operations → ((root : ℕ) → IsFit (llvm l) t root → DeadPure t dead dead_block root) → RefinesLlvm l t u
  swept_refined t u dead dead_block w v h gone longer pure = record {
    refines = λ root f live. swept_refines (llvm l) t u dead dead_block w v h root f.linked.edges f.defined (removable t dead dead_block root f (pure root f)) (lives u dead dead_block v gone root live) (may_become l) effects (become_preorder l mono.flat) (elements_preorder l mono.flat) f.live;
    stays = λ root f live. swept_fit (llvm l) t u dead dead_block w v h (gone_away u dead dead_block v gone) root f (lives u dead dead_block v gone root live);
    grows = longer;
    fewer = λ root lt live. subst (λ z. IsSome z.head) (h.rows root (lives u dead dead_block v gone root live)) live;
  }

  pub renamed_refined : (t u : Tree) (rename : ℕ → ℕ) → IsRenamed t u rename → length t.operations ≡ length u.operations → ((root : ℕ) → IsFit (llvm l) t root → (user v : ℕ) → In v (operands_of t user) → MayUse t root user (rename v)) → ((root : ℕ) → IsFit (llvm l) t root → HaveLessData (may_become l) (llvm l) t rename root) → RefinesLlvm l t u
  renamed_refined t u rename h same uses less = record {
    refines = λ root f live. renamed_refines (may_become l) effects (llvm l) t u rename root (become_preorder l mono.flat) (llvm_monotone l mono) h (less root f);
    stays = λ root f live. renamed_fit t u rename h (llvm l) root f (uses root f);
    grows = omega (arith, same);
    fewer = λ root lt live. subst (λ z. IsSome z.head) (h.rows root) live;
  }

  pub erased_refined : (t : Tree) (op : ℕ) → IsTree t → IsTree (after_erasing t op) → IsLive t op → IsSelfContained t op → HeadPasses is_pure_head t op → RefinesLlvm l t (after_erasing t op)
  erased_refined t op w v live contained pure =
      let n = as_many t op w live contained (parent_of t op) refl in
      swept_refined t (after_erasing t op) (λ k. op_erased t op k) (λ b. block_erased_with t op b) w v (erased_swept t op w live contained) (erased_gone t op w live contained) (omega (arith, n))
      (λ root f k b i d e left. subst (HeadPasses is_pure_head t) (sym (only_op t op w live contained k b d e left)) pure)
