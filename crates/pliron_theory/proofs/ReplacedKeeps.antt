-- Replacing the uses of a value by one of the same datum keeps what roots do.
use Rattle.std.proofs.Common.{◌≢◌, inl, inr, ℕ, List, [], ◌∷◌, map, if◌then◌else◌, ⊎_elim, refl, sym, ap, ◌∙◌, subst, arith}
use Rattle.std.proofs.lemmas.Bool.Decides.{eqb_tells}
use Rattle.pliron_core.specs.Uses.{replace_target}
use Rattle.pliron_core.specs.Tree.{Tree, In, operands_of}
use Rattle.pliron_core.specs.Writes.{after_replacing}
use Rattle.pliron_core.proofs.UsedLemmas.{get_map}
use Rattle.pliron_laws.specs.Datum.{Datum, Meaning}
use Rattle.pliron_laws.specs.Agree.{Agree}
use Rattle.pliron_theory.specs.Keeps.{IsFit, KeepsRuns}
use Rattle.pliron_theory.specs.Renaming.{IsRenamed, MayUse, HaveSameData, HasSameDatum, IsReadAs}
use Rattle.pliron_theory.proofs.Renamed.{renamed_fit, renamed_agree, renamed_back, may_use_own}

pub replaced_renamed : (t : Tree) (old new : ℕ) → IsRenamed t (after_replacing t old new) (replace_target old new)
replaced_renamed t old new = record {
  operands = λ k. get_map (map (replace_target old new)) refl t.operands k;
  rows = λ k. refl;
  successors = λ k. refl;
  parents = λ k. refl;
  bodies = λ b. refl;
  arguments = λ b. refl;
  block_parents = λ b. refl;
  layouts = λ r. refl;
  slots = λ r. refl;
  definitions = λ v. refl;
}

unreplaced : (old new v : ℕ) → v ≢ new → (xs : List ℕ) → In v (map (replace_target old new) xs) → In v xs
unreplaced old new v ne [] i = absurd i
unreplaced old new v ne (x ∷ xs) (inl e) = ⊎_elim
    (λ y. absurd (ne (e ∙ ap (λ b. if b then new else x) y.0)))
    (λ n. inl (e ∙ ap (λ b. if b then new else x) n.0))
    (eqb_tells x old)
unreplaced old new v ne (x ∷ xs) (inr i) = inr (unreplaced old new v ne xs i)

module _ (m : Meaning) (t : Tree) (old new root : ℕ) where
  pub uses_replaced : IsFit m t root → ((user : ℕ) → In old (operands_of t user) → MayUse t root user new) → (user v : ℕ) → In v (operands_of t user) → MayUse t root user (replace_target old new v)
  uses_replaced f uses user v i = ⊎_elim
      (λ y. subst (λ z. MayUse t root user z) (sym (ap (λ b. if b then new else v) y.0)) (uses user (subst (λ z. In z (operands_of t user)) y.1 i)))
      (λ n. subst (λ z. MayUse t root user z) (sym (ap (λ b. if b then new else v) n.0)) (may_use_own m t root user v f i))
      (eqb_tells v old)

  pub data_replaced : HasSameDatum m t (after_replacing t old new) old new root → HaveSameData m t (after_replacing t old new) (replace_target old new) root
  data_replaced same s s' k v rest i j e q q' none none' u = ⊎_elim
      (λ y. ap s.environment y.1 ∙ same s s' k rest i j e q q' none none' (subst (λ z. In z (operands_of t k)) y.1 u) ∙ ap (λ b. s.environment (if b then new else v)) (sym y.0))
      (λ n. ap (λ b. s.environment (if b then new else v)) (sym n.0))
      (eqb_tells v old)

  -- one root stays fit, and does the same
  pub replaced_fit : IsFit m t root → ((user : ℕ) → In old (operands_of t user) → MayUse t root user new) → IsFit m (after_replacing t old new) root
  replaced_fit f uses = renamed_fit t (after_replacing t old new) (replace_target old new) (replaced_renamed t old new) m root f (uses_replaced f uses)

  pub replaced_agree : IsFit m t root → HasSameDatum m t (after_replacing t old new) old new root → Agree m t (after_replacing t old new) root
  replaced_agree f same = renamed_agree t (after_replacing t old new) (replace_target old new) (replaced_renamed t old new) m root f.live (data_replaced same)

  -- another value is read as before
  pub replaced_reads : IsFit m t root → HasSameDatum m t (after_replacing t old new) old new root → (v : ℕ) (c : Datum) → v ≢ new → IsReadAs m t v c root → IsReadAs m (after_replacing t old new) v c root
  replaced_reads f same v c ne reads s' k rest r e none i =
      let x = renamed_back t (after_replacing t old new) (replace_target old new) (replaced_renamed t old new) m root f.live (data_replaced same) s' r k rest e none in
      sym (x.4 v) ∙ reads x.0 k rest x.1 x.2 x.3 (unreplaced old new v ne (operands_of t k) (subst (In v) ((replaced_renamed t old new).operands k) i))

pub replaced_keeps : (m : Meaning) (t : Tree) (old new : ℕ) → ((root : ℕ) → IsFit m t root → (user : ℕ) → In old (operands_of t user) → MayUse t root user new) → ((root : ℕ) → IsFit m t root → IsFit m (after_replacing t old new) root → HasSameDatum m t (after_replacing t old new) old new root) → KeepsRuns m t (after_replacing t old new)
replaced_keeps m t old new uses same = record {
  agrees = λ root f l. replaced_agree m t old new root f (same root f (replaced_fit m t old new root f (uses root f)));
  heads = λ root f l. refl;
  stays = λ root f l. replaced_fit m t old new root f (uses root f);
  grows = omega arith;
  fewer = λ root lt l. l;
}
