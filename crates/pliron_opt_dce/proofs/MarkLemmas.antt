-- Marks of blocks.
use Rattle.std.proofs.Common.{◌≡◌, ◌↔◌, inl, inr, ℕ, Bool, true, cond, Option, Some, None, IsTrue, sym, ap, ◌∙◌, subst, arith}
use Rattle.std.proofs.lemmas.Bool.{cases_Bool}
use Rattle.pliron_core.specs.Tree.{Tree}
use Rattle.pliron_core.proofs.HoldingLemmas.{some_is}
use Rattle.pliron_laws.specs.Datum.{Meaning}
use Rattle.pliron_opt_dce.specs.Incoming.{BranchesLead}
use Rattle.pliron_opt_dce.specs.Predecessors.{AreMarked}
use Rattle.pliron_laws.specs.Tree.{is_one_key}

-- one mark more
pub marked_more : (m : Meaning) (t : Tree) (root : ℕ) (mark more : ℕ → Option Bool) (block : ℕ) (b : Bool) → ((q : ℕ) → more q ≡ cond (is_one_key block q) (Some b) (mark q)) → (IsTrue b ↔ BranchesLead m t block) → AreMarked m t root mark → AreMarked m t root more
marked_more m t root mark more block b at new old k x e held = elim (cases_Bool (is_one_key block k)) [
  | inl same ↦
      let one : b ≡ x = some_is (sym (at k ∙ ap (λ z. cond z (Some b) (mark k)) same) ∙ e) in
      subst (λ z. IsTrue x ↔ BranchesLead m t z) (one_key block k same) (subst (λ z. IsTrue z ↔ BranchesLead m t block) one new)
  | inr other ↦ old k x (sym (at k ∙ ap (λ z. cond z (Some b) (mark k)) other) ∙ e) held
]
  where
    one_key : (x y : ℕ) → is_one_key x y ≡ true → x ≡ y
    one_key x y q = grind arith

pub none_marked : (m : Meaning) (t : Tree) (root : ℕ) (mark : ℕ → Option Bool) → ((k : ℕ) → mark k ≡ None) → AreMarked m t root mark
none_marked m t root mark none k b e held = let f : None ≡ Some b = sym (none k) ∙ e in absurd (cc)
