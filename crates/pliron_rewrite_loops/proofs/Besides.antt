-- What passing values to a block leaves alone, in turn.
use Rattle.std.proofs.Common.{◌≡◌, inl, inr, ⊎_elim, ℕ, List, refl, sym, ◌∙◌, subst}
use Rattle.pliron_core.specs.Tree.{Tree, In, successors_of}
use Rattle.pliron_laws.specs.Datum.{Meaning}
use Rattle.pliron_rewrite_loops.specs.Passing.{KeepsPassing, KeepsBesides}

pub besides_refl : (m : Meaning) (t : Tree) (block : ℕ) (users : List ℕ) → KeepsBesides m t t block users
besides_refl m t block users = record {
  count = refl;
  live = λ k. (λ l. l, λ l. l);
  results = λ k. refl;
  regions = λ k. refl;
  successors = λ k. refl;
  parents = λ k. refl;
  bodies = λ b. refl;
  block_parents = λ b. refl;
  layouts = λ r. refl;
  slots = λ r. refl;
  arguments = λ b ne. refl;
  rows = λ k out. refl;
  operands = λ k out free. refl;
  defined = λ v h. h;
  definitions = λ v h. refl;
  new = λ v h. inl h;
  admitted = λ k a. a;
}

pub besides_same : (m : Meaning) (t u : Tree) (block : ℕ) (users : List ℕ) → u ≡ t → KeepsBesides m t u block users
besides_same m t u block users e = subst (λ z. KeepsBesides m t z block users) (sym e) (besides_refl m t block users)

pub besides_trans : (m : Meaning) (t s u : Tree) (block : ℕ) (users : List ℕ) → KeepsBesides m t s block users → KeepsBesides m s u block users → KeepsBesides m t u block users
besides_trans m t s u block users a b = record {
  count = b.count ∙ a.count;
  live = λ k. (λ l. (a.live k).0 ((b.live k).0 l), λ l. (b.live k).1 ((a.live k).1 l));
  results = λ k. b.results k ∙ a.results k;
  regions = λ k. b.regions k ∙ a.regions k;
  successors = λ k. b.successors k ∙ a.successors k;
  parents = λ k. b.parents k ∙ a.parents k;
  bodies = λ c. b.bodies c ∙ a.bodies c;
  block_parents = λ c. b.block_parents c ∙ a.block_parents c;
  layouts = λ r. b.layouts r ∙ a.layouts r;
  slots = λ r. b.slots r ∙ a.slots r;
  arguments = λ c ne. b.arguments c ne ∙ a.arguments c ne;
  rows = λ k out. b.rows k (still k out) ∙ a.rows k out;
  operands = λ k out free. b.operands k (still k out) free ∙ a.operands k out free;
  defined = λ v h. b.defined v (a.defined v h);
  definitions = λ v h. b.definitions v (a.defined v h) ∙ a.definitions v h;
  new = λ v h. ⊎_elim
      (λ d. ⊎_elim (λ e. inl e) (λ e. inr (e.0, b.definitions v d ∙ e.1)) (a.new v d))
      (λ e. inr e)
      (b.new v h);
  admitted = λ k x. b.admitted k (a.admitted k x);
}
  where
    still : (k : ℕ) → (In block (successors_of t k) → ⊥) → In block (successors_of s k) → ⊥
    still k out i = out (subst (In block) (a.successors k) i)

pub passing_refl : (m : Meaning) (t : Tree) (block : ℕ) (values : List ℕ) → KeepsPassing m t t block values
passing_refl m t block values = record { successors = λ k. refl; named = λ k y d i. inl i; may_pass = λ b others users q. q }
