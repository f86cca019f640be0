-- Leaving operations and blocks away keeps what roots do.
use Rattle.std.proofs.Common.{◌≡◌, ℕ, ◌≤◌, Bool, false, true≢false, List, length, Option, Some, None, IsSome, IsTrue, refl, sym, ap, ◌∙◌, subst}
use Rattle.std.proofs.lemmas.List.{length-map}
use Rattle.pliron_core.specs.declared.context.Def.{Def}
use Rattle.pliron_core.specs.declared.context.Def.TheVariants.{Result, Argument}
use Rattle.pliron_core.specs.Tree.{Tree, operands_of, successors_of, results_of, body_of, layout_of}
use Rattle.pliron_core.specs.Invariant.{IsTree}
use Rattle.pliron_core.specs.Changes.{IsSameTree}
use Rattle.pliron_laws.specs.Datum.{Datum, Empty, Head, Shape, Meaning, Move, Give, Visit, Goto, Leave, Emit, Trap}
use Rattle.pliron_laws.specs.Tree.{Operation, op_at, shape_of, count_arguments, entry_block}
use Rattle.pliron_laws.specs.Acting.{Begins}
use Rattle.pliron_laws.specs.Laws.{Admitted, CountsFit, KeepsCounts, IsGive, GivesAtOnce}
use Rattle.pliron_laws.specs.Linked.{IsAdmitted}
use Rattle.pliron_theory.specs.Keeps.{IsFit, KeepsRuns}
use Rattle.pliron_theory.specs.Sweeping.{is_maker_dead, IsSwept, AreNotLive, GivesNow, DeadGive}
use Rattle.pliron_laws.proofs.Records.{op_shows}
use Rattle.pliron_theory.proofs.SweptLists.{swept_all}
use Rattle.pliron_theory.proofs.SweptParts.{lives, gone_away}
use Rattle.pliron_theory.proofs.SweptStays.{swept_fit}
use Rattle.pliron_theory.proofs.SweptAgree.{swept_agree}

pub swept_keeps : (m : Meaning) (t t' : Tree) (dead dead_block : ℕ → Bool) → IsTree t → IsTree t' → IsSwept t t' dead dead_block → AreNotLive t' dead dead_block → length t.operations ≤ length t'.operations → ((root : ℕ) → IsFit m t root → DeadGive m t dead dead_block root) → KeepsRuns m t t'
swept_keeps m t t' dead dead_block w w' h g longer gives = record {
  agrees = λ root f l. swept_agree m t t' dead dead_block w w' h root f.linked.edges f.defined (gives root f) (lives t' dead dead_block w' g root l) f.live;
  heads = λ root f l. ap (λ z. z.head) (h.rows root (lives t' dead dead_block w' g root l));
  stays = λ root f l. swept_fit m t t' dead dead_block w w' h (gone_away t' dead dead_block w' g) root f (lives t' dead dead_block w' g root l);
  grows = longer;
  fewer = λ root lt l. subst (λ z. IsSome z.head) (h.rows root (lives t' dead dead_block w' g root l)) l;
}

-- the same tree but for erased handles
pub same_swept : (t u : Tree) → IsSameTree t u → IsSwept t u (λ k. false) (λ b. false)
same_swept t u s = record {
  rows = λ k l. s.operations k;
  operands = λ k l. s.operands k;
  successors = λ k l. s.successors k;
  parents = λ k l. s.parents k;
  bodies = λ b l. s.bodies b ∙ sym (swept_all (λ k. false) (body_of t b) (λ k i. refl));
  arguments = λ b l. s.arguments b;
  block_parents = λ b l. s.block_parents b;
  layouts = λ k r l i. s.layouts r ∙ sym (swept_all (λ b. false) (layout_of t r) (λ b i. refl));
  holders = λ k b e l. refl;
  block_holders = λ b k e l. refl;
  entries = λ k r b l i e. refl;
  values = λ k v l i. none _;
  targets = λ k b l i. refl;
}
  where
    none : (d : Option Def) → is_maker_dead (λ k. false) (λ b. false) d ≡ false
    none None = refl
    none (Some (Result k i)) = refl
    none (Some (Argument b i)) = refl

pub same_keeps : (m : Meaning) (t u : Tree) → IsTree t → IsTree u → IsSameTree t u → length t.operations ≤ length u.operations → KeepsRuns m t u
same_keeps m t u w v s longer = swept_keeps m t u (λ k. false) (λ b. false) w v (same_swept t u s) (record { operations = λ k e. absurd (true≢false (sym e)); blocks = λ b e. absurd (true≢false (sym e)) }) longer (λ root f k b i d. absurd (true≢false (sym d)))

-- what the dialect says has no side effects gives at once
gives_counted : (b : Bool) (s : Shape) (a : Move) → CountsFit b s a → IsGive a → (r : List Datum) × (a ≡ Give r) × (length r ≡ s.results)
gives_counted b s (Give ds) c g = (ds, refl, c)
gives_counted b s (Visit i ds memo) c g = absurd g
gives_counted b s (Goto i ds) c g = absurd g
gives_counted b s (Leave ds) c g = absurd g
gives_counted b s (Emit e memo) c g = absurd g
gives_counted b s Trap c g = absurd g

pub admitted_shape : (m : Meaning) (t : Tree) (k : ℕ) (o : Operation) → op_at t k ≡ Some o → IsAdmitted m t k → Admitted m (shape_of m t o)
unfolding shape_of
admitted_shape m t k o e a =
    let s = op_shows t k o e in
    subst (λ n. IsTrue (m.admits o.head (length o.operands) (length o.results) (length o.successors) n)) (sym (length-map o.regions (λ r. count_arguments (entry_block t r))))
    (subst (λ x. IsTrue (m.admits o.head (length x) (length o.results) (length o.successors) (length o.regions))) s.operands
    (subst (λ x. IsTrue (m.admits o.head (length (operands_of t k)) (length x) (length o.successors) (length o.regions))) s.results
    (subst (λ x. IsTrue (m.admits o.head (length (operands_of t k)) (length (results_of t k)) (length x) (length o.regions))) s.successors
    (subst (λ x. IsTrue (m.admits o.head (length (operands_of t k)) (length (results_of t k)) (length (successors_of t k)) (length x))) s.regions (a o.head s.head)))))

pub gives_now : (m : Meaning) (side_effects : Head → Option Bool) → KeepsCounts m → GivesAtOnce m side_effects → (t : Tree) (k : ℕ) → IsAdmitted m t k → ((o : Operation) → op_at t k ≡ Some o → side_effects o.head ≡ Some false) → GivesNow m t k
unfolding shape_of
gives_now m side_effects counts free t k a none o e ds len =
    let ad = admitted_shape m t k o e a in
    gives_counted (m.is_branch o.head) (shape_of m t o) _ (counts.moves (shape_of m t o) ad ds false Empty ds Begins) (free (shape_of m t o) ad (none o e) ds len)
