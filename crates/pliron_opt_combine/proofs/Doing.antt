-- What holds on the way, as one operation after the other is rewritten.
use Rattle.std.proofs.Common.{◌≡◌, ◌⊎◌, ⊎_elim, ◌<◌, ◌≤◌, ◌+◌, ℕ, Bool, List, [], ◌∷◌, ◌++◌, length, Option, Some, None, Result, Ok, Err, OnErr, IsSome, IsTrue, is_some, true, false, if◌then◌else◌, inl, inr, refl, sym, ap, ◌∙◌, subst, arith, length-append}
use Rattle.pliron_core.specs.Changes.{IsSameTree}
use Rattle.pliron_core.specs.Invariant.{IsTree}
use Rattle.pliron_core.specs.Tree.{Tree, IsLive, parent_of}
use Rattle.pliron_laws.specs.Linked.{IsWellLinked}
use Rattle.pliron_laws.specs.MaterialisedConstants.{IsRestored}
use Rattle.pliron_laws.proofs.LinkedLemmas.{linked_same}
use Rattle.pliron_theory.proofs.EdgeLemmas.{edges_same, edges_transitive}
use Rattle.pliron_theory.proofs.WholeChanges.{same_whole, whole_refl, whole_trans}
use Rattle.pliron_graph_order.specs.Seen.{IsSeen, IsUsed}
use Rattle.pliron_rewrite_rules.specs.Tables.{RuleTables}
use Rattle.pliron_rewrite_rules.specs.declared.term.Term.{Term}
use Rattle.pliron_rewrite_rules.specs.declared.view.View.{View}
use Rattle.pliron_rewrite_rules.specs.Rewriting.{after_rewriting}
use Rattle.pliron_rewrite_rules.specs.RuleLaws.{RulesHold}
use Rattle.pliron_rewrite_rules.proofs.PureOperations.{IsLawful}
use Rattle.pliron_rewrite_rules.specs.Applying.{Applies, IsRuleAnswer, IsRewritten}
use Rattle.pliron_opt_combine.specs.Rewrites.{Rewrite, RewriteInTurn, AreRewritten, HasRewrites}
use Rattle.pliron_opt_combine.specs.Steps.{AreSwept, AreSweptPartly, HasChanged, IsOnSweep, LosesUses}
use Rattle.pliron_opt_combine.proofs.Changing.{rewritten_changes, rewritten_seen, rewritten_way}

pub same_itself : (t : Tree) → IsSameTree t t
same_itself t = record { operations = λ k. refl; operands = λ k. refl; successors = λ k. refl; parents = λ k. refl; bodies = λ b. refl; arguments = λ b. refl; block_parents = λ b. refl; layouts = λ r. refl }

-- changes in turn are a change
loses_trans : (t0 t t' : Tree) → LosesUses t0 t → LosesUses t t' → LosesUses t0 t'
loses_trans t0 t t' a b = record { fewer = λ v u. a.fewer v (b.fewer v u); value = a.value; used = a.used; lost = λ u. a.lost (b.fewer a.value u) }

changed_trans : (t0 t t' : Tree) → HasChanged t0 t → HasChanged t t' → HasChanged t0 t'
changed_trans t0 t t' (inl a) (inl b) = inl (omega (arith, a, b))
changed_trans t0 t t' (inl a) (inr b) = let e = b.0 in inl (omega (arith, a, e))
changed_trans t0 t t' (inr a) (inl b) = let e = a.0 in inl (omega (arith, e, b))
changed_trans t0 t t' (inr a) (inr b) = inr (b.0 ∙ a.0, loses_trans t0 t t' a.1 b.1)

changed_differs : (t0 t : Tree) → HasChanged t0 t → t ≡ t0 → ⊥
changed_differs t0 t (inl lt) e = let l = ap (λ z. length z.operations) e in absurd (omega (arith, lt, l))
changed_differs t0 t (inr q) e = q.1.lost (subst (λ z. IsUsed z q.1.value) (sym e) q.1.used)

module _ (x : RuleTables) (rules : View → Option Term) (root : ℕ) where
  turn_more : (rs qs : List Rewrite) (t u t' : Tree) → RewriteInTurn x rules root rs t u → RewriteInTurn x rules root qs u t' → RewriteInTurn x rules root (rs ++ qs) t t'
  turn_more [] qs t u t' e more = subst (λ z. RewriteInTurn x rules root qs z t') e more
  turn_more (r ∷ rs) qs t u t' turn more = (turn.0, turn.1, turn_more rs qs turn.0 u t' turn.2 more)

  none_made : (rs : List Rewrite) (t t' : Tree) → length rs ≡ 0 → RewriteInTurn x rules root rs t t' → t' ≡ t
  none_made [] t t' e turn = turn
  none_made (r ∷ rs) t t' e turn = absurd (omega (arith, e))

  way_trans : (t0 t t' : Tree) → IsOnSweep x.meaning t0 t root → IsOnSweep x.meaning t t' root → IsOnSweep x.meaning t0 t' root
  way_trans t0 t t' a b = record {
    change = whole_trans x.meaning t0 t t' root a.change b.change;
    links = λ r l. b.links r (a.links r l);
    edges = edges_transitive t0 t t' (λ op before after. a.stays op before) a.edges b.edges;
    stays = λ k l. b.stays k (a.stays k l);
  }

  -- where as many are left as before, the tree is as before
  pub done_same : (t0 t : Tree) (left rest : ℕ) (Done : ℕ → Type 0) → AreSwept x rules t0 t root left rest Done → rest ≡ left → t ≡ t0
  done_same t0 t left rest Done d e = let n = d.counted in none_made d.rewrites t0 t (omega (arith, n, e)) d.in_turn

  module _ (t : Tree) (live : IsLive t root) (linked : IsWellLinked x.meaning t root) where
    way_refl : IsOnSweep x.meaning t t root
    way_refl = record { change = whole_refl x.meaning t root live linked; links = λ r l. l; edges = λ op a b. refl; stays = λ k l. l }

    pub done_start : (left : ℕ) (Done : ℕ → Type 0) → (0 < left → (k : ℕ) (term : Term) → Done k → Applies x rules t k term → ⊥) → AreSwept x rules t t root left left Done
    done_start left Done none = record { way = way_refl; rewrites = []; in_turn = refl; counted = omega arith; seen = λ k s. s; changed = λ lt. absurd (omega (arith, lt)); none = λ e. none }

    pub partly_start : (left : ℕ) → AreSweptPartly x rules t t root left
    partly_start left = record { way = way_refl; rewritten = ([], record { before = t; in_turn = refl; same = same_itself t; most = omega arith }) }

    pub partly_restored : (t' : Tree) (left : ℕ) → IsTree t → IsTree t' → IsRestored t t' → AreSweptPartly x rules t t' root left
    partly_restored t' left w w' b = record {
      way = record {
        change = same_whole x.meaning t t' root w w' b.same b.longer live linked;
        links = λ r l. linked_same x.meaning t t' r w w' b.same l;
        edges = λ op before after. edges_same t t' op w w' b.same;
        stays = λ k l. subst (λ z. IsSome z.head) (sym (b.same.operations k)) l;
      };
      rewritten = ([], record { before = t; in_turn = refl; same = b.same; most = omega arith });
    }

  pub done_more : (t0 t t' : Tree) (left middle rest : ℕ) (Done Also : ℕ → Type 0) → AreSwept x rules t0 t root left middle Done → AreSwept x rules t t' root middle rest Also → AreSwept x rules t0 t' root left rest (λ k. Done k ⊎ Also k)
  done_more t0 t t' left middle rest Done Also p q = record {
    way = way_trans t0 t t' p.way q.way;
    rewrites = p.rewrites ++ q.rewrites;
    in_turn = turn_more p.rewrites q.rewrites t0 t t' p.in_turn q.in_turn;
    counted = let a = p.counted in let b = q.counted in let l = length-append p.rewrites q.rewrites in omega (arith, a, b, l);
    seen = λ k s. q.seen k (p.seen k s);
    changed = λ lt. changed lt;
    none = λ e some k term done a.
        let first : middle ≡ left = let a = p.counted in let b = q.counted in omega (arith, a, b, e) in
        ⊎_elim
        (λ d. p.none first some k term d a)
        (λ d. q.none (e ∙ sym first) (subst (λ n. 0 < n) (sym first) some) k term d (subst (λ z. Applies x rules z k term) (sym (done_same t0 t left middle Done p first)) a))
        done;
  }
    where
      cases : (n m : ℕ) → (n < m) ⊎ (m ≤ n)
      cases n m = grind arith

      changed : rest < left → HasChanged t0 t'
      changed lt = ⊎_elim
          (λ a. ⊎_elim
          (λ b. changed_trans t0 t t' (p.changed a) (q.changed b))
          (λ b. let n = q.counted in subst (HasChanged t0) (sym (done_same t t' middle rest Also q (omega (arith, n, b)))) (p.changed a))
          (cases rest middle))
          (λ a. let n = p.counted in
          let m = q.counted in
          let same = done_same t0 t left middle Done p (omega (arith, n, a)) in
          subst (λ z. HasChanged z t') same (q.changed (omega (arith, n, m, a, lt))))
          (cases middle left)

  pub done_as : (t0 t : Tree) (left rest : ℕ) (Done Also : ℕ → Type 0) → ((k : ℕ) → Also k → Done k) → AreSwept x rules t0 t root left rest Done → AreSwept x rules t0 t root left rest Also
  done_as t0 t left rest Done Also h p = record { way = p.way; rewrites = p.rewrites; in_turn = p.in_turn; counted = p.counted; seen = p.seen; changed = p.changed; none = λ e some k term d a. p.none e some k term (h k d) a }

  -- where nothing is said to be done
  pub done_nothing : (t0 t t' : Tree) (left middle rest : ℕ) → AreSwept x rules t0 t root left middle (λ k. ⊥) → AreSwept x rules t t' root middle rest (λ k. ⊥) → AreSwept x rules t0 t' root left rest (λ k. ⊥)
  done_nothing t0 t t' left middle rest p q = done_as t0 t' left rest (λ k. ⊥ ⊎ ⊥) (λ k. ⊥) (λ k never. absurd never) (done_more t0 t t' left middle rest (λ k. ⊥) (λ k. ⊥) p q)

  -- once there was a rewrite, nothing is said of what is done
  pub done_anything : (t0 t : Tree) (left rest : ℕ) (Done Also : ℕ → Type 0) → rest < left → AreSwept x rules t0 t root left rest Done → AreSwept x rules t0 t root left rest Also
  done_anything t0 t left rest Done Also lt p = record { way = p.way; rewrites = p.rewrites; in_turn = p.in_turn; counted = p.counted; seen = p.seen; changed = p.changed; none = λ e. absurd (omega (arith, e, lt)) }

  pub done_fewer : (t0 t : Tree) (left rest : ℕ) (Done : ℕ → Type 0) → AreSwept x rules t0 t root left rest Done → rest ≤ left
  done_fewer t0 t left rest Done p = let n = p.counted in omega (arith, n)

  pub partly_more : (t0 t t' : Tree) (left middle : ℕ) (Done : ℕ → Type 0) → AreSwept x rules t0 t root left middle Done → AreSweptPartly x rules t t' root middle → AreSweptPartly x rules t0 t' root left
  partly_more t0 t t' left middle Done p q =
      let a = q.rewritten.1 in
      record {
        way = way_trans t0 t t' p.way q.way;
        rewritten = (
          p.rewrites ++ q.rewritten.0,
          record {
            before = a.before;
            in_turn = turn_more p.rewrites q.rewritten.0 t0 t a.before p.in_turn a.in_turn;
            same = a.same;
            most = let n = p.counted in let m = a.most in let l = length-append p.rewrites q.rewritten.0 in omega (arith, n, m, l);
          },
        );
      }

  -- what was done may be all that is
  pub partly : (t0 t : Tree) (left rest : ℕ) (Done : ℕ → Type 0) → AreSwept x rules t0 t root left rest Done → AreSweptPartly x rules t0 t root left
  partly t0 t left rest Done p = record { way = p.way; rewritten = (p.rewrites, record { before = t; in_turn = p.in_turn; same = same_itself t; most = let n = p.counted in omega (arith, n) }) }

  -- none is left
  pub none_left : (t t' : Tree) (left rest : ℕ) → AreSwept x rules t t' root left rest (λ k. IsSeen t root k) → rest ≡ left → 0 < left → HasRewrites x rules t' root → ⊥
  none_left t t' left rest p e some h =
      let same = done_same t t' left rest (λ k. IsSeen t root k) p e in
      p.none e some h.0.op h.0.term (subst (λ z. IsSeen z root h.0.op) same h.2.0) (subst (λ z. Applies x rules z h.0.op h.0.term) same h.2.1.0)

  pub are_rewritten : (t0 t : Tree) (left rest : ℕ) (Done : ℕ → Type 0) → (p : AreSwept x rules t0 t root left rest Done) → AreRewritten x rules root left p.rewrites t0 t
  are_rewritten t0 t left rest Done p = record { before = t; in_turn = p.in_turn; same = same_itself t; most = let n = p.counted in omega (arith, n) }

  pub counts_changes : (t0 t : Tree) (left rest : ℕ) (Done : ℕ → Type 0) → AreSwept x rules t0 t root left rest Done → (n : ℕ) → left ≡ n + rest → (n ≡ 0 → t ≡ t0) × (t ≡ t0 → n ≡ 0)
  counts_changes t0 t left rest Done p n e = (
    λ none. done_same t0 t left rest Done p (omega (arith, e, none)),
    λ same. ⊎_elim (λ z. z) (λ some. absurd (changed_differs t0 t (p.changed (omega (arith, e, some))) same)) (cases n),
  )
    where
      cases : (n : ℕ) → (n ≡ 0) ⊎ (0 < n)
      cases n = grind arith

-- what holds after an error, if something else does
pub err_as : {T E P Q : Type 0} (r : Result T E) → (P → Q) → OnErr r P → OnErr r Q
err_as (Ok v) h p = tt
err_as (Err e) h p = h p

-- how often a round may follow
abbrev pub rounds_left : ℕ → Bool → ℕ
rounds_left rest goes_on = rest + (if goes_on then 1 else 0)

pub round_smaller : (before rest : ℕ) (goes_on : Bool) → rest ≤ before → (IsTrue goes_on → rest < before) → rounds_left rest goes_on < rounds_left before true
round_smaller before rest true le h = let lt = h refl in omega (arith, lt)
round_smaller before rest false le h = omega (arith, le)

-- what is seen is in a block, and live
pub seen_placed : (t : Tree) (root op : ℕ) → IsSeen t root op → IsSome (parent_of t op)
seen_placed t root op seen = ap is_some seen.in_block

pub seen_live : (t : Tree) (w : IsTree t) (root op : ℕ) → IsSeen t root op → IsLive t op
seen_live t w root op seen = (w.joined.all_in_place op seen.block seen.in_block).0

pub applied_result : (x : RuleTables) (rules : View → Option Term) (t : Tree) (op : ℕ) (answer : Option Term) (term : Term) → IsRuleAnswer x rules t op answer → answer ≡ Some term → Applies x rules t op term
applied_result x rules t op answer term is e = subst (IsRuleAnswer x rules t op) e is

-- one operation
module _ (x : RuleTables) (laws : IsLawful x) (rules : View → Option Term) (hold : RulesHold x.meaning x.side_effects x.accepts rules) (t : Tree) (w : IsTree t) (root op : ℕ) (live : IsLive t root) (linked : IsWellLinked x.meaning t root) (seen : IsSeen t root op) where
  pub not_rewritten : (left : ℕ) (answer : Option Term) → IsRuleAnswer x rules t op answer → answer ≡ None → AreSwept x rules t t root left left (λ k. k ≡ op)
  not_rewritten left None is e = done_start x rules root t live linked left (λ k. k ≡ op) (λ some k term same a. is term (subst (λ z. Applies x rules t z term) same a))
  not_rewritten left (Some term) is e = absurd (cc e)

  pub rewritten : (t' : Tree) (left rest new : ℕ) → left ≡ 1 + rest → IsRewritten x rules t t' op (Some new) → (Done : ℕ → Type 0) → AreSwept x rules t t' root left rest Done
  rewritten t' left rest new e is Done =
      let term = is.0 in
      let a = is.1 in
      subst (λ z. AreSwept x rules t z root left rest Done) (sym is.2) (record {
        way = rewritten_way x laws rules hold t w op (seen_placed t root op seen) root live linked seen term a;
        rewrites = record { op = op; term = term } ∷ [];
        in_turn = (after_rewriting x t op a.old term, (seen, (a, refl)), refl);
        counted = e;
        seen = rewritten_seen x laws rules hold t w op (seen_placed t root op seen) root live linked seen term a;
        changed = λ lt. rewritten_changes x laws rules hold t w op (seen_placed t root op seen) term a;
        none = λ s. absurd (omega (arith, s, e));
      })
