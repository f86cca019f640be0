-- What one rewrite by a rule changes.
use Rattle.std.proofs.Common.{◌≡◌, ◌≢◌, ◌⊎◌, ⊎_elim, ℕ, suc, List, [], ◌∷◌, ◌++◌, length, Option, Some, None, IsSome, inl, inr, slice_get, refl, sym, ap, ◌∙◌, subst, arith, length-append}
use Rattle.pliron_core.specs.declared.attrs.Head.{Head}
use Rattle.pliron_core.specs.Edges.{succs_of}
use Rattle.pliron_core.specs.Invariant.{IsTree}
use Rattle.pliron_core.specs.Lists.{put_before}
use Rattle.pliron_core.specs.Tree.{Tree, In, IsLive, operands_of, parent_of, body_of}
use Rattle.pliron_core.specs.Uses.{replace_target}
use Rattle.pliron_core.specs.Writes.{after_placing, after_replacing, put_next_to}
use Rattle.pliron_core.proofs.UsedLemmas.{in_map}
use Rattle.pliron_laws.specs.Linked.{IsWellLinked}
use Rattle.pliron_laws.specs.Outcomes.{next_op}
use Rattle.pliron_laws.proofs.ConstantLemmas.{new_row, some_block}
use Rattle.pliron_rewrite_equals.proofs.Replaced.{operands_replaced, target_cases}
use Rattle.pliron_graph_order.specs.Seen.{IsSeen, IsUsed}
use Rattle.pliron_graph_order.proofs.SeenLemmas.{seen_inside}
use Rattle.pliron_rewrite_rules.specs.Insertions.{after_making, with_operation, IsInsertion, InsertedLaws}
use Rattle.pliron_rewrite_rules.specs.Equations.{Makes}
use Rattle.pliron_rewrite_rules.proofs.Inserted.{inserted_laws, put_is}
use Rattle.pliron_rewrite_rules.proofs.PutBefore.{made_beside, old_parent}
use Rattle.pliron_rewrite_rules.specs.Tables.{RuleTables}
use Rattle.pliron_rewrite_rules.specs.declared.term.Atom.{Atom}
use Rattle.pliron_rewrite_rules.specs.declared.term.Atom.TheVariants.{Named, Constant}
use Rattle.pliron_rewrite_rules.specs.declared.term.Term.{Term}
use Rattle.pliron_rewrite_rules.specs.declared.term.Term.TheVariants.{Atomic, Make}
use Rattle.pliron_rewrite_rules.specs.declared.view.View.{View}
use Rattle.pliron_rewrite_rules.specs.Rewriting.{with_atoms, atom_values, with_term, term_value, after_rewriting, IsRuleFor}
use Rattle.pliron_rewrite_rules.specs.RuleLaws.{IsAccepted, RulesHold}
use Rattle.pliron_rewrite_rules.specs.Views.{Each}
use Rattle.pliron_rewrite_rules.proofs.Agreement.{shown_leaf}
use Rattle.pliron_rewrite_rules.proofs.Applying.{IsRoot, root_of}
use Rattle.pliron_rewrite_rules.proofs.Growing.{grown_put, grown_live}
use Rattle.pliron_rewrite_rules.proofs.PureOperations.{IsLawful}
use Rattle.pliron_rewrite_rules.proofs.RuleKeeps.{constant_insertion, term_insertion}
use Rattle.pliron_rewrite_rules.specs.Applying.{Applies}
use Rattle.pliron_rewrite_rules.proofs.AppliedRules.{applied_rule}
use Rattle.pliron_rewrite_rules.proofs.LocalChanges.{applied_grows, applied_tree, local_applied}
use Rattle.pliron_opt_combine.specs.Steps.{HasChanged, IsOnSweep, LosesUses}
use Rattle.pliron_opt_combine.proofs.Staying.{Stays, stays_refl, stays_trans, seen_stays}

-- there is one operation more
pub put_longer : (t : Tree) (op : ℕ) (head : Head) (operands : List ℕ) → length (with_operation t op head operands).operations ≡ suc (length t.operations)
put_longer t op head operands = go (parent_of t op)
  where
    one_more : length (t.operations ++ new_row t head ∷ []) ≡ suc (length t.operations)
    one_more = let l = length-append t.operations (new_row t head ∷ []) in omega (arith, l)

    go : (o : Option ℕ) → length (put_next_to (after_making t head operands) (next_op t) op o).operations ≡ suc (length t.operations)
    go None = one_more
    go (Some b) = one_more

module _ (x : RuleTables) (laws : IsLawful x) (t : Tree) (op : ℕ) (head : Head) (operands : List ℕ) (i : IsInsertion x.meaning t op head operands) where
  put_edges : InsertedLaws x.meaning
  put_edges = inserted_laws x.meaning laws.counts

  pub put_stays : Stays t (with_operation t op head operands)
  put_stays = let b = some_block (parent_of t op) i.placed in subst (Stays t) (sym (put_is t op b.0 head operands b.1)) (here b.0 b.1)
    where
      here : (block : ℕ) → parent_of t op ≡ Some block → Stays t (after_placing (after_making t head operands) (length t.operations) block (put_before op (length t.operations) (body_of t block)))
      here block at =
          let s = made_beside t head operands i.tree in
          let alike = put_edges.edges t op head operands i in
          record {
            longer = let l = length-append t.operations (new_row t head ∷ []) in omega (arith, l);
            rows = λ k lt. s.operations k (λ e. omega (arith, lt, e));
            parents = λ k lt. old_parent t head operands i.tree op block at k (λ e. omega (arith, lt, e));
            homes = s.block_parents;
            layouts = s.layouts;
            successors = λ b. ap (λ z. succs_of z b) (sym (put_is t op block head operands at)) ∙ alike.successors b;
          }

-- so where constants are put
atoms_stay : (x : RuleTables) (laws : IsLawful x) (op : ℕ) (atoms : List Atom) (t : Tree) → IsTree t → IsSome (parent_of t op) → Each (IsAccepted x.accepts) atoms → Stays t (with_atoms x t op atoms)
atoms_stay x laws op [] t w placed accepted = stays_refl t
atoms_stay x laws op (Named a ∷ atoms) t w placed accepted = atoms_stay x laws op atoms t w placed accepted.1
atoms_stay x laws op (Constant c ∷ atoms) t w placed accepted =
    let i = constant_insertion x laws op t c w placed accepted.0 in
    let next = with_operation t op (x.constant_head c) [] in
    let g = grown_put x.meaning laws.counts t op (x.constant_head c) [] i in
    stays_trans t next (with_atoms x next op atoms) (put_stays x laws t op (x.constant_head c) [] i) (atoms_stay x laws op atoms next g.tree g.placed accepted.1)

-- moving uses leaves all in place
moved_stays : (t : Tree) (old new : ℕ) → Stays t (after_replacing t old new)
moved_stays t old new = record { longer = omega arith; rows = λ k lt. refl; parents = λ k lt. refl; homes = λ b. refl; layouts = λ r. refl; successors = λ b. refl }

-- and the old value has no uses, and the new one alone may have got the first ones
module _ (t : Tree) (old new : ℕ) (apart : old ≢ new) where
  moved_unused : IsUsed (after_replacing t old new) old → ⊥
  moved_unused u =
      let y = in_map (replace_target old new) (operands_of t u.0) old (subst (In old) (operands_replaced t old new u.0) u.1) in
      ⊎_elim (λ z. apart (y.2 ∙ z.1)) (λ z. z.0 (sym (y.2 ∙ z.1))) (target_cases old new y.0)

  moved_back : (v : ℕ) → IsUsed (after_replacing t old new) v → IsUsed t v ⊎ (v ≡ new)
  moved_back v u =
      let y = in_map (replace_target old new) (operands_of t u.0) v (subst (In v) (operands_replaced t old new u.0) u.1) in
      ⊎_elim (λ z. inr (y.2 ∙ z.1)) (λ z. inl (u.0, subst (λ a. In a (operands_of t u.0)) (sym (y.2 ∙ z.1)) y.1)) (target_cases old new y.0)

  moved_loses : IsUsed t old → IsUsed t new → LosesUses t (after_replacing t old new)
  moved_loses u n = record { fewer = λ v is. ⊎_elim (λ z. z) (λ e. subst (IsUsed t) (sym e) n) (moved_back v is); value = old; used = u; lost = moved_unused }

module _ (x : RuleTables) (laws : IsLawful x) (rules : View → Option Term) (hold : RulesHold x.meaning x.side_effects x.accepts rules) (t : Tree) (w : IsTree t) (op : ℕ) (placed : IsSome (parent_of t op)) where
  module _ (term : Term) (a : Applies x rules t op term) where
    r : IsRuleFor x t op a.old term
    r = applied_rule x rules hold t op placed term a

    at : IsRoot x t op a.old r.operation
    at = root_of x t op a.old term r

    pub rewritten_tree : IsTree (after_rewriting x t op a.old term)
    rewritten_tree = applied_tree x laws t w op a.old term r

    pub rewritten_lives : (k : ℕ) → IsLive t k → IsLive (after_rewriting x t op a.old term) k
    rewritten_lives k live = grown_live x.meaning op t (with_term x t op term) (applied_grows x laws t w op a.old term r) k live

  term_stays : (term : Term) → Applies x rules t op term → Stays t (with_term x t op term)
  term_stays (Atomic (Named v)) a = stays_refl t
  term_stays (Atomic (Constant c)) a = put_stays x laws t op (x.constant_head c) [] (constant_insertion x laws op t c w placed (r (Atomic (Constant c)) a).rule.buildable)
  term_stays (Make head atoms) a =
      let q = r (Make head atoms) a in
      let h = at (Make head atoms) a in
      stays_trans t (with_atoms x t op atoms) (with_term x t op (Make head atoms)) (atoms_stay x laws op atoms t w placed q.rule.buildable.1)
      (put_stays x laws (with_atoms x t op atoms) op head (atom_values x t op atoms) (term_insertion x laws op t w q.operation a.old h.single h.harmless placed head atoms q.rule))

  pub rewritten_stays : (term : Term) (a : Applies x rules t op term) → Stays t (after_rewriting x t op a.old term)
  rewritten_stays term a = stays_trans t (with_term x t op term) (after_rewriting x t op a.old term) (term_stays term a) (moved_stays (with_term x t op term) a.old (term_value x t op term))

  pub rewritten_changes : (term : Term) (a : Applies x rules t op term) → HasChanged t (after_rewriting x t op a.old term)
  rewritten_changes (Atomic (Named v)) a =
      let q = r (Atomic (Named v)) a in
      let h = at (Atomic (Named v)) a in
      let listed = ap (λ z. slice_get z 0) a.result in
      let leaf = shown_leaf x t t w (λ k o e. e) (λ z d e. e) op a.old q.operation h.single.liveness (Makes 0 (w.joined.results op 0 a.old listed)) v (q.rule.shown v (inl refl)) in
      inr (refl, moved_loses t a.old v (λ e. a.apart (ap (λ z. Atomic (Named z)) (sym e))) a.used (leaf.reader, leaf.reads))
  rewritten_changes (Atomic (Constant c)) a = inl (let l = put_longer t op (x.constant_head c) [] in omega (arith, l))
  rewritten_changes (Make head atoms) a =
      let q = r (Make head atoms) a in
      let l = put_longer (with_atoms x t op atoms) op head (atom_values x t op atoms) in
      let s = (atoms_stay x laws op atoms t w placed q.rule.buildable.1).longer in
      inl (omega (arith, l, s))

  -- on the way
  module _ (root : ℕ) (live : IsLive t root) (linked : IsWellLinked x.meaning t root) (seen : IsSeen t root op) (term : Term) (a : Applies x rules t op term) where
    pub rewritten_way : IsOnSweep x.meaning t (after_rewriting x t op a.old term) root
    rewritten_way =
        let c = local_applied x laws t w op a.old term (r term a) in
        record { change = c.change root live linked (seen_inside t w root op seen); links = c.links; edges = c.edges; stays = rewritten_lives term a }

    pub rewritten_seen : (k : ℕ) → IsSeen t root k → IsSeen (after_rewriting x t op a.old term) root k
    rewritten_seen k s = seen_stays t (after_rewriting x t op a.old term) w (rewritten_tree term a) (rewritten_stays term a) root k s
