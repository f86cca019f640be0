-- Putting a term before an operation, and what the rules answer for it.
use Rattle.std.proofs.Common.{map, if◌then◌else◌, ◌≡◌, ◌⊎◌, inl, inr, ℕ, ◌<◌, Bool, true, List, [], ◌∷◌, length, Option, Some, None, IsSome, false, slice_get, refl, sym, ap, ◌∙◌, subst, arith}
use Rattle.std.proofs.lemmas.Option.{slice_get_within}
use Rattle.pliron_core.specs.declared.attrs.Head.{Head}
use Rattle.pliron_core.specs.Invariant.{IsTree}
use Rattle.pliron_core.proofs.HoldingLemmas.{not_none, some_is}
use Rattle.pliron_core.specs.Tree.{Tree, In, IsLive, IsDefined, head_of, parent_of, operands_of, results_of}
use Rattle.pliron_laws.specs.MaterialisedConstants.{IsRestored}
use Rattle.pliron_laws.specs.Tree.{Operation, op_at}
use Rattle.pliron_laws.proofs.ShapeLemmas.{head_at}
use Rattle.pliron_rewrite_rules.specs.Tables.{RuleTables}
use Rattle.pliron_rewrite_rules.specs.Insertions.{with_operation, IsInsertion}
use Rattle.pliron_rewrite_rules.specs.declared.term.Atom.{Atom}
use Rattle.pliron_rewrite_rules.specs.declared.term.Atom.TheVariants.{Named, Constant}
use Rattle.pliron_rewrite_rules.specs.declared.term.Term.{Term}
use Rattle.pliron_rewrite_rules.specs.declared.term.Term.TheVariants.{Atomic, Make}
use Rattle.pliron_rewrite_rules.specs.Rewriting.{with_atoms, atom_values, with_term, term_value, IsRuleFor}
use Rattle.pliron_rewrite_rules.specs.Applying.{rule_answer, answered_term, Applies}
use Rattle.pliron_rewrite_rules.specs.Putting.{AreErasable}
use Rattle.pliron_rewrite_rules.specs.RuleLaws.{RulesHold}
use Rattle.pliron_rewrite_rules.specs.Seen.{is_pure_operation, pure_only, operand_of, operation_view}
use Rattle.pliron_rewrite_rules.specs.declared.view.Operand.{Operand}
use Rattle.pliron_rewrite_rules.specs.declared.view.View.{View}
use Rattle.pliron_rewrite_rules.proofs.Growing.{grown_live, op_live}
use Rattle.pliron_rewrite_rules.proofs.PureOperations.{IsLawful}
use Rattle.pliron_rewrite_rules.proofs.Applying.{IsRoot, root_of}
use Rattle.pliron_rewrite_rules.proofs.ShownLemmas.{live_shown, impure_none, pure_some}
use Rattle.pliron_rewrite_rules.proofs.RuleKeeps.{IsNew, term_insertion, term_grows, term_defined, term_unused, root_listed}

-- what is restored from what is restored
pub restored_trans : (t u v : Tree) → IsRestored t u → IsRestored u v → IsRestored t v
restored_trans t u v a b = record {
  same = record {
    operations = λ k. b.same.operations k ∙ a.same.operations k;
    operands = λ k. b.same.operands k ∙ a.same.operands k;
    successors = λ k. b.same.successors k ∙ a.same.successors k;
    parents = λ k. b.same.parents k ∙ a.same.parents k;
    bodies = λ z. b.same.bodies z ∙ a.same.bodies z;
    arguments = λ z. b.same.arguments z ∙ a.same.arguments z;
    block_parents = λ z. b.same.block_parents z ∙ a.same.block_parents z;
    layouts = λ r. b.same.layouts r ∙ a.same.layouts r;
  };
  slots = λ r s e. b.slots r s (a.slots r s e);
  definitions = λ z d e. b.definitions z d (a.definitions z d e);
  longer = let p = a.longer in let q = b.longer in omega (arith, p, q);
}

pub erasable_after : (x : RuleTables) (op : ℕ) (t now next : Tree) (made : List ℕ) → AreErasable x op t made now → IsRestored now next → AreErasable x op t made next
erasable_after x op t now next made e back = record { tree = e.tree; placed = e.placed; atoms = e.atoms; accepted = e.accepted; keys = e.keys; back = restored_trans (with_atoms x t op e.atoms) now next e.back back }

-- the operation of a term, once its constants are there
module _ (x : RuleTables) (laws : IsLawful x) (t : Tree) (w : IsTree t) (op old : ℕ) (head : Head) (atoms : List Atom) (r : IsRuleFor x t op old (Make head atoms)) (now : Tree) (operands : List ℕ) (is : now ≡ with_atoms x t op atoms) (values : operands ≡ atom_values x t op atoms) where
  pub made_insertion : IsInsertion x.meaning now op head operands
  made_insertion =
      let root = root_of x t op old (Make head atoms) r in
      subst (λ z. IsInsertion x.meaning z op head operands) (sym is) (subst (IsInsertion x.meaning (with_atoms x t op atoms) op head) (sym values) (term_insertion x laws op t w r.operation old root.single root.harmless r.placed head atoms r.rule))

  pub made_is : (z : Tree) → z ≡ with_operation now op head operands → z ≡ with_term x t op (Make head atoms)
  made_is z e = e ∙ ap (λ y. with_operation y op head operands) is ∙ ap (with_operation (with_atoms x t op atoms) op head) values

-- moving the uses
module _ (x : RuleTables) (laws : IsLawful x) (t : Tree) (w : IsTree t) (op old : ℕ) (term : Term) (r : IsRuleFor x t op old term) (now : Tree) (is : now ≡ with_term x t op term) where
  root : IsRoot x t op old r.operation
  root = root_of x t op old term r

  pub listed_now : slice_get (results_of now op) 0 ≡ Some old
  listed_now = ap (λ z. slice_get (results_of z op) 0) is ∙ root_listed x laws op t w r.operation old root.single root.harmless r.placed term r.rule

  pub live_now : IsLive now op
  live_now = subst (λ z. IsLive z op) (sym is) (grown_live x.meaning op t (with_term x t op term) (term_grows x laws op t w r.operation old root.single root.harmless r.placed term r.rule) op (op_live t op r.operation root.single.liveness))

  pub counted_now : 0 < length (results_of now op)
  counted_now = slice_get_within (results_of now op) 0 old listed_now

  pub value_defined : (v : ℕ) → v ≡ term_value x t op term → IsDefined now v
  value_defined v e = subst (IsDefined now) (sym e) (subst (λ z. IsDefined z (term_value x t op term)) (sym is) (term_defined x laws op t w r.operation old root.single root.harmless r.placed term r.rule))

  pub value_unused : IsNew term → (v : ℕ) → v ≡ term_value x t op term → (k : ℕ) → In v (operands_of now k) → ⊥
  value_unused new v e k i = term_unused x laws op t w r.operation old root.single root.harmless r.placed term r.rule new k (subst (λ z. In z (operands_of (with_term x t op term) k)) e (subst (λ z. In v (operands_of z k)) is i))

-- a term that makes nothing leaves the tree
pub plain_same : (x : RuleTables) (t : Tree) (op : ℕ) (term : Term) → (IsNew term → ⊥) → with_term x t op term ≡ t
plain_same x t op (Atomic (Named v)) none = refl
plain_same x t op (Atomic (Constant c)) none = absurd (none tt)
plain_same x t op (Make head atoms) none = absurd (none tt)

pub new_or_plain : (term : Term) → IsNew term ⊎ (IsNew term → ⊥)
new_or_plain (Atomic (Named v)) = inr (λ z. z)
new_or_plain (Atomic (Constant c)) = inl tt
new_or_plain (Make head atoms) = inl tt

-- what the rules answer for an operation, by the test of purity
module _ (x : RuleTables) (rules : View → Option Term) (t : Tree) (op : ℕ) (live : IsLive t op) (told : Bool) (tells : (o : Operation) → op_at t op ≡ Some o → told ≡ is_pure_operation x o) where
  pub none_asked : told ≡ false → None ≡ answered_term x t rules op
  none_asked failed = sym (ap (rule_answer x t rules) (impure_none x t op live told tells failed))

  pub asked_is : told ≡ true → (view : View) → ((o : Operation) → op_at t op ≡ Some o → view ≡ operation_view x t o) → (answer : Option Term) → answer ≡ rules view → answer ≡ answered_term x t rules op
  asked_is passed view seen answer answered =
      let o = live_shown t op live in
      answered ∙ ap rules (seen o.0 o.1) ∙ sym (ap (rule_answer x t rules) (pure_some x t op live told tells passed o.0 o.1))

-- the rules answer nothing for an operation with a head to which none of them applies
pub none_applies : (x : RuleTables) (rules : View → Option Term) (t : Tree) (op : ℕ) (head : Head) → head_of t op ≡ Some head → ((operands : List Operand) → rules (record { head = head; operands = operands }) ≡ None) → None ≡ answered_term x t rules op
none_applies x rules t op head has none = by (op_at t op) refl
  where
    by : (o : Option Operation) → op_at t op ≡ o → None ≡ rule_answer x t rules (pure_only x o)
    by None at = refl
    by (Some o) at = of_pure (is_pure_operation x o)
      where
        of_pure : (pure : Bool) → None ≡ rule_answer x t rules (if pure then Some o else None)
        of_pure false = refl
        of_pure true = sym (ap (λ h. rules (record { head = h; operands = map (operand_of x t) o.operands })) (some_is (sym (head_at t op o at) ∙ has)) ∙ none (map (operand_of x t) o.operands))

-- a term that applies is that of a rule
module _ (x : RuleTables) (rules : View → Option Term) (hold : RulesHold x.meaning x.side_effects x.accepts rules) (t : Tree) (op : ℕ) (placed : IsSome (parent_of t op)) (term : Term) (a : Applies x rules t op term) where
  pub applied_rule : IsRuleFor x t op a.old term
  applied_rule = go (pure_only x (op_at t op)) refl a.answer
    where
      go : (q : Option Operation) → pure_only x (op_at t op) ≡ q → rule_answer x t rules q ≡ Some term → IsRuleFor x t op a.old term
      go None pure e = absurd (not_none e)
      go (Some o) pure e = record { placed = placed; operation = o; pure = pure; result = a.result; rule = hold (operation_view x t o) term e }

-- the terms that apply, by what is asked in turn
module _ (x : RuleTables) (rules : View → Option Term) (t : Tree) (op : ℕ) where
  pub many_none : (length (results_of t op) ≡ 1 → ⊥) → (term : Term) → Applies x rules t op term → ⊥
  many_none many term a = many (ap length a.result)

  module _ (old : ℕ) (one : length (results_of t op) ≡ 1) (listed : slice_get (results_of t op) 0 ≡ Some old) where
    result_is : results_of t op ≡ old ∷ []
    result_is = go (results_of t op) one listed
      where
        go : (vs : List ℕ) → length vs ≡ 1 → slice_get vs 0 ≡ Some old → vs ≡ old ∷ []
        go [] e at = absurd (omega (arith, e))
        go (v ∷ []) e at = ap (λ z. z ∷ []) (some_is at)
        go (v ∷ w ∷ vs) e at = absurd (omega (arith, e))

    same_old : (term : Term) (a : Applies x rules t op term) → a.old ≡ old
    same_old term a = some_is (sym (ap (λ z. slice_get z 0) a.result) ∙ listed)

    pub unused_none : ((user : ℕ) → In old (operands_of t user) → ⊥) → (term : Term) → Applies x rules t op term → ⊥
    unused_none none term a = none a.used.0 (subst (λ z. In z (operands_of t a.used.0)) (same_old term a) a.used.1)

    pub unanswered_none : answered_term x t rules op ≡ None → (term : Term) → Applies x rules t op term → ⊥
    unanswered_none none term a = not_none (sym none ∙ a.answer)

    pub named_none : (named : Term) → answered_term x t rules op ≡ Some named → named ≡ Atomic (Named old) → (term : Term) → Applies x rules t op term → ⊥
    named_none named answer is term a = a.apart (some_is (sym a.answer ∙ answer) ∙ is ∙ ap (λ z. Atomic (Named z)) (sym (same_old term a)))

    pub term_applies : (user : ℕ) × In old (operands_of t user) → (term : Term) → answered_term x t rules op ≡ Some term → (term ≡ Atomic (Named old) → ⊥) → Applies x rules t op term
    term_applies used term answer apart = record { old = old; result = result_is; used = used; answer = answer; apart = apart }
