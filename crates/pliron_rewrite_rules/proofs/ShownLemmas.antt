-- What is read of an operation, as its view shows it.
use Rattle.std.proofs.Common.{◌≡◌, ◌≢◌, ◌&&◌, ◌+◌, ℕ, zero, suc, Bool, true, false, nat_eq, List, [], ◌∷◌, ◌++◌, length, map, take, Option, Some, None, IsTrue, slice_get, if◌then◌else◌, add-one, refl, sym, ap, ap₂, ◌∙◌, subst, arith}
use Rattle.std.proofs.lemmas.Bool.{eq-eqb, ne_eqb}
use Rattle.std.proofs.lemmas.Option.{same_Some}
use Rattle.pliron_core.specs.declared.attrs.AttrObj.{AttrObj}
use Rattle.pliron_core.specs.Tree.{Tree, IsLive, head_of, operands_of, successors_of, results_of, regions_of}
use Rattle.pliron_core.proofs.ArgumentLemmas.{take_more}
use Rattle.pliron_core.proofs.HoldingLemmas.{some_is, some_of}
use Rattle.pliron_laws.specs.Answers.{ReadsHead, ReadsShape, is_harmless, answer_in}
use Rattle.pliron_laws.specs.Datum.{Head, Meaning, Shape}
use Rattle.pliron_laws.specs.Folding.{Constants, AnswersTrue, MakesConstants}
use Rattle.pliron_laws.specs.Laws.{KeepsCounts, GivesAtOnce, ForwardsOperands}
use Rattle.pliron_laws.specs.Tree.{Operation, op_at, shape_of}
use Rattle.pliron_laws.proofs.Records.{operation_of, make_op, op_shows}
use Rattle.pliron_theory.proofs.FollowedFacts.{constants_plain}
use Rattle.pliron_rewrite_rules.specs.Tables.{RuleTables}
use Rattle.pliron_rewrite_rules.specs.declared.view.Leaf.{Leaf}
use Rattle.pliron_rewrite_rules.specs.declared.view.Leaf.TheVariants.{Unknown, Known}
use Rattle.pliron_rewrite_rules.specs.declared.view.Operand.{Operand}
use Rattle.pliron_rewrite_rules.specs.declared.view.Operand.TheVariants.{Plain, Made}
use Rattle.pliron_rewrite_rules.specs.declared.view.View.{View}
use Rattle.pliron_rewrite_rules.specs.Seen.{is_pure_operation, pure_only, constant_of, leaf_with, leaf_made, leaf_of, operand_with, operand_made, operand_of, operation_view}
use Rattle.pliron_rewrite_rules.proofs.PureOperations.{IsLawful}

-- the tables of a dialect
abbrev pub tables : Meaning → (Head → Option Bool) → (Head → Bool) → Constants → (AttrObj → Bool) → (AttrObj → Head) → RuleTables
tables m side_effects can_fold constants accepts constant_head = record { meaning = m; side_effects = side_effects; can_fold = can_fold; constants = constants; accepts = accepts; constant_head = constant_head }

pub lawful : (x : RuleTables) (SameTests : Head → Head → Type 0) (shortened : Shape → ℕ → ℕ → Head) → KeepsCounts x.meaning → GivesAtOnce x.meaning x.side_effects → AnswersTrue x.meaning x.can_fold x.constants → MakesConstants x.meaning x.accepts x.constant_head → ForwardsOperands x.meaning x.can_fold SameTests shortened → IsLawful x
lawful x SameTests shortened counts at_once truly makes forwards = record {
  counts = counts;
  at_once = at_once;
  truly = truly;
  makes = makes;
  plain = constants_plain x.meaning x.can_fold SameTests shortened x.accepts x.constant_head forwards makes;
  alone = λ s a e. (forwards.alone s a e).0;
}

map_last : {A B : Type 0} (f : A → B) (xs : List A) (x : A) → map f (xs ++ x ∷ []) ≡ map f xs ++ f x ∷ []
map_last f [] x = refl
map_last f (y ∷ ys) x = ap (λ z. f y ∷ z) (map_last f ys x)

-- one more of what a function makes of a list
pub mapped_more : {A : Type 0} (f : ℕ → A) (xs : List ℕ) (i x : ℕ) (before after : List A) (a : A) → slice_get xs i ≡ Some x → before ≡ map f (take i xs) → a ≡ f x → after ≡ before ++ a ∷ [] → after ≡ map f (take (i + 1) xs)
mapped_more f xs i x before after a at so_far is grown =
    grown ∙ ap (λ z. z ++ a ∷ []) so_far ∙ ap (λ z. map f (take i xs) ++ z ∷ []) is ∙ sym (map_last f (take i xs) x) ∙ ap (map f) (sym (take_more xs i x at)) ∙ ap (λ n. map f (take n xs)) (sym (add-one i))

module _ (x : RuleTables) (t : Tree) (op : ℕ) (o : Operation) (at : op_at t op ≡ Some o) where
  abbrev effects : Bool
  effects = is_harmless (x.side_effects o.head)

  pub impure_results : length (results_of t op) ≢ 1 → false ≡ is_pure_operation x o
  impure_results ne = sym (ap (λ b. b && (nat_eq (length o.successors) 0 && (nat_eq (length o.regions) 0 && effects))) (ne_eqb (length o.results) 1 (λ e. ne (ap length (op_shows t op o at).results ∙ e))))

  module _ (one : length (results_of t op) ≡ 1) where
    results_pass : nat_eq (length o.results) 1 ≡ true
    results_pass = eq-eqb (length o.results) 1 (sym (ap length (op_shows t op o at).results) ∙ one)

    pub impure_successors : length (successors_of t op) ≢ 0 → false ≡ is_pure_operation x o
    impure_successors ne =
        sym (ap (λ b. b && (nat_eq (length o.successors) 0 && (nat_eq (length o.regions) 0 && effects))) results_pass
        ∙ ap (λ b. b && (nat_eq (length o.regions) 0 && effects)) (ne_eqb (length o.successors) 0 (λ e. ne (ap length (op_shows t op o at).successors ∙ e))))

    module _ (edgeless : length (successors_of t op) ≡ 0) where
      successors_pass : nat_eq (length o.successors) 0 ≡ true
      successors_pass = eq-eqb (length o.successors) 0 (sym (ap length (op_shows t op o at).successors) ∙ edgeless)

      pub impure_regions : length (regions_of t op) ≢ 0 → false ≡ is_pure_operation x o
      impure_regions ne =
          sym (ap (λ b. b && (nat_eq (length o.successors) 0 && (nat_eq (length o.regions) 0 && effects))) results_pass
          ∙ ap (λ b. b && (nat_eq (length o.regions) 0 && effects)) successors_pass
          ∙ ap (λ b. b && effects) (ne_eqb (length o.regions) 0 (λ e. ne (ap length (op_shows t op o at).regions ∙ e))))

      pub pure_effects : length (regions_of t op) ≡ 0 → is_harmless (x.side_effects o.head) ≡ is_pure_operation x o
      pure_effects flat =
          sym (ap (λ b. b && (nat_eq (length o.successors) 0 && (nat_eq (length o.regions) 0 && effects))) results_pass
          ∙ ap (λ b. b && (nat_eq (length o.regions) 0 && effects)) successors_pass
          ∙ ap (λ b. b && effects) (eq-eqb (length o.regions) 0 (sym (ap length (op_shows t op o at).regions) ∙ flat)))

  -- the constant of an operation
  abbrev first : Option AttrObj
  first = answer_in (slice_get (x.constants (shape_of x.meaning t o) []) 0)

  pub constant_unless : length (operands_of t op) ≢ 0 → None ≡ constant_of x t o
  constant_unless ne = sym (ap (λ b. if b && x.can_fold o.head then first else None) (ne_eqb (length o.operands) 0 (λ e. ne (ap length (op_shows t op o at).operands ∙ e))))

  module _ (bare : length (operands_of t op) ≡ 0) where
    operands_pass : nat_eq (length o.operands) 0 ≡ true
    operands_pass = eq-eqb (length o.operands) 0 (sym (ap length (op_shows t op o at).operands) ∙ bare)

    pub constant_unfolded : x.can_fold o.head ≡ false → None ≡ constant_of x t o
    constant_unfolded e = sym (ap (λ b. if b && x.can_fold o.head then first else None) operands_pass ∙ ap (λ b. if b then first else None) e)

    pub constant_folded : x.can_fold o.head ≡ true → answer_in (slice_get (x.constants (shape_of x.meaning t o) []) 0) ≡ constant_of x t o
    constant_folded e = sym (ap (λ b. if b && x.can_fold o.head then first else None) operands_pass ∙ ap (λ b. if b then first else None) e)

    -- what the dialect answers without operands
    pub constant_is : (answers known : List (Option AttrObj)) → known ≡ [] → ReadsShape x.meaning (λ s. x.constants s known) t op answers → x.can_fold o.head ≡ true → answer_in (slice_get answers 0) ≡ constant_of x t o
    constant_is answers known none reads e = ap (λ z. answer_in (slice_get z 0)) (reads o at ∙ ap (x.constants (shape_of x.meaning t o)) none) ∙ constant_folded e

pub none_first : (answers : List (Option AttrObj)) → length answers ≡ 0 → answer_in (slice_get answers 0) ≡ None
none_first [] e = refl
none_first (a ∷ answers) e = grind arith

pub live_shown : (t : Tree) (op : ℕ) → IsLive t op → (o : Operation) × (op_at t op ≡ Some o)
live_shown t op l = let h = some_of (head_of t op) l in (operation_of t op h.0, make_op t op h.0 h.1)

module _ (x : RuleTables) (t : Tree) (op : ℕ) (live : IsLive t op) (told : Bool) (tells : (o : Operation) → op_at t op ≡ Some o → told ≡ is_pure_operation x o) where
  pub impure_none : told ≡ false → pure_only x (op_at t op) ≡ None
  impure_none failed =
      let o = live_shown t op live in
      ap (pure_only x) o.1 ∙ ap (λ b. if b then Some o.0 else None) (sym (tells o.0 o.1) ∙ failed)

  pub pure_some : told ≡ true → (o : Operation) → op_at t op ≡ Some o → pure_only x (op_at t op) ≡ Some o
  pure_some passed o at = ap (pure_only x) at ∙ ap (λ b. if b then Some o else None) (sym (tells o at) ∙ passed)

  pub leaf_unknown : told ≡ false → (v : ℕ) → Unknown v ≡ leaf_made x t v (pure_only x (op_at t op))
  leaf_unknown failed v = sym (ap (leaf_made x t v) (impure_none failed))

  pub leaf_told : told ≡ true → (v : ℕ) (attr : Option AttrObj) → ((o : Operation) → op_at t op ≡ Some o → attr ≡ constant_of x t o) → leaf_with v attr ≡ leaf_made x t v (pure_only x (op_at t op))
  leaf_told passed v attr is =
      let o = live_shown t op live in
      ap (leaf_with v) (is o.0 o.1) ∙ sym (ap (leaf_made x t v) (pure_some passed o.0 o.1))

  pub operand_unknown : told ≡ false → (v : ℕ) → Plain (Unknown v) ≡ operand_made x t v (pure_only x (op_at t op))
  operand_unknown failed v = sym (ap (operand_made x t v) (impure_none failed))

  pub operand_known : told ≡ true → (v : ℕ) (c : AttrObj) → ((o : Operation) → op_at t op ≡ Some o → Some c ≡ constant_of x t o) → Plain (Known v c) ≡ operand_made x t v (pure_only x (op_at t op))
  operand_known passed v c is =
      let o = live_shown t op live in
      ap (operand_with x t v o.0) (is o.0 o.1) ∙ sym (ap (operand_made x t v) (pure_some passed o.0 o.1))

  pub operand_through : told ≡ true → (v : ℕ) (operand : Operand) → ((o : Operation) → op_at t op ≡ Some o → None ≡ constant_of x t o) → ((o : Operation) → op_at t op ≡ Some o → operand ≡ Made v o.head (map (leaf_of x t) o.operands)) → operand ≡ operand_made x t v (pure_only x (op_at t op))
  operand_through passed v operand none is =
      let o = live_shown t op live in
      is o.0 o.1 ∙ ap (operand_with x t v o.0) (none o.0 o.1) ∙ sym (ap (operand_made x t v) (pure_some passed o.0 o.1))

pub take_one : {A : Type 0} (xs : List A) (i : ℕ) (a : A) → slice_get xs i ≡ Some a → take (i + 1) xs ≡ take i xs ++ a ∷ []
take_one [] i a e = absurd (grind arith)
take_one (x ∷ xs) zero a e = ap (λ z. z ∷ []) (same_Some x a e)
take_one (x ∷ xs) (suc i) a e =
    let one : suc i + 1 ≡ suc (i + 1) = omega arith in ap (λ n. take n (x ∷ xs)) one ∙ ap (λ l. x ∷ l) (take_one xs i a e)

-- the parts that were read are those of the operation
module _ (x : RuleTables) (t : Tree) (op : ℕ) (o : Operation) (at : op_at t op ≡ Some o) where
  same_head : (h copy : Head) → head_of t op ≡ Some h → copy ≡ h → copy ≡ o.head
  same_head h copy e is = is ∙ some_is (sym e ∙ (op_shows t op o at).head)

  pub through_is : (v : ℕ) (h copy : Head) (leaves : List Leaf) → head_of t op ≡ Some h → copy ≡ h → leaves ≡ map (leaf_of x t) (operands_of t op) → Made v copy leaves ≡ Made v o.head (map (leaf_of x t) o.operands)
  through_is v h copy leaves e is all = ap₂ (Made v) (same_head h copy e is) (all ∙ ap (map (leaf_of x t)) (op_shows t op o at).operands)

  pub view_is : (h copy : Head) (operands : List Operand) → head_of t op ≡ Some h → copy ≡ h → operands ≡ map (operand_of x t) (operands_of t op) → (let z : View = record { head = copy; operands = operands } in z) ≡ operation_view x t o
  view_is h copy operands e is all = ap₂ (λ a b. let z : View = record { head = a; operands = b } in z) (same_head h copy e is) (all ∙ ap (map (operand_of x t)) (op_shows t op o at).operands)
