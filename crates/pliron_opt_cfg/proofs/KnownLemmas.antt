-- The constants that are known of operands, one after the other.
use Rattle.std.proofs.lemmas.Option.{slice_get-map, slice_get_past}
use Rattle.std.proofs.Common.{◌≡◌, option_map, ℕ, zero, suc, ◌+◌, ◌≤◌, Bool, true, false, List, [], ◌∷◌, ◌++◌, length, map, take, replicate, Option, Some, None, slice_get, refl, sym, ap, ◌∙◌, subst, add-one, IsTrue}
use Rattle.pliron_core.proofs.ArgumentLemmas.{take_more}
use Rattle.pliron_core.specs.declared.attrs.AttrObj.{AttrObj}
use Rattle.pliron_core.specs.declared.context.Def.{Def}
use Rattle.pliron_core.specs.declared.context.Def.TheVariants.{Result, Argument}
use Rattle.pliron_core.specs.Invariant.{IsTree}
use Rattle.pliron_core.proofs.HoldingLemmas.{some_is, some_of, not_none, in_slice, maker_is}
use Rattle.pliron_core.specs.Tree.{Tree, IsLive, IsDefined, IsMadeBy, head_of, operands_of, results_of, definition_of}
use Rattle.pliron_laws.specs.Datum.{Head, Meaning}
use Rattle.pliron_laws.specs.Tree.{op_at, shape_of}
use Rattle.pliron_laws.specs.Folding.{Constants}
use Rattle.pliron_laws.specs.Answers.{ReadsShape}
use Rattle.pliron_laws.proofs.Records.{operation_of, make_op, op_shows}
use Rattle.pliron_theory.specs.Answered.{IsAnswered, AnsweredLaw}
use Rattle.pliron_theory.specs.Refolded.{AreReadAs}
use Rattle.pliron_opt_cfg.specs.Folded.{has_passing_head, one_answer, answered_for, answered_if, known_of, known_operands}

-- one more of what a function makes of a list
map_last : {A : Type 0} (f : ℕ → A) (xs : List ℕ) (x : ℕ) → map f (xs ++ x ∷ []) ≡ map f xs ++ f x ∷ []
map_last f [] x = refl
map_last f (y ∷ ys) x = ap (λ z. f y ∷ z) (map_last f ys x)

pub mapped_more : {A : Type 0} (f : ℕ → A) (xs : List ℕ) (i x : ℕ) (before after : List A) (a : A) → slice_get xs i ≡ Some x → before ≡ map f (take i xs) → a ≡ f x → after ≡ before ++ a ∷ [] → after ≡ map f (take (i + 1) xs)
mapped_more f xs i x before after a at so_far is grown =
    grown ∙ ap (λ z. z ++ a ∷ []) so_far ∙ ap (λ z. map f (take i xs) ++ z ∷ []) is ∙ sym (map_last f (take i xs) x) ∙ ap (map f) (sym (take_more xs i x at)) ∙ ap (λ n. map f (take n xs)) (sym (add-one i))

replicate_last : {A : Type 0} (n : ℕ) (x : A) → replicate (suc n) x ≡ replicate n x ++ x ∷ []
replicate_last zero x = refl
replicate_last (suc n) x = ap (λ z. x ∷ z) (replicate_last n x)

pub replicated_more : {A : Type 0} (n : ℕ) (x : A) (before after : List A) → before ≡ replicate n x → after ≡ before ++ x ∷ [] → after ≡ replicate (n + 1) x
replicated_more n x before after so_far grown = grown ∙ ap (λ z. z ++ x ∷ []) so_far ∙ sym (replicate_last n x) ∙ ap (λ k. replicate k x) (sym (add-one n))

one_is : (o : Option (Option AttrObj)) (c : AttrObj) → one_answer o ≡ Some c → o ≡ Some (Some c)
one_is None c e = absurd (not_none e)
one_is (Some a) c e = ap Some e

module _ (m : Meaning) (can_fold : Head → Bool) (constants : Constants) (t : Tree) where
  -- a constant that is known of a value is one that folding its maker answers with no operand known
  pub known_answered : (v : ℕ) (c : AttrObj) → IsDefined t v → known_of m can_fold constants t (definition_of t v) ≡ Some c → IsAnswered m can_fold constants t v c
  known_answered v c is e = let x = maker_is t v is in by_maker x.0 x.2 (ap (known_of m can_fold constants t) (sym x.1) ∙ e)
    where
      by_test : (k i : ℕ) (h : Head) → head_of t k ≡ Some h → slice_get (results_of t k) i ≡ Some v → (b : Bool) → can_fold h ≡ b → answered_if b m constants t (op_at t k) i ≡ Some c → IsAnswered m can_fold constants t v c
      by_test k i h at made false f said = absurd (not_none said)
      by_test k i h at made true f said =
          let oe : op_at t k ≡ Some (operation_of t k h) = make_op t k h at in
          let s = op_shows t k (operation_of t k h) oe in
          record {
            maker = k;
            index = i;
            operation = operation_of t k h;
            liveness = oe;
            result = subst (λ z. slice_get z i ≡ Some v) s.results made;
            folds = subst (λ z. IsTrue (can_fold z)) (some_is (sym at ∙ s.head)) f;
            answers = one_is _ c (ap (λ z. answered_for m constants t z i) (sym oe) ∙ said);
          }

      by_head : (k i : ℕ) → slice_get (results_of t k) i ≡ Some v → (o : Option Head) → head_of t k ≡ o → answered_if (has_passing_head can_fold o) m constants t (op_at t k) i ≡ Some c → IsAnswered m can_fold constants t v c
      by_head k i made None at said = absurd (not_none said)
      by_head k i made (Some h) at said = by_test k i h at made (can_fold h) refl said

      by_maker : (d : Def) → IsMadeBy t v (Some d) → known_of m can_fold constants t (Some d) ≡ Some c → IsAnswered m can_fold constants t v c
      by_maker (Argument block i) made said = absurd (not_none said)
      by_maker (Result k i) made said = by_head k i made (head_of t k) refl said

  -- so each is what every run reads
  pub known_read : AnsweredLaw m can_fold constants → IsTree t → (op : ℕ) → AreReadAs m t op (known_operands m can_fold constants t op)
  known_read law w op root j v c fit listed said =
      let f : ℕ → Option AttrObj = λ x. known_of m can_fold constants t (definition_of t x) in
      let here : f v ≡ Some c = some_is (sym (slice_get-map f (operands_of t op) j ∙ ap (option_map f) listed) ∙ said) in
      law t root v c w fit (known_answered v c (w.joined.operands op v (in_slice (operands_of t op) j v listed)) here)

  pub passed : (k : ℕ) (h : Head) → head_of t k ≡ Some h → IsTrue (can_fold h) → (i : ℕ) → known_of m can_fold constants t (Some (Result k i)) ≡ answered_for m constants t (op_at t k) i
  passed k h at folds i = ap (λ z. answered_if (has_passing_head can_fold z) m constants t (op_at t k) i) at ∙ ap (λ b. answered_if b m constants t (op_at t k) i) folds

  pub not_passed : (k : ℕ) (h : Head) → head_of t k ≡ Some h → can_fold h ≡ false → (i : ℕ) → known_of m can_fold constants t (Some (Result k i)) ≡ None
  not_passed k h at folds i = ap (λ z. answered_if (has_passing_head can_fold z) m constants t (op_at t k) i) at ∙ ap (λ b. answered_if b m constants t (op_at t k) i) folds

-- what the dialect answers for a result where no operand is known
module _ (m : Meaning) (constants : Constants) (t : Tree) (op i : ℕ) (answers known : List (Option AttrObj)) (live : IsLive t op) (none : known ≡ replicate (length (operands_of t op)) None) (reads : ReadsShape m (λ s. constants s known) t op answers) where
  here : (h : Head) × (head_of t op ≡ Some h)
  here = some_of (head_of t op) live

  liveness : op_at t op ≡ Some (operation_of t op here.0)
  liveness = make_op t op here.0 here.1

  said : answers ≡ constants (shape_of m t (operation_of t op here.0)) (replicate (length (operation_of t op here.0).operands) None)
  said =
      reads (operation_of t op here.0) liveness
      ∙ ap (λ z. constants (shape_of m t (operation_of t op here.0)) z) (none ∙ ap (λ l. replicate (length l) None) (op_shows t op (operation_of t op here.0) liveness).operands)

  all_said : answered_for m constants t (op_at t op) i ≡ one_answer (slice_get answers i)
  all_said = ap (λ z. answered_for m constants t z i) liveness ∙ ap (λ l. one_answer (slice_get l i)) (sym said)

  pub answer_at : (a : Option AttrObj) → slice_get answers i ≡ Some a → a ≡ answered_for m constants t (op_at t op) i
  answer_at a e = sym (all_said ∙ ap one_answer e)

  pub answer_past : length answers ≤ i → None ≡ answered_for m constants t (op_at t op) i
  answer_past past = sym (all_said ∙ ap one_answer (slice_get_past answers i past))
