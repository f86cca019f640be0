-- What is known of operands, and the answers by it.
use Rattle.std.proofs.lemmas.Bool.{eq-eqb}
use Rattle.std.proofs.Common.{◌≡◌, ◌≢◌, ◌&&◌, ◌<◌, ◌≤◌, ◌+◌, ℕ, Bool, true, false, nat_eq, List, [], ◌∷◌, ◌++◌, length, map, take, Option, Some, None, IsTrue, slice_get, if◌then◌else◌, add-one, refl, sym, ap, ◌∙◌, subst, arith}
use Rattle.pliron_core.specs.declared.attrs.AttrObj.{AttrObj}
use Rattle.pliron_core.specs.Tree.{Tree, IsLive, definition_of, head_of, operands_of, regions_of, results_of}
use Rattle.pliron_laws.specs.Tree.{Operation, op_at, shape_of}
use Rattle.pliron_laws.specs.Answers.{HeadPasses, ReadsHead, ReadsShape, answer_in, is_harmless}
use Rattle.pliron_laws.specs.Datum.{Head, Meaning}
use Rattle.pliron_laws.specs.Folding.{Constants}
use Rattle.pliron_laws.proofs.Records.{operation_of, make_op, op_shows}
use Rattle.pliron_core.proofs.ArgumentLemmas.{take_more}
use Rattle.pliron_core.proofs.HoldingLemmas.{some_is, some_of}
use Rattle.pliron_laws.specs.declared.operand_folds.OpFoldResult.{OpFoldResult}
use Rattle.pliron_laws.specs.declared.operand_folds.OpFoldResult.TheVariants.{Constant}
use Rattle.pliron_laws.specs.OperandFolding.{OperandFolds, ReadsOperands}
use Rattle.pliron_core.proofs.UsedLemmas.{length_map}
use Rattle.std.specs.Option.{option_map}
use Rattle.pliron_rewrite_operands.specs.Answers.{Folding, is_constant_like, constant_made, known_by, known_of_operands, operand_answers, constant_answers}

-- the test by what is read of the operation
pub like_told : (x : Folding) (t : Tree) (op : ℕ) (o : Operation) → op_at t op ≡ Some o → is_constant_like x o ≡ (nat_eq (length (operands_of t op)) 0 && (nat_eq (length (regions_of t op)) 0 && (nat_eq (length (results_of t op)) 1 && (x.can_fold o.head && is_harmless (x.side_effects o.head)))))
like_told x t op o e =
    let s = op_shows t op o e in
    let h : Bool = x.can_fold o.head && is_harmless (x.side_effects o.head) in
    ap (λ z. nat_eq (length z) 0 && (nat_eq (length o.regions) 0 && (nat_eq (length o.results) 1 && (x.can_fold o.head && is_harmless (x.side_effects o.head))))) (sym s.operands)
    ∙ ap (λ z. nat_eq (length (operands_of t op)) 0 && (nat_eq (length z) 0 && (nat_eq (length o.results) 1 && (x.can_fold o.head && is_harmless (x.side_effects o.head))))) (sym s.regions)
    ∙ ap (λ z. nat_eq (length (operands_of t op)) 0 && (nat_eq (length (regions_of t op)) 0 && (nat_eq (length z) 1 && (x.can_fold o.head && is_harmless (x.side_effects o.head))))) (sym s.results)

pub first_false : (a b : Bool) → a ≡ false → (a && b) ≡ false
first_false true b e = absurd (grind (arith, e))
first_false false b e = refl

pub first_true : (a b : Bool) → a ≡ true → (a && b) ≡ b
first_true true b e = refl
first_true false b e = absurd (grind (arith, e))

pub is_not : (a b : ℕ) → a ≢ b → nat_eq a b ≡ false
is_not a b ne = go (nat_eq a b) refl
  where
    go : (x : Bool) → nat_eq a b ≡ x → nat_eq a b ≡ false
    go false e = e
    go true e = absurd (ne (grind (arith, e)))

and_first : (a b : Bool) → IsTrue (a && b) → IsTrue a
and_first true b e = refl
and_first false b e = absurd (grind (arith, e))

and_second : (a b : Bool) → IsTrue (a && b) → IsTrue b
and_second true b e = e
and_second false b e = absurd (grind (arith, e))

is_zero : (n : ℕ) → IsTrue (nat_eq n 0) → n ≡ 0
is_zero n e = grind (arith, e)

none_there : (xs : List ℕ) → length xs ≡ 0 → xs ≡ []
none_there [] e = refl
none_there (x ∷ xs) e = grind arith

second_false : (a b : Bool) → b ≡ false → (a && b) ≡ false
second_false true b e = e
second_false false b e = refl

module _ (x : Folding) (t : Tree) (op : ℕ) (o : Operation) (at : op_at t op ≡ Some o) where
  abbrev folded : Bool
  folded = x.can_fold o.head && is_harmless (x.side_effects o.head)

  abbrev counted : Bool
  counted = nat_eq (length (results_of t op)) 1 && (x.can_fold o.head && is_harmless (x.side_effects o.head))

  pub operands_unlike : length (operands_of t op) ≢ 0 → false ≡ is_constant_like x o
  operands_unlike ne = sym (like_told x t op o at ∙ first_false (nat_eq (length (operands_of t op)) 0) (nat_eq (length (regions_of t op)) 0 && counted) (is_not (length (operands_of t op)) 0 ne))

  pub regions_unlike : length (regions_of t op) ≢ 0 → false ≡ is_constant_like x o
  regions_unlike ne = sym (like_told x t op o at ∙ second_false (nat_eq (length (operands_of t op)) 0) (nat_eq (length (regions_of t op)) 0 && counted) (first_false (nat_eq (length (regions_of t op)) 0) counted (is_not (length (regions_of t op)) 0 ne)))

  pub results_unlike : length (results_of t op) ≢ 1 → false ≡ is_constant_like x o
  results_unlike ne =
      sym (like_told x t op o at ∙ second_false (nat_eq (length (operands_of t op)) 0) (nat_eq (length (regions_of t op)) 0 && counted) (second_false (nat_eq (length (regions_of t op)) 0) counted (first_false (nat_eq (length (results_of t op)) 1) folded (is_not (length (results_of t op)) 1 ne))))

  module _ (none : length (operands_of t op) ≡ 0) (flat : length (regions_of t op) ≡ 0) (one : length (results_of t op) ≡ 1) where
    counts : is_constant_like x o ≡ folded
    counts =
        like_told x t op o at
        ∙ first_true (nat_eq (length (operands_of t op)) 0) (nat_eq (length (regions_of t op)) 0 && counted) (eq-eqb (length (operands_of t op)) 0 none)
        ∙ first_true (nat_eq (length (regions_of t op)) 0) counted (eq-eqb (length (regions_of t op)) 0 flat)
        ∙ first_true (nat_eq (length (results_of t op)) 1) folded (eq-eqb (length (results_of t op)) 1 one)

    pub folds_unlike : x.can_fold o.head ≡ false → false ≡ is_constant_like x o
    folds_unlike e = sym (counts ∙ first_false (x.can_fold o.head) (is_harmless (x.side_effects o.head)) e)

    pub folds_alike : x.can_fold o.head ≡ true → is_harmless (x.side_effects o.head) ≡ is_constant_like x o
    folds_alike e = sym (counts ∙ first_true (x.can_fold o.head) (is_harmless (x.side_effects o.head)) e)

-- the tables of a dialect
abbrev pub folding : Meaning → (Head → Option Bool) → (Head → Bool) → Constants → (AttrObj → Bool) → (AttrObj → Head) → OperandFolds → Folding
folding m side_effects can_fold constants accepts constant_head operand_folds = record { meaning = m; side_effects = side_effects; can_fold = can_fold; constants = constants; accepts = accepts; constant_head = constant_head; operand_folds = operand_folds }

-- one more of what a function makes of a list
map_last : {A B : Type 0} (f : A → B) (xs : List A) (x : A) → map f (xs ++ x ∷ []) ≡ map f xs ++ f x ∷ []
map_last f [] x = refl
map_last f (y ∷ ys) x = ap (λ z. f y ∷ z) (map_last f ys x)

pub mapped_more : {A : Type 0} (f : ℕ → A) (xs : List ℕ) (i x : ℕ) (before after : List A) (a : A) → slice_get xs i ≡ Some x → before ≡ map f (take i xs) → a ≡ f x → after ≡ before ++ a ∷ [] → after ≡ map f (take (i + 1) xs)
mapped_more f xs i x before after a at so_far is grown =
    grown ∙ ap (λ z. z ++ a ∷ []) so_far ∙ ap (λ z. map f (take i xs) ++ z ∷ []) is ∙ sym (map_last f (take i xs) x) ∙ ap (map f) (sym (take_more xs i x at)) ∙ ap (λ n. map f (take n xs)) (sym (add-one i))

module _ (x : Folding) (t : Tree) (op : ℕ) where
  live_shown : IsLive t op → (o : Operation) × (op_at t op ≡ Some o)
  live_shown l = let h = some_of (head_of t op) l in (operation_of t op h.0, make_op t op h.0 h.1)

  -- the constant of an operation that is not constant-like
  pub made_none : IsLive t op → (like : Bool) → ((o : Operation) → op_at t op ≡ Some o → like ≡ is_constant_like x o) → like ≡ false → None ≡ constant_made x t (op_at t op)
  made_none l like reported unlike =
      let o = live_shown l in
      sym (ap (constant_made x t) o.1 ∙ ap (λ b. if b then answer_in (slice_get (x.constants (shape_of x.meaning t o.0) []) 0) else None) (sym (reported o.0 o.1) ∙ unlike))

  -- and of one that is
  module _ (l : IsLive t op) (like : Bool) (reported : (o : Operation) → op_at t op ≡ Some o → like ≡ is_constant_like x o) (yes : like ≡ true) where
    tests : (o : Operation) → op_at t op ≡ Some o → IsTrue (is_constant_like x o)
    tests o e = sym (reported o e) ∙ yes

    pub like_folds : HeadPasses x.can_fold t op
    like_folds h at =
        let o = live_shown l in
        let s = op_shows t op o.0 o.1 in
        let t1 = and_second (nat_eq (length o.0.operands) 0) _ (tests o.0 o.1) in
        let t2 = and_second (nat_eq (length o.0.regions) 0) _ t1 in
        let t3 = and_second (nat_eq (length o.0.results) 1) _ t2 in
        subst (λ z. IsTrue (x.can_fold z)) (some_is (sym s.head ∙ at)) (and_first (x.can_fold o.0.head) _ t3)

    pub like_empty : operands_of t op ≡ []
    like_empty =
        let o = live_shown l in
        let s = op_shows t op o.0 o.1 in
        none_there (operands_of t op) (ap length s.operands ∙ is_zero (length o.0.operands) (and_first (nat_eq (length o.0.operands) 0) _ (tests o.0 o.1)))

    pub made_first : (answers : List (Option AttrObj)) (known : List (Option AttrObj)) → known ≡ [] → ReadsShape x.meaning (λ s. x.constants s known) t op answers → answer_in (slice_get answers 0) ≡ constant_made x t (op_at t op)
    made_first answers known none reads =
        let o = live_shown l in
        ap (λ z. answer_in (slice_get z 0)) (reads o.0 o.1 ∙ ap (x.constants (shape_of x.meaning t o.0)) none)
        ∙ sym (ap (constant_made x t) o.1 ∙ ap (λ b. if b then answer_in (slice_get (x.constants (shape_of x.meaning t o.0) []) 0) else None) (tests o.0 o.1))

pub first_of_answers : (answers : List (Option AttrObj)) (a : Option AttrObj) → slice_get answers 0 ≡ Some a → answer_in (slice_get answers 0) ≡ a
first_of_answers answers a e = ap answer_in e

pub none_of_answers : (answers : List (Option AttrObj)) → length answers ≡ 0 → answer_in (slice_get answers 0) ≡ None
none_of_answers [] e = refl
none_of_answers (a ∷ answers) e = grind arith

-- answers by what is known of the operands
pub operands_answered : (x : Folding) (t : Tree) (op : ℕ) (known : List (Option AttrObj)) (answers : List (Option OpFoldResult)) → known ≡ known_of_operands x t (operands_of t op) → ReadsOperands x.meaning x.operand_folds known t op answers → (o : Operation) → op_at t op ≡ Some o → answers ≡ operand_answers x t o
operands_answered x t op known answers is reads o e =
    let s = op_shows t op o e in
    reads o e ∙ ap (λ z. x.operand_folds (shape_of x.meaning t o) z o.operands) (is ∙ ap (known_of_operands x t) s.operands)

pub constants_answered : (x : Folding) (t : Tree) (op : ℕ) (known constants : List (Option AttrObj)) (answers : List (Option OpFoldResult)) → known ≡ known_of_operands x t (operands_of t op) → ReadsShape x.meaning (λ s. x.constants s known) t op constants → answers ≡ map (λ c. option_map Constant c) constants → (folds : Bool) → ReadsHead x.can_fold t op folds → IsTrue folds → (o : Operation) → op_at t op ≡ Some o → answers ≡ constant_answers x t o
constants_answered x t op known constants answers is reads mapped folds reported passed o e =
    let s = op_shows t op o e in
    mapped ∙ ap (map (λ c. option_map Constant c)) (reads o e ∙ ap (x.constants (shape_of x.meaning t o)) (is ∙ ap (known_of_operands x t) s.operands))
    ∙ sym (ap (λ b. if b then map (λ c. option_map Constant c) (x.constants (shape_of x.meaning t o) (known_of_operands x t o.operands)) else []) (sym (reported o.head s.head) ∙ passed))

pub none_answered : (x : Folding) (t : Tree) (op : ℕ) (answers : List (Option OpFoldResult)) → answers ≡ [] → (folds : Bool) → ReadsHead x.can_fold t op folds → folds ≡ false → (o : Operation) → op_at t op ≡ Some o → answers ≡ constant_answers x t o
none_answered x t op answers none folds reported unfolded o e =
    let s = op_shows t op o e in
    none ∙ sym (ap (λ b. if b then map (λ c. option_map Constant c) (x.constants (shape_of x.meaning t o) (known_of_operands x t o.operands)) else []) (sym (reported o.head s.head) ∙ unfolded))

pub passes_head : (x : Folding) (t : Tree) (op : ℕ) (folds : Bool) → ReadsHead x.can_fold t op folds → IsTrue folds → HeadPasses x.can_fold t op
passes_head x t op folds reported passed h at = sym (reported h at) ∙ passed

pub known_long : (x : Folding) (t : Tree) (op : ℕ) (known : List (Option AttrObj)) → known ≡ known_of_operands x t (operands_of t op) → length known ≡ length (operands_of t op)
known_long x t op known is = ap length is ∙ length_map (λ v. known_by x t (definition_of t v)) (operands_of t op)
