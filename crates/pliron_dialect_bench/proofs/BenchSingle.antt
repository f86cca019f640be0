-- Folding in place comes to one tree and one answer.
use Rattle.std.proofs.Common.{◌≡◌, ℕ, Bool, if◌then◌else◌, List, [], ◌∷◌, Option, Some, None, refl, ap, sym, ◌∙◌, subst}
use Rattle.std.proofs.lemmas.Option.{same_Some}
use Rattle.pliron_core.specs.declared.attrs.AttrObj.{AttrObj}
use Rattle.pliron_core.specs.declared.attrs.IRStatus.{IRStatus}
use Rattle.pliron_core.specs.declared.attrs.IRStatus.TheVariants.{Changed, Unchanged}
use Rattle.pliron_core.specs.Tree.{Tree, head_of}
use Rattle.pliron_dialect_bench.specs.declared.kind.BenchKind.TheVariants.{Const, Br}
use Rattle.pliron_dialect.specs.declared.form.Form.{Form}
use Rattle.pliron_dialect.specs.declared.form.Form.TheVariants.{Constant as ConstantForm}
use Rattle.pliron_dialect.specs.Roles.{Interpretation, Role, Allows, role_at, allows_at, meaning_by, constants_by, constant_head_of, head_of_kind}
use Rattle.pliron_dialect.specs.Outcomes.{form_of_head, fold_of, outcome_by, edge_under, BecomesJump, JumpsWhereKnown, branch_outcome_by}
use Rattle.pliron_laws.specs.Datum.{Head, Meaning}
use Rattle.pliron_laws.specs.Tree.{Operation, shape_of}
use Rattle.pliron_laws.specs.Folding.{Constants}
use Rattle.pliron_laws.specs.Outcomes.{after_materialising, Materialises}
use Rattle.pliron_laws.specs.Outcomes.Materialises.{Finished, Unanswered, Unknown, PassedOver, Put}
use Rattle.pliron_laws.specs.Replacing.{branch_replaced}
use Rattle.pliron_laws.specs.InPlace.{IsSingle, ReportsChange, materialising_outcome}
use Rattle.pliron_dialect_bench.specs.Bench.{number_of_kind, is_ssa, is_number_attribute}
use Rattle.pliron_dialect_bench.specs.BenchMoves.{bench_value, bench_tables}
use Rattle.pliron_dialect_bench.specs.BenchAnswers.{bench_outcome, bench_branch_outcome}
use Rattle.pliron_dialect.specs.Ranges.{same_data}

-- ---- constants

-- the tree with a constant put for each result that is answered by an attribute which is accepted
unfoldable pub put_all : (accepts : AttrObj → Bool) (head : AttrObj → Head) (op : ℕ) → List ℕ → List (Option AttrObj) → Tree → Tree
put_all accepts head op [] answers t = t
put_all accepts head op (v ∷ vs) [] t = t
put_all accepts head op (v ∷ vs) (None ∷ answers) t = put_all accepts head op vs answers t
put_all accepts head op (v ∷ vs) (Some attr ∷ answers) t = if accepts attr then put_all accepts head op vs answers (after_materialising t op v (head attr)) else put_all accepts head op vs answers t

module _ (accepts : AttrObj → Bool) (head : AttrObj → Head) (op : ℕ) where
  put_none : (vs : List ℕ) (t : Tree) → t ≡ put_all accepts head op vs [] t
  unfolding put_all
  put_none [] t = refl
  put_none (v ∷ vs) t = refl

  pub put_is : (vs : List ℕ) (answers : List (Option AttrObj)) (t u : Tree) → Materialises accepts head op vs answers t u → u ≡ put_all accepts head op vs answers t
  unfolding put_all
  put_is vs answers t u Finished = refl
  put_is vs answers t u Unanswered = put_none _ _
  put_is vs answers t u (Unknown m) = put_is _ _ _ _ m
  put_is vs answers t u (PassedOver {v = v} {vs = ws} {attr = attr} {answers = more} {t = now} over m) =
      put_is _ _ _ _ m ∙ sym (ap (λ b. if b then put_all accepts head op ws more (after_materialising now op v (head attr)) else put_all accepts head op ws more now) over)
  put_is vs answers t u (Put {v = v} {vs = ws} {attr = attr} {answers = more} {t = now} accepted m) =
      put_is _ _ _ _ m ∙ sym (ap (λ b. if b then put_all accepts head op ws more (after_materialising now op v (head attr)) else put_all accepts head op ws more now) accepted)

-- the answer tells of the tree
one_answer : (a b : IRStatus) (t u : Tree) → ReportsChange (Some a) t u → ReportsChange (Some b) t u → a ≡ b
one_answer Changed Changed t u x y = refl
one_answer Changed Unchanged t u x y = absurd (x y)
one_answer Unchanged Changed t u x y = absurd (y x)
one_answer Unchanged Unchanged t u x y = refl

put_single : (m : Meaning) (constants : Constants) (accepts : AttrObj → Bool) (head : AttrObj → Head) → IsSingle (materialising_outcome m constants accepts head)
put_single m constants accepts head t u u' op known o a b at x y =
    let all = constants (shape_of m t o) known in
    let same : u ≡ u' = put_is accepts head op o.results all t u (x.0 o at) ∙ sym (put_is accepts head op o.results all t u' (y.0 o at)) in
    (same, one_answer a b t u x.1 (subst (ReportsChange (Some b) t) (sym same) y.1))

fold_single : (value : Interpretation) (roles : ℕ → Option Role) (allows : Allows) (accepts : AttrObj → Bool) (n : ℕ) (ssa : Bool) (f : Option Form) → IsSingle (fold_of value roles allows accepts n ssa f)
fold_single value roles allows accepts n ssa (Some ConstantForm) t u u' op known o a b at x y = (x.0 ∙ sym y.0, same_Some a b (x.1 ∙ sym y.1))
fold_single value roles allows accepts n ssa _ t u u' op known o a b at x y = put_single (meaning_by value roles allows) (constants_by roles) accepts (constant_head_of n ssa) t u u' op known o a b at x y

outcome_single : (value : Interpretation) (roles : ℕ → Option Role) (allows : Allows) (accepts : AttrObj → Bool) (n : ℕ) (ssa : Bool) → IsSingle (outcome_by value roles allows accepts n ssa)
unfolding outcome_by
outcome_single value roles allows accepts n ssa t u u' op known o a b at x y = fold_single value roles allows accepts n ssa (form_of_head roles (head_of t op)) t u u' op known o a b at x y

pub constants_single : IsSingle bench_outcome
constants_single = outcome_single bench_value (role_at bench_tables) (allows_at bench_tables) is_number_attribute (number_of_kind Const) (is_ssa Const)

-- ---- branches

module _ (value : Interpretation) (roles : ℕ → Option Role) (allows : Allows) (n : ℕ) (ssa : Bool) where
  jump_single : (t u u' : Tree) (op : ℕ) (o : Operation) (edge : ℕ) → BecomesJump value roles allows n ssa t u op o edge → BecomesJump value roles allows n ssa t u' op o edge → u ≡ u'
  jump_single t u u' op o edge x y =
      let block : x.block ≡ y.block = same_Some x.block y.block (sym x.target ∙ y.target) in
      let values : x.values ≡ y.values = same_data x.values y.values (x.forwarded ∙ sym y.forwarded) in
      x.tree ∙ ap (λ z. branch_replaced t op (head_of_kind n ssa) z (x.block ∷ [])) values ∙ ap (λ z. branch_replaced t op (head_of_kind n ssa) y.values (z ∷ [])) block ∙ sym y.tree

  edge_single : (edge : Option ℕ) (t u u' : Tree) (op : ℕ) (o : Operation) (a b : IRStatus) → JumpsWhereKnown value roles allows n ssa edge t u op o (Some a) → JumpsWhereKnown value roles allows n ssa edge t u' op o (Some b) → (u ≡ u') × (a ≡ b)
  edge_single None t u u' op o a b x y = (x.0 ∙ sym y.0, x.1 ∙ sym y.1)
  edge_single (Some edge) t u u' op o a b x y = (jump_single t u u' op o edge x.0 y.0, x.1 ∙ sym y.1)

  branch_single : IsSingle (branch_outcome_by value roles allows n ssa)
  unfolding branch_outcome_by
  branch_single t u u' op known o a b at x y =
      let same : y.0 ≡ x.0 = same_Some y.0 x.0 (sym y.1 ∙ x.1) in
      edge_single (edge_under roles allows (shape_of (meaning_by value roles allows) t x.0) known) t u u' op x.0 a b x.2 (subst (λ z. JumpsWhereKnown value roles allows n ssa (edge_under roles allows (shape_of (meaning_by value roles allows) t z) known) t u' op z (Some b)) same y.2)

pub branches_single : IsSingle bench_branch_outcome
branches_single = branch_single bench_value (role_at bench_tables) (allows_at bench_tables) (number_of_kind Br) (is_ssa Br)
