-- What the functions of a dialect of roles read of an operation.
use Rattle.std.proofs.Common.{◌≡◌, ℕ, Bool, true, false, IsSome, List, [], length, Option, Some, None, refl, ap, ap₂, sym, ◌∙◌, arith}
use Rattle.std.specs.Option.{option_map}
use Rattle.std.specs.Prelude.{ℤ}
use Rattle.std.proofs.lemmas.Option.{same_Some}
use Rattle.pliron_core.specs.declared.attrs.AttrObj.{AttrObj}
use Rattle.pliron_core.specs.declared.attrs.IRStatus.{IRStatus}
use Rattle.pliron_core.specs.declared.attrs.IRStatus.TheVariants.{Unchanged}
use Rattle.pliron_core.specs.Tree.{Tree, IsLive, head_of, operands_of}
use Rattle.pliron_laws.specs.Datum.{Head}
use Rattle.pliron_laws.specs.Tree.{Operation, op_at, shape_of}
use Rattle.pliron_laws.specs.InPlace.{materialising_outcome}
use Rattle.pliron_laws.specs.Answers.{ReadsHead, ReadsShape}
use Rattle.pliron_laws.proofs.ShapeLemmas.{head_at, operands_at}
use Rattle.pliron_laws.specs.declared.operand_folds.OpFoldResult.{OpFoldResult}
use Rattle.pliron_laws.specs.OperandFolding.{ReadsOperands}
use Rattle.pliron_dialect.specs.OperandFolds.{place_picked, answer_at, fold_by_form, answers_at, operands_by, operand_folds_by}
use Rattle.pliron_dialect.specs.declared.form.Form.{Form}
use Rattle.pliron_dialect.specs.declared.form.Form.TheVariants.{Constant}
use Rattle.pliron_dialect.specs.Roles.{Interpretation, Allows, allows_at, constant_head_of, Role, Tables, by_role, role_at, form_at, form_of, meaning_by, answers_by, form_answers, role_answer, answers_by_form, constants_by, is_constant, identity_in, truth_in, truth_of, known_number_at, entry_operands_by, no_operand, named_by}
use Rattle.pliron_dialect.specs.Outcomes.{form_of_head, fold_of, outcome_by}

same_head : (t : Tree) (op : ℕ) (h : Head) (o : Operation) → head_of t op ≡ Some h → op_at t op ≡ Some o → h ≡ o.head
same_head t op h o e at = same_Some h o.head (sym e ∙ head_at t op o at)

-- ---- constants

pub answers_read : {K : Type 0} (tables : Tables K) (t : Tree) (op : ℕ) (h : Head) (k : K) (f : Form) (known items : List (Option AttrObj)) → head_of t op ≡ Some h → Some k ≡ tables.kind_of h.kind → f ≡ form_of (tables.role_of k) → items ≡ form_answers f (role_answer (tables.role_of k) h known) → ReadsShape (meaning_by tables.value (role_at tables) (allows_at tables)) (λ s. constants_by (role_at tables) s known) t op items
unfolding constants_by shape_of
answers_read tables t op h k f known items e g form i = λ o at.
    i ∙ ap (λ z. form_answers z (role_answer (tables.role_of k) h known)) form
    ∙ answers_by_form (tables.role_of k) h known
    ∙ ap (λ z. by_role [] (answers_by h known) (option_map tables.role_of z)) g
    ∙ ap (λ z. by_role [] (answers_by z known) (role_at tables z.kind)) (same_head t op h o e at)

pub no_answers_read : {K : Type 0} (tables : Tables K) (t : Tree) (op : ℕ) (known items : List (Option AttrObj)) → ReadsHead (λ h. tables.kind_of h.kind) t op None → items ≡ [] → ReadsShape (meaning_by tables.value (role_at tables) (allows_at tables)) (λ s. constants_by (role_at tables) s known) t op items
unfolding constants_by shape_of
no_answers_read tables t op known items r e = λ o at. e ∙ ap (λ z. by_role [] (answers_by o.head known) (option_map tables.role_of z)) (r o.head (head_at t op o at))

-- ---- results that are operands or numbers

pub operands_read : {K : Type 0} (tables : Tables K) (t : Tree) (op : ℕ) (h : Head) (k : K) (f : Form) (folded picked : Option OpFoldResult) (known : List (Option AttrObj)) (items : List (Option OpFoldResult)) → head_of t op ≡ Some h → Some k ≡ tables.kind_of h.kind → f ≡ form_of (tables.role_of k) → folded ≡ fold_by_form f (identity_in (tables.role_of k) h) known (operands_of t op) → picked ≡ answer_at (place_picked (truth_of (truth_in (tables.role_of k)) (known_number_at known 0))) None → items ≡ answers_at f folded picked → ReadsOperands (meaning_by tables.value (role_at tables) (allows_at tables)) (operand_folds_by (role_at tables)) known t op items
unfolding operand_folds_by shape_of
operands_read tables t op h k f folded picked known items e g form l p i = λ o at.
    i ∙ ap₂ (answers_at f) l p
    ∙ ap (λ z. answers_at z (fold_by_form z (identity_in (tables.role_of k) h) known (operands_of t op)) (answer_at (place_picked (truth_of (truth_in (tables.role_of k)) (known_number_at known 0))) None)) form
    ∙ ap (λ z. operands_by h known z (tables.role_of k)) (sym (operands_at t op o at))
    ∙ ap (λ z. by_role [] (operands_by h known o.operands) (option_map tables.role_of z)) g
    ∙ ap (λ z. by_role [] (operands_by z known o.operands) (role_at tables z.kind)) (same_head t op h o e at)

pub no_operands_read : {K : Type 0} (tables : Tables K) (t : Tree) (op : ℕ) (known : List (Option AttrObj)) (items : List (Option OpFoldResult)) → ReadsHead (λ h. tables.kind_of h.kind) t op None → items ≡ [] → ReadsOperands (meaning_by tables.value (role_at tables) (allows_at tables)) (operand_folds_by (role_at tables)) known t op items
unfolding operand_folds_by shape_of
no_operands_read tables t op known items r e = λ o at. e ∙ ap (λ z. by_role [] (operands_by o.head known o.operands) (option_map tables.role_of z)) (r o.head (head_at t op o at))

-- ---- folding in place

form_stays : (value : Interpretation) (roles : ℕ → Option Role) (allows : Allows) (accepts : AttrObj → Bool) (n : ℕ) (ssa : Bool) (k : Option Form) (t : Tree) (op : ℕ) (known : List (Option AttrObj)) → is_constant k ≡ true → fold_of value roles allows accepts n ssa k t t op known (Some Unchanged)
form_stays value roles allows accepts n ssa (Some Constant) t op known e = (refl, refl)
form_stays value roles allows accepts n ssa _ t op known e = grind arith

form_folds : (value : Interpretation) (roles : ℕ → Option Role) (allows : Allows) (accepts : AttrObj → Bool) (n : ℕ) (ssa : Bool) (k : Option Form) (t u : Tree) (op : ℕ) (known : List (Option AttrObj)) (answer : Option IRStatus) → is_constant k ≡ false → materialising_outcome (meaning_by value roles allows) (constants_by roles) accepts (constant_head_of n ssa) t u op known answer → fold_of value roles allows accepts n ssa k t u op known answer
form_folds value roles allows accepts n ssa (Some Constant) t u op known answer e m = grind arith
form_folds value roles allows accepts n ssa _ t u op known answer e m = m

head_form : (roles : ℕ → Option Role) (t : Tree) (op : ℕ) (b : Bool) (o : Option Head) → IsSome o → head_of t op ≡ o → ReadsHead (λ h. is_constant (form_at roles h.kind)) t op b → b ≡ is_constant (form_of_head roles (head_of t op))
head_form roles t op b None s e r = grind arith
head_form roles t op b (Some h) s e r = r h e ∙ ap (λ o. is_constant (form_of_head roles o)) (sym e)

pub constant_stays : (value : Interpretation) (roles : ℕ → Option Role) (allows : Allows) (accepts : AttrObj → Bool) (n : ℕ) (ssa : Bool) (t : Tree) (op : ℕ) (known : List (Option AttrObj)) (b : Bool) → IsLive t op → ReadsHead (λ h. is_constant (form_at roles h.kind)) t op b → b ≡ true → outcome_by value roles allows accepts n ssa t t op known (Some Unchanged)
unfolding outcome_by
constant_stays value roles allows accepts n ssa t op known b live r e = form_stays value roles allows accepts n ssa (form_of_head roles (head_of t op)) t op known (sym (head_form roles t op b (head_of t op) live refl r) ∙ e)

pub others_fold : (value : Interpretation) (roles : ℕ → Option Role) (allows : Allows) (accepts : AttrObj → Bool) (n : ℕ) (ssa : Bool) (t u : Tree) (op : ℕ) (known : List (Option AttrObj)) (b : Bool) (answer : Option IRStatus) → IsLive t op → ReadsHead (λ h. is_constant (form_at roles h.kind)) t op b → b ≡ false → materialising_outcome (meaning_by value roles allows) (constants_by roles) accepts (constant_head_of n ssa) t u op known answer → outcome_by value roles allows accepts n ssa t u op known answer
unfolding outcome_by
others_fold value roles allows accepts n ssa t u op known b answer live r e m = form_folds value roles allows accepts n ssa (form_of_head roles (head_of t op)) t u op known answer (sym (head_form roles t op b (head_of t op) live refl r) ∙ e) m

-- ---- operands of visits

pub entry_read : {K : Type 0} (tables : Tables K) (t : Tree) (op i j : ℕ) (k : K) (answer : Option ℕ) → ReadsHead (λ h. tables.kind_of h.kind) t op (Some k) → answer ≡ named_by (tables.role_of k) (length (operands_of t op)) i j → ReadsShape (meaning_by tables.value (role_at tables) (allows_at tables)) (λ s. entry_operands_by (role_at tables) s i j) t op answer
unfolding entry_operands_by shape_of
entry_read tables t op i j k answer r e = λ o at.
    e ∙ ap (λ z. by_role no_operand named_by (option_map tables.role_of z) (length (operands_of t op)) i j) (r o.head (head_at t op o at))
    ∙ ap (λ z. by_role no_operand named_by (role_at tables o.head.kind) (length z) i j) (sym (operands_at t op o at))

pub no_entry_read : {K : Type 0} (tables : Tables K) (t : Tree) (op i j : ℕ) → ReadsHead (λ h. tables.kind_of h.kind) t op None → ReadsShape (meaning_by tables.value (role_at tables) (allows_at tables)) (λ s. entry_operands_by (role_at tables) s i j) t op None
unfolding entry_operands_by shape_of
no_entry_read tables t op i j r = λ o at. ap (λ z. by_role no_operand named_by (option_map tables.role_of z) (length o.operands) i j) (r o.head (head_at t op o at))
