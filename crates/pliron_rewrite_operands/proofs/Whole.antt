-- Putting an answer in the place of a result is what a pass may do, whatever heads may be those of roots.
use Rattle.std.proofs.Common.{◌≡◌, ◌<◌, ℕ, Bool, List, length, Option, Some, None, IsSome, IsTrue, inr, slice_get, get_or, refl, sym, ap, ◌∙◌, subst, arith}
use Rattle.std.proofs.lemmas.Option.{slice_get-get_or}
use Rattle.pliron_core.specs.declared.attrs.AttrObj.{AttrObj}
use Rattle.pliron_core.specs.declared.context.Def.TheVariants.{Result}
use Rattle.pliron_core.specs.Changes.{IsDefiningOperationInside, IsInsideChange}
use Rattle.pliron_core.specs.Invariant.{IsTree}
use Rattle.pliron_core.specs.Lists.{put_before}
use Rattle.pliron_core.specs.Writes.{after_replacing}
use Rattle.pliron_core.specs.Tree.{Tree, IsInside, IsLive, HoldsBlock, body_of, operands_of, parent_of, results_of, definition_of}
use Rattle.pliron_core.proofs.HoldingLemmas.{block_inside, holder_is, inside_up, past_live}
use Rattle.pliron_core.proofs.WriteInsideLemmas.{replaced_inside}
use Rattle.pliron_laws.specs.Datum.{Head, Meaning}
use Rattle.pliron_laws.specs.Linked.{IsAdmitted, IsWellLinked}
use Rattle.pliron_laws.specs.Outcomes.{after_materialising}
use Rattle.pliron_laws.specs.Tree.{Operation, op_at, shape_of}
use Rattle.pliron_laws.proofs.FoldLemmas.{put_row}
use Rattle.pliron_laws.proofs.LinkedLemmas.{linked_put, put_is, tree_put, tree_put₁}
use Rattle.pliron_rewrite_blocks.proofs.RewriteLinks.{replaced_links}
use Rattle.pliron_theory.specs.Change.{IsWholeChange}
use Rattle.pliron_theory.specs.Keeps.{KeepsAllRuns, KeepsRuns, with_roots}
use Rattle.pliron_theory.specs.Rewrites.{IsConstant}
use Rattle.pliron_theory.proofs.MaterialisedKeeps.{result_keeps}
use Rattle.pliron_theory.proofs.PutInside.{result_inside}
use Rattle.pliron_laws.specs.declared.operand_folds.OpFoldResult.{OpFoldResult}
use Rattle.pliron_laws.specs.declared.operand_folds.OpFoldResult.TheVariants.{Operand, Constant}
use Rattle.pliron_rewrite_operands.specs.Answers.{Folding, IsAnsweredFold}
use Rattle.pliron_rewrite_operands.specs.Answered.{HasAnswer, IsMade, NamesOperand, after_folding}
use Rattle.pliron_rewrite_operands.specs.AnswerLaws.{AnswerLaws}
use Rattle.pliron_rewrite_operands.proofs.Answered.{AreLawful, shape_admitted, operand_is, operand_keeps, constant_read}

-- the same dialect, where these heads may be those of roots
abbrev pub with_chosen : Folding → (Head → Bool) → Folding
with_chosen x chosen = record x { meaning = with_roots x.meaning chosen }

module _ (x : Folding) (chosen : Head → Bool) where
  lawful_chosen : AreLawful x → AreLawful (with_chosen x chosen)
  lawful_chosen laws = record {
    at_once = laws.at_once;
    truly = record { counts = laws.truly.counts; gives = laws.truly.gives };
    operands = λ s a known operands long also i answer said.
        let r = laws.operands s a known operands long also i answer said in
        record { result = r.result; within = r.within; no_successors = r.no_successors; gives = r.gives };
    makes = λ c accepted.
        let r = laws.makes c accepted in
        record { admitted = r.admitted; no_terminator = r.no_terminator; gives = r.gives };
    plain = laws.plain;
  }

  answered_chosen : (t : Tree) (o : Operation) (i : ℕ) (answer : OpFoldResult) → IsAnsweredFold x t o i answer → IsAnsweredFold (with_chosen x chosen) t o i answer
  unfolding shape_of
  answered_chosen t o i answer answered = answered

module _ (x : Folding) (laws : AreLawful x) (t : Tree) (w : IsTree t) (k i : ℕ) where
  pub answer_within : (answer : OpFoldResult) → HasAnswer x t k i answer → IsAdmitted x.meaning t k → NamesOperand t k answer
  answer_within (Operand p) has admitted = operand_is x laws t w k i has.value has.may.successors has.listed has.operation has.liveness (Operand p) has.answered p refl (shape_admitted x.meaning t k has.operation has.liveness admitted)
  answer_within (Constant c) has admitted = tt

  -- an operand has the uses
  pub operand_keeps_all : (p : ℕ) (has : HasAnswer x t k i (Operand p)) → p < length (operands_of t k) → KeepsAllRuns x.meaning t (after_replacing t has.value (get_or (operands_of t k) p 0))
  operand_keeps_all p has lt chosen =
      operand_keeps (with_chosen x chosen) (lawful_chosen x chosen laws) t w k i has.value has.may.successors has.listed has.operation has.liveness (Operand p) (answered_chosen x chosen t has.operation i (Operand p) has.answered) p (get_or (operands_of t k) p 0) refl (slice_get-get_or (operands_of t k) p 0 lt)

  -- each run reads the constant
  pub constant_read_all : (c : AttrObj) (has : HasAnswer x t k i (Constant c)) (chosen : Head → Bool) → IsConstant (with_roots x.meaning chosen) t has.value c
  constant_read_all c has chosen =
      constant_read (with_chosen x chosen) (lawful_chosen x chosen laws) t w k i has.value has.may.successors has.listed has.operation has.liveness (Constant c) (answered_chosen x chosen t has.operation i (Constant c) has.answered) c refl

  pub constant_read_here : (c : AttrObj) (has : HasAnswer x t k i (Constant c)) → IsConstant x.meaning t has.value c
  constant_read_here c has = constant_read x laws t w k i has.value has.may.successors has.listed has.operation has.liveness (Constant c) has.answered c refl

  -- a constant that is put before the operation has them
  module _ (c : AttrObj) (has : HasAnswer x t k i (Constant c)) (accepted : IsTrue (x.accepts c)) (block : ℕ) (here : parent_of t k ≡ Some block) where
    pub constant_tree : IsTree (after_materialising t k has.value (x.constant_head c))
    constant_tree = subst IsTree (sym (put_is t k has.value block (x.constant_head c) w here)) (tree_put t k has.value block (x.constant_head c) w here)

    pub constant_keeps_all : KeepsAllRuns x.meaning t (after_materialising t k has.value (x.constant_head c))
    constant_keeps_all chosen =
        let m = with_roots x.meaning chosen in
        let l = lawful_chosen x chosen laws in
        subst (KeepsRuns m t) (sym (put_is t k has.value block (x.constant_head c) w here))
        (result_keeps m t (x.constant_head c) c w (l.makes c accepted) (laws.plain c accepted) k block has.value i here (w.joined.results k i has.value has.listed) (constant_read_all c has chosen) (tree_put₁ t k has.value block (x.constant_head c) w here) (tree_put t k has.value block (x.constant_head c) w here))

    pub constant_links : (root : ℕ) → IsWellLinked x.meaning t root → IsWellLinked x.meaning (after_materialising t k has.value (x.constant_head c)) root
    constant_links root linked = subst (λ z. IsWellLinked x.meaning z root) (sym (put_is t k has.value block (x.constant_head c) w here)) (linked_put t k has.value block (x.constant_head c) w here x.meaning c root (laws.makes c accepted) linked)

  -- and that is what a pass may do
  pub answer_changes : (root : ℕ) (answer : OpFoldResult) → IsLive t root → IsWellLinked x.meaning t root → IsInside t root k → (has : HasAnswer x t k i answer) → IsMade x answer → IsWholeChange x.meaning t (after_folding x t k has.value answer) root
  answer_changes root (Operand p) live linked inside has made = record {
    liveness = live;
    linked = replaced_links x.meaning t has.value (get_or (operands_of t k) p 0) root linked;
    inside = replaced_inside t root has.value (get_or (operands_of t k) p 0) w.joined (subst (IsDefiningOperationInside t root) (sym (w.joined.results k i has.value has.listed)) inside);
    runs = operand_keeps_all p has (answer_within (Operand p) has (linked.admitted k (inr inside)));
  }
  answer_changes root (Constant c) live linked inside has made =
      let up = inside_up inside in
      let home = holder_is t k up.0 up.1 in
      let lives = (w.joined.all_in_place k home.0 home.1).0 in
      record {
        liveness = subst (λ z. IsSome z.head) (sym (put_row t k has.value root (x.constant_head c) (past_live t root live))) live;
        linked = constant_links c has made home.0 home.1 root linked;
        inside = subst (λ z. IsInsideChange t z root) (sym (put_is t k has.value home.0 (x.constant_head c) w home.1)) (result_inside t root home.0 has.value (x.constant_head c) (put_before k (length t.operations) (body_of t home.0)) w (block_inside home.0 home.1 inside) k i lives home.1 has.listed);
        runs = constant_keeps_all c has made home.0 home.1;
      }

pub answer_laws : (x : Folding) → AreLawful x → AnswerLaws x
answer_laws x laws = record {
  within = λ t k i answer w admitted has. answer_within x laws t w k i answer has admitted;
  change = λ t root k i answer w live linked inside has made. answer_changes x laws t w k i root answer live linked inside has made;
}
