use Rattle.std.proofs.Common.{rules, ◌≡◌, ◌∙◌, Some, length, slice_get, refl, sym, ap, arith}
use Rattle.std.proofs.lemmas.Option.{slice_get_read}
use Rattle.pliron_core.specs.Tree.{operands_of}
use Rattle.pliron_laws.proofs.ShapeLemmas.{head_at}
use Rattle.pliron_rewrite_rules.specs.Tables.{RuleTables}
use Rattle.pliron_laws.specs.Answers.{answer_in}
use Rattle.pliron_rewrite_rules.proofs.ShownLemmas.{tables, constant_unless, constant_unfolded, constant_is, none_first}
use Rattle.pliron_rewrite_rules.proofs.seeing.constant_of.Goals as goal

pub returns-then-num_operand-ne0-clause-ok : goal.returns-then-num_operand-ne0-clause-ok
returns-then-num_operand-ne0-clause-ok g c = λ o at.
    let x : RuleTables = tables g.D.HasMeaning.meaning g.D.SideEffects.side_effects g.D.ConstFoldInterface.can_fold g.D.ConstFoldInterface.constants g.D.ConstFoldInterface.accepts g.D.ConstFoldInterface.constant_head in
    constant_unless x c.args.ctx.now.tree c.args.op o at (λ e. grind (arith, c.num_operand.ensures, c.if-num_operand-ne0.true, e))

pub returns-then-not-folds-clause-ok : goal.returns-then-not-folds-clause-ok
returns-then-not-folds-clause-ok g c = λ o at.
    let x : RuleTables = tables g.D.HasMeaning.meaning g.D.SideEffects.side_effects g.D.ConstFoldInterface.can_fold g.D.ConstFoldInterface.constants g.D.ConstFoldInterface.accepts g.D.ConstFoldInterface.constant_head in
    constant_unfolded x c.args.ctx.now.tree c.args.op o at (grind (arith, c.num_operand.ensures, c.if-num_operand-ne0.false)) (sym (c.folds.ensures o.head (head_at c.args.ctx.now.tree c.args.op o at)) ∙ c.if-not-folds.true)

pub check_fold-requires-clause-folds : goal.check_fold-requires-clause-folds
check_fold-requires-clause-folds g c = λ h e. sym (c.folds.ensures h e) ∙ c.if-not-folds.false

pub check_fold-requires-clause-entries : goal.check_fold-requires-clause-entries
check_fold-requires-clause-entries g c =
    let bare : length (operands_of c.args.ctx.now.tree c.args.op) ≡ 0 = grind (arith, c.num_operand.ensures, c.if-num_operand-ne0.false) in
    ap length (c.deref.ensures.value ∙ c.new-nothing.ensures.items) ∙ sym bare

pub returns-then-len-gt0-clause-ok : goal.returns-then-len-gt0-clause-ok
returns-then-len-gt0-clause-ok g c = λ o at.
    let x : RuleTables = tables g.D.HasMeaning.meaning g.D.SideEffects.side_effects g.D.ConstFoldInterface.can_fold g.D.ConstFoldInterface.constants g.D.ConstFoldInterface.accepts g.D.ConstFoldInterface.constant_head in
    let items = c.in_ok-answers.answers.items in
    let first : slice_get items 0 ≡ Some c.swap_remove.result = slice_get_read items (length items) 0 c.swap_remove.result refl (search (rules, c.if-len-gt0.true)) c.swap_remove.ensures.value in
    sym (ap answer_in first) ∙ constant_is x c.args.ctx.now.tree c.args.op o at (grind (arith, c.num_operand.ensures, c.if-num_operand-ne0.false)) items c.deref.result.now (c.deref.ensures.value ∙ c.new-nothing.ensures.items) c.in_ok-answers.ensures.ok (sym (c.folds.ensures o.head (head_at c.args.ctx.now.tree c.args.op o at)) ∙ c.if-not-folds.false)

pub returns-clause-ok : goal.returns-clause-ok
returns-clause-ok g c = λ o at.
    let x : RuleTables = tables g.D.HasMeaning.meaning g.D.SideEffects.side_effects g.D.ConstFoldInterface.can_fold g.D.ConstFoldInterface.constants g.D.ConstFoldInterface.accepts g.D.ConstFoldInterface.constant_head in
    let items = c.in_ok-answers.answers.items in
    sym (none_first items (omega arith)) ∙ constant_is x c.args.ctx.now.tree c.args.op o at (grind (arith, c.num_operand.ensures, c.if-num_operand-ne0.false)) items c.deref.result.now (c.deref.ensures.value ∙ c.new-nothing.ensures.items) c.in_ok-answers.ensures.ok (sym (c.folds.ensures o.head (head_at c.args.ctx.now.tree c.args.op o at)) ∙ c.if-not-folds.false)
