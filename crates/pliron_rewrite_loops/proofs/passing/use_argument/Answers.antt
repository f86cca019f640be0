use Rattle.std.proofs.Common.{◌≡◌, ◌≢◌, true≢false, length, Some, slice_get, sym, ap, ◌∙◌, subst, arith}
use Rattle.std.proofs.lemmas.Bool.{eq-eqb, eqb-true}
use Rattle.std.proofs.lemmas.Option.{slice_get_within}
use Rattle.pliron_core.specs.Tree.{Tree, operands_of}
use Rattle.pliron_core.proofs.HoldingLemmas.{slice_in}
use Rattle.pliron_rewrite_loops.specs.Passing.{UsesArgument, operand_put}
use Rattle.pliron_rewrite_loops.proofs.PassingSteps.{put_other, put_count, put_table, put_uses, put_done, kept_done, row_within}
use Rattle.pliron_rewrite_loops.proofs.passing.use_argument.Goals.{then-eq+in_ok-put_operand, else-eq}
use Rattle.pliron_rewrite_loops.proofs.passing.use_argument.Goals as goal

pub returns-in_err-put_operand-clause-used : goal.returns-in_err-put_operand-clause-used
returns-in_err-put_operand-clause-used c = λ t users i y. subst (λ z. UsesArgument t z users c.args.value c.args.argument) (sym c.in_err-put_operand.ensures.refused) (c.loop-i.invariant.used t users i y)

pub loop-i-preserved : goal.loop-i-preserved
loop-i-preserved c =
    let t = c.loop-i.ctx.tree in
    let s = c.args.ctx.now.tree in
    let v = c.loop-i.invariant in
    let op = c.args.op in
    let i = c.loop-i.i in
    let new = c.args.argument in
    let read = c.get_operand.ensures.operand in
    let lt = row_within t op i (slice_get_within (operands_of t op) i c.get_operand.result read) in
    elim c.if-eq.branch [
      | then-eq+in_ok-put_operand w ↦ (
          let at : slice_get (operands_of t op) i ≡ Some c.args.value = read ∙ ap Some (eqb-true c.get_operand.result c.args.value (sym w.if-eq.ensures)) in
          let p : c.if-eq.ctx.tree ≡ operand_put t op i new = ap (λ z. z.tree) w.ctx-is ∙ w.in_ok-put_operand.ensures.ok in
          record {
            tree = p ∙ ap (λ (z : Tree). record z { operands = (operand_put t op i new).operands }) v.tree ∙ sym (ap (λ z. record s { operands = z.operands }) p);
            table = ap (λ z. length z.operands) p ∙ put_table t op i new lt ∙ v.table;
            count = ap (λ z. length (operands_of z op)) p ∙ put_count t op i new lt ∙ v.count;
            others = λ k ne. ap (λ z. operands_of z k) p ∙ put_other t op i new lt k ne ∙ v.others k ne;
            used = λ x users j y. subst (λ z. UsesArgument x z users c.args.value new) (sym p) (put_uses t op i new lt c.args.value at x users j (v.used x users j y));
            done = λ j l. subst (λ z. slice_get (operands_of z op) j ≢ Some c.args.value) (sym p) (put_done t op i new lt c.args.value at c.requires.apart v.done j l);
          })
      | else-eq w ↦ (
          let differ : c.get_operand.result ≢ c.args.value = λ q. true≢false (sym (eq-eqb c.get_operand.result c.args.value q) ∙ sym w.if-eq.ensures) in
          let p : c.if-eq.ctx.tree ≡ t = ap (λ z. z.tree) w.ctx-is in
          record {
            tree = p ∙ v.tree ∙ sym (ap (λ z. record s { operands = z.operands }) p);
            table = ap (λ z. length z.operands) p ∙ v.table;
            count = ap (λ z. length (operands_of z op)) p ∙ v.count;
            others = λ k ne. ap (λ z. operands_of z k) p ∙ v.others k ne;
            used = λ x users j y. subst (λ z. UsesArgument x z users c.args.value new) (sym p) (v.used x users j y);
            done = λ j l. subst (λ z. slice_get (operands_of z op) j ≢ Some c.args.value) (sym p) (kept_done (operands_of t op) i c.get_operand.result c.args.value read differ v.done j l);
          })
    ]

pub returns-clause-all : goal.returns-clause-all
returns-clause-all c = λ i.
    let s = slice_in (operands_of c.loop-i.ctx.tree c.args.op) c.args.value i in
    let l = slice_get_within (operands_of c.loop-i.ctx.tree c.args.op) s.0 c.args.value s.1 in
    let n = c.loop-i.invariant.count in
    let m = c.num_operand-i-end.ensures in
    let past = c.loop-i-test.false in
    c.loop-i.invariant.done s.0 (omega (arith, l, n, m, past)) s.1
