use Rattle.std.proofs.Common.{◌≤◌, ℕ, length, arith}
use Rattle.pliron_core.specs.Tree.{In, operands_of, successors_of, results_of, uses_of}
use Rattle.pliron_core.proofs.FlatLemmas.{In-slice_get, slice_get-In}
use Rattle.pliron_pass_fit.proofs.CheckLemmas.{at_each, one_more_at, first_use, no_use, not_empty, is_empty}
use Rattle.pliron_pass_fit.proofs.operations.check_unused.Goals as goal

pub returns-then-num_successor-eq0-clause-ok : goal.returns-then-num_successor-eq0-clause-ok
returns-then-num_successor-eq0-clause-ok g c = λ v user some i j. absurd (some (is_empty (successors_of c.args.ctx.now.tree c.args.op) (omega arith)))

pub returns-then-num_use-ne0-clause-err : goal.returns-then-num_use-ne0-clause-err
returns-then-num_use-ne0-clause-err g c =
    let t = c.args.ctx.now.tree in
    let some = not_empty (successors_of t c.args.op) (λ e. omega (arith, e)) in
    let v = c.get_result.result in
    let one = first_use (uses_of c.args.ctx.now.value_uses v) (λ e. omega (arith, e)) in
    let listed = c.well_formed-2.ensures.uses.value_uses.listed v 0 one.0 one.1 in
    (c.requires.inside, some, (v, one.0.user, c.get_result.ensures.value, In-slice_get (operands_of t one.0.user) one.0.place v listed))

pub loop-i-preserved : goal.loop-i-preserved
loop-i-preserved g c =
    let t = c.args.ctx.now.tree in
    let v = c.get_result.result in
    one_more_at (λ v. (user : ℕ) → In v (operands_of t user) → ⊥) (results_of t c.args.op) c.loop-i.i v c.get_result.ensures.value (λ user i.
    let at = slice_get-In v (operands_of t user) i in
    let u = c.well_formed-2.ensures.uses.value_uses.complete user at.0 v at.1 in
    no_use (uses_of c.args.ctx.now.value_uses v) u.0 _ (omega arith) u.1) c.loop-i.invariant

pub returns-clause-ok : goal.returns-clause-ok
returns-clause-ok g c =
    let t = c.args.ctx.now.tree in
    let whole : length (results_of t c.args.op) ≤ c.loop-i.i = omega arith in
    λ v user some i j. at_each (λ v. (user : ℕ) → In v (operands_of t user) → ⊥) (results_of t c.args.op) c.loop-i.i whole c.loop-i.invariant v i user j
