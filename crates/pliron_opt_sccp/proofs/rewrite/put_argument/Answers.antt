use Rattle.std.proofs.lemmas.Result.{IfOk-weaker}
use Rattle.pliron_theory.proofs.FollowedFacts.{constants_plain}
use Rattle.pliron_theory.proofs.SoundRuns.{names_well}
use Rattle.pliron_opt_sccp.proofs.StepLemmas.{either}
use Rattle.pliron_opt_sccp.proofs.ArgumentStep.{Becomes, becomes_stays, becomes_told, argument_listed, step_constant, argument_follows}
use Rattle.pliron_opt_sccp.proofs.rewrite.put_argument.Goals as goal

pub replace_argument_by_constant-done-requires-clause-constant : goal.replace_argument_by_constant-done-requires-clause-constant
replace_argument_by_constant-done-requires-clause-constant g c =
    let s = c.requires.step in
    let d = g.met.D.Dialect in
    step_constant _ s.0 s.1 s.2 _ _ s.3 d.answers_true d.answers_jumps d.forwards_operands.passes (names_well _ _ d.names_operands d.roots) _ _ d.makes_constants (constants_plain _ _ _ _ _ _ d.forwards_operands d.makes_constants)

pub returns-clause-reported : goal.returns-clause-reported
returns-clause-reported g c =
    let s = c.requires.step in
    let d = g.D.ConstFoldInterface in
    let t = c.args.ctx.now.tree in
    let u = c.replace_argument_by_constant-done.new.ctx.tree in
    let a = c.args.argument.now in
    IfOk-weaker c.replace_argument_by_constant-done.result _ _ (λ status is. becomes_told d.accepts d.constant_head a.attr t u a.block s.3.known.value status (is s.3.known.value (argument_listed _ s.0 s.1 s.2 t a s.3))) c.replace_argument_by_constant-done.ensures.ok

pub returns-clause-stays : goal.returns-clause-stays
returns-clause-stays g c =
    let s = c.requires.step in
    let d = g.D.ConstFoldInterface in
    let t = c.args.ctx.now.tree in
    let u = c.replace_argument_by_constant-done.new.ctx.tree in
    let a = c.args.argument.now in
    let done = either (Becomes d.accepts d.constant_head a.attr t u a.block s.3.known.value) c.replace_argument_by_constant-done.result (IfOk-weaker c.replace_argument_by_constant-done.result _ _ (λ status is. is s.3.known.value (argument_listed _ s.0 s.1 s.2 t a s.3)) c.replace_argument_by_constant-done.ensures.ok) c.replace_argument_by_constant-done.ensures.refused in
    becomes_stays d.accepts d.constant_head a.attr t u a.block s.3.known.value done.0 done.1

pub returns-clause-follows : goal.returns-clause-follows
returns-clause-follows g c = λ t₀ root f₀ s.
    let d = g.D.ConstFoldInterface in
    let law = g.met.D.Dialect in
    let t = c.args.ctx.now.tree in
    let u = c.replace_argument_by_constant-done.new.ctx.tree in
    let a = c.args.argument.now in
    let done = either (Becomes d.accepts d.constant_head a.attr t u a.block s.known.value) c.replace_argument_by_constant-done.result (IfOk-weaker c.replace_argument_by_constant-done.result _ _ (λ status is. is s.known.value (argument_listed _ t₀ root f₀ t a s)) c.replace_argument_by_constant-done.ensures.ok) c.replace_argument_by_constant-done.ensures.refused in
    argument_follows _ t₀ root f₀ t a s law.answers_true law.answers_jumps law.forwards_operands.passes (names_well _ _ law.names_operands law.roots) d.accepts d.constant_head law.makes_constants (constants_plain _ _ _ _ _ _ law.forwards_operands law.makes_constants) u done.0 done.1 c.well_formed-2.ensures.tree c.replace_argument_by_constant-done.ensures.runs
