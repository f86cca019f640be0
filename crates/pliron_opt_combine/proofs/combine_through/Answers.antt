use Rattle.std.proofs.Common.{rules, ◌-◌, arith}
use Rattle.pliron_graph_order.specs.Seen.{IsSeen}
use Rattle.pliron_rewrite_rules.specs.Tables.{RuleTables}
use Rattle.pliron_rewrite_rules.proofs.ShownLemmas.{tables}
use Rattle.pliron_opt_combine.proofs.Doing.{are_rewritten, counts_changes, done_as, done_fewer, done_more, done_nothing, done_start, none_left, partly_more}
use Rattle.pliron_opt_combine.proofs.combine_through.Goals as goal

pub loop-left-init : goal.loop-left-init
loop-left-init g c =
    let x : RuleTables = tables g.D.HasMeaning.meaning g.D.SideEffects.side_effects g.D.ConstFoldInterface.can_fold g.D.ConstFoldInterface.constants g.D.ConstFoldInterface.accepts g.D.ConstFoldInterface.constant_head in
    done_start x g.L.Rules.rules c.args.op c.args.ctx.now.tree c.requires.live c.requires.linked c.args.limit (λ k. ⊥) (λ some k term never. absurd never)

pub sweep_in_rounds-requires-clause-live : goal.sweep_in_rounds-requires-clause-live
sweep_in_rounds-requires-clause-live g c = c.loop-left.invariant.way.change.liveness

pub sweep_in_rounds-requires-clause-linked : goal.sweep_in_rounds-requires-clause-linked
sweep_in_rounds-requires-clause-linked g c = c.loop-left.invariant.way.links c.args.op c.requires.linked

pub returns-in_err-rest-clause-change : goal.returns-in_err-rest-clause-change
returns-in_err-rest-clause-change g c =
    let x : RuleTables = tables g.D.HasMeaning.meaning g.D.SideEffects.side_effects g.D.ConstFoldInterface.can_fold g.D.ConstFoldInterface.constants g.D.ConstFoldInterface.accepts g.D.ConstFoldInterface.constant_head in
    let t0 = c.args.ctx.now.tree in
    let t = c.loop-left.ctx.tree in
    let t' = c.sweep_in_rounds.new.ctx.tree in
    (partly_more x g.L.Rules.rules c.args.op t0 t t' c.args.limit c.loop-left.left (λ k. ⊥) c.loop-left.invariant c.in_err-rest.ensures.refused).way.change

pub returns-in_err-rest-clause-rewritten : goal.returns-in_err-rest-clause-rewritten
returns-in_err-rest-clause-rewritten g c =
    let x : RuleTables = tables g.D.HasMeaning.meaning g.D.SideEffects.side_effects g.D.ConstFoldInterface.can_fold g.D.ConstFoldInterface.constants g.D.ConstFoldInterface.accepts g.D.ConstFoldInterface.constant_head in
    let t0 = c.args.ctx.now.tree in
    let t = c.loop-left.ctx.tree in
    let t' = c.sweep_in_rounds.new.ctx.tree in
    let p = partly_more x g.L.Rules.rules c.args.op t0 t t' c.args.limit c.loop-left.left (λ k. ⊥) c.loop-left.invariant c.in_err-rest.ensures.refused in
    (p.rewritten.0, p.rewritten.1, search rules)

pub returns-in_err-rest-clause-edges : goal.returns-in_err-rest-clause-edges
returns-in_err-rest-clause-edges g c =
    let x : RuleTables = tables g.D.HasMeaning.meaning g.D.SideEffects.side_effects g.D.ConstFoldInterface.can_fold g.D.ConstFoldInterface.constants g.D.ConstFoldInterface.accepts g.D.ConstFoldInterface.constant_head in
    let t0 = c.args.ctx.now.tree in
    let t = c.loop-left.ctx.tree in
    let t' = c.sweep_in_rounds.new.ctx.tree in
    (partly_more x g.L.Rules.rules c.args.op t0 t t' c.args.limit c.loop-left.left (λ k. ⊥) c.loop-left.invariant c.in_err-rest.ensures.refused).way.edges

pub returns-in_err-rest-clause-links : goal.returns-in_err-rest-clause-links
returns-in_err-rest-clause-links g c =
    let x : RuleTables = tables g.D.HasMeaning.meaning g.D.SideEffects.side_effects g.D.ConstFoldInterface.can_fold g.D.ConstFoldInterface.constants g.D.ConstFoldInterface.accepts g.D.ConstFoldInterface.constant_head in
    let t0 = c.args.ctx.now.tree in
    let t = c.loop-left.ctx.tree in
    let t' = c.sweep_in_rounds.new.ctx.tree in
    (partly_more x g.L.Rules.rules c.args.op t0 t t' c.args.limit c.loop-left.left (λ k. ⊥) c.loop-left.invariant c.in_err-rest.ensures.refused).way.links

pub returns-then-rest-left-clause-change : goal.returns-then-rest-left-clause-change
returns-then-rest-left-clause-change g c =
    let x : RuleTables = tables g.D.HasMeaning.meaning g.D.SideEffects.side_effects g.D.ConstFoldInterface.can_fold g.D.ConstFoldInterface.constants g.D.ConstFoldInterface.accepts g.D.ConstFoldInterface.constant_head in
    let t0 = c.args.ctx.now.tree in
    let t = c.loop-left.ctx.tree in
    let t' = c.sweep_in_rounds.new.ctx.tree in
    (done_more x g.L.Rules.rules c.args.op t0 t t' c.args.limit c.loop-left.left c.in_ok-rest.rest (λ k. ⊥) (λ k. IsSeen t c.args.op k) c.loop-left.invariant c.in_ok-rest.ensures.ok).way.change

pub returns-then-rest-left-clause-rewritten : goal.returns-then-rest-left-clause-rewritten
returns-then-rest-left-clause-rewritten g c =
    let x : RuleTables = tables g.D.HasMeaning.meaning g.D.SideEffects.side_effects g.D.ConstFoldInterface.can_fold g.D.ConstFoldInterface.constants g.D.ConstFoldInterface.accepts g.D.ConstFoldInterface.constant_head in
    let t0 = c.args.ctx.now.tree in
    let t = c.loop-left.ctx.tree in
    let t' = c.sweep_in_rounds.new.ctx.tree in
    let done = done_more x g.L.Rules.rules c.args.op t0 t t' c.args.limit c.loop-left.left c.in_ok-rest.rest (λ k. ⊥) (λ k. IsSeen t c.args.op k) c.loop-left.invariant c.in_ok-rest.ensures.ok in
    let counted = done.counted in
    let same = c.if-rest-left.true in
    (done.rewrites, are_rewritten x g.L.Rules.rules c.args.op t0 t' c.args.limit c.in_ok-rest.rest _ done, (done.in_turn, omega (arith, counted, same)))

pub returns-then-rest-left-clause-none : goal.returns-then-rest-left-clause-none
returns-then-rest-left-clause-none g c =
    let x : RuleTables = tables g.D.HasMeaning.meaning g.D.SideEffects.side_effects g.D.ConstFoldInterface.can_fold g.D.ConstFoldInterface.constants g.D.ConstFoldInterface.accepts g.D.ConstFoldInterface.constant_head in
    let t0 = c.args.ctx.now.tree in
    let t = c.loop-left.ctx.tree in
    let t' = c.sweep_in_rounds.new.ctx.tree in
    λ finished. none_left x g.L.Rules.rules c.args.op t t' c.loop-left.left c.in_ok-rest.rest c.in_ok-rest.ensures.ok c.if-rest-left.true (grind (arith, c.loop-left-test.true))

pub returns-then-rest-left-clause-accurate : goal.returns-then-rest-left-clause-accurate
returns-then-rest-left-clause-accurate g c =
    let x : RuleTables = tables g.D.HasMeaning.meaning g.D.SideEffects.side_effects g.D.ConstFoldInterface.can_fold g.D.ConstFoldInterface.constants g.D.ConstFoldInterface.accepts g.D.ConstFoldInterface.constant_head in
    let t0 = c.args.ctx.now.tree in
    let t = c.loop-left.ctx.tree in
    let t' = c.sweep_in_rounds.new.ctx.tree in
    let done = done_more x g.L.Rules.rules c.args.op t0 t t' c.args.limit c.loop-left.left c.in_ok-rest.rest (λ k. ⊥) (λ k. IsSeen t c.args.op k) c.loop-left.invariant c.in_ok-rest.ensures.ok in
    let counted = done.counted in
    let same = c.if-rest-left.true in
    counts_changes x g.L.Rules.rules c.args.op t0 t' c.args.limit c.in_ok-rest.rest _ done (c.args.limit - c.loop-left.left) (omega (arith, counted, same))

pub returns-then-rest-left-clause-edges : goal.returns-then-rest-left-clause-edges
returns-then-rest-left-clause-edges g c =
    let x : RuleTables = tables g.D.HasMeaning.meaning g.D.SideEffects.side_effects g.D.ConstFoldInterface.can_fold g.D.ConstFoldInterface.constants g.D.ConstFoldInterface.accepts g.D.ConstFoldInterface.constant_head in
    let t0 = c.args.ctx.now.tree in
    let t = c.loop-left.ctx.tree in
    let t' = c.sweep_in_rounds.new.ctx.tree in
    (done_more x g.L.Rules.rules c.args.op t0 t t' c.args.limit c.loop-left.left c.in_ok-rest.rest (λ k. ⊥) (λ k. IsSeen t c.args.op k) c.loop-left.invariant c.in_ok-rest.ensures.ok).way.edges

pub returns-then-rest-left-clause-links : goal.returns-then-rest-left-clause-links
returns-then-rest-left-clause-links g c =
    let x : RuleTables = tables g.D.HasMeaning.meaning g.D.SideEffects.side_effects g.D.ConstFoldInterface.can_fold g.D.ConstFoldInterface.constants g.D.ConstFoldInterface.accepts g.D.ConstFoldInterface.constant_head in
    let t0 = c.args.ctx.now.tree in
    let t = c.loop-left.ctx.tree in
    let t' = c.sweep_in_rounds.new.ctx.tree in
    (done_more x g.L.Rules.rules c.args.op t0 t t' c.args.limit c.loop-left.left c.in_ok-rest.rest (λ k. ⊥) (λ k. IsSeen t c.args.op k) c.loop-left.invariant c.in_ok-rest.ensures.ok).way.links

pub loop-left-preserved : goal.loop-left-preserved
loop-left-preserved g c =
    let x : RuleTables = tables g.D.HasMeaning.meaning g.D.SideEffects.side_effects g.D.ConstFoldInterface.can_fold g.D.ConstFoldInterface.constants g.D.ConstFoldInterface.accepts g.D.ConstFoldInterface.constant_head in
    let t0 = c.args.ctx.now.tree in
    let t = c.loop-left.ctx.tree in
    let t' = c.sweep_in_rounds.new.ctx.tree in
    done_nothing x g.L.Rules.rules c.args.op t0 t t' c.args.limit c.loop-left.left c.in_ok-rest.rest c.loop-left.invariant (done_as x g.L.Rules.rules c.args.op t t' c.loop-left.left c.in_ok-rest.rest (λ k. IsSeen t c.args.op k) (λ k. ⊥) (λ k never. absurd never) c.in_ok-rest.ensures.ok)

pub loop-left-smaller : goal.loop-left-smaller
loop-left-smaller g c =
    let x : RuleTables = tables g.D.HasMeaning.meaning g.D.SideEffects.side_effects g.D.ConstFoldInterface.can_fold g.D.ConstFoldInterface.constants g.D.ConstFoldInterface.accepts g.D.ConstFoldInterface.constant_head in
    let t0 = c.args.ctx.now.tree in
    let t = c.loop-left.ctx.tree in
    let t' = c.sweep_in_rounds.new.ctx.tree in
    let le = done_fewer x g.L.Rules.rules c.args.op t t' c.loop-left.left c.in_ok-rest.rest (λ k. IsSeen t c.args.op k) c.in_ok-rest.ensures.ok in
    let ne = c.if-rest-left.false in
    omega (arith, le, ne)

pub returns-clause-rewritten : goal.returns-clause-rewritten
returns-clause-rewritten g c =
    let x : RuleTables = tables g.D.HasMeaning.meaning g.D.SideEffects.side_effects g.D.ConstFoldInterface.can_fold g.D.ConstFoldInterface.constants g.D.ConstFoldInterface.accepts g.D.ConstFoldInterface.constant_head in
    let done = c.loop-left.invariant in
    let counted = done.counted in
    (done.rewrites, are_rewritten x g.L.Rules.rules c.args.op c.args.ctx.now.tree c.loop-left.ctx.tree c.args.limit c.loop-left.left _ done, (done.in_turn, grind (arith, counted, c.loop-left-test.false)))

pub returns-clause-accurate : goal.returns-clause-accurate
returns-clause-accurate g c =
    let x : RuleTables = tables g.D.HasMeaning.meaning g.D.SideEffects.side_effects g.D.ConstFoldInterface.can_fold g.D.ConstFoldInterface.constants g.D.ConstFoldInterface.accepts g.D.ConstFoldInterface.constant_head in
    let done = c.loop-left.invariant in
    counts_changes x g.L.Rules.rules c.args.op c.args.ctx.now.tree c.loop-left.ctx.tree c.args.limit c.loop-left.left _ done c.args.limit (grind (arith, c.loop-left-test.false))
