use Rattle.std.proofs.Common.{◌≡◌, ◌-◌, arith}
use Rattle.pliron_laws.proofs.FoldLemmas.{on_err}
use Rattle.pliron_rewrite_rules.specs.Tables.{RuleTables}
use Rattle.pliron_rewrite_rules.proofs.ShownLemmas.{tables, lawful}
use Rattle.pliron_opt_combine.proofs.Doing.{done_start, partly_start, partly_restored, partly, not_rewritten, rewritten, seen_live}
use Rattle.pliron_opt_combine.proofs.sweep.rewrite_operation.Goals as goal

pub returns-then-left-eq0-clause-ok : goal.returns-then-left-eq0-clause-ok
returns-then-left-eq0-clause-ok g c =
    let x : RuleTables = tables g.D.HasMeaning.meaning g.D.SideEffects.side_effects g.D.ConstFoldInterface.can_fold g.D.ConstFoldInterface.constants g.D.ConstFoldInterface.accepts g.D.ConstFoldInterface.constant_head in
    done_start x g.L.Rules.rules c.args.root c.args.ctx.now.tree c.requires.live c.requires.linked c.args.left (λ k. k ≡ c.args.op) (λ some. absurd (grind (arith, c.if-left-eq0.true, some)))

pub ask_rules-requires : goal.ask_rules-requires
ask_rules-requires g c = seen_live c.args.ctx.now.tree c.well_formed-2.ensures.tree c.args.root c.args.op c.requires.is_seen

pub returns-in_default-clause-ok : goal.returns-in_default-clause-ok
returns-in_default-clause-ok g c =
    let x : RuleTables = tables g.D.HasMeaning.meaning g.D.SideEffects.side_effects g.D.ConstFoldInterface.can_fold g.D.ConstFoldInterface.constants g.D.ConstFoldInterface.accepts g.D.ConstFoldInterface.constant_head in
    let d = g.met.D.Dialect in
    let laws = lawful x _ _ d.keeps_counts d.gives_at_once d.answers_true d.makes_constants d.forwards_operands in
    not_rewritten x laws g.L.Rules.rules g.met.L.Rules.rules_hold c.args.ctx.now.tree c.well_formed-2.ensures.tree c.args.root c.args.op c.requires.live c.requires.linked c.requires.is_seen c.args.left c.in_ok-term.field-0 c.in_ok-term.ensures.ok c.in_default.is

pub returns-in_err-term-clause-refused : goal.returns-in_err-term-clause-refused
returns-in_err-term-clause-refused g c =
    let x : RuleTables = tables g.D.HasMeaning.meaning g.D.SideEffects.side_effects g.D.ConstFoldInterface.can_fold g.D.ConstFoldInterface.constants g.D.ConstFoldInterface.accepts g.D.ConstFoldInterface.constant_head in
    on_err _ c.from_residual.result (partly_start x g.L.Rules.rules c.args.root c.args.ctx.now.tree c.requires.live c.requires.linked c.args.left)

pub returns-in_err-add_viewers-clause-refused : goal.returns-in_err-add_viewers-clause-refused
returns-in_err-add_viewers-clause-refused g c =
    let x : RuleTables = tables g.D.HasMeaning.meaning g.D.SideEffects.side_effects g.D.ConstFoldInterface.can_fold g.D.ConstFoldInterface.constants g.D.ConstFoldInterface.accepts g.D.ConstFoldInterface.constant_head in
    on_err _ c.from_residual-in_err-add_viewers.result (partly_start x g.L.Rules.rules c.args.root c.args.ctx.now.tree c.requires.live c.requires.linked c.args.left)

pub returns-in_err-applied-clause-refused : goal.returns-in_err-applied-clause-refused
returns-in_err-applied-clause-refused g c =
    let x : RuleTables = tables g.D.HasMeaning.meaning g.D.SideEffects.side_effects g.D.ConstFoldInterface.can_fold g.D.ConstFoldInterface.constants g.D.ConstFoldInterface.accepts g.D.ConstFoldInterface.constant_head in
    on_err _ c.from_residual-in_err-applied.result (partly_restored x g.L.Rules.rules c.args.root c.args.ctx.now.tree c.requires.live c.requires.linked c.apply_term-applied.new.ctx.tree c.args.left c.well_formed-2.ensures.tree c.well_formed-3.ensures.tree c.in_err-applied.ensures.refused)

pub add_before-requires : goal.add_before-requires
add_before-requires g c =
    let x : RuleTables = tables g.D.HasMeaning.meaning g.D.SideEffects.side_effects g.D.ConstFoldInterface.can_fold g.D.ConstFoldInterface.constants g.D.ConstFoldInterface.accepts g.D.ConstFoldInterface.constant_head in
    let d = g.met.D.Dialect in
    let laws = lawful x _ _ d.keeps_counts d.gives_at_once d.answers_true d.makes_constants d.forwards_operands in
    let t = c.args.ctx.now.tree in
    let done = rewritten x laws g.L.Rules.rules g.met.L.Rules.rules_hold t c.well_formed-2.ensures.tree c.args.root c.args.op c.requires.live c.requires.linked c.requires.is_seen c.apply_term-applied.new.ctx.tree c.args.left (c.args.left - 1) c.in_ok-applied.field-0 (grind (arith, c.if-left-eq0.false)) c.in_ok-applied.ensures.ok (λ k. k ≡ c.args.op) in
    record { live = done.way.stays c.args.op (seen_live t c.well_formed-2.ensures.tree c.args.root c.args.op c.requires.is_seen) }

pub returns-in_err-add_before-clause-refused : goal.returns-in_err-add_before-clause-refused
returns-in_err-add_before-clause-refused g c =
    let x : RuleTables = tables g.D.HasMeaning.meaning g.D.SideEffects.side_effects g.D.ConstFoldInterface.can_fold g.D.ConstFoldInterface.constants g.D.ConstFoldInterface.accepts g.D.ConstFoldInterface.constant_head in
    let d = g.met.D.Dialect in
    let laws = lawful x _ _ d.keeps_counts d.gives_at_once d.answers_true d.makes_constants d.forwards_operands in
    let t = c.args.ctx.now.tree in
    let done = rewritten x laws g.L.Rules.rules g.met.L.Rules.rules_hold t c.well_formed-2.ensures.tree c.args.root c.args.op c.requires.live c.requires.linked c.requires.is_seen c.apply_term-applied.new.ctx.tree c.args.left (c.args.left - 1) c.in_ok-applied.field-0 (grind (arith, c.if-left-eq0.false)) c.in_ok-applied.ensures.ok (λ k. k ≡ c.args.op) in
    on_err _ c.from_residual-in_err-add_before.result (partly x g.L.Rules.rules c.args.root t c.apply_term-applied.new.ctx.tree c.args.left (c.args.left - 1) (λ k. k ≡ c.args.op) done)

pub returns-clause-ok : goal.returns-clause-ok
returns-clause-ok g c =
    let x : RuleTables = tables g.D.HasMeaning.meaning g.D.SideEffects.side_effects g.D.ConstFoldInterface.can_fold g.D.ConstFoldInterface.constants g.D.ConstFoldInterface.accepts g.D.ConstFoldInterface.constant_head in
    let d = g.met.D.Dialect in
    let laws = lawful x _ _ d.keeps_counts d.gives_at_once d.answers_true d.makes_constants d.forwards_operands in
    let t = c.args.ctx.now.tree in
    rewritten x laws g.L.Rules.rules g.met.L.Rules.rules_hold t c.well_formed-2.ensures.tree c.args.root c.args.op c.requires.live c.requires.linked c.requires.is_seen c.apply_term-applied.new.ctx.tree c.args.left (c.args.left - 1) c.in_ok-applied.field-0 (grind (arith, c.if-left-eq0.false)) c.in_ok-applied.ensures.ok (λ k. k ≡ c.args.op)

pub returns-clause-seen : goal.returns-clause-seen
returns-clause-seen g c =
    let x : RuleTables = tables g.D.HasMeaning.meaning g.D.SideEffects.side_effects g.D.ConstFoldInterface.can_fold g.D.ConstFoldInterface.constants g.D.ConstFoldInterface.accepts g.D.ConstFoldInterface.constant_head in
    let d = g.met.D.Dialect in
    let laws = lawful x _ _ d.keeps_counts d.gives_at_once d.answers_true d.makes_constants d.forwards_operands in
    let t = c.args.ctx.now.tree in
    let done = rewritten x laws g.L.Rules.rules g.met.L.Rules.rules_hold t c.well_formed-2.ensures.tree c.args.root c.args.op c.requires.live c.requires.linked c.requires.is_seen c.apply_term-applied.new.ctx.tree c.args.left (c.args.left - 1) c.in_ok-applied.field-0 (grind (arith, c.if-left-eq0.false)) c.in_ok-applied.ensures.ok (λ k. k ≡ c.args.op) in
    c.in_ok-add_before.ensures.seen c.args.root (done.seen c.args.op c.requires.is_seen) (λ k i. done.seen k (c.requires.seen k i))
