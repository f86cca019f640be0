use Rattle.std.proofs.Common.{◌≡◌, ◌∙◌, length, true≢false, sym, arith}
use Rattle.pliron_core.specs.Tree.{results_of}
use Rattle.pliron_core.proofs.StandingLemmas.{no_use, some_use}
use Rattle.pliron_rewrite_rules.specs.Tables.{RuleTables}
use Rattle.pliron_rewrite_rules.proofs.ShownLemmas.{tables}
use Rattle.pliron_rewrite_rules.proofs.AppliedRules.{unused_none, unanswered_none, named_none, term_applies}
use Rattle.pliron_rewrite_rules.proofs.application.ask_rules.Goals as goal

pub returns-then-num_use-eq0-clause-ok : goal.returns-then-num_use-eq0-clause-ok
returns-then-num_use-eq0-clause-ok g c =
    let x : RuleTables = tables g.D.HasMeaning.meaning g.D.SideEffects.side_effects g.D.ConstFoldInterface.can_fold g.D.ConstFoldInterface.constants g.D.ConstFoldInterface.accepts g.D.ConstFoldInterface.constant_head in
    let t = c.args.ctx.now.tree in
    let one : length (results_of t c.args.op) ≡ 1 = grind (arith, c.num_result.ensures, c.if-num_result-ne1.false) in
    let none = no_use t c.args.ctx.now.value_uses c.get_result-old.result c.well_formed-2.ensures.uses.value_uses (grind (arith, c.num_use.ensures, c.if-num_use-eq0.true)) in
    unused_none x g.L.Rules.rules t c.args.op c.get_result-old.result one c.get_result-old.ensures.value none

pub returns-in_default-clause-ok : goal.returns-in_default-clause-ok
returns-in_default-clause-ok g c =
    let x : RuleTables = tables g.D.HasMeaning.meaning g.D.SideEffects.side_effects g.D.ConstFoldInterface.can_fold g.D.ConstFoldInterface.constants g.D.ConstFoldInterface.accepts g.D.ConstFoldInterface.constant_head in
    let t = c.args.ctx.now.tree in
    let one : length (results_of t c.args.op) ≡ 1 = grind (arith, c.num_result.ensures, c.if-num_result-ne1.false) in
    unanswered_none x g.L.Rules.rules t c.args.op c.get_result-old.result one c.get_result-old.ensures.value (sym c.in_ok-term.ensures.ok ∙ c.in_default.is)

pub returns-then-is_named-clause-ok : goal.returns-then-is_named-clause-ok
returns-then-is_named-clause-ok g c =
    let x : RuleTables = tables g.D.HasMeaning.meaning g.D.SideEffects.side_effects g.D.ConstFoldInterface.can_fold g.D.ConstFoldInterface.constants g.D.ConstFoldInterface.accepts g.D.ConstFoldInterface.constant_head in
    let t = c.args.ctx.now.tree in
    let one : length (results_of t c.args.op) ≡ 1 = grind (arith, c.num_result.ensures, c.if-num_result-ne1.false) in
    named_none x g.L.Rules.rules t c.args.op c.get_result-old.result one c.get_result-old.ensures.value c.in-Some.term (sym c.in_ok-term.ensures.ok ∙ c.in-Some.is) (c.is_named.ensures.0 c.if-is_named.true)

pub returns-clause-ok : goal.returns-clause-ok
returns-clause-ok g c =
    let x : RuleTables = tables g.D.HasMeaning.meaning g.D.SideEffects.side_effects g.D.ConstFoldInterface.can_fold g.D.ConstFoldInterface.constants g.D.ConstFoldInterface.accepts g.D.ConstFoldInterface.constant_head in
    let t = c.args.ctx.now.tree in
    let one : length (results_of t c.args.op) ≡ 1 = grind (arith, c.num_result.ensures, c.if-num_result-ne1.false) in
    let used = some_use t c.args.ctx.now.value_uses c.get_result-old.result c.well_formed-2.ensures.uses.value_uses (λ e. grind (arith, c.num_use.ensures, c.if-num_use-eq0.false, e)) in
    term_applies x g.L.Rules.rules t c.args.op c.get_result-old.result one c.get_result-old.ensures.value used c.in-Some.term (sym c.in_ok-term.ensures.ok ∙ c.in-Some.is) (λ e. true≢false (sym (c.is_named.ensures.1 e) ∙ c.if-is_named.false))
