use Rattle.std.proofs.Common.{rules, ◌≡◌, ◌++◌, ◌∷◌, [], subst}
use Rattle.pliron_rewrite_rules.specs.Tables.{RuleTables}
use Rattle.pliron_rewrite_rules.specs.Putting.{AreErasable}
use Rattle.pliron_rewrite_rules.proofs.Erasing.{erasable_last, erasable_none, erased_more}
use Rattle.pliron_rewrite_rules.proofs.ShownLemmas.{tables, lawful}
use Rattle.pliron_rewrite_rules.proofs.terms.erase_all.Goals as goal

pub erase_operation-requires-clause-live : goal.erase_operation-requires-clause-live
erase_operation-requires-clause-live g c =
    let x : RuleTables = tables g.D.HasMeaning.meaning g.D.SideEffects.side_effects g.D.ConstFoldInterface.can_fold g.D.ConstFoldInterface.constants g.D.ConstFoldInterface.accepts g.D.ConstFoldInterface.constant_head in
    let d = g.met.D.Dialect in
    let laws = lawful x _ _ d.keeps_counts d.gives_at_once d.answers_true d.makes_constants d.forwards_operands in
    let e : c.loop-last.made.items ≡ c.pop.new.self.items ++ c.in-Some.last ∷ [] = search (rules, c.in-Some.ensures) in
    (erasable_last x laws c.requires.0 c.loop-last.ctx.tree c.well_formed-in-Some.ensures.tree c.requires.1 c.pop.new.self.items c.in-Some.last (subst (λ z. AreErasable x c.requires.0 c.requires.1 z c.loop-last.ctx.tree) e (c.loop-last.invariant c.requires.0 c.requires.1 c.requires.2))).live

pub erase_operation-requires-clause-contained : goal.erase_operation-requires-clause-contained
erase_operation-requires-clause-contained g c =
    let x : RuleTables = tables g.D.HasMeaning.meaning g.D.SideEffects.side_effects g.D.ConstFoldInterface.can_fold g.D.ConstFoldInterface.constants g.D.ConstFoldInterface.accepts g.D.ConstFoldInterface.constant_head in
    let d = g.met.D.Dialect in
    let laws = lawful x _ _ d.keeps_counts d.gives_at_once d.answers_true d.makes_constants d.forwards_operands in
    let e : c.loop-last.made.items ≡ c.pop.new.self.items ++ c.in-Some.last ∷ [] = search (rules, c.in-Some.ensures) in
    (erasable_last x laws c.requires.0 c.loop-last.ctx.tree c.well_formed-in-Some.ensures.tree c.requires.1 c.pop.new.self.items c.in-Some.last (subst (λ z. AreErasable x c.requires.0 c.requires.1 z c.loop-last.ctx.tree) e (c.loop-last.invariant c.requires.0 c.requires.1 c.requires.2))).contained

pub loop-last-preserved : goal.loop-last-preserved
loop-last-preserved g c = λ op t is.
    let x : RuleTables = tables g.D.HasMeaning.meaning g.D.SideEffects.side_effects g.D.ConstFoldInterface.can_fold g.D.ConstFoldInterface.constants g.D.ConstFoldInterface.accepts g.D.ConstFoldInterface.constant_head in
    let d = g.met.D.Dialect in
    let laws = lawful x _ _ d.keeps_counts d.gives_at_once d.answers_true d.makes_constants d.forwards_operands in
    let e : c.loop-last.made.items ≡ c.pop.new.self.items ++ c.in-Some.last ∷ [] = search (rules, c.in-Some.ensures) in
    let now = subst (λ z. AreErasable x op t z c.loop-last.ctx.tree) e (c.loop-last.invariant op t is) in
    erased_more x op t c.loop-last.ctx.tree _ c.pop.new.self.items c.in-Some.last _ now (erasable_last x laws op c.loop-last.ctx.tree c.well_formed-in-Some.ensures.tree t c.pop.new.self.items c.in-Some.last now) c.erase_operation.ensures.erased

pub returns : goal.returns
returns g c = λ op t is.
    let x : RuleTables = tables g.D.HasMeaning.meaning g.D.SideEffects.side_effects g.D.ConstFoldInterface.can_fold g.D.ConstFoldInterface.constants g.D.ConstFoldInterface.accepts g.D.ConstFoldInterface.constant_head in
    let e : c.loop-last.made.items ≡ [] = search (rules, c.in_default.ensures) in
    erasable_none x op t c.loop-last.ctx.tree c.loop-last.made.items (c.loop-last.invariant op t is) e
