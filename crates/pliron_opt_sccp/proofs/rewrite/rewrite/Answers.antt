use Rattle.std.proofs.Common.{refl, sym, subst}
use Rattle.pliron_laws.proofs.FoldLemmas.{on_err}
use Rattle.pliron_opt_sccp.specs.RewriteSteps.{ReportsCreated}
use Rattle.pliron_opt_sccp.proofs.StepLemmas.{told_then}
use Rattle.pliron_opt_sccp.proofs.WholeRewrite.{told_change, found_folds, found_arguments, broken_folding, broken_putting, all_rewritten}
use Rattle.pliron_opt_sccp.proofs.rewrite.rewrite.Goals as goal

pub fold_all-requires : goal.fold_all-requires
fold_all-requires g c =
    let i = c.requires.found in
    let t = c.args.ctx.now.tree in
    record { steps = (t, i.0, i.1, found_folds _ _ t i.0 i.1 c.args.found.now c.well_formed-2.ensures.tree i.2 _ refl) }

pub returns-in_err-status-clause-refused : goal.returns-in_err-status-clause-refused
returns-in_err-status-clause-refused g c =
    let t = c.args.ctx.now.tree in
    let w = c.well_formed-2.ensures.tree in
    let d = g.D.ConstFoldInterface in
    on_err _ c.from_residual.result (λ root f i. broken_folding _ _ t root f c.args.found.now w i d.accepts d.constant_head d.outcome _ refl c.fold_all.new.ctx.tree (c.in_err-status.ensures.refused t root f (found_folds _ _ t root f c.args.found.now w i _ refl)))

pub returns-in_err-status-clause-follows : goal.returns-in_err-status-clause-follows
returns-in_err-status-clause-follows g c = λ root f i.
    let t = c.args.ctx.now.tree in
    c.fold_all.ensures.follows t root f (found_folds _ _ t root f c.args.found.now c.well_formed-2.ensures.tree i _ refl)

pub put_all-requires : goal.put_all-requires
put_all-requires g c =
    let i = c.requires.found in
    let t = c.args.ctx.now.tree in
    let w = c.well_formed-2.ensures.tree in
    let follows = c.fold_all.ensures.follows t i.0 i.1 (found_folds _ _ t i.0 i.1 c.args.found.now w i.2 _ refl) in
    record { steps = (t, i.0, i.1, found_arguments _ _ t i.0 i.1 c.args.found.now w i.2 c.fold_all.new.ctx.tree follows _ c.deref.ensures.value) }

pub returns-in_err-put_all-clause-refused : goal.returns-in_err-put_all-clause-refused
returns-in_err-put_all-clause-refused g c =
    let t = c.args.ctx.now.tree in
    let w = c.well_formed-2.ensures.tree in
    let d = g.D.ConstFoldInterface in
    on_err _ c.from_residual-in_err-put_all.result (λ root f i.
    let steps = found_folds _ _ t root f c.args.found.now w i _ refl in
    let follows = c.fold_all.ensures.follows t root f steps in
    broken_putting _ _ t root f c.args.found.now w i d.accepts d.constant_head d.outcome _ refl c.fold_all.new.ctx.tree (c.in_ok-status.ensures.folded t root f steps) _ c.deref.ensures.value c.put_all.new.ctx.tree (c.in_err-put_all.ensures.refused t root f (found_arguments _ _ t root f c.args.found.now w i c.fold_all.new.ctx.tree follows _ c.deref.ensures.value)))

pub returns-in_err-put_all-clause-follows : goal.returns-in_err-put_all-clause-follows
returns-in_err-put_all-clause-follows g c = λ root f i.
    let t = c.args.ctx.now.tree in
    let w = c.well_formed-2.ensures.tree in
    let follows = c.fold_all.ensures.follows t root f (found_folds _ _ t root f c.args.found.now w i _ refl) in
    c.put_all.ensures.follows t root f (found_arguments _ _ t root f c.args.found.now w i c.fold_all.new.ctx.tree follows _ c.deref.ensures.value)

pub returns-clause-rewritten : goal.returns-clause-rewritten
returns-clause-rewritten g c = λ root f i.
    let t = c.args.ctx.now.tree in
    let w = c.well_formed-2.ensures.tree in
    let d = g.D.ConstFoldInterface in
    let steps = found_folds _ _ t root f c.args.found.now w i _ refl in
    let follows = c.fold_all.ensures.follows t root f steps in
    all_rewritten _ _ t root f c.args.found.now w i d.accepts d.constant_head d.outcome _ refl c.fold_all.new.ctx.tree (c.in_ok-status.ensures.folded t root f steps) _ c.deref.ensures.value c.put_all.new.ctx.tree (c.in_ok-put_all.ensures.puts t root f (found_arguments _ _ t root f c.args.found.now w i c.fold_all.new.ctx.tree follows _ c.deref.ensures.value))

pub returns-clause-reported : goal.returns-clause-reported
returns-clause-reported g c =
    let t = c.args.ctx.now.tree in
    let u = c.fold_all.new.ctx.tree in
    let v = c.put_all.new.ctx.tree in
    let reported = told_then t u v c.in_ok-status.status c.in_ok-put_all.field-0 c.put_all.ensures.stays c.in_ok-status.ensures.reported c.in_ok-put_all.ensures.reported in
    told_change t v _ (subst (λ z. ReportsCreated z t v) (sym c.bitor_assign.ensures.after) reported)

pub returns-clause-follows : goal.returns-clause-follows
returns-clause-follows g c = λ root f i.
    let t = c.args.ctx.now.tree in
    let w = c.well_formed-2.ensures.tree in
    let follows = c.fold_all.ensures.follows t root f (found_folds _ _ t root f c.args.found.now w i _ refl) in
    c.put_all.ensures.follows t root f (found_arguments _ _ t root f c.args.found.now w i c.fold_all.new.ctx.tree follows _ c.deref.ensures.value)
