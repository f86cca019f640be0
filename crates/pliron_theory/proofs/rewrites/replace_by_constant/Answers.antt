use Rattle.pliron_laws.proofs.FoldLemmas.{fresh_made}
use Rattle.pliron_theory.proofs.RewriteLemmas.{point_for, refused_keeps}
use Rattle.pliron_theory.proofs.rewrites.replace_by_constant.Goals as goal

pub put_constant-put-requires-clause-point : goal.put_constant-put-requires-clause-point
put_constant-put-requires-clause-point g c =
    let d = g.D.ConstFoldInterface in
    let t = c.args.ctx.now.tree in
    let w = c.well_formed-2.ensures.tree in
    let made = fresh_made d.accepts d.constant_head c.args.attr.now t c.materialize.new.ctx.tree c.in-Some.constant c.in_ok-constant.field-0 w c.in_ok-constant.ensures.ok c.in-Some.is in
    point_for t c.materialize.new.ctx.tree c.in-Some.constant (d.constant_head c.args.attr.now) _ _ w made.1.made made.1.key c.room.ensures.point c.requires.point

pub returns-in_err-put-clause-runs : goal.returns-in_err-put-clause-runs
returns-in_err-put-clause-runs g c =
    let d = g.D.ConstFoldInterface in
    let t = c.args.ctx.now.tree in
    let w = c.well_formed-2.ensures.tree in
    let made = fresh_made d.accepts d.constant_head c.args.attr.now t c.materialize.new.ctx.tree c.in-Some.constant c.in_ok-constant.field-0 w c.in_ok-constant.ensures.ok c.in-Some.is in
    refused_keeps g.D.HasMeaning.meaning t c.materialize.new.ctx.tree c.put_constant-put.new.ctx.tree (d.constant_head c.args.attr.now) w c.well_formed-3.ensures.tree made.1.made (c.in_err-put.ensures.err t _ (record { tree = made.1.tree; made = made.1.made; key = made.1.key; value = c.requires.old })) c.in_err-put.ensures.longer
