use Rattle.std.proofs.Common.{length, ap, ◌∙◌, subst}
use Rattle.pliron_core.specs.Tree.{uses_of}
use Rattle.pliron_theory.proofs.EdgesLost.{uses_are_edges}
use Rattle.pliron_rewrite_loops.specs.Lengthening.{EdgesLengthened}
use Rattle.pliron_rewrite_loops.specs.Added.{LengthensEdges, IsArgumentAdded}
use Rattle.pliron_rewrite_loops.proofs.Longer.{framed, block_kept, same_definitions}
use Rattle.pliron_rewrite_loops.proofs.Added.{added_keeps_all}
use Rattle.pliron_rewrite_loops.proofs.adding.add_argument.Goals as goal

pub push_argument-pushed-requires-clause-block : goal.push_argument-pushed-requires-clause-block
push_argument-pushed-requires-clause-block g c =
    let m = g.D.HasMeaning.meaning in
    let sh = g.D.Dialect.shortened in
    let t = c.args.ctx.now.tree in
    let longer = c.lengthen_edges.new.ctx.tree in
    let uses = uses_of c.args.ctx.now.block_uses c.args.block in
    let l = subst (λ b. LengthensEdges m sh c.num_argument-count.result c.args.value uses t longer b) c.if-not-branch.false c.in_ok-lengthen_edges.ensures.ok in
    block_kept t longer (framed m _ _ sh g.met.D.Dialect.forwards_operands c.num_argument-count.result c.args.value uses t longer l) c.args.block c.requires.block

pub returns-clause-added : goal.returns-clause-added
returns-clause-added g c =
    let m = g.D.HasMeaning.meaning in
    let sh = g.D.Dialect.shortened in
    let t = c.args.ctx.now.tree in
    let longer = c.lengthen_edges.new.ctx.tree in
    let uses = uses_of c.args.ctx.now.block_uses c.args.block in
    let l = subst (λ b. LengthensEdges m sh c.num_argument-count.result c.args.value uses t longer b) c.if-not-branch.false c.in_ok-lengthen_edges.ensures.ok in
    record {
      edges = uses;
      longer = longer;
      to = uses_are_edges t c.args.ctx.now.block_uses c.args.block c.well_formed-2.ensures.uses.block_uses;
      lengthened = subst (λ n. EdgesLengthened m sh n c.args.value uses t longer) c.num_argument-count.ensures l;
      pushed = c.in_ok-pushed.ensures.pushed;
      new = c.in_ok-pushed.ensures.argument ∙ ap length (same_definitions t longer (framed m _ _ sh g.met.D.Dialect.forwards_operands c.num_argument-count.result c.args.value uses t longer l));
    }

pub returns-clause-runs : goal.returns-clause-runs
returns-clause-runs g c =
    let m = g.D.HasMeaning.meaning in
    let t = c.args.ctx.now.tree in
    let x : IsArgumentAdded m g.D.Dialect.shortened t c.push_argument-pushed.new.ctx.tree c.args.block c.args.value c.in_ok-pushed.field-0 = returns-clause-added g c in
    (added_keeps_all m _ _ g.D.Dialect.shortened g.met.D.Dialect.forwards_operands (λ h h' s. s.branch) t c.push_argument-pushed.new.ctx.tree c.args.block c.args.value c.in_ok-pushed.field-0 c.well_formed-2.ensures.tree c.well_formed-3.ensures.tree c.requires.block c.requires.value (λ r e q. c.requires.no_entry (r, e, q)) c.requires.may_use x).0

pub returns-clause-runs_back : goal.returns-clause-runs_back
returns-clause-runs_back g c =
    let m = g.D.HasMeaning.meaning in
    let t = c.args.ctx.now.tree in
    let x : IsArgumentAdded m g.D.Dialect.shortened t c.push_argument-pushed.new.ctx.tree c.args.block c.args.value c.in_ok-pushed.field-0 = returns-clause-added g c in
    (added_keeps_all m _ _ g.D.Dialect.shortened g.met.D.Dialect.forwards_operands (λ h h' s. s.branch) t c.push_argument-pushed.new.ctx.tree c.args.block c.args.value c.in_ok-pushed.field-0 c.well_formed-2.ensures.tree c.well_formed-3.ensures.tree c.requires.block c.requires.value (λ r e q. c.requires.no_entry (r, e, q)) c.requires.may_use x).1
