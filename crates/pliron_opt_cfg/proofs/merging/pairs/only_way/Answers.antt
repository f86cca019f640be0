use Rattle.std.proofs.Common.{length, sym, ap, ◌∙◌}
use Rattle.std.proofs.lemmas.Bool.{false≢true}
use Rattle.pliron_core.specs.Edges.{succs_from}
use Rattle.pliron_core.proofs.NextLemmas.{keys_differ}
use Rattle.pliron_opt_cfg.proofs.PairLemmas.{one_item, way_jump, second_beside, same_holder_beside, not_branch}
use Rattle.pliron_opt_cfg.proofs.merging.pairs.only_way.Goals as goal
use Rattle.pliron_opt_cfg.proofs.merging.pairs.only_way.Goals.{then-num_successor-ne1-via-then-num_successor-ne1, then-num_successor-ne1-via-else-num_successor-ne1+then-not-is_branch}

pub returns-then-num_successor-ne1 : goal.returns-then-num_successor-ne1
returns-then-num_successor-ne1 g c = λ b j h.
    let x = way_jump g.D.HasMeaning.meaning c.args.ctx.now.tree c.args.first b j c.in-Some.jump h c.in-Some.ensures.last in
    elim c.then-num_successor-ne1.branch [
      | then-num_successor-ne1-via-then-num_successor-ne1 w ↦ w.if-num_successor-ne1.true (c.num_successor.ensures ∙ ap length x.1)
      | then-num_successor-ne1-via-else-num_successor-ne1+then-not-is_branch w ↦ not_branch g.D.HasMeaning.meaning c.args.ctx.now.tree c.args.first b j c.in-Some.jump w.is_branch.result h c.in-Some.ensures.last c.in-Some.ensures.liveness w.is_branch.ensures w.if-not-is_branch.true
    ]

pub has_no_other_way-requires-clause-goes : goal.has_no_other_way-requires-clause-goes
has_no_other_way-requires-clause-goes g c = one_item _ _ (sym c.num_successor.ensures ∙ c.if-num_successor-ne1.false) c.get_successor-second.ensures.successor

pub has_no_other_way-requires-clause-edges : goal.has_no_other_way-requires-clause-edges
has_no_other_way-requires-clause-edges g c =
    let t = c.args.ctx.now.tree in
    let beside = second_beside t c.well_formed-2.ensures.tree c.args.first c.get_successor-second.result c.in-Some.jump c.requires.block c.requires.edges c.in-Some.ensures.last (one_item _ _ (sym c.num_successor.ensures ∙ c.if-num_successor-ne1.false) c.get_successor-second.ensures.successor) in
    λ holder e. c.requires.edges holder (sym (same_holder_beside t c.args.first c.get_successor-second.result beside) ∙ e)

pub returns : goal.returns
returns g c =
    let one = one_item _ _ (sym c.num_successor.ensures ∙ c.if-num_successor-ne1.false) c.get_successor-second.ensures.successor in
    record {
      goes = ap (succs_from c.args.ctx.now.tree) (sym c.in-Some.ensures.last) ∙ one;
      ends = sym c.in-Some.ensures.last;
      apart = keys_differ _ _ (sym c.if-eq.false ∙ c.eq.ensures);
      no_entry = λ r e. false≢true (sym c.if-is_entry.false ∙ c.is_entry.ensures.1 (r, e));
      single = c.has_no_other_way.ensures.0 c.if-not-has_no_other_way.false;
      branch = λ x e. sym (c.is_branch.ensures x e) ∙ c.if-not-is_branch.false;
    }
