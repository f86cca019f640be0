use Rattle.std.proofs.Common.{◌++◌, ◌∷◌, [], ◌+◌, ◌≤◌, ◌∙◌, take, length, arith, ap, sym, subst}
use Rattle.std.proofs.lemmas.List.{take_more, take_all}
use Rattle.pliron_graph_calls.specs.Names.{names_of}
use Rattle.pliron_graph_calls.specs.CallSites.{AreCallSites, AreCallSites.NoOperations}
use Rattle.pliron_graph_calls.proofs.CallLemmas.{none_more, one_more_call}
use Rattle.std.proofs.lemmas.Option.{MatchOption-at_none, MatchOption-at_some}
use Rattle.pliron_graph_calls.proofs.function_table.FunctionTable.call_sites_among.Goals as goal
use Rattle.pliron_graph_calls.proofs.function_table.FunctionTable.call_sites_among.Goals.{in-Some+in_ok-push, in_default}

pub loop-op-init : goal.loop-op-init
loop-op-init g c = subst (λ ss. AreCallSites g.D.InliningDialect.callee c.args.ctx.now.tree (names_of c.args.self.now.names) [] ss) (sym c.new-sites.ensures.items) NoOperations

pub loop-op-preserved : goal.loop-op-preserved
loop-op-preserved g c =
    let x = c.op-item.result in
    let more = take_more c.args.ops.now c.loop-op.op-index x c.loop-op-test.true ∙ ap (λ z. take c.loop-op.op-index c.args.ops.now ++ z ∷ []) (sym c.op-item.is) in
    let callee = g.D.InliningDialect.callee in
    let t = c.args.ctx.now.tree in
    let names = names_of c.args.self.now.names in
    let ks = c.args.ops.now in
    let i = c.loop-op.op-index in
    elim c.match-branch-2.branch [
      | in-Some+in_ok-push w ↦ subst (λ v. AreCallSites callee t names (take (i + 1) ks) v) (sym (ap (λ v. v.items) w.sites-is ∙ w.in_ok-push.ensures.items))
          (one_more_call callee t names ks i x more c.loop-op.sites.items w.in-Some.site c.loop-op.invariant (MatchOption-at_some _ _ w.in-Some.site w.in-Some.is c.in_ok-site.ensures))
      | in_default w ↦ subst (λ v. AreCallSites callee t names (take (i + 1) ks) v) (sym (ap (λ v. v.items) w.sites-is))
          (none_more callee t names ks i x more c.loop-op.sites.items c.loop-op.invariant (MatchOption-at_none _ _ w.in_default.is c.in_ok-site.ensures))
    ]

pub returns-clause-calls : goal.returns-clause-calls
returns-clause-calls g c =
    let all : length c.args.ops.now ≤ c.loop-op.op-index = omega (arith, c.loop-op-test.false) in
    subst (λ ks. AreCallSites g.D.InliningDialect.callee c.args.ctx.now.tree (names_of c.args.self.now.names) ks c.loop-op.sites.items) (take_all c.loop-op.op-index c.args.ops.now all) c.loop-op.invariant
