use Rattle.std.proofs.Common.{rules, ◌≡◌, ◌++◌, ◌∷◌, [], ◌∙◌, ap, sym, take, append_assoc}
use Rattle.pliron_core.specs.Edges.{succs_of}
use Rattle.pliron_pass.specs.BenchFacts.{pairs_of}
use Rattle.pliron_pass.proofs.BenchFactLemmas.{pair_added}
use Rattle.pliron_pass.proofs.bench_facts.push_pairs.Goals as goal

pub loop-i-preserved : goal.loop-i-preserved
loop-i-preserved c =
    let b = c.args.block in
    let succs = succs_of c.args.ctx.now.tree b in
    let pushed : c.push.new.self.items ≡ c.loop-i.pairs.items ++ (b, c.get_succ.result) ∷ [] = search rules in
    pushed
    ∙ ap (λ xs. xs ++ (b, c.get_succ.result) ∷ []) c.loop-i.invariant
    ∙ append_assoc c.args.pairs.now.items (pairs_of (b, take c.loop-i.i succs)) ((b, c.get_succ.result) ∷ [])
    ∙ ap (λ xs. c.args.pairs.now.items ++ xs) (sym (pair_added b c.loop-i.i c.get_succ.result succs c.get_succ.ensures.successor))
