use Rattle.std.proofs.Common.{◌≡◌, ◌+◌, ◌∙◌, ap, subst}
use Rattle.pliron_pass.specs.BenchFacts.{fact_needs, fact_need, pairs_in}
use Rattle.pliron_pass.specs.Grown.{HasNeeds, cached_at}
use Rattle.pliron_pass.specs.declared.bench_facts.BenchFactKind.TheVariants.{Edges as KindEdges}
use Rattle.pliron_pass.proofs.BenchFactLemmas.{total_of_needs}
use Rattle.pliron_pass.specs.contracts.bench_facts.BenchFactKindPartialEq.TheImpl.{ghosts as equality}
use Rattle.pliron_pass.proofs.bench_facts.BenchFactsAnalyses.compute.Goals as goal

pub returns-in-Total-clause-holds : goal.returns-in-Total-clause-holds
returns-in-Total-clause-holds c = λ fresh.
    let es = c.args.manager.now.cache.entries in
    let needs = subst (λ k. HasNeeds equality.eq fact_needs fact_need k c.args.op es) c.in-Total.is c.requires.needs in
    ap (λ n. n + c.cached_size.result) c.cached_pairs.ensures
    ∙ ap (λ n. pairs_in (cached_at equality.eq es KindEdges c.args.op) + n) c.cached_size.ensures
    ∙ total_of_needs c.args.ctx.now.tree c.args.op es c.requires.live needs fresh
