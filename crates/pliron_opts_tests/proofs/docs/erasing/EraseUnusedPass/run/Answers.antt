use Rattle.pliron_pass.specs.BenchFacts.{fact_kind, HoldsFact}
use Rattle.pliron_pass.specs.contracts.bench_facts.BenchFactKindPartialEq.TheImpl.{ghosts as equality}
use Rattle.pliron_pass_rewrites.proofs.StatusLemmas.{fresh_unless_changed}
use Rattle.pliron_opts_tests.proofs.docs.erasing.EraseUnusedPass.run.Goals as goal

pub returns-clause-fresh : goal.returns-clause-fresh
returns-clause-fresh c =
    fresh_unless_changed equality.eq fact_kind HoldsFact c.args.ctx.now.tree c.erase_each.new.ctx.tree c.args._analyses.now.cache.entries c.new-answer.result.preserved.keys c.in_ok-changed.changed c.new-answer.ensures.1 c.in_ok-changed.ensures.same
