use Rattle.std.proofs.Common.{arith, refl, ℕ, nat_eq}
use Rattle.pliron_core.specs.declared.attrs.IRStatus.TheVariants.{Changed}
use Rattle.pliron_pass.proofs.FreshLemmas.{fresh_result}
use Rattle.pliron_pass_tests.specs.Facts.{one_kind}
use Rattle.pliron_pass_tests.specs.declared.facts.Fact.{Fact}
use Rattle.pliron_pass_tests.proofs.passes.TouchPass.run.Goals as goal

pub returns-clause-fresh : goal.returns-clause-fresh
returns-clause-fresh c =
    let t = c.args.ctx.now.tree in
    fresh_result {K = ℕ} {E = Fact} nat_eq (λ f. f.kind) (λ f o u. Unit {0}) (λ k. nat_eq k 0) one_kind (λ e o t u wt wu s live h. h) (λ e o t u wt wu edges before live s h. h) t t c.well_formed-2.ensures.tree c.well_formed-2.ensures.tree (omega arith) (λ o lt live. live) Changed (λ op before after. refl) c.args.analyses.now.cache.entries c.keep_edge_kinds.result c.keep_edge_kinds.ensures.changed c.keep_edge_kinds.ensures.kept
