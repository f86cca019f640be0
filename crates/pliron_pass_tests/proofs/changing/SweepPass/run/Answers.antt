use Rattle.std.proofs.Common.{◌≡◌, refl, sym, subst, ℕ, nat_eq, List, []}
use Rattle.pliron_core.specs.Tree.{Tree}
use Rattle.pliron_core.specs.declared.attrs.IRStatus.{IRStatus}
use Rattle.pliron_core.specs.declared.attrs.IRStatus.TheVariants.{Changed, Unchanged}
use Rattle.pliron_dialect_bench.specs.BenchMoves.{bench}
use Rattle.pliron_theory.proofs.ChangeLemmas.{whole_passes}
use Rattle.pliron_pass.specs.Cache.{IsFresh, retained}
use Rattle.pliron_pass.proofs.FreshLemmas.{fresh_emptied}
use Rattle.pliron_pass_tests.specs.declared.facts.Fact.{Fact}
use Rattle.pliron_pass_tests.proofs.changing.SweepPass.run.Goals as goal

abbrev IsFreshIn : Tree → List ((ℕ × ℕ) × Fact) → Type 0
IsFreshIn t es = IsFresh {K = ℕ} {E = Fact} nat_eq (λ e. e.kind) (λ e o u. Unit {0}) t es

swept : (t u : Tree) (es : List ((ℕ × ℕ) × Fact)) (kept : List ℕ) (status : IRStatus) → kept ≡ [] → (status ≡ Unchanged → u ≡ t) → IsFreshIn t es → IsFreshIn u (retained nat_eq status kept es)
swept t u es kept Unchanged e same f = subst (λ z. IsFreshIn z es) (sym (same refl)) f
swept t u es kept Changed e same f = subst (λ ks. IsFreshIn u (retained nat_eq Changed ks es)) (sym e) (fresh_emptied {K = ℕ} {E = Fact} nat_eq (λ e. e.kind) (λ e o u. Unit {0}) u es)

pub returns-clause-fresh : goal.returns-clause-fresh
returns-clause-fresh c = swept c.args.ctx.now.tree c.dce.new.ctx.tree c.args._analyses.now.cache.entries c.new-answer.result.preserved.keys c.in_ok-changed.changed c.new-answer.ensures.1 c.in_ok-changed.ensures.accurate.0

pub returns-clause-change : goal.returns-clause-change
returns-clause-change c = whole_passes bench c.args.ctx.now.tree c.dce.new.ctx.tree c.args.op c.dce.ensures.change

pub returns-in_err-changed-clause-change : goal.returns-in_err-changed-clause-change
returns-in_err-changed-clause-change c = whole_passes bench c.args.ctx.now.tree c.dce.new.ctx.tree c.args.op c.dce.ensures.change
