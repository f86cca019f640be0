use Rattle.std.proofs.Common.{rules, ◌≡◌, refl, sym, subst, ℕ, nat_eq, Some, IsOk, IfOk}
use Rattle.pliron_pass.specs.Answer.{kept_kinds}
use Rattle.pliron_pass.specs.Cache.{IsFresh, retained}
use Rattle.pliron_pass.specs.Grown.{cached_at}
use Rattle.pliron_pass.proofs.FreshLemmas.{fresh_at, fresh_written}
use Rattle.pliron_pass_tests.specs.Facts.{one_kind}
use Rattle.pliron_pass_tests.specs.declared.facts.Fact.{Fact}
use Rattle.pliron_pass_tests.proofs.changing.AnnotatePass.run.Goals as goal

pub returns-clause-fresh : goal.returns-clause-fresh
returns-clause-fresh c = λ f.
    let t = c.args.ctx.now.tree in
    let w : Fact = record { kind = c.in_ok-fact.fact.now.kind; note = c.args.self.now.note } in
    let ok : IsOk c.get_analysis_mut.result = search rules in
    let h = c.get_analysis_mut.follows.holds w ok in
    let fresh = h.1 f in
    let found = subst (λ r. IfOk r (λ x. cached_at nat_eq h.0 1 c.args.op ≡ Some x.now)) c.in_ok-fact.was h.3 in
    let kind = (fresh_at {K = ℕ} {E = Fact} nat_eq (λ e. e.kind) (λ e o u. Unit {0}) one_kind t h.0 1 c.args.op c.in_ok-fact.fact.now fresh c.requires.live found).0 in
    let written = fresh_written {K = ℕ} {E = Fact} nat_eq (λ e. e.kind) (λ e o u. Unit {0}) t 1 c.args.op w kind (λ l. tt) h.0 fresh in
    let left = subst (λ es. IsFresh {K = ℕ} {E = Fact} nat_eq (λ e. e.kind) (λ e o u. Unit {0}) t es) (sym h.4) written in
    subst (λ z. IsFresh {K = ℕ} {E = Fact} nat_eq (λ e. e.kind) (λ e o u. Unit {0}) t (retained nat_eq z (kept_kinds c.new.result) (c.get_analysis_mut.follows.lender w).cache.entries)) (sym c.new.ensures.0) left

pub returns-clause-outcome : goal.returns-clause-outcome
returns-clause-outcome c =
    let w : Fact = record { kind = c.in_ok-fact.fact.now.kind; note = c.args.self.now.note } in
    let ok : IsOk c.get_analysis_mut.result = search rules in
    (refl, (c.get_analysis_mut.follows.holds w ok).5)
