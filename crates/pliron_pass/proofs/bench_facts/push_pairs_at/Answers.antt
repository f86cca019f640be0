use Rattle.std.proofs.Common.{rules, ◌≡◌, ◌≢◌, ◌++◌, [], ◌∙◌, ap, sym, subst, Some, None, OnOk, append-nil}
use Rattle.pliron_core.specs.Lists.{first_of}
use Rattle.pliron_core.specs.Tree.{parent_of, body_of}
use Rattle.pliron_pass.proofs.BenchFactLemmas.{pairs_first, pairs_later}
use Rattle.pliron_pass.proofs.bench_facts.push_pairs_at.Goals as goal

pub returns-in-Some-clause-added : goal.returns-in-Some-clause-added
returns-in-Some-clause-added c =
    let t = c.args.ctx.now.tree in
    let parent : parent_of t c.args.op ≡ Some c.in-Some.block = search rules in
    let first : first_of (body_of t c.in-Some.block) None ≡ Some c.args.op = search rules in
    subst (λ z. OnOk c.push_pairs.result (c.push_pairs.new.pairs.items ≡ c.args.pairs.now.items ++ z)) (sym (pairs_first t c.args.op c.in-Some.block parent first)) c.push_pairs.ensures.added

pub returns-in_default-clause-added : goal.returns-in_default-clause-added
returns-in_default-clause-added c =
    let t = c.args.ctx.now.tree in
    let parent : parent_of t c.args.op ≡ Some c.in-Some.block = search rules in
    let later : first_of (body_of t c.in-Some.block) None ≢ Some c.args.op = search rules in
    sym (ap (λ z. c.args.pairs.now.items ++ z) (pairs_later t c.args.op c.in-Some.block parent later) ∙ append-nil c.args.pairs.now.items)
