use Rattle.std.proofs.Common.{◌≡◌, ◌≢◌, inr, ℕ, Some, None, IfSome, subst}
use Rattle.pliron_core.specs.Tree.{first_of, block_parent_of, layout_of}
use Rattle.pliron_laws.proofs.FoldLemmas.{on_err}
use Rattle.pliron_rewrite_loops.specs.Added.{IsArgumentAdded}
use Rattle.pliron_rewrite_loops.proofs.Passed.{apart, is_defined, unused, live_still, passed_keeps, besides}
use Rattle.pliron_rewrite_loops.proofs.passing.pass_value.Goals as goal

pub use_arguments-used-requires-clause-users : goal.use_arguments-used-requires-clause-users
use_arguments-used-requires-clause-users g c =
    let m = g.D.HasMeaning.meaning in
    let sh = g.D.Dialect.shortened in
    let law = g.met.D.Dialect.forwards_operands in
    let t = c.args.ctx.now.tree in
    let s = c.add_argument.new.ctx.tree in
    let w = c.well_formed-2.ensures.tree in
    let entry : (r : ℕ) → block_parent_of t c.args.block ≡ Some r → first_of (layout_of t r) None ≢ Some c.args.block = λ r e q. c.requires.no_entry (r, e, q) in
    let x = subst (λ o. IfSome o (λ a. IsArgumentAdded m sh t s c.args.block c.args.value a)) c.in-Some.is c.in_ok-argument.ensures.added in
    λ k i. live_still m _ _ sh law t s c.args.block c.args.value c.in-Some.argument w c.requires.block c.requires.value entry x k (c.requires.users k i)

pub use_arguments-used-requires-clause-argument : goal.use_arguments-used-requires-clause-argument
use_arguments-used-requires-clause-argument g c =
    let m = g.D.HasMeaning.meaning in
    let sh = g.D.Dialect.shortened in
    let law = g.met.D.Dialect.forwards_operands in
    let t = c.args.ctx.now.tree in
    let s = c.add_argument.new.ctx.tree in
    let w = c.well_formed-2.ensures.tree in
    let entry : (r : ℕ) → block_parent_of t c.args.block ≡ Some r → first_of (layout_of t r) None ≢ Some c.args.block = λ r e q. c.requires.no_entry (r, e, q) in
    let x = subst (λ o. IfSome o (λ a. IsArgumentAdded m sh t s c.args.block c.args.value a)) c.in-Some.is c.in_ok-argument.ensures.added in
    is_defined m _ _ sh law t s c.args.block c.args.value c.in-Some.argument w c.requires.block c.requires.value entry x c.well_formed-3.ensures.tree

pub use_arguments-used-requires-clause-unused : goal.use_arguments-used-requires-clause-unused
use_arguments-used-requires-clause-unused g c =
    let m = g.D.HasMeaning.meaning in
    let sh = g.D.Dialect.shortened in
    let law = g.met.D.Dialect.forwards_operands in
    let t = c.args.ctx.now.tree in
    let s = c.add_argument.new.ctx.tree in
    let w = c.well_formed-2.ensures.tree in
    let entry : (r : ℕ) → block_parent_of t c.args.block ≡ Some r → first_of (layout_of t r) None ≢ Some c.args.block = λ r e q. c.requires.no_entry (r, e, q) in
    let x = subst (λ o. IfSome o (λ a. IsArgumentAdded m sh t s c.args.block c.args.value a)) c.in-Some.is c.in_ok-argument.ensures.added in
    unused m _ _ sh law t s c.args.block c.args.value c.in-Some.argument w c.requires.block c.requires.value entry x

pub use_arguments-used-requires-clause-apart : goal.use_arguments-used-requires-clause-apart
use_arguments-used-requires-clause-apart g c =
    let m = g.D.HasMeaning.meaning in
    let sh = g.D.Dialect.shortened in
    let law = g.met.D.Dialect.forwards_operands in
    let t = c.args.ctx.now.tree in
    let s = c.add_argument.new.ctx.tree in
    let w = c.well_formed-2.ensures.tree in
    let entry : (r : ℕ) → block_parent_of t c.args.block ≡ Some r → first_of (layout_of t r) None ≢ Some c.args.block = λ r e q. c.requires.no_entry (r, e, q) in
    let x = subst (λ o. IfSome o (λ a. IsArgumentAdded m sh t s c.args.block c.args.value a)) c.in-Some.is c.in_ok-argument.ensures.added in
    apart m _ _ sh law t s c.args.block c.args.value c.in-Some.argument w c.requires.block c.requires.value entry x

pub returns-in_err-used-clause-refused : goal.returns-in_err-used-clause-refused
returns-in_err-used-clause-refused g c =
    let m = g.D.HasMeaning.meaning in
    let sh = g.D.Dialect.shortened in
    let law = g.met.D.Dialect.forwards_operands in
    let t = c.args.ctx.now.tree in
    let s = c.add_argument.new.ctx.tree in
    let w = c.well_formed-2.ensures.tree in
    let entry : (r : ℕ) → block_parent_of t c.args.block ≡ Some r → first_of (layout_of t r) None ≢ Some c.args.block = λ r e q. c.requires.no_entry (r, e, q) in
    let x = subst (λ o. IfSome o (λ a. IsArgumentAdded m sh t s c.args.block c.args.value a)) c.in-Some.is c.in_ok-argument.ensures.added in
    on_err _ c.from_residual-in_err-used.result (inr (c.in-Some.argument, record { middle = s; added = x; used = c.in_err-used.ensures.used }))

pub returns-in_err-used-clause-runs : goal.returns-in_err-used-clause-runs
returns-in_err-used-clause-runs g c =
    let m = g.D.HasMeaning.meaning in
    let sh = g.D.Dialect.shortened in
    let law = g.met.D.Dialect.forwards_operands in
    let t = c.args.ctx.now.tree in
    let s = c.add_argument.new.ctx.tree in
    let w = c.well_formed-2.ensures.tree in
    let entry : (r : ℕ) → block_parent_of t c.args.block ≡ Some r → first_of (layout_of t r) None ≢ Some c.args.block = λ r e q. c.requires.no_entry (r, e, q) in
    let x = subst (λ o. IfSome o (λ a. IsArgumentAdded m sh t s c.args.block c.args.value a)) c.in-Some.is c.in_ok-argument.ensures.added in
    (passed_keeps m _ _ sh law t s c.args.block c.args.value c.in-Some.argument w c.requires.block c.requires.value entry x c.use_arguments-used.new.ctx.tree c.args.users.now c.well_formed-4.ensures.tree c.in_err-used.ensures.used c.arguments_are_pushed.ensures c.in_ok-argument.ensures.runs c.in_ok-argument.ensures.runs_back c.requires.may_use_arguments c.requires.some_edge).0

pub returns-in_err-used-clause-runs_back : goal.returns-in_err-used-clause-runs_back
returns-in_err-used-clause-runs_back g c =
    let m = g.D.HasMeaning.meaning in
    let sh = g.D.Dialect.shortened in
    let law = g.met.D.Dialect.forwards_operands in
    let t = c.args.ctx.now.tree in
    let s = c.add_argument.new.ctx.tree in
    let w = c.well_formed-2.ensures.tree in
    let entry : (r : ℕ) → block_parent_of t c.args.block ≡ Some r → first_of (layout_of t r) None ≢ Some c.args.block = λ r e q. c.requires.no_entry (r, e, q) in
    let x = subst (λ o. IfSome o (λ a. IsArgumentAdded m sh t s c.args.block c.args.value a)) c.in-Some.is c.in_ok-argument.ensures.added in
    (passed_keeps m _ _ sh law t s c.args.block c.args.value c.in-Some.argument w c.requires.block c.requires.value entry x c.use_arguments-used.new.ctx.tree c.args.users.now c.well_formed-4.ensures.tree c.in_err-used.ensures.used c.arguments_are_pushed.ensures c.in_ok-argument.ensures.runs c.in_ok-argument.ensures.runs_back c.requires.may_use_arguments c.requires.some_edge).1

pub returns-clause-passed : goal.returns-clause-passed
returns-clause-passed g c =
    let m = g.D.HasMeaning.meaning in
    let sh = g.D.Dialect.shortened in
    let law = g.met.D.Dialect.forwards_operands in
    let t = c.args.ctx.now.tree in
    let s = c.add_argument.new.ctx.tree in
    let w = c.well_formed-2.ensures.tree in
    let entry : (r : ℕ) → block_parent_of t c.args.block ≡ Some r → first_of (layout_of t r) None ≢ Some c.args.block = λ r e q. c.requires.no_entry (r, e, q) in
    let x = subst (λ o. IfSome o (λ a. IsArgumentAdded m sh t s c.args.block c.args.value a)) c.in-Some.is c.in_ok-argument.ensures.added in
    record { passed = record { middle = s; added = x; used = c.in_ok-used.ensures.used }; all = c.in_ok-used.ensures.all }

pub returns-clause-runs : goal.returns-clause-runs
returns-clause-runs g c =
    let m = g.D.HasMeaning.meaning in
    let sh = g.D.Dialect.shortened in
    let law = g.met.D.Dialect.forwards_operands in
    let t = c.args.ctx.now.tree in
    let s = c.add_argument.new.ctx.tree in
    let w = c.well_formed-2.ensures.tree in
    let entry : (r : ℕ) → block_parent_of t c.args.block ≡ Some r → first_of (layout_of t r) None ≢ Some c.args.block = λ r e q. c.requires.no_entry (r, e, q) in
    let x = subst (λ o. IfSome o (λ a. IsArgumentAdded m sh t s c.args.block c.args.value a)) c.in-Some.is c.in_ok-argument.ensures.added in
    (passed_keeps m _ _ sh law t s c.args.block c.args.value c.in-Some.argument w c.requires.block c.requires.value entry x c.use_arguments-used.new.ctx.tree c.args.users.now c.well_formed-4.ensures.tree c.in_ok-used.ensures.used c.arguments_are_pushed.ensures c.in_ok-argument.ensures.runs c.in_ok-argument.ensures.runs_back c.requires.may_use_arguments c.requires.some_edge).0

pub returns-clause-runs_back : goal.returns-clause-runs_back
returns-clause-runs_back g c =
    let m = g.D.HasMeaning.meaning in
    let sh = g.D.Dialect.shortened in
    let law = g.met.D.Dialect.forwards_operands in
    let t = c.args.ctx.now.tree in
    let s = c.add_argument.new.ctx.tree in
    let w = c.well_formed-2.ensures.tree in
    let entry : (r : ℕ) → block_parent_of t c.args.block ≡ Some r → first_of (layout_of t r) None ≢ Some c.args.block = λ r e q. c.requires.no_entry (r, e, q) in
    let x = subst (λ o. IfSome o (λ a. IsArgumentAdded m sh t s c.args.block c.args.value a)) c.in-Some.is c.in_ok-argument.ensures.added in
    (passed_keeps m _ _ sh law t s c.args.block c.args.value c.in-Some.argument w c.requires.block c.requires.value entry x c.use_arguments-used.new.ctx.tree c.args.users.now c.well_formed-4.ensures.tree c.in_ok-used.ensures.used c.arguments_are_pushed.ensures c.in_ok-argument.ensures.runs c.in_ok-argument.ensures.runs_back c.requires.may_use_arguments c.requires.some_edge).1

pub returns-in_err-used-clause-besides : goal.returns-in_err-used-clause-besides
returns-in_err-used-clause-besides g c =
    let m = g.D.HasMeaning.meaning in
    let sh = g.D.Dialect.shortened in
    let law = g.met.D.Dialect.forwards_operands in
    let t = c.args.ctx.now.tree in
    let s = c.add_argument.new.ctx.tree in
    let w = c.well_formed-2.ensures.tree in
    let entry : (r : ℕ) → block_parent_of t c.args.block ≡ Some r → first_of (layout_of t r) None ≢ Some c.args.block = λ r e q. c.requires.no_entry (r, e, q) in
    let x = subst (λ o. IfSome o (λ a. IsArgumentAdded m sh t s c.args.block c.args.value a)) c.in-Some.is c.in_ok-argument.ensures.added in
    besides m _ _ sh law t s c.args.block c.args.value c.in-Some.argument w c.requires.block c.requires.value entry x c.use_arguments-used.new.ctx.tree c.args.users.now c.well_formed-4.ensures.tree c.in_err-used.ensures.used

pub returns-clause-besides : goal.returns-clause-besides
returns-clause-besides g c =
    let m = g.D.HasMeaning.meaning in
    let sh = g.D.Dialect.shortened in
    let law = g.met.D.Dialect.forwards_operands in
    let t = c.args.ctx.now.tree in
    let s = c.add_argument.new.ctx.tree in
    let w = c.well_formed-2.ensures.tree in
    let entry : (r : ℕ) → block_parent_of t c.args.block ≡ Some r → first_of (layout_of t r) None ≢ Some c.args.block = λ r e q. c.requires.no_entry (r, e, q) in
    let x = subst (λ o. IfSome o (λ a. IsArgumentAdded m sh t s c.args.block c.args.value a)) c.in-Some.is c.in_ok-argument.ensures.added in
    besides m _ _ sh law t s c.args.block c.args.value c.in-Some.argument w c.requires.block c.requires.value entry x c.use_arguments-used.new.ctx.tree c.args.users.now c.well_formed-4.ensures.tree c.in_ok-used.ensures.used
