use Rattle.std.proofs.Common.{IfSome, ℕ, sym, subst}
use Rattle.pliron_core.specs.Tree.{In}
use Rattle.pliron_opt_rotate.specs.Tested.{StandsElsewhere}
use Rattle.pliron_opt_rotate.proofs.testing.are_users_behind.Goals as goal

pub returns-clause-behind : goal.returns-clause-behind
returns-clause-behind c = λ e k i.
    let t = c.args.ctx.now.tree in
    let h = subst (λ o. IfSome o (λ blocks. (k : ℕ) → In k c.as_slice-users.result.now → (b : ℕ) × StandsElsewhere t c.args.header c.args.region k b × In b blocks.items)) c.in-Some.is c.in_ok-blocks.ensures.stands in
    let s = h k (subst (In k) (sym c.as_slice-users.ensures.value) i) in
    let there = subst (In s.0) (sym c.as_slice-stands.ensures.value) s.2 in
    record {
      block = s.0;
      stands = s.1;
      behind_gate = c.in_ok-gated.ensures.passed c.if-not-gated.false s.0 there;
      behind_header = c.in_ok-all.ensures.passed e s.0 there;
    }
