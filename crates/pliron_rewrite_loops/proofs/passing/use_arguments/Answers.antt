use Rattle.std.proofs.Common.{◌≢◌, ⊎_elim, length, slice_get, refl, sym, ap, ◌∙◌, subst, arith}
use Rattle.std.proofs.lemmas.Bool.{cases_eq}
use Rattle.std.proofs.lemmas.Option.{slice_get_read, slice_get_within}
use Rattle.pliron_core.specs.Tree.{In, IsLive, operands_of}
use Rattle.pliron_core.proofs.HoldingLemmas.{some_is, in_slice, slice_in}
use Rattle.pliron_rewrite_loops.proofs.PassingSteps.{unused_yet}
use Rattle.pliron_rewrite_loops.proofs.passing.use_arguments.Goals as goal

pub loop-i-init : goal.loop-i-init
loop-i-init c = record {
  used = unused_yet c.args.ctx.now.tree c.args.users.now c.args.value c.args.argument c.requires.unused;
  done = λ j k h at. absurd (omega (arith, h));
}

pub use_argument-requires-clause-live : goal.use_argument-requires-clause-live
use_argument-requires-clause-live c =
    let h = c.loop-i-test.true in
    let at = slice_get_read c.args.users.now (length c.args.users.now) c.loop-i.i c.index-users-i.result refl (omega (arith, h)) c.index-users-i.is in
    subst (λ z. IsLive z c.index-users-i.result) c.loop-i.invariant.used.back (c.requires.users c.index-users-i.result (in_slice c.args.users.now c.loop-i.i c.index-users-i.result at))

pub returns-in_err-use_argument-clause-used : goal.returns-in_err-use_argument-clause-used
returns-in_err-use_argument-clause-used c =
    let h = c.loop-i-test.true in
    let at = slice_get_read c.args.users.now (length c.args.users.now) c.loop-i.i c.index-users-i.result refl (omega (arith, h)) c.index-users-i.is in
    c.use_argument.ensures.used c.args.ctx.now.tree c.args.users.now (in_slice c.args.users.now c.loop-i.i c.index-users-i.result at) c.loop-i.invariant.used

pub loop-i-preserved : goal.loop-i-preserved
loop-i-preserved c =
    let h = c.loop-i-test.true in
    let at = slice_get_read c.args.users.now (length c.args.users.now) c.loop-i.i c.index-users-i.result refl (omega (arith, h)) c.index-users-i.is in
    record {
      used = c.use_argument.ensures.used c.args.ctx.now.tree c.args.users.now (in_slice c.args.users.now c.loop-i.i c.index-users-i.result at) c.loop-i.invariant.used;
      done = λ j k less there i. ⊎_elim
          (λ q. c.in_ok-use_argument.ensures.all (subst (λ z. In c.args.value (operands_of c.use_argument.new.ctx.tree z)) q i))
          (λ apart.
          let other : j ≢ c.loop-i.i = λ q. apart (some_is (sym there ∙ ap (slice_get c.args.users.now) q ∙ at)) in
          c.loop-i.invariant.done j k (omega (arith, less, other)) there (subst (In c.args.value) (c.use_argument.ensures.others k apart) i))
          (cases_eq k c.index-users-i.result);
    }

pub returns-clause-all : goal.returns-clause-all
returns-clause-all c = λ k i.
    let s = slice_in c.args.users.now k i in
    let l = slice_get_within c.args.users.now s.0 k s.1 in
    let past = c.loop-i-test.false in
    c.loop-i.invariant.done s.0 k (omega (arith, l, past)) s.1
