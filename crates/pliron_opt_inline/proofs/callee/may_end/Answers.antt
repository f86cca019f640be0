use Rattle.std.proofs.Common.{inl, inr, ⊎_elim}
use Rattle.std.proofs.lemmas.Bool.{false≢true}
use Rattle.pliron_laws.proofs.AnswerLemmas.{no}
use Rattle.pliron_opt_inline.specs.Copying.{EndsCopyByHead}
use Rattle.pliron_opt_inline.proofs.CalleeLemmas.{passes, has_passed, fails, fails_at}
use Rattle.pliron_opt_inline.proofs.callee.may_end.Goals as goal

pub returns-then-is_return-clause-exact : goal.returns-then-is_return-clause-exact
returns-then-is_return-clause-exact g c =
    let t = c.args.ctx.now.tree in
    let yes = passes g.D.InliningDialect.returns t c.args.op c.is_return.result c.is_return.ensures.reads c.if-is_return.true in
    (λ e. inl (yes, (c.has_counts.ensures.0 e).0, (c.has_counts.ensures.0 e).1), λ x. ⊎_elim (λ a. c.has_counts.ensures.1 (a.1, a.2)) (λ b. absurd (b.0 yes)) x)

pub returns-then-is_return-clause-ends : goal.returns-then-is_return-clause-ends
returns-then-is_return-clause-ends g c = λ e.
    let t = c.args.ctx.now.tree in
    inl (record {
      is_return = passes g.D.InliningDialect.returns t c.args.op c.is_return.result c.is_return.ensures.reads c.if-is_return.true;
      leaves = c.is_return.ensures.returns c.if-is_return.true;
      gives = (c.has_counts.ensures.0 e).0;
      bare = (c.has_counts.ensures.0 e).1;
    })

pub returns-then-not-never_leaves-clause-exact : goal.returns-then-not-never_leaves-clause-exact
returns-then-not-never_leaves-clause-exact g c =
    let t = c.args.ctx.now.tree in
    let D = g.D.InliningDialect in
    no (EndsCopyByHead D.returns D.stays D.closes t c.args.results c.args.op) (λ x. ⊎_elim
    (λ a. fails D.returns t c.args.op c.is_return.result c.is_return.ensures.reads c.requires c.if-is_return.false a.0)
    (λ b. fails D.stays t c.args.op c.never_leaves.result c.never_leaves.ensures.reads c.requires c.if-not-never_leaves.true b.1) x)

pub returns-clause-exact : goal.returns-clause-exact
returns-clause-exact g c =
    let t = c.args.ctx.now.tree in
    let D = g.D.InliningDialect in (
      λ e. inr (
        fails D.returns t c.args.op c.is_return.result c.is_return.ensures.reads c.requires c.if-is_return.false,
        passes D.stays t c.args.op c.never_leaves.result c.never_leaves.ensures.reads c.if-not-never_leaves.false,
        passes D.closes t c.args.op c.never_gives.result c.never_gives.ensures.reads e,
      ),
      λ x. ⊎_elim
          (λ a. absurd (fails D.returns t c.args.op c.is_return.result c.is_return.ensures.reads c.requires c.if-is_return.false a.0))
          (λ b. has_passed D.closes t c.args.op c.never_gives.result c.never_gives.ensures.reads c.requires b.2) x,
    )

pub returns-clause-ends : goal.returns-clause-ends
returns-clause-ends g c = λ e.
    let t = c.args.ctx.now.tree in
    let D = g.D.InliningDialect in
    inr (record {
      no_return = fails_at D.returns t c.args.op c.is_return.result c.is_return.ensures.reads c.if-is_return.false;
      stays = c.never_leaves.ensures.leaves c.if-not-never_leaves.false;
      closes = c.never_gives.ensures.gives e;
    })
