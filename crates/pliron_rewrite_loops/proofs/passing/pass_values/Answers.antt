use Rattle.std.proofs.Common.{◌≡◌, ◌≢◌, inl, inr, ⊎_elim, ℕ, length, Some, None, IfSome, slice_get, refl, sym, ap, ◌∙◌, subst, arith}
use Rattle.std.proofs.lemmas.Bool.{cases_eq}
use Rattle.std.proofs.lemmas.Option.{slice_get_read, slice_get_within}
use Rattle.pliron_core.specs.Tree.{In, first_of, operands_of, block_parent_of, layout_of}
use Rattle.pliron_core.proofs.HoldingLemmas.{some_is, in_slice, slice_in}
use Rattle.pliron_theory.specs.Keeps.{with_roots}
use Rattle.pliron_theory.proofs.Keeping.{keeps_refl, keeps_trans}
use Rattle.pliron_rewrite_loops.specs.Passing.{IsValuePassed, AreValuesPassed}
use Rattle.pliron_rewrite_loops.proofs.Passed.{apart_from, defined_still, successors_still, named_leading, may_still}
use Rattle.pliron_rewrite_loops.proofs.Besides.{besides_refl, besides_trans}
use Rattle.pliron_rewrite_loops.proofs.PassedInTurn.{take_past, one_more_passed}
use Rattle.pliron_rewrite_loops.proofs.passing.pass_values.Goals as goal

pub loop-i-init : goal.loop-i-init
loop-i-init g c =
    record {
      tree = c.well_formed-2.ensures.tree;
      keeps = record { successors = λ k. refl; named = λ k y d i. inl i; may_pass = λ b others users q. q };
      besides = besides_refl g.D.HasMeaning.meaning c.args.ctx.now.tree c.args.block c.args.users.now;
      defined = λ y d. d;
      forth = λ chosen. keeps_refl (with_roots g.D.HasMeaning.meaning chosen) c.args.ctx.now.tree;
      back = λ chosen. keeps_refl (with_roots g.D.HasMeaning.meaning chosen) c.args.ctx.now.tree;
      passed = refl;
      unused = λ k y j less there i z. absurd (omega (arith, less));
    }

pub pass_value-requires-clause-block : goal.pass_value-requires-clause-block
pass_value-requires-clause-block g c =
    (c.loop-i.invariant.keeps.may_pass c.args.block c.args.values.now c.args.users.now c.requires).stands

pub pass_value-requires-clause-value : goal.pass_value-requires-clause-value
pass_value-requires-clause-value g c =
    let h = c.loop-i-test.true in
    let v = c.index-values-i.result in
    let at = slice_get_read c.args.values.now (length c.args.values.now) c.loop-i.i v refl (omega (arith, h)) c.index-values-i.is in
    (c.loop-i.invariant.keeps.may_pass c.args.block c.args.values.now c.args.users.now c.requires).defined v (in_slice c.args.values.now c.loop-i.i v at)

pub pass_value-requires-clause-no_entry : goal.pass_value-requires-clause-no_entry
pass_value-requires-clause-no_entry g c =
    (c.loop-i.invariant.keeps.may_pass c.args.block c.args.values.now c.args.users.now c.requires).no_entry

pub pass_value-requires-clause-may_use : goal.pass_value-requires-clause-may_use
pass_value-requires-clause-may_use g c =
    let h = c.loop-i-test.true in
    let v = c.index-values-i.result in
    let at = slice_get_read c.args.values.now (length c.args.values.now) c.loop-i.i v refl (omega (arith, h)) c.index-values-i.is in
    λ chosen root k f j. (c.loop-i.invariant.keeps.may_pass c.args.block c.args.values.now c.args.users.now c.requires).may_use chosen root k v f j (in_slice c.args.values.now c.loop-i.i v at)

pub pass_value-requires-clause-users : goal.pass_value-requires-clause-users
pass_value-requires-clause-users g c =
    (c.loop-i.invariant.keeps.may_pass c.args.block c.args.values.now c.args.users.now c.requires).live

pub pass_value-requires-clause-may_use_arguments : goal.pass_value-requires-clause-may_use_arguments
pass_value-requires-clause-may_use_arguments g c =
    (c.loop-i.invariant.keeps.may_pass c.args.block c.args.values.now c.args.users.now c.requires).behind

pub pass_value-requires-clause-some_edge : goal.pass_value-requires-clause-some_edge
pass_value-requires-clause-some_edge g c =
    (c.loop-i.invariant.keeps.may_pass c.args.block c.args.values.now c.args.users.now c.requires).some_edge

pub returns-in_err-pass_value-clause-some : goal.returns-in_err-pass_value-clause-some
returns-in_err-pass_value-clause-some g c =
    let h = c.loop-i-test.true in
    let v = c.index-values-i.result in
    let at = slice_get_read c.args.values.now (length c.args.values.now) c.loop-i.i v refl (omega (arith, h)) c.index-values-i.is in
    record { count = c.loop-i.i; whole = c.loop-i.ctx.tree; passed = c.loop-i.invariant.passed; next = ⊎_elim (λ e. inl e) (λ p. inr (v, p.0, at, p.1)) c.in_err-pass_value.ensures.refused }

pub returns-in_err-pass_value-clause-runs : goal.returns-in_err-pass_value-clause-runs
returns-in_err-pass_value-clause-runs g c =
    λ chosen. keeps_trans (with_roots g.D.HasMeaning.meaning chosen) c.args.ctx.now.tree c.loop-i.ctx.tree c.pass_value.new.ctx.tree (c.loop-i.invariant.forth chosen) (c.in_err-pass_value.ensures.runs chosen)

pub returns-in_err-pass_value-clause-runs_back : goal.returns-in_err-pass_value-clause-runs_back
returns-in_err-pass_value-clause-runs_back g c =
    λ chosen. keeps_trans (with_roots g.D.HasMeaning.meaning chosen) c.pass_value.new.ctx.tree c.loop-i.ctx.tree c.args.ctx.now.tree (c.in_err-pass_value.ensures.runs_back chosen) (c.loop-i.invariant.back chosen)

pub returns-in_default-clause-runs : goal.returns-in_default-clause-runs
returns-in_default-clause-runs g c =
    λ chosen. keeps_trans (with_roots g.D.HasMeaning.meaning chosen) c.args.ctx.now.tree c.loop-i.ctx.tree c.pass_value.new.ctx.tree (c.loop-i.invariant.forth chosen) (c.in_ok-pass_value.ensures.runs chosen)

pub returns-in_default-clause-runs_back : goal.returns-in_default-clause-runs_back
returns-in_default-clause-runs_back g c =
    λ chosen. keeps_trans (with_roots g.D.HasMeaning.meaning chosen) c.pass_value.new.ctx.tree c.loop-i.ctx.tree c.args.ctx.now.tree (c.in_ok-pass_value.ensures.runs_back chosen) (c.loop-i.invariant.back chosen)

pub loop-i-preserved : goal.loop-i-preserved
loop-i-preserved g c =
    let h = c.loop-i-test.true in
    let v = c.index-values-i.result in
    let at = slice_get_read c.args.values.now (length c.args.values.now) c.loop-i.i v refl (omega (arith, h)) c.index-values-i.is in
    let m = g.D.HasMeaning.meaning in
    let sh = g.D.Dialect.shortened in
    let law = g.met.D.Dialect.forwards_operands in
    let w' = c.well_formed-in-loop-i.ensures.tree in
    let p = subst (λ o. IfSome o (λ a. IsValuePassed m sh c.loop-i.ctx.tree c.pass_value.new.ctx.tree c.args.block v a c.args.users.now)) c.in-Some.is c.in_ok-pass_value.ensures.passed in
    let d = (c.loop-i.invariant.keeps.may_pass c.args.block c.args.values.now c.args.users.now c.requires).defined v (in_slice c.args.values.now c.loop-i.i v at) in
    let entry : (r : ℕ) → block_parent_of c.loop-i.ctx.tree c.args.block ≡ Some r → first_of (layout_of c.loop-i.ctx.tree r) None ≢ Some c.args.block = λ r e q. (c.loop-i.invariant.keeps.may_pass c.args.block c.args.values.now c.args.users.now c.requires).no_entry (r, e, q) in
    record {
      tree = w';
      keeps = record {
        successors = λ k. successors_still m _ _ sh law c.loop-i.ctx.tree p.passed.middle c.args.block v _ c.loop-i.invariant.tree (c.loop-i.invariant.keeps.may_pass c.args.block c.args.values.now c.args.users.now c.requires).stands d entry p.passed.added c.pass_value.new.ctx.tree c.args.users.now w' p.passed.used k ∙ c.loop-i.invariant.keeps.successors k;
        named = λ k y q j. ⊎_elim
            (λ n. c.loop-i.invariant.keeps.named k y q n)
            (λ e. inr (subst (λ z. In z c.args.values.now) (sym e.0) (in_slice c.args.values.now c.loop-i.i v at), subst (In c.args.block) (c.loop-i.invariant.keeps.successors k) e.1))
            (named_leading m _ _ sh law c.loop-i.ctx.tree p.passed.middle c.args.block v _ c.loop-i.invariant.tree (c.loop-i.invariant.keeps.may_pass c.args.block c.args.values.now c.args.users.now c.requires).stands d entry p.passed.added c.pass_value.new.ctx.tree c.args.users.now w' p.passed.used k y (apart_from m _ _ sh law c.loop-i.ctx.tree p.passed.middle c.args.block v _ c.loop-i.invariant.tree (c.loop-i.invariant.keeps.may_pass c.args.block c.args.values.now c.args.users.now c.requires).stands d entry p.passed.added y (c.loop-i.invariant.defined y q)) j);
        may_pass = λ b others users q. may_still m _ _ sh law c.loop-i.ctx.tree p.passed.middle c.args.block v _ c.loop-i.invariant.tree (c.loop-i.invariant.keeps.may_pass c.args.block c.args.values.now c.args.users.now c.requires).stands d entry p.passed.added c.pass_value.new.ctx.tree c.args.users.now w' p.passed.used b others users (c.loop-i.invariant.keeps.may_pass b others users q) c.in_ok-pass_value.ensures.runs c.in_ok-pass_value.ensures.runs_back;
      };
      besides = besides_trans g.D.HasMeaning.meaning c.args.ctx.now.tree c.loop-i.ctx.tree c.pass_value.new.ctx.tree c.args.block c.args.users.now c.loop-i.invariant.besides c.in_ok-pass_value.ensures.besides;
      defined = λ y q. defined_still m _ _ sh law c.loop-i.ctx.tree p.passed.middle c.args.block v _ c.loop-i.invariant.tree (c.loop-i.invariant.keeps.may_pass c.args.block c.args.values.now c.args.users.now c.requires).stands d entry p.passed.added c.pass_value.new.ctx.tree c.args.users.now w' p.passed.used y (c.loop-i.invariant.defined y q);
      forth = λ chosen. keeps_trans (with_roots g.D.HasMeaning.meaning chosen) c.args.ctx.now.tree c.loop-i.ctx.tree c.pass_value.new.ctx.tree (c.loop-i.invariant.forth chosen) (c.in_ok-pass_value.ensures.runs chosen);
      back = λ chosen. keeps_trans (with_roots g.D.HasMeaning.meaning chosen) c.pass_value.new.ctx.tree c.loop-i.ctx.tree c.args.ctx.now.tree (c.in_ok-pass_value.ensures.runs_back chosen) (c.loop-i.invariant.back chosen);
      passed = one_more_passed m sh c.args.block c.args.users.now c.args.values.now c.loop-i.i v _ c.args.ctx.now.tree c.loop-i.ctx.tree c.pass_value.new.ctx.tree at c.loop-i.invariant.passed p;
      unused = λ k y j less there i z.
          let same : y ≡ v → ⊥ = λ q. p.all k i (subst (λ a. In a (operands_of c.pass_value.new.ctx.tree k)) q z) in
          ⊎_elim
          (λ n. ⊎_elim
          (λ q. same (some_is (sym there ∙ ap (slice_get c.args.values.now) q ∙ at)))
          (λ apart. c.loop-i.invariant.unused k y j (omega (arith, less, apart)) there i n)
          (cases_eq j c.loop-i.i))
          (λ e. same e.0)
          (named_leading m _ _ sh law c.loop-i.ctx.tree p.passed.middle c.args.block v _ c.loop-i.invariant.tree (c.loop-i.invariant.keeps.may_pass c.args.block c.args.values.now c.args.users.now c.requires).stands d entry p.passed.added c.pass_value.new.ctx.tree c.args.users.now w' p.passed.used k y (apart_from m _ _ sh law c.loop-i.ctx.tree p.passed.middle c.args.block v _ c.loop-i.invariant.tree (c.loop-i.invariant.keeps.may_pass c.args.block c.args.values.now c.args.users.now c.requires).stands d entry p.passed.added y ((c.loop-i.invariant.keeps.may_pass c.args.block c.args.values.now c.args.users.now c.requires).defined y (in_slice c.args.values.now j y there))) z);
    }

pub returns-clause-passed : goal.returns-clause-passed
returns-clause-passed g c =
    λ z. let past = c.loop-i-test.false in subst (λ z. AreValuesPassed g.D.HasMeaning.meaning g.D.Dialect.shortened c.args.ctx.now.tree c.loop-i.ctx.tree c.args.block z c.args.users.now) (take_past c.args.values.now c.loop-i.i (omega (arith, past))) c.loop-i.invariant.passed

pub returns-clause-unused : goal.returns-clause-unused
returns-clause-unused g c =
    λ z k y i j n.
    let past = c.loop-i-test.false in
    let s = slice_in c.args.values.now y j in
    let l = slice_get_within c.args.values.now s.0 y s.1 in
    c.loop-i.invariant.unused k y s.0 (omega (arith, l, past)) s.1 i n

pub returns-clause-keeps : goal.returns-clause-keeps
returns-clause-keeps g c = λ z. c.loop-i.invariant.keeps

pub returns-clause-some : goal.returns-clause-some
returns-clause-some g c =
    record { count = c.loop-i.i; whole = c.loop-i.ctx.tree; passed = c.loop-i.invariant.passed; next = inl refl }

pub returns-clause-runs : goal.returns-clause-runs
returns-clause-runs g c =
    c.loop-i.invariant.forth

pub returns-clause-runs_back : goal.returns-clause-runs_back
returns-clause-runs_back g c =
    c.loop-i.invariant.back

pub returns-in_err-pass_value-clause-besides : goal.returns-in_err-pass_value-clause-besides
returns-in_err-pass_value-clause-besides g c =
    besides_trans g.D.HasMeaning.meaning c.args.ctx.now.tree c.loop-i.ctx.tree c.pass_value.new.ctx.tree c.args.block c.args.users.now c.loop-i.invariant.besides c.in_err-pass_value.ensures.besides

pub returns-in_default-clause-besides : goal.returns-in_default-clause-besides
returns-in_default-clause-besides g c =
    besides_trans g.D.HasMeaning.meaning c.args.ctx.now.tree c.loop-i.ctx.tree c.pass_value.new.ctx.tree c.args.block c.args.users.now c.loop-i.invariant.besides c.in_ok-pass_value.ensures.besides

pub returns-clause-besides : goal.returns-clause-besides
returns-clause-besides g c = c.loop-i.invariant.besides
