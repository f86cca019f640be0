use Rattle.std.proofs.Common.{◌≡◌, ℕ, Some, IfSome, IfNone, slice_get, true≢false, sym, ◌∙◌, subst, arith}
use Rattle.pliron_core.specs.declared.uses.Use.{Use}
use Rattle.pliron_core.specs.Tree.{uses_of}
use Rattle.pliron_rewrite_arguments.specs.Finding.{EdgeForwards, AreOneSoFar}
use Rattle.pliron_rewrite_arguments.proofs.FindingLemmas.{edges_to, told_same, told_apart, some_there, other_found, so_far_itself, so_far_value, not_without, not_two, ends_some, ends_none}
use Rattle.pliron_rewrite_arguments.proofs.finding.find_one_value.Goals as goal

pub returns-in_default-clause-none : goal.returns-in_default-clause-none
returns-in_default-clause-none g c = λ v h.
    let m = g.D.HasMeaning.meaning in
    let t = c.args.ctx.now.tree in
    let edges = uses_of c.args.ctx.now.block_uses c.args.block in
    let long = c.num_use-i-end.ensures in
    let test = c.loop-i-test.true in
    let e = some_there edges c.loop-i.i (omega (arith, long, test)) in
    let none = subst (λ o. IfNone o ((e : Use) (v : ℕ) → slice_get edges c.loop-i.i ≡ Some e → EdgeForwards m t e c.args.index v → ⊥)) c.in_default.is c.in_ok-value.ensures.none in
    not_without m t c.well_formed-2.ensures.tree c.args.block c.args.index c.get_argument-argument.result edges (edges_to c.args.ctx.now c.well_formed-2.ensures.uses c.args.block) c.get_argument-argument.ensures.argument v h c.loop-i.i e.0 e.1 (λ u f. none e.0 u e.1 f)

pub loop-i-preserved-then-eq : goal.loop-i-preserved-then-eq
loop-i-preserved-then-eq g c =
    let m = g.D.HasMeaning.meaning in
    let t = c.args.ctx.now.tree in
    let edges = uses_of c.args.ctx.now.block_uses c.args.block in
    let long = c.num_use-i-end.ensures in
    let test = c.loop-i-test.true in
    let e = some_there edges c.loop-i.i (omega (arith, long, test)) in
    let some = subst (λ o. IfSome o (λ v. (e : Use) → slice_get edges c.loop-i.i ≡ Some e → EdgeForwards m t e c.args.index v)) c.in-Some.is c.in_ok-value.ensures.some in
    so_far_itself m t c.well_formed-2.ensures.tree c.args.block c.args.index c.get_argument-argument.result edges (edges_to c.args.ctx.now c.well_formed-2.ensures.uses c.args.block) c.loop-i.found c.loop-i.i e.0 c.loop-i.invariant e.1 (subst (EdgeForwards m t e.0 c.args.index) (told_same c.in-Some.value c.get_argument-argument.result c.eq.result c.eq.ensures c.if-eq.true) (some e.0 e.1))

pub returns-then-not-is_found_alone-clause-none : goal.returns-then-not-is_found_alone-clause-none
returns-then-not-is_found_alone-clause-none g c = λ v h.
    let m = g.D.HasMeaning.meaning in
    let t = c.args.ctx.now.tree in
    let edges = uses_of c.args.ctx.now.block_uses c.args.block in
    let long = c.num_use-i-end.ensures in
    let test = c.loop-i-test.true in
    let e = some_there edges c.loop-i.i (omega (arith, long, test)) in
    let some = subst (λ o. IfSome o (λ v. (e : Use) → slice_get edges c.loop-i.i ≡ Some e → EdgeForwards m t e c.args.index v)) c.in-Some.is c.in_ok-value.ensures.some in
    let other = other_found c.loop-i.found c.in-Some.value (λ y. true≢false (sym (c.is_found_alone.ensures.1 y) ∙ c.if-not-is_found_alone.true)) in
    not_two m t c.well_formed-2.ensures.tree c.args.block c.args.index c.get_argument-argument.result edges (edges_to c.args.ctx.now c.well_formed-2.ensures.uses c.args.block) c.get_argument-argument.ensures.argument v h c.loop-i.i other.0 c.in-Some.value e.0 (subst (λ z. AreOneSoFar m t edges c.args.index c.get_argument-argument.result z c.loop-i.i) other.1 c.loop-i.invariant) e.1 (some e.0 e.1) (told_apart c.in-Some.value c.get_argument-argument.result c.eq.result c.eq.ensures c.if-eq.false) other.2

pub loop-i-preserved : goal.loop-i-preserved
loop-i-preserved g c =
    let m = g.D.HasMeaning.meaning in
    let t = c.args.ctx.now.tree in
    let edges = uses_of c.args.ctx.now.block_uses c.args.block in
    let long = c.num_use-i-end.ensures in
    let test = c.loop-i-test.true in
    let e = some_there edges c.loop-i.i (omega (arith, long, test)) in
    let some = subst (λ o. IfSome o (λ v. (e : Use) → slice_get edges c.loop-i.i ≡ Some e → EdgeForwards m t e c.args.index v)) c.in-Some.is c.in_ok-value.ensures.some in
    so_far_value m t c.well_formed-2.ensures.tree c.args.block c.args.index c.get_argument-argument.result edges (edges_to c.args.ctx.now c.well_formed-2.ensures.uses c.args.block) c.loop-i.found c.loop-i.i c.in-Some.value e.0 c.loop-i.invariant e.1 (some e.0 e.1) (told_apart c.in-Some.value c.get_argument-argument.result c.eq.result c.eq.ensures c.if-eq.false) (c.is_found_alone.ensures.0 c.if-not-is_found_alone.false)

pub returns-clause-some : goal.returns-clause-some
returns-clause-some g c =
    let edges = uses_of c.args.ctx.now.block_uses c.args.block in
    let long = c.num_use-i-end.ensures in
    let test = c.loop-i-test.false in
    ends_some g.D.HasMeaning.meaning c.args.ctx.now.tree c.well_formed-2.ensures.tree c.args.block c.args.index c.get_argument-argument.result edges (edges_to c.args.ctx.now c.well_formed-2.ensures.uses c.args.block) c.loop-i.found c.loop-i.i (omega (arith, long, test)) c.get_argument-argument.ensures.argument (λ y. true≢false (sym (c.is_entry.ensures.1 y) ∙ c.if-is_entry.false)) c.loop-i.invariant

pub returns-clause-none : goal.returns-clause-none
returns-clause-none g c =
    let edges = uses_of c.args.ctx.now.block_uses c.args.block in
    let long = c.num_use-i-end.ensures in
    let test = c.loop-i-test.false in
    ends_none g.D.HasMeaning.meaning c.args.ctx.now.tree c.well_formed-2.ensures.tree c.args.block c.args.index c.get_argument-argument.result edges (edges_to c.args.ctx.now c.well_formed-2.ensures.uses c.args.block) c.loop-i.found c.loop-i.i (omega (arith, long, test)) c.get_argument-argument.ensures.argument c.loop-i.invariant
