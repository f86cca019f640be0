use Rattle.std.proofs.Common.{◌≡◌, ◌++◌, ◌∷◌, [], ◌+◌, ◌≤◌, length, take, drop, ⊎_elim, inl, IsSome, arith, refl, sym, ap, ◌∙◌, subst}
use Rattle.std.proofs.lemmas.List.{take_more, take_all}
use Rattle.pliron_core.specs.Tree.{Tree, IsLive}
use Rattle.pliron_core.proofs.WalkLemmas.{held_live}
use Rattle.pliron_opt_symbols.specs.Kept.{symbol_reads}
use Rattle.pliron_opt_symbols.specs.Erasing.{AreErasableFunctions, KeepsRunsInside}
use Rattle.pliron_opt_symbols.specs.ErasedStates.{AreErased}
use Rattle.pliron_opt_symbols.proofs.ErasedLemmas.{none_erased, one_erased, rest_erasable, rest_step}
use Rattle.pliron_opt_symbols.proofs.KeptLemmas.{nothing_erased, runs_kept_inside}
use Rattle.pliron_opt_symbols.proofs.erasing.symbol_dce.Goals as goal

pub returns-in_err-gone-clause-kept : goal.returns-in_err-gone-clause-kept
returns-in_err-gone-clause-kept g c = nothing_erased g.D.HasMeaning.meaning g.D.InliningDialect.convention c.args.ctx.now.tree c.args.holder c.well_formed-2.ensures.tree

pub returns-in_err-room-clause-kept : goal.returns-in_err-room-clause-kept
returns-in_err-room-clause-kept g c = nothing_erased g.D.HasMeaning.meaning g.D.InliningDialect.convention c.args.ctx.now.tree c.args.holder c.well_formed-2.ensures.tree

pub returns-then-is_empty-clause-kept : goal.returns-then-is_empty-clause-kept
returns-then-is_empty-clause-kept g c = nothing_erased g.D.HasMeaning.meaning g.D.InliningDialect.convention c.args.ctx.now.tree c.args.holder c.well_formed-2.ensures.tree

pub loop-function-init : goal.loop-function-init
loop-function-init g c =
    let t = c.args.ctx.now.tree in
    let fs = c.deref-function-items.result.now in
    let same = c.deref-function-items.ensures.value in
    let some : length c.in_ok-gone.gone.items ≡ 0 → ⊥ = λ e. grind (arith, e, c.is_empty.ensures, c.if-is_empty.false) in
    let free = ⊎_elim (λ x. x.0.free) (λ x. absurd (some (ap length x.0))) c.in_ok-gone.ensures.unkept in
    record {
      done = none_erased g.D.HasMeaning.meaning t c.args.holder c.well_formed-2.ensures.tree free;
      rest = subst (AreErasableFunctions t c.args.holder) (sym same) c.in_ok-gone.ensures.erasable;
      point = c.room.ensures.point;
    }

pub erase_function-requires-clause-live : goal.erase_function-requires-clause-live
erase_function-requires-clause-live g c =
    let u = c.loop-function.ctx.tree in
    let fs = c.deref-function-items.result.now in
    let f = c.function-item.result in
    let rest = subst (AreErasableFunctions u c.args.holder) (rest_step fs c.loop-function.function-index f c.loop-function-test.true c.function-item.is) c.loop-function.invariant.rest in
    held_live u c.loop-function.invariant.done.is_tree f c.args.holder (rest.parents f (inl refl))

pub erase_function-requires-clause-contained : goal.erase_function-requires-clause-contained
erase_function-requires-clause-contained g c =
    let u = c.loop-function.ctx.tree in
    let fs = c.deref-function-items.result.now in
    let f = c.function-item.result in
    let rest = subst (AreErasableFunctions u c.args.holder) (rest_step fs c.loop-function.function-index f c.loop-function-test.true c.function-item.is) c.loop-function.invariant.rest in
    rest.contained f (inl refl)

pub loop-function-preserved : goal.loop-function-preserved
loop-function-preserved g c =
    let m = g.D.HasMeaning.meaning in
    let t = c.args.ctx.now.tree in
    let u = c.loop-function.ctx.tree in
    let v = c.erase_function.new.ctx.tree in
    let holder = c.args.holder in
    let fs = c.deref-function-items.result.now in
    let i = c.loop-function.function-index in
    let f = c.function-item.result in
    let done = c.loop-function.invariant.done in
    let rest = subst (AreErasableFunctions u holder) (rest_step fs i f c.loop-function-test.true c.function-item.is) c.loop-function.invariant.rest in
    let parent = rest.parents f (inl refl) in
    let contained = rest.contained f (inl refl) in
    let more = take_more fs i f c.loop-function-test.true ∙ ap (λ z. take i fs ++ z ∷ []) (sym c.function-item.is) in
    record {
      done = subst (AreErased m t v holder) (sym more) (one_erased u v holder f done.is_tree c.erase_function.ensures.tree c.erase_function.ensures.erased done.free parent contained m t (take i fs) done);
      rest = rest_erasable u v holder f done.is_tree c.erase_function.ensures.tree c.erase_function.ensures.erased done.free parent contained (drop (i + 1) fs) rest;
      point = c.erase_function.ensures.point ∙ c.loop-function.invariant.point;
    }

pub returns-clause-erased : goal.returns-clause-erased
returns-clause-erased g c =
    let t = c.args.ctx.now.tree in
    let fs = c.deref-function-items.result.now in
    let all : length fs ≤ c.loop-function.function-index = omega (arith, c.loop-function-test.false) in
    let done = subst (AreErased g.D.HasMeaning.meaning t c.loop-function.ctx.tree c.args.holder) (take_all c.loop-function.function-index fs all ∙ c.deref-function-items.ensures.value) c.loop-function.invariant.done in
    done.tree

pub returns-clause-kept : goal.returns-clause-kept
returns-clause-kept g c =
    let m = g.D.HasMeaning.meaning in
    let t = c.args.ctx.now.tree in
    let u = c.loop-function.ctx.tree in
    let fs = c.deref-function-items.result.now in
    let s = symbol_reads g.D.InliningDialect.callee (g.P.SymbolPolicy.is_private c.args.policy.now) (g.P.SymbolPolicy.is_traced c.args.policy.now) in
    let all : length fs ≤ c.loop-function.function-index = omega (arith, c.loop-function-test.false) in
    let done = subst (AreErased m t u c.args.holder) (take_all c.loop-function.function-index fs all ∙ c.deref-function-items.ensures.value) c.loop-function.invariant.done in
    let some : length c.in_ok-gone.gone.items ≡ 0 → ⊥ = λ e. grind (arith, e, c.is_empty.ensures, c.if-is_empty.false) in
    ⊎_elim
    (λ x. runs_kept_inside m g.D.InliningDialect.convention s t u c.args.holder c.in_ok-gone.gone.items done.is_tree (g.met.P.SymbolPolicy.callers c.args.policy.now) x.0 x.1 done)
    (λ x. absurd (some (ap length x.0)))
    c.in_ok-gone.ensures.unkept

pub returns-clause-liveness : goal.returns-clause-liveness
returns-clause-liveness g c = subst (λ o. IsSome o) (sym c.loop-function.invariant.done.holder_head) c.requires
