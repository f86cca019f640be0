use Rattle.std.proofs.Common.{◌≤◌, ◌+◌, ◌≡◌, ◌∙◌, ℕ, suc, List, [], length, take, arith, sym, ap, subst, refl}
use Rattle.std.proofs.lemmas.Option.{slice_get_read}
use Rattle.std.proofs.lemmas.List.{take_all}
use Rattle.pliron_core.proofs.ArgumentLemmas.{take_more}
use Rattle.pliron_theory.specs.Keeps.{IsFit}
use Rattle.pliron_pass_fit.specs.Chosen.{AreChosen}
use Rattle.pliron_pass_fit.specs.Chosen.AreChosen.{NoMore}
use Rattle.pliron_pass_fit.proofs.find.fit_roots.Goals as goal

add_one : (i : ℕ) → suc i ≡ i + 1
add_one i = omega arith

pub loop-root-init : goal.loop-root-init
loop-root-init g c = subst (AreChosen (IsFit g.D.HasMeaning.meaning c.args.ctx.now.tree) []) (sym c.new-found.ensures.items) NoMore

pub loop-root-preserved : goal.loop-root-preserved
loop-root-preserved g c =
    let xs : List ℕ = c.args.roots.now in
    let i = c.loop-root.root-index in
    let root = c.root-item.result in
    let at = slice_get_read xs (length xs) i root refl c.loop-root-test.true c.root-item.is in
    let more = sym (take_more xs i root at) ∙ ap (λ n. take n xs) (add_one i) in
    subst (λ z. AreChosen (IsFit g.D.HasMeaning.meaning c.args.ctx.now.tree) z c.add_if_fit.new.found.items) more (c.in_ok-add_if_fit.ensures.added (take i xs) c.loop-root.invariant)

pub returns-clause-fit : goal.returns-clause-fit
returns-clause-fit g c =
    let xs : List ℕ = c.args.roots.now in
    let whole : length xs ≤ c.loop-root.root-index = omega (arith, c.loop-root-test.false) in
    subst (λ z. AreChosen (IsFit g.D.HasMeaning.meaning c.args.ctx.now.tree) z c.loop-root.found.items) (take_all c.loop-root.root-index xs whole) c.loop-root.invariant
