use Rattle.std.proofs.Common.{◌≡◌, ℕ, List, subst, refl, MatchOption}
use Rattle.pliron_rewrite_blocks.specs.Pairs.{IsMergeable}
use Rattle.pliron_opt_cfg.specs.declared.merging.pairs.Pair.{Pair}
use Rattle.pliron_opt_cfg.specs.Internal.Chains.{MergesAmong.Nothing}
use Rattle.pliron_opt_cfg.proofs.ChainLemmas.{step_at, linked_one}
use Rattle.pliron_opt_cfg.proofs.merging.merge_at.Goals as goal

pub loop-pair-init : goal.loop-pair-init
loop-pair-init g c = record { way = Nothing; accurate = refl; block = c.requires.block; linked = c.requires.linked }

pub find_pair-requires-clause-edges : goal.find_pair-requires-clause-edges
find_pair-requires-clause-edges g c = λ holder e. (c.loop-pair.invariant.linked holder e).edges

pub loop-pair-smaller : goal.loop-pair-smaller
loop-pair-smaller g c =
    let m = g.D.HasMeaning.meaning in
    let p = c.in-Some.pair in
    let u = c.loop-pair.ctx.tree in
    let found = subst (λ o. MatchOption o ((b jump : ℕ) (values : List ℕ) → IsMergeable m u c.args.first b jump values → ⊥) (λ (pair : Pair). IsMergeable m u c.args.first pair.second pair.jump pair.values.items × (pair.first ≡ c.args.first))) c.in-Some.is c.in_ok-pair.ensures.ok in
    (step_at _ _ _ _ g.met.D.Dialect.forwards_operands c.args.first c.args.ctx.now.tree u c.merge_pair-merged.new.ctx.tree c.loop-pair.status p.first p.second p.jump p.values.items c.well_formed-2.ensures.tree (linked_one m c.args.ctx.now.tree c.args.first c.requires.linked) c.loop-pair.invariant.way c.loop-pair.invariant.accurate found c.well_formed-in-Some.ensures.tree c.in_ok-merged.ensures.ok c.in_ok-merged.ensures.well).smaller

pub loop-pair-preserved : goal.loop-pair-preserved
loop-pair-preserved g c =
    let m = g.D.HasMeaning.meaning in
    let p = c.in-Some.pair in
    let u = c.loop-pair.ctx.tree in
    let found = subst (λ o. MatchOption o ((b jump : ℕ) (values : List ℕ) → IsMergeable m u c.args.first b jump values → ⊥) (λ (pair : Pair). IsMergeable m u c.args.first pair.second pair.jump pair.values.items × (pair.first ≡ c.args.first))) c.in-Some.is c.in_ok-pair.ensures.ok in
    let s = step_at _ _ _ _ g.met.D.Dialect.forwards_operands c.args.first c.args.ctx.now.tree u c.merge_pair-merged.new.ctx.tree c.loop-pair.status p.first p.second p.jump p.values.items c.well_formed-2.ensures.tree (linked_one m c.args.ctx.now.tree c.args.first c.requires.linked) c.loop-pair.invariant.way c.loop-pair.invariant.accurate found c.well_formed-in-Some.ensures.tree c.in_ok-merged.ensures.ok c.in_ok-merged.ensures.well in
    record { way = s.way; accurate = s.accurate; block = s.block; linked = s.linked }
