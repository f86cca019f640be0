use Rattle.std.proofs.Common.{sym, ◌∙◌, subst, refl}
use Rattle.std.proofs.lemmas.Bool.{false≢true}
use Rattle.pliron_core.specs.Tree.{In}
use Rattle.pliron_opt_cfg.proofs.PairLemmas.{values_defined, not_by_count, not_by_argument, pair_of}
use Rattle.pliron_opt_cfg.proofs.merging.pairs.find_pair.Goals as goal
use Rattle.pliron_opt_cfg.proofs.merging.pairs.find_pair.Goals.{then-len-num_argument-via-then-len-num_argument, then-len-num_argument-via-else-len-num_argument+then-has_argument}

pub has_argument-requires : goal.has_argument-requires
has_argument-requires g c = λ v i.
    values_defined g.D.HasMeaning.meaning c.args.ctx.now.tree c.well_formed-2.ensures.tree c.args.first c.in-Some.way.second c.in-Some.way.jump c.in_ok-values.values.items c.in-Some.ensures c.in_ok-values.ensures.ok v (subst (In v) c.deref.ensures.value i)

pub returns-then-len-num_argument-clause-ok : goal.returns-then-len-num_argument-clause-ok
returns-then-len-num_argument-clause-ok g c = λ b j others h.
    let m = g.D.HasMeaning.meaning in
    let t = c.args.ctx.now.tree in
    let w = c.well_formed-2.ensures.tree in
    elim c.then-len-num_argument.branch [
      | then-len-num_argument-via-then-len-num_argument k ↦ not_by_count m t w c.args.first c.in-Some.way.second c.in-Some.way.jump b j c.in_ok-values.values.items others c.in-Some.ensures c.in_ok-values.ensures.ok (λ e. k.if-len-num_argument.true (c.len.ensures ∙ c.in_ok-values.values.ok.0 ∙ e ∙ sym c.num_argument.ensures)) h
      | then-len-num_argument-via-else-len-num_argument+then-has_argument k ↦
          let x = k.has_argument.ensures.0 k.if-has_argument.true in
          not_by_argument m t w c.args.first c.in-Some.way.second c.in-Some.way.jump b j c.in_ok-values.values.items others c.in-Some.ensures c.in_ok-values.ensures.ok (x.0, subst (In x.0) k.deref.ensures.value x.1, x.2) h
    ]

pub returns-clause-ok : goal.returns-clause-ok
returns-clause-ok g c = (
  pair_of g.D.HasMeaning.meaning c.args.ctx.now.tree c.args.first _ _ c.in_ok-values.values.items c.in-Some.ensures c.in_ok-values.ensures.ok (sym c.in_ok-values.values.ok.0 ∙ sym c.len.ensures ∙ c.if-len-num_argument.false ∙ c.num_argument.ensures) (λ v i k. false≢true (sym c.if-has_argument.false ∙ c.has_argument.ensures.1 (v, subst (In v) (sym c.deref.ensures.value) i, k))),
  refl,
)
