use Rattle.std.proofs.Common.{◌≡◌, ◌∷◌, [], ℕ, List, sym, subst, ap, ◌∙◌, Some, refl, arith, suc, ◌+◌, ◌≤◌, length, take}
use Rattle.std.proofs.lemmas.Option.{slice_get-get_or}
use Rattle.std.proofs.lemmas.Bool.{false≢true}
use Rattle.pliron_core.specs.Tree.{In}
use Rattle.pliron_core.proofs.HoldingLemmas.{in_slice}
use Rattle.pliron_laws.proofs.FoldLemmas.{on_err}
use Rattle.pliron_opt_cfg.specs.Internal.Chains.{MergesAmong.Nothing, HasNoPairAmong}
use Rattle.pliron_opt_cfg.proofs.JoinLemmas.{take_all}
use Rattle.pliron_opt_cfg.proofs.ChainLemmas.{IsDone, moved_to, done_dead, done_more, linked_there, half_among, one_in}
use Rattle.pliron_opt_cfg.proofs.merging.merge_among.Goals as goal
use Rattle.pliron_opt_cfg.proofs.merging.merge_among.Goals.{then-is_live+in_ok-merged, else-is_live}

add_suc : (n : ℕ) → suc n ≡ n + 1
add_suc n = omega arith

pub loop-block-init : goal.loop-block-init
loop-block-init g c = record { way = Nothing; accurate = refl; none = λ a b jump values i q. nowhere c.args.blocks.now a i }
  where
    nowhere : (xs : List ℕ) (a : ℕ) → In a (take 0 xs) → ⊥
    nowhere [] a i = i
    nowhere (x ∷ xs) a i = i

pub merge_at-requires-clause-linked : goal.merge_at-requires-clause-linked
merge_at-requires-clause-linked g c =
    let blocks = c.args.blocks.now in
    let at = slice_get-get_or blocks c.loop-block.block-index _ c.loop-block-test.true ∙ ap Some (sym c.block-item.is) in
    λ holder e. linked_there _ _ _ _ g.met.D.Dialect.forwards_operands blocks c.args.ctx.now.tree c.loop-block.ctx.tree c.well_formed-2.ensures.tree c.requires.linked c.loop-block.invariant.way c.block-item.result holder (in_slice blocks c.loop-block.block-index c.block-item.result at) e

pub returns-in_err-merged-clause-refused : goal.returns-in_err-merged-clause-refused
returns-in_err-merged-clause-refused g c =
    let m = g.D.HasMeaning.meaning in
    let blocks = c.args.blocks.now in
    let at = slice_get-get_or blocks c.loop-block.block-index _ c.loop-block-test.true ∙ ap Some (sym c.block-item.is) in
    let i = in_slice blocks c.loop-block.block-index c.block-item.result at in
    on_err _ c.from_residual.result (half_among m blocks (c.block-item.result ∷ []) c.args.ctx.now.tree c.loop-block.ctx.tree c.merge_at.new.ctx.tree (one_in c.block-item.result blocks i) c.loop-block.invariant.way c.in_err-merged.ensures.refused)

pub loop-block-preserved : goal.loop-block-preserved
loop-block-preserved g c =
    let m = g.D.HasMeaning.meaning in
    let t = c.args.ctx.now.tree in
    let blocks = c.args.blocks.now in
    let n = c.loop-block.block-index in
    let at = slice_get-get_or blocks n _ c.loop-block-test.true ∙ ap Some (sym c.block-item.is) in
    let i = in_slice blocks n c.block-item.result at in
    let inv = c.loop-block.invariant in
    let wu = c.well_formed-in-loop-block.ensures.tree in
    let d : IsDone m blocks n t c.if-is_live.ctx.tree c.if-is_live.status = elim c.if-is_live.branch [
      | then-is_live+in_ok-merged k ↦
          let done = done_more m _ _ _ g.met.D.Dialect.forwards_operands blocks n c.block-item.result t c.loop-block.ctx.tree k.merge_at.new.ctx.tree c.loop-block.status k.in_ok-merged.merged c.well_formed-2.ensures.tree c.requires.linked wu at i inv.way inv.accurate inv.none k.in_ok-merged.ensures.ok.0 k.in_ok-merged.ensures.ok.1 k.in_ok-merged.ensures.ok.2 in
          moved_to m blocks n t k.merge_at.new.ctx.tree c.if-is_live.ctx.tree _ c.if-is_live.status done (ap (λ z. z.tree) k.ctx-is) (k.status-is ∙ k.bitor_assign.ensures.after)
      | else-is_live k ↦ moved_to m blocks n t c.loop-block.ctx.tree c.if-is_live.ctx.tree c.loop-block.status c.if-is_live.status (done_dead m blocks n c.block-item.result t c.loop-block.ctx.tree c.loop-block.status wu at (λ is. false≢true (sym k.if-is_live.false ∙ c.is_live.ensures.1 is)) inv.way inv.accurate inv.none) (ap (λ z. z.tree) k.ctx-is) k.status-is
    ] in
    record { way = d.way; accurate = d.accurate; none = subst (λ z. HasNoPairAmong m (take z blocks) c.if-is_live.ctx.tree) (add_suc n) d.none }

pub returns-clause-ok : goal.returns-clause-ok
returns-clause-ok g c =
    let blocks = c.args.blocks.now in
    let le : length blocks ≤ c.loop-block.block-index = omega arith in
    (c.loop-block.invariant.way, subst (λ xs. HasNoPairAmong g.D.HasMeaning.meaning xs c.loop-block.ctx.tree) (take_all blocks c.loop-block.block-index le) c.loop-block.invariant.none, c.loop-block.invariant.accurate)
