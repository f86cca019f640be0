use Rattle.std.proofs.Common.{◌≡◌, ◌++◌, inr, sym, ap, ◌∙◌, subst}
use Rattle.std.specs.List.{flat_map}
use Rattle.std.proofs.lemmas.Result.{MatchResult-weaker, on_ok_weaker}
use Rattle.pliron_core.specs.Tree.{In}
use Rattle.pliron_opt_cfg.specs.Internal.Contents.{contents_in, blocks_directly_in, values_made_by}
use Rattle.pliron_opt_cfg.proofs.ContentsLemmas.{op_live, block_stands, value_defined, no_other_use, other_use}
use Rattle.pliron_opt_cfg.proofs.removal.uses.check_uses.Goals as goal

pub push_inner_blocks-requires : goal.push_inner_blocks-requires
push_inner_blocks-requires c k i = op_live c.args.ctx.now.tree c.well_formed-2.ensures.tree c.args.blocks.now k (subst (In k) (c.deref.ensures.value ∙ c.in_ok-ops.ensures.items) i)

pub values_made-requires-clause-ops : goal.values_made-requires-clause-ops
values_made-requires-clause-ops c k i = op_live c.args.ctx.now.tree c.well_formed-2.ensures.tree c.args.blocks.now k (subst (In k) (c.deref-2.ensures.value ∙ c.in_ok-ops.ensures.items) i)

pub values_made-requires-clause-blocks : goal.values_made-requires-clause-blocks
values_made-requires-clause-blocks c b i =
    let t = c.args.ctx.now.tree in
    let bs = c.args.blocks.now in
    let ops : c.deref.result.now ≡ contents_in t bs = c.deref.ensures.value ∙ c.in_ok-ops.ensures.items in
    let first : c.extend_from_slice.new.self.items ≡ bs = c.in_ok-extend_from_slice.ensures.items ∙ ap (λ z. z ++ bs) c.new-all.ensures.items in
    let same : c.deref-3.result.now ≡ bs ++ flat_map (λ k. blocks_directly_in t k) (contents_in t bs) = c.deref-3.ensures.value ∙ c.in_ok-push_inner_blocks.ensures.items ∙ ap (λ z. z ++ flat_map (λ k. blocks_directly_in t k) c.deref.result.now) first ∙ ap (λ z. bs ++ flat_map (λ k. blocks_directly_in t k) z) ops in
    block_stands t c.well_formed-2.ensures.tree bs c.requires b (subst (In b) same i)

pub check_values-requires : goal.check_values-requires
check_values-requires c v i =
    let t = c.args.ctx.now.tree in
    let bs = c.args.blocks.now in
    let ops : c.deref.result.now ≡ contents_in t bs = c.deref.ensures.value ∙ c.in_ok-ops.ensures.items in
    let ops2 : c.deref-2.result.now ≡ contents_in t bs = c.deref-2.ensures.value ∙ c.in_ok-ops.ensures.items in
    let first : c.extend_from_slice.new.self.items ≡ bs = c.in_ok-extend_from_slice.ensures.items ∙ ap (λ z. z ++ bs) c.new-all.ensures.items in
    let same : c.deref-3.result.now ≡ bs ++ flat_map (λ k. blocks_directly_in t k) (contents_in t bs) = c.deref-3.ensures.value ∙ c.in_ok-push_inner_blocks.ensures.items ∙ ap (λ z. z ++ flat_map (λ k. blocks_directly_in t k) c.deref.result.now) first ∙ ap (λ z. bs ++ flat_map (λ k. blocks_directly_in t k) z) ops in
    let list : c.deref-5.result.now ≡ values_made_by t (contents_in t bs) (bs ++ flat_map (λ k. blocks_directly_in t k) (contents_in t bs)) = c.deref-5.ensures.value ∙ c.in_ok-values.ensures.items ∙ ap (λ z. values_made_by t z c.deref-3.result.now) ops2 ∙ ap (λ z. values_made_by t (contents_in t bs) z) same in
    value_defined t c.well_formed-2.ensures.tree bs v (subst (In v) list i)

pub returns-clause-ok : goal.returns-clause-ok
returns-clause-ok c =
    let t = c.args.ctx.now.tree in
    let bs = c.args.blocks.now in
    let ops : c.deref.result.now ≡ contents_in t bs = c.deref.ensures.value ∙ c.in_ok-ops.ensures.items in
    let ops2 : c.deref-2.result.now ≡ contents_in t bs = c.deref-2.ensures.value ∙ c.in_ok-ops.ensures.items in
    let ops4 : c.deref-4.result.now ≡ contents_in t bs = c.deref-4.ensures.value ∙ c.in_ok-ops.ensures.items in
    let first : c.extend_from_slice.new.self.items ≡ bs = c.in_ok-extend_from_slice.ensures.items ∙ ap (λ z. z ++ bs) c.new-all.ensures.items in
    let same : c.deref-3.result.now ≡ bs ++ flat_map (λ k. blocks_directly_in t k) (contents_in t bs) = c.deref-3.ensures.value ∙ c.in_ok-push_inner_blocks.ensures.items ∙ ap (λ z. z ++ flat_map (λ k. blocks_directly_in t k) c.deref.result.now) first ∙ ap (λ z. bs ++ flat_map (λ k. blocks_directly_in t k) z) ops in
    let list : c.deref-5.result.now ≡ values_made_by t (contents_in t bs) (bs ++ flat_map (λ k. blocks_directly_in t k) (contents_in t bs)) = c.deref-5.ensures.value ∙ c.in_ok-values.ensures.items ∙ ap (λ z. values_made_by t z c.deref-3.result.now) ops2 ∙ ap (λ z. values_made_by t (contents_in t bs) z) same in
    on_ok_weaker c.check_values.result
    (λ used. no_other_use t c.well_formed-2.ensures.tree bs c.in_ok-inside.inside.keys (λ k i. subst (In k) ops4 ((c.in_ok-inside.ensures.keys k).0 i)) (λ v i. used v (subst (In v) (sym list) i)))
    c.check_values.ensures.ok

pub returns-clause-err : goal.returns-clause-err
returns-clause-err c =
    let t = c.args.ctx.now.tree in
    let bs = c.args.blocks.now in
    let ops : c.deref.result.now ≡ contents_in t bs = c.deref.ensures.value ∙ c.in_ok-ops.ensures.items in
    let ops2 : c.deref-2.result.now ≡ contents_in t bs = c.deref-2.ensures.value ∙ c.in_ok-ops.ensures.items in
    let ops4 : c.deref-4.result.now ≡ contents_in t bs = c.deref-4.ensures.value ∙ c.in_ok-ops.ensures.items in
    let first : c.extend_from_slice.new.self.items ≡ bs = c.in_ok-extend_from_slice.ensures.items ∙ ap (λ z. z ++ bs) c.new-all.ensures.items in
    let same : c.deref-3.result.now ≡ bs ++ flat_map (λ k. blocks_directly_in t k) (contents_in t bs) = c.deref-3.ensures.value ∙ c.in_ok-push_inner_blocks.ensures.items ∙ ap (λ z. z ++ flat_map (λ k. blocks_directly_in t k) c.deref.result.now) first ∙ ap (λ z. bs ++ flat_map (λ k. blocks_directly_in t k) z) ops in
    let list : c.deref-5.result.now ≡ values_made_by t (contents_in t bs) (bs ++ flat_map (λ k. blocks_directly_in t k) (contents_in t bs)) = c.deref-5.ensures.value ∙ c.in_ok-values.ensures.items ∙ ap (λ z. values_made_by t z c.deref-3.result.now) ops2 ∙ ap (λ z. values_made_by t (contents_in t bs) z) same in
    MatchResult-weaker c.check_values.result c.check_values.ensures.err (λ x p. p)
    (λ e h. inr (h.0, other_use t c.well_formed-2.ensures.tree bs c.in_ok-inside.inside.keys (λ k i. (c.in_ok-inside.ensures.keys k).1 (subst (In k) (sym ops4) i)) h.1.0 (subst (In h.1.0) list h.1.1) h.1.2))
