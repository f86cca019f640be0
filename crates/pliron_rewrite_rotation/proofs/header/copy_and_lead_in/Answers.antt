use Rattle.std.proofs.Common.{◌≡◌, ◌≤◌, [], ◌∷◌, length, sym, ap, ◌∙◌, subst, arith, rules}
use Rattle.pliron_core.specs.Tree.{Tree}
use Rattle.pliron_rewrite_calls.specs.Copying.{AreCopiedInto}
use Rattle.pliron_rewrite_rotation.specs.HeaderSteps.{copy_of, IsEnteredHeader, IsLeadingIn}
use Rattle.pliron_rewrite_rotation.proofs.CopiedHeader.{leading_none, made_so_many, is_copy}
use Rattle.pliron_rewrite_rotation.proofs.header.copy_and_lead_in.Goals as goal

pub lead_all_in-requires : goal.lead_all_in-requires
lead_all_in-requires g c κs within =
    let source : IsEnteredHeader g.x = c.requires.1.0 in
    let same_tree : g.x.tree ≡ c.args.ctx.now.tree = c.requires.1.1.0 in
    let same_header : g.x.header ≡ c.args.header = c.requires.1.1.1.0 in
    let same_region : g.x.region ≡ c.args.region = c.requires.1.1.1.1.0 in
    let blocks : c.as_slice.result.now ≡ g.x.header ∷ [] = c.as_slice.ensures.value ∙ c.in_ok-blocks.ensures.items ∙ ap (λ z. z ∷ []) (sym same_header) in
    let copied : AreCopiedInto g.x.tree c.copy_blocks.new.ctx.tree g.x.region (g.x.header ∷ []) = subst (λ (z : Tree). AreCopiedInto z c.copy_blocks.new.ctx.tree g.x.region (g.x.header ∷ [])) (sym same_tree) (subst (λ z. AreCopiedInto c.args.ctx.now.tree c.copy_blocks.new.ctx.tree z (g.x.header ∷ [])) (sym same_region) (subst (λ z. AreCopiedInto c.args.ctx.now.tree c.copy_blocks.new.ctx.tree c.args.region z) blocks c.in_ok-copies.ensures.ok)) in
    let leading : IsLeadingIn g.x c.copy_blocks.new.ctx.tree = leading_none g.x source c.copy_blocks.new.ctx.tree c.well_formed-3.ensures.tree copied in
    let known = c.in_ok-copies.ensures.copies.block c.args.header c.in-Some.copy (sym c.copy_of_block.ensures ∙ c.in-Some.is) in
    let key : copy_of g.x ≡ c.in-Some.copy = sym (is_copy g.x source c.copy_blocks.new.ctx.tree c.well_formed-3.ensures.tree copied c.in-Some.copy known.2 (subst (λ (z : Tree). length z.bodies ≤ c.in-Some.copy) (sym same_tree) known.0)) in
    search rules

pub returns-clause-leading : goal.returns-clause-leading
returns-clause-leading g c =
    let source : IsEnteredHeader g.x = c.requires.1.0 in
    let same_tree : g.x.tree ≡ c.args.ctx.now.tree = c.requires.1.1.0 in
    let same_header : g.x.header ≡ c.args.header = c.requires.1.1.1.0 in
    let same_region : g.x.region ≡ c.args.region = c.requires.1.1.1.1.0 in
    let same_entering : g.x.entering ≡ c.args.entering.now = c.requires.1.1.1.1.1 in
    let blocks : c.as_slice.result.now ≡ g.x.header ∷ [] = c.as_slice.ensures.value ∙ c.in_ok-blocks.ensures.items ∙ ap (λ z. z ∷ []) (sym same_header) in
    let copied : AreCopiedInto g.x.tree c.copy_blocks.new.ctx.tree g.x.region (g.x.header ∷ []) = subst (λ (z : Tree). AreCopiedInto z c.copy_blocks.new.ctx.tree g.x.region (g.x.header ∷ [])) (sym same_tree) (subst (λ z. AreCopiedInto c.args.ctx.now.tree c.copy_blocks.new.ctx.tree z (g.x.header ∷ [])) (sym same_region) (subst (λ z. AreCopiedInto c.args.ctx.now.tree c.copy_blocks.new.ctx.tree c.args.region z) blocks c.in_ok-copies.ensures.ok)) in
    let known = c.in_ok-copies.ensures.copies.block c.args.header c.in-Some.copy (sym c.copy_of_block.ensures ∙ c.in-Some.is) in
    let many = made_so_many g.x source c.copy_blocks.new.ctx.tree c.well_formed-3.ensures.tree copied in
    let more = c.in_ok-lead_all_in.ensures.bound in
    let entering = ap length same_entering in
    record {
      key = sym (is_copy g.x source c.copy_blocks.new.ctx.tree c.well_formed-3.ensures.tree copied c.in-Some.copy known.2 (subst (λ (z : Tree). length z.bodies ≤ c.in-Some.copy) (sym same_tree) known.0));
      leading = c.in_ok-lead_all_in.ensures.leading;
      gone = c.in_ok-lead_all_in.ensures.none_live;
      bound = omega (arith, many, more, entering);
    }
