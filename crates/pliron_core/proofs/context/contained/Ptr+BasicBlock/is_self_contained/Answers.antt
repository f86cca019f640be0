use Rattle.std.proofs.Common.{◌≡◌, ◌∙◌, sym, false, true, rules}
use Rattle.std.proofs.lemmas.Bool.{false≢true}
use Rattle.pliron_core.proofs.ContainedLemmas.{contained_block-from, contained_block-own, contained_block-body}
use Rattle.pliron_core.proofs.context.contained.Ptr+BasicBlock.is_self_contained.Goals as goal

pub returns-then-keeps_block : goal.returns-then-keeps_block
returns-then-keeps_block c =
    let own : c.keeps_block.result ≡ true = search rules in (
      λ e. contained_block-from c.args.ctx.now.tree c.well_formed-2.ensures.tree c.args.self (c.keeps_block.ensures.0 own) (c.keeps_body.ensures.0 e),
      λ contained. c.keeps_body.ensures.1 (contained_block-body c.args.ctx.now.tree c.well_formed-2.ensures.tree c.args.self contained),
    )

pub returns-else-keeps_block : goal.returns-else-keeps_block
returns-else-keeps_block c =
    let outside : c.keeps_block.result ≡ false = search rules in (
      λ e. absurd (false≢true (sym outside ∙ e)),
      λ contained. c.keeps_block.ensures.1 (contained_block-own c.args.ctx.now.tree c.well_formed-2.ensures.tree c.args.self contained),
    )
