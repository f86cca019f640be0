use Rattle.std.proofs.Common.{sym, ◌∙◌, inr}
use Rattle.pliron_core.proofs.NextLemmas.{keys_unequal, keys_same}
use Rattle.pliron_laws.proofs.AnswerLemmas.{refuted}
use Rattle.pliron_pass_fit.proofs.ContentsLemmas.{listed_within, within_not_root, inside_not_root}
use Rattle.pliron_pass_fit.proofs.contents.is_inside.Goals as goal

pub returns-then-ne : goal.returns-then-ne
returns-then-ne c =
    let t = c.args.ctx.now.tree in
    let w = c.well_formed-2.ensures.tree in
    let listed = listed_within t w c.args.root c.args.contents.now.keys c.requires c.args.op in
    let inner = keys_unequal c.args.op c.args.root c.if-ne.ensures in
    (λ e. within_not_root t w c.args.root c.args.op inner (listed.0 (sym c.contains.ensures ∙ e)), λ u. c.contains.ensures ∙ listed.1 (inr u))

pub returns-else-ne : goal.returns-else-ne
returns-else-ne c =
    let t = c.args.ctx.now.tree in
    let w = c.well_formed-2.ensures.tree in
    let same = keys_same c.args.op c.args.root c.if-ne.ensures in
    (λ e. absurd (refuted c.ne.result c.if-ne.false e), λ u. absurd (inside_not_root t w c.args.root c.args.op u same))
