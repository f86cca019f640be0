use Rattle.std.proofs.Common.{◌∙◌, Result, Ok, Err, subst}
use Rattle.std.specs.Result.{IfOk}
use Rattle.pliron_core.specs.Lists.{In}
use Rattle.pliron_opt_sccp.specs.Inside.{values_in_preorder}
use Rattle.pliron_opt_sccp.proofs.DistinctLists.{inside_block}
use Rattle.pliron_opt_sccp.proofs.Numbered.{unsearched_when}
use Rattle.pliron_opt_sccp.proofs.Preorder.{same_values}
use Rattle.pliron_opt_sccp.proofs.search.initial_tables.Goals as goal

if_ok_then : {X Y : Type 0} {P Q : X → Type 0} (r : Result X Y) → ((x : X) → P x → Q x) → IfOk r P → IfOk r Q
if_ok_then (Ok x) f p = f x p
if_ok_then (Err e) f p = p

pub count_values-requires : goal.count_values-requires
count_values-requires c = λ b i. inside_block c.args.ctx.now.tree c.well_formed-2.ensures.tree c.args.root b (subst (In b) (c.deref-2.ensures.value ∙ c.in_ok-blocks.ensures.ok) i)

pub returns-clause-ok : goal.returns-clause-ok
returns-clause-ok c =
    let t = c.args.ctx.now.tree in
    let values = c.in_ok-values.values.keys in
    if_ok_then c.with_room_for.result
    (λ s new. unsearched_when t c.args.root c.deref.result.now c.in_ok-numbered.numbered.keys (values_in_preorder t c.args.root) values s (c.deref.ensures.value ∙ c.in_ok-blocks.ensures.ok) c.in_ok-numbered.ensures.ok (same_values t c.well_formed-2.ensures.tree c.args.root) c.in_ok-values.ensures.ok new)
    c.with_room_for.ensures.ok
