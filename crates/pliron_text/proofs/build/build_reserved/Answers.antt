use Rattle.std.proofs.Common.{sym, ap, ◌∙◌, subst}
use Rattle.pliron_core.specs.Changes.{IsSameTree}
use Rattle.pliron_core.specs.Writes.{after_creating}
use Rattle.pliron_text.specs.Laid.{IsBegun}
use Rattle.pliron_text.proofs.LinkedText.{linked-text}
use Rattle.pliron_text.proofs.UndoneLemmas.{contained, undone}
use Rattle.pliron_text.proofs.build.build_reserved.Goals as goal

pub fill-filled-requires-clause-begun : goal.fill-filled-requires-clause-begun
fill-filled-requires-clause-begun c =
    let o = c.args.syntax.now.root in
    (c.args.ctx.now.tree, record { before = c.well_formed-2.ensures.tree; fresh = c.in_ok-root.ensures.key; made = c.in_ok-root.ensures.ok ∙ ap (λ h. after_creating c.args.ctx.now.tree h o.results o.regions) c.in_ok-head.ensures })

pub erase_operation-requires-clause-contained : goal.erase_operation-requires-clause-contained
erase_operation-requires-clause-contained c =
    let t = c.args.ctx.now.tree in
    let u = c.fill-filled.new.ctx.tree in
    let o = c.args.syntax.now.root in
    let begun : IsBegun t o c.create.new.ctx.tree c.in_ok-root.root = record { before = c.well_formed-2.ensures.tree; fresh = c.in_ok-root.ensures.key; made = c.in_ok-root.ensures.ok ∙ ap (λ h. after_creating t h o.results o.regions) c.in_ok-head.ensures } in
    contained t u c.in_ok-root.root c.well_formed-2.ensures.tree c.well_formed-4.ensures.tree (c.fill-filled.ensures.grown t begun)

pub returns-in-Err-clause-refused : goal.returns-in-Err-clause-refused
returns-in-Err-clause-refused c =
    let t = c.args.ctx.now.tree in
    let u = c.fill-filled.new.ctx.tree in
    let o = c.args.syntax.now.root in
    let begun : IsBegun t o c.create.new.ctx.tree c.in_ok-root.root = record { before = c.well_formed-2.ensures.tree; fresh = c.in_ok-root.ensures.key; made = c.in_ok-root.ensures.ok ∙ ap (λ h. after_creating t h o.results o.regions) c.in_ok-head.ensures } in
    subst (IsSameTree t) (sym c.erase_operation.ensures.erased) (undone t u c.in_ok-root.root c.well_formed-2.ensures.tree c.well_formed-4.ensures.tree (c.fill-filled.ensures.grown t begun))

pub returns-in-Ok-clause-linked : goal.returns-in-Ok-clause-linked
returns-in-Ok-clause-linked c =
    let t = c.args.ctx.now.tree in
    let u = c.fill-filled.new.ctx.tree in
    let root = c.in_ok-root.root in
    let o = c.args.syntax.now.root in
    let begun : IsBegun t o c.create.new.ctx.tree root = record { before = c.well_formed-2.ensures.tree; fresh = c.in_ok-root.ensures.key; made = c.in_ok-root.ensures.ok ∙ ap (λ h. after_creating t h o.results o.regions) c.in_ok-head.ensures } in
    linked-text c.args.syntax.now t u root c.well_formed-2.ensures.tree c.well_formed-4.ensures.tree (c.in-Ok.ensures.grown t begun) c.requires (c.in-Ok.ensures.laid t begun)

pub returns-in-Ok-clause-built : goal.returns-in-Ok-clause-built
returns-in-Ok-clause-built c =
    let t = c.args.ctx.now.tree in
    let o = c.args.syntax.now.root in
    let begun : IsBegun t o c.create.new.ctx.tree c.in_ok-root.root = record { before = c.well_formed-2.ensures.tree; fresh = c.in_ok-root.ensures.key; made = c.in_ok-root.ensures.ok ∙ ap (λ h. after_creating t h o.results o.regions) c.in_ok-head.ensures } in
    c.in-Ok.ensures.grown t begun
