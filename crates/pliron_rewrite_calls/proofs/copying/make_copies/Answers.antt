use Rattle.std.proofs.Common.{rules, length, [], sym, subst}
use Rattle.pliron_core.specs.Tree.{Tree}
use Rattle.pliron_rewrite_calls.specs.CopySteps.{IsCopying, AreBare, AreConnected}
use Rattle.pliron_rewrite_calls.proofs.CopyStages.{copying_none, bare_still, all_copied, all_known}
use Rattle.pliron_rewrite_calls.proofs.copying.make_copies.Goals as goal

pub make_blocks-requires : goal.make_blocks-requires
make_blocks-requires g c =
    let none : IsCopying g.x c.args.ctx.now.tree [] [] c.new-copies.result = subst (λ (z : Tree). IsCopying g.x z [] [] c.new-copies.result) c.requires.1.1.0 (copying_none g.x c.requires.1.0 c.new-copies.result c.new-copies.ensures.blocks c.new-copies.ensures.values) in
    (c.requires.1.0, (c.requires.1.1.1.0, (none, c.requires.1.1.1.1.1)))

pub make_operations-requires : goal.make_operations-requires
make_operations-requires g c =
    let begun : IsCopying g.x c.make_blocks.new.ctx.tree g.x.blocks [] c.make_blocks.new.copies = subst (λ z. IsCopying g.x c.make_blocks.new.ctx.tree z [] c.make_blocks.new.copies) (sym c.requires.1.1.1.0) c.in_ok-make_blocks.ensures.ok in
    let bare : AreBare g.x.tree c.make_blocks.new.ctx.tree = bare_still g.x c.requires.1.0 c.make_blocks.new.ctx.tree c.well_formed-2.ensures.tree c.args.blocks.now c.in_ok-make_blocks.ensures.ok.made in
    search rules

pub returns-in_err-connect_all-clause-grown : goal.returns-in_err-connect_all-clause-grown
returns-in_err-connect_all-clause-grown g c =
    c.connect_all.ensures.copying.made.grown

pub returns-clause-grown : goal.returns-clause-grown
returns-clause-grown g c =
    c.connect_all.ensures.copying.made.grown

pub returns-clause-ok : goal.returns-clause-ok
returns-clause-ok g c =
    all_copied g.x c.requires.1.0 c.connect_all.new.ctx.tree c.make_operations.new.copies (subst (λ z. IsCopying g.x c.connect_all.new.ctx.tree g.x.blocks z c.make_operations.new.copies) c.requires.1.1.1.1.0 c.connect_all.ensures.copying) (subst (λ z. AreConnected g.x c.connect_all.new.ctx.tree c.make_operations.new.copies (length z)) c.requires.1.1.1.1.0 c.in_ok-connect_all.ensures.connected)

pub returns-clause-copies : goal.returns-clause-copies
returns-clause-copies g c =
    all_known g.x c.requires.1.0 c.connect_all.new.ctx.tree c.make_operations.new.copies (subst (λ z. IsCopying g.x c.connect_all.new.ctx.tree g.x.blocks z c.make_operations.new.copies) c.requires.1.1.1.1.0 c.connect_all.ensures.copying)
