use Rattle.pliron_text_llvm_documents.proofs.HolderLemmas.{root_holds, root_holds_functions}
use Rattle.pliron_text_llvm_documents.proofs.module.make_root.Goals as goal

pub returns-clause-functions : goal.returns-clause-functions
returns-clause-functions c =
    root_holds_functions c.create-2.new.ctx.tree c.append_parts.new.ctx.tree c.in_ok-root.root c.get_region-region.result c.in_ok-block.block c.args.parts.now
    (root_holds c.args.ctx.now.tree c.in_ok-head.head c.create.new.ctx.tree c.create-2.new.ctx.tree c.in_ok-root.root c.get_region-region.result c.in_ok-block.block
    c.well_formed-2.ensures.tree.keys c.in_ok-root.ensures.key c.in_ok-root.ensures.ok c.get_region-region.ensures.region c.in_ok-block.ensures.key c.in_ok-block.ensures.ok)
    c.in_ok-append_parts.ensures.operations c.in_ok-append_parts.ensures.layouts c.in_ok-append_parts.ensures.body
