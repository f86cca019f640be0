use Rattle.std.proofs.Common.{◌≡◌, length, sym, ◌∙◌, arith}
use Rattle.pliron_core.specs.Tree.{results_of, regions_of}
use Rattle.pliron_opt_rotate.proofs.Walks.{no_items}
use Rattle.pliron_opt_rotate.proofs.testing.may_enter.Goals as goal

pub returns : goal.returns
returns c = λ e.
    let t = c.args.ctx.now.tree in
    let s = c.in-Some.ensures.stands in
    let results : length (results_of t c.args.op) ≡ 0 = omega (arith, c.num_result.ensures, c.if-num_result-ne0.false) in
    let regions : length (regions_of t c.args.op) ≡ 0 = omega (arith, c.num_region.ensures, c.if-num_region-ne0.false) in
    record {
      block = c.in-Some.block;
      in_block = s.in_block;
      last = c.is_last_of.ensures c.if-not-is_last_of.false;
      apart = s.apart;
      beside = s.in_region ∙ sym c.requires;
      no_results = no_items (results_of t c.args.op) results;
      childless = no_items (regions_of t c.args.op) regions;
    }
