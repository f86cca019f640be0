use Rattle.std.proofs.Common.{rules, ◌≡◌, Err}
use Rattle.pliron_theory.specs.LatticeValues.{Says}
use Rattle.pliron_opt_sccp.proofs.FoundChange.{found_change, found_partly, nothing_propagates, refused_propagates}
use Rattle.pliron_opt_sccp.proofs.propagation.propagate.Goals as goal

pub returns-in_err-found : goal.returns-in_err-found
returns-in_err-found g c =
    let x : Says = record { meaning = g.D.HasMeaning.meaning; can_fold = g.D.ConstFoldInterface.can_fold; can_fold_branch = g.D.BranchOpFoldInterface.can_fold_branch; constants = g.D.ConstFoldInterface.constants; feasible = g.D.BranchOpFoldInterface.feasible; entry_operands = g.D.RegionBranchOpInterface.entry_operands } in
    let d = g.D.ConstFoldInterface in
    let is : c.from_residual.result ≡ Err c.in_err-found.field-0.0 = search rules in
    record { propagates = nothing_propagates x d.accepts d.constant_head d.outcome c.args.ctx.now.tree c.args.op c.requires.live c.requires.linked c.from_residual.result c.in_err-found.field-0.0 is c.in_err-found.ensures.memory }

pub returns-in_err-status : goal.returns-in_err-status
returns-in_err-status g c =
    let x : Says = record { meaning = g.D.HasMeaning.meaning; can_fold = g.D.ConstFoldInterface.can_fold; can_fold_branch = g.D.BranchOpFoldInterface.can_fold_branch; constants = g.D.ConstFoldInterface.constants; feasible = g.D.BranchOpFoldInterface.feasible; entry_operands = g.D.RegionBranchOpInterface.entry_operands } in
    let d = g.D.ConstFoldInterface in
    let t = c.args.ctx.now.tree in
    let u = c.rewrite.new.ctx.tree in
    let h = c.in_ok-found.ensures.ok in
    let follows = c.rewrite.ensures.follows c.args.op h.facts h.found_by in
    let is : c.from_residual-in_err-status.result ≡ Err c.in_err-status.field-0.0 = search rules in
    let partly = found_partly x t c.args.op c.in_ok-found.found c.in_ok-found.pops h u d.accepts d.constant_head d.outcome (c.in_err-status.ensures.refused c.args.op h.facts h.found_by) in
    let change = found_change x t c.args.op c.in_ok-found.found c.in_ok-found.pops h u c.requires.live c.requires.linked follows in
    record { propagates = refused_propagates x d.accepts d.constant_head d.outcome t c.args.op u c.from_residual-in_err-status.result c.in_err-status.field-0.0 is c.in_err-status.ensures.memory partly change follows.edges follows.links }

pub returns : goal.returns
returns g c =
    let x : Says = record { meaning = g.D.HasMeaning.meaning; can_fold = g.D.ConstFoldInterface.can_fold; can_fold_branch = g.D.BranchOpFoldInterface.can_fold_branch; constants = g.D.ConstFoldInterface.constants; feasible = g.D.BranchOpFoldInterface.feasible; entry_operands = g.D.RegionBranchOpInterface.entry_operands } in
    let t = c.args.ctx.now.tree in
    let u = c.rewrite.new.ctx.tree in
    let h = c.in_ok-found.ensures.ok in
    let follows = c.rewrite.ensures.follows c.args.op h.facts h.found_by in
    record {
      propagates = record {
        propagated = record {
          facts = h.facts;
          found = record { closed = h.found_by.closed; held = h.found_by.held; precise = h.precise };
          rewritten = c.in_ok-status.ensures.rewritten c.args.op h.facts h.found_by;
          count = h.count;
        };
        partly = tt;
        change = found_change x t c.args.op c.in_ok-found.found c.in_ok-found.pops h u c.requires.live c.requires.linked follows;
        accurate = c.in_ok-status.ensures.reported;
        edges = follows.edges;
        links = follows.links;
        memory = tt;
      };
    }
