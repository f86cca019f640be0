use Rattle.std.proofs.Common.{sym}
use Rattle.pliron_rewrite_rotation.specs.HeaderSteps.{EnteredHeader, IsEnteredHeader}
use Rattle.pliron_rewrite_rotation.proofs.HeaderRuns.{leading_runs, leading_holders, header_copied, refused_runs, refused_holders}
use Rattle.pliron_rewrite_rotation.proofs.header.copy_header.Goals as goal

pub returns-in_err-copied-clause-holders : goal.returns-in_err-copied-clause-holders
returns-in_err-copied-clause-holders g c =
    let x : EnteredHeader = record { tree = c.args.ctx.now.tree; header = c.args.header; region = c.in-Some.region; entering = c.args.entering.now } in
    let source : IsEnteredHeader x = record { tree = c.well_formed-2.ensures.tree; may = c.requires; in_region = sym c.in-Some.ensures.region } in
    refused_holders c.closed_blocks_are_copied.ensures g.D.HasMeaning.meaning x source c.copy_and_lead_in-copied.new.ctx.tree c.well_formed-3.ensures.tree c.in_err-copied.ensures.refused

pub returns-in_err-copied-clause-runs : goal.returns-in_err-copied-clause-runs
returns-in_err-copied-clause-runs g c =
    let x : EnteredHeader = record { tree = c.args.ctx.now.tree; header = c.args.header; region = c.in-Some.region; entering = c.args.entering.now } in
    let source : IsEnteredHeader x = record { tree = c.well_formed-2.ensures.tree; may = c.requires; in_region = sym c.in-Some.ensures.region } in
    refused_runs c.closed_blocks_are_copied.ensures g.D.HasMeaning.meaning x source c.copy_and_lead_in-copied.new.ctx.tree c.well_formed-3.ensures.tree c.in_err-copied.ensures.refused

pub returns-clause-copied : goal.returns-clause-copied
returns-clause-copied g c =
    let x : EnteredHeader = record { tree = c.args.ctx.now.tree; header = c.args.header; region = c.in-Some.region; entering = c.args.entering.now } in
    let source : IsEnteredHeader x = record { tree = c.well_formed-2.ensures.tree; may = c.requires; in_region = sym c.in-Some.ensures.region } in
    let a = c.in_ok-copied.ensures.leading in
    (a.leading.originals, header_copied c.closed_blocks_are_copied.ensures g.D.HasMeaning.meaning x source c.copy_and_lead_in-copied.new.ctx.tree c.well_formed-3.ensures.tree a.leading _ a.key a.gone a.bound)

pub returns-clause-holders : goal.returns-clause-holders
returns-clause-holders g c =
    let x : EnteredHeader = record { tree = c.args.ctx.now.tree; header = c.args.header; region = c.in-Some.region; entering = c.args.entering.now } in
    let source : IsEnteredHeader x = record { tree = c.well_formed-2.ensures.tree; may = c.requires; in_region = sym c.in-Some.ensures.region } in
    leading_holders c.closed_blocks_are_copied.ensures g.D.HasMeaning.meaning x source c.copy_and_lead_in-copied.new.ctx.tree c.well_formed-3.ensures.tree c.in_ok-copied.ensures.leading.leading

pub returns-clause-runs : goal.returns-clause-runs
returns-clause-runs g c =
    let x : EnteredHeader = record { tree = c.args.ctx.now.tree; header = c.args.header; region = c.in-Some.region; entering = c.args.entering.now } in
    let source : IsEnteredHeader x = record { tree = c.well_formed-2.ensures.tree; may = c.requires; in_region = sym c.in-Some.ensures.region } in
    leading_runs c.closed_blocks_are_copied.ensures g.D.HasMeaning.meaning x source c.copy_and_lead_in-copied.new.ctx.tree c.well_formed-3.ensures.tree c.in_ok-copied.ensures.leading.leading
