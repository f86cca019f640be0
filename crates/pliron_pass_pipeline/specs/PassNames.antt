-- What the passes here are called.
use Rattle.std.specs.Prelude.{◌≢◌, ℕ, List}
use Rattle.pliron_pass_pipeline.specs.Canonicalized.{canonicalize_name}
use Rattle.pliron_pass_pipeline.specs.Combination.{combine_name}
use Rattle.pliron_pass_pipeline.specs.CommonSubexpressions.{cse_name}
use Rattle.pliron_pass_pipeline.specs.Constants.{sccp_name}
use Rattle.pliron_pass_pipeline.specs.ControlFlow.{simplify_cfg_name}
use Rattle.pliron_pass_pipeline.specs.DeadCode.{dce_name}
use Rattle.pliron_pass_pipeline.specs.EdgeThreading.{thread_edges_name}
use Rattle.pliron_pass_pipeline.specs.declared.pass_name.PassName.{PassName}
use Rattle.pliron_pass_pipeline.specs.declared.pass_name.PassName.TheVariants.{Sccp, Dce, SimplifyCfg, Cse, Canonicalize, Combine, ThreadEdges}

abbrev pub name_of_pass : PassName → List ℕ
name_of_pass Sccp = sccp_name
name_of_pass Dce = dce_name
name_of_pass SimplifyCfg = simplify_cfg_name
name_of_pass Cse = cse_name
name_of_pass Canonicalize = canonicalize_name
name_of_pass Combine = combine_name
name_of_pass ThreadEdges = thread_edges_name

-- no pass is called so
abbrev pub IsNoPass : List ℕ → Type 0
IsNoPass name = (name ≢ sccp_name) × (name ≢ dce_name) × (name ≢ simplify_cfg_name) × (name ≢ cse_name) × (name ≢ canonicalize_name) × (name ≢ combine_name) × (name ≢ thread_edges_name)
