-- What the passes of a list are called.
use Rattle.std.specs.Prelude.{ℕ, List}
use Rattle.pliron_pass_pipeline.specs.Canonicalized.{canonicalize_name}
use Rattle.pliron_pass_pipeline.specs.Combination.{combine_name}
use Rattle.pliron_pass_pipeline.specs.CommonSubexpressions.{cse_name}
use Rattle.pliron_pass_pipeline.specs.Constants.{sccp_name}
use Rattle.pliron_pass_pipeline.specs.ControlFlow.{simplify_cfg_name}
use Rattle.pliron_pass_pipeline.specs.DeadCode.{dce_name}
use Rattle.pliron_pass_pipeline.specs.EdgeThreading.{thread_edges_name}
use Rattle.pliron_pass_pipeline.specs.Pipelines.{PipelineOf}
use Rattle.pliron_pass_pipeline.specs.declared.step.PassStep.{PassStep}
use Rattle.pliron_pass_pipeline.specs.declared.step.PassStep.TheVariants.{Sccp, Dce, SimplifyCfg, Cse, Canonicalize, Combine, ThreadEdges}

abbrev pub step_name : {D E L B K : Type 0} → PassStep D E L B K → List ℕ
step_name (Sccp p) = sccp_name
step_name (Dce p) = dce_name
step_name (SimplifyCfg p) = simplify_cfg_name
step_name (Cse p) = cse_name
step_name (Canonicalize p) = canonicalize_name
step_name (Combine p) = combine_name
step_name (ThreadEdges p) = thread_edges_name

-- the one of these that is of the pass
abbrev pub of_step : {D E L B K : Type 0} {O : Type 1} → (sccp dce simplify_cfg cse canonicalize combine thread_edges : O) → PassStep D E L B K → O
of_step sccp dce simplify_cfg cse canonicalize combine thread_edges (Sccp p) = sccp
of_step sccp dce simplify_cfg cse canonicalize combine thread_edges (Dce p) = dce
of_step sccp dce simplify_cfg cse canonicalize combine thread_edges (SimplifyCfg p) = simplify_cfg
of_step sccp dce simplify_cfg cse canonicalize combine thread_edges (Cse p) = cse
of_step sccp dce simplify_cfg cse canonicalize combine thread_edges (Canonicalize p) = canonicalize
of_step sccp dce simplify_cfg cse canonicalize combine thread_edges (Combine p) = combine
of_step sccp dce simplify_cfg cse canonicalize combine thread_edges (ThreadEdges p) = thread_edges

-- a pipeline of the passes here
abbrev pub PassPipelineOf : (D E L B K : Type 0) → Type 0
PassPipelineOf D E L B K = PipelineOf (PassStep D E L B K) D E B K
