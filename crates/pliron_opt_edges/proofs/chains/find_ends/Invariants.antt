use Rattle.std.proofs.Common.{ℕ, ◌<◌, ◌≡◌, Some, IsSome, slice_get}
use Rattle.pliron_core.specs.Tree.{In, successors_of}
use Rattle.pliron_opt_edges.specs.Ends.{known_end, AreKnownRightly}
use Rattle.pliron_opt_edges.proofs.chains.find_ends.Given as goal

abbrev pub invariant-loop-i : goal.invariant-loop-i
invariant-loop-i g l = AreKnownRightly g.D.HasMeaning.meaning.is_branch l.ctx.tree l.ends × ((n k b : ℕ) → n < l.i → slice_get l.ops n ≡ Some k → In b (successors_of l.ctx.tree k) → IsSome (known_end l.ends b))
