-- A pair whose two results are put for constants.
use Rattle.std.specs.Prelude.{ℕ, pos}
use Rattle.pliron_core.specs.declared.attrs.AttrObj.TheVariants.{Int}
use Rattle.pliron_core.specs.Tree.{Tree}
use Rattle.pliron_laws.specs.Outcomes.{after_materialising}
use Rattle.pliron_dialect_bench.specs.BenchAnswers.{bench_constant_head}

-- constants 1 and 2 are before the pair, and have all uses of its results
abbrev pub both_put : Tree → ℕ → ℕ → ℕ → Tree
both_put t pair first second = after_materialising (after_materialising t pair first (bench_constant_head (Int (pos 1)))) pair second (bench_constant_head (Int (pos 2)))
