-- What an operation of a text is taken for.
use Rattle.std.specs.Prelude.{◌≡◌, ◌⊎◌}
use Rattle.pliron_dialect_mlir.specs.declared.kind.Class.{Class}
use Rattle.pliron_dialect_mlir.specs.declared.kind.Class.TheVariants.{Local, Regions, Fork}

-- it is an effect, so it is never removed, moved or folded
abbrev pub ActsOnWorld : Class → Type 0
ActsOnWorld class = (class ≡ Local) ⊎ (class ≡ Regions) ⊎ (class ≡ Fork)
