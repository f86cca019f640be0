-- The values that rotation makes, each with the one that it stands for.
use Rattle.std.specs.Prelude.{◌<◌}
use Rattle.pliron_opt_rotate.specs.declared.answer.RotatedValue.{RotatedValue}

-- the value was made after the one that it stands for
abbrev pub IsYounger : RotatedValue → Type 0
IsYounger x = x.original < x.value
