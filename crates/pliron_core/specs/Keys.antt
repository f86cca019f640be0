-- How many things of a kind a context has.
use Rattle.std.specs.Prelude.{ℕ}

-- each handle of a context is below this
abbrev pub key_limit : ℕ
key_limit = 4294967295
