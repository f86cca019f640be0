-- Where operations are in a text.
use Rattle.std.specs.Prelude.{ℕ}
use Rattle.pliron_show_places.specs.declared.text_parts.TextPart.{TextPart}

-- where a part begins: the bytes before it, its line and its column
abbrev pub beginning_of : TextPart → ℕ × (ℕ × ℕ)
beginning_of part = (part.start, (part.line, part.column))
