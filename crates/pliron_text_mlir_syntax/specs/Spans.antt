-- The parts of a text that spans name.
use Rattle.std.specs.Prelude.{◌&&◌, ℕ, nat_le, List, [], length, slice_range, if◌then◌else◌}
use Rattle.pliron_text_mlir_syntax.specs.declared.cursor.TextCursor.{TextCursor}
use Rattle.pliron_text_mlir_syntax.specs.declared.cursor.ByteRange.{ByteRange}

-- the bytes of the span, none where the text has no such
abbrev pub bytes_in : TextCursor → ByteRange → List ℕ
bytes_in cursor span =
    if nat_le span.start span.end && nat_le span.end (length cursor.text.now) then slice_range cursor.text.now span.start span.end else []
