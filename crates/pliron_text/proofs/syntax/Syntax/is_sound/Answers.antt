use Rattle.pliron_text.proofs.syntax.Syntax.is_sound.Goals as goal

pub returns : goal.returns
returns c = λ h. record { ordered = c.is_ordered.ensures c.if-not-is_ordered.false; root = c.is_root_sound.ensures c.if-not-is_root_sound.false; operations = c.are_operations_sound.ensures h }
