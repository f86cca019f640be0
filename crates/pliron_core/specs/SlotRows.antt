-- What an operand list or a use list holds.
use Rattle.std.specs.Prelude.{List, [], ◌∷◌}
use Rattle.pliron_core.specs.declared.inline_list.InlineItems.{InlineItems}
use Rattle.pliron_core.specs.declared.inline_list.InlineItems.TheVariants.{Empty, One, Two, Many}

-- the items, in order
abbrev pub list_of : {T : Type 0} → InlineItems T → List T
list_of Empty = []
list_of (One x) = x ∷ []
list_of (Two x y) = x ∷ y ∷ []
list_of (Many xs) = xs.value.items
