-- What the lines so far define, and behind it what those that are left do.
use Rattle.std.proofs.Common.{◌≡◌, ◌++◌, take, drop}
use Rattle.std.specs.List.{All}
use Rattle.pliron_text_llvm_functions.specs.Bodies.{definitions_from, body_definitions, HasGivenName}
use Rattle.pliron_text_llvm_functions.proofs.defining.push_body_definitions.Given as goal

abbrev pub invariant-loop-line : goal.invariant-loop-line
invariant-loop-line l =
    (l.number ≡ l.line-index)
    × (l.definitions.items ++ definitions_from l.begins l.number (drop l.line-index l.lines) ≡ l.fn.definitions.items ++ body_definitions l.lines)
    × All HasGivenName (take l.line-index l.lines)
