-- What is next for a step.
use Rattle.std.proofs.Common.{◌≡◌}
use Rattle.std.specs.Prelude.{Some, slice_get}
use Rattle.pliron_text_llvm_reader.specs.declared.cursor.StatementCursor.{StatementCursor}
use Rattle.pliron_text_llvm_reader.specs.declared.rules.Role.{Role}
use Rattle.pliron_text_llvm_reader.specs.declared.rules.Role.TheVariants.{Plain, Operand, More, Successor}
use Rattle.pliron_text_llvm_reader.specs.Cursors.{text_of, place_of}
use Rattle.pliron_text_llvm_reader.specs.Grammar.{FitsRole}

-- a local name may be anything for its statement
pub local_next : (cursor : StatementCursor) (role : Role) → slice_get (text_of cursor) (place_of cursor) ≡ Some 37 → FitsRole cursor role
local_next cursor Plain local = tt
local_next cursor Operand local = tt
local_next cursor More local = tt
local_next cursor Successor local = local
