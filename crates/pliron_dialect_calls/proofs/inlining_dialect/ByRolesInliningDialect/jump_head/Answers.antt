use Rattle.std.proofs.Common.{subst, sym}
use Rattle.pliron_dialect_calls.specs.Conventions.{meaning_of}
use Rattle.pliron_dialect_calls.specs.Inlinable.{IsJumpHead}
use Rattle.pliron_dialect_calls.proofs.ByRole.{jump_head}
use Rattle.pliron_dialect_calls.proofs.inlining_dialect.ByRolesInliningDialect.jump_head.Goals as goal

pub returns-clause-jump : goal.returns-clause-jump
returns-clause-jump g c = subst (λ h. IsJumpHead (meaning_of g.K.Roles.tables) c.args._operands h) (sym c.head_of_jump.ensures) (jump_head g.K.Roles.tables g.met.K.Roles.keeps_tables c.args._operands)
