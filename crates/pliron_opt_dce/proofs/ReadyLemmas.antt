-- What is ready is dead, and where nothing is ready nothing is dead.
use Rattle.std.proofs.Common.{ℕ, Bool, Option}
use Rattle.pliron_core.specs.Tree.{Tree, operands_of}
use Rattle.pliron_core.proofs.HoldingLemmas.{in_slice, slice_in}
use Rattle.pliron_laws.specs.Datum.{Head, Meaning}
use Rattle.pliron_opt_dce.specs.Dead.{Item, Op, Arg, Use, IsDead, DeadOperation, DeadArgument, UsedByDead, Forwarded}
use Rattle.pliron_opt_dce.specs.Readiness.{IsReady}

module _ (m : Meaning) (side_effects : Head → Option Bool) (removable : Head → ℕ → Bool → Option Bool) (t : Tree) (root : ℕ) where
  pub ready_dead : (x : Item) → IsReady m side_effects removable t root x → IsDead m side_effects removable t root x
  ready_dead (Op k) r = DeadOperation k r.may (λ user place h. absurd (r.none user place h))
  ready_dead (Arg v) r = DeadArgument v r.may (λ user place e. absurd (r.none user (in_slice (operands_of t user) place v e)))
  ready_dead (Use user place) r = absurd r

  -- by induction: the uses that hold a dead thing are dead, so there are none, and it is ready
  pub no_dead : ((x : Item) → IsReady m side_effects removable t root x → ⊥) → {x : Item} → IsDead m side_effects removable t root x → ⊥
  no_dead never (DeadOperation k may held) = never (Op k) (record { may = may; none = λ user place h. no_dead never (held user place h) })
  no_dead never (DeadArgument v may used) = never (Arg v) (record { may = may; none = λ user i. let p = slice_in (operands_of t user) v i in no_dead never (used user p.0 p.1) })
  no_dead never (UsedByDead k user place d w) = no_dead never d
  no_dead never (Forwarded v user place d f) = no_dead never d
