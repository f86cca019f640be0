-- One dead thing less: what is dead in the tree after is dead in the tree before, and what is dead before
-- is dead after or is gone.
use Rattle.std.proofs.Common.{◌≡◌, ℕ, Bool, List, Option, Some, slice_get}
use Rattle.pliron_core.specs.Tree.{Tree, In, IsLive, IsDefined, IsInside, IsWithin, operands_of, results_of}
use Rattle.pliron_core.specs.Changes.{IsDefinedInside}
use Rattle.pliron_laws.specs.Datum.{Head, Meaning}
use Rattle.pliron_opt_dce.specs.Dead.{Item, Op, Arg, Use, IsDead, DeadOperation, DeadArgument, UsedByDead, Forwarded, MayBeErased, MayBeRemoved, KeepsAlive, OfResult, OfInside, ForwardsToArgument}

-- what became of a use: its user went with a thing that is dead, or it was forwarded to one, or it stands
-- at this place
pub data Fate (m : Meaning) (side_effects : Head → Option Bool) (removable : Head → ℕ → Bool → Option Bool) (t t' : Tree) (root : ℕ) (kept : ℕ → List ℕ) (user place v : ℕ) : Type 0 where
  Went : IsDead m side_effects removable t root (Use user place) → Fate m side_effects removable t t' root kept user place v
  Stands : (place' : ℕ) → slice_get (kept user) place' ≡ Some place → slice_get (operands_of t' user) place' ≡ Some v → Fate m side_effects removable t t' root kept user place v

pub record IsThinned (m : Meaning) (side_effects : Head → Option Bool) (removable : Head → ℕ → Bool → Option Bool) (t t' : Tree) (root : ℕ) : Type 0 where
  -- the place that each operand had
  pub kept : ℕ → List ℕ
  pub live : (k : ℕ) → IsInside t' root k → IsLive t' k
  pub live_before : (k : ℕ) → IsLive t' k → IsLive t k
  pub defined_before : (v : ℕ) → IsDefined t' v → IsDefined t v
  pub results_same : (k : ℕ) → IsLive t' k → results_of t' k ≡ results_of t k
  -- what is defined inside an operation that stands, and was used outside it, stands
  pub made_forth : (k v user : ℕ) → IsLive t' k → In v (operands_of t user) → IsDefinedInside t k v → (IsWithin t k user → ⊥) → IsDefined t' v × IsDefinedInside t' k v
  pub within_back : (a k : ℕ) → IsWithin t' a k → IsWithin t a k
  pub within_forth : (a k : ℕ) → IsLive t' k → IsWithin t a k → IsLive t' a × IsWithin t' a k
  pub may_back : (k : ℕ) → MayBeErased m side_effects t' root k → MayBeErased m side_effects t root k
  pub may_forth : (k : ℕ) → IsLive t' k → MayBeErased m side_effects t root k → MayBeErased m side_effects t' root k
  pub argument_back : (v : ℕ) → MayBeRemoved m removable t' root v → MayBeRemoved m removable t root v
  pub argument_forth : (v : ℕ) → IsDefined t' v → MayBeRemoved m removable t root v → MayBeRemoved m removable t' root v
  pub fate : (user place v : ℕ) → slice_get (operands_of t user) place ≡ Some v → Fate m side_effects removable t t' root kept user place v
  pub operand_back : (user place' v : ℕ) → slice_get (operands_of t' user) place' ≡ Some v → IsLive t' user × (place : ℕ) × (slice_get (kept user) place' ≡ Some place) × (slice_get (operands_of t user) place ≡ Some v)
  pub holds_back : (k user place place' : ℕ) → slice_get (kept user) place' ≡ Some place → KeepsAlive t' k user place' → KeepsAlive t k user place
  pub holds_forth : (k user place place' v : ℕ) → slice_get (kept user) place' ≡ Some place → slice_get (operands_of t' user) place' ≡ Some v → IsLive t' k → KeepsAlive t k user place → KeepsAlive t' k user place'
  pub forwarded_back : (user place place' v : ℕ) → MayBeRemoved m removable t' root v → slice_get (kept user) place' ≡ Some place → ForwardsToArgument m t' user place' v → ForwardsToArgument m t user place v
  pub forwarded_forth : (user place place' v : ℕ) → MayBeRemoved m removable t root v → IsLive t' user → slice_get (kept user) place' ≡ Some place → ForwardsToArgument m t user place v → IsDefined t' v × ForwardsToArgument m t' user place' v

module _ (m : Meaning) (side_effects : Head → Option Bool) (removable : Head → ℕ → Bool → Option Bool) (t t' : Tree) (root : ℕ) (h : IsThinned m side_effects removable t t' root) where
  abbrev D : Item → Type 0
  D x = IsDead m side_effects removable t root x

  abbrev D' : Item → Type 0
  D' x = IsDead m side_effects removable t' root x

  -- what a dead argument met
  abbrev MayOf : Tree → Item → Type 0
  MayOf u (Op k) = Unit {0}
  MayOf u (Arg v) = MayBeRemoved m removable u root v
  MayOf u (Use user place) = Unit {0}

  may_of : {x : Item} → D x → MayOf t x
  may_of (DeadOperation k may held) = tt
  may_of (DeadArgument v may used) = may
  may_of (UsedByDead k user place d w) = tt
  may_of (Forwarded v user place d f) = tt

  may_after : {x : Item} → D' x → MayOf t' x
  may_after (DeadOperation k may held) = tt
  may_after (DeadArgument v may used) = may
  may_after (UsedByDead k user place d w) = tt
  may_after (Forwarded v user place d f) = tt

  -- what is dead after was dead before
  abbrev Back : Item → Type 0
  Back (Op k) = D (Op k)
  Back (Arg v) = D (Arg v)
  Back (Use user place') = (place : ℕ) → slice_get (h.kept user) place' ≡ Some place → D (Use user place)

  spent_back : (user place v : ℕ) → Fate m side_effects removable t t' root h.kept user place v → ((place' : ℕ) → slice_get (operands_of t' user) place' ≡ Some v → Back (Use user place')) → D (Use user place)
  spent_back user place v (Went d) ih = d
  spent_back user place v (Stands place' e o) ih = ih place' o place e

  value_of : (k user place : ℕ) → KeepsAlive t k user place → (v : ℕ) × (slice_get (operands_of t user) place ≡ Some v)
  value_of k user place (OfResult v e i) = (v, e)
  value_of k user place (OfInside v e i n) = (v, e)

  held_back : (k user place v : ℕ) → IsLive t' k → KeepsAlive t k user place → Fate m side_effects removable t t' root h.kept user place v → ((place' : ℕ) → KeepsAlive t' k user place' → Back (Use user place')) → D (Use user place)
  held_back k user place v l o (Went d) ih = d
  held_back k user place v l o (Stands place' e q) ih = ih place' (h.holds_forth k user place place' v e q l o) place e

  pub back : {x : Item} → D' x → Back x
  back (DeadOperation k may held) = DeadOperation k (h.may_back k may) (λ user place o.
      let v = value_of k user place o in
      held_back k user place v.0 (h.live k may.inside) o (h.fate user place v.0 v.1) (λ place' q. back (held user place' q)))
  back (DeadArgument v may used) = DeadArgument v (h.argument_back v may) (λ user place e. spent_back user place v (h.fate user place v e) (λ place' q. back (used user place' q)))
  back (UsedByDead k user place' d w) = λ place e. UsedByDead k user place (back d) (h.within_back k user w)
  back (Forwarded v user place' d f) = λ place e. Forwarded v user place (back d) (h.forwarded_back user place place' v (may_after d) e f)

  -- what was dead before is dead after, unless it is gone
  abbrev Forth : Item → Type 0
  Forth (Op k) = IsLive t' k → D' (Op k)
  Forth (Arg v) = IsDefined t' v → D' (Arg v)
  Forth (Use user place) = (place' : ℕ) → IsLive t' user → slice_get (h.kept user) place' ≡ Some place → D' (Use user place')

  pub forth : {x : Item} → D x → Forth x
  forth (DeadOperation k may held) = λ l. DeadOperation k (h.may_forth k l may) (λ user place' o.
      let v = value_after k user place' o in
      let q = h.operand_back user place' v.0 v.1 in
      forth (held user q.1 (h.holds_back k user q.1 place' q.2 o)) place' q.0 q.2)
    where
      value_after : (k user place : ℕ) → KeepsAlive t' k user place → (v : ℕ) × (slice_get (operands_of t' user) place ≡ Some v)
      value_after k user place (OfResult v e i) = (v, e)
      value_after k user place (OfInside v e i n) = (v, e)
  forth (DeadArgument v may used) = λ s. DeadArgument v (h.argument_forth v s may) (λ user place' e.
      let q = h.operand_back user place' v e in
      forth (used user q.1 q.3) place' q.0 q.2)
  forth (UsedByDead k user place d w) = λ place' l e. let q = h.within_forth k user l w in UsedByDead k user place' (forth d q.0) q.1
  forth (Forwarded v user place d f) = λ place' l e. let q = h.forwarded_forth user place place' v (may_of d) l e f in Forwarded v user place' (forth d q.0) q.1
