-- The worklist of the search for visited regions.
use Rattle.std.specs.Prelude.{◌≡◌, ◌⊎◌, ◌+◌, ℕ, List, map, length}
use Rattle.pliron_core.specs.Lists.{In, IsDistinct}
use Rattle.pliron_opt_cfg.specs.declared.visits.PostponedBlock.{PostponedBlock}

-- these regions are seen too, and those that are seen for the first time are on the worklist
pub record HasGrown (regions seen waiting seen' waiting' : List ℕ) : Type 0 where
  pub kept : (r : ℕ) → In r seen → In r seen'
  pub only : (r : ℕ) → In r seen' → In r seen ⊎ In r regions
  pub all : (r : ℕ) → In r regions → In r seen'
  pub wait : (r : ℕ) → In r waiting → In r waiting'
  pub fresh : (r : ℕ) → In r seen' → In r seen ⊎ In r waiting'
  pub within : (r : ℕ) → In r waiting' → In r waiting ⊎ In r seen'
  pub count : length waiting' + length seen ≡ length waiting + length seen'
  pub distinct : IsDistinct seen → IsDistinct seen'

-- the blocks that are postponed
abbrev pub blocks_postponed : List PostponedBlock → List ℕ
blocks_postponed postponed = map (λ p. p.block) postponed
