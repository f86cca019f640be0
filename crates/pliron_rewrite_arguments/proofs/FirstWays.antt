-- Paths up to the edge on which they first come to a block.
use Rattle.std.proofs.Common.{◌≡◌, ◌≢◌, inl, inr, ⊎_elim, ℕ, List, [], ◌∷◌, sym, ◌∙◌, subst}
use Rattle.pliron_core.specs.Tree.{Tree, In}
use Rattle.pliron_core.proofs.ListLemmas.{decide_in}
use Rattle.pliron_laws.specs.Paths.{Path, Leads}
use Rattle.pliron_rewrite_blocks.proofs.Ways.{Misses, prefix}

-- a path comes to b first from the block `last`
pub record ComesFirst (t : Tree) (entry b : ℕ) (before : List ℕ) : Type 0 where
  pub last : ℕ
  pub part : List ℕ
  pub path : Path t entry last part
  pub leads : Leads t last b
  pub missed : In b (last ∷ part) → ⊥
  pub within : (z : ℕ) → In z (last ∷ part) → In z before

-- each path that comes to b for the first time passed d
abbrev pub PassedFirst : Tree → (entry b d : ℕ) → Type 0
PassedFirst t entry b d = (x : ℕ) (part : List ℕ) → Path t entry x part → Leads t x b → (In b (x ∷ part) → ⊥) → In d (x ∷ part)

module _ (t : Tree) (entry b : ℕ) (inner : entry ≢ b) where
  pub comes_first : (c : ℕ) (before : List ℕ) → Path t entry c before → In b (c ∷ before) → ComesFirst t entry b before
  comes_first c [] p (inl e) = absurd (inner (p ∙ sym e))
  comes_first c [] p (inr i) = absurd i
  comes_first c (x ∷ before) p i = ⊎_elim
      (λ j.
      let r = comes_first x before p.1 j in
      record { last = r.last; part = r.part; path = r.path; leads = r.leads; missed = r.missed; within = λ z k. inr (r.within z k) })
      (λ no.
      let e : b ≡ c = ⊎_elim (λ y. y) (λ j. absurd (no j)) i in
      record { last = x; part = before; path = p.1; leads = subst (Leads t x) (sym e) p.0; missed = no; within = λ z k. k })
      (decide_in b (x ∷ before))

  -- then some path to d misses b
  pub misses_first : (d : ℕ) → PassedFirst t entry b d → (before : List ℕ) → Path t entry d before → Misses t entry d b
  misses_first d passed before p = ⊎_elim
      (λ i.
      let f = comes_first d before p i in
      let x = prefix t entry f.last d f.part f.path (passed f.last f.part f.path f.leads f.missed) in
      record { before = x.0; path = x.1; missed = λ j. f.missed (x.2 b j) })
      (λ no. record { before = before; path = p; missed = no })
      (decide_in b (d ∷ before))
