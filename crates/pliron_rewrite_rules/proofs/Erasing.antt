-- Operations that were put for constants can be erased again, the last one first.
use Rattle.std.proofs.Common.{◌≡◌, ℕ, List, [], ◌∷◌, ◌++◌, length, IsSome, refl, sym, ap, ◌∙◌, subst, arith, length-append}
use Rattle.pliron_core.specs.Erased.{IsSelfContained, after_erasing}
use Rattle.pliron_core.specs.Invariant.{IsTree}
use Rattle.pliron_core.specs.Tree.{Tree, IsLive, parent_of}
use Rattle.pliron_laws.specs.MaterialisedConstants.{IsRestored}
use Rattle.pliron_laws.specs.Outcomes.{next_op}
use Rattle.pliron_laws.proofs.ConstantLemmas.{some_block}
use Rattle.pliron_laws.proofs.MaterialisedLemmas.{last_live, last_contained, last_restored}
use Rattle.pliron_rewrite_rules.specs.Tables.{RuleTables}
use Rattle.pliron_rewrite_rules.specs.Insertions.{with_operation}
use Rattle.pliron_rewrite_rules.proofs.Inserted.{put_is}
use Rattle.pliron_rewrite_rules.specs.declared.term.Atom.{Atom}
use Rattle.pliron_rewrite_rules.specs.declared.term.Atom.TheVariants.{Named, Constant}
use Rattle.pliron_rewrite_rules.specs.Rewriting.{with_atoms}
use Rattle.pliron_rewrite_rules.specs.Putting.{atom_keys, AreErasable}
use Rattle.pliron_rewrite_rules.specs.RuleLaws.{IsAccepted}
use Rattle.pliron_rewrite_rules.specs.Views.{Each}
use Rattle.pliron_rewrite_rules.proofs.Growing.{IsGrown, grown_put}
use Rattle.pliron_rewrite_rules.proofs.PureOperations.{IsLawful}
use Rattle.pliron_rewrite_rules.proofs.RuleKeeps.{constant_insertion}

-- where no constant was put, nothing was
none_put : (x : RuleTables) (op : ℕ) (atoms : List Atom) (t : Tree) → atom_keys x t op atoms ≡ [] → with_atoms x t op atoms ≡ t
none_put x op [] t e = refl
none_put x op (Named a ∷ atoms) t e = none_put x op atoms t e
none_put x op (Constant c ∷ atoms) t e = absurd (grind arith)

not_empty : {A : Type 0} (xs : List A) (x : A) → xs ++ x ∷ [] ≡ [] → ⊥
not_empty xs x e = let n = ap length e in let l = length-append xs (x ∷ []) in absurd (omega (arith, n, l))

-- what the last one was
pub record LastGoes (x : RuleTables) (op : ℕ) (t w : Tree) (made : List ℕ) (last : ℕ) : Type 0 where
  pub live : IsLive w last
  pub contained : IsSelfContained w last
  pub atoms : List Atom
  pub accepted : Each (IsAccepted x.accepts) atoms
  pub keys : made ≡ atom_keys x t op atoms
  pub back : IsRestored (with_atoms x t op atoms) (after_erasing w last)

module _ (x : RuleTables) (laws : IsLawful x) (op : ℕ) (w : Tree) (ww : IsTree w) where
  last_goes : (atoms : List Atom) (t : Tree) (made : List ℕ) (last : ℕ) → IsTree t → IsSome (parent_of t op) → Each (IsAccepted x.accepts) atoms → made ++ last ∷ [] ≡ atom_keys x t op atoms → IsRestored (with_atoms x t op atoms) w → LastGoes x op t w made last
  last_goes [] t made last wt placed accepted keys back = absurd (not_empty made last keys)
  last_goes (Named a ∷ atoms) t made last wt placed accepted keys back = last_goes atoms t made last wt placed accepted.1 keys back
  last_goes (Constant c ∷ atoms) t made last wt placed accepted keys back = split (λ before e. last_goes atoms next before last grown.tree grown.placed accepted.1 e back) (atom_keys x next op atoms) refl made keys
    where
      next : Tree
      next = with_operation t op (x.constant_head c) []

      grown : IsGrown x.meaning op t next
      grown = grown_put x.meaning laws.counts t op (x.constant_head c) [] (constant_insertion x laws op t c wt placed accepted.0)

      -- it is the only one
      alone : next_op t ≡ last → atom_keys x next op atoms ≡ [] → LastGoes x op t w [] last
      alone same none =
          let b = some_block (parent_of t op) placed in
          let there = subst (λ z. IsRestored z w) (none_put x op atoms next none ∙ put_is t op b.0 (x.constant_head c) [] b.1) back in
          record {
            live = subst (IsLive w) same (last_live t w op b.0 (x.constant_head c) wt ww b.1 there);
            contained = subst (IsSelfContained w) same (last_contained t w op b.0 (x.constant_head c) wt ww b.1 there);
            atoms = [];
            accepted = tt;
            keys = refl;
            back = subst (λ n. IsRestored t (after_erasing w n)) same (last_restored t w op b.0 (x.constant_head c) wt ww b.1 there);
          }

      more : ((made : List ℕ) → made ++ last ∷ [] ≡ atom_keys x next op atoms → LastGoes x op next w made last) → (made : List ℕ) (k : ℕ) (ks : List ℕ) → atom_keys x next op atoms ≡ k ∷ ks → made ++ last ∷ [] ≡ next_op t ∷ atom_keys x next op atoms → LastGoes x op t w made last
      more behind [] k ks e f =
          let none : [] ≡ atom_keys x next op atoms = cc in
          let some : [] ≡ k ∷ ks = none ∙ e in
          absurd (cc)
      more behind (m ∷ made) k ks e f =
          let head : m ≡ next_op t = cc in
          let tail : made ++ last ∷ [] ≡ atom_keys x next op atoms = cc in
          let r = behind made tail in
          record {
            live = r.live;
            contained = r.contained;
            atoms = Constant c ∷ r.atoms;
            accepted = (accepted.0, r.accepted);
            keys = ap (λ z. z ∷ made) head ∙ ap (λ zs. next_op t ∷ zs) r.keys;
            back = r.back;
          }

      split : ((made : List ℕ) → made ++ last ∷ [] ≡ atom_keys x next op atoms → LastGoes x op next w made last) → (ks : List ℕ) → atom_keys x next op atoms ≡ ks → (made : List ℕ) → made ++ last ∷ [] ≡ next_op t ∷ atom_keys x next op atoms → LastGoes x op t w made last
      split behind (k ∷ ks) e made f = more behind made k ks e f
      split behind [] e [] f = let same : last ≡ next_op t = cc in alone (sym same) e
      split behind [] e (m ∷ made) f =
          let tail : made ++ last ∷ [] ≡ atom_keys x next op atoms = cc in
          absurd (not_empty made last (tail ∙ e))

  pub erasable_last : (t : Tree) (made : List ℕ) (last : ℕ) → AreErasable x op t (made ++ last ∷ []) w → LastGoes x op t w made last
  erasable_last t made last e = last_goes e.atoms t made last e.tree e.placed e.accepted e.keys e.back

pub erasable_none : (x : RuleTables) (op : ℕ) (t w : Tree) (made : List ℕ) → AreErasable x op t made w → made ≡ [] → IsRestored t w
erasable_none x op t w made e none = subst (λ z. IsRestored z w) (none_put x op e.atoms t (sym e.keys ∙ none)) e.back

pub erased_more : (x : RuleTables) (op : ℕ) (t w next : Tree) (made : List ℕ) (last : ℕ) → (all : List ℕ) → AreErasable x op t all w → LastGoes x op t w made last → next ≡ after_erasing w last → AreErasable x op t made next
erased_more x op t w next made last all e g is = record { tree = e.tree; placed = e.placed; atoms = g.atoms; accepted = g.accepted; keys = g.keys; back = subst (IsRestored (with_atoms x t op g.atoms)) (sym is) g.back }
