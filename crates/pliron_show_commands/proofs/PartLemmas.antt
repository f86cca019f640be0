-- What is fit by its parts.
use Rattle.std.proofs.Common.{◌≡◌, ◌++◌, append_assoc, ◌⊎◌, ◌↔◌, ℕ, List, [], ◌∷◌, Option, Some, None, IfSome, Result, Ok, Err, IfOk, refl, sym, ◌∙◌, subst, inl, inr, arith}
use Rattle.pliron_core.specs.Tree.{Tree, In, IsInside, IsLive}
use Rattle.pliron_core.specs.Invariant.{IsTree}
use Rattle.pliron_core.specs.Walks.{contents, HasExactContents}
use Rattle.pliron_core.proofs.WalkLemmas.{inside_live}
use Rattle.pliron_laws.specs.Datum.{Meaning}
use Rattle.pliron_theory.specs.Keeps.{IsFit}
use Rattle.pliron_driver.specs.Answered.{Reads}
use Rattle.pliron_pass_fit.specs.Violation.{IsViolation}
use Rattle.pliron_pass_fit.specs.declared.violation.Violation.{Violation}
use Rattle.pliron_show_commands.specs.declared.checking.CheckOutcome.TheVariants.{Unfit}
use Rattle.pliron_show_commands.specs.CheckOutcome.{IsChecked, IsTextOfParts, IsWholeText}
use Rattle.pliron_show_commands.specs.Parts.{IsContainer, IsReportedPart, AreFitParts, IsFitByParts, IsFitByParts.AsAWhole, IsFitByParts.InParts, IsFirstPart, IsAtFault, IsAtFault.Itself, IsAtFault.Inside}

-- the regions of what is fit have dominance, so it is no container
pub no_container : (m : Meaning) (t : Tree) (root : ℕ) → IsFit m t root → IsContainer t root → ⊥
no_container m t root fit it = it.2 (fit.defined.dominance root it.0 (inl refl) it.1)

module _ (m : Meaning) (t : Tree) (root : ℕ) where
  -- what is no container is fit as a whole, and a container by its parts
  pub fit_whole : (IsContainer t root → ⊥) → IsFitByParts m t root → IsFit m t root
  fit_whole none (AsAWhole fit) = fit
  fit_whole none (InParts it parts) = absurd (none it)

  pub fit_parts : IsContainer t root → IsFitByParts m t root → AreFitParts m t root
  fit_parts it (AsAWhole fit) = absurd (no_container m t root fit it)
  fit_parts it (InParts is parts) = parts

  -- of the operations inside these are left, and each part among the others, which come before them, is fit
  pub record IsSearched (left : List ℕ) : Type 0 where
    pub inside : (k : ℕ) → In k left → IsInside t root k
    pub others : (k : ℕ) → IsInside t root k → IsReportedPart t k → In k left ⊎ IsFit m t k
    pub gone : List ℕ
    pub parted : contents t root ≡ gone ++ left
    pub fit : (k : ℕ) → In k gone → IsReportedPart t k → IsFit m t k

  pub search_begins : HasExactContents t root → IsSearched (contents t root)
  search_begins exactly = record { inside = λ k i. (exactly.exact k).0 i; others = λ k u p. inl ((exactly.exact k).1 u); gone = []; parted = refl; fit = λ k i p. absurd i }

  -- the next one is live
  pub search_live : IsTree t → (k : ℕ) (left : List ℕ) → IsSearched (k ∷ left) → IsLive t k
  search_live tree k left so = inside_live t tree root k (so.inside k (inl refl))

  pub search_continues : (k : ℕ) (left : List ℕ) → IsSearched (k ∷ left) → (IsReportedPart t k → IsFit m t k) → IsSearched left
  search_continues k left so fit = record {
    inside = λ x i. so.inside x (inr i);
    others = λ x u p. elim (so.others x u p) [ inl at ↦ elim at [ inl e ↦ inr (subst (IsFit m t) (sym e) (fit (subst (IsReportedPart t) e p))) | inr i ↦ inl i ] | inr is ↦ inr is ];
    gone = so.gone ++ k ∷ [];
    parted = so.parted ∙ sym (append_assoc so.gone (k ∷ []) left);
    fit = fit_of so.gone so.fit;
  } where
    fit_of : (gone : List ℕ) → ((x : ℕ) → In x gone → IsReportedPart t x → IsFit m t x) → (x : ℕ) → In x (gone ++ k ∷ []) → IsReportedPart t x → IsFit m t x
    fit_of [] all x (inl e) p = subst (IsFit m t) (sym e) (fit (subst (IsReportedPart t) e p))
    fit_of [] all x (inr i) p = absurd i
    fit_of (y ∷ gone) all x (inl e) p = all x (inl e) p
    fit_of (y ∷ gone) all x (inr i) p = fit_of gone (λ z j q. all z (inr j) q) x i p

  -- the next one is the first part, if it is one
  pub search_found : (k : ℕ) (left : List ℕ) → IsSearched (k ∷ left) → IsReportedPart t k → IsFirstPart m t root k
  search_found k left so p = record { before = so.gone; after = left; place = so.parted; is_part = p; fit = so.fit }

  pub search_ends : IsSearched [] → AreFitParts m t root
  search_ends so k u p = elim (so.others k u p) [ inl i ↦ absurd i | inr fit ↦ fit ]

-- what holds of something that is there
pub some_when : {A : Type 0} (P : A → Type 0) (found : Option A) (a : A) → found ≡ Some a → IfSome found P → P a
some_when P found a is all = subst (λ z. IfSome z P) is all

some_none : {A : Type 0} (a : A) → Some a ≡ None → ⊥
some_none a e = grind arith

-- what was found keeps what was read from being fit by its parts
pub unfit_found : (reads : Reads) (m : Meaning) (text : List ℕ) (tree : Tree) (root : ℕ) (found : Option (ℕ × Violation)) (it : ℕ × Violation) → reads text tree root → ((found ≡ None) ↔ IsFitByParts m tree root) → IfSome found (λ x. IsAtFault m tree root x.0) → IfSome found (λ x. IsViolation m tree x.0 x.1) → found ≡ Some it → IsChecked reads m text (Unfit it.0 it.1)
unfit_found reads m text tree root found it read none reported some is = record {
  tree = tree;
  root = root;
  read = read;
  unfit = λ fit. some_none it (sym is ∙ none.1 fit);
  reported = some_when (λ x. IsAtFault m tree root x.0) found it is reported;
  wrong = some_when (λ x. IsViolation m tree x.0 x.1) found it is some;
}

-- and of a container in which nothing was found each part is fit
pub parts_found : (reads : Reads) (m : Meaning) (text : List ℕ) (tree : Tree) (root : ℕ) → reads text tree root → IsContainer tree root → IsFitByParts m tree root → IsTextOfParts reads m text
parts_found reads m text tree root read it fit = record { tree = tree; root = root; read = read; container = it; parts = fit_parts m tree root it fit }

-- and of what is no container nothing was found, it is fit
fit_alone : (m : Meaning) (t : Tree) (root : ℕ) → (IsContainer t root → ⊥) → IsFitByParts m t root → IsFit m t root
fit_alone m t root none (AsAWhole fit) = fit
fit_alone m t root none (InParts it parts) = absurd (none it)

pub whole_found : (reads : Reads) (m : Meaning) (text : List ℕ) (tree : Tree) (root : ℕ) → reads text tree root → (IsContainer tree root → ⊥) → IsFitByParts m tree root → IsWholeText reads m text
whole_found reads m text tree root read none fit = record { tree = tree; root = root; read = read; fit = fit_alone m tree root none fit }

-- where a fault is reported
pub reported_itself : (m : Meaning) (t : Tree) (root : ℕ) → (IsContainer t root → ⊥) → IsAtFault m t root root
reported_itself m t root none = Itself none refl

pub reported_inside : {V E : Type 0} (m : Meaning) (t : Tree) (root : ℕ) → IsContainer t root → (r : Result (Option (ℕ × V)) E) → IfOk r (λ found. IfSome found (λ it. IsFirstPart m t root it.0)) → IfOk r (λ found. IfSome found (λ it. IsAtFault m t root it.0))
reported_inside m t root it (Ok (Some found)) first = Inside it first
reported_inside m t root it (Ok None) first = tt
reported_inside m t root it (Err e) first = tt
