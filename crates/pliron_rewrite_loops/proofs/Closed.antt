-- Values that were passed along both edges are used in the header alone.
use Rattle.std.proofs.Common.{◌≡◌, ◌⊎◌, inl, inr, ⊎_elim, ℕ, List, [], ◌∷◌, Option, Some, None, refl, sym, ap, ◌∙◌, subst}
use Rattle.pliron_core.specs.declared.context.Def.{Def}
use Rattle.pliron_core.specs.declared.context.Def.TheVariants.{Result, Argument}
use Rattle.pliron_core.specs.Invariant.{IsTree}
use Rattle.pliron_core.specs.Tree.{Tree, In, IsDefined, operands_of, parent_of, definition_of}
use Rattle.pliron_core.proofs.HoldingLemmas.{some_is}
use Rattle.pliron_laws.specs.Datum.{Meaning}
use Rattle.pliron_laws.specs.Root.{defining_block}
use Rattle.pliron_rewrite_loops.specs.Closing.{StandsInOrAmong, IsHeaderCovered, NoneUses, IsGatePassed, ClosingLaw}
use Rattle.pliron_rewrite_loops.specs.Passing.{KeepsPassing, KeepsBesides}
use Rattle.pliron_rewrite_loops.proofs.Besides.{besides_refl, passing_refl}

some_user : (users : List ℕ) → (users ≡ []) ⊎ ((j : ℕ) × In j users)
some_user [] = inl refl
some_user (j ∷ us) = inr (j, inl refl)

home_same : (t u : Tree) → ((k : ℕ) → parent_of u k ≡ parent_of t k) → (d : Option Def) → defining_block u d ≡ defining_block t d
home_same t u same None = refl
home_same t u same (Some (Result k i)) = same k
home_same t u same (Some (Argument b i)) = refl

module _ (m : Meaning) (t s u : Tree) (header body exit : ℕ) (values body_users exit_users : List ℕ) (w : IsTree u) (covered : IsHeaderCovered t header body exit values body_users exit_users) (first : IsGatePassed m t s exit values exit_users) (then : IsGatePassed m s u body values body_users) where
  same_parent : (k : ℕ) → parent_of u k ≡ parent_of t k
  same_parent k = then.besides.parents k ∙ first.besides.parents k

  module _ (k v : ℕ) (i : In v (operands_of u k)) (home : defining_block u (definition_of u v) ≡ Some header) where
    inside : StandsInOrAmong t header body_users k → In v values → parent_of u k ≡ Some header
    inside (inl e) j = same_parent k ∙ e
    inside (inr b) j = absurd (then.unused k v b j i)

    made_between : IsDefined s v
    made_between = ⊎_elim (λ d. d) (λ e. absurd (covered.body_apart (some_is (sym (ap (defining_block u) e.1) ∙ home)))) (then.besides.new v (w.joined.operands k v i))

    same_between : definition_of u v ≡ definition_of s v
    same_between = then.besides.definitions v made_between

    made : IsDefined t v
    made = ⊎_elim
        (λ none. subst (λ z. IsDefined z v) (first.without none) made_between)
        (λ j. ⊎_elim (λ d. d) (λ e. absurd (covered.exit_apart j.0 j.1 (some_is (sym (ap (defining_block u) (same_between ∙ e.1)) ∙ home)))) (first.besides.new v made_between))
        (some_user exit_users)

    before : defining_block t (definition_of t v) ≡ Some header
    before = sym (home_same t u same_parent (definition_of t v)) ∙ ap (defining_block u) (sym (same_between ∙ first.besides.definitions v made)) ∙ home

    used : In v (operands_of t k) → In v (operands_of s k) → parent_of u k ≡ Some header
    used o n = ⊎_elim
        (λ e. same_parent k ∙ e)
        (λ e. ⊎_elim (λ b. absurd (then.unused k v b e.0 i)) (λ x. absurd (first.unused k v x e.0 n)) e.1)
        (covered.uses k v o before)

    between : In v (operands_of s k) → parent_of u k ≡ Some header
    between n = ⊎_elim
        (λ o. used o n)
        (λ e. ⊎_elim
        (λ none. used (subst (λ z. In v (operands_of z k)) (first.without none) n) n)
        (λ j. ⊎_elim (λ c. inside c e.0) (λ x. absurd (first.unused k v x e.0 n)) (covered.to_exit j.0 k j.1 e.1))
        (some_user exit_users))
        (first.keeps.named k v made n)

    pub in_header : parent_of u k ≡ Some header
    in_header = ⊎_elim between (λ e. inside (covered.to_body k (subst (In body) (first.keeps.successors k) e.1)) e.0) (then.keeps.named k v made_between i)

pub header_alone : (m : Meaning) → ClosingLaw m
header_alone m t s u header body exit values body_users exit_users w covered first then k v i home = in_header m t s u header body exit values body_users exit_users w covered first then k v i home

pub gate_passed : (m : Meaning) (t u : Tree) (block : ℕ) (values users slice : List ℕ) → slice ≡ users → (users ≡ [] → ⊥) → KeepsPassing m t u block values → KeepsBesides m t u block slice → NoneUses u values slice → IsGatePassed m t u block values users
gate_passed m t u block values users slice is some keeps besides unused = record {
  keeps = keeps;
  besides = subst (λ z. KeepsBesides m t u block z) is besides;
  unused = λ k v i j n. unused k v (subst (In k) (sym is) i) j n;
  without = λ e. absurd (some e);
}

pub gate_without : (m : Meaning) (t : Tree) (block : ℕ) (values users : List ℕ) → users ≡ [] → IsGatePassed m t t block values users
gate_without m t block values users none = record {
  keeps = passing_refl m t block values;
  besides = besides_refl m t block users;
  unused = λ k v i j n. absurd (subst (In k) none i);
  without = λ e. refl;
}

-- what holds where there is a user holds where the users aren't none
pub by_user : {A : Type 0} (users : List ℕ) → (users ≡ [] → ⊥) → ((k : ℕ) → In k users → A) → A
by_user users some each = ⊎_elim (λ e. absurd (some e)) (λ j. each j.0 j.1) (some_user users)
