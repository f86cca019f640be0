-- A constant that is made, put and used in the place of a value keeps what roots do.
use Rattle.std.proofs.Common.{◌≡◌, ◌≢◌, ℕ, false, List, ◌∷◌, [], length, map, Some, None, IsSome, refl, sym, ap, ◌∙◌, subst, arith}
use Rattle.std.proofs.lemmas.List.{get_or-set_other, get_or-set_same}
use Rattle.pliron_core.specs.declared.attrs.Head.{Head}
use Rattle.pliron_core.specs.declared.attrs.AttrObj.{AttrObj}
use Rattle.pliron_core.specs.declared.context.Def.TheVariants.{Result, Argument}
use Rattle.pliron_core.specs.Lists.{put_before}
use Rattle.pliron_core.specs.Uses.{replace_target}
use Rattle.pliron_core.specs.Tree.{Tree, In, IsBlock, IsLive, row_of, operands_of, parent_of, body_of, definition_of}
use Rattle.pliron_core.specs.Invariant.{IsTree}
use Rattle.pliron_core.specs.Writes.{after_creating, after_placing, put_first, put_next_to, after_replacing}
use Rattle.pliron_core.proofs.BesideLemmas.{IsBeside, created_beside}
use Rattle.pliron_core.proofs.HoldingLemmas.{some_is, past_live}
use Rattle.pliron_core.proofs.TreeLemmas.{block-within}
use Rattle.pliron_core.proofs.UsedLemmas.{get_map}
use Rattle.pliron_laws.specs.Datum.{Datum, Empty, datum_of, Meaning, Give}
use Rattle.pliron_laws.specs.Tree.{Operation, op_at, shape_of}
use Rattle.pliron_laws.specs.Folding.{MakesConstant}
use Rattle.pliron_laws.specs.Root.{defining_block}
use Rattle.pliron_theory.specs.Keeps.{IsFit, KeepsRuns}
use Rattle.pliron_theory.specs.Renaming.{GivesConstant, MayUse, IsReadAs}
use Rattle.pliron_theory.specs.Rewrites.{IsConstant}
use Rattle.pliron_laws.proofs.Records.{op_shows}
use Rattle.pliron_theory.proofs.ConstantKeeps.{shape_plain, row, no_operands, no_successors, range_of, before_well, first_well}
use Rattle.pliron_theory.proofs.ConstantData.{put_constant_keeps, put_constant_reads}
use Rattle.pliron_theory.proofs.Keeping.{keeps_trans}
use Rattle.pliron_theory.proofs.PutUses.{IsPut, may_use_before, may_use_first}

module _ (m : Meaning) (t : Tree) (head : Head) (attr : AttrObj) (w : IsTree t) (makes : MakesConstant m attr head) (plain : m.is_branch head ≡ false) where
  abbrev n : ℕ
  n = length t.operations

  abbrev v : ℕ
  v = length t.definitions

  abbrev made : Tree
  made = after_creating t head 1 0

  beside : IsBeside t (after_creating t head 1 0) (length t.operations)
  beside = created_beside t head 1 0 w

  new_row : row_of made n ≡ record { head = Some head; results = v ∷ []; regions = [] }
  new_row = row m t head attr w makes plain

  module _ (block : ℕ) (body : List ℕ) where
    abbrev u : Tree
    u = after_placing (after_creating t head 1 0) (length t.operations) block body

    is_put : IsPut u n v block
    is_put = record {
      results = ap (λ z. z.results) new_row;
      operands = no_operands m t head attr w makes plain;
      successors = no_successors m t head attr w makes plain;
      regions = ap (λ z. z.regions) new_row;
      parent = get_or-set_same made.parents n (Some block) None beside.place;
    }

    pub gives : (old : ℕ) → GivesConstant m (after_replacing u old v) n v (datum_of attr)
    gives old = record { results = is_put.results; operands = none; regions = is_put.regions; gives = given }
      where
        none : operands_of (after_replacing u old v) n ≡ []
        none = get_map (map (replace_target old v)) refl made.operands n ∙ ap (map (replace_target old v)) is_put.operands

        given : (o : Operation) → op_at (after_replacing u old v) n ≡ Some o → m.act (shape_of m (after_replacing u old v) o) Empty [] ≡ Give (datum_of attr ∷ [])
        given o e =
            let s = op_shows (after_replacing u old v) n o e in
            let h : o.head ≡ head = some_is (sym s.head ∙ ap (λ z. z.head) new_row) in
            let b : length o.results ≡ 1 = ap length (sym s.results ∙ is_put.results) in
            ap (λ z. m.act z Empty []) (shape_plain m (after_replacing u old v) o head plain h (sym s.operands ∙ none) b (sym s.successors ∙ is_put.successors) (sym s.regions ∙ is_put.regions)) ∙ makes.gives

  abbrev body_before : (at block : ℕ) → List ℕ
  body_before at block = put_before at (length t.operations) (body_of t block)

  abbrev body_first : ℕ → List ℕ
  body_first block = length t.operations ∷ body_of t block

  -- before the operation whose result the value is
  module _ (at block old j : ℕ) (all_in_place : parent_of t at ≡ Some block) (def : definition_of t old ≡ Some (Result at j)) where
    pub result_uses : IsTree (u block (body_before at block)) → (root : ℕ) → IsFit m (u block (body_before at block)) root → (user : ℕ) → In old (operands_of (u block (body_before at block)) user) → MayUse (u block (body_before at block)) root user v
    result_uses wu = may_use_before m (u block (body_before at block)) wu n v block old (is_put block (body_before at block)) home at j (body_of t block) new_def here
      where
        new_def : definition_of (u block (body_before at block)) old ≡ Some (Result at j)
        new_def = beside.definitions old (Result at j) def

        other : at ≢ n
        other e = let lt = past_live t at (w.joined.all_in_place at block all_in_place).0 in omega (arith, lt, e)

        home : defining_block (u block (body_before at block)) (definition_of (u block (body_before at block)) old) ≡ Some block
        home = ap (defining_block (u block (body_before at block))) new_def ∙ get_or-set_other made.parents n at (Some block) None other ∙ beside.parents at other ∙ all_in_place

        here : body_of (u block (body_before at block)) block ≡ body_before at block
        here = get_or-set_same made.bodies block (body_before at block) [] (range_of m t head attr w makes plain block at (w.bodies.listed at block all_in_place))

    pub result_keeps : IsConstant m t old attr → IsTree (put_next_to made n at (Some block)) → IsTree (after_replacing (put_next_to made n at (Some block)) old v) → KeepsRuns m t (after_replacing (put_next_to made n at (Some block)) old v)
    result_keeps reads wu wv =
        let x = before_well m t head attr w makes plain at block all_in_place wu in
        put_constant_keeps m t (u block (body_before at block)) old v n (datum_of attr) x.0 wu wv (gives block (body_before at block) old) (result_uses wu) (λ root f l. x.1 root f old (datum_of attr) (reads root f))

    -- in a tree that came from another one, whose roots read the value as the constant
    pub result_keeps_on : (t₀ : Tree) → KeepsRuns m t₀ t → ((root : ℕ) → IsFit m t₀ root → IsLive t root → IsReadAs m t old (datum_of attr) root) → IsTree (put_next_to made n at (Some block)) → IsTree (after_replacing (put_next_to made n at (Some block)) old v) → KeepsRuns m t₀ (after_replacing (put_next_to made n at (Some block)) old v) × ((root : ℕ) → IsFit m t₀ root → IsLive t root → (x : ℕ) (d : Datum) → x ≢ v → IsReadAs m t x d root → IsReadAs m (after_replacing (put_next_to made n at (Some block)) old v) x d root)
    result_keeps_on t₀ keeps reads wu wv =
        let x = before_well m t head attr w makes plain at block all_in_place wu in
        let there = keeps_trans m t₀ t (u block (body_before at block)) keeps x.0 in (
          put_constant_keeps m t₀ (u block (body_before at block)) old v n (datum_of attr) there wu wv (gives block (body_before at block) old) (result_uses wu) (λ root f l. let old_l = before root f l in x.1 root (keeps.stays root f old_l) old (datum_of attr) (reads root f old_l)),
          λ root f l y d ne known.
              let fu = keeps.stays root f l in
              put_constant_reads m t (u block (body_before at block)) old v n (datum_of attr) x.0 wu wv (gives block (body_before at block) old) (result_uses wu) root fu (x.0.stays root fu (forth root fu)).live (x.1 root fu old (datum_of attr) (reads root f l)) y d ne (x.1 root fu y d known),
        )
      where
        before : (root : ℕ) → IsFit m t₀ root → IsLive (u block (body_before at block)) root → IsLive t root
        before root f l = (before_well m t head attr w makes plain at block all_in_place wu).0.fewer root (let g = keeps.grows in let lt = past_live t₀ root f.live in omega (arith, g, lt)) l

        forth : (root : ℕ) → IsFit m t root → IsLive (u block (body_before at block)) root
        forth root f = subst (λ z. IsSome z.head) (sym (beside.operations root (λ e. let lt = past_live t root f.live in omega (arith, lt, e)))) f.live

  -- first in the block whose argument the value is
  pub argument_keeps : (block old j : ℕ) → IsBlock t block → definition_of t old ≡ Some (Argument block j) → IsConstant m t old attr → IsTree (put_first made n block) → IsTree (after_replacing (put_first made n block) old v) → KeepsRuns m t (after_replacing (put_first made n block) old v)
  argument_keeps block old j all_in_place def reads wu wv =
      let x = first_well m t head attr w makes plain block all_in_place wu in
      put_constant_keeps m t (u block (body_first block)) old v n (datum_of attr) x.0 wu wv (gives block (body_first block) old)
      (may_use_first m (u block (body_first block)) wu n v block old (is_put block (body_first block)) (ap (defining_block (u block (body_first block))) new_def) j (body_of t block) new_def here)
      (λ root f l. x.1 root f old (datum_of attr) (reads root f))
    where
      new_def : definition_of (u block (body_first block)) old ≡ Some (Argument block j)
      new_def = beside.definitions old (Argument block j) def

      here : body_of (u block (body_first block)) block ≡ body_first block
      here = get_or-set_same made.bodies block (body_first block) [] (block-within t block w.keys all_in_place)
