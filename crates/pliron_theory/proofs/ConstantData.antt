-- The result of an operation that gives a constant has that datum in every run.
use Rattle.std.proofs.Common.{◌≡◌, ◌≢◌, ◌⊎◌, inl, inr, ℕ, List, [], ◌∷◌, map, Option, Some, None, slice_get, refl, sym, ap, ap₂, ◌∙◌, subst, arith, if◌then◌else◌}
use Rattle.std.proofs.lemmas.Bool.{cases_eq, eq-eqb}
use Rattle.pliron_core.specs.Uses.{replace_target}
use Rattle.pliron_core.specs.Writes.{after_replacing}
use Rattle.pliron_core.proofs.WalkLemmas.{inside_first, place_of, place_listed}
use Rattle.pliron_core.specs.declared.context.Def.TheVariants.{Result, Argument}
use Rattle.pliron_core.specs.Tree.{Tree, In, IsLive, operands_of, results_of, regions_of, arguments_of, definition_of}
use Rattle.pliron_core.specs.Invariant.{IsTree}
use Rattle.pliron_core.proofs.HoldingLemmas.{some_is, slice_in, in_slice}
use Rattle.pliron_laws.specs.Datum.{Datum, Empty, Meaning, Move, Give, Visit, Emit}
use Rattle.pliron_laws.specs.Tree.{Block, op_at, entry_block, shape_of}
use Rattle.pliron_laws.specs.States.{Environment, State, environment_with, bind, data_of, input_of}
use Rattle.pliron_laws.specs.Machine.{start}
use Rattle.pliron_theory.specs.Keeps.{IsFit, KeepsRuns}
use Rattle.pliron_theory.specs.Renaming.{MayUse, RunReaches, HasSameDatum, GivesConstant, IsReadAs}
use Rattle.pliron_theory.proofs.Simulation.{agree_trans}
use Rattle.pliron_theory.proofs.Frames.{LatticeValues, Makes, Rules, Holding, holding_kept}
use Rattle.pliron_laws.proofs.Records.{op_shows, block_shows, entry_shows}
use Rattle.pliron_laws.proofs.BindingLemmas.{bind_other, bound_it}
use Rattle.pliron_theory.proofs.Reached.{reached_holds}
use Rattle.pliron_theory.proofs.Reading.{read_data, ready_when_reached}
use Rattle.pliron_theory.proofs.ReplacedKeeps.{replaced_reads, replaced_renamed, replaced_fit, replaced_agree, replaced_keeps}

-- the value has no other datum
abbrev pub IsOnly : ℕ → Datum → Environment → Type 0
IsOnly v c env = (d : Datum) → env v ≡ Some d → d ≡ c

-- what has the datum already, and what is bound to it
only_still : (env env1 : Environment) (v : ℕ) (c : Datum) → env1 v ≡ env v → IsOnly v c env → IsOnly v c env1
only_still env env1 v c same only d e = only d (sym same ∙ e)

only_bound : (env : Environment) (v : ℕ) (c : Datum) → IsOnly v c (environment_with env v c)
only_bound env v c d e = sym (some_is (sym (bound_it env v c v refl) ∙ e))

module _ (m : Meaning) (t : Tree) (w : IsTree t) (root n v : ℕ) (c : Datum) (g : GivesConstant m t n v c) (apart : root ≢ n) where
  abbrev pub facts : LatticeValues
  facts = record {
    Always = IsOnly v c;
    Moves = λ env h rest memo answer. (others : List ℕ) → rest ≡ n ∷ others → (memo ≡ Empty) × (answer ≡ None);
    Waits = λ env h rest memo. (others : List ℕ) → rest ≡ n ∷ others → ⊥;
  }

  made : definition_of t v ≡ Some (Result n 0)
  made = w.joined.results n 0 v (ap (λ l. slice_get l 0) g.results)

  -- when it moves it gives
  gives_it : (env : Environment) (k : ℕ) (memo : Datum) (answer : Option (List Datum)) (a : Move) → k ≡ n → (memo ≡ Empty) × (answer ≡ None) → Makes m t env k memo answer a → a ≡ Give (c ∷ [])
  gives_it env k memo answer a s f x =
      let o = op_shows t k x.operation x.liveness in
      let none : x.operation.operands ≡ [] = sym o.operands ∙ ap (operands_of t) s ∙ g.operands in
      let input : [] ≡ x.input = some_is (sym (ap (input_of env x.operation.operands) f.1 ∙ ap (data_of env) none) ∙ x.reads) in
      sym x.acts ∙ ap₂ (λ p q. m.act (shape_of m t x.operation) p q) f.0 (sym input) ∙ g.gives x.operation (ap (op_at t) (sym s) ∙ x.liveness)

  not_argument : (b : ℕ) → In v (arguments_of t b) → ⊥
  not_argument b i = let j = slice_in (arguments_of t b) v i in let f : Some (Result n 0) ≡ Some (Argument b j.0) = sym made ∙ w.joined.arguments b j.0 v j.1 in absurd (cc)

  only_result : (k : ℕ) → In v (results_of t k) → k ≡ n
  only_result k i = let j = slice_in (results_of t k) v i in let f : Result k j.0 ≡ Result n 0 = some_is (sym (w.joined.results k j.0 v j.1) ∙ made) in cc

  given_only : (env env1 : Environment) (k : ℕ) (ds : List Datum) → (k ≡ n → ds ≡ c ∷ []) → bind env (results_of t k) ds ≡ Some env1 → IsOnly v c env → IsOnly v c env1
  given_only env env1 k ds f e only = elim (cases_eq k n) [
    | inl s ↦
        let h : bind env (v ∷ []) (c ∷ []) ≡ Some env1 = ap₂ (λ p q. bind env p q) (sym (ap (results_of t) s ∙ g.results)) (sym (f s)) ∙ e in
        let same : environment_with env v c ≡ env1 = some_is h in
        subst (IsOnly v c) same (only_bound env v c)
    | inr ne ↦ only_still env env1 v c (bind_other (results_of t k) ds env env1 e v (λ i. ne (only_result k i))) only
  ]

  entered_only : (env env1 : Environment) (b : ℕ) (ds : List Datum) → bind env (arguments_of t b) ds ≡ Some env1 → IsOnly v c env → IsOnly v c env1
  entered_only env env1 b ds e only = only_still env env1 v c (bind_other (arguments_of t b) ds env env1 e v (not_argument b)) only

  not_visit : (i : ℕ) (ds : List Datum) (next : Datum) → Visit i ds next ≡ Give (c ∷ []) → ⊥
  not_visit i ds next e = cc

  not_emit : (x next : Datum) → Emit x next ≡ Give (c ∷ []) → ⊥
  not_emit x next e = cc

  give_same : (ds : List Datum) → Give ds ≡ Give (c ∷ []) → ds ≡ c ∷ []
  give_same ds e = cc

  head_is : (k : ℕ) (rest others : List ℕ) → k ∷ rest ≡ n ∷ others → k ≡ n
  head_is k rest others e = cc

  rules : Rules m t facts
  rules = record {
    Deeper = λ a b. Unit {0};
    deeper_trans = λ a b c i j. tt;
    moves_deep = λ env h k rest memo answer p. tt;
    waits_deep = λ env h k rest memo p. tt;
    gives = λ env env1 h k rest memo answer ds a p x e. (
      given_only env env1 k ds (λ s. give_same ds (gives_it env k memo answer (Give ds) s (p rest (ap (λ z. z ∷ rest) s)) x)) (ap (λ vs. bind env vs ds) (op_shows t k x.operation x.liveness).results ∙ e) a,
      λ others f. (refl, refl),
      λ h j r y d z. z,
    );
    goes = λ env env1 h k rest memo answer i ds b x a p y ce be e.
        (entered_only env env1 b ds (ap (λ vs. bind env vs ds) (block_shows t b x be).arguments ∙ e) a, λ others f. (refl, refl), λ h j r y d z. z);
    visits = λ env env1 h k rest memo answer i ds next r b a p x re be e. (
      visited env env1 r b ds be e a,
      λ others f. (refl, refl),
      λ others f. let s = head_is k rest others f in not_visit i ds next (gives_it env k memo answer (Visit i ds next) s (p others f) x),
      λ h j r y d z. z,
    );
    accurate = λ env h k rest memo answer x next d a p y. λ others f. absurd (not_emit x next (gives_it env k memo answer (Emit x next) (head_is k rest others f) (p others f) y));
    resumes = λ env h rest memo ds p. λ others f. absurd (p others f);
  }
    where
      visited : (env env1 : Environment) (r : ℕ) (b : Block) (ds : List Datum) → entry_block t r ≡ Some b → bind env b.arguments ds ≡ Some env1 → IsOnly v c env → IsOnly v c env1
      visited env env1 r b ds be e only =
          let x = entry_shows t r b be in
          entered_only env env1 x.key ds (ap (λ vs. bind env vs ds) (block_shows t x.key b x.liveness).arguments ∙ e) only

  begins : (inputs world : List Datum) → Holding m t facts rules root (start root inputs world)
  begins inputs world = record { holder = None; always = λ d e. grind arith; place = λ others f. absurd (apart (head_is root [] others f)); below = tt }

  pub constant_datum : (s : State) → RunReaches m t root s → (d : Datum) → s.environment v ≡ Some d → d ≡ c
  constant_datum s r = (reached_holds m t root (Holding m t facts rules root) (holding_kept m t facts rules root) begins s r).always

In-replaced : (old new : ℕ) (xs : List ℕ) → In old xs → In new (map (replace_target old new) xs)
In-replaced old new [] i = absurd i
In-replaced old new (x ∷ xs) (inl e) = inl (sym (ap (replace_target old new) (sym e) ∙ ap (λ b. if b then new else old) (eq-eqb old old refl)))
In-replaced old new (x ∷ xs) (inr i) = inr (In-replaced old new xs i)

-- the result of an operation that gives a constant is read as that constant
pub read_constant : (m : Meaning) (t : Tree) (n v : ℕ) (c : Datum) → IsTree t → GivesConstant m t n v c → (root : ℕ) → IsFit m t root → IsReadAs m t v c root
read_constant m t n v c w g root f s k rest j e none u = there.1 ∙ ap Some (go (cases_eq root n))
  where
    there : (d : Datum) × (s.environment v ≡ Some d)
    there = read_data m t root w f s j k v rest e none u

    empty : root ≡ n → ⊥
    empty q =
        let r = ready_when_reached m t root w f s j k rest e none in
        let x = inside_first t root k r.inside in
        let p = place_of t x.0 root x.1 in
        subst (In p.region) (ap (regions_of t) q ∙ g.regions) (in_slice (regions_of t root) p.index p.region (place_listed t w x.0 root p))

    go : (root ≡ n) ⊎ (root ≢ n) → there.0 ≡ c
    go (inl q) = absurd (empty q)
    go (inr ne) = constant_datum m t w root n v c g ne s j there.0 there.1

-- a value that is read as a constant may be replaced by a constant's result
pub same_by_constant : (m : Meaning) (t : Tree) (old new n : ℕ) (c : Datum) → IsTree t → IsTree (after_replacing t old new) → GivesConstant m (after_replacing t old new) n new c → (root : ℕ) → IsFit m t root → IsFit m (after_replacing t old new) root → IsReadAs m t old c root → HasSameDatum m t (after_replacing t old new) old new root
same_by_constant m t old new n c w w' g root f f' reads s s' k rest i j env e e' none none' u =
    let u' : In new (operands_of (after_replacing t old new) k) = subst (In new) (sym ((replaced_renamed t old new).operands k)) (In-replaced old new (operands_of t k) u) in
    reads s k rest i e none u ∙ sym (env new ∙ read_constant m (after_replacing t old new) n new c w' g root f' s' k rest j e' none' u')

pub constant_keeps : (m : Meaning) (t : Tree) (old new n : ℕ) (c : Datum) → IsTree t → IsTree (after_replacing t old new) → GivesConstant m (after_replacing t old new) n new c → ((root : ℕ) → IsFit m t root → (user : ℕ) → In old (operands_of t user) → MayUse t root user new) → ((root : ℕ) → IsFit m t root → IsReadAs m t old c root) → KeepsRuns m t (after_replacing t old new)
constant_keeps m t old new n c w w' g uses reads = replaced_keeps m t old new uses (λ root f f'. same_by_constant m t old new n c w w' g root f f' (reads root f))

-- a tree came from another one and keeps its runs; then the value may be replaced by a constant's result
-- where the roots of that other one read it as the constant
pub put_constant_keeps : (m : Meaning) (t u : Tree) (old new n : ℕ) (c : Datum) → KeepsRuns m t u → IsTree u → IsTree (after_replacing u old new) → GivesConstant m (after_replacing u old new) n new c → ((root : ℕ) → IsFit m u root → (user : ℕ) → In old (operands_of u user) → MayUse u root user new) → ((root : ℕ) → IsFit m t root → IsLive u root → IsReadAs m u old c root) → KeepsRuns m t (after_replacing u old new)
put_constant_keeps m t u old new n c keeps w w' g uses reads = record {
  agrees = λ root f l.
      let fu = keeps.stays root f l in
      agree_trans (keeps.agrees root f l) (replaced_agree m u old new root fu (same_by_constant m u old new n c w w' g root fu (replaced_fit m u old new root fu (uses root fu)) (reads root f l)));
  heads = keeps.heads;
  stays = λ root f l. let fu = keeps.stays root f l in replaced_fit m u old new root fu (uses root fu);
  grows = keeps.grows;
  fewer = keeps.fewer;
}

-- and each value that they read as a constant is still read so
pub put_constant_reads : (m : Meaning) (t u : Tree) (old new n : ℕ) (c : Datum) → KeepsRuns m t u → IsTree u → IsTree (after_replacing u old new) → GivesConstant m (after_replacing u old new) n new c → ((root : ℕ) → IsFit m u root → (user : ℕ) → In old (operands_of u user) → MayUse u root user new) → (root : ℕ) → IsFit m t root → IsLive u root → IsReadAs m u old c root → (v : ℕ) (d : Datum) → v ≢ new → IsReadAs m u v d root → IsReadAs m (after_replacing u old new) v d root
put_constant_reads m t u old new n c keeps w w' g uses root f l reads v d ne known =
    let fu = keeps.stays root f l in
    replaced_reads m u old new root fu (same_by_constant m u old new n c w w' g root fu (replaced_fit m u old new root fu (uses root fu)) reads) v d ne known
