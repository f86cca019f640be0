-- Moves and blocks that are the same on both sides.
use Rattle.std.proofs.Common.{◌≡◌, ℕ, suc, Bool, false, List, [], ◌∷◌, length, map, Option, Some, None, inl, inr, refl, sym, ap, ap₂, ◌∙◌, subst, arith, nat_eq, if◌then◌else◌}
use Rattle.pliron_core.specs.Lists.{In}
use Rattle.pliron_laws.specs.Datum.{Datum, Meaning, Shape, Move}
use Rattle.pliron_laws.specs.Tree.{Tree, Operation, block_at, entry_block, count_arguments, unless, shape_of}
use Rattle.pliron_laws.specs.States.{Environment, environment_with, bind, prepend_optional, data_of}
use Rattle.pliron_laws.specs.Acting.{Act, MovesAlike, ActAlike, PassesSame, JumpsSame}
use Rattle.pliron_theory.proofs.Lockstep.{EnvsTied}

pub moves_refl : (a : Move) → MovesAlike PassesSame JumpsSame a a
moves_refl a = record {
  give = λ ds e. e;
  visit = λ i ds memo e. (ds, e, refl);
  goto = λ i ds e. (i, ds, e, (refl, refl));
  leave = λ ds e. e;
  emit = λ e memo f. f;
  traps = λ e. e;
}

pub alike_refl : (act : Act) (s s' : Shape) (first first' : List Datum) → s ≡ s' → first ≡ first' → ActAlike act PassesSame JumpsSame s s' first first'
alike_refl act s s' first first' e f = subst (λ z. ActAlike act PassesSame JumpsSame s z first first') e (subst (λ z. ActAlike act PassesSame JumpsSame s s first z) f (record { begin = moves_refl _; later = λ memo input comes. moves_refl _ }))

pub map_same : {B : Type 0} (f g : ℕ → B) (xs : List ℕ) → ((x : ℕ) → In x xs → f x ≡ g x) → map f xs ≡ map g xs
map_same f g [] same = refl
map_same f g (x ∷ xs) same = ap₂ (λ y ys. y ∷ ys) (same x (inl refl)) (map_same f g xs (λ y i. same y (inr i)))

-- two operations with one head and as many operands and results, and with regions and successors that
-- have as many arguments, are of one shape
pub shape_same : (m : Meaning) (t t' : Tree) (o : Operation) → ((r : ℕ) → In r o.regions → count_arguments (entry_block t r) ≡ count_arguments (entry_block t' r)) → ((b : ℕ) → In b o.successors → count_arguments (block_at t b) ≡ count_arguments (block_at t' b)) → shape_of m t o ≡ shape_of m t' o
unfolding shape_of
shape_same m t t' o entries targets =
    ap₂ (λ e g. record { head = o.head; operands = length o.operands; results = length o.results; successors = length o.successors; entry_arguments = e; target_arguments = unless (m.is_branch o.head) g })
    (map_same (λ r. count_arguments (entry_block t r)) (λ r. count_arguments (entry_block t' r)) o.regions entries)
    (map_same (λ b. count_arguments (block_at t b)) (λ b. count_arguments (block_at t' b)) o.successors targets)

-- the environments are the same but at values that are gone
abbrev pub SameBut : (ℕ → Bool) → Environment → Environment → Type 0
SameBut deleted env env' = (v : ℕ) → deleted v ≡ false → env v ≡ env' v

module _ (deleted : ℕ → Bool) where
  pub bound_same : (env env' : Environment) → SameBut deleted env env' → (v : ℕ) (d : Datum) → SameBut deleted (environment_with env v d) (environment_with env' v d)
  unfolding environment_with
  bound_same env env' e v d w g = ap (λ o. if nat_eq w v then Some d else o) (e w g)

  pub bind_same : (vs : List ℕ) (env env' : Environment) (ds : List Datum) → SameBut deleted env env' → EnvsTied (SameBut deleted) (bind env vs ds) (bind env' vs ds)
  bind_same [] env env' [] e = e
  bind_same [] env env' (d ∷ ds) e = tt
  bind_same (v ∷ vs) env env' [] e = tt
  bind_same (v ∷ vs) env env' (d ∷ ds) e = bind_same vs _ _ ds (bound_same env env' e v d)

  pub data_same : (env env' : Environment) → SameBut deleted env env' → (vs : List ℕ) → ((v : ℕ) → In v vs → deleted v ≡ false) → data_of env vs ≡ data_of env' vs
  data_same env env' e [] a = refl
  data_same env env' e (v ∷ vs) a = ap₂ prepend_optional (e v (a v (inl refl))) (data_same env env' e vs (λ w i. a w (inr i)))

put_some : (o : Option Datum) (p : Option (List Datum)) (ds : List Datum) → prepend_optional o p ≡ Some ds → (others : List Datum) × (p ≡ Some others) × (length ds ≡ suc (length others))
put_some None p ds e = grind arith
put_some (Some d) None ds e = grind arith
put_some (Some d) (Some others) ds e =
    let f : d ∷ others ≡ ds = cc in
    (others, refl, sym (ap length f))

-- there are as many data as values
pub data_long : (env : Environment) (vs : List ℕ) (ds : List Datum) → data_of env vs ≡ Some ds → length ds ≡ length vs
data_long env [] ds e =
    let f : [] ≡ ds = cc in
    sym (ap length f)
data_long env (v ∷ vs) ds e =
    let p = put_some (env v) (data_of env vs) ds e in
    p.2 ∙ ap suc (data_long env vs p.0 p.1)
