-- Values that have the datum of their originals, while both are bound.
use Rattle.std.proofs.Common.{◌≡◌, ◌≢◌, ◌⊎◌, inl, inr, ⊎_elim, ℕ, Bool, List, [], ◌∷◌, map, Option, Some, None, refl, sym, ap, ap₂, ◌∙◌, subst, nat_eq, if◌then◌else◌}
use Rattle.std.proofs.lemmas.Bool.Decides.{eqb_tells}
use Rattle.pliron_core.specs.Lists.{In}
use Rattle.pliron_core.proofs.HoldingLemmas.{some_is, not_none}
use Rattle.pliron_core.proofs.ListLemmas.{decide_in}
use Rattle.pliron_laws.specs.Datum.{Datum}
use Rattle.pliron_laws.specs.States.{Environment, environment_with, bind, prepend_optional, data_of}
use Rattle.pliron_rewrite_copies.proofs.Maps.{in_map, from_map}

module _ (f : ℕ → ℕ) where
  -- the value has a datum, which its original has too
  pub record IsTwin (env env' : Environment) (v : ℕ) : Type 0 where
    pub datum : Datum
    pub here : env v ≡ Some datum
    pub there : env' (f v) ≡ Some datum

  with_it : (env : Environment) (w : ℕ) (d : Datum) (v : ℕ) → v ≡ w → environment_with env w d v ≡ Some d
  unfolding environment_with
  with_it env w d v e = ⊎_elim
      (λ y. ap (λ x. if x then Some d else env v) y.0)
      (λ n. absurd (n.1 e))
      (eqb_tells v w)

  with_other : (env : Environment) (w : ℕ) (d : Datum) (v : ℕ) → v ≢ w → environment_with env w d v ≡ env v
  unfolding environment_with
  with_other env w d v ne = ⊎_elim
      (λ y. absurd (ne y.1))
      (λ n. ap (λ x. if x then Some d else env v) n.0)
      (eqb_tells v w)

  -- binding other values leaves it alone
  pub twin_kept : (vs : List ℕ) (ds : List Datum) (env env' e e' : Environment) → bind env vs ds ≡ Some e → bind env' (map f vs) ds ≡ Some e' → (v : ℕ) → (In (f v) (map f vs) → ⊥) → IsTwin env env' v → IsTwin e e' v
  twin_kept [] [] env env' e e' b b' v out x = subst (λ z. IsTwin z e' v) (some_is b) (subst (λ z. IsTwin env z v) (some_is b') x)
  twin_kept [] (d ∷ ds) env env' e e' b b' v out x = absurd (not_none b)
  twin_kept (w ∷ vs) [] env env' e e' b b' v out x = absurd (not_none b)
  twin_kept (w ∷ vs) (d ∷ ds) env env' e e' b b' v out x = twin_kept vs ds (environment_with env w d) (environment_with env' (f w) d) e e' b b' v (λ i. out (inr i)) (record {
    datum = x.datum;
    here = with_other env w d v (λ q. out (inl (ap f q))) ∙ x.here;
    there = with_other env' (f w) d (f v) (λ q. out (inl q)) ∙ x.there;
  })

  -- a value that is bound is one, where no other of these has its original
  pub twin_bound : (vs : List ℕ) (ds : List Datum) (env env' e e' : Environment) → bind env vs ds ≡ Some e → bind env' (map f vs) ds ≡ Some e' → (v : ℕ) → ((x : ℕ) → In x vs → f x ≡ f v → x ≡ v) → In v vs → IsTwin e e' v
  twin_bound [] ds env env' e e' b b' v one i = absurd i
  twin_bound (w ∷ vs) [] env env' e e' b b' v one i = absurd (not_none b)
  twin_bound (w ∷ vs) (d ∷ ds) env env' e e' b b' v one i = ⊎_elim
      (λ j. twin_bound vs ds (environment_with env w d) (environment_with env' (f w) d) e e' b b' v (λ x k. one x (inr k)) j)
      (λ out.
      let s : v ≡ w = ⊎_elim (λ q. q) (λ j. absurd (out j)) i in
      twin_kept vs ds (environment_with env w d) (environment_with env' (f w) d) e e' b b' v (λ j. let k = from_map f vs (f v) j in out (subst (λ z. In z vs) (one k.0 (inr k.1) k.2) k.1)) (record {
        datum = d;
        here = with_it env w d v s;
        there = with_it env' (f w) d (f v) (ap f s);
      }))
      (decide_in v vs)

  -- both are bound, or neither
  abbrev pub BindAlike : Option Environment → Option Environment → Type 0
  BindAlike None None = Unit {0}
  BindAlike None (Some e') = ⊥
  BindAlike (Some e) None = ⊥
  BindAlike (Some e) (Some e') = Unit {0}

  pub bind_alike : (vs : List ℕ) (ds : List Datum) (env env' : Environment) → BindAlike (bind env vs ds) (bind env' (map f vs) ds)
  bind_alike [] [] env env' = tt
  bind_alike [] (d ∷ ds) env env' = tt
  bind_alike (w ∷ vs) [] env env' = tt
  bind_alike (w ∷ vs) (d ∷ ds) env env' = bind_alike vs ds (environment_with env w d) (environment_with env' (f w) d)

  pub data_twin : (env env' : Environment) (vs : List ℕ) → ((v : ℕ) → In v vs → IsTwin env env' v) → data_of env' (map f vs) ≡ data_of env vs
  data_twin env env' [] all = refl
  data_twin env env' (v ∷ vs) all =
      let x = all v (inl refl) in
      ap₂ prepend_optional (x.there ∙ sym x.here) (data_twin env env' vs (λ y i. all y (inr i)))
