-- Chains end where they ended, where a branch was replaced by one whose edges are led to the ends of their chains.
use Rattle.std.proofs.Common.{◌≡◌, ◌≢◌, ◌⊎◌, inl, inr, ⊎_elim, ℕ, zero, suc, Bool, List, [], ◌∷◌, ◌++◌, length, refl, sym, ap, ◌∙◌, subst, Some, arith}
use Rattle.std.proofs.lemmas.Bool.{cases_eq}
use Rattle.pliron_core.specs.Tree.{Tree, In, head_of, operands_of, successors_of, parent_of, body_of, arguments_of}
use Rattle.pliron_core.specs.Invariant.{IsTree}
use Rattle.pliron_core.proofs.HoldingLemmas.{some_is}
use Rattle.pliron_laws.specs.Datum.{Head}
use Rattle.pliron_opt_edges.specs.Chains.{PassesOn, EndsAt}
use Rattle.pliron_opt_edges.specs.Moved.{IsLedToEnd, AreLedToEnds}
use Rattle.pliron_opt_edges.proofs.ChainLemmas.{one_of, same_end, end_stays}

-- in u the operation `new`, with these successors, is in the place of op, which ended the block a
pub record Replaces (t u : Tree) (a op new : ℕ) (front xs : List ℕ) : Type 0 where
  pub split : body_of t a ≡ front ++ op ∷ []
  pub put : body_of u a ≡ front ++ new ∷ []
  pub in_a : parent_of t op ≡ Some a
  pub fresh : (b : ℕ) → In new (body_of t b) → ⊥
  pub bodies : (b : ℕ) → b ≢ a → body_of u b ≡ body_of t b
  pub arguments : (b : ℕ) → arguments_of u b ≡ arguments_of t b
  pub heads : (k : ℕ) → k ≢ op → k ≢ new → head_of u k ≡ head_of t k
  pub operands : (k : ℕ) → k ≢ op → k ≢ new → operands_of u k ≡ operands_of t k
  pub successors : (k : ℕ) → k ≢ op → k ≢ new → successors_of u k ≡ successors_of t k
  pub new_head : head_of u new ≡ head_of t op
  pub new_operands : operands_of u new ≡ operands_of t op
  pub new_successors : successors_of u new ≡ xs

alone_at : (front : List ℕ) (x y : ℕ) → front ++ x ∷ [] ≡ y ∷ [] → (front ≡ []) × (x ≡ y)
alone_at [] x y e = (refl, one_of x y e)
alone_at (z ∷ []) x y e = absurd (let n = ap length e in omega (arith, n))
alone_at (z ∷ v ∷ front) x y e = absurd (let n = ap length e in omega (arith, n))

-- one edge is led by one
one_led : (is_branch : Head → Bool) (t : Tree) (bs xs : List ℕ) (b : ℕ) → AreLedToEnds is_branch t bs xs → bs ≡ b ∷ [] → (x : ℕ) × (xs ≡ x ∷ []) × IsLedToEnd is_branch t b x
one_led is_branch t [] xs b l e = absurd (let n = ap length e in omega (arith, n))
one_led is_branch t (c ∷ []) [] b l e = absurd l
one_led is_branch t (c ∷ []) (x ∷ []) b l e = (x, refl, subst (λ z. IsLedToEnd is_branch t z x) (one_of c b e) l.0)
one_led is_branch t (c ∷ []) (x ∷ y ∷ xs) b l e = absurd l.1
one_led is_branch t (c ∷ d ∷ bs) xs b l e = absurd (let n = ap length e in omega (arith, n))

leads_one : (is_branch : Head → Bool) (t : Tree) (bs xs : List ℕ) (x : ℕ) → AreLedToEnds is_branch t bs xs → xs ≡ x ∷ [] → (b : ℕ) × (bs ≡ b ∷ []) × IsLedToEnd is_branch t b x
leads_one is_branch t bs [] x l e = absurd (let n = ap length e in omega (arith, n))
leads_one is_branch t [] (y ∷ []) x l e = absurd l
leads_one is_branch t (b ∷ []) (y ∷ []) x l e = (b, refl, subst (λ z. IsLedToEnd is_branch t b z) (one_of y x e) l.0)
leads_one is_branch t (b ∷ c ∷ bs) (y ∷ []) x l e = absurd l.1
leads_one is_branch t bs (y ∷ z ∷ xs) x l e = absurd (let n = ap length e in omega (arith, n))

module _ (is_branch : Head → Bool) (t u : Tree) (a op new : ℕ) (front xs : List ℕ) (w : IsTree t) (r : Replaces t u a op new front xs) (l : AreLedToEnds is_branch t (successors_of t op) xs) where
  other_op : (b jump : ℕ) → b ≢ a → body_of t b ≡ jump ∷ [] → jump ≢ op
  other_op b jump ne e s = ne (some_is (sym (w.bodies.owned jump b (subst (In jump) (sym e) (inl refl))) ∙ ap (parent_of t) s ∙ r.in_a))

  other_new : (b jump : ℕ) → body_of t b ≡ jump ∷ [] → jump ≢ new
  other_new b jump e s = r.fresh b (subst (λ z. In z (body_of t b)) s (subst (In jump) (sym e) (inl refl)))

  -- what passed on passes on, there or to where it is led
  forth : (b c : ℕ) → PassesOn is_branch t b c → PassesOn is_branch u b c ⊎ ((x : ℕ) × PassesOn is_branch u b x × IsLedToEnd is_branch t c x)
  forth b c (jump, p) = elim (cases_eq b a) [
    | inl e ↦
        let at = alone_at front op jump (sym r.split ∙ ap (body_of t) (sym e) ∙ p.body) in
        let led = one_led is_branch t (successors_of t op) xs c l (ap (successors_of t) at.1 ∙ p.leads) in
        inr (
          led.0,
          (
            new,
            record {
              body = ap (body_of u) e ∙ r.put ∙ ap (λ z. z ++ new ∷ []) at.0;
              no_arguments = r.arguments b ∙ p.no_arguments;
              branch = λ h x. p.branch h (ap (head_of t) (sym at.1) ∙ sym r.new_head ∙ x);
              no_operands = r.new_operands ∙ ap (operands_of t) at.1 ∙ p.no_operands;
              leads = r.new_successors ∙ led.1;
            },
          ),
          led.2,
        )
    | inr ne ↦
        let no = other_op b jump ne p.body in
        let nn = other_new b jump p.body in
        inl (
          jump,
          record {
            body = r.bodies b ne ∙ p.body;
            no_arguments = r.arguments b ∙ p.no_arguments;
            branch = λ h x. p.branch h (sym (r.heads jump no nn) ∙ x);
            no_operands = r.operands jump no nn ∙ p.no_operands;
            leads = r.successors jump no nn ∙ p.leads;
          },
        )
  ]

  back : (b x : ℕ) → PassesOn is_branch u b x → PassesOn is_branch t b x ⊎ ((c : ℕ) × PassesOn is_branch t b c × IsLedToEnd is_branch t c x)
  back b x (jump, p) = elim (cases_eq b a) [
    | inl e ↦
        let at = alone_at front new jump (sym r.put ∙ ap (body_of u) (sym e) ∙ p.body) in
        let led = leads_one is_branch t (successors_of t op) xs x l (sym r.new_successors ∙ ap (successors_of u) at.1 ∙ p.leads) in
        inr (
          led.0,
          (
            op,
            record {
              body = ap (body_of t) e ∙ r.split ∙ ap (λ z. z ++ op ∷ []) at.0;
              no_arguments = sym (r.arguments b) ∙ p.no_arguments;
              branch = λ h q. p.branch h (ap (head_of u) (sym at.1) ∙ r.new_head ∙ q);
              no_operands = sym r.new_operands ∙ ap (operands_of u) at.1 ∙ p.no_operands;
              leads = led.1;
            },
          ),
          led.2,
        )
    | inr ne ↦
        let body = sym (r.bodies b ne) ∙ p.body in
        let no = other_op b jump ne body in
        let nn = other_new b jump body in
        inl (
          jump,
          record {
            body = body;
            no_arguments = sym (r.arguments b) ∙ p.no_arguments;
            branch = λ h q. p.branch h (r.heads jump no nn ∙ q);
            no_operands = sym (r.operands jump no nn) ∙ p.no_operands;
            leads = sym (r.successors jump no nn) ∙ p.leads;
          },
        )
  ]

  stays_end : (b : ℕ) → ((c : ℕ) → PassesOn is_branch t b c → ⊥) → (x : ℕ) → PassesOn is_branch u b x → ⊥
  stays_end b none x p = ⊎_elim (λ q. none x q) (λ q. none q.0 q.1) (back b x p)

  pub ends_on : (n b d : ℕ) → EndsAt is_branch t n b d → (k : ℕ) × EndsAt is_branch u k b d
  ends_on zero b d e = (zero, (e.0, stays_end b e.1))
  ends_on (suc n) b d e = ⊎_elim
      (λ p. let r = ends_on n e.0 d e.2 in (suc r.0, (e.0, p, r.1)))
      (λ p. ⊎_elim
      (λ led.
      let same : p.0 ≡ d = (same_end is_branch t led.0 n e.0 p.0 d led.1 e.2).1 in
      let last = end_stays is_branch t n e.0 d e.2 in
      (suc zero, (p.0, p.1, (same, stays_end p.0 (subst (λ z. (c : ℕ) → PassesOn is_branch t z c → ⊥) (sym same) last.1)))))
      (λ none. absurd (none.1 n d e.2))
      p.2)
      (forth b e.0 e.1)

  pub ends_back : (n b d : ℕ) → EndsAt is_branch u n b d → (k : ℕ) × EndsAt is_branch t k b d
  ends_back zero b d e = (zero, (e.0, λ c p. ⊎_elim (λ q. e.1 c q) (λ q. e.1 q.0 q.1) (forth b c p)))
  ends_back (suc n) b d e =
      let r = ends_back n e.0 d e.2 in
      ⊎_elim
      (λ p. (suc r.0, (e.0, p, r.1)))
      (λ p. ⊎_elim
      (λ led.
      let last = end_stays is_branch t led.0 p.0 e.0 led.1 in
      let same : e.0 ≡ d = (same_end is_branch t zero r.0 e.0 e.0 d last r.1).1 in
      (suc led.0, (p.0, p.1, subst (λ z. EndsAt is_branch t led.0 p.0 z) same led.1)))
      (λ none. absurd (none.1 r.0 d (subst (λ z. EndsAt is_branch t r.0 z d) none.0 r.1)))
      p.2)
      (back b e.0 e.1)

-- an edge that is led leads to the end of its chain
pub led_done : (is_branch : Head → Bool) (t : Tree) (b x : ℕ) → IsLedToEnd is_branch t b x → (n d : ℕ) → EndsAt is_branch t n x d → n ≡ 0
led_done is_branch t b x (inl led) n d e = (same_end is_branch t n zero x d x e (end_stays is_branch t led.0 b x led.1)).0
led_done is_branch t b x (inr none) n d e = absurd (none.1 n d (subst (λ z. EndsAt is_branch t n z d) none.0 e))

pub all_led_done : (is_branch : Head → Bool) (t : Tree) (bs xs : List ℕ) → AreLedToEnds is_branch t bs xs → (x : ℕ) → In x xs → (n d : ℕ) → EndsAt is_branch t n x d → n ≡ 0
all_led_done is_branch t [] [] l x i n d e = absurd i
all_led_done is_branch t [] (y ∷ xs) l x i n d e = absurd l
all_led_done is_branch t (b ∷ bs) [] l x i n d e = absurd l
all_led_done is_branch t (b ∷ bs) (y ∷ xs) l x (inl s) n d e = led_done is_branch t b y l.0 n d (subst (λ z. EndsAt is_branch t n z d) s e)
all_led_done is_branch t (b ∷ bs) (y ∷ xs) l x (inr i) n d e = all_led_done is_branch t bs xs l.1 x i n d e
