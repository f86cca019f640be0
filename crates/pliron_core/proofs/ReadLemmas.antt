-- What a read answers with stands.
use Rattle.std.proofs.Common.{◌≡◌, ◌⊎◌, ℕ, zero, suc, List, [], ◌∷◌, Option, Some, None, refl, sym, ◌∙◌, inl, inr}
use Rattle.std.specs.Option.{IfSome}
use Rattle.std.specs.List.{slice_get}
use Rattle.std.proofs.lemmas.Bool.{cases_eq, ne_eqb, eq-eqb}
use Rattle.std.proofs.lemmas.Option.{same_Some, none-some}
use Rattle.pliron_core.specs.Lists.{In, first_of, last_of, next_in, prev_in}
use Rattle.pliron_core.specs.Tree.{Tree, IsLive, IsBlock, parent_of, body_of, block_parent_of, layout_of, up_from}
use Rattle.pliron_core.specs.Invariant.{IsTree}

pub In-at : (xs : List ℕ) (i x : ℕ) → slice_get xs i ≡ Some x → In x xs
In-at [] i x e = absurd (none-some x e)
In-at (y ∷ ys) zero x e = inl (sym (same_Some y x e))
In-at (y ∷ ys) (suc i) x e = inr (In-at ys i x e)

pub In-first : (xs : List ℕ) (x : ℕ) → first_of xs None ≡ Some x → In x xs
In-first [] x e = absurd (none-some x e)
In-first (y ∷ ys) x e = inl (sym (same_Some y x e))

last-cases : (b : Option ℕ) (xs : List ℕ) (x : ℕ) → last_of b xs ≡ Some x → (b ≡ Some x) ⊎ In x xs
last-cases b [] x e = inl e
last-cases b (y ∷ ys) x e = elim (last-cases (Some y) ys x e) [ inl h ↦ inr (inl (sym (same_Some y x h))) | inr i ↦ inr (inr i) ]

pub In-last : (xs : List ℕ) (x : ℕ) → last_of None xs ≡ Some x → In x xs
In-last xs x e = elim (last-cases None xs x e) [ inl h ↦ absurd (none-some x h) | inr i ↦ i ]

pub In-next : (at : ℕ) (xs : List ℕ) (x : ℕ) → next_in at xs ≡ Some x → In x xs
In-next at [] x e = absurd (none-some x e)
In-next at (y ∷ ys) x e =
    elim (cases_eq at y) [
      | inl same ↦ inr (In-first ys x (rw (eq-eqb at y same) at e))
      | inr ne ↦ inr (In-next at ys x (rw (ne_eqb at y ne) at e))
    ]

prev-cases : (b : Option ℕ) (at : ℕ) (xs : List ℕ) (x : ℕ) → prev_in b at xs ≡ Some x → (b ≡ Some x) ⊎ In x xs
prev-cases b at [] x e = absurd (none-some x e)
prev-cases b at (y ∷ ys) x e =
    elim (cases_eq at y) [
      | inl same ↦ inl (rw (eq-eqb at y same) at e)
      | inr ne ↦
          elim (prev-cases (Some y) at ys x (rw (ne_eqb at y ne) at e)) [ inl h ↦ inr (inl (sym (same_Some y x h))) | inr i ↦ inr (inr i) ]
    ]

pub In-prev : (at : ℕ) (xs : List ℕ) (x : ℕ) → prev_in None at xs ≡ Some x → In x xs
In-prev at xs x e = elim (prev-cases None at xs x e) [ inl h ↦ absurd (none-some x h) | inr i ↦ i ]

-- a fact on each answer that there is
pub if-some : (P : ℕ → Type 0) (o : Option ℕ) → ((x : ℕ) → o ≡ Some x → P x) → IfSome o P
if-some P None f = tt
if-some P (Some x) f = f x refl

-- so is what stands in a body, and what stands in a layout
pub In-live : (t : Tree) → IsTree t → (b x : ℕ) → In x (body_of t b) → IsLive t x
In-live t w b x i = (w.joined.all_in_place x b (w.bodies.owned x b i)).0

pub In-block : (t : Tree) → IsTree t → (r b : ℕ) → In b (layout_of t r) → IsBlock t b
In-block t w r b i = rw (w.layouts.owned b r i) refl

pub tail-liveness : (t : Tree) → IsTree t → (b : ℕ) (o : Option ℕ) → o ≡ last_of None (body_of t b) → IfSome o (λ x. IsLive t x)
tail-liveness t w b o is = if-some (λ x. IsLive t x) o (λ x e. In-live t w b x (In-last _ x (sym is ∙ e)))

pub last-liveness : (t : Tree) → IsTree t → (r : ℕ) (o : Option ℕ) → o ≡ last_of None (layout_of t r) → IfSome o (λ b. IsBlock t b)
last-liveness t w r o is = if-some (λ b. IsBlock t b) o (λ b e. In-block t w r b (In-last _ b (sym is ∙ e)))

-- what stands beside an operation in its block, and beside a block in its region
up-some : (p : Option ℕ) (f : ℕ → Option ℕ) (x : ℕ) → up_from p f ≡ Some x → (y : ℕ) × (f y ≡ Some x)
up-some None f x e = absurd (none-some x e)
up-some (Some y) f x e = (y, e)

pub next-liveness : (t : Tree) → IsTree t → (op : ℕ) (o : Option ℕ) → o ≡ up_from (parent_of t op) (λ b. next_in op (body_of t b)) → IfSome o (λ x. IsLive t x)
next-liveness t w op o is =
    if-some (λ x. IsLive t x) o (λ x e. let u = up-some (parent_of t op) (λ b. next_in op (body_of t b)) x (sym is ∙ e) in In-live t w u.0 x (In-next op _ x u.1))

pub prev-liveness : (t : Tree) → IsTree t → (op : ℕ) (o : Option ℕ) → o ≡ up_from (parent_of t op) (λ b. prev_in None op (body_of t b)) → IfSome o (λ x. IsLive t x)
prev-liveness t w op o is =
    if-some (λ x. IsLive t x) o (λ x e. let u = up-some (parent_of t op) (λ b. prev_in None op (body_of t b)) x (sym is ∙ e) in In-live t w u.0 x (In-prev op _ x u.1))

pub next_block-liveness : (t : Tree) → IsTree t → (block : ℕ) (o : Option ℕ) → o ≡ up_from (block_parent_of t block) (λ r. next_in block (layout_of t r)) → IfSome o (λ b. IsBlock t b)
next_block-liveness t w block o is =
    if-some (λ b. IsBlock t b) o (λ b e. let u = up-some (block_parent_of t block) (λ r. next_in block (layout_of t r)) b (sym is ∙ e) in In-block t w u.0 b (In-next block _ b u.1))

pub prev_block-liveness : (t : Tree) → IsTree t → (block : ℕ) (o : Option ℕ) → o ≡ up_from (block_parent_of t block) (λ r. prev_in None block (layout_of t r)) → IfSome o (λ b. IsBlock t b)
prev_block-liveness t w block o is =
    if-some (λ b. IsBlock t b) o (λ b e. let u = up-some (block_parent_of t block) (λ r. prev_in None block (layout_of t r)) b (sym is ∙ e) in In-block t w u.0 b (In-prev block _ b u.1))
