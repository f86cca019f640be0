-- Going through a block from its first operation on.
use Rattle.std.proofs.Common.{◌≡◌, ℕ, ◌-◌, ◌<◌, List, [], ◌∷◌, ◌++◌, length, Option, Some, None, refl, sym, ap, ◌∙◌, subst, inl, inr, arith, append_assoc, append-nil, length-append, get_or, zero, suc}
use Rattle.pliron_core.specs.Lists.{In, IsDistinct, first_of, next_in}
use Rattle.pliron_core.specs.Tree.{Tree, IsLive, body_of, up_from}
use Rattle.pliron_core.specs.Reads.{next_of}
use Rattle.pliron_core.specs.Invariant.{IsTree}
use Rattle.pliron_core.proofs.ListLemmas.{In-right, distinct-apart, next_in-split}

-- these operations were listed, and this is the next one
pub record IsWalked (t : Tree) (block : ℕ) (ops : List ℕ) (at : Option ℕ) : Type 0 where
  pub rest : List ℕ
  pub split : body_of t block ≡ ops ++ rest
  pub next : at ≡ first_of rest None

pub walk-start : (t : Tree) (block : ℕ) (at : Option ℕ) → at ≡ first_of (body_of t block) None → IsWalked t block [] at
walk-start t block at e = record { rest = body_of t block; split = refl; next = e }

go : (t : Tree) → IsTree t → (block : ℕ) (ops rest : List ℕ) (op : ℕ) (next : Option ℕ) → body_of t block ≡ ops ++ rest → Some op ≡ first_of rest None → next ≡ next_of t op → IsWalked t block (ops ++ op ∷ []) next
go t is block ops [] op next e f g = absurd (cc)
go t is block ops (x ∷ rest) op next e f g =
    let same : x ≡ op = cc in
    let split : body_of t block ≡ ops ++ op ∷ rest = e ∙ ap (λ z. ops ++ z ∷ rest) same in
    let at = is.bodies.owned op block (subst (In op) (sym split) (In-right op ops (op ∷ rest) (inl refl))) in
    let apart : In op ops → ⊥ = λ i. distinct-apart ops (op ∷ rest) (subst IsDistinct split (is.bodies.distinct block)) op i (inl refl) in
    record {
      rest = rest;
      split = split ∙ sym (append_assoc ops (op ∷ []) rest);
      next = g ∙ ap (λ o. up_from o (λ b. next_in op (body_of t b))) at ∙ ap (next_in op) split ∙ next_in-split op ops rest apart;
    }

pub walk-step : (t : Tree) → IsTree t → (block : ℕ) (ops : List ℕ) (at : Option ℕ) (op : ℕ) (next : Option ℕ) → IsWalked t block ops at → at ≡ Some op → next ≡ next_of t op → IsWalked t block (ops ++ op ∷ []) next
walk-step t is block ops at op next w e g = go t is block ops w.rest op next w.split (sym e ∙ w.next) g

live : (t : Tree) → IsTree t → (block : ℕ) (ops rest : List ℕ) (op : ℕ) → body_of t block ≡ ops ++ rest → Some op ≡ first_of rest None → IsLive t op
live t is block ops [] op e f = absurd (cc)
live t is block ops (x ∷ rest) op e f =
    let same : x ≡ op = cc in
    let at = is.bodies.owned op block (subst (In op) (sym e) (In-right op ops (x ∷ rest) (inl (sym same)))) in
    (is.joined.all_in_place op block at).0

pub walk-live : (t : Tree) → IsTree t → (block : ℕ) (ops : List ℕ) (at : Option ℕ) (op : ℕ) → IsWalked t block ops at → at ≡ Some op → IsLive t op
walk-live t is block ops at op w e = live t is block ops w.rest op w.split (sym e ∙ w.next)

end : (t : Tree) (block : ℕ) (ops rest : List ℕ) → body_of t block ≡ ops ++ rest → None ≡ first_of rest None → ops ≡ body_of t block
end t block ops [] e f = sym (e ∙ append-nil ops)
end t block ops (x ∷ rest) e f = absurd (cc)

pub walk-end : (t : Tree) (block : ℕ) (ops : List ℕ) (at : Option ℕ) → IsWalked t block ops at → at ≡ None → ops ≡ body_of t block
walk-end t block ops at w e = end t block ops w.rest w.split (sym e ∙ w.next)

shorter : (t : Tree) (block : ℕ) (ops rest : List ℕ) (op : ℕ) → body_of t block ≡ ops ++ rest → Some op ≡ first_of rest None → length ops < length (body_of t block)
shorter t block ops [] op e f = absurd (cc)
shorter t block ops (x ∷ rest) op e f = let g = length-append ops (x ∷ rest) in let h = ap length e in omega (arith, g, h)

pub walk-shorter : (t : Tree) (block : ℕ) (ops : List ℕ) (at : Option ℕ) (op : ℕ) → IsWalked t block ops at → at ≡ Some op → length (body_of t block) - length (ops ++ op ∷ []) < length (body_of t block) - length ops
walk-shorter t block ops at op w e = let h = shorter t block ops w.rest op w.split (sym e ∙ w.next) in let g = length-append ops (op ∷ []) in omega (arith, g, h)

in_at : (xs : List ℕ) (i x : ℕ) → i < length xs → x ≡ get_or xs i x → In x xs
in_at [] i x lt e = absurd (omega arith)
in_at (y ∷ ys) zero x lt e = inl e
in_at (y ∷ ys) (suc i) x lt e = inr (in_at ys i x (let h : suc i < suc (length ys) = lt in omega (arith, h)) e)

-- what is listed of a block is live
pub listed-live : (t : Tree) → IsTree t → (block : ℕ) (ops : List ℕ) (i x : ℕ) → ops ≡ body_of t block → i < length ops → x ≡ get_or ops i x → IsLive t x
listed-live t is block ops i x e lt at =
    let owned = is.bodies.owned x block (subst (In x) e (in_at ops i x lt at)) in
    (is.joined.all_in_place x block owned).0
