-- The steps by which operations use an argument in the place of a value.
use Rattle.std.proofs.Common.{◌≡◌, ◌≢◌, inl, inr, ⊎_elim, ℕ, zero, suc, ◌+◌, ◌<◌, if◌then◌else◌, List, [], ◌∷◌, length, map, Some, slice_get, slice_index_or, slice_set, remove, refl, sym, ap, ap₂, ◌∙◌, subst, arith}
use Rattle.std.specs.List.{insert}
use Rattle.std.proofs.lemmas.Bool.{cases_eq, eq-eqb}
use Rattle.std.proofs.lemmas.Bool.Decides.{eqb_tells}
use Rattle.std.proofs.lemmas.List.{get_or-set_other, get_or-set_same, set-set, length-set}
use Rattle.std.proofs.lemmas.Option.{get_or_from_slice_get}
use Rattle.pliron_core.specs.Tree.{Tree, In, operands_of}
use Rattle.pliron_core.specs.Uses.{replace_target}
use Rattle.pliron_core.specs.Writes.{operand_inserted, operand_removed}
use Rattle.pliron_core.proofs.TableLemmas.{set-same, set-other}
use Rattle.pliron_rewrite_loops.specs.Passing.{UsesArgument, operand_put}

-- what was inserted takes the place of what stands behind it, once that goes
removed_behind : {A : Type 0} (xs : List A) (i : ℕ) (y : A) → i < length xs → remove (insert xs i y) (suc i) ≡ slice_set xs i y
removed_behind [] i y h = absurd (omega (arith, h))
removed_behind (x ∷ xs) zero y h = refl
removed_behind (x ∷ xs) (suc i) y h = ap (λ l. x ∷ l) (removed_behind xs i y (omega (arith, h)))

pub is_put : (t s u : Tree) (op i value : ℕ) → op < length t.operands → i < length (operands_of t op) → s ≡ operand_inserted t op i value → u ≡ operand_removed s op (i + 1) → u ≡ operand_put t op i value
is_put t s u op i value lt h inserted removed =
    let n : i + 1 ≡ suc i = omega arith in
    removed
    ∙ ap (λ z. operand_removed z op (i + 1)) inserted
    ∙ ap (λ xs. record t { operands = slice_set (slice_set t.operands op (insert (operands_of t op) i value)) op (remove xs (i + 1)) }) (get_or-set_same t.operands op _ [] lt)
    ∙ ap (λ xs. record t { operands = xs }) (set-set t.operands op _ _)
    ∙ ap (λ k. record t { operands = slice_set t.operands op (remove (insert (operands_of t op) i value) k) }) n
    ∙ ap (λ xs. record t { operands = slice_set t.operands op xs }) (removed_behind (operands_of t op) i value h)

-- an item becomes one that is mapped alike
mapped_alike : {A B : Type 0} (f : A → B) (xs : List A) (i : ℕ) (d y : A) → f y ≡ f (slice_index_or xs i d) → map f (slice_set xs i y) ≡ map f xs
mapped_alike f [] i d y q = refl
mapped_alike f (z ∷ zs) zero d y q = ap (λ w. w ∷ map f zs) q
mapped_alike f (z ∷ zs) (suc i) d y q = ap (λ l. f z ∷ l) (mapped_alike f zs i d y q)

replaced_alike : (value argument : ℕ) → replace_target argument value argument ≡ replace_target argument value value
replaced_alike value argument = ap (λ b. if b then value else argument) (eq-eqb argument argument refl) ∙ sym (⊎_elim (λ y. ap (λ b. if b then value else value) y.0) (λ n. ap (λ b. if b then value else value) n.0) (eqb_tells value argument))

module _ (t : Tree) (op i argument : ℕ) (lt : op < length t.operands) where
  abbrev u : Tree
  u = operand_put t op i argument

  operands_put : operands_of u op ≡ slice_set (operands_of t op) i argument
  operands_put = get_or-set_same t.operands op _ [] lt

  pub put_other : (k : ℕ) → k ≢ op → operands_of u k ≡ operands_of t k
  put_other k ne = get_or-set_other t.operands op k _ [] ne

  pub put_count : length (operands_of u op) ≡ length (operands_of t op)
  put_count = ap length operands_put ∙ length-set (operands_of t op) i argument

  pub put_table : length u.operands ≡ length t.operands
  put_table = length-set t.operands op _

  module _ (value : ℕ) (at : slice_get (operands_of t op) i ≡ Some value) where
    -- what was used instead of the value is so too
    pub put_uses : (s : Tree) (users : List ℕ) → In op users → UsesArgument s t users value argument → UsesArgument s u users value argument
    put_uses s users there used = record {
      back = used.back ∙ ap (λ xs. record t { operands = xs }) (sym (mapped_alike (map (replace_target argument value)) t.operands op [] _ (mapped_alike (replace_target argument value) (operands_of t op) i value argument (replaced_alike value argument ∙ ap (replace_target argument value) (sym (get_or_from_slice_get (operands_of t op) i value value at))))));
      alone = λ k j. ⊎_elim (λ q. subst (λ z. In z users) (sym q) there) (λ ne. used.alone k (subst (In argument) (put_other k ne) j)) (cases_eq k op);
    }

    -- the value isn't used up to there any more
    pub put_done : argument ≢ value → ((j : ℕ) → j < i → slice_get (operands_of t op) j ≢ Some value) → (j : ℕ) → j < i + 1 → slice_get (operands_of u op) j ≢ Some value
    put_done ne before j h e = ⊎_elim
        (λ q. ne (same (sym (set-same (operands_of t op) i argument value at) ∙ ap (slice_get (slice_set (operands_of t op) i argument)) (sym q) ∙ now)))
        (λ apart. before j (omega (arith, h, apart)) (sym (set-other (operands_of t op) i j argument apart) ∙ now))
        (cases_eq j i)
      where
        now : slice_get (slice_set (operands_of t op) i argument) j ≡ Some value
        now = ap (λ xs. slice_get xs j) (sym operands_put) ∙ e

        same : {x y : ℕ} → Some x ≡ Some y → x ≡ y
        same q = cc

-- nor where the operand is another one
pub kept_done : (xs : List ℕ) (i x value : ℕ) → slice_get xs i ≡ Some x → x ≢ value → ((j : ℕ) → j < i → slice_get xs j ≢ Some value) → (j : ℕ) → j < i + 1 → slice_get xs j ≢ Some value
kept_done xs i x value at ne before j h e = ⊎_elim
    (λ q. ne (same (sym at ∙ ap (slice_get xs) (sym q) ∙ e)))
    (λ apart. before j (omega (arith, h, apart)) e)
    (cases_eq j i)
  where
    same : {x y : ℕ} → Some x ≡ Some y → x ≡ y
    same q = cc

-- where nothing uses the argument, nothing changes where its uses become those of the value
pub unused_items : (argument value : ℕ) (xs : List ℕ) → (In argument xs → ⊥) → xs ≡ map (replace_target argument value) xs
unused_items argument value [] free = refl
unused_items argument value (x ∷ xs) free = ap₂ (λ a b. a ∷ b) (⊎_elim (λ y. absurd (free (inl (sym y.1)))) (λ n. sym (ap (λ b. if b then value else x) n.0)) (eqb_tells x argument)) (unused_items argument value xs (λ i. free (inr i)))

unused_rows : (argument value : ℕ) (xss : List (List ℕ)) → ((k : ℕ) → In argument (slice_index_or xss k []) → ⊥) → xss ≡ map (map (replace_target argument value)) xss
unused_rows argument value [] free = refl
unused_rows argument value (xs ∷ xss) free = ap₂ (λ a b. a ∷ b) (unused_items argument value xs (free zero)) (unused_rows argument value xss (λ k. free (suc k)))

pub unused_yet : (t : Tree) (users : List ℕ) (value argument : ℕ) → ((k : ℕ) → In argument (operands_of t k) → ⊥) → UsesArgument t t users value argument
unused_yet t users value argument free = record { back = ap (λ xss. record t { operands = xss }) (unused_rows argument value t.operands free); alone = λ k i. absurd (free k i) }

-- an operation that has an operand has a row
pub row_within : (t : Tree) (op i : ℕ) → i < length (operands_of t op) → op < length t.operands
row_within t op i h = go t.operands op h
  where
    go : (xss : List (List ℕ)) (k : ℕ) → i < length (slice_index_or xss k []) → k < length xss
    go [] k l = absurd (omega (arith, l))
    go (xs ∷ xss) zero l = omega arith
    go (xs ∷ xss) (suc k) l = let n = go xss k l in omega (arith, n)
