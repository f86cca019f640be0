-- Fewer things stand after each whole rewrite.
use Rattle.std.proofs.Common.{◌≡◌, ◌⊎◌, inl, inr, ℕ, zero, suc, ◌+◌, ◌<◌, ◌≤◌, List, [], ◌∷◌, length, Option, Some, None, IsSome, slice_index_or, refl, arith}
use Rattle.pliron_core.specs.declared.attrs.Head.{Head}
use Rattle.pliron_core.specs.declared.context.OperationEntry.{OperationEntry}
use Rattle.pliron_core.specs.Tree.{Tree, IsLive, no_entry, arguments_of}
use Rattle.pliron_opt_dce.specs.Measures.{one, count_live, total_length, things}

one_most : (a b : Option Head) → (IsSome b → IsSome a) → one b ≤ one a
one_most a None f = omega arith
one_most (Some h) (Some q) f = omega arith
one_most None (Some q) f = absurd (none (f refl))
  where
    none : IsSome {T = Head} None → ⊥
    none e = cc

one_less : (a b : Option Head) → IsSome a → (IsSome b → ⊥) → one b + 1 ≤ one a
one_less None b s n = absurd (cc)
one_less (Some h) None s n = omega arith
one_less (Some h) (Some q) s n = absurd (n refl)

pub count_most : (xs ys : List OperationEntry) → length ys ≡ length xs → ((i : ℕ) → IsSome (slice_index_or ys i no_entry).head → IsSome (slice_index_or xs i no_entry).head) → count_live ys ≤ count_live xs
count_most [] [] e f = omega arith
count_most [] (y ∷ ys) e f = absurd (omega (arith, e))
count_most (x ∷ xs) [] e f = omega arith
count_most (x ∷ xs) (y ∷ ys) e f =
    let here = one_most x.head y.head (f 0) in
    let rest = count_most xs ys (omega (arith, e)) (λ i. f (suc i)) in
    omega (arith, here, rest)

pub count_less : (xs ys : List OperationEntry) → length ys ≡ length xs → ((i : ℕ) → IsSome (slice_index_or ys i no_entry).head → IsSome (slice_index_or xs i no_entry).head) → (k : ℕ) → IsSome (slice_index_or xs k no_entry).head → (IsSome (slice_index_or ys k no_entry).head → ⊥) → count_live ys + 1 ≤ count_live xs
count_less [] ys e f k s n = absurd (cc)
count_less (x ∷ xs) [] e f k s n = absurd (omega (arith, e))
count_less (x ∷ xs) (y ∷ ys) e f zero s n =
    let here = one_less x.head y.head s n in
    let rest = count_most xs ys (omega (arith, e)) (λ i. f (suc i)) in
    omega (arith, here, rest)
count_less (x ∷ xs) (y ∷ ys) e f (suc k) s n =
    let here = one_most x.head y.head (f 0) in
    let rest = count_less xs ys (omega (arith, e)) (λ i. f (suc i)) k s n in
    omega (arith, here, rest)

pub total_most : (xs ys : List (List ℕ)) → length ys ≡ length xs → ((i : ℕ) → length (slice_index_or ys i []) ≤ length (slice_index_or xs i [])) → total_length ys ≤ total_length xs
total_most [] [] e f = omega arith
total_most [] (y ∷ ys) e f = absurd (omega (arith, e))
total_most (x ∷ xs) [] e f = omega arith
total_most (x ∷ xs) (y ∷ ys) e f =
    let here = f 0 in
    let rest = total_most xs ys (omega (arith, e)) (λ i. f (suc i)) in
    omega (arith, here, rest)

pub total_less : (xs ys : List (List ℕ)) → length ys ≡ length xs → ((i : ℕ) → length (slice_index_or ys i []) ≤ length (slice_index_or xs i [])) → (b : ℕ) → length (slice_index_or ys b []) < length (slice_index_or xs b []) → total_length ys + 1 ≤ total_length xs
total_less [] ys e f b l = absurd (omega (arith, l))
total_less (x ∷ xs) [] e f b l = absurd (omega (arith, e))
total_less (x ∷ xs) (y ∷ ys) e f zero l =
    let rest = total_most xs ys (omega (arith, e)) (λ i. f (suc i)) in
    omega (arith, l, rest)
total_less (x ∷ xs) (y ∷ ys) e f (suc b) l =
    let here = f 0 in
    let rest = total_less xs ys (omega (arith, e)) (λ i. f (suc i)) b l in
    omega (arith, here, rest)

pub fewer_things : (t t' : Tree) → length t'.operations ≡ length t.operations → length t'.arguments ≡ length t.arguments → ((k : ℕ) → IsLive t' k → IsLive t k) → ((b : ℕ) → length (arguments_of t' b) ≤ length (arguments_of t b)) → ((k : ℕ) × IsLive t k × (IsLive t' k → ⊥)) ⊎ ((b : ℕ) × (length (arguments_of t' b) < length (arguments_of t b))) → things t' < things t
fewer_things t t' eo ea live most (inl k) =
    let a = count_less t.operations t'.operations eo live k.0 k.1 k.2 in
    let b = total_most t.arguments t'.arguments ea most in
    omega (arith, a, b)
fewer_things t t' eo ea live most (inr b) =
    let a = count_most t.operations t'.operations eo live in
    let c = total_less t.arguments t'.arguments ea most b.0 b.1 in
    omega (arith, a, c)
