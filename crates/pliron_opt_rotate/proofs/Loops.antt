-- What loops over lists show of all their members.
use Rattle.std.proofs.Common.{◌≡◌, ◌⊎◌, inl, inr, ⊎_elim, ℕ, ◌≤◌, List, [], ◌∷◌, ◌++◌, length, Bool, true, if◌then◌else◌, nat_eq, Option, Some, slice_index_or, refl, sym, ap, ◌∙◌, subst, arith}
use Rattle.std.proofs.lemmas.Option.{slice_get_within}
use Rattle.std.specs.List.{list_any}
use Rattle.std.proofs.lemmas.Bool.{false≢true, cases_Bool, or_cases}
use Rattle.pliron_core.proofs.WithinLemmas.{equal_from}
use Rattle.indexmap.specs.IndexSet.{insert_key}
use Rattle.pliron_core.specs.declared.uses.Use.{Use}
use Rattle.pliron_core.specs.declared.context.Def.{Def}
use Rattle.pliron_core.specs.declared.context.Def.TheVariants.{Result, Argument}
use Rattle.pliron_core.specs.Uses.{AreAgreed}
use Rattle.pliron_core.specs.Tree.{Tree, In, IsMadeBy, IsDefined, uses_of, results_of, arguments_of, body_of, definition_of}
use Rattle.pliron_core.specs.Invariant.{IsTree}
use Rattle.pliron_core.proofs.HoldingLemmas.{some_is, slice_in, in_slice, maker_is}
use Rattle.pliron_core.proofs.ListLemmas.{In-left, In-right}
use Rattle.pliron_core.proofs.ContainedLemmas.{ArePassed, IsWalked}
use Rattle.pliron_laws.specs.Root.{defining_block}
use Rattle.pliron_opt_rotate.proofs.Walks.{last_cases}

-- what holds of each use that was passed holds of each user
pub users_all : (targets : List (List ℕ)) (uses : List (List Use)) (agreed : AreAgreed targets uses) (P : ℕ → Type 0) (b n : ℕ) → ArePassed (λ (z : Use). P z.user) (uses_of uses b) n → length (uses_of uses b) ≤ n → (k : ℕ) → In b (slice_index_or targets k []) → P k
users_all targets uses agreed P b n passed le k i =
    let s = slice_in (slice_index_or targets k []) b i in
    let m = agreed.complete k s.0 b s.1 in
    let lt = slice_get_within (uses_of uses b) m.0 _ m.1 in
    passed m.0 _ (omega (arith, lt, le)) m.1

pub none_passed : {A : Type 0} (P : A → Type 0) (xs : List A) → ArePassed P xs 0
none_passed P xs = λ j x lt e. absurd (omega (arith, lt))

pub passed_kept : {A : Type 0} (P Q : A → Type 0) (xs : List A) (i : ℕ) → ((x : A) → P x → Q x) → ArePassed P xs i → ArePassed Q xs i
passed_kept P Q xs i f passed = λ j x lt e. f x (passed j x lt e)

pub walked_kept : (P Q : ℕ → Type 0) (xs : List ℕ) (at : Option ℕ) → ((x : ℕ) → P x → Q x) → IsWalked P xs at → IsWalked Q xs at
walked_kept P Q xs at f h = record { member = h.member; passed = λ x i. ⊎_elim (λ p. inl (f x p)) (λ r. inr r) (h.passed x i) }

-- one item more
pub more_in : (before after : List ℕ) (x v : ℕ) → after ≡ before ++ x ∷ [] → In v before → In v after
more_in before after x v e i = subst (In v) (sym e) (In-left v before (x ∷ []) i)

pub last_there : (before after : List ℕ) (x : ℕ) → after ≡ before ++ x ∷ [] → In x after
last_there before after x e = subst (In x) (sym e) (In-right x before (x ∷ []) (inl refl))

-- a set of listed items, by any equality
from_any : (same : ℕ → ℕ → Bool) (xs : List ℕ) (x y : ℕ) → In y (insert_key same xs x) → In y xs ⊎ (y ≡ x)
from_any same xs x y i = elim (cases_Bool (list_any (λ z. same x z) xs)) [
  | inl h ↦ inl (subst (In y) (ap (λ b. if b then xs else xs ++ x ∷ []) h) i)
  | inr h ↦ last_cases xs x y (subst (In y) (ap (λ b. if b then xs else xs ++ x ∷ []) h) i)
]

pub key_listed : (same : ℕ → ℕ → Bool) (xs keys keys' : List ℕ) (x : ℕ) → keys' ≡ insert_key same keys x → In x xs → ((v : ℕ) → In v keys → In v xs) → (v : ℕ) → In v keys' → In v xs
key_listed same xs keys keys' x e there known v i = ⊎_elim (λ j. known v j) (λ s. subst (λ z. In z xs) (sym s) there) (from_any same keys x v (subst (In v) e i))

pub value_in : (xs : List ℕ) (k : ℕ) → list_any (λ y. nat_eq k y) xs ≡ true → In k xs
value_in [] k e = absurd (false≢true e)
value_in (x ∷ xs) k e = elim (or_cases (nat_eq k x) (list_any (λ y. nat_eq k y) xs) e) [ inl h ↦ inl (sym (equal_from k x h)) | inr h ↦ inr (value_in xs k h) ]

-- where a value of the block is made
pub made_where : (t : Tree) (w : IsTree t) (block v : ℕ) → IsDefined t v → defining_block t (definition_of t v) ≡ Some block → In v (arguments_of t block) ⊎ ((k : ℕ) × In k (body_of t block) × In v (results_of t k))
made_where t w block v is e = let d = maker_is t v is in go d.0 (sym (ap (defining_block t) d.1) ∙ e) d.2
  where
    go : (d : Def) → defining_block t (Some d) ≡ Some block → IsMadeBy t v (Some d) → In v (arguments_of t block) ⊎ ((k : ℕ) × In k (body_of t block) × In v (results_of t k))
    go (Argument b i) e m = inl (subst (λ z. In v (arguments_of t z)) (some_is e) (in_slice (arguments_of t b) i v m))
    go (Result k i) e m = inr (k, w.bodies.listed k block e, in_slice (results_of t k) i v m)
