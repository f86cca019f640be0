-- Lists whose members are renamed by a function.
use Rattle.std.proofs.Common.{◌≡◌, ◌⊎◌, inl, inr, ⊎_elim, ℕ, List, [], ◌∷◌, ◌++◌, map, length, Option, Some, None, slice_get, refl, sym, ap, ap₂, ◌∙◌, subst}
use Rattle.std.specs.Option.{option_map}
use Rattle.std.proofs.lemmas.Option.{slice_get-map}
use Rattle.pliron_core.specs.Lists.{In, IsDistinct, first_of, last_of}
use Rattle.pliron_core.proofs.HoldingLemmas.{some_is, not_none}

-- lists by their first members
pub head_same : {A : Type 0} (a b : A) (xs ys : List A) → a ∷ xs ≡ b ∷ ys → a ≡ b
head_same a b xs ys e = cc

pub tail_same : {A : Type 0} (a b : A) (xs ys : List A) → a ∷ xs ≡ b ∷ ys → xs ≡ ys
tail_same a b xs ys e = cc

pub not_empty : {A : Type 0} (b : A) (ys : List A) → [] ≡ b ∷ ys → ⊥
not_empty b ys e = cc

pub in_map : (f : ℕ → ℕ) (xs : List ℕ) (x : ℕ) → In x xs → In (f x) (map f xs)
in_map f [] x i = absurd i
in_map f (y ∷ ys) x (inl e) = inl (ap f e)
in_map f (y ∷ ys) x (inr i) = inr (in_map f ys x i)

pub from_map : (f : ℕ → ℕ) (xs : List ℕ) (y : ℕ) → In y (map f xs) → (x : ℕ) × In x xs × (f x ≡ y)
from_map f [] y i = absurd i
from_map f (x ∷ xs) y (inl e) = (x, inl refl, sym e)
from_map f (x ∷ xs) y (inr i) = let r = from_map f xs y i in (r.0, inr r.1, r.2)

pub slice_map : (f : ℕ → ℕ) (xs : List ℕ) (i x : ℕ) → slice_get xs i ≡ Some x → slice_get (map f xs) i ≡ Some (f x)
slice_map f xs i x e = slice_get-map f xs i ∙ ap (option_map f) e

pub last_map : (f : ℕ → ℕ) (before : Option ℕ) (xs : List ℕ) → last_of (option_map f before) (map f xs) ≡ option_map f (last_of before xs)
last_map f before [] = refl
last_map f before (x ∷ xs) = last_map f (Some x) xs

pub map_append : (f : ℕ → ℕ) (xs ys : List ℕ) → map f (xs ++ ys) ≡ map f xs ++ map f ys
map_append f [] ys = refl
map_append f (x ∷ xs) ys = ap (λ l. f x ∷ l) (map_append f xs ys)

pub map_none : (f : ℕ → ℕ) (xs : List ℕ) → map f xs ≡ [] → xs ≡ []
map_none f [] e = refl
map_none f (x ∷ xs) e = absurd (not_empty (f x) (map f xs) (sym e))

-- two members of a list whose images are distinct, and the same
pub map_apart : (f : ℕ → ℕ) (xs : List ℕ) (x y : ℕ) → IsDistinct (map f xs) → In x xs → In y xs → f x ≡ f y → x ≡ y
map_apart f [] x y d i j e = absurd i
map_apart f (z ∷ zs) x y d (inl p) (inl q) e = p ∙ sym q
map_apart f (z ∷ zs) x y d (inl p) (inr j) e = absurd (d.0 (subst (λ a. In a (map f zs)) (sym e ∙ ap f p) (in_map f zs y j)))
map_apart f (z ∷ zs) x y d (inr i) (inl q) e = absurd (d.0 (subst (λ a. In a (map f zs)) (e ∙ ap f q) (in_map f zs x i)))
map_apart f (z ∷ zs) x y d (inr i) (inr j) e = map_apart f zs x y d.1 i j e

pub map_map : {A B : Type 0} (g : B → A) (h : ℕ → A) (f : ℕ → B) (xs : List ℕ) → ((x : ℕ) → In x xs → g (f x) ≡ h x) → map g (map f xs) ≡ map h xs
map_map g h f [] same = refl
map_map g h f (x ∷ xs) same = ap₂ (λ y ys. y ∷ ys) (same x (inl refl)) (map_map g h f xs (λ y i. same y (inr i)))

-- the option has an image where it has something
pub option_map_some : (f : ℕ → ℕ) (o : Option ℕ) (y : ℕ) → option_map f o ≡ Some y → (x : ℕ) × (o ≡ Some x) × (f x ≡ y)
option_map_some f None y e = absurd (not_none e)
option_map_some f (Some x) y e = (x, refl, some_is e)

pub slice_map_back : (f : ℕ → ℕ) (xs : List ℕ) (i y : ℕ) → slice_get (map f xs) i ≡ Some y → (x : ℕ) × (slice_get xs i ≡ Some x) × (f x ≡ y)
slice_map_back f xs i y e = option_map_some f (slice_get xs i) y (sym (slice_get-map f xs i) ∙ e)

-- where a list of images is split, the list is
pub map_split : (f : ℕ → ℕ) (xs done rest : List ℕ) (y : ℕ) → map f xs ≡ done ++ y ∷ rest → (front : List ℕ) × (x : ℕ) × (back : List ℕ) × (xs ≡ front ++ x ∷ back) × (map f front ≡ done) × (f x ≡ y)
map_split f [] [] rest y e = absurd (not_empty y rest e)
map_split f [] (z ∷ done) rest y e = absurd (not_empty z (done ++ y ∷ rest) e)
map_split f (x ∷ xs) [] rest y e = ([], x, xs, refl, refl, head_same (f x) y (map f xs) rest e)
map_split f (x ∷ xs) (z ∷ done) rest y e =
    let r = map_split f xs done rest y (tail_same (f x) z (map f xs) (done ++ y ∷ rest) e) in
    (x ∷ r.0, r.1, r.2, ap (λ l. x ∷ l) r.3, ap₂ (λ a l. a ∷ l) (head_same (f x) z (map f xs) (done ++ y ∷ rest) e) r.4, r.5)
