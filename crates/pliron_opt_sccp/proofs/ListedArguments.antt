-- The constant arguments inside an operation, listed one after the other.
use Rattle.std.proofs.Common.{◌≡◌, ℕ, suc, ◌+◌, ◌≤◌, Bool, true, false, cond, List, [], ◌∷◌, ◌++◌, length, take, filter, Some, None, slice_get, refl, sym, ap, ◌∙◌, subst, append_assoc, append-nil, arith, IsTrue}
use Rattle.std.specs.List.{flat_map}
use Rattle.std.proofs.lemmas.List.{take_all}
use Rattle.std.proofs.lemmas.List.Concat.{flat_map-append}
use Rattle.pliron_core.specs.declared.attrs.AttrObj.{AttrObj}
use Rattle.pliron_core.specs.Tree.{Tree, arguments_of}
use Rattle.pliron_core.proofs.ArgumentLemmas.{take_more}
use Rattle.pliron_core.proofs.HoldingLemmas.{some_is, not_none}
use Rattle.pliron_theory.specs.LatticeValues.{LatticeValue, Undetermined, Constant, NotAConstant, LatticeValues, lattice_constant}
use Rattle.pliron_opt_sccp.specs.declared.rewrite.ConstantArgument.{ConstantArgument}
use Rattle.pliron_opt_sccp.specs.Chain.{KnownArgument, known_with, known_in_block, known_arguments, blocks_inside}
use Rattle.pliron_opt_sccp.specs.Listed.{AreArguments, known_there, AddsKnown}
use Rattle.pliron_opt_sccp.specs.RewriteSteps.{IsKnown, is_known_argument, AreKnownArguments}
use Rattle.pliron_opt_sccp.proofs.ListedFolds.{each_more, each_none}

stand_more : (t : Tree) (xs : List ConstantArgument) (ks : List KnownArgument) (a : ConstantArgument) (k : KnownArgument) → AreKnownArguments t xs ks → is_known_argument t a k → AreKnownArguments t (xs ++ a ∷ []) (ks ++ k ∷ [])
stand_more t [] [] a k s one = (one, tt)
stand_more t [] (z ∷ zs) a k s one = absurd s
stand_more t (y ∷ ys) [] a k s one = absurd s
stand_more t (y ∷ ys) (z ∷ zs) a k s one = (s.0, stand_more t ys zs a k s.1 one)

pub no_arguments : (t : Tree) (f : LatticeValues) (arguments : List ConstantArgument) → arguments ≡ [] → AreArguments t f arguments []
no_arguments t f arguments e = record { stand = subst (λ z. AreKnownArguments t z []) (sym e) tt; each = each_none (IsKnown t f) arguments e }

argument_more : (t : Tree) (f : LatticeValues) (old new : List ConstantArgument) (ks : List KnownArgument) (a : ConstantArgument) (v : ℕ) → new ≡ old ++ a ∷ [] → AreArguments t f old ks → IsTrue (f.is_executable a.block) → slice_get (arguments_of t a.block) a.index ≡ Some v → f.lattice_value v ≡ Constant a.attr → AreArguments t f new (ks ++ record { block = a.block; value = v; attr = a.attr } ∷ [])
argument_more t f old new ks a v e are reached listed is = record {
  stand = subst (λ z. AreKnownArguments t z (ks ++ record { block = a.block; value = v; attr = a.attr } ∷ [])) (sym e) (stand_more t old ks a (record { block = a.block; value = v; attr = a.attr }) are.stand (refl, listed, refl));
  each = each_more (IsKnown t f) old new a e are.each (record { value = v; reached = reached; listed = listed; constant = is });
}

known_constant : (g : LatticeValue) (c : AttrObj) → Some c ≡ lattice_constant g → g ≡ Constant c
known_constant Undetermined c e = absurd (not_none (sym e))
known_constant (Constant d) c e = ap Constant (some_is (sym e))
known_constant NotAConstant c e = absurd (not_none (sym e))

known_nothing : (g : LatticeValue) (b v : ℕ) (more : List KnownArgument) → None ≡ lattice_constant g → known_with g b v more ≡ more
known_nothing Undetermined b v more e = refl
known_nothing (Constant d) b v more e = absurd (not_none e)
known_nothing NotAConstant b v more e = refl

known_then : (g : LatticeValue) (b v : ℕ) (more ys : List KnownArgument) → known_with g b v more ++ ys ≡ known_with g b v (more ++ ys)
known_then Undetermined b v more ys = refl
known_then (Constant d) b v more ys = refl
known_then NotAConstant b v more ys = refl

known_append : (f : LatticeValues) (b : ℕ) (xs ys : List ℕ) → known_in_block f b (xs ++ ys) ≡ known_in_block f b xs ++ known_in_block f b ys
known_append f b [] ys = refl
known_append f b (x ∷ xs) ys = ap (known_with (f.lattice_value x) b x) (known_append f b xs ys) ∙ sym (known_then (f.lattice_value x) b x (known_in_block f b xs) (known_in_block f b ys))

-- the arguments before an index
module _ (t : Tree) (f : LatticeValues) (b : ℕ) (old : List ConstantArgument) where
  -- what the arguments of the block before index i are known to be was added
  abbrev pub AreAdded : ℕ → List ConstantArgument → Type 0
  AreAdded i now = (ks : List KnownArgument) → AreArguments t f old ks → AreArguments t f now (ks ++ known_in_block f b (take i (arguments_of t b)))

  pub added_start : AreAdded 0 old
  added_start ks are = subst (AreArguments t f old) (sym (append-nil ks)) are

  next_taken : (i v : ℕ) (ks : List KnownArgument) → slice_get (arguments_of t b) i ≡ Some v → ks ++ known_in_block f b (take (i + 1) (arguments_of t b)) ≡ (ks ++ known_in_block f b (take i (arguments_of t b))) ++ known_with (f.lattice_value v) b v []
  next_taken i v ks at =
      ap (λ n. ks ++ known_in_block f b (take n (arguments_of t b))) (add_one i)
      ∙ ap (λ xs. ks ++ known_in_block f b xs) (take_more (arguments_of t b) i v at)
      ∙ ap (λ xs. ks ++ xs) (known_append f b (take i (arguments_of t b)) (v ∷ []))
      ∙ sym (append_assoc ks (known_in_block f b (take i (arguments_of t b))) (known_with (f.lattice_value v) b v []))
    where
      add_one : (n : ℕ) → n + 1 ≡ suc n
      add_one n = omega arith

  pub added_known : (i v : ℕ) (now more : List ConstantArgument) (c : AttrObj) → AreAdded i now → slice_get (arguments_of t b) i ≡ Some v → IsTrue (f.is_executable b) → Some c ≡ lattice_constant (f.lattice_value v) → more ≡ now ++ record { block = b; index = i; attr = c } ∷ [] → AreAdded (i + 1) more
  added_known i v now more c so_far at reached is e ks are =
      let lattice_value : f.lattice_value v ≡ Constant c = known_constant (f.lattice_value v) c is in
      let one = argument_more t f now more (ks ++ known_in_block f b (take i (arguments_of t b))) (record { block = b; index = i; attr = c }) v e (so_far ks are) reached at lattice_value in
      subst (AreArguments t f more) (sym (next_taken i v ks at ∙ ap (λ g. (ks ++ known_in_block f b (take i (arguments_of t b))) ++ known_with g b v []) lattice_value)) one

  pub added_nothing : (i v : ℕ) (now : List ConstantArgument) → AreAdded i now → slice_get (arguments_of t b) i ≡ Some v → None ≡ lattice_constant (f.lattice_value v) → AreAdded (i + 1) now
  added_nothing i v now so_far at is ks are =
      let whole = ks ++ known_in_block f b (take i (arguments_of t b)) in
      subst (AreArguments t f now) (sym (next_taken i v ks at ∙ ap (λ z. whole ++ z) (known_nothing (f.lattice_value v) b v [] is) ∙ append-nil whole)) (so_far ks are)

  pub added_all : (i : ℕ) (now : List ConstantArgument) → AreAdded i now → length (arguments_of t b) ≤ i → IsTrue (f.is_executable b) → AddsKnown t f b old now
  added_all i now so_far past reached ks are =
      let there : known_there t f b ≡ known_in_block f b (arguments_of t b) = ap (λ z. cond z (known_in_block f b (arguments_of t b)) []) reached in
      subst (AreArguments t f now) (ap (λ xs. ks ++ known_in_block f b xs) (take_all i (arguments_of t b) past) ∙ ap (λ z. ks ++ z) (sym there)) (so_far ks are)

  pub added_unreached : f.is_executable b ≡ false → AddsKnown t f b old old
  added_unreached away ks are =
      let there : known_there t f b ≡ [] = ap (λ z. cond z (known_in_block f b (arguments_of t b)) []) away in
      subst (AreArguments t f old) (sym (ap (λ z. ks ++ z) there ∙ append-nil ks)) are

-- the blocks before an index
module _ (t : Tree) (f : LatticeValues) (blocks : List ℕ) where
  abbrev pub AreCollected : ℕ → List ConstantArgument → Type 0
  AreCollected i now = AreArguments t f now (flat_map (λ b. known_there t f b) (take i blocks))

  pub collected_next : (i b : ℕ) (now more : List ConstantArgument) → AreCollected i now → slice_get blocks i ≡ Some b → AddsKnown t f b now more → AreCollected (i + 1) more
  collected_next i b now more so_far at adds =
      let one : flat_map (λ c. known_there t f c) (take (i + 1) blocks) ≡ flat_map (λ c. known_there t f c) (take i blocks) ++ known_there t f b =
      ap (λ n. flat_map (λ c. known_there t f c) (take n blocks)) (add_one i) ∙ ap (flat_map (λ c. known_there t f c)) (take_more blocks i b at) ∙ flat_map-append (λ c. known_there t f c) (take i blocks) (b ∷ []) ∙ ap (λ z. flat_map (λ c. known_there t f c) (take i blocks) ++ z) (append-nil (known_there t f b)) in
      subst (AreArguments t f more) (sym one) (adds (flat_map (λ c. known_there t f c) (take i blocks)) so_far)
    where
      add_one : (n : ℕ) → n + 1 ≡ suc n
      add_one n = omega arith

there_filtered : (t : Tree) (f : LatticeValues) (xs : List ℕ) → flat_map (λ b. known_there t f b) xs ≡ flat_map (λ b. known_in_block f b (arguments_of t b)) (filter (λ b. f.is_executable b) xs)
there_filtered t f [] = refl
there_filtered t f (x ∷ xs) = go (there_filtered t f xs) (f.is_executable x)
  where
    go : flat_map (λ b. known_there t f b) xs ≡ flat_map (λ b. known_in_block f b (arguments_of t b)) (filter (λ b. f.is_executable b) xs) → (c : Bool) → cond c (known_in_block f x (arguments_of t x)) [] ++ flat_map (λ b. known_there t f b) xs ≡ flat_map (λ b. known_in_block f b (arguments_of t b)) (cond c (x ∷ filter (λ b. f.is_executable b) xs) (filter (λ b. f.is_executable b) xs))
    go rest true = ap (λ ys. known_in_block f x (arguments_of t x) ++ ys) rest
    go rest false = rest

pub collected_all : (t : Tree) (root : ℕ) (f : LatticeValues) (blocks : List ℕ) (i : ℕ) (now : List ConstantArgument) → blocks ≡ blocks_inside t root → AreCollected t f blocks i now → length blocks ≤ i → AreArguments t f now (known_arguments t root f)
collected_all t root f blocks i now e so_far past =
    subst (AreArguments t f now) (ap (flat_map (λ b. known_there t f b)) (take_all i blocks past ∙ e) ∙ there_filtered t f (blocks_inside t root)) so_far
