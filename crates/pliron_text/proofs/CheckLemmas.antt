-- Lists that are gone through item by item.
use Rattle.std.proofs.Common.{◌≡◌, ℕ, zero, suc, ◌+◌, ◌<◌, ◌≤◌, List, [], ◌∷◌, ◌++◌, length, get_or, drop, Option, Some, None, refl, sym, ap, ◌∙◌, subst, inl, inr, arith, slice_get, slice_set}
use Rattle.std.proofs.lemmas.List.{drop_more}
use Rattle.std.proofs.lemmas.Option.{slice_get_within}
use Rattle.pliron_core.specs.Tree.{Tree}
use Rattle.pliron_text.specs.declared.syntax.OperationText.{OperationText}
use Rattle.pliron_text.specs.declared.syntax.BlockText.{BlockText}
use Rattle.pliron_text.specs.declared.syntax.Syntax.{Syntax}
use Rattle.pliron_text.specs.declared.syntax.MadeCounts.{MadeCounts}
use Rattle.pliron_text.specs.declared.syntax.SyntaxStep.{SyntaxStep}
use Rattle.pliron_text.specs.declared.syntax.SyntaxStep.TheVariants.{Operation, Block}
use Rattle.pliron_text.specs.declared.build.BuiltTree.{BuiltTree}
use Rattle.pliron_text.specs.Building.{HasMade}
use Rattle.pliron_text.specs.declared.steps.OutlineStep.{OutlineStep as Printed}
use Rattle.pliron_text.specs.Notation.{AllBelow, AreInRegion, IsNext, IsNextOperation, IsNextBlock, IsOrdered}
use Rattle.pliron_text.specs.Printing.{AreStepsLive, IsStepLive}

drop-past : {A : Type 0} (xs : List A) (i : ℕ) → length xs ≤ i → drop i xs ≡ []
drop-past [] zero le = refl
drop-past [] (suc i) le = refl
drop-past (x ∷ xs) zero le = absurd (omega (arith, le))
drop-past (x ∷ xs) (suc i) le = drop-past xs i (let h : suc (length xs) ≤ suc i = le in omega (arith, h))

-- numbers below a count
below_cons : (count x : ℕ) (xs : List ℕ) → x < count → AllBelow count xs → AllBelow count (x ∷ xs)
below_cons count x xs lt rest y (inl e) = subst (λ z. z < count) (sym e) lt
below_cons count x xs lt rest y (inr i) = rest y i

pub below-step : (count : ℕ) (xs : List ℕ) (i : ℕ) → i < length xs → get_or xs i 0 < count → (AllBelow count (drop i xs) → AllBelow count xs) → AllBelow count (drop (i + 1) xs) → AllBelow count xs
below-step count xs i lt less back rest = back (subst (AllBelow count) (sym (drop_more xs i 0 lt)) (below_cons count (get_or xs i 0) (drop (i + 1) xs) less rest))

pub below-end : (count : ℕ) (xs : List ℕ) (i : ℕ) → length xs ≤ i → (AllBelow count (drop i xs) → AllBelow count xs) → AllBelow count xs
below-end count xs i le back = back (subst (AllBelow count) (sym (drop-past xs i le)) (λ x j. absurd j))

-- steps in order
pub ordered-step : (s : Syntax) (m m' first : MadeCounts) (steps : List SyntaxStep) (i : ℕ) (d : SyntaxStep) → i < length steps → IsNext s m (get_or steps i d) m' → (IsOrdered s m (drop i steps) → IsOrdered s first steps) → IsOrdered s m' (drop (i + 1) steps) → IsOrdered s first steps
ordered-step s m m' first steps i d lt next back rest = back (subst (IsOrdered s m) (sym (drop_more steps i d lt)) (m', next, rest))

pub ordered-end : (s : Syntax) (m first : MadeCounts) (steps : List SyntaxStep) (i : ℕ) → length steps ≤ i → (IsOrdered s m (drop i steps) → IsOrdered s first steps) → IsOrdered s m [] → IsOrdered s first steps
ordered-end s m first steps i le back last = back (subst (IsOrdered s m) (sym (drop-past steps i le)) last)

pub ordered-next : (s : Syntax) (m : MadeCounts) (steps : List SyntaxStep) (i : ℕ) (d : SyntaxStep) → i < length steps → IsOrdered s m (drop i steps) → (m' : MadeCounts) × IsNext s m (get_or steps i d) m' × IsOrdered s m' (drop (i + 1) steps)
ordered-next s m steps i d lt o = subst (IsOrdered s m) (drop_more steps i d lt) o

pub ordered-last : (s : Syntax) (m : MadeCounts) (steps : List SyntaxStep) (i : ℕ) → length steps ≤ i → IsOrdered s m (drop i steps) → IsOrdered s m []
ordered-last s m steps i le o = subst (IsOrdered s m) (drop-past steps i le) o

pub next-operation : (m m' : MadeCounts) (n : ℕ) (o : Option OperationText) → IsNextOperation m n o m' → (t : OperationText) × (o ≡ Some t) × (n ≡ m.operations) × (t.block < m.blocks) × (m' ≡ record { operations = m.operations + 1; blocks = m.blocks; regions = m.regions + t.regions; values = m.values + t.results })
next-operation m m' n None h = absurd h
next-operation m m' n (Some t) h = (t, refl, h.0, h.1, h.2)

pub next-block : (m m' : MadeCounts) (n : ℕ) (o : Option BlockText) → IsNextBlock m n o m' → (t : BlockText) × (o ≡ Some t) × (n ≡ m.blocks) × (t.region < m.regions) × (m' ≡ record { operations = m.operations; blocks = m.blocks + 1; regions = m.regions; values = m.values + t.arguments })
next-block m m' n None h = absurd h
next-block m m' n (Some t) h = (t, refl, h.0, h.1, h.2)

-- steps that stand
pub stand-at : (t : Tree) (steps : List Printed) (i : ℕ) (d : Printed) → AreStepsLive t steps → i < length steps → IsStepLive t (get_or steps i d)
stand-at t [] i d a lt = absurd (omega (arith, lt))
stand-at t (s ∷ steps) zero d a lt = a.0
stand-at t (s ∷ steps) (suc i) d a lt = stand-at t steps i d a.1 (let h : suc i < suc (length steps) = lt in omega (arith, h))

pub stand-more : (t : Tree) (steps : List Printed) (s : Printed) → AreStepsLive t steps → IsStepLive t s → AreStepsLive t (steps ++ s ∷ [])
stand-more t [] s a h = (h, tt)
stand-more t (x ∷ steps) s a h = (a.0, stand-more t steps s a.1 h)

-- what is made after one step more
pub made-operation : (b c : BuiltTree) (m : MadeCounts) (t : OperationText) → HasMade b m → length c.operations.items ≡ length b.operations.items + 1 → c.blocks.items ≡ b.blocks.items → length c.regions.items ≡ length b.regions.items + t.regions → length c.values.items ≡ length b.values.items + t.results → HasMade c (record { operations = m.operations + 1; blocks = m.blocks; regions = m.regions + t.regions; values = m.values + t.results })
made-operation b c m t h ops blocks regions values = record {
  operations = ops ∙ ap (λ n. n + 1) h.operations;
  blocks = ap length blocks ∙ h.blocks;
  regions = regions ∙ ap (λ n. n + t.regions) h.regions;
  values = values ∙ ap (λ n. n + t.results) h.values;
}

pub made-block : (b c : BuiltTree) (m : MadeCounts) (t : BlockText) → HasMade b m → c.operations.items ≡ b.operations.items → length c.blocks.items ≡ length b.blocks.items + 1 → c.regions.items ≡ b.regions.items → length c.values.items ≡ length b.values.items + t.arguments → HasMade c (record { operations = m.operations; blocks = m.blocks + 1; regions = m.regions; values = m.values + t.arguments })
made-block b c m t h ops blocks regions values = record {
  operations = ap length ops ∙ h.operations;
  blocks = blocks ∙ ap (λ n. n + 1) h.blocks;
  regions = ap length regions ∙ h.regions;
  values = values ∙ ap (λ n. n + t.arguments) h.values;
}

-- what the next step makes, read from the tables
pub operation-at : (s : Syntax) (m m' : MadeCounts) (step : SyntaxStep) (n : ℕ) → IsNext s m step m' → step ≡ Operation n → (t : OperationText) × (slice_get s.operations.items n ≡ Some t) × (n ≡ m.operations) × (t.block < m.blocks) × (m' ≡ record { operations = m.operations + 1; blocks = m.blocks; regions = m.regions + t.regions; values = m.values + t.results })
operation-at s m m' step n next e = next-operation m m' n (slice_get s.operations.items n) (subst (λ z. IsNext s m z m') e next)

pub block-at : (s : Syntax) (m m' : MadeCounts) (step : SyntaxStep) (n : ℕ) → IsNext s m step m' → step ≡ Block n → (t : BlockText) × (slice_get s.blocks.items n ≡ Some t) × (n ≡ m.blocks) × (t.region < m.regions) × (m' ≡ record { operations = m.operations; blocks = m.blocks + 1; regions = m.regions; values = m.values + t.arguments })
block-at s m m' step n next e = next-block m m' n (slice_get s.blocks.items n) (subst (λ z. IsNext s m z m') e next)

-- blocks of a region
region_cons : (s : Syntax) (region x : ℕ) (xs : List ℕ) (b : BlockText) → slice_get s.blocks.items x ≡ Some b → b.region ≡ region → AreInRegion s region xs → AreInRegion s region (x ∷ xs)
region_cons s region x xs b at e rest y (inl f) = (b, ap (slice_get s.blocks.items) f ∙ at, e)
region_cons s region x xs b at e rest y (inr i) = rest y i

pub region-step : (s : Syntax) (region : ℕ) (xs : List ℕ) (i : ℕ) (b : BlockText) → i < length xs → slice_get s.blocks.items (get_or xs i 0) ≡ Some b → b.region ≡ region → (AreInRegion s region (drop i xs) → AreInRegion s region xs) → AreInRegion s region (drop (i + 1) xs) → AreInRegion s region xs
region-step s region xs i b lt at e back rest = back (subst (AreInRegion s region) (sym (drop_more xs i 0 lt)) (region_cons s region (get_or xs i 0) (drop (i + 1) xs) b at e rest))

pub region-end : (s : Syntax) (region : ℕ) (xs : List ℕ) (i : ℕ) → length xs ≤ i → (AreInRegion s region (drop i xs) → AreInRegion s region xs) → AreInRegion s region xs
region-end s region xs i le back = back (subst (AreInRegion s region) (sym (drop-past xs i le)) (λ x j. absurd j))

pub region-below : (s : Syntax) (region : ℕ) (xs : List ℕ) → AreInRegion s region xs → AllBelow (length s.blocks.items) xs
region-below s region xs h = λ x i. let b = h x i in slice_get_within s.blocks.items x b.0 b.1

-- an item put in the place of the only one
pub set_one : {A : Type 0} (xs : List A) (x : A) → length xs ≡ 1 → slice_set xs 0 x ≡ x ∷ []
set_one [] x e = absurd (omega (arith, e))
set_one (y ∷ []) x e = refl
set_one (y ∷ z ∷ ys) x e = absurd (omega (arith, e))
