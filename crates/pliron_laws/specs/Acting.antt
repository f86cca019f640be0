-- What an operation does from its first input on.
use Rattle.std.specs.Prelude.{◌≡◌, ◌≢◌, ◌⊎◌, ℕ, Bool, true, false, List, [], ◌∷◌, Option, Some, None, map, slice_get, remove}
use Rattle.pliron_core.specs.declared.attrs.AttrObj.{AttrObj}
use Rattle.pliron_laws.specs.Datum.{Datum, Empty, datum_of, Shape, Move, Give, Visit, Goto, Leave, Emit, Trap}

abbrev pub Act : Type 0
Act = Shape → Datum → List Datum → Move

-- an operation of this shape, whose first input was `first`, comes to this memo and this input, after any
-- answers; `later` is true after its first transition
pub data Comes (act : Act) (s : Shape) (first : List Datum) : Bool → Datum → List Datum → Type 0 where
  Begins : Comes act s first false Empty first
  Answered : {later : Bool} {memo : Datum} {input : List Datum} (i : ℕ) (ds : List Datum) (next : Datum) (answer : List Datum) → Comes act s first later memo input → act s memo input ≡ Visit i ds next → Comes act s first true next answer
  AnsweredByWorld : {later : Bool} {memo : Datum} {input : List Datum} (effect next answer : Datum) → Comes act s first later memo input → act s memo input ≡ Emit effect next → Comes act s first true next (answer ∷ [])

-- two transitions are one, where invocations and jumps are compared by these relations
pub record MovesAlike (visits : ℕ → List Datum → List Datum → Type 0) (gotos : ℕ → List Datum → ℕ → List Datum → Type 0) (a b : Move) : Type 0 where
  pub give : (ds : List Datum) → a ≡ Give ds → b ≡ Give ds
  pub visit : (i : ℕ) (ds : List Datum) (memo : Datum) → a ≡ Visit i ds memo → (es : List Datum) × (b ≡ Visit i es memo) × visits i ds es
  pub goto : (i : ℕ) (ds : List Datum) → a ≡ Goto i ds → (j : ℕ) × (es : List Datum) × (b ≡ Goto j es) × gotos i ds j es
  pub leave : (ds : List Datum) → a ≡ Leave ds → b ≡ Leave ds
  pub emit : (e memo : Datum) → a ≡ Emit e memo → b ≡ Emit e memo
  pub traps : a ≡ Trap → b ≡ Trap

-- two operations with these first inputs make the same transition at every step
pub record ActAlike (act : Act) (visits : ℕ → List Datum → List Datum → Type 0) (gotos : ℕ → List Datum → ℕ → List Datum → Type 0) (s s' : Shape) (first first' : List Datum) : Type 0 where
  pub begin : MovesAlike visits gotos (act s Empty first) (act s' Empty first')
  pub later : (memo : Datum) (input : List Datum) → Comes act s first true memo input → MovesAlike visits gotos (act s memo input) (act s' memo input)

-- an invocation or a jump passes the same values
abbrev pub PassesSame : ℕ → List Datum → List Datum → Type 0
PassesSame i ds es = es ≡ ds

abbrev pub JumpsSame : ℕ → List Datum → ℕ → List Datum → Type 0
JumpsSame i ds j es = (j ≡ i) × (es ≡ ds)

-- what the one at i passes loses the value at j, the others pass the same
abbrev pub DropsAt : ℕ → ℕ → ℕ → List Datum → List Datum → Type 0
DropsAt i j k ds es = ((k ≡ i) × (es ≡ remove ds j)) ⊎ ((k ≢ i) × (es ≡ ds))

-- the data at these places
abbrev pub pick : {A : Type 0} → List ℕ → List A → List (Option A)
pick places xs = map (λ i. slice_get xs i) places

-- the known constants are these data
abbrev pub AgreeWithKnown : List (Option AttrObj) → List Datum → Type 0
AgreeWithKnown [] [] = Unit {0}
AgreeWithKnown [] (d ∷ ds) = ⊥
AgreeWithKnown (a ∷ known) [] = ⊥
AgreeWithKnown (None ∷ known) (d ∷ ds) = AgreeWithKnown known ds
AgreeWithKnown (Some a ∷ known) (d ∷ ds) = (datum_of a ≡ d) × AgreeWithKnown known ds
