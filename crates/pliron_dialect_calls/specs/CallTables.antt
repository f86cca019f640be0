-- Which kinds of a dialect by roles call functions by name, which are such functions, and what both do.
use Rattle.std.specs.Prelude.{◌≡◌, ◌≢◌, ℕ, Bool, List, [], ◌∷◌, Option, length, IsSome, IsTrue}
use Rattle.pliron_laws.specs.Datum.{Datum, Empty, Shape, Give, Visit, Leave, Emit}
use Rattle.pliron_laws.specs.Acting.{Act}
use Rattle.pliron_dialect.specs.Roles.{Tables, act_of, chain_of, effect_of}

-- of each kind: the place among its attributes of the name of the function that an operation calls, and of the name that a
-- function has, where there is one; and whether what acts by its own table never leaves its region
pub record CallTables (K : Type 0) : Type 0 where
  pub callee_place : K → Option ℕ
  pub symbol_place : K → Option ℕ
  pub stays : K → Bool

-- an operation that calls asks once, by its kind, its attributes and its operands, and gives the results in the answer
pub record AsksOnce (act : Act) : Type 0 where
  pub memo : Datum
  pub asks : (s : Shape) (operands : List Datum) → act s Empty operands ≡ Emit (effect_of s.head operands) memo
  pub gives : (s : Shape) (results : List Datum) → length results ≡ s.results → act s memo (chain_of results ∷ []) ≡ Give results

-- a function of one region visits it once, with its operands if its entry takes as many, and leaves with what that leaves with
pub record VisitsOnce (act : Act) : Type 0 where
  pub memo : Datum
  pub visits : (s : Shape) (operands : List Datum) → s.entry_arguments ≡ length operands ∷ [] → act s Empty operands ≡ Visit 0 operands memo
  pub leaves : (s : Shape) (results : List Datum) → act s memo results ≡ Leave results

abbrev pub StaysInside : Act → Type 0
StaysInside act = (s : Shape) (memo : Datum) (input results : List Datum) → act s memo input ≢ Leave results

-- what an author of these tables owes of the role of each kind
pub record KeepsCalls {K : Type 0} (t : Tables K) (c : CallTables K) : Type 0 where
  pub calls : (k : K) → IsSome (c.callee_place k) → AsksOnce (act_of t.value (t.role_of k))
  pub functions : (k : K) → IsSome (c.symbol_place k) → VisitsOnce (act_of t.value (t.role_of k))
  pub stays : (k : K) → IsTrue (c.stays k) → StaysInside (act_of t.value (t.role_of k))
