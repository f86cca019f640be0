-- What verifying an operation answers.
use Rattle.std.specs.Prelude.{◌≡◌, ◌≢◌, ℕ, List, [], ◌∷◌, ◌++◌, Bool, true, false, Option, Some, Result, Ok, Err, ◌⊎◌}
use Rattle.pliron_core.specs.Tree.{Tree, In, head_of}
use Rattle.pliron_core.specs.Walks.{preorder}
use Rattle.pliron_laws.specs.Datum.{Head}
use Rattle.pliron_laws.specs.declared.dialect.Interface.{Interface}
use Rattle.pliron_laws.specs.declared.dialect.Interface.TheVariants.{SideEffects, BlockArgRemoval, ConstFold, BranchFold, Branch, Terminator, RegionBranch}
use Rattle.pliron_laws.specs.declared.fault.OptError.{OptError}
use Rattle.pliron_laws.specs.declared.fault.OptError.TheVariants.{Memory}

-- the interfaces whose checks are called, in their order
abbrev pub verified_interfaces : List Interface
verified_interfaces = SideEffects ∷ BlockArgRemoval ∷ ConstFold ∷ BranchFold ∷ RegionBranch ∷ []

-- what the dialect's check of an interface may answer for an operation
abbrev pub Verdict : Type 1
Verdict = Interface → Tree → ℕ → Result (Unit {0}) OptError → Type 0

-- what the checks of a dialect may answer, by interface; those of branches and terminators have none
abbrev pub verdict_by : (a b c d e : Tree → ℕ → Result (Unit {0}) OptError → Type 0) → Verdict
verdict_by a b c d e SideEffects = a
verdict_by a b c d e BlockArgRemoval = b
verdict_by a b c d e ConstFold = c
verdict_by a b c d e BranchFold = d
verdict_by a b c d e Branch = λ t op r. r ≡ Ok tt
verdict_by a b c d e Terminator = λ t op r. r ≡ Ok tt
verdict_by a b c d e RegionBranch = e

module _ (has : Head → Interface → Bool) (verdict : Verdict) (t : Tree) where
  -- the operation passes the check of the interface, which is not called where it lacks the interface
  abbrev pub PassesOne : ℕ → Interface → Type 0
  PassesOne op i = (h : Head) → head_of t op ≡ Some h → has h i ≡ true → verdict i t op (Ok tt)

  -- the check of the interface is called and answers this
  pub record FailsOne (op : ℕ) (i : Interface) (e : OptError) : Type 0 where
    pub head : Head
    pub at : head_of t op ≡ Some head
    pub implements : has head i ≡ true
    pub answers : verdict i t op (Err e)

  abbrev pub PassesAll : ℕ → List Interface → Type 0
  PassesAll op [] = Unit {0}
  PassesAll op (i ∷ is) = PassesOne op i × PassesAll op is

  -- the first of the checks that answers an error answers this one
  pub data FailsFirst (op : ℕ) (e : OptError) : List Interface → Type 0 where
    Here : {i : Interface} {is : List Interface} → FailsOne op i e → FailsFirst op e (i ∷ is)
    Later : {i : Interface} {is : List Interface} → PassesOne op i → FailsFirst op e is → FailsFirst op e (i ∷ is)

  abbrev pub Passes : ℕ → Type 0
  Passes op = PassesAll op verified_interfaces

  abbrev pub Fails : ℕ → OptError → Type 0
  Fails op e = FailsFirst op e verified_interfaces

  -- the first operation of the walk with an error
  pub record FailsWithin (root : ℕ) (e : OptError) : Type 0 where
    pub op : ℕ
    pub before : List ℕ
    pub after : List ℕ
    pub place : preorder t root ≡ before ++ op ∷ after
    pub clean : (k : ℕ) → In k before → Passes k
    pub fails : Fails op e

  -- what verifying root and all inside it answers
  abbrev pub IsFirstFault : ℕ → Result (Unit {0}) OptError → Type 0
  IsFirstFault root (Ok _) = (k : ℕ) → In k (preorder t root) → Passes k
  IsFirstFault root (Err e) = FailsWithin root e
