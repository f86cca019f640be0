-- A call became a jump to a copy of its callee's blocks.
--
--     before:   f: ^a: .. ; r = call g x ; jump ^z(r)       ^z(s): ..       g: ^e(y): w = add y y ; return w
--     after:    f: ^a: .. ; jump ^c(x)                      ^z(s): ..       g: as before
--                  ^c(p): q = add p p ; jump ^z(q)
--
--     ^c is a copy of ^e: each operation and value of it has its original in g, and where that returns it jumps to ^z
use Rattle.std.specs.Prelude.{◌≡◌, ◌≢◌, ◌≤◌, ◌⊎◌, ℕ, Bool, true, List, [], ◌∷◌, Some, None, map, length}
use Rattle.pliron_core.specs.Tree.{Tree, In, IsLive, IsBlock, first_of, head_of, row_of, operands_of, successors_of, results_of, regions_of, parent_of, body_of, arguments_of, block_parent_of, layout_of}
use Rattle.pliron_laws.specs.Datum.{Datum, Empty, Meaning, Give, Visit, Goto, Leave, Emit}
use Rattle.pliron_laws.specs.Tree.{Operation, op_at, shape_of}
use Rattle.pliron_rewrite_copies.specs.Copies.{Originals, IsCopiedOperation}
use Rattle.pliron_pass_linked.specs.Calls.{CallingConvention}

-- the parts of an inlined call
pub record InlinedCall : Type 0 where
  -- the function that is called, and its region
  pub callee : ℕ
  pub region : ℕ
  -- the call, the jump behind it, and the block to which that leads
  pub call : ℕ
  pub jump : ℕ
  pub after : ℕ
  -- the jump that takes their place, and the copy of the callee's entry to which it leads
  pub new : ℕ
  pub entry : ℕ
  -- the blocks that are copies, and the original of each block, operation and value of a copy
  pub copied : ℕ → Bool
  pub originals : Originals

-- the operation goes at once to this block with its operands
pub record IsJumpTo (m : Meaning) (t : Tree) (k block : ℕ) : Type 0 where
  pub live : IsLive t k
  pub leads : successors_of t k ≡ block ∷ []
  pub goes : (o : Operation) → op_at t k ≡ Some o → (ds : List Datum) → length ds ≡ length o.operands → m.act (shape_of m t o) Empty ds ≡ Goto 0 ds

-- the operation leaves at once with its operands
pub record Returns (m : Meaning) (t : Tree) (k : ℕ) : Type 0 where
  pub live : IsLive t k
  pub leaves : (o : Operation) → op_at t k ≡ Some o → (ds : List Datum) → length ds ≡ length o.operands → m.act (shape_of m t o) Empty ds ≡ Leave ds

-- the operation shows one effect, the call of this name on its operands, and then gives the results that it is answered
pub record CallsByName (m : Meaning) (c : CallingConvention) (t : Tree) (k : ℕ) (symbol : Datum) : Type 0 where
  pub live : IsLive t k
  pub effect : List Datum → Datum
  pub memo : List Datum → Datum
  pub asks : (o : Operation) → op_at t k ≡ Some o → (ds : List Datum) → length ds ≡ length o.operands → m.act (shape_of m t o) Empty ds ≡ Emit (effect ds) (memo ds)
  pub is_call : (ds : List Datum) → length ds ≡ length (operands_of t k) → c.call_of (effect ds) ≡ Some (record { symbol = symbol; arguments = ds })
  pub gives : (o : Operation) → op_at t k ≡ Some o → (ds results : List Datum) → length results ≡ length o.results → m.act (shape_of m t o) (memo ds) (c.answer_of results ∷ []) ≡ Give results

-- a function that is called with as many values as its entry takes visits its one region with them, and leaves with what
-- that leaves with
pub record RunsItsRegion (m : Meaning) (t : Tree) (k region count : ℕ) : Type 0 where
  pub live : IsLive t k
  pub holds : regions_of t k ≡ region ∷ []
  pub memo : List Datum → Datum
  pub visits : (o : Operation) → op_at t k ≡ Some o → (ds : List Datum) → length ds ≡ count → m.act (shape_of m t o) Empty ds ≡ Visit 0 ds (memo ds)
  pub leaves : (o : Operation) → op_at t k ≡ Some o → (ds results : List Datum) → m.act (shape_of m t o) (memo ds) results ≡ Leave results

-- a value that the tree has given out no handle for
abbrev pub IsFreshKey : Tree → ℕ → Type 0
IsFreshKey t v = length t.definitions ≤ v

-- the operation k of u is a copy of one of t without regions, which never leaves its function; it names values of the copy
-- alone, and leads to blocks of the copy alone
pub record IsCopy (m : Meaning) (t u : Tree) (x : InlinedCall) (k : ℕ) : Type 0 where
  pub live : IsLive u k
  pub same : IsCopiedOperation t u x.originals k
  pub childless : regions_of u k ≡ []
  pub leads : (b : ℕ) → In b (successors_of u k) → x.copied b ≡ true
  pub operands : (v : ℕ) → In v (operands_of u k) → IsFreshKey t v
  pub results : (v : ℕ) → In v (results_of u k) → IsFreshKey t v
  pub stays : (o : Operation) → op_at u k ≡ Some o → (memo : Datum) (input ds : List Datum) → m.act (shape_of m u o) memo input ≢ Leave ds

-- it never gives results, behind which the block would end
abbrev pub NeverGives : Meaning → Tree → ℕ → Type 0
NeverGives m u k = (o : Operation) → op_at u k ≡ Some o → (memo : Datum) (input ds : List Datum) → m.act (shape_of m u o) memo input ≢ Give ds

-- the operation k of u is in the place of a return: it jumps to the block behind the call with what that leaves with
pub record IsReturnReplaced (m : Meaning) (t u : Tree) (x : InlinedCall) (k : ℕ) : Type 0 where
  pub returns : Returns m t (x.originals.operation k)
  pub jumps : IsJumpTo m u k x.after
  pub operands : operands_of t (x.originals.operation k) ≡ map x.originals.value (operands_of u k)
  pub count : length (operands_of u k) ≡ length (results_of t x.call)
  pub fresh : (v : ℕ) → In v (operands_of u k) → IsFreshKey t v

-- the operations at the end of a copied block: copies, of which the last doesn't give, or is in the place of a return
abbrev pub AreCopies : Meaning → (t u : Tree) → InlinedCall → List ℕ → Type 0
AreCopies m t u x [] = ⊥
AreCopies m t u x (k ∷ []) = (IsCopy m t u x k × NeverGives m u k) ⊎ IsReturnReplaced m t u x k
AreCopies m t u x (k ∷ j ∷ ks) = IsCopy m t u x k × AreCopies m t u x (j ∷ ks)

-- the block b of u is a copy of one of the callee's region
pub record IsBlockCopy (m : Meaning) (t u : Tree) (x : InlinedCall) (b : ℕ) : Type 0 where
  pub live : IsBlock u b
  pub original : block_parent_of t (x.originals.block b) ≡ Some x.region
  pub arguments : arguments_of t (x.originals.block b) ≡ map x.originals.value (arguments_of u b)
  pub body : body_of t (x.originals.block b) ≡ map x.originals.operation (body_of u b)
  pub operations : AreCopies m t u x (body_of u b)
  pub fresh : (v : ℕ) → In v (arguments_of u b) → IsFreshKey t v

-- the operations of a block, where the call and the jump behind it, which end their block, became the new jump
abbrev pub HasNewJump : InlinedCall → List ℕ → List ℕ → Type 0
HasNewJump x [] [] = Unit {0}
HasNewJump x [] (j ∷ js) = ⊥
HasNewJump x (k ∷ ks) [] = ⊥
HasNewJump x (k ∷ ks) (j ∷ js) = ((k ≢ x.call) × (k ≢ x.jump) × (j ≡ k) × HasNewJump x ks js) ⊎ ((k ≡ x.call) × (ks ≡ x.jump ∷ []) × (j ≡ x.new) × (js ≡ []))

-- u is t with the call of this name inlined
pub record IsCallInlined (m : Meaning) (c : CallingConvention) (t u : Tree) (x : InlinedCall) (symbol : Datum) : Type 0 where
  -- before: a call, and a jump with its results, which nothing else uses
  pub calls : CallsByName m c t x.call symbol
  pub plain : regions_of t x.call ≡ []
  pub jumps : IsJumpTo m t x.jump x.after
  pub passes : operands_of t x.jump ≡ results_of t x.call
  pub used_there : (k v : ℕ) → In v (results_of t x.call) → In v (operands_of t k) → k ≡ x.jump
  pub fits : length (arguments_of t x.after) ≡ length (results_of t x.call)
  -- the callee: its region begins with a block that takes as many arguments as the call has operands
  pub callee : RunsItsRegion m t x.callee x.region (length (operands_of t x.call))
  pub entry : first_of (layout_of t x.region) None ≡ Some (x.originals.block x.entry)
  pub takes : length (arguments_of t (x.originals.block x.entry)) ≡ length (operands_of t x.call)
  -- after: a jump to the copies
  pub enters : IsJumpTo m u x.new x.entry
  pub operands_passed : operands_of u x.new ≡ operands_of t x.call
  pub entry_copied : x.copied x.entry ≡ true
  pub copies : (b : ℕ) → x.copied b ≡ true → IsBlockCopy m t u x b
  -- two values of the copy have two originals
  pub apart : (v w : ℕ) → IsFreshKey t v → IsFreshKey t w → x.originals.value v ≡ x.originals.value w → v ≡ w
  -- all else is as before
  pub deleted : (head_of u x.call ≡ None) × (head_of u x.jump ≡ None)
  pub bodies : (b : ℕ) → IsBlock t b → HasNewJump x (body_of t b) (body_of u b)
  pub arguments : (b : ℕ) → IsBlock t b → arguments_of u b ≡ arguments_of t b
  pub block_parents : (b : ℕ) → IsBlock t b → block_parent_of u b ≡ block_parent_of t b
  pub entries : (k r : ℕ) → In r (regions_of t k) → first_of (layout_of u r) None ≡ first_of (layout_of t r) None
  pub rows : (k : ℕ) → IsLive t k → k ≢ x.call → k ≢ x.jump → row_of u k ≡ row_of t k
  pub operands : (k : ℕ) → IsLive t k → k ≢ x.call → k ≢ x.jump → operands_of u k ≡ operands_of t k
  pub successors : (k : ℕ) → IsLive t k → k ≢ x.call → k ≢ x.jump → successors_of u k ≡ successors_of t k
  pub parents : (k : ℕ) → IsLive t k → k ≢ x.call → k ≢ x.jump → parent_of u k ≡ parent_of t k
