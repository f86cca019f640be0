-- What the records of operations, blocks and regions say of the tables.
use Rattle.std.proofs.Common.{◌≡◌, ℕ, List, [], ◌∷◌, Option, Some, None, refl, sym, ap, ◌∙◌, subst, arith}
use Rattle.pliron_core.specs.Tree.{first_of, head_of, operands_of, successors_of, results_of, regions_of, parent_of, arguments_of, body_of, block_parent_of, layout_of, region_parent_of}
use Rattle.pliron_laws.specs.Datum.{Head}
use Rattle.pliron_laws.specs.Tree.{Tree, Operation, Block, op_with, op_at, block_with, block_at, region_with, region_at, first, entry_of, and_block, entry_block}

-- the rows of the tables that the record of an operation shows
pub record ShowsOperation (t : Tree) (k : ℕ) (o : Operation) : Type 0 where
  pub head : head_of t k ≡ Some o.head
  pub operands : operands_of t k ≡ o.operands
  pub results : results_of t k ≡ o.results
  pub successors : successors_of t k ≡ o.successors
  pub regions : regions_of t k ≡ o.regions
  pub parent : parent_of t k ≡ o.parent

pub record ShowsBlock (t : Tree) (b : ℕ) (x : Block) : Type 0 where
  pub arguments : arguments_of t b ≡ x.arguments
  pub operations : body_of t b ≡ x.operations
  pub parent : block_parent_of t b ≡ Some x.parent

-- the entry of a region
pub record ShowsEntry (t : Tree) (r : ℕ) (x : Block) : Type 0 where
  pub key : ℕ
  pub entry : first_of (layout_of t r) None ≡ Some key
  pub liveness : block_at t key ≡ Some x

abbrev pub operation_of : Tree → ℕ → Head → Operation
operation_of t k h = record { head = h; operands = operands_of t k; results = results_of t k; successors = successors_of t k; regions = regions_of t k; parent = parent_of t k }

abbrev pub block_of : Tree → ℕ → ℕ → Block
block_of t b r = record { arguments = arguments_of t b; operations = body_of t b; parent = r }

pub op_shows : (t : Tree) (k : ℕ) (o : Operation) → op_at t k ≡ Some o → ShowsOperation t k o
unfolding op_at
op_shows t k o e = go (head_of t k) refl e
  where
    go : (x : Option Head) → head_of t k ≡ x → op_with t k x ≡ Some o → ShowsOperation t k o
    go None hx f = grind arith
    go (Some h) hx f = let g : operation_of t k h ≡ o = cc in subst (ShowsOperation t k) g (record { head = hx; operands = refl; results = refl; successors = refl; regions = refl; parent = refl })

pub block_shows : (t : Tree) (b : ℕ) (x : Block) → block_at t b ≡ Some x → ShowsBlock t b x
unfolding block_at
block_shows t b x e = go (block_parent_of t b) refl e
  where
    go : (y : Option ℕ) → block_parent_of t b ≡ y → block_with t b y ≡ Some x → ShowsBlock t b x
    go None hx f = grind arith
    go (Some r) hx f = let g : block_of t b r ≡ x = cc in subst (ShowsBlock t b) g (record { arguments = refl; operations = refl; parent = hx })

pub make_op : (t : Tree) (k : ℕ) (h : Head) → head_of t k ≡ Some h → op_at t k ≡ Some (operation_of t k h)
unfolding op_at
make_op t k h e = ap (op_with t k) e

pub make_block : (t : Tree) (b r : ℕ) → block_parent_of t b ≡ Some r → block_at t b ≡ Some (block_of t b r)
unfolding block_at
make_block t b r e = ap (block_with t b) e

pub no_op : (t : Tree) (k : ℕ) → head_of t k ≡ None → op_at t k ≡ None
unfolding op_at
no_op t k e = ap (op_with t k) e

pub no_block : (t : Tree) (b : ℕ) → block_parent_of t b ≡ None → block_at t b ≡ None
unfolding block_at
no_block t b e = ap (block_with t b) e

first_same : (xs : List ℕ) → first_of xs None ≡ first xs
first_same [] = refl
first_same (x ∷ xs) = refl

-- where a visit of a region of some operation begins
pub region_entry : (t : Tree) (r k : ℕ) → region_parent_of t r ≡ Some k → entry_block t r ≡ and_block t (first_of (layout_of t r) None)
unfolding region_at
region_entry t r k e = ap (λ o. and_block t (entry_of (region_with t r o))) e ∙ ap (and_block t) (sym (first_same (layout_of t r)))

pub entry_shows : (t : Tree) (r : ℕ) (x : Block) → entry_block t r ≡ Some x → ShowsEntry t r x
unfolding region_at
entry_shows t r x e = region (region_parent_of t r) e
  where
    block : (y : Option ℕ) → first_of (layout_of t r) None ≡ y → and_block t y ≡ Some x → ShowsEntry t r x
    block None f g = grind arith
    block (Some b) f g = record { key = b; entry = f; liveness = g }

    region : (y : Option ℕ) → and_block t (entry_of (region_with t r y)) ≡ Some x → ShowsEntry t r x
    region None f = grind arith
    region (Some k) f = block _ refl (ap (and_block t) (first_same (layout_of t r)) ∙ f)
