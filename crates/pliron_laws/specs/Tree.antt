-- Operations, blocks and regions of a tree, each as one record, and the shape of an operation.
pub use Rattle.pliron_core.specs.Tree.{Tree}
use Rattle.std.specs.Prelude.{ℕ, Bool, true, false, nat_eq, ◌&&◌, List, [], ◌∷◌, Option, Some, None, map, length}
use Rattle.pliron_core.specs.Tree.{head_of, operands_of, successors_of, results_of, regions_of, parent_of, arguments_of, body_of, block_parent_of, layout_of, region_parent_of}
use Rattle.pliron_laws.specs.Datum.{Head, Shape, Meaning}

pub record Operation : Type 0 where
  pub head : Head
  pub operands : List ℕ
  pub results : List ℕ
  pub successors : List ℕ
  pub regions : List ℕ
  pub parent : Option ℕ

pub record Block : Type 0 where
  pub arguments : List ℕ
  pub operations : List ℕ
  pub parent : ℕ

pub record Region : Type 0 where
  pub parent : ℕ
  pub blocks : List ℕ

abbrev pub op_with : Tree → ℕ → Option Head → Option Operation
op_with t k None = None
op_with t k (Some h) = Some (record { head = h; operands = operands_of t k; results = results_of t k; successors = successors_of t k; regions = regions_of t k; parent = parent_of t k })

unfoldable pub op_at : Tree → ℕ → Option Operation
op_at t k = op_with t k (head_of t k)

abbrev pub block_with : Tree → ℕ → Option ℕ → Option Block
block_with t b None = None
block_with t b (Some r) = Some (record { arguments = arguments_of t b; operations = body_of t b; parent = r })

unfoldable pub block_at : Tree → ℕ → Option Block
block_at t b = block_with t b (block_parent_of t b)

abbrev pub region_with : Tree → ℕ → Option ℕ → Option Region
region_with t r None = None
region_with t r (Some k) = Some (record { parent = k; blocks = layout_of t r })

unfoldable pub region_at : Tree → ℕ → Option Region
region_at t r = region_with t r (region_parent_of t r)

abbrev pub first : List ℕ → Option ℕ
first [] = None
first (k ∷ ks) = Some k

abbrev pub entry_of : Option Region → Option ℕ
entry_of None = None
entry_of (Some r) = first r.blocks

abbrev pub and_block : Tree → Option ℕ → Option Block
and_block t None = None
and_block t (Some b) = block_at t b

-- the block at which an invocation of the region begins
abbrev pub entry_block : Tree → ℕ → Option Block
entry_block t r = and_block t (entry_of (region_at t r))

abbrev pub count_arguments : Option Block → ℕ
count_arguments None = 0
count_arguments (Some b) = length b.arguments

abbrev pub unless : {A : Type 0} → Bool → A → Option A
unless true a = None
unless false a = Some a

unfoldable pub shape_of : Meaning → Tree → Operation → Shape
shape_of m t o = record {
  head = o.head;
  operands = length o.operands;
  results = length o.results;
  successors = length o.successors;
  entry_arguments = map (λ r. count_arguments (entry_block t r)) o.regions;
  target_arguments = unless (m.is_branch o.head) (map (λ b. count_arguments (block_at t b)) o.successors);
}

-- whether they are the same handle
abbrev pub is_one_key : ℕ → ℕ → Bool
is_one_key x y = nat_eq x y && true
