-- Where values may fold.
use Rattle.std.specs.Prelude.{◌≡◌, ◌⊎◌, ◌<◌, ℕ, List, [], Some, None, length, slice_get}
use Rattle.pliron_core.specs.Tree.{Tree, In, IsBlock, IsLive, arguments_of, body_of, first_of, operands_of, parent_of, results_of}
use Rattle.pliron_graph_order.specs.Seen.{IsSeen}
use Rattle.pliron_opt_canonicalize.specs.declared.sites.Site.{Site}
use Rattle.pliron_opt_canonicalize.specs.declared.sites.Site.TheVariants.{Arguments, Results}
use Rattle.pliron_opt_canonicalize.specs.Folds.{Fold, OfResult, OfArgument, IsSeenBlock}

abbrev pub values_at : Tree → Site → List ℕ
values_at t (Arguments block) = arguments_of t block
values_at t (Results k) = results_of t k

abbrev pub IsLiveSite : Tree → Site → Type 0
IsLiveSite t (Arguments block) = IsBlock t block
IsLiveSite t (Results k) = IsLive t k

abbrev pub IsSeenAt : Tree → ℕ → Site → Type 0
IsSeenAt t root (Arguments block) = IsSeenBlock t root block
IsSeenAt t root (Results k) = IsSeen t root k

-- where what folds is defined, and which value it is there
abbrev pub site_of : Fold → Site
site_of (OfResult k i answer) = Results k
site_of (OfArgument block i v) = Arguments block

abbrev pub index_of : Fold → ℕ
index_of (OfResult k i answer) = i
index_of (OfArgument block i v) = i

-- one of the first n sites is this one
abbrev pub IsAmong : List Site → ℕ → Site → Type 0
IsAmong sites n s = (j : ℕ) × (j < n) × (slice_get sites j ≡ Some s)

-- what is visited at the operation: its results, and the arguments of its block
abbrev pub IsVisitedAt : Tree → ℕ → Site → Type 0
IsVisitedAt t op (Arguments block) = parent_of t op ≡ Some block
IsVisitedAt t op (Results k) = k ≡ op

-- the operation's results came behind the sites, and before them the arguments of the block that it is the first of
pub record AddsSites (t : Tree) (op : ℕ) (old new : List Site) : Type 0 where
  pub kept : (j : ℕ) (s : Site) → slice_get old j ≡ Some s → slice_get new j ≡ Some s
  pub added : (j : ℕ) (s : Site) → slice_get new j ≡ Some s → (slice_get old j ≡ Some s) ⊎ IsVisitedAt t op s
  pub results : IsAmong new (length new) (Results op)
  pub arguments : (block : ℕ) → first_of (body_of t block) None ≡ Some op → IsAmong new (length new) (Arguments block)

-- these are the sites of the first n operations
pub record AreSitesOf (t : Tree) (ops : List ℕ) (n : ℕ) (sites : List Site) : Type 0 where
  pub from : (j : ℕ) (s : Site) → slice_get sites j ≡ Some s → (op : ℕ) × In op ops × IsVisitedAt t op s
  pub results : (i op : ℕ) → i < n → slice_get ops i ≡ Some op → IsAmong sites (length sites) (Results op)
  pub arguments : (i op block : ℕ) → i < n → slice_get ops i ≡ Some op → first_of (body_of t block) None ≡ Some op → IsAmong sites (length sites) (Arguments block)

-- these sites are seen; every block that is seen is one of them, and each operation that is seen or it uses nothing
pub record AreListed (t : Tree) (root : ℕ) (sites : List Site) : Type 0 where
  pub seen : (j : ℕ) (s : Site) → slice_get sites j ≡ Some s → IsSeenAt t root s
  pub blocks : (block : ℕ) → IsSeenBlock t root block → IsAmong sites (length sites) (Arguments block)
  pub operations : (k : ℕ) → IsSeen t root k → IsAmong sites (length sites) (Results k) ⊎ (operands_of t k ≡ [])
