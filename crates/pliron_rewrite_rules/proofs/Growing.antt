-- Trees that grow by operations with one result before one operation.
use Rattle.std.proofs.Common.{◌≡◌, ◌≢◌, ◌⊎◌, ⊎_elim, inl, inr, ℕ, ◌<◌, ◌≤◌, Bool, nat_eq, false, true, List, [], ◌∷◌, ◌++◌, length, Option, Some, None, IsSome, is_some, true≢false, if◌then◌else◌, slice_get, refl, sym, ap, ◌∙◌, subst, arith}
use Rattle.std.proofs.lemmas.Bool.{cases_eq}
use Rattle.std.proofs.lemmas.Bool.Decides.{eqb_tells}
use Rattle.std.proofs.lemmas.Option.{slice_get_within}
use Rattle.pliron_core.specs.declared.attrs.AttrObj.{AttrObj}
use Rattle.pliron_core.specs.declared.context.Def.{Def}
use Rattle.pliron_core.specs.declared.context.Def.TheVariants.{Result}
use Rattle.pliron_core.specs.Changes.{IsInsideChange}
use Rattle.pliron_core.specs.Invariant.{IsTree}
use Rattle.pliron_core.specs.Lists.{put_before}
use Rattle.pliron_core.specs.Tree.{Tree, In, IsDefined, IsInside, IsLive, head_of, operands_of, successors_of, results_of, row_of, parent_of, body_of, definition_of}
use Rattle.pliron_core.specs.Writes.{after_placing}
use Rattle.pliron_core.proofs.HoldingLemmas.{past_live, maker_is}
use Rattle.pliron_core.proofs.InsideLemmas.{inside_trans}
use Rattle.pliron_laws.specs.Datum.{Datum, Head, Meaning}
use Rattle.pliron_laws.specs.Laws.{KeepsCounts}
use Rattle.pliron_laws.specs.Linked.{IsWellLinked}
use Rattle.pliron_laws.specs.Outcomes.{next_value}
use Rattle.pliron_laws.specs.Tree.{Operation, op_at}
use Rattle.pliron_laws.proofs.ConstantLemmas.{new_row, some_block}
use Rattle.pliron_laws.proofs.Records.{op_shows, operation_of, make_op}
use Rattle.pliron_theory.specs.Edges.{KeepsEdges, EdgesAlike}
use Rattle.pliron_theory.specs.Keeps.{KeepsAllRuns}
use Rattle.pliron_theory.specs.Sweeping.{swept, IsSwept, AreAway}
use Rattle.pliron_theory.proofs.EdgeLemmas.{edges_alike, edges_transitive}
use Rattle.pliron_theory.proofs.MadeKeeps.{not_it}
use Rattle.pliron_theory.proofs.SweptLists.{from_swept, swept_split}
use Rattle.pliron_theory.proofs.SweptParts.{held_lives, inside_back}
use Rattle.pliron_theory.proofs.SweptRecords.{op_same}
use Rattle.pliron_theory.proofs.WholeChanges.{all_refl, all_trans}
use Rattle.pliron_rewrite_rules.specs.Insertions.{after_making, with_operation, IsInsertion, InsertedLaws}
use Rattle.pliron_rewrite_rules.specs.Replacements.{IsMadeBefore}
use Rattle.pliron_rewrite_rules.proofs.Inserted.{at_old, put_is, inserted_laws, available_defined}
use Rattle.pliron_rewrite_rules.proofs.PutBefore.{made_row, made_operands, made_successors, made_beside, body_here, put_parent, old_parent, put_swept, put_away}
use Rattle.pliron_rewrite_rules.proofs.PureOperations.{IsSingle}

-- what is put just before an operation is among what stands before that
put_in : (at n : ℕ) (xs done rest : List ℕ) → n ≢ at → put_before at n xs ≡ done ++ at ∷ rest → In n done
put_in at n [] [] rest ne e = grind arith
put_in at n [] (d ∷ done) rest ne e = grind arith
put_in at n (x ∷ xs) [] rest ne e = ⊎_elim
    (λ y. absurd (ne (first (ap (λ b. if b then n ∷ x ∷ xs else x ∷ put_before at n xs) (sym y.0) ∙ e))))
    (λ y. absurd (y.1 (sym (other (ap (λ b. if b then n ∷ x ∷ xs else x ∷ put_before at n xs) (sym y.0) ∙ e)))))
    (eqb_tells at x)
  where
    first : n ∷ x ∷ xs ≡ at ∷ rest → n ≡ at
    first f = cc

    other : x ∷ put_before at n xs ≡ at ∷ rest → x ≡ at
    other f = cc
put_in at n (x ∷ xs) (d ∷ done) rest ne e = ⊎_elim
    (λ y. inl (first (ap (λ b. if b then n ∷ x ∷ xs else x ∷ put_before at n xs) (sym y.0) ∙ e)))
    (λ y. inr (put_in at n xs done rest ne (other (ap (λ b. if b then n ∷ x ∷ xs else x ∷ put_before at n xs) (sym y.0) ∙ e))))
    (eqb_tells at x)
  where
    first : n ∷ x ∷ xs ≡ d ∷ done ++ at ∷ rest → n ≡ d
    first f = cc

    other : x ∷ put_before at n xs ≡ d ∷ done ++ at ∷ rest → put_before at n xs ≡ done ++ at ∷ rest
    other f = cc

-- u is t with more operations before op, and does the same
pub record IsGrown (m : Meaning) (op : ℕ) (t u : Tree) : Type 0 where
  pub tree : IsTree u
  pub placed : IsSome (parent_of u op)
  pub ops : (k : ℕ) (o : Operation) → op_at t k ≡ Some o → op_at u k ≡ Some o
  pub defs : (v : ℕ) (d : Def) → definition_of t v ≡ Some d → definition_of u v ≡ Some d
  pub before : (v : ℕ) → IsMadeBefore t op v → IsMadeBefore u op v
  pub runs : KeepsAllRuns m t u
  pub links : (root : ℕ) → IsWellLinked m t root → IsWellLinked m u root
  pub inside : (root : ℕ) → IsInside t root op → IsInside u root op × IsInsideChange t u root
  pub edges : KeepsEdges t u

-- an operation with this head, these operands and this result is before op
pub record IsBuilt (u : Tree) (op : ℕ) (head : Head) (operands : List ℕ) (v : ℕ) : Type 0 where
  pub key : ℕ
  pub operation : Operation
  pub single : IsSingle u key operation v
  pub head_is : operation.head ≡ head
  pub operands_are : operation.operands ≡ operands
  pub before : IsMadeBefore u op v
  pub makes : definition_of u v ≡ Some (Result key 0)

pub op_live : (t : Tree) (k : ℕ) (o : Operation) → op_at t k ≡ Some o → IsLive t k
op_live t k o e = ap is_some (op_shows t k o e).head

pub grown_refl : (m : Meaning) (op : ℕ) (t : Tree) → IsTree t → IsSome (parent_of t op) → IsGrown m op t t
grown_refl m op t w placed = record {
  tree = w;
  placed = placed;
  ops = λ k o e. e;
  defs = λ v d e. e;
  before = λ v b. b;
  runs = all_refl m t;
  links = λ root l. l;
  inside = λ root i. (i, inside_refl t root);
  edges = λ k a b. refl;
}
  where
    inside_refl : (t : Tree) (root : ℕ) → IsInsideChange t t root
    inside_refl t root = record {
      operations = λ y o. (o, record { row = refl; successors = refl; parent = refl; count = refl; operands = λ i v e out. e });
      blocks = λ b o. (o, record { arguments = refl; body = refl; parent = refl });
      regions = λ r o. (o, record { layout = refl; slot = refl });
      values = λ v o. (o, refl);
      no_new_operation = λ y o. o;
      no_new_block = λ b o. o;
    }

pub grown_live : (m : Meaning) (op : ℕ) (t u : Tree) → IsGrown m op t u → (k : ℕ) → IsLive t k → IsLive u k
grown_live m op t u g k live = go (head_of t k) refl live
  where
    go : (h : Option Head) → head_of t k ≡ h → IsSome h → IsLive u k
    go None e l = absurd (true≢false (sym l))
    go (Some h) e l = op_live u k (operation_of t k h) (g.ops k (operation_of t k h) (make_op t k h e))

pub grown_trans : (m : Meaning) (op : ℕ) (t u v : Tree) → IsGrown m op t u → IsGrown m op u v → IsGrown m op t v
grown_trans m op t u v a b = record {
  tree = b.tree;
  placed = b.placed;
  ops = λ k o e. b.ops k o (a.ops k o e);
  defs = λ z d e. b.defs z d (a.defs z d e);
  before = λ z e. b.before z (a.before z e);
  runs = all_trans m t u v a.runs b.runs;
  links = λ root l. b.links root (a.links root l);
  inside = λ root i. let y = a.inside root i in let z = b.inside root y.0 in (z.0, inside_trans t u v root y.1 z.1);
  edges = edges_transitive t u v (λ k l m'. grown_live m op t u a k l) a.edges b.edges;
}

pub built_lifted : (m : Meaning) (op : ℕ) (t u : Tree) (head : Head) (operands : List ℕ) (v : ℕ) → IsGrown m op t u → IsBuilt t op head operands v → IsBuilt u op head operands v
built_lifted m op t u head operands v g b = record {
  key = b.key;
  operation = b.operation;
  single = record { liveness = g.ops b.key b.operation b.single.liveness; results = b.single.results; no_successors = b.single.no_successors; no_regions = b.single.no_regions };
  head_is = b.head_is;
  operands_are = b.operands_are;
  before = g.before v b.before;
  makes = g.defs v (Result b.key 0) b.makes;
}

-- an operation is put before op
module _ (m : Meaning) (counts : KeepsCounts m) (t : Tree) (op : ℕ) (head : Head) (operands : List ℕ) (x : IsInsertion m t op head operands) where
  laws : InsertedLaws m
  laws = inserted_laws m counts

  module _ (block : ℕ) (here : parent_of t op ≡ Some block) where
    abbrev n : ℕ
    n = length t.operations

    abbrev dead : ℕ → Bool
    dead = nat_eq (length t.operations)

    abbrev none : ℕ → Bool
    none b = false

    abbrev u : Tree
    u = after_placing (after_making t head operands) (length t.operations) block (put_before op (length t.operations) (body_of t block))

    w' : IsTree u
    w' = subst IsTree (put_is t op block head operands here) (laws.after t op head operands x)

    h : IsSwept u t dead none
    h = put_swept t head operands x.tree op block here w'

    g : AreAway t dead none
    g = put_away t head operands x.tree op block here

    op_old : op ≢ n
    op_old = at_old t op block head operands x.tree here w'

    still : dead op ≡ false
    still = not_it n op op_old

    new_row_is : row_of u n ≡ new_row t head
    new_row_is = made_row t head operands x.tree

    beside : parent_of u op ≡ Some block
    beside = old_parent t head operands x.tree op block here op op_old ∙ here

    old : (k : ℕ) → IsLive t k → dead k ≡ false
    old k live = not_it n k (λ e. let lt = past_live t k live in omega (arith, lt, e))

    kept_before : (v : ℕ) → IsMadeBefore t op v → IsMadeBefore u op v
    kept_before v b =
        let l = held_lives u t dead none w' x.tree h g b.maker b.block b.in_block in
        record {
          maker = b.maker;
          place = b.place;
          makes = ap (λ z. slice_get z.results b.place) (sym (h.rows b.maker l)) ∙ b.makes;
          successors = sym (h.successors b.maker l) ∙ b.successors;
          block = b.block;
          in_block = sym (h.parents b.maker l) ∙ b.in_block;
          beside = sym (h.parents op still) ∙ b.beside;
          earlier = λ done rest split. (from_swept dead b.maker done (b.earlier (swept dead done) (swept dead rest) (h.bodies b.block refl ∙ ap (swept dead) split ∙ swept_split dead op rest done still))).0;
        }

    grown_here : IsGrown m op t u
    grown_here = let is = put_is t op block head operands here in record {
      tree = w';
      placed = ap is_some beside;
      ops = λ k o e. sym (op_same u t dead none w' x.tree h k (old k (op_live t k o e))) ∙ e;
      defs = (made_beside t head operands x.tree).definitions;
      before = kept_before;
      runs = subst (KeepsAllRuns m t) is (laws.runs t op head operands x);
      links = λ root l. subst (λ z. IsWellLinked m z root) is (laws.links t op head operands root x l);
      inside = λ root i. (inside_back u t dead none w' x.tree h g root op i, subst (λ z. IsInsideChange t z root) is (laws.inside t op head operands root x i));
      edges = edges_alike t u x.tree w' (subst (λ z. EdgesAlike t z) is (laws.edges t op head operands x));
    }

    built_here : IsBuilt u op head operands (next_value t)
    built_here = record {
      key = n;
      operation = operation_of u n head;
      single = record {
        liveness = make_op u n head (ap (λ z. z.head) new_row_is);
        results = ap (λ z. z.results) new_row_is;
        no_successors = made_successors t head operands x.tree;
        no_regions = ap (λ z. z.regions) new_row_is;
      };
      head_is = refl;
      operands_are = made_operands t head operands x.tree;
      before = record {
        maker = n;
        place = 0;
        makes = listed;
        successors = made_successors t head operands x.tree;
        block = block;
        in_block = put_parent t head operands x.tree op block here;
        beside = beside;
        earlier = λ done rest split. put_in op n (body_of t block) done rest (λ e. op_old (sym e)) (sym (body_here t head operands x.tree op block here) ∙ split);
      };
      makes = w'.joined.results n 0 (next_value t) listed;
    }
      where
        listed : slice_get (results_of u n) 0 ≡ Some (next_value t)
        listed = ap (λ z. slice_get z.results 0) new_row_is

    unused_here : (k : ℕ) → In (next_value t) (operands_of u k) → ⊥
    unused_here k i = fresh (⊎_elim
        (λ e. available_defined t x.tree op (next_value t) (x.available (next_value t) (subst (In (next_value t)) (made_operands t head operands x.tree) (subst (λ z. In (next_value t) (operands_of u z)) e i))))
        (λ ne. x.tree.joined.operands k (next_value t) (subst (In (next_value t)) ((made_beside t head operands x.tree).operands k ne) i))
        (cases_eq k n))
      where
        fresh : IsDefined t (next_value t) → ⊥
        fresh is = let m' = maker_is t (next_value t) is in let lt = slice_get_within t.definitions (next_value t) m'.0 m'.1 in omega (arith, lt)

  pub put_unused : (k : ℕ) → In (next_value t) (operands_of (with_operation t op head operands) k) → ⊥
  put_unused k i = let b = some_block (parent_of t op) x.placed in unused_here b.0 b.1 k (subst (λ z. In (next_value t) (operands_of z k)) (put_is t op b.0 head operands b.1) i)

  pub grown_put : IsGrown m op t (with_operation t op head operands)
  grown_put = let b = some_block (parent_of t op) x.placed in subst (IsGrown m op t) (sym (put_is t op b.0 head operands b.1)) (grown_here b.0 b.1)

  pub built_put : IsBuilt (with_operation t op head operands) op head operands (next_value t)
  built_put = let b = some_block (parent_of t op) x.placed in subst (λ z. IsBuilt z op head operands (next_value t)) (sym (put_is t op b.0 head operands b.1)) (built_here b.0 b.1)
