-- What is read of the same tree but for erased handles, and what calls ask of it.
use Rattle.std.proofs.Common.{◌≡◌, ◌↔◌, ℕ, Bool, List, [], ◌∷◌, Option, Some, None, IsSome, if◌then◌else◌, refl, sym, ap, ◌∙◌, subst, inl, inr}
use Rattle.std.specs.List.{filter, list_any}
use Rattle.std.specs.Prelude.{nat_eq}
use Rattle.pliron_core.specs.declared.context.Def.{Def}
use Rattle.pliron_core.specs.declared.context.Def.TheVariants.{Result, Argument}
use Rattle.pliron_core.specs.declared.rewriter.OpInsertionPoint.{OpInsertionPoint}
use Rattle.pliron_core.specs.declared.rewriter.OpInsertionPoint.TheVariants.{Unset, BeforeOperation, AtBlockStart}
use Rattle.pliron_core.specs.Lists.{In, next_in, prev_in, last_of}
use Rattle.pliron_core.specs.Tree.{Tree, IsDefinedWithin, up_from, op_of_slot, operands_of, regions_of, body_of, block_parent_of, definition_of, region_parent_of}
use Rattle.pliron_core.specs.Invariant.{IsTree}
use Rattle.pliron_core.specs.Insertion.{IsPointFor}
use Rattle.pliron_core.specs.Erased.{IsInOperation, IsBlockWithin, IsDefinedInBlock, IsSelfContained, IsSelfContainedBlock}
use Rattle.pliron_core.specs.Reads.{ssa_in, has_ssa_at, IsDefinitionLive}
use Rattle.pliron_core.specs.Edges.{succs_from, succs_of, leads_to, blocks_in, preds_of}
use Rattle.pliron_core.specs.Walks.{children, contents}
use Rattle.pliron_core.specs.Changes.{IsSameTree}
use Rattle.pliron_core.specs.ChangeLaws.{ReadAlike, AreReadAlike, AllowAlike}
use Rattle.pliron_core.proofs.WalkLemmas.{children-same, contents-same}
use Rattle.pliron_core.proofs.SameTreeLemmas.{same_sym, same_live, same_block, same_region, same_value, same_slot, same_definition, same_block_holder, same_holder, same_inside, same_within, same_holds, same_holds_region, same_made_inside}

-- the same above, read alike
pub up_same : {f g : ℕ → Option ℕ} {o p : Option ℕ} → o ≡ p → ((x : ℕ) → f x ≡ g x) → up_from o f ≡ up_from p g
up_same {f} {g} {o} {p} e same = ap (λ z. up_from z f) e ∙ go p
  where
    go : (z : Option ℕ) → up_from z f ≡ up_from z g
    go None = refl
    go (Some x) = same x

-- tests that answer alike keep the same
pub filter_same : (p q : ℕ → Bool) (xs : List ℕ) → ((x : ℕ) → p x ≡ q x) → filter p xs ≡ filter q xs
filter_same p q [] same = refl
filter_same p q (x ∷ xs) same =
    ap (λ b. if b then x ∷ filter p xs else filter p xs) (same x) ∙ ap (λ ys. if q x then x ∷ ys else ys) (filter_same p q xs same)

module _ (t u : Tree) (s : IsSameTree t u) where
  pub same_regions : (op : ℕ) → regions_of u op ≡ regions_of t op
  same_regions op = ap (λ r. r.regions) (s.operations op)

  pub same_succs : (b : ℕ) → succs_of u b ≡ succs_of t b
  same_succs b = ap (λ xs. succs_from u (last_of None xs)) (s.bodies b) ∙ go (last_of None (body_of t b))
    where
      go : (o : Option ℕ) → succs_from u o ≡ succs_from t o
      go None = refl
      go (Some k) = s.successors k

  pub same_preds : (b : ℕ) → preds_of u b ≡ preds_of t b
  same_preds b =
      filter_same (λ a. leads_to u b a) (λ a. leads_to t b a) (blocks_in u (block_parent_of u b)) (λ a. ap (list_any (λ x. nat_eq x b)) (same_succs a))
      ∙ ap (filter (λ a. leads_to t b a)) (ap (blocks_in u) (s.block_parents b) ∙ go (block_parent_of t b))
    where
      go : (o : Option ℕ) → blocks_in u o ≡ blocks_in t o
      go None = refl
      go (Some r) = s.layouts r

  pub same_children : (op : ℕ) → children u op ≡ children t op
  same_children op = children-same t u op (same_regions op) s.layouts s.bodies

  same_ssa : (o : Option ℕ) → has_ssa_at u o ≡ has_ssa_at t o
  same_ssa None = refl
  same_ssa (Some op) = ap (λ r. ssa_in r.head) (s.operations op)

module _ (t u : Tree) (wt : IsTree t) (wu : IsTree u) (s : IsSameTree t u) where
  pub same_contents : (op : ℕ) → contents u op ≡ contents t op
  same_contents op = contents-same t u wt wu op (λ k i. same_children t u s k)

  pub stand_alike : ReadAlike t u
  stand_alike = record {
    operations = same_live t u wt.joined wu.joined s;
    blocks = same_block t u wt.joined wu.joined s;
    regions = same_region t u wt.joined wu.joined s;
    values = same_value t u wt.joined wu.joined s;
    slots = same_slot t u wt.joined wu.joined s;
    definitions = same_definition t u wt.joined wu.joined s;
    region_holders = λ r i. ap op_of_slot (same_slot t u wt.joined wu.joined s r i);
    block_holders = same_block_holder t u wt.joined wu.joined s;
    holders = same_holder t u wt.joined wu.joined s;
    inside = same_inside t u wt.joined wu.joined s;
    within = same_within t u wt.joined wu.joined s;
    holds = same_holds t u wt.joined wu.joined s;
    holds_region = same_holds_region t u wt.joined wu.joined s;
    made_inside = same_made_inside t u wt.joined wu.joined s;
  }

  makers : (d : Def) → IsDefinitionLive t d ↔ IsDefinitionLive u d
  makers (Result op i) = stand_alike.operations op
  makers (Argument b i) = stand_alike.blocks b

  pub read_alike : AreReadAlike t u
  read_alike = record {
    next = λ op. up_same (s.parents op) (λ b. ap (next_in op) (s.bodies b));
    prev = λ op. up_same (s.parents op) (λ b. ap (prev_in None op) (s.bodies b));
    next_block = λ b. up_same (s.block_parents b) (λ r. ap (next_in b) (s.layouts r));
    prev_block = λ b. up_same (s.block_parents b) (λ r. ap (prev_in None b) (s.layouts r));
    ssa = λ r i. ap (has_ssa_at u) (stand_alike.region_holders r i) ∙ same_ssa t u s (region_parent_of t r);
    makers = makers;
    succs = same_succs t u s;
    preds = same_preds t u s;
    children = same_children t u s;
    contents = same_contents;
    preorder = λ op. ap (λ xs. op ∷ xs) (same_contents op);
  }

  -- one way: what is used in u is used in t, and is made by the same
  point : (p : OpInsertionPoint) (op : ℕ) → IsPointFor t p op → IsPointFor u p op
  point Unset op h = h
  point (BeforeOperation at) op h = (subst IsSome (sym (s.parents at)) h.0, h.1, λ i. h.2 ((stand_alike.inside op at).1 i))
  point (AtBlockStart b) op h = ((stand_alike.blocks b).0 h.0, λ i. h.1 ((stand_alike.holds op b).1 i))

  in_block : (b x : ℕ) → IsInOperation t b x → IsInOperation u b x
  in_block b x h = (h.0, s.parents h.0 ∙ h.1, (stand_alike.within h.0 x).0 h.2)

  block_within : (b c : ℕ) → IsBlockWithin t b c → IsBlockWithin u b c
  block_within b c (inl e) = inl e
  block_within b c (inr h) = inr (h.0, stand_alike.block_holders c ∙ h.1, in_block b h.0 h.2)

  made_within : (op : ℕ) (o : Option Def) → IsDefinedWithin t op o → IsDefinedWithin u op o
  made_within op None m = m
  made_within op (Some (Result k i)) m = (stand_alike.within op k).0 m
  made_within op (Some (Argument b i)) m = (stand_alike.holds op b).0 m

  made_in_block : (b : ℕ) (o : Option Def) → IsDefinedInBlock t b o → IsDefinedInBlock u b o
  made_in_block b None m = m
  made_in_block b (Some (Result k i)) m = in_block b k m
  made_in_block b (Some (Argument c i)) m = block_within b c m

  -- an operand of u is defined in t by the same
  used : (x v : ℕ) → In v (operands_of u x) → In v (operands_of t x) × (definition_of u v ≡ definition_of t v)
  used x v i = let j = subst (In v) (s.operands x) i in (j, same_definition t u wt.joined wu.joined s v (wt.joined.operands x v j))

module _ (t u : Tree) (wt : IsTree t) (wu : IsTree u) (s : IsSameTree t u) where
  contained : (op : ℕ) → IsSelfContained t op → IsSelfContained u op
  contained op c = record {
    values = λ x v i m.
        let w = used t u wt wu s x v i in
        ((stand_alike t u wt wu s).within op x).0 (c.values x v w.0 (made_within u t wu wt (same_sym t u s) op (definition_of t v) (subst (IsDefinedWithin u op) w.1 m)));
    blocks = λ x b i h.
        ((stand_alike t u wt wu s).within op x).0 (c.blocks x b (subst (In b) (s.successors x) i) (((stand_alike t u wt wu s).holds op b).1 h));
  }

  contained_block : (b : ℕ) → IsSelfContainedBlock t b → IsSelfContainedBlock u b
  contained_block b c = record {
    values = λ x v i m.
        let w = used t u wt wu s x v i in
        in_block t u wt wu s b x (c.values x v w.0 (made_in_block u t wu wt (same_sym t u s) b (definition_of t v) (subst (IsDefinedInBlock u b) w.1 m)));
    blocks = λ x a i h.
        in_block t u wt wu s b x (c.blocks x a (subst (In a) (s.successors x) i) (block_within u t wu wt (same_sym t u s) b a h));
  }

pub allow_alike : (t u : Tree) → IsTree t → IsTree u → IsSameTree t u → AllowAlike t u
allow_alike t u wt wu s =
    let z = same_sym t u s in
    record {
      points = λ p op. (point t u wt wu s p op, point u t wu wt z p op);
      in_block = λ b x. (in_block t u wt wu s b x, in_block u t wu wt z b x);
      contained = λ op. (contained t u wt wu s op, contained u t wu wt z op);
      contained_block = λ b. (contained_block t u wt wu s b, contained_block u t wu wt z b);
    }
