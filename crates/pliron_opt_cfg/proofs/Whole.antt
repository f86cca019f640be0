-- From merges among the blocks that a search found to merges of pairs that are due.
use Rattle.std.proofs.Common.{◌≡◌, ◌⊎◌, ⊎_elim, inl, inr, ℕ, Bool, List, take, Some, None, is_some, IfOk, OnOk, OnErr, Result, Ok, Err, refl, sym, ap, ◌∙◌, subst}
use Rattle.pliron_core.specs.declared.attrs.IRStatus.{IRStatus}
use Rattle.pliron_core.specs.declared.attrs.IRStatus.TheVariants.{Changed, Unchanged}
use Rattle.pliron_core.specs.Tree.{Tree, In, head_of, IsLive, IsBlock, IsRegion, regions_of, arguments_of, block_parent_operation_of, region_parent_of}
use Rattle.pliron_core.specs.Invariant.{IsTree}
use Rattle.pliron_core.specs.Changes.{IsInsideChange}
use Rattle.pliron_core.proofs.HoldingLemmas.{some_is, slice_in, region_parent_is, region_by, outside_itself}
use Rattle.pliron_core.proofs.WithinLemmas.{block_holder_from}
use Rattle.pliron_core.proofs.InsideLemmas.{widen}
use Rattle.pliron_laws.specs.Datum.{Head, Shape, Meaning}
use Rattle.pliron_laws.specs.Laws.{ForwardsOperands}
use Rattle.pliron_laws.specs.Linked.{IsWellLinked}
use Rattle.pliron_theory.specs.Change.{IsWholeChange}
use Rattle.pliron_theory.proofs.ChangeLemmas.{linked_inside}
use Rattle.pliron_theory.proofs.WholeChanges.{whole_trans, whole_refl}
use Rattle.pliron_opt_cfg.specs.Visited.{Start, OfOperation, OfRegion, IsVisited, IsUnreachable}
use Rattle.pliron_opt_cfg.specs.Visits.{AreVisits}
use Rattle.pliron_rewrite_blocks.specs.Links.{KeepsLinks}
use Rattle.pliron_rewrite_blocks.specs.Pairs.{IsMergeable, forwarded_uses, after_block_merging}
use Rattle.pliron_opt_cfg.specs.Merged.{MergesSome, MergesSome.Nothing as NoneMerged, MergesSome.Then as OneMerged, MergesAll, MergesPartly, IsHalfMerged, LosesOperation}
use Rattle.pliron_opt_cfg.specs.Internal.Chains.{MergesAmong, MergesAmong.Nothing, MergesAmong.Then, HasNoPairAmong, ReportsMerged, IsHalfMergedAmong, MergesAmongPartly}
use Rattle.pliron_opt_cfg.proofs.Forwarded.{forwarded_first}
use Rattle.pliron_opt_cfg.proofs.MergedTrees.{first_held}
use Rattle.pliron_opt_cfg.proofs.ChainLemmas.{AreLinked, chain}
use Rattle.pliron_opt_cfg.proofs.RegionReach.{IsHeld, visited_held, reached_in}
use Rattle.pliron_opt_cfg.proofs.VisitsKept.{spliced_regions}
use Rattle.pliron_opt_cfg.proofs.Opens.{IsOpen, IsLasting, due_of, kept, jump_live, jump_gone}

-- a region of an operation is held by it
pub own_region : (t : Tree) → IsTree t → (op r : ℕ) → In r (regions_of t op) → IsHeld t op r
own_region t w op r i =
    let x = slice_in (regions_of t op) r i in
    let slot = w.joined.regions op x.0 r x.1 in
    record { holder = op; held = region_parent_is t r (record { op = op; index = x.0 }) slot; liveness = region_by t r (record { op = op; index = x.0 }) slot x.1; within = inl refl }

pub operation_lasts : (op : ℕ) → IsLasting (OfOperation op) op
operation_lasts op = record {
  operands = λ t xs r i. i;
  forth = λ u v a b jump region front w wv s edges starts in_region visited r i. subst (In r) (sym (spliced_regions u v wv a b jump front s op)) i;
  back = λ u v a b jump region front w wv s edges starts in_region visited r i. subst (In r) (spliced_regions u v wv a b jump front s op) i;
}

pub region_lasts : (region root : ℕ) → IsLasting (OfRegion region) root
region_lasts region root = record {
  operands = λ t xs r e. e;
  forth = λ u v a b jump inner front w wv s edges starts in_region visited r e. e;
  back = λ u v a b jump inner front w wv s edges starts in_region visited r e. e;
}

module _ (m : Meaning) (can_fold : Head → Bool) (SameTests : Head → Head → Type 0) (shortened : Shape → ℕ → ℕ → Head) (law : ForwardsOperands m can_fold SameTests shortened) (start : Start) (root : ℕ) (lasting : IsLasting start root) (t : Tree) (w : IsTree t) (live : IsLive t root) (linked : IsWellLinked m t root) (starts : (r : ℕ) → start t r → IsHeld t root r) (rs blocks : List ℕ) (visits : AreVisits t (start t) rs blocks) where
  held : (r : ℕ) → IsVisited t (start t) r → IsHeld t root r
  held = visited_held t w root linked.edges (start t) starts

  open_of : (c : ℕ) → In c blocks → IsOpen start t c
  open_of c i =
      let x = (visits.blocks c).0 i in
      record { region = x.0; searched = (x.1, x.2); in_region = reached_in t w root linked.edges x.0 c (held x.0 x.1) x.3; reached = x.3 }

  listed_of : (c : ℕ) → IsOpen start t c → In c blocks
  listed_of c o = (visits.blocks c).1 (o.region, o.searched.0, o.searched.1, o.reached)

  near : (r : ℕ) → (h : IsHeld t root r) → IsWellLinked m t h.holder
  near r h = elim h.within [ inl e ↦ subst (IsWellLinked m t) (sym e) linked | inr i ↦ linked_inside m t root h.holder i linked ]

  pub all_linked : AreLinked m blocks t
  all_linked c holder i e =
      let o = open_of c i in
      let h = held o.region o.searched.0 in
      subst (IsWellLinked m t) (some_is (sym (block_holder_from t c o.region o.in_region ∙ h.held) ∙ e)) (near o.region h)

  record IsWhole (u : Tree) : Type 0 where
    tree : IsTree u
    some : MergesSome start m t u
    begins : (r : ℕ) → start u r → IsHeld u root r
    forth : (c : ℕ) → In c blocks → IsBlock u c → IsOpen start u c
    back : (c : ℕ) → IsOpen start u c → In c blocks
    cut : (c : ℕ) → IsUnreachable start u c → IsUnreachable start t c
    were : (c : ℕ) → IsBlock u c → IsBlock t c
    lives : (k : ℕ) → IsLive u k → IsLive t k
    went : (u ≡ t) ⊎ ((k : ℕ) × IsLive t k × (head_of u k ≡ None))
    change : IsWholeChange m t u root

  whole : (u : Tree) → MergesAmong m blocks t u → IsWhole u
  whole u Nothing = record { tree = w; some = NoneMerged; begins = starts; forth = λ c i is. open_of c i; back = listed_of; cut = λ c x. x; were = λ c is. is; lives = λ k l. l; went = inl refl; change = whole_refl m t root live linked }
  whole u (Then {u = x} a b jump values before listed pair tree well) =
      let r = whole x before in
      let opened = r.forth a listed (ap is_some (first_held m x r.tree a b jump values pair).2) in
      let k = kept m can_fold SameTests shortened law start root lasting x a b jump values r.tree r.change.liveness r.change.linked r.begins opened pair well tree in
      record {
        tree = tree;
        some = OneMerged a b jump values r.some (due_of start m x a b jump values opened pair);
        begins = k.starts;
        forth = λ c i is. k.forth c (r.forth c i (k.were c is)) is;
        back = λ c o. r.back c (k.back c o);
        cut = λ c y. r.cut c (k.cut c y);
        were = λ c is. r.were c (k.were c is);
        lives = λ j l. r.lives j (k.lives j l);
        went = inr (jump, r.lives jump (jump_live m can_fold SameTests shortened law start root lasting x a b jump values r.tree r.change.liveness r.change.linked r.begins opened pair well tree), jump_gone m can_fold SameTests shortened law start root lasting x a b jump values r.tree r.change.liveness r.change.linked r.begins opened pair well tree);
        change = whole_trans m t x (after_block_merging x a b jump values) root r.change k.change;
      }

  -- no unreachable block and no block is new
  pub none_new : (u : Tree) → MergesAmong m blocks t u → (c : ℕ) → IsUnreachable start u c → IsUnreachable start t c
  none_new u way = (whole u way).cut

  pub no_block_new : (u : Tree) → MergesAmong m blocks t u → (c : ℕ) → IsBlock u c → IsBlock t c
  no_block_new u way = (whole u way).were

  -- where there was a pair, a branch went
  pub branch_went : (u : Tree) (s : IRStatus) → MergesAmong m blocks t u × HasNoPairAmong m blocks u × ReportsMerged m blocks t u s → LosesOperation s t u
  branch_went u Unchanged x = tt
  branch_went u Changed (way, none, accurate) = ⊎_elim (λ same. absurd (none accurate.0 accurate.1 accurate.2 accurate.3 accurate.4 (subst (λ (z : Tree). IsMergeable m z accurate.0 accurate.1 accurate.2 accurate.3) (sym same) accurate.5))) (λ y. y) (whole u way).went

  -- one pair more, in part
  half : (u v : Tree) → MergesAmong m blocks t u → IsHalfMergedAmong m blocks u v → IsHalfMerged start m u v × IsWholeChange m t v root × KeepsLinks m u v
  half u v way x =
      let r = whole u way in
      let opened = r.forth x.a x.listed (ap is_some (first_held m u r.tree x.a x.b x.jump x.values x.pair).2) in
      let h = visited_held u r.tree root r.change.linked.edges (start u) r.begins opened.region opened.searched.0 in
      let there : block_parent_operation_of u x.a ≡ Some h.holder = block_holder_from u x.a opened.region opened.in_region ∙ h.held in
      let close : IsWellLinked m u h.holder = elim h.within [ inl e ↦ subst (IsWellLinked m u) (sym e) r.change.linked | inr i ↦ linked_inside m u root h.holder i r.change.linked ] in
      let f = forwarded_first m can_fold SameTests shortened law h.holder x.a x.b x.jump x.values u x.n r.tree close there x.pair in
      let wide : IsInsideChange u (forwarded_uses u (take x.n (arguments_of u x.b)) x.values) root = elim h.within [ inl e ↦ subst (IsInsideChange u (forwarded_uses u (take x.n (arguments_of u x.b)) x.values)) e f.inside | inr i ↦ widen u (forwarded_uses u (take x.n (arguments_of u x.b)) x.values) root h.holder r.tree.joined i f.inside ] in
      let change : IsWholeChange m u (forwarded_uses u (take x.n (arguments_of u x.b)) x.values) root = record { liveness = (wide.operations root (outside_itself r.tree.joined.rooted r.change.liveness)).0.0; linked = f.links root r.change.linked; inside = wide; runs = f.runs } in
      (record { a = x.a; b = x.b; jump = x.jump; values = x.values; due = due_of start m u x.a x.b x.jump x.values opened x.pair; n = x.n; forwarded = x.forwarded }, whole_trans m t u v root r.change (subst (λ (z : Tree). IsWholeChange m u z root) (sym x.forwarded) change), subst (λ (z : Tree). KeepsLinks m u z) (sym x.forwarded) f.links)

  pub partly : (v : Tree) → MergesAmongPartly m blocks t v → MergesPartly start m t v
  partly v (inl way) = inl (whole v way).some
  partly v (inr (u, way, x)) = inr (u, (whole u way).some, (half u v way x).0)

  pub partly_change : (v : Tree) → MergesAmongPartly m blocks t v → IsWholeChange m t v root
  partly_change v (inl way) = (whole v way).change
  partly_change v (inr (u, way, x)) = (half u v way x).1

  pub partly_links : (v : Tree) → MergesAmongPartly m blocks t v → KeepsLinks m t v
  partly_links v (inl way) = (chain m can_fold SameTests shortened law blocks t v w all_linked way).links
  partly_links v (inr (u, way, x)) = λ r l. (half u v way x).2 r ((chain m can_fold SameTests shortened law blocks t u w all_linked way).links r l)

  pub all_merged : (v : Tree) (s : IRStatus) → MergesAmong m blocks t v × HasNoPairAmong m blocks v × ReportsMerged m blocks t v s → MergesAll start m t v s
  all_merged v Changed (way, none, accurate) =
      let r = whole v way in
      ((accurate.0, accurate.1, accurate.2, accurate.3, due_of start m t accurate.0 accurate.1 accurate.2 accurate.3 (open_of accurate.0 accurate.4) accurate.5), r.some, λ p. none p.0 p.1 p.2 p.3 (r.back p.0 (record { region = p.4.region; searched = p.4.searched; in_region = p.4.in_region; reached = p.4.reached })) p.4.pair)
  all_merged v Unchanged (way, none, accurate) = (accurate, λ p. none p.0 p.1 p.2 p.3 (listed_of p.0 (record { region = p.4.region; searched = p.4.searched; in_region = p.4.in_region; reached = p.4.reached })) (subst (λ (z : Tree). IsMergeable m z p.0 p.1 p.2 p.3) (sym accurate) p.4.pair))

-- what stands, whatever the answer
pub either_way : {E : Type 0} (m : Meaning) (blocks : List ℕ) (t v : Tree) (r : Result IRStatus E) → IfOk r (λ s. MergesAmong m blocks t v × HasNoPairAmong m blocks v × ReportsMerged m blocks t v s) → OnErr r (MergesAmongPartly m blocks t v) → MergesAmongPartly m blocks t v
either_way m blocks t v (Ok s) x y = inl x.0
either_way m blocks t v (Err e) x y = y

pub ok_whole : {A E : Type 0} {Q : Type 0} (r : Result A E) (P : A → Type 0) → ((a : A) → P a → Q) → IfOk r P → OnOk r Q
ok_whole (Ok a) P f x = f a x
ok_whole (Err e) P f x = tt

pub err_weaker : {A E : Type 0} (r : Result A E) {P Q : Type 0} → (P → Q) → OnErr r P → OnErr r Q
err_weaker (Ok a) f x = tt
err_weaker (Err e) f x = f x

-- where a call on a region starts
pub region_starts : (t : Tree) (region root : ℕ) → IsRegion t region → region_parent_of t region ≡ Some root → (r : ℕ) → r ≡ region → IsHeld t root r
region_starts t region root is e r same = subst (IsHeld t root) (sym same) (record { holder = root; held = e; liveness = is; within = inl refl })
