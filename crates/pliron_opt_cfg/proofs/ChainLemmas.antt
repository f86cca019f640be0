-- Merges one after the other.
use Rattle.std.proofs.Common.{◌≡◌, ◌⊎◌, inl, inr, ⊎_elim, ℕ, zero, suc, ◌<◌, Bool, List, [], ◌∷◌, length, take, Some, is_some, slice_get, refl, sym, ap, ◌∙◌, subst, arith}
use Rattle.std.proofs.lemmas.Bool.{cases_eq}
use Rattle.pliron_core.specs.declared.attrs.IRStatus.{IRStatus}
use Rattle.pliron_core.specs.declared.attrs.IRStatus.TheVariants.{Changed, Unchanged}
use Rattle.pliron_core.specs.Status.{changed_by_either}
use Rattle.pliron_core.specs.Edges.{blocks_in}
use Rattle.pliron_core.specs.Tree.{Tree, In, IsBlock, arguments_of, block_parent_of, block_parent_operation_of}
use Rattle.pliron_core.specs.Invariant.{IsTree}
use Rattle.pliron_core.proofs.HoldingLemmas.{some_is, not_none}
use Rattle.pliron_laws.specs.Datum.{Head, Shape, Meaning}
use Rattle.pliron_laws.specs.Laws.{ForwardsOperands}
use Rattle.pliron_laws.specs.Linked.{IsWellLinked}
use Rattle.pliron_theory.specs.Keeps.{KeepsAllRuns}
use Rattle.pliron_theory.proofs.WholeChanges.{all_refl, all_trans}
use Rattle.pliron_rewrite_blocks.specs.Links.{KeepsLinks}
use Rattle.pliron_rewrite_blocks.specs.Joining.{JoinsWell}
use Rattle.pliron_rewrite_blocks.specs.Pairs.{IsMergeable, forwarded_uses, after_block_merging}
use Rattle.pliron_opt_cfg.specs.Internal.Chains.{MergesAmong, MergesAmong.Nothing, MergesAmong.Then, HasNoPairAmong, ReportsMerged, MergesAmongPartly}
use Rattle.pliron_opt_cfg.proofs.PairLemmas.{second_beside, way_jump, way_of_pair}
use Rattle.pliron_opt_cfg.proofs.MergedTrees.{IsMerge, merges, first_held}

-- what holds these blocks is well linked
abbrev pub AreLinked : Meaning → List ℕ → Tree → Type 0
AreLinked m blocks t = (c holder : ℕ) → In c blocks → block_parent_operation_of t c ≡ Some holder → IsWellLinked m t holder

pub record ChainKeeps (m : Meaning) (t u : Tree) : Type 0 where
  pub tree : IsTree u
  pub runs : KeepsAllRuns m t u
  pub links : KeepsLinks m t u
  pub blocks : (c k : ℕ) → block_parent_operation_of u c ≡ Some k → block_parent_operation_of t c ≡ Some k

pub linked_still : (m : Meaning) (t u : Tree) (blocks : List ℕ) → ChainKeeps m t u → AreLinked m blocks t → AreLinked m blocks u
linked_still m t u blocks k linked c holder i e = k.links holder (linked c holder i (k.blocks c holder e))

pub longer : (m : Meaning) (blocks few : List ℕ) (t u v : Tree) → ((c : ℕ) → In c few → In c blocks) → MergesAmong m blocks t u → MergesAmong m few u v → MergesAmong m blocks t v
longer m blocks few t u v more way Nothing = way
longer m blocks few t u v more way (Then {u = x} a b jump values before listed pair tree well) = Then a b jump values (longer m blocks few t u x more way before) (more a listed) pair tree well

module _ (m : Meaning) (can_fold : Head → Bool) (SameTests : Head → Head → Type 0) (shortened : Shape → ℕ → ℕ → Head) (law : ForwardsOperands m can_fold SameTests shortened) (blocks : List ℕ) where
  -- one more merge
  pub one_merge : (t u : Tree) → AreLinked m blocks t → ChainKeeps m t u → (a b jump : ℕ) (values : List ℕ) → In a blocks → IsMergeable m u a b jump values → IsTree (after_block_merging u a b jump values) → JoinsWell m (forwarded_uses u (arguments_of u b) values) a b jump → IsMerge m u (after_block_merging u a b jump values) a b
  one_merge t u linked k a b jump values listed pair tree well =
      merges m can_fold SameTests shortened law a b jump values u k.tree pair (λ holder e. linked_still m t u blocks k linked a holder listed e) well tree

  pub chain : (t u : Tree) → IsTree t → AreLinked m blocks t → MergesAmong m blocks t u → ChainKeeps m t u
  chain t u w linked Nothing = record { tree = w; runs = all_refl m t; links = λ root l. l; blocks = λ c k e. e }
  chain t u w linked (Then {u = x} a b jump values before listed pair tree well) =
      let k = chain t x w linked before in
      let o = one_merge t x linked k a b jump values listed pair tree well in
      record {
        tree = tree;
        runs = all_trans m t x (after_block_merging x a b jump values) k.runs o.runs;
        links = λ root l. o.links root (k.links root l);
        blocks = λ c j e. k.blocks c j (o.blocks c j e);
      }

  -- no merge makes another block the first of a pair
  pub none_still : (done : List ℕ) (t u : Tree) → IsTree t → AreLinked m blocks t → AreLinked m done t → MergesAmong m blocks t u → HasNoPairAmong m done t → HasNoPairAmong m done u
  none_still done t u w linked held Nothing none = none
  none_still done t u w linked held (Then {u = x} a b jump values before listed pair tree well) none =
      let k = chain t x w linked before in
      let o = one_merge t x linked k a b jump values listed pair tree well in
      let there = none_still done t x w linked held before none in
      λ c d j vs i q. ⊎_elim
      (λ e. there a b jump values (subst (λ z. In z done) e i) pair)
      (λ ne.
      let is = first_held m (after_block_merging x a b jump values) tree c d j vs q in
      let all = (λ (holder : ℕ) (e : block_parent_operation_of (after_block_merging x a b jump values) c ≡ Some holder). (o.links holder (k.links holder (held c holder i (k.blocks c holder (o.blocks c holder e))))).edges) in
      let z = way_jump m (after_block_merging x a b jump values) c d j j (way_of_pair m (after_block_merging x a b jump values) c d j vs q) (sym q.ends) in
      let beside = second_beside (after_block_merging x a b jump values) tree c d j (ap is_some is.2) all (sym q.ends) z.1 in
      let y = o.before c d j vs ne beside q in
      there c d j y.0 i y.1)
      (cases_eq c a)

pub tells_more : (m : Meaning) (blocks few : List ℕ) (t u v : Tree) (s r : IRStatus) → ((c : ℕ) → In c few → In c blocks) → ReportsMerged m blocks t u s → ReportsMerged m few u v r → ReportsMerged m blocks t v (changed_by_either s r)
tells_more m blocks few t u v Changed r more x y = x
tells_more m blocks few t u v Unchanged Changed more x y = (y.0, y.1, y.2, y.3, more y.0 y.4, subst (λ (z : Tree). IsMergeable m z y.0 y.1 y.2 y.3) x y.5)
tells_more m blocks few t u v Unchanged Unchanged more x y = y ∙ x

pub tells_pair : (m : Meaning) (blocks : List ℕ) (t u v : Tree) (s : IRStatus) (a b jump : ℕ) (values : List ℕ) → ReportsMerged m blocks t u s → In a blocks → IsMergeable m u a b jump values → ReportsMerged m blocks t v Changed
tells_pair m blocks t u v Changed a b jump values x i q = x
tells_pair m blocks t u v Unchanged a b jump values x i q = (a, b, jump, values, i, subst (λ (z : Tree). IsMergeable m z a b jump values) x q)

-- a front part of a list that has one more
pub take_more : (xs : List ℕ) (n c x : ℕ) → slice_get xs n ≡ Some x → In c (take (suc n) xs) → (c ≡ x) ⊎ In c (take n xs)
take_more [] n c x e i = absurd (not_none e)
take_more (y ∷ ys) zero c x e (inl f) = inl (f ∙ some_is e)
take_more (y ∷ ys) zero c x e (inr i) = absurd (none ys i)
  where
    none : (zs : List ℕ) → In c (take 0 zs) → ⊥
    none [] j = j
    none (z ∷ zs) j = j
take_more (y ∷ ys) (suc n) c x e (inl f) = inr (inl f)
take_more (y ∷ ys) (suc n) c x e (inr i) = ⊎_elim (λ s. inl s) (λ j. inr (inr j)) (take_more ys n c x e i)

pub in_take : (n : ℕ) (xs : List ℕ) (c : ℕ) → In c (take n xs) → In c xs
in_take zero [] c i = i
in_take zero (y ∷ ys) c i = absurd i
in_take (suc n) [] c i = i
in_take (suc n) (y ∷ ys) c (inl e) = inl e
in_take (suc n) (y ∷ ys) c (inr i) = inr (in_take n ys c i)

pub one_in : (a : ℕ) (blocks : List ℕ) → In a blocks → (c : ℕ) → In c (a ∷ []) → In c blocks
one_in a blocks i c (inl e) = subst (λ z. In z blocks) (sym e) i
one_in a blocks i c (inr j) = absurd j

-- the layout of the first block's region gets shorter
pub fewer_blocks : (m : Meaning) (t v : Tree) (a b : ℕ) → IsMerge m t v a b → length (blocks_in v (block_parent_of v a)) < length (blocks_in t (block_parent_of t a))
fewer_blocks m t v a b o =
    let s = o.shorter in
    let x = ap (λ p. length (blocks_in v p)) (o.first ∙ o.in_region) in
    let y = ap (λ p. length (blocks_in t p)) o.in_region in
    omega (arith, s, x, y)

pub half_among : (m : Meaning) (blocks few : List ℕ) (t u v : Tree) → ((c : ℕ) → In c few → In c blocks) → MergesAmong m blocks t u → MergesAmongPartly m few u v → MergesAmongPartly m blocks t v
half_among m blocks few t u v more way (inl x) = inl (longer m blocks few t u v more way x)
half_among m blocks few t u v more way (inr x) = inr (x.0, longer m blocks few t u x.0 more way x.1, record { a = x.2.a; b = x.2.b; jump = x.2.jump; values = x.2.values; listed = more x.2.a x.2.listed; pair = x.2.pair; n = x.2.n; forwarded = x.2.forwarded })

pub linked_one : (m : Meaning) (t : Tree) (first : ℕ) → ((holder : ℕ) → block_parent_operation_of t first ≡ Some holder → IsWellLinked m t holder) → AreLinked m (first ∷ []) t
linked_one m t first linked c holder (inl e) h = linked holder (ap (block_parent_operation_of t) (sym e) ∙ h)
linked_one m t first linked c holder (inr i) h = absurd i

-- one more merge at a block
pub record IsStep (m : Meaning) (first : ℕ) (t u v : Tree) : Type 0 where
  pub way : MergesAmong m (first ∷ []) t v
  pub accurate : ReportsMerged m (first ∷ []) t v Changed
  pub block : IsBlock v first
  pub linked : (holder : ℕ) → block_parent_operation_of v first ≡ Some holder → IsWellLinked m v holder
  pub smaller : length (blocks_in v (block_parent_of v first)) < length (blocks_in u (block_parent_of u first))

module _ (m : Meaning) (can_fold : Head → Bool) (SameTests : Head → Head → Type 0) (shortened : Shape → ℕ → ℕ → Head) (law : ForwardsOperands m can_fold SameTests shortened) (first : ℕ) where
  step_here : (t u : Tree) (s : IRStatus) (b jump : ℕ) (values : List ℕ) → IsTree t → AreLinked m (first ∷ []) t → MergesAmong m (first ∷ []) t u → ReportsMerged m (first ∷ []) t u s → IsMergeable m u first b jump values → IsTree (after_block_merging u first b jump values) → JoinsWell m (forwarded_uses u (arguments_of u b) values) first b jump → IsStep m first t u (after_block_merging u first b jump values)
  step_here t u s b jump values w linked way accurate pair tree well =
      let k = chain m can_fold SameTests shortened law (first ∷ []) t u w linked way in
      let o = one_merge m can_fold SameTests shortened law (first ∷ []) t u linked k first b jump values (inl refl) pair tree well in
      record {
        way = Then first b jump values way (inl refl) pair tree well;
        accurate = tells_pair m (first ∷ []) t u (after_block_merging u first b jump values) s first b jump values accurate (inl refl) pair;
        block = ap is_some (o.first ∙ o.in_region);
        linked = λ holder e. o.links holder (k.links holder (linked first holder (inl refl) (k.blocks first holder (o.blocks first holder e))));
        smaller = fewer_blocks m u (after_block_merging u first b jump values) first b o;
      }

  pub step_at : (t u v : Tree) (s : IRStatus) (a b jump : ℕ) (values : List ℕ) → IsTree t → AreLinked m (first ∷ []) t → MergesAmong m (first ∷ []) t u → ReportsMerged m (first ∷ []) t u s → IsMergeable m u first b jump values × (a ≡ first) → IsTree v → v ≡ after_block_merging u a b jump values → JoinsWell m (forwarded_uses u (arguments_of u b) values) a b jump → IsStep m first t u v
  step_at t u v s a b jump values w linked way accurate found wv e well =
      let whole : v ≡ after_block_merging u first b jump values = e ∙ ap (λ z. after_block_merging u z b jump values) found.1 in
      subst (IsStep m first t u) (sym whole) (step_here t u s b jump values w linked way accurate found.0 (subst IsTree whole wv) (subst (λ z. JoinsWell m (forwarded_uses u (arguments_of u b) values) z b jump) found.1 well))

-- one block more is done
pub record IsDone (m : Meaning) (blocks : List ℕ) (n : ℕ) (t u : Tree) (s : IRStatus) : Type 0 where
  pub way : MergesAmong m blocks t u
  pub accurate : ReportsMerged m blocks t u s
  pub none : HasNoPairAmong m (take (suc n) blocks) u

pub moved_to : (m : Meaning) (blocks : List ℕ) (n : ℕ) (t u v : Tree) (s r : IRStatus) → IsDone m blocks n t u s → v ≡ u → r ≡ s → IsDone m blocks n t v r
moved_to m blocks n t u v s r d e f = subst (λ (z : Tree). IsDone m blocks n t z r) (sym e) (subst (λ z. IsDone m blocks n t u z) (sym f) d)

-- a block that stands no more is no first of a pair
pub done_dead : (m : Meaning) (blocks : List ℕ) (n c : ℕ) (t u : Tree) (s : IRStatus) → IsTree u → slice_get blocks n ≡ Some c → (IsBlock u c → ⊥) → MergesAmong m blocks t u → ReportsMerged m blocks t u s → HasNoPairAmong m (take n blocks) u → IsDone m blocks n t u s
done_dead m blocks n c t u s w at dead way accurate none = record {
  way = way;
  accurate = accurate;
  none = λ a b jump values i q. ⊎_elim (λ e. dead (subst (IsBlock u) e (ap is_some (first_held m u w a b jump values q).2))) (λ j. none a b jump values j q) (take_more blocks n a c at i);
}

module _ (m : Meaning) (can_fold : Head → Bool) (SameTests : Head → Head → Type 0) (shortened : Shape → ℕ → ℕ → Head) (law : ForwardsOperands m can_fold SameTests shortened) where
  pub done_more : (blocks : List ℕ) (n c : ℕ) (t u v : Tree) (s r : IRStatus) → IsTree t → AreLinked m blocks t → IsTree u → slice_get blocks n ≡ Some c → In c blocks → MergesAmong m blocks t u → ReportsMerged m blocks t u s → HasNoPairAmong m (take n blocks) u → MergesAmong m (c ∷ []) u v → HasNoPairAmong m (c ∷ []) v → ReportsMerged m (c ∷ []) u v r → IsDone m blocks n t v (changed_by_either s r)
  done_more blocks n c t u v s r w linked wu at listed way accurate none more here reported =
      let k = chain m can_fold SameTests shortened law blocks t u w linked way in
      let all = linked_still m t u blocks k linked in
      let still = none_still m can_fold SameTests shortened law (c ∷ []) (take n blocks) u v wu (λ d holder i e. all d holder (one_in c blocks listed d i) e) (λ d holder i e. all d holder (in_take n blocks d i) e) more none in
      record {
        way = longer m blocks (c ∷ []) t u v (one_in c blocks listed) way more;
        accurate = tells_more m blocks (c ∷ []) t u v s r (one_in c blocks listed) accurate reported;
        none = λ a b jump values i q. ⊎_elim (λ e. here a b jump values (inl e) q) (λ j. still a b jump values j q) (take_more blocks n a c at i);
      }

  pub linked_there : (blocks : List ℕ) (t u : Tree) → IsTree t → AreLinked m blocks t → MergesAmong m blocks t u → AreLinked m blocks u
  linked_there blocks t u w linked way = linked_still m t u blocks (chain m can_fold SameTests shortened law blocks t u w linked way) linked
