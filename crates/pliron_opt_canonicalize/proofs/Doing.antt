-- What holds on the way, as one value after the other folds.
use Rattle.std.proofs.Common.{◌≡◌, ◌≢◌, ◌⊎◌, ◌↔◌, ◌&&◌, ◌<◌, ◌≤◌, ◌+◌, ℕ, Bool, true, false, List, [], ◌∷◌, ◌++◌, length, Option, Some, IsSome, IsTrue, inl, inr, ⊎_elim, slice_get, get_or, if◌then◌else◌, refl, sym, ap, ◌∙◌, subst, true≢false, arith}
use Rattle.std.proofs.lemmas.Option.{slice_get-get_or, slice_get_within}
use Rattle.pliron_core.specs.declared.attrs.IRStatus.{IRStatus}
use Rattle.pliron_core.specs.declared.attrs.IRStatus.TheVariants.{Changed, Unchanged}
use Rattle.pliron_core.specs.declared.context.Def.TheVariants.{Argument, Result}
use Rattle.pliron_core.specs.Changes.{IsSameTree}
use Rattle.pliron_core.specs.Invariant.{IsTree}
use Rattle.pliron_core.specs.Status.{changed_by_either}
use Rattle.pliron_core.specs.Tree.{Tree, In, HoldsBlock, IsInside, IsLive, arguments_of, block_parent_of, operands_of, results_of, definition_of}
use Rattle.pliron_core.specs.Writes.{after_replacing}
use Rattle.pliron_core.proofs.HoldingLemmas.{in_slice, some_is}
use Rattle.pliron_core.proofs.WithinLemmas.{block_holder_from}
use Rattle.pliron_core.specs.declared.attrs.AttrObj.{AttrObj}
use Rattle.pliron_laws.specs.Datum.{Head, Meaning, Shape}
use Rattle.pliron_laws.specs.Folding.{AnswersTrue, Constants, MakesConstants}
use Rattle.pliron_laws.specs.Laws.{ForwardsOperands, GivesAtOnce}
use Rattle.pliron_laws.specs.Linked.{IsWellLinked}
use Rattle.pliron_theory.proofs.FollowedFacts.{constants_plain}
use Rattle.pliron_laws.specs.OperandFolding.{AnswersOperands, OperandFolds}
use Rattle.pliron_opt_canonicalize.proofs.Parts.{folding}
use Rattle.pliron_laws.proofs.LinkedLemmas.{linked_same}
use Rattle.pliron_rewrite_blocks.proofs.RewriteLinks.{replaced_links}
use Rattle.pliron_theory.specs.Change.{IsWholeChange}
use Rattle.pliron_theory.specs.Edges.{has_entries}
use Rattle.pliron_theory.proofs.EdgeLemmas.{edges_same, edges_transitive}
use Rattle.pliron_theory.proofs.WholeChanges.{same_whole, whole_refl, whole_trans}
use Rattle.pliron_laws.specs.declared.operand_folds.OpFoldResult.{OpFoldResult}
use Rattle.pliron_laws.specs.declared.operand_folds.OpFoldResult.TheVariants.{Operand, Constant}
use Rattle.pliron_rewrite_operands.specs.Answers.{Folding}
use Rattle.pliron_rewrite_operands.specs.Answered.{after_folding}
use Rattle.pliron_rewrite_operands.proofs.Answered.{AreLawful}
use Rattle.pliron_rewrite_operands.proofs.Whole.{answer_changes, answer_within, constant_links}
use Rattle.pliron_rewrite_arguments.specs.ArgumentLaws.{OneValueChanges}
use Rattle.pliron_rewrite_arguments.specs.OneValue.{IsOneValue, ReplacesByValue}
use Rattle.pliron_rewrite_arguments.proofs.ArgumentEdges.{source, source_uses, made as argument_made}
use Rattle.pliron_graph_order.specs.Seen.{IsSeen, IsUsed}
use Rattle.pliron_graph_order.proofs.SeenLemmas.{seen_inside, visited_within}
use Rattle.pliron_opt_canonicalize.specs.Counts.{foldable_count, counts_as_foldable, is_foldable, is_used}
use Rattle.pliron_opt_canonicalize.specs.Folds.{Fold, OfArgument, OfResult, FoldInTurn, FoldsTo, HasFolds, IsArgumentFold, IsFold, IsSeenBlock, ReportsFolds}
use Rattle.pliron_opt_canonicalize.specs.Sites.{AreListed, IsAmong, IsLiveSite, IsSeenAt, index_of, site_of, values_at}
use Rattle.pliron_opt_canonicalize.specs.declared.sites.Site.{Site}
use Rattle.pliron_opt_canonicalize.specs.declared.sites.Site.TheVariants.{Arguments, Results}
use Rattle.pliron_opt_canonicalize.specs.Steps.{AreDone, AreDonePartly, FoldsArgument, FoldsResult, IsFolding, IsFoldingOnWay, IsSeenStill, IsUndone, CountsFolds}
use Rattle.pliron_opt_canonicalize.proofs.Counting.{used_told}
use Rattle.pliron_opt_canonicalize.proofs.Moving.{Moves, blocks_seen, count_lessened, edges_kept, empty, live, moves_to_constant, moves_to_used, same_results, seen_back, seen_forth}

pub seen_still : (t t' : Tree) (root : ℕ) → IsSeenStill t t' root → (site : Site) → IsSeenAt t root site → IsSeenAt t' root site
seen_still t t' root s (Arguments block) x = (s.blocks block).1 x
seen_still t t' root s (Results k) x = s.seen k x

pub live_site : (t : Tree) (root : ℕ) → IsTree t → (site : Site) → IsSeenAt t root site → IsLiveSite t site
live_site t root w (Arguments block) x = (w.joined.all_in_place x.0 block x.2).1
live_site t root w (Results k) x = (w.joined.all_in_place k x.block x.in_block).0

pub values_still : (t t' : Tree) (root : ℕ) → IsTree t → IsSeenStill t t' root → (site : Site) → IsSeenAt t root site → values_at t' site ≡ values_at t site
values_still t t' root w s (Arguments block) x = s.arguments block
values_still t t' root w s (Results k) x = s.results k (live_site t root w (Results k) x)

pub same_listed : (t t' : Tree) (root : ℕ) (sites : List Site) → IsSeenStill t t' root → AreListed t root sites → AreListed t' root sites
same_listed t t' root sites s l = record {
  seen = λ j site at. seen_still t t' root s site (l.seen j site at);
  blocks = λ block seen. l.blocks block ((s.blocks block).0 seen);
  operations = λ k seen. ⊎_elim (λ before. ⊎_elim (λ i. inl i) (λ e. inr (s.empty k e)) (l.operations k before)) (λ e. inr e) (s.before k seen);
}

still_refl : (t : Tree) (root : ℕ) → IsSeenStill t t root
still_refl t root = record { seen = λ k s. s; before = λ k s. inl s; blocks = λ block. (λ s. s, λ s. s); empty = λ k e. e; results = λ k l. refl; arguments = λ block. refl }

still_trans : (t0 t t' : Tree) (root : ℕ) → ((k : ℕ) → IsLive t0 k → IsLive t k) → IsSeenStill t0 t root → IsSeenStill t t' root → IsSeenStill t0 t' root
still_trans t0 t t' root stays a b = record {
  seen = λ k s. b.seen k (a.seen k s);
  before = λ k s. ⊎_elim (λ before. ⊎_elim (λ first. inl first) (λ e. inr (b.empty k e)) (a.before k before)) (λ e. inr e) (b.before k s);
  blocks = λ block. (λ s. (a.blocks block).0 ((b.blocks block).0 s), λ s. (b.blocks block).1 ((a.blocks block).1 s));
  empty = λ k e. b.empty k (a.empty k e);
  results = λ k l. b.results k (stays k l) ∙ a.results k l;
  arguments = λ block. b.arguments block ∙ a.arguments block;
}

filled : (xs : List ℕ) → xs ≢ [] → has_entries xs ≡ true
filled [] ne = absurd (ne refl)
filled (x ∷ xs) ne = refl

both_true : (a b : Bool) → a ≡ true → b ≡ true → (a && b) ≡ true
both_true true b e f = f
both_true false b e f = grind (arith, e)

neither : (s a : IRStatus) → changed_by_either s a ≡ Unchanged → (s ≡ Unchanged) × (a ≡ Unchanged)
neither Changed a e = absurd (cc e)
neither Unchanged a e = (refl, e)

pub same_itself : (t : Tree) → IsSameTree t t
same_itself t = record { operations = λ k. refl; operands = λ k. refl; successors = λ k. refl; parents = λ k. refl; bodies = λ b. refl; arguments = λ b. refl; block_parents = λ b. refl; layouts = λ r. refl }

module _ (x : Folding) (root : ℕ) where
  turn_more : (fs gs : List Fold) (t u t' : Tree) → FoldInTurn x root fs t u → FoldInTurn x root gs u t' → FoldInTurn x root (fs ++ gs) t t'
  turn_more [] gs t u t' e more = subst (λ z. FoldInTurn x root gs z t') e more
  turn_more (f ∷ fs) gs t u t' turn more = (turn.0, turn.1, turn_more fs gs turn.0 u t' turn.2 more)

  tells_unchanged : (t0 t : Tree) (s : IRStatus) → CountsFolds x t0 t root s → s ≡ Unchanged → t ≡ t0
  tells_unchanged t0 t Unchanged reported e = reported
  tells_unchanged t0 t Changed reported e = absurd (cc e)

  tells_trans : (t0 t t' : Tree) (s a : IRStatus) → CountsFolds x t0 t root s → CountsFolds x t t' root a → CountsFolds x t0 t' root (changed_by_either s a)
  tells_trans t0 t t' Unchanged Unchanged p q = q ∙ p
  tells_trans t0 t t' Unchanged Changed p q = subst (λ z. CountsFolds x z t' root Changed) p q
  tells_trans t0 t t' Changed Unchanged p q = subst (λ z. CountsFolds x t0 z root Changed) (sym q) p
  tells_trans t0 t t' Changed Changed p q = let a = p.0 in let b = q.0 in (omega (arith, a, b), p.1)

  pub tells_fewer : (t0 t : Tree) (s : IRStatus) → CountsFolds x t0 t root s → foldable_count t ≤ foldable_count t0
  tells_fewer t0 t Unchanged e = subst (λ z. foldable_count z ≤ foldable_count t0) (sym e) (omega arith)
  tells_fewer t0 t Changed e = let lt = e.0 in omega (arith, lt)

  pub tells_same : (t0 t : Tree) (s : IRStatus) → CountsFolds x t0 t root s → (s ≡ Unchanged) ↔ (t ≡ t0)
  tells_same t0 t Unchanged e = (λ q. e, λ q. refl)
  tells_same t0 t Changed e = (λ q. absurd (cc q), λ q. let lt = subst (λ z. foldable_count z < foldable_count t0) q e.0 in absurd (omega (arith, lt)))

  way_trans : (t0 t t' : Tree) → IsFoldingOnWay x.meaning t0 t root → IsFoldingOnWay x.meaning t t' root → IsFoldingOnWay x.meaning t0 t' root
  way_trans t0 t t' a b = record {
    change = whole_trans x.meaning t0 t t' root a.change b.change;
    links = λ r l. b.links r (a.links r l);
    edges = edges_transitive t0 t t' (λ op before after. a.stays op before) a.edges b.edges;
    stays = λ k l. b.stays k (a.stays k l);
  }

  module _ (t : Tree) (lives : IsLive t root) (linked : IsWellLinked x.meaning t root) where
    way_refl : IsFoldingOnWay x.meaning t t root
    way_refl = record { change = whole_refl x.meaning t root lives linked; links = λ r l. l; edges = λ op a b. refl; stays = λ k l. l }

    pub done_start : (Done : Fold → Type 0) → ((f : Fold) (u : Tree) → Done f → FoldsTo x root f t u → ⊥) → AreDone x t t root Done Unchanged
    done_start Done none = record { way = way_refl; folded = ([], refl); still = still_refl t root; accurate = refl; none = λ e. none }

    pub done_undone : (t' : Tree) → IsTree t → IsTree t' → IsUndone t t' → AreDonePartly x t t' root
    done_undone t' w w' u = record {
      way = record {
        change = same_whole x.meaning t t' root w w' u.same u.grows lives linked;
        links = λ r l. linked_same x.meaning t t' r w w' u.same l;
        edges = λ op before after. edges_same t t' op w w' u.same;
        stays = λ k l. subst (λ z. IsSome z.head) (sym (u.same.operations k)) l;
      };
      folded = ([], (t, refl, u.same));
    }

  pub done_more : (t0 t t' : Tree) (Done Also : Fold → Type 0) (s a : IRStatus) → AreDone x t0 t root Done s → AreDone x t t' root Also a → AreDone x t0 t' root (λ f. Done f ⊎ Also f) (changed_by_either s a)
  done_more t0 t t' Done Also s a p q = record {
    way = way_trans t0 t t' p.way q.way;
    folded = (p.folded.0 ++ q.folded.0, turn_more p.folded.0 q.folded.0 t0 t t' p.folded.1 q.folded.1);
    still = still_trans t0 t t' root p.way.stays p.still q.still;
    accurate = tells_trans t0 t t' s a p.accurate q.accurate;
    none = λ e f u done fold. let n = neither s a e in ⊎_elim
        (λ d. p.none n.0 f u d fold)
        (λ d. q.none n.1 f u d (subst (λ z. FoldsTo x root f z u) (sym (tells_unchanged t0 t s p.accurate n.0)) fold))
        done;
  }

  pub done_as : (t0 t : Tree) (Done Also : Fold → Type 0) (s : IRStatus) → ((f : Fold) (u : Tree) → Also f → FoldsTo x root f t0 u → Done f) → AreDone x t0 t root Done s → AreDone x t0 t root Also s
  done_as t0 t Done Also s h p = record { way = p.way; folded = p.folded; still = p.still; accurate = p.accurate; none = λ e f u d fold. p.none e f u (h f u d fold) fold }

  -- one after the other, where nothing is said to be done
  pub done_nothing : (t0 t t' : Tree) (s a : IRStatus) → AreDone x t0 t root (λ f. ⊥) s → AreDone x t t' root (λ f. ⊥) a → AreDone x t0 t' root (λ f. ⊥) (changed_by_either s a)
  done_nothing t0 t t' s a p q = done_as t0 t' (λ f. ⊥ ⊎ ⊥) (λ f. ⊥) (changed_by_either s a) (λ f u never fold. absurd never) (done_more t0 t t' (λ f. ⊥) (λ f. ⊥) s a p q)

  pub done_partly : (t0 t t' : Tree) (Done : Fold → Type 0) (s : IRStatus) → AreDone x t0 t root Done s → AreDonePartly x t t' root → AreDonePartly x t0 t' root
  done_partly t0 t t' Done s p q = record {
    way = way_trans t0 t t' p.way q.way;
    folded = (p.folded.0 ++ q.folded.0, (q.folded.1.0, turn_more p.folded.0 q.folded.0 t0 t q.folded.1.0 p.folded.1 q.folded.1.1, q.folded.1.2));
  }

  -- what was folded may be all that is
  pub partly : (t0 t : Tree) (Done : Fold → Type 0) (s : IRStatus) → AreDone x t0 t root Done s → AreDonePartly x t0 t root
  partly t0 t Done s p = record { way = p.way; folded = (p.folded.0, (t, p.folded.1, same_itself t)) }

  pub partly_start : (t : Tree) → IsLive t root → IsWellLinked x.meaning t root → AreDonePartly x t t root
  partly_start t lives linked = partly t t (λ f. ⊥) Unchanged (done_start t lives linked (λ f. ⊥) (λ f u never fold. never))

  -- what folds has a place
  pub index_within : (t u : Tree) (f : Fold) → FoldsTo x root f t u → index_of f < length (values_at t (site_of f))
  index_within t u (OfResult k i answer) fold = slice_get_within (results_of t k) i fold.1.0.has.value fold.1.0.has.listed
  index_within t u (OfArgument block i v) fold = slice_get_within (arguments_of t block) i fold.1.0.one.argument fold.1.0.one.there

  -- a sweep that changes nothing leaves nothing that folds
  none_left : (t t' : Tree) (sites : List Site) → AreListed t root sites → AreDone x t t' root (λ f. IsAmong sites (length sites) (site_of f)) Unchanged → HasFolds x t' root → ⊥
  none_left t t' sites l p folds =
      let before : HasFolds x t root = subst (λ z. HasFolds x z root) p.accurate folds in
      none before.0 before.1 before.2
    where
      none : (f : Fold) (u : Tree) → FoldsTo x root f t u → ⊥
      none (OfResult k i answer) u fold = ⊎_elim (λ among. p.none refl (OfResult k i answer) u among fold) (λ e. fold.1.0.has.may.operands e) (l.operations k fold.0)
      none (OfArgument block i v) u fold = p.none refl (OfArgument block i v) u (l.blocks block fold.0) fold

  pub reports : (t0 t : Tree) (s : IRStatus) → CountsFolds x t0 t root s → (HasFolds x t root → ⊥) → ReportsFolds x t0 root s
  reports t0 t Changed reported none = (λ e. reported.1, λ folds. refl)
  reports t0 t Unchanged reported none = (λ e. absurd (cc e), λ folds. absurd (none (subst (λ z. HasFolds x z root) (sym reported) folds)))

module _ (x : Folding) (root : ℕ) (t : Tree) (w : IsTree t) (lives : IsLive t root) (linked : IsWellLinked x.meaning t root) where
  -- the uses of a value went where it folds to
  done_moved : (u : Tree) (old new : ℕ) → Moves t u old new → old < length t.definitions → counts_as_foldable t old ≡ true → IsWholeChange x.meaning t u root → ((r : ℕ) → IsWellLinked x.meaning t r → IsWellLinked x.meaning u r) → (f : Fold) → FoldsTo x root f t u → (Done : Fold → Type 0) → AreDone x t u root Done Changed
  done_moved u old new m low counted change links f fold Done = record {
    way = record { change = change; links = links; edges = edges_kept t u old new m; stays = live t u old new m };
    folded = (f ∷ [], (u, fold, refl));
    still = record {
      seen = seen_forth t u old new m root;
      before = seen_back t u old new m root;
      blocks = blocks_seen t u old new m root;
      empty = empty t u old new m;
      results = same_results t u old new m;
      arguments = m.arguments;
    };
    accurate = (count_lessened t u old new m low counted, (f, u, fold));
    none = λ e. absurd (cc e);
  }

  module _ (laws : AreLawful x) (k i : ℕ) (seen : IsSeen t root k) where
    inside : IsInside t root k
    inside = seen_inside t w root k seen

    module _ (answer : OpFoldResult) (is : IsFold x t k i answer) where
      made : definition_of t is.has.value ≡ Some (Result k i)
      made = w.joined.results k i is.has.value is.has.listed

      low : is.has.value < length t.definitions
      low = slice_get_within t.definitions is.has.value (Result k i) made

      counted : counts_as_foldable t is.has.value ≡ true
      counted = both_true (is_used t is.has.value) (is_foldable t (definition_of t is.has.value)) (used_told t is.has.value is.used) (ap (is_foldable t) made ∙ filled (operands_of t k) is.has.may.operands)

    moves_of : (answer : OpFoldResult) (is : IsFold x t k i answer) → (new : ℕ) × Moves t (after_folding x t k is.has.value answer) is.has.value new
    moves_of (Operand p) is =
        let lt : p < length (operands_of t k) = answer_within x laws t w k i (Operand p) is.has (linked.admitted k (inr inside)) in
        let new : ℕ = get_or (operands_of t k) p 0 in
        let used : In new (operands_of t k) = in_slice (operands_of t k) p new (slice_get-get_or (operands_of t k) p 0 lt) in
        let own : In is.has.value (results_of t k) = in_slice (results_of t k) i is.has.value is.has.listed in
        (new, moves_to_used t is.has.value new w (w.joined.operands k new used) (λ e. is.has.may.apart (is.has.value, own, subst (λ z. In z (operands_of t k)) (sym e) used)) (k, used))
    moves_of (Constant c) is = (length t.definitions, moves_to_constant t k is.has.value seen.block (x.constant_head c) w seen.in_block (low (Constant c) is))

    links_of : (answer : OpFoldResult) (is : IsFold x t k i answer) (r : ℕ) → IsWellLinked x.meaning t r → IsWellLinked x.meaning (after_folding x t k is.has.value answer) r
    links_of (Operand p) is r l = replaced_links x.meaning t is.has.value (get_or (operands_of t k) p 0) r l
    links_of (Constant c) is r l = constant_links x laws t w k i c is.has is.made seen.block seen.in_block r l

    no_result : ((answer : OpFoldResult) → IsFold x t k i answer → ⊥) → (f : Fold) (u : Tree) → site_of f ≡ Results k → index_of f ≡ i → FoldsTo x root f t u → ⊥
    no_result none (OfResult a j answer) u e f fold = none answer (subst (λ z. IsFold x t k z answer) f (subst (λ z. IsFold x t z j answer) (cc e) fold.1.0))
    no_result none (OfArgument block j v) u e f fold = absurd (cc e)

    pub result_done : (t' : Tree) (s : IRStatus) → FoldsResult x t t' k i s → AreDone x t t' root (λ f. (site_of f ≡ Results k) × (index_of f ≡ i)) s
    result_done t' Unchanged folds = subst (λ z. AreDone x t z root (λ f. (site_of f ≡ Results k) × (index_of f ≡ i)) Unchanged) (sym folds.0)
        (done_start x root t lives linked (λ f. (site_of f ≡ Results k) × (index_of f ≡ i)) (λ f u at fold. no_result folds.1 f u at.0 at.1 fold))
    result_done t' Changed folds =
        let u : Tree = after_folding x t k folds.1.has.value folds.0 in
        let moves = moves_of folds.0 folds.1 in
        let change = answer_changes x laws t w k i root folds.0 lives linked inside folds.1.has folds.1.made in
        subst (λ z. AreDone x t z root (λ f. (site_of f ≡ Results k) × (index_of f ≡ i)) Changed) (sym folds.2)
        (done_moved u folds.1.has.value moves.0 moves.1 (low folds.0 folds.1) (counted folds.0 folds.1) change (links_of folds.0 folds.1) (OfResult k i folds.0) (seen, (folds.1, refl)) (λ f. (site_of f ≡ Results k) × (index_of f ≡ i)))

  module _ (law : OneValueChanges x.meaning) (block i : ℕ) (seen : IsSeenBlock t root block) where
    holds : HoldsBlock t root block
    holds =
        let up = visited_within t w root seen.1.region seen.1.visited in
        let same : seen.1.block ≡ block = some_is (sym seen.1.in_block ∙ seen.2) in
        (up.0, block_holder_from t block seen.1.region (ap (block_parent_of t) (sym same) ∙ seen.1.in_region) ∙ up.1, up.2)

    no_argument : ((v : ℕ) → IsArgumentFold x.meaning t block i v → ⊥) → (f : Fold) (u : Tree) → site_of f ≡ Arguments block → index_of f ≡ i → FoldsTo x root f t u → ⊥
    no_argument none (OfResult k j answer) u e f fold = absurd (cc e)
    no_argument none (OfArgument b j v) u e f fold = none v (subst (λ z. IsArgumentFold x.meaning t block z v) f (subst (λ z. IsArgumentFold x.meaning t z j v) (cc e) fold.1.0))

    argument_moved : (v : ℕ) (is : IsArgumentFold x.meaning t block i v) → AreDone x t (after_replacing t is.one.argument v) root (λ f. (site_of f ≡ Arguments block) × (index_of f ≡ i)) Changed
    argument_moved v is =
        let p : ℕ = is.one.argument in
        let used : IsUsed t v = (source x.meaning t w block i v is.one, source_uses x.meaning t w block i v is.one) in
        let made : definition_of t p ≡ Some (Argument block i) = argument_made x.meaning t w block i v is.one in
        let moves : Moves t (after_replacing t p v) p v = moves_to_used t p v w (w.joined.operands used.0 v used.1) is.one.apart used in
        let counted : counts_as_foldable t p ≡ true = both_true (is_used t p) (is_foldable t (definition_of t p)) (used_told t p is.used) (ap (is_foldable t) made) in
        done_moved (after_replacing t p v) p v moves (slice_get_within t.definitions p (Argument block i) made) counted (law.change t root block i v w lives linked holds is.one) (law.links t block i v is.one) (OfArgument block i v) (seen, (is, refl)) (λ f. (site_of f ≡ Arguments block) × (index_of f ≡ i))

    pub argument_done : (t' : Tree) (s : IRStatus) → FoldsArgument x.meaning t t' block i s → AreDone x t t' root (λ f. (site_of f ≡ Arguments block) × (index_of f ≡ i)) s
    argument_done t' Unchanged folds = subst (λ z. AreDone x t z root (λ f. (site_of f ≡ Arguments block) × (index_of f ≡ i)) Unchanged) (sym folds.0)
        (done_start x root t lives linked (λ f. (site_of f ≡ Arguments block) × (index_of f ≡ i)) (λ f u at fold. no_argument folds.1 f u at.0 at.1 fold))
    argument_done t' Changed folds = subst (λ z. AreDone x t z root (λ f. (site_of f ≡ Arguments block) × (index_of f ≡ i)) Changed) (sym folds.2) (argument_moved folds.0 folds.1)

-- whether an argument folds
module _ (m : Meaning) (t : Tree) (block i : ℕ) where
  pub no_fold : ((v : ℕ) → IsOneValue m t block i v → ⊥) → FoldsArgument m t t block i Unchanged
  no_fold none = (refl, λ v is. none v is.one)

  module _ (argument : ℕ) (there : slice_get (arguments_of t block) i ≡ Some argument) where
    same_argument : (v : ℕ) (one : IsOneValue m t block i v) → one.argument ≡ argument
    same_argument v one = some_is (sym one.there ∙ there)

    pub unused_argument : ((user : ℕ) → In argument (operands_of t user) → ⊥) → FoldsArgument m t t block i Unchanged
    unused_argument none = (refl, λ v is. none is.used.0 (subst (λ z. In z (operands_of t is.used.0)) (same_argument v is.one) is.used.1))

    pub argument_folds : IsUsed t argument → (v : ℕ) → IsOneValue m t block i v → (t' : Tree) → ReplacesByValue t t' block i v → FoldsArgument m t t' block i Changed
    argument_folds used v one t' replaces = (v, record { one = one; used = (used.0, subst (λ z. In z (operands_of t used.0)) (sym (same_argument v one)) used.1) }, replaces one.argument one.there)

-- nothing changed
pub undone_same : (t t' : Tree) → t' ≡ t → IsUndone t t'
undone_same t t' e = subst (IsUndone t) (sym e) (record { same = same_itself t; grows = omega arith })

-- how often a sweep may follow
abbrev pub one_if : Bool → ℕ
one_if b = if b then 1 else 0

abbrev pub folds_left : Tree → Bool → ℕ
folds_left t folds_again = foldable_count t + one_if folds_again

-- what the tables of a dialect keep
pub lawful_folding : (m : Meaning) (side_effects : Head → Option Bool) (can_fold : Head → Bool) (constants : Constants) (accepts : AttrObj → Bool) (constant_head : AttrObj → Head) (operand_folds : OperandFolds) (SameTests : Head → Head → Type 0) (shortened : Shape → ℕ → ℕ → Head) → GivesAtOnce m side_effects → AnswersTrue m can_fold constants → AnswersOperands m operand_folds → MakesConstants m accepts constant_head → ForwardsOperands m can_fold SameTests shortened → AreLawful (folding m side_effects can_fold constants accepts constant_head operand_folds)
lawful_folding m side_effects can_fold constants accepts constant_head operand_folds SameTests shortened at_once truly operands makes forwards = record { at_once = at_once; truly = truly; operands = operands; makes = makes; plain = constants_plain m can_fold SameTests shortened accepts constant_head forwards makes }

-- the parts of the sweeps
cases : (x y : ℕ) → (x ≡ y) ⊎ (x ≢ y)
cases x y = grind arith

pub split : (i n : ℕ) (A : Type 0) → A → i < n + 1 → (A × (i < n)) ⊎ (A × (i ≡ n))
split i n A a lt = ⊎_elim (λ e. inr (a, e)) (λ ne. inl (a, omega (arith, lt, ne))) (cases i n)

pub none_among : (sites : List Site) (s : Site) → IsAmong sites 0 s → ⊥
none_among sites s a = let lt = a.1 in omega (arith, lt)

pub among_more : (sites : List Site) (n : ℕ) (here s : Site) → slice_get sites n ≡ Some here → IsAmong sites (n + 1) s → IsAmong sites n s ⊎ (s ≡ here)
among_more sites n here s at a = ⊎_elim
    (λ e. inr (some_is (sym a.2 ∙ ap (slice_get sites) e ∙ at)))
    (λ ne. let lt = a.1 in inl (a.0, omega (arith, lt, ne), a.2))
    (cases a.0 n)

pub among_all : (sites : List Site) (n : ℕ) (s : Site) → length sites ≤ n → IsAmong sites (length sites) s → IsAmong sites n s
among_all sites n s le a = let lt = a.1 in (a.0, omega (arith, lt, le), a.2)

pub read_site : (sites : List Site) (n : ℕ) (here d : Site) → n < length sites → here ≡ get_or sites n d → slice_get sites n ≡ Some here
read_site sites n here d lt e = slice_get-get_or sites n d lt ∙ ap Some (sym e)

module _ (x : Folding) (root : ℕ) (sites : List Site) where
  pub folding_start : (t : Tree) → IsLive t root → IsWellLinked x.meaning t root → AreListed t root sites → IsFolding x t t root sites Unchanged true
  folding_start t lives linked listed = record { done = done_start x root t lives linked (λ f. ⊥) (λ f u never fold. never); listed = listed; over = λ e. absurd (cc e) }

  pub folding_next : (t0 t t' : Tree) (s a : IRStatus) (folds_again : Bool) → IsFolding x t0 t root sites s true → AreDone x t t' root (λ f. IsAmong sites (length sites) (site_of f)) a → (IsTrue folds_again ↔ (a ≡ Changed)) → IsFolding x t0 t' root sites (changed_by_either s a) folds_again
  folding_next t0 t t' s a folds_again h p reported = record {
    done = done_as x root t0 t' (λ f. ⊥ ⊎ IsAmong sites (length sites) (site_of f)) (λ f. ⊥) (changed_by_either s a) (λ f u never fold. absurd never) (done_more x root t0 t t' (λ f. ⊥) (λ f. IsAmong sites (length sites) (site_of f)) s a h.done p);
    listed = same_listed t t' root sites p.still h.listed;
    over = λ e. none_left x root t t' sites h.listed (subst (λ z. AreDone x t t' root (λ f. IsAmong sites (length sites) (site_of f)) z) (left a (λ c. true≢false (sym (reported.1 c) ∙ e))) p);
  }
    where
      left : (a : IRStatus) → (a ≡ Changed → ⊥) → a ≡ Unchanged
      left Changed n = absurd (n refl)
      left Unchanged n = refl

  -- a sweep that folds, and what folds behind it
  pub done_behind : (t0 t t' : Tree) (s a : IRStatus) (changed : Bool) → (IsTrue changed ↔ (s ≡ Changed)) → changed ≡ true → AreDone x t0 t root (λ f. IsAmong sites (length sites) (site_of f)) s → AreDone x t t' root (λ f. ⊥) a → AreDone x t0 t' root (λ f. IsAmong sites (length sites) (site_of f)) Changed
  done_behind t0 t t' s a changed reported e p q =
      let is : changed_by_either s a ≡ Changed = ap (λ z. changed_by_either z a) (reported.0 e) in
      subst (λ z. AreDone x t0 t' root (λ f. IsAmong sites (length sites) (site_of f)) z) is
      (done_as x root t0 t' (λ f. IsAmong sites (length sites) (site_of f) ⊎ ⊥) (λ f. IsAmong sites (length sites) (site_of f)) (changed_by_either s a) (λ f u among fold. inl among) (done_more x root t0 t t' (λ f. IsAmong sites (length sites) (site_of f)) (λ f. ⊥) s a p q))

  -- a sweep that folds lessens the count, and the other one is the last
  pub folding_smaller : (t t' : Tree) (a : IRStatus) (folds_again : Bool) → AreDone x t t' root (λ f. IsAmong sites (length sites) (site_of f)) a → (IsTrue folds_again ↔ (a ≡ Changed)) → folds_left t' folds_again < folds_left t true
  folding_smaller t t' Changed folds_again p reported =
      let lt = p.accurate.0 in
      let g : one_if folds_again ≡ 1 = ap one_if (reported.1 refl) in
      omega (arith, lt, g)
  folding_smaller t t' Unchanged folds_again p reported =
      let same : foldable_count t' ≡ foldable_count t = ap foldable_count p.accurate in
      let g : one_if folds_again ≡ 0 = last folds_again (λ e. absurd (cc (reported.0 e))) in
      omega (arith, same, g)
    where
      last : (b : Bool) → (IsTrue b → ⊥) → one_if b ≡ 0
      last true n = absurd (n refl)
      last false n = refl
