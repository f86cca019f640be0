use Rattle.std.proofs.Common.{subst}
use Rattle.pliron_core.specs.Tree.{In}
use Rattle.pliron_opt_cse.proofs.ErasedEdges.{erased_alike}
use Rattle.pliron_opt_cse.proofs.Staying.{stands_forth, stands_back}
use Rattle.pliron_opt_cse.proofs.SeenStays.{seen_stays}
use Rattle.pliron_opt_cse.proofs.dominance_stays.Goals as goal

pub returns : goal.returns
returns c t root b w w' live contained edges inside none next = record {
  edges = erased_alike t b w none live contained w' root edges inside (λ x i. subst (In x) next i);
  all_in_place = λ x y nx ny. (stands_forth t b w none next live contained w' root edges inside x y nx ny, stands_back t b w none next live contained w' root edges inside x y nx ny);
  seen = λ k ne. seen_stays t b w none next live contained w' root edges inside k ne;
}
