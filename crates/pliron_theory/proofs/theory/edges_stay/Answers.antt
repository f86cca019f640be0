use Rattle.pliron_theory.proofs.EdgeLemmas.{edges_same, edges_alike, edges_transitive}
use Rattle.pliron_theory.proofs.PutEdges.{put_alike, first_alike}
use Rattle.pliron_theory.proofs.theory.edges_stay.Goals as goal

pub returns : goal.returns
returns c = record {
  same = edges_same;
  kept = λ t u wt wu s op before after. edges_same t u op wt wu s;
  alike = edges_alike;
  put = λ t op v b head w at. put_alike t op v b head w at;
  first = λ t v b head w is. first_alike t v b head w is;
  transitive = edges_transitive;
}
