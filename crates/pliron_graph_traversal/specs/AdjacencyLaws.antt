-- That graphs by adjacency lists are lawful, for graphs of one's own over such lists.
pub use Rattle.pliron_graph_traversal.specs.Internal.AdjacencyLawful.{adjacency_lawful}
