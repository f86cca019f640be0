-- What is said of a text that is drawn.
use Rattle.std.specs.Prelude.{ℕ, List, ⊤}
use Rattle.pliron_core.specs.Tree.{Tree}
use Rattle.pliron_graph_traversal.specs.Regions.{IsLawfulRegion}
use Rattle.pliron_driver.specs.Answered.{Reads}
use Rattle.pliron_show_graphs.specs.declared.flow_text.Drawing.{Drawing}
use Rattle.pliron_show_graphs.specs.declared.flow_text.Drawing.TheVariants.{Drawn, Unreadable, NoRegion}

-- a tree was read from the text, and has a region whose graph may be read
pub record IsFlowText (reads : Reads) (text : List ℕ) : Type 0 where
  pub tree : Tree
  pub root : ℕ
  pub region : ℕ
  pub read : reads text tree root
  pub lawful : IsLawfulRegion tree region

-- only such a text is drawn
abbrev pub IsDrawing : (reads : Reads) (text : List ℕ) → Drawing → Type 0
IsDrawing reads text (Drawn picture) = IsFlowText reads text
IsDrawing reads text Unreadable = ⊤
IsDrawing reads text NoRegion = ⊤
