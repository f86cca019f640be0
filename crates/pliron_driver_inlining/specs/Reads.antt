-- What is read of modules whose calls are inlined.
use Rattle.std.specs.Prelude.{ℕ, List}
use Rattle.pliron_core.specs.Tree.{Tree}
use Rattle.pliron_laws.specs.Datum.{Meaning}
use Rattle.pliron_pass_linked.specs.Calls.{CallingConvention}
use Rattle.pliron_driver.specs.Answered.{Reads}
use Rattle.pliron_opt_inline.specs.Module.{AreInlined}

-- a tree is read of the text, and calls of these functions are inlined in it
pub record ReadsInlined (reads : Reads) (m : Meaning) (c : CallingConvention) (text : List ℕ) (tree : Tree) (root : ℕ) : Type 0 where
  pub written : Tree
  pub callees : List ℕ
  pub read : reads text written root
  pub inlined : AreInlined m c written tree callees
