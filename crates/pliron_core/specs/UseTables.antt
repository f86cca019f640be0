-- How the tables of a context represent a tree.
use Rattle.pliron_core.specs.declared.context.Context.TheInside.{Inside}
use Rattle.pliron_core.specs.Tree.{View}
use Rattle.pliron_core.specs.Invariant.{IsWellFormed}

abbrev pub view_of : Inside → View
view_of c = record {
  tree = record {
    operations = c.operations.items;
    operands = c.operands.targets;
    successors = c.successors.targets;
    parents = c.order.owners;
    bodies = c.order.lists;
    arguments = c.arguments.rows;
    block_parents = c.layout.owners;
    layouts = c.layout.lists;
    slots = c.slots.items;
    definitions = c.arguments.definitions;
  };
  value_uses = c.operands.uses;
  block_uses = c.successors.uses;
}

abbrev pub IsSoundContext : Inside → Type 0
IsSoundContext c = IsWellFormed (view_of c)
