-- Whether a rewrite changed the tree.
use Rattle.pliron_core.specs.declared.attrs.IRStatus.{IRStatus}
use Rattle.pliron_core.specs.declared.attrs.IRStatus.TheVariants.{Changed, Unchanged}

-- `Changed` if one of them is
abbrev pub changed_by_either : IRStatus → IRStatus → IRStatus
changed_by_either Changed b = Changed
changed_by_either Unchanged b = b
