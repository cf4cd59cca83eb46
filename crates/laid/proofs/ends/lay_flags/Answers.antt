use Rattle.laid.proofs.EndSteps.{second, third, four-flags}
use Rattle.laid.proofs.ends.lay_flags.Goals as goal

pub bounds-collapsed-1 : goal.bounds-collapsed-1
bounds-collapsed-1 c = let at = c in second at.args.collapsed.now at.requires c.flag_of.result

pub bounds-collapsed-2 : goal.bounds-collapsed-2
bounds-collapsed-2 c = let at = c in third at.args.collapsed.now at.requires c.flag_of.result c.flag_of-2.result

pub returns : goal.returns
returns c = let at = c in four-flags at.args.collapsed.now at.requires c.flag_of.ensures c.flag_of-2.ensures c.flag_of-3.ensures c.flag_of-4.ensures
