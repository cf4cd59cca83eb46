use Rattle.laid.proofs.EndSteps.{open-edge, in_one, in_two, in_three, in_four, five}
use Rattle.laid.proofs.ends.lay_edge.Goals as goal

pub returns-in_default : goal.returns-in_default
returns-in_default c = open-edge _ _ c.in_default.is

pub bounds-edges-i-2 : goal.bounds-edges-i-2
bounds-edges-i-2 c = let at = c in in_one at.args.i at.args.edges.now c.in-Collapsed.e at.requires.1

pub bounds-edges-i-3 : goal.bounds-edges-i-3
bounds-edges-i-3 c = let at = c in in_two at.args.i at.args.edges.now c.in-Collapsed.e at.requires.1

pub bounds-edges-i-4 : goal.bounds-edges-i-4
bounds-edges-i-4 c = let at = c in in_three at.args.i at.args.edges.now c.in-Collapsed.e at.requires.1

pub bounds-edges-i-5 : goal.bounds-edges-i-5
bounds-edges-i-5 c = let at = c in in_four at.args.i at.args.edges.now c.in-Collapsed.e at.requires.1

pub returns : goal.returns
returns c = let at = c in five at.args.i at.args.edges.now c.in-Collapsed.e at.requires.1 c.in-Collapsed.is
