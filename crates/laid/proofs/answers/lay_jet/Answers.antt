use native.Mathlib.Omega.{arith}
use Rattle.laid.proofs.Steps.{ninth, jet-refused, jet-found}
use Rattle.laid.proofs.answers.lay_jet.Goals as goal

pub bounds-jet-1 : goal.bounds-jet-1
bounds-jet-1 c = let at = c in ninth 1 at.args.jet.now c.in-Found.j (omega arith) at.requires

pub bounds-jet-2 : goal.bounds-jet-2
bounds-jet-2 c = let at = c in ninth 2 at.args.jet.now c.in-Found.j (omega arith) at.requires

pub bounds-jet-3 : goal.bounds-jet-3
bounds-jet-3 c = let at = c in ninth 3 at.args.jet.now c.in-Found.j (omega arith) at.requires

pub bounds-jet-4 : goal.bounds-jet-4
bounds-jet-4 c = let at = c in ninth 4 at.args.jet.now c.in-Found.j (omega arith) at.requires

pub bounds-jet-5 : goal.bounds-jet-5
bounds-jet-5 c = let at = c in ninth 5 at.args.jet.now c.in-Found.j (omega arith) at.requires

pub bounds-jet-6 : goal.bounds-jet-6
bounds-jet-6 c = let at = c in ninth 6 at.args.jet.now c.in-Found.j (omega arith) at.requires

pub bounds-jet-7 : goal.bounds-jet-7
bounds-jet-7 c = let at = c in ninth 7 at.args.jet.now c.in-Found.j (omega arith) at.requires

pub bounds-jet-8 : goal.bounds-jet-8
bounds-jet-8 c = let at = c in ninth 8 at.args.jet.now c.in-Found.j (omega arith) at.requires

pub returns-in-Refusal : goal.returns-in-Refusal
returns-in-Refusal c = jet-refused _ c.in-Refusal.is

pub returns-in-Found : goal.returns-in-Found
returns-in-Found c = jet-found _ c.requires c.in-Found.is
