-- Each way out of a round is a case of its definition.
use Rattle.newton.proofs.RoundSteps.{halted, unpaid, unfound, further, last, onward}
use Rattle.newton.proofs.round.round.Goals as goal

pub returns-then-taken-budget : goal.returns-then-taken-budget
returns-then-taken-budget c =
    let at = c in
    let to = c in
    unpaid _ _ _ _ c.args.held _ c.requires.1 to.plan_from.ensures _ _ _ at.in-Probe.is c.if-taken-budget.true

pub returns-in_default : goal.returns-in_default
returns-in_default c =
    let jet = c in
    let at = c in
    let to = c in
    unfound _ _ _ _ c.args.held _ c.requires.1 to.plan_from.ensures _ _ _ at.in-Probe.is jet.if-taken-budget.false jet.scaled_jet.ensures c.in_default.is

pub measure-measured-requires : goal.measure-measured-requires
measure-measured-requires c = c.requires.2

pub returns-in-Halt : goal.returns-in-Halt
returns-in-Halt c =
    let is = c in
    let to = is in
    halted _ _ _ _ c.args.held _ c.requires.1 to.plan_from.ensures _ is.in-Halt.is c.ended.ensures

pub returns-in-Further : goal.returns-in-Further
returns-in-Further c =
    let by = c in
    let is = c in
    let jet = is in
    let at = c in
    let to = c in
    further _ _ _ _ c.args.held _ c.requires.1 to.plan_from.ensures _ _ _ at.in-Probe.is jet.if-taken-budget.false jet.scaled_jet.ensures _ is.in-Found.is _ by.measure-measured.ensures by.judge.ensures c.in-Further.is c.ended-in-Further.ensures

pub returns-in-Last : goal.returns-in-Last
returns-in-Last c =
    let by = c in
    let is = c in
    let jet = is in
    let at = c in
    let to = c in
    last _ _ _ _ c.args.held _ c.requires.1 to.plan_from.ensures _ _ _ at.in-Probe.is jet.if-taken-budget.false jet.scaled_jet.ensures _ is.in-Found.is _ by.measure-measured.ensures by.judge.ensures c.in-Last.is c.ended-in-Last.ensures

pub returns-in-Onward : goal.returns-in-Onward
returns-in-Onward c =
    let by = c in
    let is = c in
    let jet = is in
    let at = c in
    let to = c in
    onward _ _ _ _ c.args.held _ c.requires.1 to.plan_from.ensures _ _ _ at.in-Probe.is jet.if-taken-budget.false jet.scaled_jet.ensures _ is.in-Found.is _ by.measure-measured.ensures by.judge.ensures c.in-Onward.is
