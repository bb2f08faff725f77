use Rattle.turn_code.proofs.machine.Machine.act.Goals as goal

pub returns-in-Int-clause-stays : goal.returns-in-Int-clause-stays
returns-in-Int-clause-stays c = c.put.ensures.stays

pub returns-in-Bool-clause-exact : goal.returns-in-Bool-clause-exact
returns-in-Bool-clause-exact c = rw c.in-Bool.is c.put-in-Bool.ensures.exact

pub returns-in-Bool-clause-stays : goal.returns-in-Bool-clause-stays
returns-in-Bool-clause-stays c = c.put-in-Bool.ensures.stays

pub returns-in-Load-clause-exact : goal.returns-in-Load-clause-exact
returns-in-Load-clause-exact c = rw c.in-Load.is c.load.ensures.exact

pub returns-in-Load-clause-stays : goal.returns-in-Load-clause-stays
returns-in-Load-clause-stays c = c.load.ensures.stays

pub returns-in-Store-clause-exact : goal.returns-in-Store-clause-exact
returns-in-Store-clause-exact c = rw c.in-Store.is c.store.ensures.exact

pub returns-in-Store-clause-stays : goal.returns-in-Store-clause-stays
returns-in-Store-clause-stays c = c.store.ensures.stays

pub returns-in-Param-clause-exact : goal.returns-in-Param-clause-exact
returns-in-Param-clause-exact c = rw c.in-Param.is c.parameter.ensures.exact

pub returns-in-Param-clause-stays : goal.returns-in-Param-clause-stays
returns-in-Param-clause-stays c = c.parameter.ensures.stays

pub returns-in-Add-clause-exact : goal.returns-in-Add-clause-exact
returns-in-Add-clause-exact c = rw c.in-Add.is c.combine.ensures.exact

pub returns-in-Add-clause-stays : goal.returns-in-Add-clause-stays
returns-in-Add-clause-stays c = c.combine.ensures.stays

pub returns-in-Sub-clause-exact : goal.returns-in-Sub-clause-exact
returns-in-Sub-clause-exact c = rw c.in-Sub.is c.combine-in-Sub.ensures.exact

pub returns-in-Sub-clause-stays : goal.returns-in-Sub-clause-stays
returns-in-Sub-clause-stays c = c.combine-in-Sub.ensures.stays

pub returns-in-Mul-clause-exact : goal.returns-in-Mul-clause-exact
returns-in-Mul-clause-exact c = rw c.in-Mul.is c.combine-in-Mul.ensures.exact

pub returns-in-Mul-clause-stays : goal.returns-in-Mul-clause-stays
returns-in-Mul-clause-stays c = c.combine-in-Mul.ensures.stays

pub returns-in-Div-clause-stays : goal.returns-in-Div-clause-stays
returns-in-Div-clause-stays c = c.divide.ensures.stays

pub returns-in-Mod-clause-stays : goal.returns-in-Mod-clause-stays
returns-in-Mod-clause-stays c = c.divide-in-Mod.ensures.stays

pub returns-in-Rem-clause-stays : goal.returns-in-Rem-clause-stays
returns-in-Rem-clause-stays c = c.divide-in-Rem.ensures.stays

pub returns-in-Neg-clause-exact : goal.returns-in-Neg-clause-exact
returns-in-Neg-clause-exact c = rw c.in-Neg.is c.negate.ensures.exact

pub returns-in-Neg-clause-stays : goal.returns-in-Neg-clause-stays
returns-in-Neg-clause-stays c = c.negate.ensures.stays

pub returns-in-Not-clause-exact : goal.returns-in-Not-clause-exact
returns-in-Not-clause-exact c = rw c.in-Not.is c.invert.ensures.exact

pub returns-in-Not-clause-stays : goal.returns-in-Not-clause-stays
returns-in-Not-clause-stays c = c.invert.ensures.stays

pub returns-in-And-clause-exact : goal.returns-in-And-clause-exact
returns-in-And-clause-exact c = rw c.in-And.is c.connect.ensures.exact

pub returns-in-And-clause-stays : goal.returns-in-And-clause-stays
returns-in-And-clause-stays c = c.connect.ensures.stays

pub returns-in-Or-clause-exact : goal.returns-in-Or-clause-exact
returns-in-Or-clause-exact c = rw c.in-Or.is c.connect-in-Or.ensures.exact

pub returns-in-Or-clause-stays : goal.returns-in-Or-clause-stays
returns-in-Or-clause-stays c = c.connect-in-Or.ensures.stays

pub returns-in-Xor-clause-exact : goal.returns-in-Xor-clause-exact
returns-in-Xor-clause-exact c = rw c.in-Xor.is c.connect-in-Xor.ensures.exact

pub returns-in-Xor-clause-stays : goal.returns-in-Xor-clause-stays
returns-in-Xor-clause-stays c = c.connect-in-Xor.ensures.stays

pub returns-in-Same-clause-exact : goal.returns-in-Same-clause-exact
returns-in-Same-clause-exact c = rw c.in-Same.is c.connect-in-Same.ensures.exact

pub returns-in-Same-clause-stays : goal.returns-in-Same-clause-stays
returns-in-Same-clause-stays c = c.connect-in-Same.ensures.stays

pub returns-in-Compare-clause-exact : goal.returns-in-Compare-clause-exact
returns-in-Compare-clause-exact c = rw c.in-Compare.is c.compare.ensures.exact

pub returns-in-Compare-clause-stays : goal.returns-in-Compare-clause-stays
returns-in-Compare-clause-stays c = c.compare.ensures.stays

pub returns-in-Case-clause-stays : goal.returns-in-Case-clause-stays
returns-in-Case-clause-stays c = c.case.ensures.stays

pub returns-in-CaseWithin-clause-stays : goal.returns-in-CaseWithin-clause-stays
returns-in-CaseWithin-clause-stays c = c.within.ensures.stays

pub returns-in-Pick-clause-exact : goal.returns-in-Pick-clause-exact
returns-in-Pick-clause-exact c = rw c.in-Pick.is c.pick.ensures.exact

pub returns-in-Pick-clause-stays : goal.returns-in-Pick-clause-stays
returns-in-Pick-clause-stays c = c.pick.ensures.stays

pub returns-in-Drop-clause-exact : goal.returns-in-Drop-clause-exact
returns-in-Drop-clause-exact c = rw c.in-Drop.is c.throw_away.ensures.exact

pub returns-in-Drop-clause-stays : goal.returns-in-Drop-clause-stays
returns-in-Drop-clause-stays c = c.throw_away.ensures.stays

pub returns-in-Jump-clause-stays : goal.returns-in-Jump-clause-stays
returns-in-Jump-clause-stays c = c.go.ensures.stays

pub returns-in-Output-clause-exact : goal.returns-in-Output-clause-exact
returns-in-Output-clause-exact c = rw c.in-Output.is c.output.ensures.exact

pub returns-in-Output-clause-stays : goal.returns-in-Output-clause-stays
returns-in-Output-clause-stays c = c.output.ensures.stays

pub returns-in-Set-clause-exact : goal.returns-in-Set-clause-exact
returns-in-Set-clause-exact c = rw c.in-Set.is c.set.ensures.exact

pub returns-in-Set-clause-stays : goal.returns-in-Set-clause-stays
returns-in-Set-clause-stays c = c.set.ensures.stays

pub returns-in-Reset-clause-exact : goal.returns-in-Reset-clause-exact
returns-in-Reset-clause-exact c = rw c.in-Reset.is c.give.ensures.exact

pub returns-in-Reset-clause-stays : goal.returns-in-Reset-clause-stays
returns-in-Reset-clause-stays c = c.give.ensures.stays

pub returns-in-Next-clause-exact : goal.returns-in-Next-clause-exact
returns-in-Next-clause-exact c = rw c.in-Next.is c.end.ensures.exact

pub returns-in-Next-clause-stays : goal.returns-in-Next-clause-stays
returns-in-Next-clause-stays c = c.end.ensures.stays

pub returns-in-Stop-clause-exact : goal.returns-in-Stop-clause-exact
returns-in-Stop-clause-exact c = rw c.in-Stop.is c.end-in-Stop.ensures.exact

pub returns-in-Stop-clause-stays : goal.returns-in-Stop-clause-stays
returns-in-Stop-clause-stays c = c.end-in-Stop.ensures.stays
