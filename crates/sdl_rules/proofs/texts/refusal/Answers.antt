use Rattle.sdl_sound.specs.declared.fault.RuleFault.TheVariants.{DoubleName, UnknownName, WrongSort, NoState, NoReceiver, TwoReceivers, JoinCycle, NoAnswer, BadDivisor, Limit, Unset}
use Rattle.sdl_tables.specs.Scopes.{double_names}
use Rattle.sdl_rules.specs.Expansion.{expanded}
use Rattle.sdl_rules.specs.Faults.{double_synonyms}
use Rattle.sdl_rules.proofs.Refusing.{of_fault}
use Rattle.sdl_rules.proofs.texts.refusal.Goals as goal

pub returns-in-NoMemory : goal.returns-in-NoMemory
returns-in-NoMemory c = λ b are refuses. tt

pub returns-in-DoubleName : goal.returns-in-DoubleName
returns-in-DoubleName c = λ b are refuses.
    let refused = of_fault (expanded b) c.args.fault (DoubleName c.in-DoubleName.at) c.in-DoubleName.is refuses in
    c.first.ensures (double_names (expanded b)) (double_synonyms b) refused are.double

pub returns-in-UnknownName : goal.returns-in-UnknownName
returns-in-UnknownName c = λ b are refuses.
    c.unknown_name.ensures b are (of_fault (expanded b) c.args.fault (UnknownName c.in-UnknownName.at) c.in-UnknownName.is refuses)

pub returns-in-WrongSort : goal.returns-in-WrongSort
returns-in-WrongSort c = λ b are refuses.
    c.wrong_sort.ensures b are (of_fault (expanded b) c.args.fault (WrongSort c.in-WrongSort.at) c.in-WrongSort.is refuses)

pub returns-in-NoState : goal.returns-in-NoState
returns-in-NoState c = λ b are refuses.
    let refused = of_fault (expanded b) c.args.fault (NoState c.in-NoState.at) c.in-NoState.is refuses in
    c.after_sorts.ensures b are refused.0 (λ kept. (kept, refused))

pub returns-in-NoReceiver : goal.returns-in-NoReceiver
returns-in-NoReceiver c = λ b are refuses.
    let refused = of_fault (expanded b) c.args.fault (NoReceiver c.in-NoReceiver.at) c.in-NoReceiver.is refuses in
    c.after_sorts-in-NoReceiver.ensures b are refused.0.0 (λ kept. (kept, refused))

pub returns-in-TwoReceivers : goal.returns-in-TwoReceivers
returns-in-TwoReceivers c = λ b are refuses.
    let refused = of_fault (expanded b) c.args.fault (TwoReceivers c.in-TwoReceivers.at) c.in-TwoReceivers.is refuses in
    c.after_sorts-in-TwoReceivers.ensures b are refused.0.0.0 (λ kept. (kept, refused))

pub returns-in-JoinCycle : goal.returns-in-JoinCycle
returns-in-JoinCycle c = λ b are refuses.
    let refused = of_fault (expanded b) c.args.fault (JoinCycle c.in-JoinCycle.at) c.in-JoinCycle.is refuses in
    c.after_sorts-in-JoinCycle.ensures b are refused.0.0.0.0 (λ kept. (kept, refused))

pub returns-in-NoAnswer : goal.returns-in-NoAnswer
returns-in-NoAnswer c = λ b are refuses.
    let refused = of_fault (expanded b) c.args.fault (NoAnswer c.in-NoAnswer.at) c.in-NoAnswer.is refuses in
    c.after_sorts-in-NoAnswer.ensures b are refused.0.0.0.0.0 (λ kept. (kept, refused))

pub returns-in-BadDivisor : goal.returns-in-BadDivisor
returns-in-BadDivisor c = λ b are refuses.
    c.bad_divisor.ensures b are (of_fault (expanded b) c.args.fault (BadDivisor c.in-BadDivisor.at) c.in-BadDivisor.is refuses)

pub returns-in-Limit : goal.returns-in-Limit
returns-in-Limit c = λ b are refuses.
    let refused = of_fault (expanded b) c.args.fault (Limit c.in-Limit.limit) c.in-Limit.is refuses in
    c.after_divisors.ensures b are refused.0 (λ kept. (kept, refused))

pub returns-in-Unset : goal.returns-in-Unset
returns-in-Unset c = λ b are refuses.
    let refused = of_fault (expanded b) c.args.fault (Unset c.in-Unset.variable c.in-Unset.path) c.in-Unset.is refuses in
    c.after_divisors-in-Unset.ensures b are refused.0.0 (λ kept. (kept, refused))
