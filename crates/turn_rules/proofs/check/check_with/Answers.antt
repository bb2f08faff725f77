use Rattle.std.proofs.Common.{sym}
use Rattle.std.proofs.lemmas.Result.{IfErr-weaker}
use Rattle.turn_code.specs.Valid.{Keeps}
use Rattle.turn_code.specs.declared.rule.Rule.{Rule}
use Rattle.turn_rules.specs.Seen.{seen}
use Rattle.turn_rules.specs.First.{EachBefore}
use Rattle.turn_rules.specs.Parts.{Part, AllEntries}
use Rattle.turn_rules.proofs.Order.{each_weaker, keeps_here}
use Rattle.turn_rules.proofs.Whole.{keeps_part, no_parts_facts}
use Rattle.turn_rules.proofs.check.check_with.Goals as goal

pub returns-in-Some-clause-err : goal.returns-in-Some-clause-err
returns-in-Some-clause-err c =
    let d = c.args.draft.now in
    let t = seen c.args.transition.now in
    let f = c.in-Some.facts.now in
    IfErr-weaker c.check_place.result (λ (rule : Rule). Part rule d t c.args.place c.args.instruction f → ⊥)
    (λ (rule : Rule). Keeps rule d t c.args.place → ⊥)
    (λ rule no keeps. no (keeps_part rule d t c.args.place c.args.instruction f c.requires.code (sym c.in-Some.ensures) keeps)) c.check_place.ensures.err

pub returns-in-None-clause-ok : goal.returns-in-None-clause-ok
returns-in-None-clause-ok c = no_parts_facts c.args.draft.now (seen c.args.transition.now) c.args.place (sym c.in-None.ensures)

pub returns-in-Some-clause-first : goal.returns-in-Some-clause-first
returns-in-Some-clause-first c =
    let d = c.args.draft.now in
    let t = seen c.args.transition.now in
    let f = c.in-Some.facts.now in
    IfErr-weaker c.check_place.result (λ (rule : Rule). EachBefore (λ r. Part r d t c.args.place c.args.instruction f) rule)
    (λ (rule : Rule). AllEntries d t → EachBefore (λ r. Keeps r d t c.args.place) rule)
    (λ rule before a.
    each_weaker (λ r. Part r d t c.args.place c.args.instruction f) (λ r. Keeps r d t c.args.place)
    (keeps_here d t c.args.place c.args.instruction f c.requires.code (sym c.in-Some.ensures) a) rule before) c.check_place.ensures.first
