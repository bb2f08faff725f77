use Rattle.std.proofs.Common.{rules, ◌≡◌, ◌+◌, ◌&&◌, Bool, [], ◌∷◌, ◌++◌, ◌≤◌, true, false, length, drop, sym, ap, ◌∙◌, subst, arith, append-nil}
use Rattle.std.specs.Prelude.{slice_set}
use Rattle.std.proofs.lemmas.Result.{on_ok_weaker, IfOk-weaker}
use Rattle.std.proofs.Math.Bool.{and-true, and-false}
use Rattle.std.proofs.lemmas.List.{drop_all}
use Rattle.sdl_ast.specs.Plain.{Text, falls}
use Rattle.sdl_ast.specs.declared.tree.Decision.{out-Decision, the_lemmas}
use Rattle.sdl_ast.specs.Views.{text_of, action_of, decision_of, choice_of, answers_before, statements_before, end_text, else_choice}
use Rattle.turn_code.specs.declared.instruction.Instruction.TheVariants as i
use Rattle.sdl_emit.specs.Scopes.{scope_in, places_by, question_in}
use Rattle.sdl_tables.specs.Names.{variables_of}
use Rattle.sdl_sound.specs.Going.{goes_on}
use Rattle.sdl_sound.specs.Longest.{size}
use Rattle.sdl_meaning.specs.Named.{NamedText, NamedChoice}
use Rattle.sdl_meaning.specs.Code.{action_code, else_size, else_code, answers_size, answers_code, text_code}
use Rattle.sdl_ast.proofs.Views.{text_of-is, decision_of-is}
use Rattle.sdl_emit.proofs.Emitting.{one_statement, statement_named, statement_fits, answer_named, rest_named, rest_fits, rest_code, others_fit, others_code, others_named, else_size_alone, else_code_alone, else_named, choice_named, choice_fits, decision_code}
use Rattle.sdl_emit.proofs.Picking.{one_answer}
use Rattle.sdl_emit.proofs.Leaving.{statements_past, answers_past, acted, decided, is_decision, no_code, no_leave, no_starts, left_code, left_told}
use Rattle.sdl_emit.specs.Landing.{starts_from, answers_leave, else_leave, landed, filled, has_any, picked_by, tests_by}
use Rattle.sdl_emit.proofs.Landed.{jumps_more, starts_more, else_leave_alone, rest_goes, truth_answers_fit, truth_else_fits, truth_else_low, truth_low, truth_lands, truth_goes, place_is, integer_else_fits, integer_answers_fit, integer_low, integer_tests_fit, integer_lands, integer_goes}
use Rattle.sdl_emit.proofs.texts.+texts.Goals as goal

pub emit_answers-loop-answer-preserved : goal.emit_answers-loop-answer-preserved
emit_answers-loop-answer-preserved t c =
    let s = scope_in c.args.names.now in let to = places_by c.args.places.now in
    let list = c.deref-answer-items.result.now in let i = c.loop-answer.answer-index in
    let a = c.answer-item.result in
    let o = else_choice (out-Decision c.args.decision.now).otherwise in
    let whole = answers_before (drop i list) o in
    let rest = answers_before (drop (i + 1) list) o in
    let is = one_answer list i a o c.loop-answer-test.true c.answer-item.is in
    let old = c.loop-answer.code.items in
    let new = c.emit_body.new.code.items in
    let all = c.args.code.now.items ++ answers_code s to (length c.args.code.now.items) 0 (choice_of c.args.decision.now) in
    let here : c.code_place.result.0 ≡ length old = omega (arith, c.code_place.ensures, c.len.ensures) in
    record {
      code = others_code s to a.at a.ranges.items (text_of a.body) whole rest is 0 old new c.in_ok-emit_body.ensures.code all c.loop-answer.invariant.code;
      jumps = jumps_more s to a.at a.ranges.items (text_of a.body) whole rest is old new c.in_ok-emit_body.ensures.code c.loop-answer.jumps.items c.emit_body.new.jumps.items _ c.in_ok-emit_body.ensures.jumps c.loop-answer.invariant.jumps;
      starts = starts_more s to a.at a.ranges.items (text_of a.body) whole rest is old new c.in_ok-emit_body.ensures.code c.loop-answer.starts.items c.push.new.self.items _ (c.in_ok-push.ensures.items ∙ ap (λ p. c.loop-answer.starts.items ++ p ∷ []) (place_is c.code_place.result (length old) here)) c.loop-answer.invariant.starts;
      named = others_named s to (question_in c.args.decision.now) a.at a.ranges.items (text_of a.body) whole rest is c.loop-answer.invariant.named;
      fits = others_fit s to a.at a.ranges.items (text_of a.body) whole rest is 0 old new c.in_ok-emit_body.ensures.code c.loop-answer.invariant.fits;
    }

pub emit_decision-emit_truth-requires : goal.emit_decision-emit_truth-requires
emit_decision-emit_truth-requires t c =
    let s = scope_in c.args.names.now in let d = c.args.decision.now in
    let x = decision_of d falls in let is = decision_of-is d falls in
    let named = choice_named s (places_by c.args.places.now) x (out-Decision d).at (question_in d) (choice_of d) is c.args.code.now.items c.emit_expression.new.code.items c.in_ok-emit_expression.ensures c.requires.named in
    let fits = choice_fits s (places_by c.args.places.now) x (out-Decision d).at (question_in d) (choice_of d) is c.args.code.now.items c.emit_expression.new.code.items c.in_ok-emit_expression.ensures true (sym c.is_truth.ensures ∙ c.if-is_truth.true) c.requires.fits in
    (search rules, (named, (fits, c.requires.low)))

pub emit_decision-emit_integer-requires : goal.emit_decision-emit_integer-requires
emit_decision-emit_integer-requires t c =
    let s = scope_in c.args.names.now in let d = c.args.decision.now in
    let x = decision_of d falls in let is = decision_of-is d falls in
    let named = choice_named s (places_by c.args.places.now) x (out-Decision d).at (question_in d) (choice_of d) is c.args.code.now.items c.emit_expression.new.code.items c.in_ok-emit_expression.ensures c.requires.named in
    let fits = choice_fits s (places_by c.args.places.now) x (out-Decision d).at (question_in d) (choice_of d) is c.args.code.now.items c.emit_expression.new.code.items c.in_ok-emit_expression.ensures false (sym c.is_truth.ensures ∙ c.if-is_truth.false) c.requires.fits in
    (search rules, (named, (fits, c.requires.low)))

pub emit_decision-returns-then-is_truth-clause-code : goal.emit_decision-returns-then-is_truth-clause-code
emit_decision-returns-then-is_truth-clause-code t c =
    let s = scope_in c.args.names.now in let d = c.args.decision.now in
    on_ok_weaker c.emit_truth.result
    (λ f. decision_code s (places_by c.args.places.now) (decision_of d falls) (out-Decision d).at (question_in d) (choice_of d) (decision_of-is d falls) c.args.code.now.items c.emit_expression.new.code.items c.in_ok-emit_expression.ensures true c.emit_truth.new.code.items (sym c.is_truth.ensures ∙ c.if-is_truth.true) f)
    c.emit_truth.ensures.code

pub emit_decision-returns-else-is_truth-clause-code : goal.emit_decision-returns-else-is_truth-clause-code
emit_decision-returns-else-is_truth-clause-code t c =
    let s = scope_in c.args.names.now in let d = c.args.decision.now in
    on_ok_weaker c.emit_integer.result
    (λ f. decision_code s (places_by c.args.places.now) (decision_of d falls) (out-Decision d).at (question_in d) (choice_of d) (decision_of-is d falls) c.args.code.now.items c.emit_expression.new.code.items c.in_ok-emit_expression.ensures false c.emit_integer.new.code.items (sym c.is_truth.ensures ∙ c.if-is_truth.false) f)
    c.emit_integer.ensures.code

pub emit_text-loop-statement-preserved : goal.emit_text-loop-statement-preserved
emit_text-loop-statement-preserved t c =
    let s = scope_in c.args.names.now in let to = places_by c.args.places.now in
    let list = c.deref-statement-items.result.now in let i = c.loop-statement.statement-index in
    let x = c.statement-item.result in
    let e = end_text c.args.transition.now.end in
    let whole = statements_before (drop i list) e in
    let rest = statements_before (drop (i + 1) list) e in
    let is = one_statement list i x e c.loop-statement-test.true c.statement-item.is in
    let old = c.loop-statement.code.items in
    let new = c.emit_statement.new.code.items in
    let all = c.args.code.now.items ++ text_code s to (length c.args.code.now.items) (text_of c.args.transition.now) in
    record {
      code = rest_code s to x whole rest is old new c.in_ok-passes.ensures.code all c.loop-statement.invariant.code;
      goes = rest_goes x whole rest is c.loop-statement.goes c.in_ok-passes.passes c.both-goes.result c.both-goes.ensures (c.in_ok-passes.ensures.goes rest) _ c.loop-statement.invariant.goes;
      named = rest_named s to x whole rest is old c.loop-statement.invariant.named;
      fits = rest_fits s to x whole rest is old new c.in_ok-passes.ensures.code c.loop-statement.invariant.fits;
    }

pub emit_else-emit_body-requires : goal.emit_else-emit_body-requires
emit_else-emit_body-requires t c =
    let s = scope_in c.args.names.now in let to = places_by c.args.places.now in let d = out-Decision c.args.decision.now in
    let q = question_in c.args.decision.now in
    let named = subst (λ o. NamedChoice s q (else_choice o)) c.in-Some.is (else_named s to q d.answers.items d.otherwise c.requires.named) in
    (search (rules, the_lemmas), (named, (omega (arith, c.requires.fits, else_size_alone s to d.answers.items d.otherwise, ap (λ o. else_size s (else_choice o)) c.in-Some.is), c.requires.low)))

pub emit_else-returns-in-Some-clause-code : goal.emit_else-returns-in-Some-clause-code
emit_else-returns-in-Some-clause-code t c =
    let s = scope_in c.args.names.now in let to = places_by c.args.places.now in let d = out-Decision c.args.decision.now in
    let old = c.args.code.now.items in
    let is = else_code_alone s to d.answers.items d.otherwise (length old) 0 ∙ ap (λ o. else_code s to (length old) 0 (else_choice o)) c.in-Some.is in
    on_ok_weaker c.emit_body.result (λ f. f ∙ ap (λ l. old ++ l) (sym is)) c.emit_body.ensures.code

pub emit_else-returns-in-Some-clause-jumps : goal.emit_else-returns-in-Some-clause-jumps
emit_else-returns-in-Some-clause-jumps t c =
    let s = scope_in c.args.names.now in let to = places_by c.args.places.now in let d = out-Decision c.args.decision.now in
    let n = length c.args.code.now.items in
    let is = else_leave_alone s to d.answers.items d.otherwise n ∙ ap (λ o. else_leave s to n (else_choice o)) c.in-Some.is in
    on_ok_weaker c.emit_body.result (λ f. f ∙ ap (λ l. c.args.jumps.now.items ++ l) (sym is)) c.emit_body.ensures.jumps

pub emit_else-returns-in-None-clause-code : goal.emit_else-returns-in-None-clause-code
emit_else-returns-in-None-clause-code t c =
    let s = scope_in c.args.names.now in let to = places_by c.args.places.now in let d = out-Decision c.args.decision.now in
    let old = c.args.code.now.items in
    let is = else_code_alone s to d.answers.items d.otherwise (length old) 0 ∙ ap (λ o. else_code s to (length old) 0 (else_choice o)) c.in-None.is in
    sym (ap (λ l. old ++ l) is ∙ append-nil old)

pub emit_else-returns-in-None-clause-jumps : goal.emit_else-returns-in-None-clause-jumps
emit_else-returns-in-None-clause-jumps t c =
    let s = scope_in c.args.names.now in let to = places_by c.args.places.now in let d = out-Decision c.args.decision.now in
    let n = length c.args.code.now.items in
    let is = else_leave_alone s to d.answers.items d.otherwise n ∙ ap (λ o. else_leave s to n (else_choice o)) c.in-None.is in
    sym (ap (λ l. c.args.jumps.now.items ++ l) is ∙ append-nil c.args.jumps.now.items)

pub emit_truth-emit_answers-requires : goal.emit_truth-emit_answers-requires
emit_truth-emit_answers-requires t c =
    let s = scope_in c.args.names.now in let to = places_by c.args.places.now in
    let fits = truth_answers_fit s to (choice_of c.args.decision.now) c.args.code.now.items c.requires.fits _ c.put.new.code.items c.in_ok-put.ensures in
    (search rules, (c.requires.named, (fits, c.requires.low)))

pub emit_truth-emit_else-requires : goal.emit_truth-emit_else-requires
emit_truth-emit_else-requires t c =
    let s = scope_in c.args.names.now in let to = places_by c.args.places.now in
    let fits = truth_else_fits s to (choice_of c.args.decision.now) c.args.code.now.items c.requires.fits _ c.put.new.code.items c.in_ok-put.ensures c.emit_answers.new.code.items c.in_ok-emit_answers.ensures.code in
    (search rules, (c.requires.named, (fits, c.requires.low)))

pub emit_truth-returns-clause-code : goal.emit_truth-returns-clause-code
emit_truth-returns-clause-code t c =
    let s = scope_in c.args.names.now in let to = places_by c.args.places.now in
    let all = choice_of c.args.decision.now in let old = c.args.code.now.items in
    let one = c.put.new.code.items in let two = c.emit_answers.new.code.items in
    let three = c.emit_else.new.code.items in
    let jumps = c.in_ok-emit_else.ensures.jumps ∙ ap (λ l. l ++ else_leave s to (length two) all) (c.in_ok-emit_answers.ensures.jumps ∙ ap (λ l. l ++ answers_leave s to (length one) all) c.new-jumps.ensures.items) in
    let starts = c.in_ok-emit_answers.ensures.starts ∙ ap (λ l. l ++ starts_from s (length one) all) c.new-starts.ensures.items in
    let behind_is : c.code_place-otherwise.result.0 ≡ length two = omega (arith, c.code_place-otherwise.ensures, c.len.ensures) in
    let after_is : c.code_place.result.0 ≡ length three = omega (arith, c.code_place.ensures, c.len-2.ensures) in
    let here : c.len-choice.result ≡ length old = omega (arith, c.len-choice.ensures) in
    let behind = place_is c.code_place-otherwise.result (length two) behind_is in
    let after = place_is c.code_place.result (length three) after_is in
    let picked = λ (v : Bool). picked_by c.code_place-otherwise.result c.deref-2.result.now all v in
    let picks = λ (v : Bool). ap (λ l. picked_by c.code_place-otherwise.result l all v) c.deref-2.ensures.value ∙ ap (λ p. picked_by p c.emit_answers.new.starts.items all v) behind in
    let pick = i.Pick (picked false) (picked true) in
    c.choose.ensures
    ∙ ap (λ n. slice_set c.land_jumps.new.code.items n pick) here
    ∙ ap (λ l. slice_set l (length old) pick) (c.land_jumps.ensures ∙ ap (landed c.code_place.result three) c.deref.ensures.value ∙ ap (λ p. landed p three c.emit_else.new.jumps.items) after)
    ∙ truth_lands s to all old c.requires.fits _ one c.in_ok-put.ensures two c.in_ok-emit_answers.ensures.code three c.in_ok-emit_else.ensures.code c.emit_else.new.jumps.items jumps c.emit_answers.new.starts.items starts
    (picked false) (picked true) (picks false) (picks true)

pub emit_truth-returns-clause-goes : goal.emit_truth-returns-clause-goes
emit_truth-returns-clause-goes t c =
    let s = scope_in c.args.names.now in let to = places_by c.args.places.now in
    let all = choice_of c.args.decision.now in
    let one = c.put.new.code.items in let two = c.emit_answers.new.code.items in
    let jumps = c.in_ok-emit_else.ensures.jumps ∙ ap (λ l. l ++ else_leave s to (length two) all) (c.in_ok-emit_answers.ensures.jumps ∙ ap (λ l. l ++ answers_leave s to (length one) all) c.new-jumps.ensures.items) in
    c.has_any.ensures ∙ ap has_any (c.deref-3.ensures.value ∙ jumps) ∙ truth_goes s to (length one) (length two) all

pub emit_integer-emit_else-requires : goal.emit_integer-emit_else-requires
emit_integer-emit_else-requires t c =
    let s = scope_in c.args.names.now in let to = places_by c.args.places.now in
    let fits = integer_else_fits s to (choice_of c.args.decision.now) c.args.code.now.items c.requires.fits _ c.tests_length.result c.tests_length.ensures c.keep_places.new.code.items c.in_ok-keep_places.ensures in
    (search rules, (c.requires.named, (fits, c.requires.low)))

pub emit_integer-emit_answers-requires : goal.emit_integer-emit_answers-requires
emit_integer-emit_answers-requires t c =
    let s = scope_in c.args.names.now in let to = places_by c.args.places.now in
    let fits = integer_answers_fit s to (choice_of c.args.decision.now) c.args.code.now.items c.requires.fits _ c.tests_length.result c.tests_length.ensures c.keep_places.new.code.items c.in_ok-keep_places.ensures c.emit_else.new.code.items c.in_ok-emit_else.ensures.code in
    (search rules, (c.requires.named, (fits, c.requires.low)))

pub emit_integer-returns-clause-code : goal.emit_integer-returns-clause-code
emit_integer-returns-clause-code t c =
    let s = scope_in c.args.names.now in let to = places_by c.args.places.now in
    let all = choice_of c.args.decision.now in let old = c.args.code.now.items in
    let one = c.keep_places.new.code.items in let two = c.emit_else.new.code.items in
    let three = c.emit_answers.new.code.items in
    let jumps = c.in_ok-emit_answers.ensures.jumps ∙ ap (λ l. l ++ answers_leave s to (length two) all) (c.in_ok-emit_else.ensures.jumps ∙ ap (λ l. l ++ else_leave s to (length one) all) c.new-jumps.ensures.items) in
    let starts = c.in_ok-emit_answers.ensures.starts ∙ ap (λ l. l ++ starts_from s (length two) all) c.new-starts.ensures.items in
    let after_is : c.code_place.result.0 ≡ length three = omega (arith, c.code_place.ensures, c.len.ensures) in
    let here : c.len-first.result ≡ length old = omega (arith, c.len-first.ensures) in
    let after = place_is c.code_place.result (length three) after_is in
    let tests = c.in_ok-emit_tests.ensures ∙ ap (λ l. c.new-tests.result.items ++ tests_by l all) c.deref-2.ensures.value ∙ ap (λ l. l ++ tests_by c.emit_answers.new.starts.items all) c.new-tests.ensures.items in
    c.fill_places.ensures
    ∙ ap (filled c.land_jumps.new.code.items c.len-first.result) c.deref-3.ensures.value
    ∙ ap (λ n. filled c.land_jumps.new.code.items n c.emit_tests.new.code.items) here
    ∙ ap (λ l. filled l (length old) c.emit_tests.new.code.items) (c.land_jumps.ensures ∙ ap (landed c.code_place.result three) c.deref.ensures.value ∙ ap (λ p. landed p three c.emit_answers.new.jumps.items) after)
    ∙ integer_lands s to all old c.requires.fits _ c.tests_length.result c.tests_length.ensures one c.in_ok-keep_places.ensures two c.in_ok-emit_else.ensures.code three c.in_ok-emit_answers.ensures.code
    c.emit_answers.new.starts.items starts c.emit_tests.new.code.items tests c.emit_answers.new.jumps.items jumps

pub emit_integer-returns-clause-goes : goal.emit_integer-returns-clause-goes
emit_integer-returns-clause-goes t c =
    let s = scope_in c.args.names.now in let to = places_by c.args.places.now in
    let all = choice_of c.args.decision.now in
    let one = c.keep_places.new.code.items in let two = c.emit_else.new.code.items in
    let jumps = c.in_ok-emit_answers.ensures.jumps ∙ ap (λ l. l ++ answers_leave s to (length two) all) (c.in_ok-emit_else.ensures.jumps ∙ ap (λ l. l ++ else_leave s to (length one) all) c.new-jumps.ensures.items) in
    c.has_any.ensures ∙ ap has_any (c.deref-4.ensures.value ∙ jumps) ∙ integer_goes s to (length two) (length one) all

pub emit_truth-code_place-otherwise-requires : goal.emit_truth-code_place-otherwise-requires
emit_truth-code_place-otherwise-requires t c =
    let s = scope_in c.args.names.now in let to = places_by c.args.places.now in
    let low = truth_else_low s to (choice_of c.args.decision.now) c.args.code.now.items c.requires.fits _ c.put.new.code.items c.in_ok-put.ensures c.emit_answers.new.code.items c.in_ok-emit_answers.ensures.code in
    omega (arith, low, c.len.ensures)

pub emit_truth-code_place-requires : goal.emit_truth-code_place-requires
emit_truth-code_place-requires t c =
    let s = scope_in c.args.names.now in let to = places_by c.args.places.now in
    let low = truth_low s to (choice_of c.args.decision.now) c.args.code.now.items c.requires.fits _ c.put.new.code.items c.in_ok-put.ensures c.emit_answers.new.code.items c.in_ok-emit_answers.ensures.code
    c.emit_else.new.code.items c.in_ok-emit_else.ensures.code in
    omega (arith, low, c.len-2.ensures)

pub emit_integer-code_place-requires : goal.emit_integer-code_place-requires
emit_integer-code_place-requires t c =
    let s = scope_in c.args.names.now in let to = places_by c.args.places.now in
    let low = integer_low s to (choice_of c.args.decision.now) c.args.code.now.items c.requires.fits _ c.tests_length.result c.tests_length.ensures c.keep_places.new.code.items c.in_ok-keep_places.ensures
    c.emit_else.new.code.items c.in_ok-emit_else.ensures.code c.emit_answers.new.code.items c.in_ok-emit_answers.ensures.code in
    omega (arith, low, c.len.ensures)

pub emit_integer-fill_places-requires : goal.emit_integer-fill_places-requires
emit_integer-fill_places-requires t c =
    let s = scope_in c.args.names.now in let to = places_by c.args.places.now in
    let all = choice_of c.args.decision.now in
    let two = c.emit_else.new.code.items in
    let starts = c.in_ok-emit_answers.ensures.starts ∙ ap (λ l. l ++ starts_from s (length two) all) c.new-starts.ensures.items in
    let tests = c.in_ok-emit_tests.ensures ∙ ap (λ l. c.new-tests.result.items ++ tests_by l all) c.deref-2.ensures.value ∙ ap (λ l. l ++ tests_by c.emit_answers.new.starts.items all) c.new-tests.ensures.items in
    let fit = integer_tests_fit s to all c.args.code.now.items c.requires.fits _ c.tests_length.result c.tests_length.ensures c.keep_places.new.code.items c.in_ok-keep_places.ensures
    two c.in_ok-emit_else.ensures.code c.emit_answers.new.code.items c.in_ok-emit_answers.ensures.code c.emit_answers.new.starts.items starts c.emit_tests.new.code.items tests in
    omega (arith, fit, c.len-first.ensures, ap length c.deref-3.ensures.value)

pub emit_body-returns : goal.emit_body-returns
emit_body-returns t c =
    let s = scope_in c.args.names.now in let to = places_by c.args.places.now in
    let x = text_of c.args.body.now in
    let old = c.args.code.now.items in
    let one = c.emit_text.new.code.items in
    record {
      code = on_ok_weaker c.leave.result (λ f. left_code s to x old one c.in_ok-goes.goes c.in_ok-goes.ensures.code c.in_ok-goes.ensures.goes c.leave.new.code.items f) c.leave.ensures.code;
      jumps = on_ok_weaker c.leave.result (λ f. left_told s to x old one c.in_ok-goes.goes c.in_ok-goes.ensures.code c.in_ok-goes.ensures.goes c.args.jumps.now.items c.leave.new.jumps.items f) c.leave.ensures.jumps;
    }

pub emit_answers-loop-answer-init : goal.emit_answers-loop-answer-init
emit_answers-loop-answer-init t c =
    let s = scope_in c.args.names.now in let to = places_by c.args.places.now in
    let old = c.args.code.now.items in
    let others = else_choice (out-Decision c.args.decision.now).otherwise in
    let is = ap (λ l. answers_before l others) c.deref-answer-items.ensures.value in
    record {
      code = ap (λ k. old ++ answers_code s to (length old) 0 k) is;
      jumps = ap (λ k. c.args.jumps.now.items ++ answers_leave s to (length old) k) is;
      starts = ap (λ k. c.args.starts.now.items ++ starts_from s (length old) k) is;
      named = subst (NamedChoice s (question_in c.args.decision.now)) (sym is) c.requires.named;
      fits = subst (λ k. length old + answers_size s k ≤ 512) (sym is) c.requires.fits;
    }

pub emit_answers-code_place-requires : goal.emit_answers-code_place-requires
emit_answers-code_place-requires t c = omega (arith, c.loop-answer.invariant.fits, c.len.ensures)

pub emit_answers-emit_body-requires : goal.emit_answers-emit_body-requires
emit_answers-emit_body-requires t c =
    let s = scope_in c.args.names.now in let to = places_by c.args.places.now in
    let q = question_in c.args.decision.now in
    let list = c.deref-answer-items.result.now in let i = c.loop-answer.answer-index in
    let a = c.answer-item.result in
    let o = else_choice (out-Decision c.args.decision.now).otherwise in
    let whole = answers_before (drop i list) o in
    let rest = answers_before (drop (i + 1) list) o in
    let is = one_answer list i a o c.loop-answer-test.true c.answer-item.is in
    let named = answer_named s to q a.at a.ranges.items (text_of a.body) whole rest is c.loop-answer.invariant.named in
    (search (rules, the_lemmas), (named, (omega (arith, c.loop-answer.invariant.fits, ap (answers_size s) is), c.requires.low)))

pub emit_answers-returns : goal.emit_answers-returns
emit_answers-returns t c =
    let s = scope_in c.args.names.now in let to = places_by c.args.places.now in
    let now = c.loop-answer.code.items in
    let n = length now in
    let xs = c.deref-answer-items.result.now in
    let i = c.loop-answer.answer-index in
    let o = (out-Decision c.args.decision.now).otherwise in
    let past : length xs ≤ i = omega (arith, c.loop-answer-test.false) in
    record {
      code = sym (append-nil now) ∙ ap (λ l. now ++ l) (sym (no_code s n to 0 o)) ∙ answers_past (λ k. now ++ answers_code s to n 0 k) _ xs i (else_choice o) past c.loop-answer.invariant.code;
      jumps = sym (append-nil c.loop-answer.jumps.items) ∙ ap (λ l. c.loop-answer.jumps.items ++ l) (sym (no_leave s n to o)) ∙ answers_past (λ k. c.loop-answer.jumps.items ++ answers_leave s to n k) _ xs i (else_choice o) past c.loop-answer.invariant.jumps;
      starts = sym (append-nil c.loop-answer.starts.items) ∙ ap (λ l. c.loop-answer.starts.items ++ l) (sym (no_starts s n o)) ∙ answers_past (λ k. c.loop-answer.starts.items ++ starts_from s n k) _ xs i (else_choice o) past c.loop-answer.invariant.starts;
    }

pub emit_statement-emit_action-requires : goal.emit_statement-emit_action-requires
emit_statement-emit_action-requires t c =
    (subst (NamedText (scope_in c.args.names.now)) (acted c.args.statement.now c.in-Act.action c.in-Act.is falls) c.requires.named).0

pub emit_statement-emit_decision-requires : goal.emit_statement-emit_decision-requires
emit_statement-emit_decision-requires t c =
    let s = scope_in c.args.names.now in
    let is = is_decision c.args.statement.now c.in-Decide.decision c.in-Decide.is falls in
    let fits = subst (λ t. length c.args.code.now.items + size (variables_of s.process) t ≤ 512) is c.requires.fits in
    (search (rules, the_lemmas), (subst (NamedText s) is c.requires.named, (fits, c.requires.low)))

pub emit_statement-returns-in_ok-emit_action-in-Act : goal.emit_statement-returns-in_ok-emit_action-in-Act
emit_statement-returns-in_ok-emit_action-in-Act t c =
    let s = scope_in c.args.names.now in let to = places_by c.args.places.now in
    let old = c.args.code.now.items in
    let a = c.in-Act.action in
    record {
      code = c.in_ok-emit_action-in-Act.ensures ∙ ap (λ l. old ++ l) (sym (append-nil (action_code s (action_of a))))
          ∙ ap (λ t. old ++ text_code s to (length old) t) (sym (acted c.args.statement.now a c.in-Act.is falls));
      goes = λ rest. ap goes_on (acted c.args.statement.now a c.in-Act.is rest);
    }

pub emit_statement-returns-in-Decide : goal.emit_statement-returns-in-Decide
emit_statement-returns-in-Decide t c =
    let s = scope_in c.args.names.now in let to = places_by c.args.places.now in
    let old = c.args.code.now.items in
    let d = c.in-Decide.decision in
    record {
      code = on_ok_weaker c.emit_decision.result
          (λ f. f ∙ ap (λ t. old ++ text_code s to (length old) t) (sym (is_decision c.args.statement.now d c.in-Decide.is falls)))
          c.emit_decision.ensures.code;
      goes = IfOk-weaker c.emit_decision.result _ _
          (λ v h rest. ap goes_on (decided c.args.statement.now d c.in-Decide.is rest) ∙ ap (λ b. b && goes_on rest) (sym h))
          c.emit_decision.ensures.goes;
    }

pub emit_text-loop-statement-init : goal.emit_text-loop-statement-init
emit_text-loop-statement-init t c =
    let s = scope_in c.args.names.now in let to = places_by c.args.places.now in
    let old = c.args.code.now.items in
    let end = end_text c.args.transition.now.end in
    let is = ap (λ l. statements_before l end) c.deref-statement-items.ensures.value ∙ sym (text_of-is c.args.transition.now) in
    record {
      code = ap (λ t. old ++ text_code s to (length old) t) is;
      goes = ap goes_on is;
      named = subst (NamedText s) (sym is) c.requires.named;
      fits = subst (λ t. length old + size (variables_of s.process) t ≤ 512) (sym is) c.requires.fits;
    }

pub emit_text-emit_statement-requires : goal.emit_text-emit_statement-requires
emit_text-emit_statement-requires t c =
    let s = scope_in c.args.names.now in let to = places_by c.args.places.now in
    let list = c.deref-statement-items.result.now in let i = c.loop-statement.statement-index in
    let x = c.statement-item.result in
    let e = end_text c.args.transition.now.end in
    let whole = statements_before (drop i list) e in
    let rest = statements_before (drop (i + 1) list) e in
    let is = one_statement list i x e c.loop-statement-test.true c.statement-item.is in
    let old = c.loop-statement.code.items in
    let named = statement_named s to x whole rest is old c.loop-statement.invariant.named in
    let fits = statement_fits s to x whole rest is old c.loop-statement.invariant.fits in
    (search (rules, the_lemmas), (named, (fits, c.requires.low)))

pub emit_text-emit_end-requires : goal.emit_text-emit_end-requires
emit_text-emit_end-requires t c =
    let s = scope_in c.args.names.now in
    let list = c.deref-statement-items.result.now in let i = c.loop-statement.statement-index in
    record {
      named = subst (λ o. NamedText s (end_text o)) c.in-Some.is
          (subst (λ l. NamedText s (statements_before l (end_text c.args.transition.now.end))) (drop_all i list c.loop-statement-test.false) c.loop-statement.invariant.named);
      low = c.requires.low;
    }

pub emit_text-returns-in_ok-emit_end-in-Some : goal.emit_text-returns-in_ok-emit_end-in-Some
emit_text-returns-in_ok-emit_end-in-Some t c =
    let s = scope_in c.args.names.now in let to = places_by c.args.places.now in
    let now = c.loop-statement.code.items in let goes = c.loop-statement.goes in
    let list = c.deref-statement-items.result.now in let i = c.loop-statement.statement-index in
    let end = end_text c.args.transition.now.end in
    let is = sym (ap end_text c.in-Some.is) in
    let past = c.loop-statement-test.false in
    let f = λ (t : Text). now ++ text_code s to (length now) t in
    let g = λ (t : Text). goes && goes_on t in
    record {
      code = c.in_ok-emit_end-in-Some.ensures ∙ ap f is ∙ statements_past f _ list i end past c.loop-statement.invariant.code;
      goes = sym (and-false goes) ∙ ap g is ∙ statements_past g _ list i end past c.loop-statement.invariant.goes;
    }

pub emit_text-returns-in-None : goal.emit_text-returns-in-None
emit_text-returns-in-None t c =
    let s = scope_in c.args.names.now in let to = places_by c.args.places.now in
    let now = c.loop-statement.code.items in let goes = c.loop-statement.goes in
    let list = c.deref-statement-items.result.now in let i = c.loop-statement.statement-index in
    let end = end_text c.args.transition.now.end in
    let is = sym (ap end_text c.in-None.is) in
    let past = c.loop-statement-test.false in
    let f = λ (t : Text). now ++ text_code s to (length now) t in
    let g = λ (t : Text). goes && goes_on t in
    record {
      code = sym (append-nil now) ∙ ap f is ∙ statements_past f _ list i end past c.loop-statement.invariant.code;
      goes = sym (and-true goes) ∙ ap g is ∙ statements_past g _ list i end past c.loop-statement.invariant.goes;
    }
