-- Actions, questions and synonyms read such that no expression above one that is too high is built.
use Rattle.std.proofs.Common.{◌≡◌, ℕ, List, [], ◌∷◌, Option, Some, None, map, refl, ap}
use Rattle.std.specs.List.{filter_map}
use Rattle.sdl_lex.specs.declared.lexemes.Word.TheVariants as words
use Rattle.sdl_lex.specs.declared.lexemes.Symbol.TheVariants.{Assign, Open, Close, Plus, Comma, Equal}
use Rattle.sdl_productions.specs.Tokens.{a_symbol, a_word, a_name, a_sort, a_quoted}
use Rattle.sdl_ast.specs.Plain.{Tree, PlainAssignment, PlainSending, PlainAction, task, output, set_timer, reset_timer, PlainQuestion, PlainSynonym}
use Rattle.sdl_productions.specs.Productions.{assignment_at, assigned_at, quoted_at, item_at, task_at, sending_at, destination_at, output_at, delay_at, set_at, reset_at, action_at, question_at}
use Rattle.sdl_productions.specs.DeclarationProductions.{terminator_at, synonym_at, synonyms_at}
use Rattle.sdl_productions.specs.Readings.{read, At, choice, optional, give, token, separated, list_in_parentheses}
use Rattle.sdl_productions.specs.Machine.{whole_trees, low_trees, lowered, expression_at}
use Rattle.sdl_productions.proofs.Lowering.{mapped, Lowers, expression_lowers, give_lowers, then_lowers, next_lowers, choice_lowers, separated_lowers, list_lowers}

-- The parts of a tree with lowered expressions.

unfoldable pub lowered_assignment : PlainAssignment → PlainAssignment
lowered_assignment a = record { variable = a.variable; value = lowered a.value }

unfoldable pub lowered_item : Option PlainAssignment → Option PlainAssignment
lowered_item None = None
lowered_item (Some a) = Some (lowered_assignment a)

unfoldable pub lowered_sending : PlainSending → PlainSending
lowered_sending s = record { signal = s.signal; parameters = map lowered s.parameters }

unfoldable pub lowered_action : PlainAction → PlainAction
lowered_action (task at assignments) = task at (map lowered_assignment assignments)
lowered_action (output at sendings to) = output at (map lowered_sending sendings) to
lowered_action (set_timer at delay timer) = set_timer at (lowered delay) timer
lowered_action (reset_timer at timer) = reset_timer at timer

unfoldable pub lowered_question : PlainQuestion → PlainQuestion
lowered_question q = record { at = q.at; question = lowered q.question }

abbrev low : At Tree
low = expression_at low_trees

abbrev whole : At Tree
whole = expression_at whole_trees

-- Quoted texts can be dropped before or after lowering.
kept_lowered : (items : List (Option PlainAssignment)) → filter_map (λ i. i) (map lowered_item items) ≡ map lowered_assignment (filter_map (λ i. i) items)
unfolding lowered_item
kept_lowered [] = refl
kept_lowered (None ∷ items) = kept_lowered items
kept_lowered (Some a ∷ items) = ap (λ xs. lowered_assignment a ∷ xs) (kept_lowered items)

give_task_lowers : (at : ℕ) (items : List (Option PlainAssignment))
    → Lowers lowered_action (give (task at (filter_map (λ i. i) items))) (give (task at (filter_map (λ i. i) (map lowered_item items))))
unfolding Lowers mapped lowered_action
give_task_lowers at items ts = ap (λ xs. read (task at xs) ts) (kept_lowered items)

assignment_lowers : Lowers lowered_assignment (assignment_at whole) (assignment_at low)
unfolding assignment_at lowered_assignment
assignment_lowers =
    next_lowers lowered_assignment (token a_name) _ _ λ variable. next_lowers lowered_assignment (token (a_symbol Assign)) _ _ λ _.
    then_lowers lowered lowered_assignment whole _ low _ expression_lowers λ value.
    give_lowers lowered_assignment (record { variable = variable; value = value })

assigned_lowers : Lowers lowered_item (assigned_at whole) (assigned_at low)
unfolding assigned_at lowered_item
assigned_lowers =
    then_lowers lowered_assignment lowered_item (assignment_at whole) _ (assignment_at low) _ assignment_lowers λ assignment.
    give_lowers lowered_item (Some assignment)

quoted_lowers : Lowers lowered_item quoted_at quoted_at
unfolding quoted_at lowered_item
quoted_lowers =
    next_lowers lowered_item (token a_quoted) _ _ λ _. give_lowers lowered_item None

item_lowers : Lowers lowered_item (item_at whole) (item_at low)
unfolding item_at
item_lowers = choice_lowers lowered_item a_quoted quoted_at (assigned_at whole) quoted_at (assigned_at low) quoted_lowers assigned_lowers

task_lowers : Lowers lowered_action (task_at whole) (task_at low)
unfolding task_at lowered_action
task_lowers =
    next_lowers lowered_action (token (a_word words.Task)) _ _ λ at.
    then_lowers (map lowered_item) lowered_action (separated (item_at whole)) _ (separated (item_at low)) _ (separated_lowers lowered_item (item_at whole) (item_at low) item_lowers) λ items.
    next_lowers lowered_action terminator_at _ _ λ _. give_task_lowers at items

sending_lowers : Lowers lowered_sending (sending_at whole) (sending_at low)
unfolding sending_at lowered_sending
sending_lowers =
    next_lowers lowered_sending (token a_name) _ _ λ signal.
    then_lowers (map lowered) lowered_sending (list_in_parentheses whole) _ (list_in_parentheses low) _ (list_lowers lowered whole low expression_lowers) λ parameters.
    give_lowers lowered_sending (record { signal = signal; parameters = parameters })

output_lowers : Lowers lowered_action (output_at whole) (output_at low)
unfolding output_at lowered_action
output_lowers =
    next_lowers lowered_action (token (a_word words.Output)) _ _ λ at.
    then_lowers (map lowered_sending) lowered_action (separated (sending_at whole)) _ (separated (sending_at low)) _ (separated_lowers lowered_sending (sending_at whole) (sending_at low) sending_lowers) λ sendings.
    next_lowers lowered_action (optional (a_word words.To) destination_at) _ _ λ to. next_lowers lowered_action terminator_at _ _ λ _.
    give_lowers lowered_action (output at sendings to)

delay_lowers : Lowers lowered (delay_at whole) (delay_at low)
unfolding delay_at
delay_lowers =
    next_lowers lowered (token (a_symbol Open)) _ _ λ _. next_lowers lowered (token (a_word words.Now)) _ _ λ _.
    next_lowers lowered (token (a_symbol Plus)) _ _ λ _. then_lowers lowered lowered whole _ low _ expression_lowers λ delay.
    next_lowers lowered (token (a_symbol Comma)) _ _ λ _. give_lowers lowered delay

set_lowers : Lowers lowered_action (set_at whole) (set_at low)
unfolding set_at lowered_action
set_lowers =
    next_lowers lowered_action (token (a_word words.Set)) _ _ λ at.
    then_lowers lowered lowered_action (delay_at whole) _ (delay_at low) _ delay_lowers λ delay. next_lowers lowered_action (token a_name) _ _ λ timer.
    next_lowers lowered_action (token (a_symbol Close)) _ _ λ _. next_lowers lowered_action terminator_at _ _ λ _.
    give_lowers lowered_action (set_timer at delay timer)

reset_lowers : Lowers lowered_action reset_at reset_at
unfolding reset_at lowered_action
reset_lowers =
    next_lowers lowered_action (token (a_word words.Reset)) _ _ λ at. next_lowers lowered_action (token (a_symbol Open)) _ _ λ _.
    next_lowers lowered_action (token a_name) _ _ λ timer. next_lowers lowered_action (token (a_symbol Close)) _ _ λ _.
    next_lowers lowered_action terminator_at _ _ λ _. give_lowers lowered_action (reset_timer at timer)

pub action_lowers : Lowers lowered_action (action_at whole) (action_at low)
unfolding action_at
action_lowers = choice_lowers lowered_action (a_word words.Task) (task_at whole) (choice (a_word words.Output) (output_at whole) (choice (a_word words.Set) (set_at whole) reset_at)) (task_at low) (choice (a_word words.Output) (output_at low) (choice (a_word words.Set) (set_at low) reset_at)) task_lowers (choice_lowers lowered_action (a_word words.Output) (output_at whole) (choice (a_word words.Set) (set_at whole) reset_at) (output_at low) (choice (a_word words.Set) (set_at low) reset_at) output_lowers (choice_lowers lowered_action (a_word words.Set) (set_at whole) reset_at (set_at low) reset_at set_lowers reset_lowers))

pub question_lowers : Lowers lowered_question (question_at whole) (question_at low)
unfolding question_at lowered_question
question_lowers =
    next_lowers lowered_question (token (a_word words.Decision)) _ _ λ at. then_lowers lowered lowered_question whole _ low _ expression_lowers λ question.
    next_lowers lowered_question terminator_at _ _ λ _. give_lowers lowered_question (record { at = at; question = question })

unfoldable pub lowered_synonym : PlainSynonym → PlainSynonym
lowered_synonym s = record { name = s.name; sort = s.sort; value = lowered s.value }

synonym_lowers : Lowers lowered_synonym (synonym_at whole) (synonym_at low)
unfolding synonym_at lowered_synonym
synonym_lowers =
    next_lowers lowered_synonym (token a_name) _ _ λ name. next_lowers lowered_synonym (optional a_sort (token a_sort)) _ _ λ sort.
    next_lowers lowered_synonym (token (a_symbol Equal)) _ _ λ _. then_lowers lowered lowered_synonym whole _ low _ expression_lowers λ value.
    give_lowers lowered_synonym (record { name = name; sort = sort; value = value })

pub synonyms_lowers : Lowers (map lowered_synonym) (synonyms_at whole) (synonyms_at low)
unfolding synonyms_at
synonyms_lowers =
    next_lowers (map lowered_synonym) (token (a_word words.Synonym)) _ _ λ _.
    then_lowers (map lowered_synonym) (map lowered_synonym) (separated (synonym_at whole)) _ (separated (synonym_at low)) _ (separated_lowers lowered_synonym (synonym_at whole) (synonym_at low) synonym_lowers) λ list.
    next_lowers (map lowered_synonym) terminator_at _ _ λ _. give_lowers (map lowered_synonym) list
