-- No reading leaves more tokens than it was given. tools/productions writes the lemmas for productions of Syntax.
use Rattle.std.specs.Prelude.{ℕ, suc, zero, ◌≤◌, List, [], ◌∷◌, Option, Some, None, length}
use Rattle.sdl_lex.specs.declared.lexemes.Word.TheVariants as words
use Rattle.sdl_lex.specs.declared.lexemes.Symbol.TheVariants.{Semicolon, Comma, Assign, Open, Close, Plus, Minus, Colon, Equal}
use Rattle.sdl_ast.specs.Plain.{Tree, PlainHead}
use Rattle.sdl_productions.specs.Bodies.{Keeping, whole_texts, Branching, Body, Reached, Move, reaches, closes, with_answer}
use Rattle.sdl_productions.specs.Tokens.{a_word, a_symbol, a_number, a_name, a_sort, a_party, a_constant, a_negated, a_count, the_number, a_closing, a_quoted, a_destination, a_declaration, a_clause, an_action, an_end, a_choice, a_relation, a_section}
use Rattle.sdl_productions.specs.Machine.{whole_trees, low_trees, expression_at}
use Rattle.sdl_productions.specs.Readings.{At, optional, token, Shortens, NeverLonger}
use Rattle.sdl_productions.specs.Productions.{place_at, stimulus_at, assignment_at, assigned_at, quoted_at, item_at, task_at, sending_at, destination_at, output_at, delay_at, set_at, reset_at, action_at, next_state_at, stop_at, end_at, head_step, closing_step, answer_step, body_step, behind_step, end_step, decision_step, action_step, step_at, after_move, steps_for, steps_from, at_first, text_at, input_at, save_at, clause_at, closing_at, end_state_at, state_at, start_at, second_number_at, instances_at, process_head_at, process_at, entity_at, compared_at, upper_at, value_at, range_at, answer_head_at, else_head_at, some_head_at, no_head_at, head_at, question_at, end_decision_at, join_at, end_connection_at, connection_at, state_section_at, connection_section_at, section_at}
use Rattle.sdl_productions.specs.DeclarationProductions.{comment_at, signal_at, signals_at, path_at, route_at, connect_at, negative_at, constant_at, initial_at, group_at, variables_at, timers_at, synonym_at, synonyms_at, block_synonyms_at, own_synonyms_at, declaration_at, terminator_at}
use Rattle.sdl_productions.proofs.TokenRests.{not_read, less_never_longer, shortens_token, keeps_give, keeps_token, ◌>>=◌, first_takes, keeps_choice, takes_choice, keeps_optional, keeps_many, keeps_separated_from, keeps_separated, keeps_list}
use Rattle.sdl_productions.proofs.Rests.{expression_keeps, low_keeps}

pub name_keeps : NeverLonger (token a_name)
name_keeps = keeps_token a_name

pub sort_keeps : NeverLonger (token a_sort)
sort_keeps = keeps_token a_sort

pub comment_keeps : NeverLonger comment_at
unfolding comment_at
comment_keeps = keeps_token (a_word words.Comment) >>= λ _. keeps_token a_quoted

pub terminator_keeps : NeverLonger terminator_at
unfolding terminator_at
terminator_keeps = keeps_optional (a_word words.Comment) comment_keeps >>= λ _. keeps_token (a_symbol Semicolon)

pub signal_keeps : NeverLonger signal_at
unfolding signal_at
signal_keeps = name_keeps >>= λ name. keeps_list sort_keeps >>= λ parameters. keeps_give _

pub signals_takes : Shortens signals_at
unfolding signals_at
signals_takes =
    first_takes (shortens_token (a_word words.Signal)) λ _.
    keeps_separated signal_keeps >>= λ declared. terminator_keeps >>= λ _. keeps_give _

pub path_keeps : NeverLonger path_at
unfolding path_at
path_keeps =
    keeps_token (a_word words.From) >>= λ _. keeps_token a_party >>= λ from. keeps_token (a_word words.To) >>=
    λ _. keeps_token a_party >>= λ to. keeps_token (a_word words.With) >>= λ _. keeps_separated name_keeps >>=
    λ brought. terminator_keeps >>= λ _. keeps_give _

pub route_takes : Shortens route_at
unfolding route_at
route_takes =
    first_takes (shortens_token (a_word words.SignalRoute)) λ _.
    name_keeps >>= λ name. path_keeps >>= λ first. keeps_optional (a_word words.From) path_keeps >>= λ second. keeps_give _

pub connect_takes : Shortens connect_at
unfolding connect_at
connect_takes =
    first_takes (shortens_token (a_word words.Connect)) λ _.
    keeps_separated name_keeps >>= λ channels. keeps_token (a_word words.And) >>= λ _. keeps_separated name_keeps >>=
    λ routes. terminator_keeps >>= λ _. keeps_give _

pub negative_keeps : NeverLonger negative_at
unfolding negative_at
negative_keeps = keeps_token (a_symbol Minus) >>= λ at. keeps_token (a_negated at)

pub constant_keeps : NeverLonger constant_at
unfolding constant_at
constant_keeps = keeps_choice (a_symbol Minus) negative_keeps (keeps_token a_constant)

pub initial_keeps : NeverLonger initial_at
unfolding initial_at
initial_keeps = keeps_token (a_symbol Assign) >>= λ _. constant_keeps

pub group_keeps : NeverLonger group_at
unfolding group_at
group_keeps =
    keeps_separated name_keeps >>= λ names. sort_keeps >>= λ sort. keeps_optional (a_symbol Assign) initial_keeps >>=
    λ initial. keeps_give _

pub variables_takes : Shortens variables_at
unfolding variables_at
variables_takes =
    first_takes (shortens_token (a_word words.Dcl)) λ _.
    keeps_separated group_keeps >>= λ groups. terminator_keeps >>= λ _. keeps_give _

pub timers_takes : Shortens timers_at
unfolding timers_at
timers_takes =
    first_takes (shortens_token (a_word words.Timer)) λ _.
    keeps_separated name_keeps >>= λ names. terminator_keeps >>= λ _. keeps_give _

pub synonym_keeps : (e : At Tree) → NeverLonger e → NeverLonger (synonym_at e)
unfolding synonym_at
synonym_keeps e k = name_keeps >>= λ name. keeps_optional a_sort sort_keeps >>= λ sort. keeps_token (a_symbol Equal) >>= λ _. k >>= λ value. keeps_give _

pub synonyms_takes : (e : At Tree) → NeverLonger e → Shortens (synonyms_at e)
unfolding synonyms_at
synonyms_takes e k = first_takes (shortens_token (a_word words.Synonym)) λ _. keeps_separated (synonym_keeps e k) >>= λ list. terminator_keeps >>= λ _. keeps_give _

pub synonyms_keeps : (e : At Tree) → NeverLonger e → NeverLonger (synonyms_at e)
synonyms_keeps e k = less_never_longer _ (synonyms_takes e k)

pub block_synonyms_takes : Shortens block_synonyms_at
unfolding block_synonyms_at
block_synonyms_takes = first_takes (synonyms_takes (expression_at whole_trees) (expression_keeps whole_trees)) λ list. keeps_give _

pub own_synonyms_takes : Shortens own_synonyms_at
unfolding own_synonyms_at
own_synonyms_takes = first_takes (synonyms_takes (expression_at whole_trees) (expression_keeps whole_trees)) λ list. keeps_give _

pub declaration_takes : Shortens declaration_at
unfolding declaration_at
declaration_takes = takes_choice (a_word words.Dcl) variables_takes (takes_choice (a_word words.Synonym) own_synonyms_takes timers_takes)

pub declaration_keeps : NeverLonger declaration_at
declaration_keeps = less_never_longer _ declaration_takes

pub place_keeps : NeverLonger place_at
unfolding place_at
place_keeps = keeps_optional a_name name_keeps

pub stimulus_keeps : NeverLonger stimulus_at
unfolding stimulus_at
stimulus_keeps = name_keeps >>= λ name. keeps_list place_keeps >>= λ places. keeps_give _

pub assignment_keeps : (e : At Tree) → NeverLonger e → NeverLonger (assignment_at e)
unfolding assignment_at
assignment_keeps e k = name_keeps >>= λ variable. keeps_token (a_symbol Assign) >>= λ _. k >>= λ value. keeps_give _

pub assigned_keeps : (e : At Tree) → NeverLonger e → NeverLonger (assigned_at e)
unfolding assigned_at
assigned_keeps e k = assignment_keeps e k >>= λ assignment. keeps_give _

pub quoted_keeps : NeverLonger quoted_at
unfolding quoted_at
quoted_keeps = keeps_token a_quoted >>= λ _. keeps_give _

pub item_keeps : (e : At Tree) → NeverLonger e → NeverLonger (item_at e)
unfolding item_at
item_keeps e k = keeps_choice a_quoted quoted_keeps (assigned_keeps e k)

pub task_takes : (e : At Tree) → NeverLonger e → Shortens (task_at e)
unfolding task_at
task_takes e k =
    first_takes (shortens_token (a_word words.Task)) λ at.
    keeps_separated (item_keeps e k) >>= λ items. terminator_keeps >>= λ _. keeps_give _

pub sending_keeps : (e : At Tree) → NeverLonger e → NeverLonger (sending_at e)
unfolding sending_at
sending_keeps e k = name_keeps >>= λ signal. keeps_list k >>= λ parameters. keeps_give _

pub destination_keeps : NeverLonger destination_at
unfolding destination_at
destination_keeps = keeps_token (a_word words.To) >>= λ _. keeps_token a_destination

pub output_takes : (e : At Tree) → NeverLonger e → Shortens (output_at e)
unfolding output_at
output_takes e k =
    first_takes (shortens_token (a_word words.Output)) λ at.
    keeps_separated (sending_keeps e k) >>= λ sendings. keeps_optional (a_word words.To) destination_keeps >>=
    λ to. terminator_keeps >>= λ _. keeps_give _

pub delay_keeps : (e : At Tree) → NeverLonger e → NeverLonger (delay_at e)
unfolding delay_at
delay_keeps e k =
    keeps_token (a_symbol Open) >>= λ _. keeps_token (a_word words.Now) >>= λ _. keeps_token (a_symbol Plus) >>= λ _. k >>=
    λ delay. keeps_token (a_symbol Comma) >>= λ _. keeps_give _

pub set_takes : (e : At Tree) → NeverLonger e → Shortens (set_at e)
unfolding set_at
set_takes e k =
    first_takes (shortens_token (a_word words.Set)) λ at.
    delay_keeps e k >>= λ delay. name_keeps >>= λ timer. keeps_token (a_symbol Close) >>= λ _. terminator_keeps >>= λ _. keeps_give _

pub reset_takes : Shortens reset_at
unfolding reset_at
reset_takes =
    first_takes (shortens_token (a_word words.Reset)) λ at.
    keeps_token (a_symbol Open) >>= λ _. name_keeps >>= λ timer. keeps_token (a_symbol Close) >>= λ _. terminator_keeps >>=
    λ _. keeps_give _

pub action_takes : (e : At Tree) → NeverLonger e → Shortens (action_at e)
unfolding action_at
action_takes e k = takes_choice (a_word words.Task) (task_takes e k) (takes_choice (a_word words.Output) (output_takes e k) (takes_choice (a_word words.Set) (set_takes e k) reset_takes))

pub action_keeps : (e : At Tree) → NeverLonger e → NeverLonger (action_at e)
action_keeps e k = less_never_longer _ (action_takes e k)

pub compared_keeps : NeverLonger compared_at
unfolding compared_at
compared_keeps = keeps_token a_relation >>= λ compared. constant_keeps >>= λ constant. keeps_give _

pub upper_keeps : NeverLonger upper_at
unfolding upper_at
upper_keeps = keeps_token (a_symbol Colon) >>= λ _. constant_keeps

pub value_keeps : NeverLonger value_at
unfolding value_at
value_keeps = constant_keeps >>= λ low. keeps_optional (a_symbol Colon) upper_keeps >>= λ high. keeps_give _

pub range_keeps : NeverLonger range_at
unfolding range_at
range_keeps = keeps_choice a_relation compared_keeps value_keeps

pub answer_head_takes : Shortens answer_head_at
unfolding answer_head_at
answer_head_takes =
    first_takes (shortens_token (a_symbol Open)) λ at.
    keeps_separated range_keeps >>= λ ranges. keeps_token (a_symbol Close) >>= λ _. keeps_token (a_symbol Colon) >>= λ _. keeps_give _

pub else_head_takes : Shortens else_head_at
unfolding else_head_at
else_head_takes =
    first_takes (shortens_token (a_word words.Else)) λ at.
    keeps_token (a_symbol Colon) >>= λ _. keeps_give _

pub some_head_takes : Shortens some_head_at
unfolding some_head_at
some_head_takes =
    first_takes answer_head_takes λ head.
    keeps_give _

pub no_head_takes : Shortens no_head_at
unfolding no_head_at
no_head_takes =
    first_takes else_head_takes λ _.
    keeps_give _

pub head_takes : Shortens head_at
unfolding head_at
head_takes = takes_choice (a_symbol Open) some_head_takes no_head_takes

pub question_takes : (e : At Tree) → NeverLonger e → Shortens (question_at e)
unfolding question_at
question_takes e k =
    first_takes (shortens_token (a_word words.Decision)) λ at.
    k >>= λ question. terminator_keeps >>= λ _. keeps_give _

pub end_decision_takes : Shortens end_decision_at
unfolding end_decision_at
end_decision_takes =
    first_takes (shortens_token (a_word words.EndDecision)) λ at.
    terminator_keeps >>= λ _. keeps_give _

pub next_state_keeps : NeverLonger next_state_at
unfolding next_state_at
next_state_keeps = keeps_token (a_word words.NextState) >>= λ at. name_keeps >>= λ state. terminator_keeps >>= λ _. keeps_give _

pub stop_keeps : NeverLonger stop_at
unfolding stop_at
stop_keeps = keeps_token (a_word words.Stop) >>= λ at. terminator_keeps >>= λ _. keeps_give _

pub join_keeps : NeverLonger join_at
unfolding join_at
join_keeps = keeps_token (a_word words.Join) >>= λ at. name_keeps >>= λ connector. terminator_keeps >>= λ _. keeps_give _

pub end_keeps : NeverLonger end_at
unfolding end_at
end_keeps = keeps_choice (a_word words.NextState) next_state_keeps (keeps_choice (a_word words.Stop) stop_keeps join_keeps)

-- The steps of a transition.

pub last_keeps : NeverLonger (optional an_end end_at)
last_keeps = keeps_optional an_end end_keeps

pub head_step_takes : {S A C T : Type 0} (k : Keeping S A C T) (outer : List (Body S A)) (d : Branching S A) → Shortens (head_step k outer d)
unfolding head_step
head_step_takes k outer d = first_takes head_takes λ head. keeps_give _

pub closing_step_takes : {S A C T : Type 0} (k : Keeping S A C T) (outer : List (Body S A)) (d : Branching S A) (others : C) → Shortens (closing_step k outer d others)
unfolding closing_step
closing_step_takes k outer d others = first_takes end_decision_takes λ _. keeps_give _

pub body_step_takes : {S A C T : Type 0} (k : Keeping S A C T) (outer : List (Body S A)) (d : Branching S A) (head : Option PlainHead) (text : T) → Shortens (body_step k outer d head text)
unfolding answer_step
body_step_takes k outer d (Some h) text = takes_choice a_choice (head_step_takes k outer (with_answer k d h text)) (closing_step_takes k outer (with_answer k d h text) k.no_else)
body_step_takes k outer d None text = closing_step_takes k outer d (k.with_else text)

behind_step_keeps : {S A C T : Type 0} (k : Keeping S A C T) (outer : List (Body S A)) (text : T) → NeverLonger (behind_step k outer text)
behind_step_keeps k [] text = keeps_give (closes text)
behind_step_keeps k (body ∷ outer) text = less_never_longer _ (body_step_takes k outer body.branching body.head text)

end_step_keeps : {S A C T : Type 0} (k : Keeping S A C T) (s : Reached S A) → NeverLonger (end_step k s)
unfolding end_step
end_step_keeps k s = last_keeps >>= λ last. behind_step_keeps k s.outer _

pub decision_step_takes : {S A C T : Type 0} (k : Keeping S A C T) (s : Reached S A) → Shortens (decision_step k s)
unfolding decision_step
decision_step_takes k s = first_takes (question_takes (expression_at k.trees) (expression_keeps k.trees)) λ asked. less_never_longer _ (head_step_takes k s.outer _)

pub action_step_takes : {S A C T : Type 0} (k : Keeping S A C T) (s : Reached S A) → Shortens (action_step k s)
unfolding action_step
action_step_takes k s = first_takes (action_takes (expression_at k.trees) (expression_keeps k.trees)) λ action. keeps_give _

step_keeps : {S A C T : Type 0} (k : Keeping S A C T) (s : Reached S A) → NeverLonger (step_at k s)
unfolding step_at
step_keeps k s =
    keeps_choice an_action (less_never_longer _ (action_step_takes k s))
    (keeps_choice (a_word words.Decision) (less_never_longer _ (decision_step_takes k s)) (end_step_keeps k s))

move_keeps : {S A T : Type 0} (go_on : Reached S A → At T) → ((s : Reached S A) → NeverLonger (go_on s)) → (m : Move S A T) → NeverLonger (after_move go_on m)
move_keeps go_on k (reaches s) = k s
move_keeps go_on k (closes text) = keeps_give text

steps_for_keep : {S A C T : Type 0} (k : Keeping S A C T) (n : ℕ) (s : Reached S A) → NeverLonger (steps_for k n s)
unfolding steps_for
steps_for_keep k zero s = λ ts x us h. not_read (length us ≤ length ts) ts us x h
steps_for_keep k (suc n) s = step_keeps k s >>= move_keeps (steps_for k n) (steps_for_keep k n)

pub text_keeps : {S A C T : Type 0} (k : Keeping S A C T) → NeverLonger (text_at k)
unfolding text_at steps_from
text_keeps k = λ ts x us h. steps_for_keep k (suc (length ts)) (at_first k) ts x us h

pub input_takes : Shortens input_at
unfolding input_at
input_takes = first_takes (shortens_token (a_word words.Input)) λ at. keeps_separated stimulus_keeps >>= λ stimuli. terminator_keeps >>= λ _. text_keeps whole_texts >>= λ text. keeps_give _

pub save_takes : Shortens save_at
unfolding save_at
save_takes =
    first_takes (shortens_token (a_word words.Save)) λ _.
    keeps_separated name_keeps >>= λ names. terminator_keeps >>= λ _. keeps_give _

pub clause_takes : Shortens clause_at
unfolding clause_at
clause_takes = takes_choice (a_word words.Input) input_takes save_takes

pub clause_keeps : NeverLonger clause_at
clause_keeps = less_never_longer _ clause_takes

pub closing_keeps : (name : List ℕ) → NeverLonger (closing_at name)
unfolding closing_at
closing_keeps name = keeps_optional a_name (keeps_token (a_closing name)) >>= λ closing. terminator_keeps >>= λ _. keeps_give _

pub end_state_keeps : (name : List ℕ) → NeverLonger (end_state_at name)
unfolding end_state_at
end_state_keeps name = keeps_token (a_word words.EndState) >>= λ _. closing_keeps name

pub state_takes : Shortens state_at
unfolding state_at
state_takes = first_takes (shortens_token (a_word words.State)) λ _. name_keeps >>= λ name. keeps_separated_from name name_keeps >>= λ names. terminator_keeps >>= λ _. keeps_many a_clause clause_keeps >>= λ clauses. keeps_optional (a_word words.EndState) (end_state_keeps name.name) >>= λ _. keeps_give _

pub end_connection_keeps : (name : List ℕ) → NeverLonger (end_connection_at name)
unfolding end_connection_at
end_connection_keeps name = keeps_token (a_word words.EndConnection) >>= λ _. closing_keeps name

pub connection_takes : Shortens connection_at
unfolding connection_at
connection_takes = first_takes (shortens_token (a_word words.Connection)) λ at. name_keeps >>= λ name. keeps_token (a_symbol Colon) >>= λ _. text_keeps whole_texts >>= λ text. keeps_optional (a_word words.EndConnection) (end_connection_keeps name.name) >>= λ _. keeps_give _

pub state_section_takes : Shortens state_section_at
unfolding state_section_at
state_section_takes = first_takes state_takes λ state. keeps_give _

pub connection_section_takes : Shortens connection_section_at
unfolding connection_section_at
connection_section_takes = first_takes connection_takes λ connection. keeps_give _

pub section_takes : Shortens section_at
unfolding section_at
section_takes = takes_choice (a_word words.State) state_section_takes connection_section_takes

pub section_keeps : NeverLonger section_at
section_keeps = less_never_longer _ section_takes

pub start_keeps : NeverLonger start_at
unfolding start_at
start_keeps = keeps_token (a_word words.Start) >>= λ at. terminator_keeps >>= λ _. text_keeps whole_texts >>= λ text. keeps_give _

pub second_number_keeps : (first : ℕ) → NeverLonger (second_number_at first)
unfolding second_number_at
second_number_keeps first = keeps_token (a_symbol Comma) >>= λ _. keeps_optional a_number (keeps_token (the_number first))

pub instances_keeps : NeverLonger instances_at
unfolding instances_at
instances_keeps =
    keeps_token (a_symbol Open) >>= λ _. keeps_token a_count >>= λ first. keeps_optional (a_symbol Comma) (second_number_keeps first) >>=
    λ _. keeps_token (a_symbol Close) >>= λ _. keeps_give _

pub process_head_takes : Shortens process_head_at
unfolding process_head_at
process_head_takes =
    first_takes (shortens_token (a_word words.Process)) λ _.
    name_keeps >>= λ name. keeps_optional (a_symbol Open) instances_keeps >>= λ instances. terminator_keeps >>= λ _. keeps_give _

pub process_takes : Shortens process_at
unfolding process_at
process_takes = first_takes process_head_takes λ head. keeps_many a_declaration declaration_keeps >>= λ declarations. start_keeps >>= λ start. keeps_many a_section section_keeps >>= λ sections. keeps_token (a_word words.EndProcess) >>= λ _. closing_keeps head.name.name >>= λ _. keeps_give _

pub entity_takes : Shortens entity_at
unfolding entity_at
entity_takes = takes_choice (a_word words.Signal) signals_takes (takes_choice (a_word words.SignalRoute) route_takes (takes_choice (a_word words.Connect) connect_takes (takes_choice (a_word words.Synonym) block_synonyms_takes process_takes)))

-- Readings that build no tree above one that is too high.

pub low_item_keeps : NeverLonger (item_at (expression_at low_trees))
low_item_keeps = item_keeps (expression_at low_trees) low_keeps

pub low_sending_keeps : NeverLonger (sending_at (expression_at low_trees))
low_sending_keeps = sending_keeps (expression_at low_trees) low_keeps

pub low_action_takes : Shortens (action_at (expression_at low_trees))
low_action_takes = action_takes (expression_at low_trees) low_keeps

pub low_action_keeps : NeverLonger (action_at (expression_at low_trees))
low_action_keeps = action_keeps (expression_at low_trees) low_keeps

pub low_synonyms_takes : Shortens (synonyms_at (expression_at low_trees))
low_synonyms_takes = synonyms_takes (expression_at low_trees) low_keeps

pub low_synonym_keeps : NeverLonger (synonym_at (expression_at low_trees))
low_synonym_keeps = synonym_keeps (expression_at low_trees) low_keeps
