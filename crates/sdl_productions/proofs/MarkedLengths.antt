-- No marked reading leaves more tokens than it was given.
use Rattle.sdl_lex.specs.declared.lexemes.Word.TheVariants as words
use Rattle.sdl_lex.specs.declared.lexemes.Symbol.TheVariants.{Colon}
use Rattle.sdl_productions.specs.Tokens.{a_word, a_symbol, a_declaration, a_clause, a_section}
use Rattle.sdl_productions.specs.Readings.{At, Shortens, NeverLonger}
use Rattle.sdl_productions.proofs.TokenRests.{less_never_longer, shortens_token, keeps_give, keeps_token, ◌>>=◌, first_takes, takes_choice, keeps_optional, keeps_many, keeps_separated_from, keeps_separated}
use Rattle.sdl_productions.specs.Bodies.{marked_texts}
use Rattle.sdl_productions.specs.MarkedParts.{kept_at, marked_input, marked_clause, marked_state, marked_connection, marked_section, marked_start, marked_own_synonyms, marked_declaration, marked_process, marked_synonyms, marked_entity}
use Rattle.sdl_productions.proofs.Lengths.{name_keeps, terminator_keeps, signals_takes, route_takes, connect_takes, variables_takes, timers_takes, low_synonyms_takes, stimulus_keeps, text_keeps, save_takes, closing_keeps, end_state_keeps, end_connection_keeps, process_head_takes}

kept_takes : {A : Type 0} {p : At A} → Shortens p → Shortens (kept_at p)
kept_takes k = first_takes k λ x. keeps_give _

input_takes : Shortens marked_input
unfolding marked_input
input_takes =
    first_takes (shortens_token (a_word words.Input)) λ at.
    keeps_separated stimulus_keeps >>= λ stimuli. terminator_keeps >>= λ _. text_keeps marked_texts >>= λ text. keeps_give _

pub marked_clause_takes : Shortens marked_clause
unfolding marked_clause
marked_clause_takes = takes_choice (a_word words.Input) input_takes (kept_takes save_takes)

pub marked_clause_keeps : NeverLonger marked_clause
marked_clause_keeps = less_never_longer _ marked_clause_takes

state_takes : Shortens marked_state
unfolding marked_state
state_takes =
    first_takes (shortens_token (a_word words.State)) λ _.
    name_keeps >>= λ name. keeps_separated_from name name_keeps >>= λ names. terminator_keeps >>=
    λ _. keeps_many a_clause marked_clause_keeps >>= λ clauses. keeps_optional (a_word words.EndState) (end_state_keeps name.name) >>=
    λ _. keeps_give _

connection_takes : Shortens marked_connection
unfolding marked_connection
connection_takes =
    first_takes (shortens_token (a_word words.Connection)) λ at.
    name_keeps >>= λ name. keeps_token (a_symbol Colon) >>= λ _. text_keeps marked_texts >>=
    λ text. keeps_optional (a_word words.EndConnection) (end_connection_keeps name.name) >>= λ _. keeps_give _

pub marked_section_takes : Shortens marked_section
unfolding marked_section
marked_section_takes = takes_choice (a_word words.State) (first_takes state_takes λ s. keeps_give _) (first_takes connection_takes λ c. keeps_give _)

pub marked_section_keeps : NeverLonger marked_section
marked_section_keeps = less_never_longer _ marked_section_takes

start_keeps : NeverLonger marked_start
unfolding marked_start
start_keeps = keeps_token (a_word words.Start) >>= λ at. terminator_keeps >>= λ _. text_keeps marked_texts >>= λ text. keeps_give _

own_synonyms_takes : Shortens marked_own_synonyms
unfolding marked_own_synonyms
own_synonyms_takes = first_takes low_synonyms_takes λ list. keeps_give _

pub marked_declaration_takes : Shortens marked_declaration
unfolding marked_declaration
marked_declaration_takes = takes_choice (a_word words.Dcl) (kept_takes variables_takes) (takes_choice (a_word words.Synonym) own_synonyms_takes (kept_takes timers_takes))

pub marked_declaration_keeps : NeverLonger marked_declaration
marked_declaration_keeps = less_never_longer _ marked_declaration_takes

process_takes : Shortens marked_process
unfolding marked_process
process_takes =
    first_takes process_head_takes λ head.
    keeps_many a_declaration marked_declaration_keeps >>= λ declarations. start_keeps >>=
    λ start. keeps_many a_section marked_section_keeps >>= λ sections. keeps_token (a_word words.EndProcess) >>=
    λ _. closing_keeps head.name.name >>= λ _. keeps_give _

synonyms_takes : Shortens marked_synonyms
unfolding marked_synonyms
synonyms_takes = first_takes low_synonyms_takes λ list. keeps_give _

pub marked_entity_takes : Shortens marked_entity
unfolding marked_entity
marked_entity_takes =
    takes_choice (a_word words.Signal) (kept_takes signals_takes) (takes_choice (a_word words.SignalRoute) (kept_takes route_takes) (takes_choice (a_word words.Connect) (kept_takes connect_takes) (takes_choice (a_word words.Synonym) synonyms_takes process_takes)))

pub marked_entity_keeps : NeverLonger marked_entity
marked_entity_keeps = less_never_longer _ marked_entity_takes
