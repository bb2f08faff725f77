-- A text without the word SYNONYM reads as a block without synonyms.
use Rattle.std.proofs.Common.{◌≡◌, ℕ, Bool, true, false, cond, List, [], ◌∷◌, ◌++◌, Option, None, Some, MatchBool, refl, sym, ap, ◌∙◌, subst}
use Rattle.std.specs.List.{filter_map}
use Rattle.std.specs.Option.{option_to_list}
use Rattle.sdl_lex.specs.Lexed.{is_synonym_lexeme}
use Rattle.sdl_lex.specs.declared.lexemes.Token.{Token}
use Rattle.sdl_lex.specs.declared.lexemes.Lexeme.{Lexeme}
use Rattle.sdl_lex.specs.declared.lexemes.Lexeme.TheVariants as lexemes
use Rattle.sdl_lex.specs.declared.lexemes.Word.{Word}
use Rattle.sdl_lex.specs.declared.lexemes.Word.TheVariants as words
use Rattle.sdl_lex.specs.declared.lexemes.Symbol.TheVariants.{Semicolon, Colon, Comma, Assign, Minus, Open, Close}
use Rattle.sdl_ast.specs.declared.expression.Identifier.{Identifier}
use Rattle.sdl_ast.specs.declared.tree.Constant.{Constant}
use Rattle.sdl_ast.specs.declared.tree.Literal.{Literal}
use Rattle.sdl_ast.specs.declared.tree.Range.{Range}
use Rattle.sdl_ast.specs.Plain.{PlainAction, Text, Choice, PlainSection, in_state, in_connection, state_in, connection_in, PlainClause, PlainState, PlainConnection, PlainStart, PlainGroup, PlainDeclaration, PlainEntity, PlainBlock, from_to, PlainHead, PlainQuestion}
use Rattle.sdl_ast.specs.Synonymless.{EachOf, IfThere, IsLiteral, IsPlainRange, IsPlainText, IsPlainChoice, IsPlainGroup, IsPlainDeclaration, IsPlainClause, IsPlainState, IsPlainConnection, IsPlainEntity, IsPlain}
use Rattle.sdl_productions.specs.Tokens.{begins, word_place, a_symbol, a_word, a_number, a_truth, a_name, literal_value, literal_constant, constant_value, negated_value, a_synonym, a_constant, a_negated, an_entity, a_declaration, a_clause, a_section, a_choice}
use Rattle.sdl_productions.specs.Grammar.{Grammar, Gives, Takes, Then, Many, no_more, one_more, token, many, choice, optional, separated, separated_from, ◌>>=◌, give}
use Rattle.sdl_productions.specs.Readings.{At, Reading, read}
use Rattle.sdl_productions.proofs.Decides.{Decides, rest_of}
use Rattle.sdl_tree.specs.DeclarationSyntax.{terminator_syntax, names_syntax, signals_syntax, route_syntax, connect_syntax, negative_syntax, constant_syntax, initial_syntax, group_syntax, variables_syntax, timers_syntax, own_synonyms_syntax, block_synonyms_syntax, declaration_syntax, synonyms_syntax}
use Rattle.sdl_tree.specs.Syntax.{compared_syntax, upper_syntax, value_syntax, range_syntax, answer_head_syntax, else_head_syntax, question_syntax, end_decision_syntax, end_syntax, action_syntax, TextReads, ChoiceReads, runs_off, ends_there, goes_on, branches, no_more_answers, else_follows, answer_follows, text_syntax, stimulus_syntax, input_syntax, save_syntax, clause_syntax, closing_syntax, end_state_syntax, state_syntax, end_connection_syntax, connection_syntax, state_section_syntax, connection_section_syntax, section_syntax, start_syntax, process_head_syntax, process_syntax, entity_syntax, block_syntax, Reads}
use Rattle.sdl_tree.specs.PlainTokens.{IsPlainToken}
use Rattle.sdl_productions.proofs.Rows.{separated_decides, separated_from_decides}
use Rattle.sdl_productions.proofs.Decides.{token_decides, optional_decides}
use Rattle.sdl_tree.proofs.DeclarationsDecide.{names_decides, terminator_decides, signals_decides, route_decides, connect_decides, timers_decides}
use Rattle.sdl_tree.proofs.SyntaxDecides.{stimulus_decides, action_decides, else_head_decides, question_decides, end_decision_decides, end_decides, closing_decides, end_state_decides, end_connection_decides, process_head_decides}

abbrev ArePlain : List Token → Type 0
ArePlain ts = EachOf IsPlainToken ts

-- What a grammar reads has P, and the tokens that remain are plain, if all are.
abbrev Keeps : {A : Type 0} → (A → Type 0) → Grammar A → Type 0
Keeps {A} P g = (ts : List Token) (x : A) (us : List Token) → ArePlain ts → g ts x us → P x × ArePlain us

-- ---- the tokens that remain

last_plain : (xs ys : List Token) → ArePlain (xs ++ ys) → ArePlain ys
last_plain [] ys h = h
last_plain (x ∷ xs) ys h = last_plain xs ys h.1

rest_plain : {A : Type 0} (g : Grammar A) (p : At A) → Decides g p → (ts : List Token) (x : A) (us : List Token) → ArePlain ts → g ts x us → ArePlain us
rest_plain {A} g p d ts x us plain h =
    let s = d.looks ts in
    let e : s.result ≡ read x us = sym s.is ∙ d.complete ts x us h in
    last_plain s.front us (subst (λ (l : List Token). ArePlain l) (s.parts ∙ ap (λ (r : Reading A). s.front ++ rest_of r) e) plain)

taken : {A : Type 0} (f : Token → Option A) (ts : List Token) (x : A) (us : List Token) → ArePlain ts → (t : Takes f ts x us) → IsPlainToken t.one × ArePlain us
taken f ts x us plain t = subst (λ (l : List Token). ArePlain l) t.first plain

-- ---- combinations

either_way : (P Q R : Type 0) (b : Bool) → MatchBool b P Q → (P → R) → (Q → R) → R
either_way P Q R true h f g = f h
either_way P Q R false h f g = g h

optional_keeps : {A B : Type 0} (P : A → Type 0) (f : Token → Option B) (p : Grammar A) → Keeps P p → Keeps (IfThere P) (optional f p)
optional_keeps {A} P f p keeps ts o us plain h = either_way _ _ _ (begins f ts) h some none
  where
    some : Then p (λ x. give (Some x)) ts o us → IfThere P o × ArePlain us
    some g =
        let k = keeps ts g.value g.between plain g.before in
        (subst (λ (q : Option A). IfThere P q) (sym g.after.same) k.0, subst (λ (l : List Token). ArePlain l) (sym g.after.none) k.1)

    none : Gives None ts o us → IfThere P o × ArePlain us
    none g = (subst (λ (q : Option A). IfThere P q) (sym g.same) tt, subst (λ (l : List Token). ArePlain l) (sym g.none) plain)

many_keeps : {A B : Type 0} (P : A → Type 0) (f : Token → Option B) (p : Grammar A) → Keeps P p → (ts : List Token) (xs : List A) (us : List Token) → ArePlain ts → Many f p ts xs us
    → EachOf P xs × ArePlain us
many_keeps P f p keeps ts all us plain (no_more _ e) = (tt, plain)
many_keeps P f p keeps ts all us plain (one_more _ vs _ x xs e g more) =
    let k = keeps ts x vs plain g in
    let rest = many_keeps P f p keeps vs xs us k.1 more in
    ((k.0, rest.0), rest.1)

separated_keeps : {A : Type 0} (P : A → Type 0) (p : Grammar A) → Keeps P p → Keeps (EachOf P) (separated p)
separated_keeps {A} P p keeps ts xs us plain h =
    let k = keeps ts h.value h.between plain h.before in
    let m = many_keeps P (a_symbol Comma) (token (a_symbol Comma) >>= λ _. p) after_comma h.between h.after.value h.after.between k.1 h.after.before in
    (subst (λ (l : List A). EachOf P l) (sym h.after.after.same) (k.0, m.0), subst (λ (l : List Token). ArePlain l) (sym h.after.after.none) m.1)
  where
    after_comma : Keeps P (token (a_symbol Comma) >>= λ _. p)
    after_comma ts x us plain h = keeps h.between x us (taken (a_symbol Comma) ts h.value h.between plain h.before).1 h.after

-- ---- constants

no_name : (t : Token) → t.with_synonyms ≡ false → a_synonym t ≡ None
no_name t h = ap (λ b. cond b (a_name t) None) h

literal_is : (at : ℕ) (v : Literal) (c : Constant) → (let o : Option Constant = Some (literal_constant at v) in o) ≡ Some c → IsLiteral c
literal_is at v c e = let k : literal_constant at v ≡ c = cc in ap (λ (x : Constant). x.synonym) (sym k)

of_value : (at : ℕ) (o : Option Literal) (n : Option Identifier) (c : Constant) → n ≡ None → constant_value at o n ≡ Some c → IsLiteral c
of_value at (Some v) n c h e = literal_is at v c e
of_value at None None c h e = absurd (let k : ⊥ = cc in k)
of_value at None (Some id) c h e = absurd (let k : ⊥ = cc in k)

of_negated : (at : ℕ) (o : Option ℕ) (n : Option Identifier) (c : Constant) → n ≡ None → negated_value at o n ≡ Some c → IsLiteral c
of_negated at (Some v) n c h e = literal_is at _ c e
of_negated at None None c h e = absurd (let k : ⊥ = cc in k)
of_negated at None (Some id) c h e = absurd (let k : ⊥ = cc in k)

negative_keeps : Keeps IsLiteral negative_syntax
unfolding negative_syntax
negative_keeps ts c us plain h =
    let minus = taken (a_symbol Minus) ts h.value h.between plain h.before in
    let t = taken (a_negated h.value) h.between c us minus.1 h.after in
    (of_negated h.value (a_number h.after.one) (a_synonym h.after.one) c (no_name h.after.one t.0.0) h.after.stands, t.1)

constant_keeps : Keeps IsLiteral constant_syntax
unfolding constant_syntax
constant_keeps ts c us plain h = either_way _ _ _ (begins (a_symbol Minus) ts) h (negative_keeps ts c us plain) literal
  where
    literal : Takes a_constant ts c us → IsLiteral c × ArePlain us
    literal g =
        let t = taken a_constant ts c us plain g in
        (of_value g.one.start (literal_value (a_number g.one) (a_truth g.one)) (a_synonym g.one) c (no_name g.one t.0.0) g.stands, t.1)

initial_keeps : Keeps IsLiteral initial_syntax
unfolding initial_syntax
initial_keeps ts c us plain h = constant_keeps h.between c us (taken (a_symbol Assign) ts h.value h.between plain h.before).1 h.after

-- ---- declarations

group_keeps : Keeps IsPlainGroup group_syntax
unfolding group_syntax
group_keeps ts g us plain h =
    let names = rest_plain names_syntax _ names_decides ts h.value h.between plain h.before in
    let sort = (taken _ h.between h.after.value h.after.between names h.after.before).1 in
    let k = optional_keeps IsLiteral _ initial_syntax initial_keeps h.after.between h.after.after.value h.after.after.between sort h.after.after.before in
    (subst (λ (x : PlainGroup). IsPlainGroup x) (sym h.after.after.after.same) k.0, subst (λ (l : List Token). ArePlain l) (sym h.after.after.after.none) k.1)

variables_keeps : Keeps IsPlainDeclaration variables_syntax
unfolding variables_syntax
variables_keeps ts d us plain h =
    let word = (taken _ ts h.value h.between plain h.before).1 in
    let k = separated_keeps IsPlainGroup group_syntax group_keeps h.between h.after.value h.after.between word h.after.before in
    let end = rest_plain terminator_syntax _ terminator_decides h.after.between h.after.after.value h.after.after.between k.1 h.after.after.before in
    (subst (λ (x : PlainDeclaration). IsPlainDeclaration x) (sym h.after.after.after.same) k.0, subst (λ (l : List Token). ArePlain l) (sym h.after.after.after.none) end)

timers_keeps : Keeps IsPlainDeclaration timers_syntax
unfolding timers_syntax
timers_keeps ts d us plain h =
    let last = h.after.after.after in
    let word = (taken _ ts h.value h.between plain h.before).1 in
    let names = rest_plain names_syntax _ names_decides h.between h.after.value h.after.between word h.after.before in
    let end = rest_plain terminator_syntax _ terminator_decides h.after.between h.after.after.value h.after.after.between names h.after.after.before in
    (subst (λ (x : PlainDeclaration). IsPlainDeclaration x) (sym last.same) tt, subst (λ (l : List Token). ArePlain l) (sym last.none) end)

-- no plain token is the word SYNONYM
no_synonym : (l : Lexeme) (at x : ℕ) → is_synonym_lexeme l ≡ false → word_place words.Synonym at l ≡ Some x → ⊥
no_synonym (lexemes.Word words.Synonym) at x e h = cc
no_synonym (lexemes.Word w) at x e h = cc
no_synonym (lexemes.Name n) at x e h = cc
no_synonym (lexemes.Number k) at x e h = cc
no_synonym (lexemes.Symbol s) at x e h = cc
no_synonym lexemes.Quoted at x e h = cc

own_keeps : Keeps IsPlainDeclaration own_synonyms_syntax
unfolding own_synonyms_syntax synonyms_syntax
own_keeps ts d us plain h =
    let word = h.before.before in
    absurd (no_synonym word.one.lexeme word.one.start h.before.value (taken (a_word words.Synonym) ts h.before.value h.before.between plain word).0.1 word.stands)

declaration_keeps : Keeps IsPlainDeclaration declaration_syntax
unfolding declaration_syntax
declaration_keeps ts d us plain h =
    either_way _ _ _ (begins (a_word words.Dcl) ts) h (variables_keeps ts d us plain)
    (λ g. either_way _ _ _ (begins (a_word words.Synonym) ts) g (own_keeps ts d us plain) (timers_keeps ts d us plain))

-- ---- answers and transitions

compared_keeps : Keeps IsPlainRange compared_syntax
unfolding compared_syntax
compared_keeps ts r us plain h =
    let relation = (taken _ ts h.value h.between plain h.before).1 in
    let k = constant_keeps h.between h.after.value h.after.between relation h.after.before in
    (subst (λ (x : Range). IsPlainRange x) (sym h.after.after.same) k.0, subst (λ (l : List Token). ArePlain l) (sym h.after.after.none) k.1)

upper_keeps : Keeps IsLiteral upper_syntax
unfolding upper_syntax
upper_keeps ts c us plain h = constant_keeps h.between c us (taken (a_symbol Colon) ts h.value h.between plain h.before).1 h.after

from_plain : (low : Constant) (o : Option Constant) → IsLiteral low → IfThere IsLiteral o → IsPlainRange (from_to low o)
from_plain low None h k = h
from_plain low (Some high) h k = (h, k)

value_keeps : Keeps IsPlainRange value_syntax
unfolding value_syntax
value_keeps ts r us plain h =
    let k = constant_keeps ts h.value h.between plain h.before in
    let m = optional_keeps IsLiteral (a_symbol Colon) upper_syntax upper_keeps h.between h.after.value h.after.between k.1 h.after.before in (
      subst (λ (x : Range). IsPlainRange x) (sym h.after.after.same) (from_plain h.value h.after.value k.0 m.0),
      subst (λ (l : List Token). ArePlain l) (sym h.after.after.none) m.1,
    )

range_keeps : Keeps IsPlainRange range_syntax
unfolding range_syntax
range_keeps ts r us plain h = either_way _ _ _ _ h (compared_keeps ts r us plain) (value_keeps ts r us plain)

head_keeps : Keeps (λ (h : PlainHead). EachOf IsPlainRange h.ranges) answer_head_syntax
unfolding answer_head_syntax
head_keeps ts head us plain h =
    let opened = (taken _ ts h.value h.between plain h.before).1 in
    let k = separated_keeps IsPlainRange range_syntax range_keeps h.between h.after.value h.after.between opened h.after.before in
    let rest = h.after.after in
    let closed = (taken _ h.after.between rest.value rest.between k.1 rest.before).1 in
    let colon = (taken _ rest.between rest.after.value rest.after.between closed rest.after.before).1 in (
      subst (λ (x : PlainHead). EachOf IsPlainRange x.ranges) (sym rest.after.after.same) k.0,
      subst (λ (l : List Token). ArePlain l) (sym rest.after.after.none) colon,
    )

mutual
  text_keeps : (ts : List Token) (text : Text) (us : List Token) → ArePlain ts → TextReads ts text us → IsPlainText text × ArePlain us
  text_keeps ts text us plain (runs_off _ e d f) = (tt, plain)
  text_keeps ts text us plain (ends_there _ _ last e d f h) = (tt, rest_plain end_syntax _ end_decides ts last us plain h)
  text_keeps ts text us plain (goes_on _ vs _ action rest e h r) = text_keeps vs rest us (rest_plain action_syntax _ action_decides ts action vs plain h) r
  text_keeps ts text us plain (branches _ vs ws xs _ asked chosen closed rest e d q b c h r) =
      let asks = rest_plain question_syntax _ question_decides ts asked vs plain q in
      let k = choice_keeps vs chosen ws asks c in
      let more = text_keeps xs rest us (rest_plain end_decision_syntax _ end_decision_decides ws closed xs k.1 h) r in
      ((k.0, more.0), more.1)

  choice_keeps : (ts : List Token) (others : Choice) (us : List Token) → ArePlain ts → ChoiceReads ts others us → IsPlainChoice others × ArePlain us
  choice_keeps ts others us plain (no_more_answers _ e) = (tt, plain)
  choice_keeps ts others us plain (else_follows _ vs _ opened text e f h r) =
      text_keeps vs text us (rest_plain else_head_syntax _ else_head_decides ts opened vs plain h) r
  choice_keeps ts others us plain (answer_follows _ vs ws _ head text more e f h r c) =
      let k = head_keeps ts head vs plain h in
      let body = text_keeps vs text ws k.1 r in
      let rest = choice_keeps ws more us body.1 c in
      ((k.0, body.0, rest.0), rest.1)

-- ---- the parts of a process

input_keeps : Keeps IsPlainClause input_syntax
unfolding input_syntax
input_keeps ts c us plain h =
    let word = (taken _ ts h.value h.between plain h.before).1 in
    let stimuli = rest_plain (separated stimulus_syntax) _ (separated_decides stimulus_decides) h.between h.after.value h.after.between word h.after.before in
    let ended = h.after.after in
    let end = rest_plain terminator_syntax _ terminator_decides h.after.between ended.value ended.between stimuli ended.before in
    let k = text_keeps ended.between ended.after.value ended.after.between end ended.after.before in (
      subst (λ (x : PlainClause). IsPlainClause x) (sym ended.after.after.same) k.0,
      subst (λ (l : List Token). ArePlain l) (sym ended.after.after.none) k.1,
    )

save_keeps : Keeps IsPlainClause save_syntax
unfolding save_syntax
save_keeps ts c us plain h =
    let last = h.after.after.after in
    let word = (taken _ ts h.value h.between plain h.before).1 in
    let names = rest_plain names_syntax _ names_decides h.between h.after.value h.after.between word h.after.before in
    let end = rest_plain terminator_syntax _ terminator_decides h.after.between h.after.after.value h.after.after.between names h.after.after.before in
    (subst (λ (x : PlainClause). IsPlainClause x) (sym last.same) tt, subst (λ (l : List Token). ArePlain l) (sym last.none) end)

clause_keeps : Keeps IsPlainClause clause_syntax
unfolding clause_syntax
clause_keeps ts c us plain h = either_way _ _ _ _ h (input_keeps ts c us plain) (save_keeps ts c us plain)

state_keeps : Keeps IsPlainState state_syntax
unfolding state_syntax
state_keeps ts s us plain h =
    let word = (taken _ ts h.value h.between plain h.before).1 in
    let named = h.after in
    let name = (taken _ h.between named.value named.between word named.before).1 in
    let listed = named.after in
    let names = rest_plain (separated_from named.value (token a_name)) _ (separated_from_decides named.value (token_decides a_name)) named.between listed.value listed.between name listed.before in
    let ended = listed.after in
    let end = rest_plain terminator_syntax _ terminator_decides listed.between ended.value ended.between names ended.before in
    let clauses = ended.after in
    let k = many_keeps IsPlainClause a_clause clause_syntax clause_keeps ended.between clauses.value clauses.between end clauses.before in
    let closed = clauses.after in
    let close = rest_plain (optional (a_word words.EndState) (end_state_syntax named.value.name)) _ (optional_decides (a_word words.EndState) (end_state_decides named.value.name))
    clauses.between closed.value closed.between k.1 closed.before in (
      subst (λ (x : PlainState). IsPlainState x) (sym closed.after.same) k.0,
      subst (λ (l : List Token). ArePlain l) (sym closed.after.none) close,
    )

connection_keeps : Keeps IsPlainConnection connection_syntax
unfolding connection_syntax
connection_keeps ts c us plain h =
    let word = (taken _ ts h.value h.between plain h.before).1 in
    let named = h.after in
    let name = (taken _ h.between named.value named.between word named.before).1 in
    let behind = named.after in
    let colon = (taken _ named.between behind.value behind.between name behind.before).1 in
    let body = behind.after in
    let k = text_keeps behind.between body.value body.between colon body.before in
    let closed = body.after in
    let close = rest_plain (optional (a_word words.EndConnection) (end_connection_syntax named.value.name)) _
    (optional_decides (a_word words.EndConnection) (end_connection_decides named.value.name)) body.between closed.value closed.between k.1 closed.before in (
      subst (λ (x : PlainConnection). IsPlainConnection x) (sym closed.after.same) k.0,
      subst (λ (l : List Token). ArePlain l) (sym closed.after.none) close,
    )

abbrev IsPlainSection : PlainSection → Type 0
IsPlainSection (in_state s) = IsPlainState s
IsPlainSection (in_connection c) = IsPlainConnection c

state_section_keeps : Keeps IsPlainSection state_section_syntax
unfolding state_section_syntax
state_section_keeps ts s us plain h =
    let k = state_keeps ts h.value h.between plain h.before in
    (subst (λ (x : PlainSection). IsPlainSection x) (sym h.after.same) k.0, subst (λ (l : List Token). ArePlain l) (sym h.after.none) k.1)

connection_section_keeps : Keeps IsPlainSection connection_section_syntax
unfolding connection_section_syntax
connection_section_keeps ts s us plain h =
    let k = connection_keeps ts h.value h.between plain h.before in
    (subst (λ (x : PlainSection). IsPlainSection x) (sym h.after.same) k.0, subst (λ (l : List Token). ArePlain l) (sym h.after.none) k.1)

section_keeps : Keeps IsPlainSection section_syntax
unfolding section_syntax
section_keeps ts s us plain h = either_way _ _ _ _ h (state_section_keeps ts s us plain) (connection_section_keeps ts s us plain)

start_keeps : Keeps (λ (s : PlainStart). IsPlainText s.text) start_syntax
unfolding start_syntax
start_keeps ts s us plain h =
    let word = (taken _ ts h.value h.between plain h.before).1 in
    let ended = h.after in
    let end = rest_plain terminator_syntax _ terminator_decides h.between ended.value ended.between word ended.before in
    let k = text_keeps ended.between ended.after.value ended.after.between end ended.after.before in (
      subst (λ (x : PlainStart). IsPlainText x.text) (sym ended.after.after.same) k.0,
      subst (λ (l : List Token). ArePlain l) (sym ended.after.after.none) k.1,
    )

states_plain : (xs : List PlainSection) → EachOf IsPlainSection xs → EachOf IsPlainState (filter_map state_in xs)
states_plain [] h = tt
states_plain (in_state s ∷ xs) h = (h.0, states_plain xs h.1)
states_plain (in_connection c ∷ xs) h = states_plain xs h.1

connections_plain : (xs : List PlainSection) → EachOf IsPlainSection xs → EachOf IsPlainConnection (filter_map connection_in xs)
connections_plain [] h = tt
connections_plain (in_state s ∷ xs) h = connections_plain xs h.1
connections_plain (in_connection c ∷ xs) h = (h.0, connections_plain xs h.1)

process_keeps : Keeps IsPlainEntity process_syntax
unfolding process_syntax
process_keeps ts e us plain h =
    let head = rest_plain process_head_syntax _ process_head_decides ts h.value h.between plain h.before in
    let declared = h.after in
    let ds = many_keeps IsPlainDeclaration a_declaration declaration_syntax declaration_keeps h.between declared.value declared.between head declared.before in
    let begun = declared.after in
    let start = start_keeps declared.between begun.value begun.between ds.1 begun.before in
    let body = begun.after in
    let sections = many_keeps IsPlainSection a_section section_syntax section_keeps begun.between body.value body.between start.1 body.before in
    let ended = body.after in
    let word = (taken _ body.between ended.value ended.between sections.1 ended.before).1 in
    let closed = ended.after in
    let close = rest_plain (closing_syntax h.value.name.name) _ (closing_decides h.value.name.name) ended.between closed.value closed.between word closed.before in (
      subst (λ (x : PlainEntity). IsPlainEntity x) (sym closed.after.same)
          (record { declarations = ds.0; start = start.0; states = states_plain body.value sections.0; connections = connections_plain body.value sections.0 }),
      subst (λ (l : List Token). ArePlain l) (sym closed.after.none) close,
    )

block_synonyms_keeps : Keeps IsPlainEntity block_synonyms_syntax
unfolding block_synonyms_syntax synonyms_syntax
block_synonyms_keeps ts e us plain h =
    let word = h.before.before in
    absurd (no_synonym word.one.lexeme word.one.start h.before.value (taken (a_word words.Synonym) ts h.before.value h.before.between plain word).0.1 word.stands)

-- an entity that is neither a SYNONYM nor a PROCESS
signals_keeps : Keeps IsPlainEntity signals_syntax
unfolding signals_syntax
signals_keeps ts e us plain h =
    (subst (λ (x : PlainEntity). IsPlainEntity x) (sym h.after.after.after.same) tt, rest_plain signals_syntax _ signals_decides ts e us plain h)

route_keeps : Keeps IsPlainEntity route_syntax
unfolding route_syntax
route_keeps ts e us plain h =
    (subst (λ (x : PlainEntity). IsPlainEntity x) (sym h.after.after.after.after.same) tt, rest_plain route_syntax _ route_decides ts e us plain h)

connect_keeps : Keeps IsPlainEntity connect_syntax
unfolding connect_syntax
connect_keeps ts e us plain h =
    (subst (λ (x : PlainEntity). IsPlainEntity x) (sym h.after.after.after.after.after.same) tt, rest_plain connect_syntax _ connect_decides ts e us plain h)

entity_keeps : Keeps IsPlainEntity entity_syntax
unfolding entity_syntax
entity_keeps ts e us plain h =
    either_way _ (choice (a_word words.SignalRoute) route_syntax (choice (a_word words.Connect) connect_syntax (choice (a_word words.Synonym) block_synonyms_syntax process_syntax)) ts e us) _
    (begins (a_word words.Signal) ts) h (signals_keeps ts e us plain)
    (λ g. either_way _ (choice (a_word words.Connect) connect_syntax (choice (a_word words.Synonym) block_synonyms_syntax process_syntax) ts e us) _ (begins (a_word words.SignalRoute) ts) g
    (route_keeps ts e us plain)
    (λ k. either_way _ (choice (a_word words.Synonym) block_synonyms_syntax process_syntax ts e us) _ (begins (a_word words.Connect) ts) k (connect_keeps ts e us plain)
    (λ m. either_way _ _ _ (begins (a_word words.Synonym) ts) m (block_synonyms_keeps ts e us plain) (process_keeps ts e us plain))))

block_keeps : (ts : List Token) (b : PlainBlock) (us : List Token) → ArePlain ts → block_syntax ts b us → IsPlain b
unfolding block_syntax
block_keeps ts b us plain h =
    let word = (taken _ ts h.value h.between plain h.before).1 in
    let named = h.after in
    let name = (taken _ h.between named.value named.between word named.before).1 in
    let ended = named.after in
    let end = rest_plain terminator_syntax _ terminator_decides named.between ended.value ended.between name ended.before in
    let body = ended.after in
    let k = many_keeps IsPlainEntity an_entity entity_syntax entity_keeps ended.between body.value body.between end body.before in
    subst (λ (x : PlainBlock). IsPlain x) (sym body.after.after.after.same) k.0

pub reads_plain : (ts : List Token) (b : PlainBlock) → EachOf IsPlainToken ts → Reads ts b → IsPlain b
unfolding Reads
reads_plain ts b plain h = block_keeps ts b [] plain h
