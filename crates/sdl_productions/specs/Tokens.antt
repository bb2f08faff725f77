-- What a single token can stand for in a text.
use Rattle.std.specs.Prelude.{ℕ, Bool, true, false, ◌==◌, nat_le, List, [], ◌∷◌, Option, Some, None}
use Rattle.std.specs.Prelude.{is_some, if◌then◌else◌, bytes_eq, pos, ◌-ℤ◌}
use Rattle.sdl_lex.specs.Spelling.{folded}
use Rattle.sdl_lex.specs.Limits.{GREATEST_NUMBER}
use Rattle.sdl_lex.specs.declared.lexemes.Word.{Word}
use Rattle.sdl_lex.specs.declared.lexemes.Word.TheVariants as words
use Rattle.sdl_lex.specs.declared.lexemes.Symbol.{Symbol}
use Rattle.sdl_lex.specs.declared.lexemes.Symbol.TheVariants as symbols
use Rattle.sdl_lex.specs.declared.lexemes.Lexeme.{Lexeme}
use Rattle.sdl_lex.specs.declared.lexemes.Lexeme.TheVariants as lexemes
use Rattle.sdl_lex.specs.declared.lexemes.Token.{Token}
use Rattle.sdl_ast.specs.declared.expression.Identifier.{Identifier}
use Rattle.sdl_ast.specs.declared.tree.Sort.{Sort}
use Rattle.sdl_ast.specs.declared.tree.Sort.TheVariants as sorts
use Rattle.sdl_ast.specs.declared.tree.Party.{Party}
use Rattle.sdl_ast.specs.declared.tree.Party.TheVariants as parties
use Rattle.sdl_ast.specs.declared.tree.Destination.{Destination}
use Rattle.sdl_ast.specs.declared.tree.Destination.TheVariants as destinations
use Rattle.sdl_ast.specs.declared.tree.Literal.{Literal}
use Rattle.sdl_ast.specs.declared.tree.Literal.TheVariants as literals
use Rattle.sdl_ast.specs.declared.tree.Constant.{Constant}
use Rattle.sdl_ast.specs.declared.tree.Relation.{Relation}
use Rattle.sdl_ast.specs.declared.tree.Relation.TheVariants as relations
use Rattle.sdl_productions.specs.declared.comparison.Comparison.{Comparison}

-- words and symbols, numbered in the order of their declarations
abbrev pub word_number : Word → ℕ
word_number words.Block = 0
word_number words.EndBlock = 1
word_number words.Signal = 2
word_number words.SignalRoute = 3
word_number words.From = 4
word_number words.To = 5
word_number words.With = 6
word_number words.Env = 7
word_number words.Connect = 8
word_number words.Process = 9
word_number words.EndProcess = 10
word_number words.Dcl = 11
word_number words.Timer = 12
word_number words.Start = 13
word_number words.State = 14
word_number words.EndState = 15
word_number words.Input = 16
word_number words.Save = 17
word_number words.Connection = 18
word_number words.EndConnection = 19
word_number words.Task = 20
word_number words.Output = 21
word_number words.Sender = 22
word_number words.Set = 23
word_number words.Reset = 24
word_number words.Now = 25
word_number words.Decision = 26
word_number words.Else = 27
word_number words.EndDecision = 28
word_number words.NextState = 29
word_number words.Stop = 30
word_number words.Join = 31
word_number words.Comment = 32
word_number words.Not = 33
word_number words.And = 34
word_number words.Or = 35
word_number words.Xor = 36
word_number words.Mod = 37
word_number words.Rem = 38
word_number words.Integer = 39
word_number words.Boolean = 40
word_number words.True = 41
word_number words.False = 42
word_number words.Procedure = 43
word_number words.EndProcedure = 44
word_number words.Call = 45
word_number words.Fpar = 46
word_number words.In = 47
word_number words.Return = 48
word_number words.Synonym = 49

abbrev pub symbol_number : Symbol → ℕ
symbol_number symbols.Semicolon = 0
symbol_number symbols.Comma = 1
symbol_number symbols.Colon = 2
symbol_number symbols.Assign = 3
symbol_number symbols.Open = 4
symbol_number symbols.Close = 5
symbol_number symbols.Plus = 6
symbol_number symbols.Minus = 7
symbol_number symbols.Star = 8
symbol_number symbols.Slash = 9
symbol_number symbols.Equal = 10
symbol_number symbols.NotEqual = 11
symbol_number symbols.Less = 12
symbol_number symbols.LessEqual = 13
symbol_number symbols.Greater = 14
symbol_number symbols.GreaterEqual = 15

abbrev pub same_word : Word → Word → Bool
same_word v w = word_number v == word_number w

abbrev pub same_symbol : Symbol → Symbol → Bool
same_symbol r s = symbol_number r == symbol_number s

-- the place of a lexeme, if it is this word or this symbol
abbrev pub word_place : Word → ℕ → Lexeme → Option ℕ
word_place w at (lexemes.Word v) = if same_word v w then Some at else None
word_place w at (lexemes.Name n) = None
word_place w at (lexemes.Number k) = None
word_place w at (lexemes.Symbol s) = None
word_place w at lexemes.Quoted = None

abbrev pub symbol_place : Symbol → ℕ → Lexeme → Option ℕ
symbol_place s at (lexemes.Symbol r) = if same_symbol r s then Some at else None
symbol_place s at (lexemes.Name n) = None
symbol_place s at (lexemes.Number k) = None
symbol_place s at (lexemes.Word w) = None
symbol_place s at lexemes.Quoted = None

-- the value of a number, if it is within the limit
abbrev pub number_value : Lexeme → Option ℕ
number_value (lexemes.Number k) = if nat_le k GREATEST_NUMBER then Some k else None
number_value (lexemes.Name n) = None
number_value (lexemes.Word w) = None
number_value (lexemes.Symbol s) = None
number_value lexemes.Quoted = None

abbrev pub name_value : Lexeme → Option (List ℕ)
name_value (lexemes.Name n) = Some n
name_value (lexemes.Number k) = None
name_value (lexemes.Word w) = None
name_value (lexemes.Symbol s) = None
name_value lexemes.Quoted = None

abbrev pub sort_value : Lexeme → Option Sort
sort_value (lexemes.Word words.Integer) = Some sorts.Integer
sort_value (lexemes.Word words.Boolean) = Some sorts.Boolean
sort_value _ = None

abbrev pub truth_value : Lexeme → Option Bool
truth_value (lexemes.Word words.True) = Some true
truth_value (lexemes.Word words.False) = Some false
truth_value _ = None

abbrev pub quoted_place : ℕ → Lexeme → Option ℕ
quoted_place at lexemes.Quoted = Some at
quoted_place at _ = None

abbrev pub environment_value : Lexeme → Option Party
environment_value (lexemes.Word words.Env) = Some parties.Environment
environment_value _ = None

abbrev pub sender_value : ℕ → Lexeme → Option Destination
sender_value at (lexemes.Word words.Sender) = Some (destinations.Sender at)
sender_value at _ = None

abbrev pub relation_value : Lexeme → Option Relation
relation_value (lexemes.Symbol symbols.Equal) = Some relations.Equal
relation_value (lexemes.Symbol symbols.NotEqual) = Some relations.NotEqual
relation_value (lexemes.Symbol symbols.Less) = Some relations.Less
relation_value (lexemes.Symbol symbols.LessEqual) = Some relations.LessEqual
relation_value (lexemes.Symbol symbols.Greater) = Some relations.Greater
relation_value (lexemes.Symbol symbols.GreaterEqual) = Some relations.GreaterEqual
relation_value _ = None

-- The place of a token that begins an entity of a block, a declaration or a section of a process, a
-- clause of a state, an action, an end, an answer or ELSE.
abbrev pub entity_place : ℕ → Lexeme → Option ℕ
entity_place at (lexemes.Word words.Signal) = Some at
entity_place at (lexemes.Word words.SignalRoute) = Some at
entity_place at (lexemes.Word words.Connect) = Some at
entity_place at (lexemes.Word words.Synonym) = Some at
entity_place at (lexemes.Word words.Process) = Some at
entity_place at _ = None

abbrev pub declaration_place : ℕ → Lexeme → Option ℕ
declaration_place at (lexemes.Word words.Dcl) = Some at
declaration_place at (lexemes.Word words.Timer) = Some at
declaration_place at (lexemes.Word words.Synonym) = Some at
declaration_place at _ = None

abbrev pub section_place : ℕ → Lexeme → Option ℕ
section_place at (lexemes.Word words.State) = Some at
section_place at (lexemes.Word words.Connection) = Some at
section_place at _ = None

abbrev pub clause_place : ℕ → Lexeme → Option ℕ
clause_place at (lexemes.Word words.Input) = Some at
clause_place at (lexemes.Word words.Save) = Some at
clause_place at _ = None

abbrev pub action_place : ℕ → Lexeme → Option ℕ
action_place at (lexemes.Word words.Task) = Some at
action_place at (lexemes.Word words.Output) = Some at
action_place at (lexemes.Word words.Set) = Some at
action_place at (lexemes.Word words.Reset) = Some at
action_place at _ = None

abbrev pub end_place : ℕ → Lexeme → Option ℕ
end_place at (lexemes.Word words.NextState) = Some at
end_place at (lexemes.Word words.Stop) = Some at
end_place at (lexemes.Word words.Join) = Some at
end_place at _ = None

abbrev pub choice_place : ℕ → Lexeme → Option ℕ
choice_place at (lexemes.Symbol symbols.Open) = Some at
choice_place at (lexemes.Word words.Else) = Some at
choice_place at _ = None

-- The value that a token stands for, or none if it isn't of this kind.
abbrev pub a_word : Word → Token → Option ℕ
a_word w t = word_place w t.start t.lexeme

abbrev pub a_symbol : Symbol → Token → Option ℕ
a_symbol s t = symbol_place s t.start t.lexeme

abbrev pub a_number : Token → Option ℕ
a_number t = number_value t.lexeme

abbrev pub named : ℕ → Option (List ℕ) → Option Identifier
named at (Some n) = Some (record { name = n; at = at })
named at None = None

abbrev pub a_name : Token → Option Identifier
a_name t = named t.start (name_value t.lexeme)

abbrev pub a_sort : Token → Option Sort
a_sort t = sort_value t.lexeme

abbrev pub environment : Token → Option Party
environment t = environment_value t.lexeme

abbrev pub party_or_name : Option Party → Option Identifier → Option Party
party_or_name (Some p) n = Some p
party_or_name None (Some n) = Some (parties.Process n)
party_or_name None None = None

-- a word that begins an entity of a block
abbrev pub an_entity : Token → Option ℕ
an_entity t = entity_place t.start t.lexeme

-- a word that begins a declaration of a process
abbrev pub a_declaration : Token → Option ℕ
a_declaration t = declaration_place t.start t.lexeme

-- the word STATE or CONNECTION
abbrev pub a_section : Token → Option ℕ
a_section t = section_place t.start t.lexeme

-- the word INPUT or SAVE
abbrev pub a_clause : Token → Option ℕ
a_clause t = clause_place t.start t.lexeme

-- a word that begins an action
abbrev pub an_action : Token → Option ℕ
an_action t = action_place t.start t.lexeme

-- a word that begins the end of a transition
abbrev pub an_end : Token → Option ℕ
an_end t = end_place t.start t.lexeme

-- the parenthesis that begins an answer, or the word ELSE
abbrev pub a_choice : Token → Option ℕ
a_choice t = choice_place t.start t.lexeme

abbrev pub related : ℕ → Option Relation → Option Comparison
related at (Some r) = Some (record { at = at; relation = r })
related at None = None

-- a relation operator, with its place
abbrev pub a_relation : Token → Option Comparison
a_relation t = related t.start (relation_value t.lexeme)

-- a quoted text
abbrev pub a_quoted : Token → Option ℕ
a_quoted t = quoted_place t.start t.lexeme

-- ENV, or the name of a process
abbrev pub a_party : Token → Option Party
a_party t = party_or_name (environment t) (a_name t)

abbrev pub sender_or_name : Option Destination → Option Identifier → Option Destination
sender_or_name (Some d) n = Some d
sender_or_name None (Some n) = Some (destinations.Process n)
sender_or_name None None = None

-- SENDER, or the name of a process
abbrev pub a_destination : Token → Option Destination
a_destination t = sender_or_name (sender_value t.start t.lexeme) (a_name t)

abbrev pub a_truth : Token → Option Bool
a_truth t = truth_value t.lexeme

abbrev pub literal_value : Option ℕ → Option Bool → Option Literal
literal_value (Some k) b = Some (literals.Integer (pos k))
literal_value None (Some b) = Some (literals.Boolean b)
literal_value None None = None

-- A literal as a constant, and a synonym, which is the number 0 until its value replaces it.
abbrev pub literal_constant : ℕ → Literal → Constant
literal_constant at v = record { at = at; value = v; is_negated = false; synonym = None }

abbrev pub synonym_constant : ℕ → Bool → Identifier → Constant
synonym_constant at negated id = record {
  at = at;
  value = literals.Integer (pos 0);
  is_negated = negated;
  synonym = Some id;
}

abbrev pub constant_value : ℕ → Option Literal → Option Identifier → Option Constant
constant_value at (Some v) n = Some (literal_constant at v)
constant_value at None (Some id) = Some (synonym_constant at false id)
constant_value at None None = None

-- a name that may stand for a constant: only in a text with the word SYNONYM
abbrev pub a_synonym : Token → Option Identifier
a_synonym t = if t.with_synonyms then a_name t else None

-- a number, TRUE, FALSE or the name of a synonym, as a constant
abbrev pub a_constant : Token → Option Constant
a_constant t = constant_value t.start (literal_value (a_number t) (a_truth t)) (a_synonym t)

abbrev pub negated_value : ℕ → Option ℕ → Option Identifier → Option Constant
negated_value at (Some k) n = Some (literal_constant at (literals.Integer (pos 0 -ℤ pos k)))
negated_value at None (Some id) = Some (synonym_constant at true id)
negated_value at None None = None

-- a number or the name of a synonym, after a minus at a place
abbrev pub a_negated : ℕ → Token → Option Constant
a_negated at t = negated_value at (a_number t) (a_synonym t)

abbrev pub not_zero : Option ℕ → Option ℕ
not_zero (Some k) = if nat_le 1 k then Some k else None
not_zero None = None

-- a number of 1 or more
abbrev pub a_count : Token → Option ℕ
a_count t = not_zero (a_number t)

abbrev pub equals : ℕ → Option ℕ → Option ℕ
equals n (Some k) = if k == n then Some k else None
equals n None = None

-- this number, in any spelling
abbrev pub the_number : ℕ → Token → Option ℕ
the_number n t = equals n (a_number t)

abbrev pub closes : List ℕ → Option Identifier → Option Identifier
closes n (Some m) = if bytes_eq (folded m.name) (folded n) then Some m else None
closes n None = None

-- this name, in upper or lower case
abbrev pub a_closing : List ℕ → Token → Option Identifier
a_closing n t = closes n (a_name t)

-- the next token is of this kind
abbrev pub begins : {A : Type 0} → (Token → Option A) → List Token → Bool
begins f [] = false
begins f (t ∷ ts) = is_some (f t)
