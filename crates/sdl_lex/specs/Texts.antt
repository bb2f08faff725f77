-- How reserved words and symbols are written (Z.100, lexical rules).
use Rattle.std.specs.Prelude.{ℕ, List, codes}
use Rattle.sdl_lex.specs.declared.lexemes.Word.{Word}
use Rattle.sdl_lex.specs.declared.lexemes.Word.TheVariants.{Block, EndBlock, Signal, SignalRoute}
use Rattle.sdl_lex.specs.declared.lexemes.Word.TheVariants.{From, To, With, Env, Connect, Process}
use Rattle.sdl_lex.specs.declared.lexemes.Word.TheVariants.{EndProcess, Dcl, Timer, Start, State}
use Rattle.sdl_lex.specs.declared.lexemes.Word.TheVariants.{EndState, Input, Save, Connection}
use Rattle.sdl_lex.specs.declared.lexemes.Word.TheVariants.{EndConnection, Task, Output, Sender}
use Rattle.sdl_lex.specs.declared.lexemes.Word.TheVariants.{Set, Reset, Now, Decision, Else}
use Rattle.sdl_lex.specs.declared.lexemes.Word.TheVariants.{EndDecision, NextState, Stop, Join}
use Rattle.sdl_lex.specs.declared.lexemes.Word.TheVariants.{Comment, Not, And, Or, Xor, Mod, Rem}
use Rattle.sdl_lex.specs.declared.lexemes.Word.TheVariants.{Integer, Boolean, True, False}
use Rattle.sdl_lex.specs.declared.lexemes.Word.TheVariants.{Procedure, EndProcedure, Call, Fpar, In}
use Rattle.sdl_lex.specs.declared.lexemes.Word.TheVariants.{Return, Synonym}
use Rattle.sdl_lex.specs.declared.lexemes.Symbol.{Symbol}
use Rattle.sdl_lex.specs.declared.lexemes.Symbol.TheVariants.{Semicolon, Comma, Colon, Assign, Open}
use Rattle.sdl_lex.specs.declared.lexemes.Symbol.TheVariants.{Close, Plus, Minus, Star, Slash}
use Rattle.sdl_lex.specs.declared.lexemes.Symbol.TheVariants.{Equal, NotEqual, Less, LessEqual}
use Rattle.sdl_lex.specs.declared.lexemes.Symbol.TheVariants.{Greater, GreaterEqual}

-- a reserved word in upper case
abbrev pub word_text : Word → List ℕ
word_text Block = codes "BLOCK"
word_text EndBlock = codes "ENDBLOCK"
word_text Signal = codes "SIGNAL"
word_text SignalRoute = codes "SIGNALROUTE"
word_text From = codes "FROM"
word_text To = codes "TO"
word_text With = codes "WITH"
word_text Env = codes "ENV"
word_text Connect = codes "CONNECT"
word_text Process = codes "PROCESS"
word_text EndProcess = codes "ENDPROCESS"
word_text Dcl = codes "DCL"
word_text Timer = codes "TIMER"
word_text Start = codes "START"
word_text State = codes "STATE"
word_text EndState = codes "ENDSTATE"
word_text Input = codes "INPUT"
word_text Save = codes "SAVE"
word_text Connection = codes "CONNECTION"
word_text EndConnection = codes "ENDCONNECTION"
word_text Task = codes "TASK"
word_text Output = codes "OUTPUT"
word_text Sender = codes "SENDER"
word_text Set = codes "SET"
word_text Reset = codes "RESET"
word_text Now = codes "NOW"
word_text Decision = codes "DECISION"
word_text Else = codes "ELSE"
word_text EndDecision = codes "ENDDECISION"
word_text NextState = codes "NEXTSTATE"
word_text Stop = codes "STOP"
word_text Join = codes "JOIN"
word_text Comment = codes "COMMENT"
word_text Not = codes "NOT"
word_text And = codes "AND"
word_text Or = codes "OR"
word_text Xor = codes "XOR"
word_text Mod = codes "MOD"
word_text Rem = codes "REM"
word_text Integer = codes "INTEGER"
word_text Boolean = codes "BOOLEAN"
word_text True = codes "TRUE"
word_text False = codes "FALSE"
word_text Procedure = codes "PROCEDURE"
word_text EndProcedure = codes "ENDPROCEDURE"
word_text Call = codes "CALL"
word_text Fpar = codes "FPAR"
word_text In = codes "IN"
word_text Return = codes "RETURN"
word_text Synonym = codes "SYNONYM"

abbrev pub symbol_text : Symbol → List ℕ
symbol_text Semicolon = codes ";"
symbol_text Comma = codes ","
symbol_text Colon = codes ":"
symbol_text Assign = codes ":="
symbol_text Open = codes "("
symbol_text Close = codes ")"
symbol_text Plus = codes "+"
symbol_text Minus = codes "-"
symbol_text Star = codes "*"
symbol_text Slash = codes "/"
symbol_text Equal = codes "="
symbol_text NotEqual = codes "/="
symbol_text Less = codes "<"
symbol_text LessEqual = codes "<="
symbol_text Greater = codes ">"
symbol_text GreaterEqual = codes ">="
