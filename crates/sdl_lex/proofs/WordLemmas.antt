-- The reserved words, one by one.
use Rattle.std.proofs.Common.{◌≡◌, ℕ, ◌<◌, true, ◌&&◌, List, [], ◌∷◌, length, refl, ap, sym, ◌∙◌, get_or, arith, Option, Some, None}
use Rattle.std.specs.Prelude.{IfNone, find, bytes_eq, nat_le}
use Rattle.sdl_lex.specs.declared.lexemes.Word.{Word}
use Rattle.sdl_lex.specs.declared.lexemes.Word.TheVariants.{Block, EndBlock, Signal, SignalRoute, From, To, With, Env, Connect, Process, EndProcess, Dcl, Timer, Start, State, EndState, Input, Save, Connection, EndConnection, Task, Output, Sender, Set, Reset, Now, Decision, Else, EndDecision, NextState, Stop, Join, Comment, Not, And, Or, Xor, Mod, Rem, Integer, Boolean, True, False, Procedure, EndProcedure, Call, Fpar, In, Return, Synonym}
use Rattle.sdl_lex.specs.Spelling.{SameName, folded, is_spelled_as_name}
use Rattle.sdl_lex.specs.Texts.{word_text}

abbrev pub all_words : List Word
all_words = Block ∷ EndBlock ∷ Signal ∷ SignalRoute ∷ From ∷ To ∷ With ∷ Env ∷ Connect ∷ Process ∷ EndProcess ∷ Dcl ∷ Timer ∷ Start ∷ State ∷ EndState ∷ Input ∷ Save ∷ Connection ∷ EndConnection ∷ Task ∷ Output ∷ Sender ∷ Set ∷ Reset ∷ Now ∷ Decision ∷ Else ∷ EndDecision ∷ NextState ∷ Stop ∷ Join ∷ Comment ∷ Not ∷ And ∷ Or ∷ Xor ∷ Mod ∷ Rem ∷ Integer ∷ Boolean ∷ True ∷ False ∷ Procedure ∷ EndProcedure ∷ Call ∷ Fpar ∷ In ∷ Return ∷ Synonym ∷ []

-- The index of a word in the table of reserved words.
abbrev pub place : Word → ℕ
place Block = 0
place EndBlock = 1
place Signal = 2
place SignalRoute = 3
place From = 4
place To = 5
place With = 6
place Env = 7
place Connect = 8
place Process = 9
place EndProcess = 10
place Dcl = 11
place Timer = 12
place Start = 13
place State = 14
place EndState = 15
place Input = 16
place Save = 17
place Connection = 18
place EndConnection = 19
place Task = 20
place Output = 21
place Sender = 22
place Set = 23
place Reset = 24
place Now = 25
place Decision = 26
place Else = 27
place EndDecision = 28
place NextState = 29
place Stop = 30
place Join = 31
place Comment = 32
place Not = 33
place And = 34
place Or = 35
place Xor = 36
place Mod = 37
place Rem = 38
place Integer = 39
place Boolean = 40
place True = 41
place False = 42
place Procedure = 43
place EndProcedure = 44
place Call = 45
place Fpar = 46
place In = 47
place Return = 48
place Synonym = 49

pub word_there : (w : Word) → get_or all_words (place w) Block ≡ w
word_there Block = refl
word_there EndBlock = refl
word_there Signal = refl
word_there SignalRoute = refl
word_there From = refl
word_there To = refl
word_there With = refl
word_there Env = refl
word_there Connect = refl
word_there Process = refl
word_there EndProcess = refl
word_there Dcl = refl
word_there Timer = refl
word_there Start = refl
word_there State = refl
word_there EndState = refl
word_there Input = refl
word_there Save = refl
word_there Connection = refl
word_there EndConnection = refl
word_there Task = refl
word_there Output = refl
word_there Sender = refl
word_there Set = refl
word_there Reset = refl
word_there Now = refl
word_there Decision = refl
word_there Else = refl
word_there EndDecision = refl
word_there NextState = refl
word_there Stop = refl
word_there Join = refl
word_there Comment = refl
word_there Not = refl
word_there And = refl
word_there Or = refl
word_there Xor = refl
word_there Mod = refl
word_there Rem = refl
word_there Integer = refl
word_there Boolean = refl
word_there True = refl
word_there False = refl
word_there Procedure = refl
word_there EndProcedure = refl
word_there Call = refl
word_there Fpar = refl
word_there In = refl
word_there Return = refl
word_there Synonym = refl

pub place_below : (w : Word) → place w < 50
place_below Block = omega arith
place_below EndBlock = omega arith
place_below Signal = omega arith
place_below SignalRoute = omega arith
place_below From = omega arith
place_below To = omega arith
place_below With = omega arith
place_below Env = omega arith
place_below Connect = omega arith
place_below Process = omega arith
place_below EndProcess = omega arith
place_below Dcl = omega arith
place_below Timer = omega arith
place_below Start = omega arith
place_below State = omega arith
place_below EndState = omega arith
place_below Input = omega arith
place_below Save = omega arith
place_below Connection = omega arith
place_below EndConnection = omega arith
place_below Task = omega arith
place_below Output = omega arith
place_below Sender = omega arith
place_below Set = omega arith
place_below Reset = omega arith
place_below Now = omega arith
place_below Decision = omega arith
place_below Else = omega arith
place_below EndDecision = omega arith
place_below NextState = omega arith
place_below Stop = omega arith
place_below Join = omega arith
place_below Comment = omega arith
place_below Not = omega arith
place_below And = omega arith
place_below Or = omega arith
place_below Xor = omega arith
place_below Mod = omega arith
place_below Rem = omega arith
place_below Integer = omega arith
place_below Boolean = omega arith
place_below True = omega arith
place_below False = omega arith
place_below Procedure = omega arith
place_below EndProcedure = omega arith
place_below Call = omega arith
place_below Fpar = omega arith
place_below In = omega arith
place_below Return = omega arith
place_below Synonym = omega arith

-- the word that a text in lower case spells
abbrev pub word_read : List ℕ → Option Word
word_read bytes = find (λ w. bytes_eq (folded (word_text w)) bytes) all_words

pub word_read_again : (w : Word) → word_read (folded (word_text w)) ≡ Some w
word_read_again Block = refl
word_read_again EndBlock = refl
word_read_again Signal = refl
word_read_again SignalRoute = refl
word_read_again From = refl
word_read_again To = refl
word_read_again With = refl
word_read_again Env = refl
word_read_again Connect = refl
word_read_again Process = refl
word_read_again EndProcess = refl
word_read_again Dcl = refl
word_read_again Timer = refl
word_read_again Start = refl
word_read_again State = refl
word_read_again EndState = refl
word_read_again Input = refl
word_read_again Save = refl
word_read_again Connection = refl
word_read_again EndConnection = refl
word_read_again Task = refl
word_read_again Output = refl
word_read_again Sender = refl
word_read_again Set = refl
word_read_again Reset = refl
word_read_again Now = refl
word_read_again Decision = refl
word_read_again Else = refl
word_read_again EndDecision = refl
word_read_again NextState = refl
word_read_again Stop = refl
word_read_again Join = refl
word_read_again Comment = refl
word_read_again Not = refl
word_read_again And = refl
word_read_again Or = refl
word_read_again Xor = refl
word_read_again Mod = refl
word_read_again Rem = refl
word_read_again Integer = refl
word_read_again Boolean = refl
word_read_again True = refl
word_read_again False = refl
word_read_again Procedure = refl
word_read_again EndProcedure = refl
word_read_again Call = refl
word_read_again Fpar = refl
word_read_again In = refl
word_read_again Return = refl
word_read_again Synonym = refl

-- a reserved word is spelled as a name, and isn't too long for one
pub word_is_name : (w : Word) → (is_spelled_as_name (folded (word_text w)) && nat_le (length (word_text w)) 32) ≡ true
word_is_name Block = refl
word_is_name EndBlock = refl
word_is_name Signal = refl
word_is_name SignalRoute = refl
word_is_name From = refl
word_is_name To = refl
word_is_name With = refl
word_is_name Env = refl
word_is_name Connect = refl
word_is_name Process = refl
word_is_name EndProcess = refl
word_is_name Dcl = refl
word_is_name Timer = refl
word_is_name Start = refl
word_is_name State = refl
word_is_name EndState = refl
word_is_name Input = refl
word_is_name Save = refl
word_is_name Connection = refl
word_is_name EndConnection = refl
word_is_name Task = refl
word_is_name Output = refl
word_is_name Sender = refl
word_is_name Set = refl
word_is_name Reset = refl
word_is_name Now = refl
word_is_name Decision = refl
word_is_name Else = refl
word_is_name EndDecision = refl
word_is_name NextState = refl
word_is_name Stop = refl
word_is_name Join = refl
word_is_name Comment = refl
word_is_name Not = refl
word_is_name And = refl
word_is_name Or = refl
word_is_name Xor = refl
word_is_name Mod = refl
word_is_name Rem = refl
word_is_name Integer = refl
word_is_name Boolean = refl
word_is_name True = refl
word_is_name False = refl
word_is_name Procedure = refl
word_is_name EndProcedure = refl
word_is_name Call = refl
word_is_name Fpar = refl
word_is_name In = refl
word_is_name Return = refl
word_is_name Synonym = refl

-- No two reserved words have the same spelling.
pub one_word : (bytes : List ℕ) (v w : Word) → SameName bytes (word_text v) → SameName bytes (word_text w) → v ≡ w
one_word bytes v w e f =
    let same : word_read (folded (word_text v)) ≡ word_read (folded (word_text w)) = ap word_read (sym e ∙ f) in
    let some : Some v ≡ Some w = sym (word_read_again v) ∙ (same ∙ word_read_again w) in
    cc

-- Bytes that spell no word of the table spell no reserved word.
pub every_word : (bytes : List ℕ) → ((k : ℕ) → k < length all_words → SameName bytes (word_text (get_or all_words k Block)) → ⊥)
    → (w : Word) → SameName bytes (word_text w) → ⊥
every_word bytes none w h = none (place w) (place_below w) (rw (word_there w) h)

pub IfNone-every : (found : Option Word) (bytes : List ℕ)
    → IfNone found ((k : ℕ) → k < length all_words → SameName bytes (word_text (get_or all_words k Block)) → ⊥)
    → IfNone found ((w : Word) → SameName bytes (word_text w) → ⊥)
IfNone-every None bytes none = every_word bytes none
IfNone-every (Some w) bytes none = none
