-- Which tokens have no tree, and how an answer relates to a tree that the tokens read as.
use Rattle.std.specs.Prelude.{◌≡◌, ℕ, ◌+◌, ◌<◌, ◌≤◌, List, Some, length, take, Result, Ok, Err}
use Rattle.sdl_lex.specs.declared.lexemes.Token.{Token}
use Rattle.sdl_tree.specs.declared.fault.ParseFault.{ParseFault}
use Rattle.sdl_tree.specs.declared.fault.ParseFault.TheVariants.{Unexpected, TooDeep, NoMemory}
use Rattle.sdl_ast.specs.declared.tree.Block.{Block}
use Rattle.sdl_ast.specs.Limits.{GREATEST_HEIGHT}
use Rattle.sdl_ast.specs.Plain.{PlainBlock}
use Rattle.sdl_tree.specs.Syntax.{Reads}
use Rattle.sdl_ast.specs.Views.{block_of}
use Rattle.sdl_ast.specs.Heights.{Height, first_too_high}

-- No text that reads agrees with these tokens up to and including this index. The end counts as a
-- token: a text that ends there differs from one that continues. Each token says whether the word
-- SYNONYM is in its text, so a text agrees only if it has the word as well, or lacks it as well.
abbrev pub NoneAgrees : List Token → ℕ → Type 0
NoneAgrees tokens at =
    (others : List Token) (b : PlainBlock) → take (at + 1) others ≡ take (at + 1) tokens
    → Reads others b → ⊥

-- What a refusal states about the tokens. `NoMemory` states nothing.
abbrev pub Refuses : List Token → ParseFault → Type 0
Refuses tokens (Unexpected at) = (at ≤ length tokens) × NoneAgrees tokens at
Refuses tokens (TooDeep at) = (b : PlainBlock) × Reads tokens b × (first_too_high b ≡ Some at)
Refuses tokens NoMemory = Unit {0}

-- how an answer relates to a tree that the tokens read as
abbrev pub Answers : Result Block ParseFault → PlainBlock → Type 0
Answers (Ok block) b = (block_of block ≡ b) × (Height b ≤ GREATEST_HEIGHT)
Answers (Err (Unexpected at)) b = ⊥
Answers (Err (TooDeep at)) b = (GREATEST_HEIGHT < Height b) × (first_too_high b ≡ Some at)
Answers (Err NoMemory) b = Unit {0}
