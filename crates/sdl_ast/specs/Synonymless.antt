-- Texts without synonyms: none is declared, and none stands in place of a literal.
use Rattle.std.specs.Prelude.{◌≡◌, List, [], ◌∷◌, Option, None, Some, ⊤}
use Rattle.sdl_ast.specs.declared.tree.Constant.{Constant}
use Rattle.sdl_ast.specs.declared.tree.Range.{Range}
use Rattle.sdl_ast.specs.declared.tree.Range.TheVariants.{Value, Compared, Between}
use Rattle.sdl_ast.specs.Plain.{Text, falls, ends, does, decides, Choice, nothing_else, otherwise}
use Rattle.sdl_ast.specs.Plain.{answer, PlainClause, input, save, PlainState, PlainConnection}
use Rattle.sdl_ast.specs.Plain.{PlainGroup, PlainDeclaration, variables, timers, own_synonyms}
use Rattle.sdl_ast.specs.Plain.{PlainProcess, PlainEntity, signals, route, connect, synonyms}
use Rattle.sdl_ast.specs.Plain.{process, PlainBlock}

-- P holds of each item
abbrev pub EachOf : {A : Type 0} → (A → Type 0) → List A → Type 0
EachOf P [] = ⊤
EachOf P (x ∷ xs) = P x × EachOf P xs

-- P holds of the value, if there is one
abbrev pub IfThere : {A : Type 0} → (A → Type 0) → Option A → Type 0
IfThere P None = ⊤
IfThere P (Some x) = P x

abbrev pub IsLiteral : Constant → Type 0
IsLiteral c = c.synonym ≡ None

abbrev pub IsPlainRange : Range → Type 0
IsPlainRange (Value c) = IsLiteral c
IsPlainRange (Compared at relation c) = IsLiteral c
IsPlainRange (Between low high) = IsLiteral low × IsLiteral high

abbrev mutual
  pub IsPlainText : Text → Type 0
  IsPlainText falls = ⊤
  IsPlainText (ends e) = ⊤
  IsPlainText (does a rest) = IsPlainText rest
  IsPlainText (decides at q choice rest) = IsPlainChoice choice × IsPlainText rest

  pub IsPlainChoice : Choice → Type 0
  IsPlainChoice nothing_else = ⊤
  IsPlainChoice (otherwise body) = IsPlainText body
  IsPlainChoice (answer at ranges body others) =
      EachOf IsPlainRange ranges × IsPlainText body × IsPlainChoice others

abbrev pub IsPlainGroup : PlainGroup → Type 0
IsPlainGroup g = IfThere IsLiteral g.initial

abbrev pub IsPlainDeclaration : PlainDeclaration → Type 0
IsPlainDeclaration (variables groups) = EachOf IsPlainGroup groups
IsPlainDeclaration (timers names) = ⊤
IsPlainDeclaration (own_synonyms list) = list ≡ []

abbrev pub IsPlainClause : PlainClause → Type 0
IsPlainClause (input i) = IsPlainText i.text
IsPlainClause (save names) = ⊤

abbrev pub IsPlainState : PlainState → Type 0
IsPlainState part = EachOf IsPlainClause part.clauses

abbrev pub IsPlainConnection : PlainConnection → Type 0
IsPlainConnection c = IsPlainText c.text

pub record IsPlainProcess (p : PlainProcess) : Type 0 where
  pub declarations : EachOf IsPlainDeclaration p.declarations
  pub start : IsPlainText p.start.text
  pub states : EachOf IsPlainState p.states
  pub connections : EachOf IsPlainConnection p.connections

abbrev pub IsPlainEntity : PlainEntity → Type 0
IsPlainEntity (signals declared) = ⊤
IsPlainEntity (route r) = ⊤
IsPlainEntity (connect channels routes) = ⊤
IsPlainEntity (synonyms list) = list ≡ []
IsPlainEntity (process p) = IsPlainProcess p

-- a text without synonyms
abbrev pub IsPlain : PlainBlock → Type 0
IsPlain b = EachOf IsPlainEntity b.entities
