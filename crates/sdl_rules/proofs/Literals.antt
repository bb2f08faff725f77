-- The constants and declarations of a text without synonyms.
use Rattle.std.proofs.Common.{◌≡◌, List, [], ◌∷◌, ◌++◌, Option, None, Some, refl, ap, ◌∙◌}
use Rattle.std.specs.Prelude.{⊤}
use Rattle.std.specs.List.{flat_map}
use Rattle.std.specs.Option.{option_to_list}
use Rattle.sdl_ast.specs.declared.tree.Constant.{Constant}
use Rattle.sdl_ast.specs.declared.tree.Range.{Range}
use Rattle.sdl_ast.specs.declared.tree.Range.TheVariants.{Value, Compared, Between}
use Rattle.sdl_ast.specs.Plain.{Text, falls, ends, does, decides, Choice, nothing_else, otherwise, answer, PlainClause, input, save, PlainState, PlainConnection, PlainGroup, PlainSynonym, PlainDeclaration, variables, timers, own_synonyms, PlainProcess, PlainEntity, signals, route, connect, synonyms, process, PlainBlock}
use Rattle.sdl_ast.specs.Synonymless as plain
use Rattle.sdl_ast.specs.Synonymless.{EachOf, IfThere, IsLiteral, IsPlainRange, IsPlainText, IsPlainChoice, IsPlainGroup, IsPlainDeclaration, IsPlainClause, IsPlainState, IsPlainConnection, IsPlainEntity}
use Rattle.sdl_tables.specs.Names.{processes_in, processes_of}
use Rattle.sdl_rules.specs.Expansion.{synonyms_in, synonyms_of, own_synonyms_in, own_synonyms_of}
use Rattle.sdl_rules.specs.Faults.{range_constants, group_constants, text_constants, choice_constants, declaration_constants, clause_constants, state_constants, connection_constants, process_constants}

-- none of these is a synonym
abbrev pub AreLiteral : List Constant → Type 0
AreLiteral [] = ⊤
AreLiteral (c ∷ cs) = (c.synonym ≡ None) × AreLiteral cs

-- a process declares no synonym and uses none in place of a literal
pub record IsPlainProcess (p : PlainProcess) : Type 0 where
  pub synonyms : own_synonyms_of p ≡ []
  pub constants : AreLiteral (process_constants p)

abbrev pub ArePlain : List PlainProcess → Type 0
ArePlain [] = ⊤
ArePlain (p ∷ ps) = IsPlainProcess p × ArePlain ps

-- a text has no synonym
pub record IsPlain (b : PlainBlock) : Type 0 where
  pub synonyms : synonyms_of b ≡ []
  pub processes : ArePlain (processes_of b)

-- ---- from the parts of a text

literal_both : (cs ds : List Constant) → AreLiteral cs → AreLiteral ds → AreLiteral (cs ++ ds)
literal_both [] ds h k = k
literal_both (c ∷ cs) ds h k = (h.0, literal_both cs ds h.1 k)

literal_all : {A : Type 0} (P : A → Type 0) (f : A → List Constant) → ((x : A) → P x → AreLiteral (f x)) → (xs : List A) → EachOf P xs → AreLiteral (flat_map f xs)
literal_all P f each [] h = tt
literal_all P f each (x ∷ xs) h = literal_both (f x) (flat_map f xs) (each x h.0) (literal_all P f each xs h.1)

range_literal : (r : Range) → IsPlainRange r → AreLiteral (range_constants r)
range_literal (Value c) h = (h, tt)
range_literal (Compared at relation c) h = (h, tt)
range_literal (Between low high) h = (h.0, (h.1, tt))

mutual
  text_literal : (t : Text) → IsPlainText t → AreLiteral (text_constants t)
  text_literal falls h = tt
  text_literal (ends e) h = tt
  text_literal (does a rest) h = text_literal rest h
  text_literal (decides at q choice rest) h = literal_both (choice_constants choice) (text_constants rest) (choice_literal choice h.0) (text_literal rest h.1)

  choice_literal : (c : Choice) → IsPlainChoice c → AreLiteral (choice_constants c)
  choice_literal nothing_else h = tt
  choice_literal (otherwise body) h = text_literal body h
  choice_literal (answer at ranges body others) h =
      literal_both (flat_map range_constants ranges) (text_constants body ++ choice_constants others) (literal_all IsPlainRange range_constants range_literal ranges h.0)
      (literal_both (text_constants body) (choice_constants others) (text_literal body h.1) (choice_literal others h.2))

initial_literal : (o : Option Constant) → IfThere IsLiteral o → AreLiteral (option_to_list o)
initial_literal None h = tt
initial_literal (Some c) h = (h, tt)

declaration_literal : (d : PlainDeclaration) → IsPlainDeclaration d → AreLiteral (declaration_constants d)
declaration_literal (variables groups) h = literal_all IsPlainGroup group_constants (λ g k. initial_literal g.initial k) groups h
declaration_literal (timers names) h = tt
declaration_literal (own_synonyms list) h = tt

clause_literal : (c : PlainClause) → IsPlainClause c → AreLiteral (clause_constants c)
clause_literal (input i) h = text_literal i.text h
clause_literal (save names) h = tt

no_own : (ds : List PlainDeclaration) → EachOf IsPlainDeclaration ds → flat_map own_synonyms_in ds ≡ []
no_own [] h = refl
no_own (variables groups ∷ ds) h = no_own ds h.1
no_own (timers names ∷ ds) h = no_own ds h.1
no_own (own_synonyms list ∷ ds) h = ap (λ (l : List PlainSynonym). l ++ flat_map own_synonyms_in ds) h.0 ∙ no_own ds h.1

process_plain : (p : PlainProcess) → plain.IsPlainProcess p → IsPlainProcess p
process_plain p h =
    let states = literal_all IsPlainState state_constants (λ (s : PlainState) k. literal_all IsPlainClause clause_constants clause_literal s.clauses k) p.states h.states in
    let connections = literal_all IsPlainConnection connection_constants (λ (c : PlainConnection) k. text_literal c.text k) p.connections h.connections in
    record {
      synonyms = no_own p.declarations h.declarations;
      constants =
          literal_both (flat_map declaration_constants p.declarations) _ (literal_all IsPlainDeclaration declaration_constants declaration_literal p.declarations h.declarations)
          (literal_both (text_constants p.start.text) _ (text_literal p.start.text h.start)
          (literal_both (flat_map state_constants p.states) (flat_map connection_constants p.connections) states connections));
    }

no_synonyms : (es : List PlainEntity) → EachOf IsPlainEntity es → flat_map synonyms_in es ≡ []
no_synonyms [] h = refl
no_synonyms (signals declared ∷ es) h = no_synonyms es h.1
no_synonyms (route r ∷ es) h = no_synonyms es h.1
no_synonyms (connect channels routes ∷ es) h = no_synonyms es h.1
no_synonyms (synonyms list ∷ es) h = ap (λ (l : List PlainSynonym). l ++ flat_map synonyms_in es) h.0 ∙ no_synonyms es h.1
no_synonyms (process p ∷ es) h = no_synonyms es h.1

all_plain : (es : List PlainEntity) → EachOf IsPlainEntity es → ArePlain (flat_map processes_in es)
all_plain [] h = tt
all_plain (signals declared ∷ es) h = all_plain es h.1
all_plain (route r ∷ es) h = all_plain es h.1
all_plain (connect channels routes ∷ es) h = all_plain es h.1
all_plain (synonyms list ∷ es) h = all_plain es h.1
all_plain (process p ∷ es) h = (process_plain p h.0, all_plain es h.1)

pub block_plain : (b : PlainBlock) → plain.IsPlain b → IsPlain b
block_plain b h = record { synonyms = no_synonyms b.entities h; processes = all_plain b.entities h }
