-- How many places the parts of a text have.
use Rattle.std.proofs.Common.{◌≡◌, ℕ, suc, ◌+◌, Bool, true, false, cond, List, [], ◌∷◌, ◌++◌, length, refl, sym, ap, ◌∙◌, arith, length-append}
use Rattle.std.proofs.lemmas.List.{length-map}
use Rattle.sdl_ast.specs.Plain.{Text, Choice}
use Rattle.turn_code.specs.declared.value.Sort.{Sort}
use Rattle.turn_code.specs.declared.value.Sort.TheVariants.{Integer, Boolean}
use Rattle.turn_code.specs.declared.instruction.Instruction.{Instruction}
use Rattle.turn_code.specs.declared.variable_set.VariableSet.{VariableSet}
use Rattle.turn_code.specs.declared.draft.Draft.{Draft}
use Rattle.turn_code.specs.Code.{shape_after, set_after}
use Rattle.turn_code.specs.Transitions.{Transition}
use Rattle.sdl_tables.specs.Names.{Variable, variables_of}
use Rattle.sdl_sound.specs.Longest.{jump_size, size, bodies_size}
use Rattle.sdl_meaning.specs.Outcomes.{Scope}
use Rattle.sdl_meaning.specs.Code.{leave_code, tests_code, else_size, pick_code, bodies_place, else_place, answers_place, after_choice, else_code, answers_code}
use Rattle.sdl_meaning.proofs.Sizes.{leave_size, tests_are, text_size_is, bodies_size_is, answers_size_is, else_size_is}
use Rattle.sdl_compile.proofs.Spots.{Spot, instructions, over, leave_spots, text_spots, else_spots, answers_spots, bodies_spots, text_instructions, else_instructions, answers_instructions, bodies_instructions}

-- Code has as many places as instructions.
module _ (d : Draft) (t : Transition) where
  abbrev A : Instruction → List Sort → List Sort
  A x s = shape_after d.signals t.process.variables t.parameters x s

  abbrev O : List Sort → VariableSet → List Instruction → List Spot
  O s m code = over d.signals t.process.variables t.parameters s m code

  pub over_length : (s : List Sort) (m : VariableSet) (code : List Instruction) → length (O s m code) ≡ length code
  over_length s m [] = refl
  over_length s m (x ∷ is) = ap suc (over_length (A x s) (set_after x m) is)

pub instructions_length : (l : List Spot) → length (instructions l) ≡ length l
instructions_length l = length-map l (λ (p : Spot). p.instruction)

module _ (d : Draft) (t : Transition) (c : Scope) (to : ℕ → ℕ) where
  abbrev N : List Sort → VariableSet → List Instruction → List Spot
  N s m code = over d.signals t.process.variables t.parameters s m code

  abbrev Number : List Sort
  Number = Integer ∷ []

  abbrev T : ℕ → VariableSet → Text → List Spot
  T n m u = text_spots d.signals t.process.variables t.parameters c to n m u

  abbrev Leave : ℕ → VariableSet → Text → List Spot
  Leave n m u = leave_spots d.signals t.process.variables t.parameters c to n m u

  abbrev Answers : ℕ → ℕ → VariableSet → Choice → List Spot
  Answers n end m u = answers_spots d.signals t.process.variables t.parameters c to n end m u

  abbrev Else : ℕ → ℕ → VariableSet → Choice → List Spot
  Else n end m u = else_spots d.signals t.process.variables t.parameters c to n end m u

  abbrev Bodies : ℕ → ℕ → VariableSet → Choice → List Spot
  Bodies n end m u = bodies_spots d.signals t.process.variables t.parameters c to n end m u

  abbrev vs : List Variable
  vs = variables_of c.process

  pub text_length : (n : ℕ) (m : VariableSet) (u : Text) → length (T n m u) ≡ size vs u
  text_length n m u =
      sym (instructions_length (T n m u)) ∙ ap length (text_instructions d.signals t.process.variables t.parameters c to u n m) ∙ text_size_is c to n u

  pub leave_length : (n : ℕ) (m : VariableSet) (u : Text) → length (Leave n m u) ≡ jump_size u
  leave_length n m u = over_length d t [] m (leave_code n u) ∙ leave_size n u

  pub else_length : (n end : ℕ) (m : VariableSet) (choice : Choice) → length (Else n end m choice) ≡ else_size c choice
  else_length n end m choice =
      sym (instructions_length (Else n end m choice)) ∙ ap length (else_instructions d.signals t.process.variables t.parameters c to choice n end m) ∙ else_size_is c to n end choice

  pub middle_length : (b : Bool) (choice : Choice) (k : ℕ) (m : VariableSet)
      → k + length (cond b
      (N (Boolean ∷ []) m (pick_code c (bodies_place k) choice ∷ []) ++ Bodies (bodies_place k) (after_choice c true k choice) m choice)
      (N Number m (tests_code c (answers_place c k choice) choice) ++ (Else (else_place k choice) (after_choice c false k choice) m choice ++ Answers (answers_place c k choice) (after_choice c false k choice) m choice)))
      ≡ after_choice c b k choice
  middle_length true choice k m =
      let p = bodies_place k in
      let end = after_choice c true k choice in
      let b = Bodies p end m choice in
      let l : length b ≡ bodies_size vs choice = sym (instructions_length b) ∙ ap length (bodies_instructions d.signals t.process.variables t.parameters c to choice p end m) ∙ bodies_size_is c to p end choice in
      omega (arith, l)
  middle_length false choice k m =
      let p = answers_place c k choice in
      let e = else_place k choice in
      let end = after_choice c false k choice in
      let tests = N Number m (tests_code c p choice) in
      let a = Else e end m choice in
      let b = Answers p end m choice in
      let x = over_length d t Number m (tests_code c p choice) in
      let y = tests_are c p choice in
      let la : length a ≡ length (else_code c to e end choice) = sym (instructions_length a) ∙ ap length (else_instructions d.signals t.process.variables t.parameters c to choice e end m) in
      let lb : length b ≡ length (answers_code c to p end choice) = sym (instructions_length b) ∙ ap length (answers_instructions d.signals t.process.variables t.parameters c to choice p end m) in
      let both = answers_size_is c to e p end choice in
      omega (arith, x, y, la, lb, both, length-append tests (a ++ b), length-append a b)
