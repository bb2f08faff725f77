-- The results of the compiler for a transition.
use Rattle.std.specs.Prelude.{◌≡◌, ℕ, ◌≤◌, List, [], map}
use Rattle.plain_laws.specs.Limits.{MOST_EFFECTS, MOST_INSTRUCTIONS, MOST_OPERANDS}
use Rattle.turn_code.specs.declared.value.Sort.{Sort}
use Rattle.turn_code.specs.declared.variable_set.VariableSet.{VariableSet}
use Rattle.turn_code.specs.declared.instruction.Instruction.{Instruction}
use Rattle.turn_code.specs.declared.draft.Cert.{Cert}
use Rattle.turn_code.specs.declared.draft.DraftPiece.{DraftPiece}
use Rattle.turn_code.specs.declared.draft.PlaceFacts.{PlaceFacts}
use Rattle.sdl_sound.specs.Orders.{IsOrder}
use Rattle.sdl_sound.specs.Longest.{Piece, piece_budget, piece_depth, piece_effects, piece_size}
use Rattle.sdl_meaning.specs.Outcomes.{Scope}
use Rattle.sdl_meaning.specs.Code.{ArePlaced, piece_code}
use Rattle.sdl_meaning.specs.Declarations.{drafted_signals, drafted_variables}
use Rattle.sdl_compile.specs.Facts.{shapes_from, piece_sets}
use Rattle.sdl_compile.specs.declared.counts.Counted.TheVariants.{Instructions, Effects}
use Rattle.sdl_compile.specs.PlaceCounts.{weight, number_at, AreCounts}

-- the certificate names the longest path
pub record IsLongestOf (c : Scope) (q : Piece) (k : Cert) : Type 0 where
  pub budget : k.budget ≡ piece_budget c.process q
  pub depth : k.depth ≡ piece_depth c.process q
  pub effects : k.effects ≡ piece_effects c.process q

-- The code of a transition, with each connection that it leads to only once.
pub record IsCodeOf (c : Scope) (q : Piece) (instructions : List Instruction) : Type 0 where
  pub numbers : List ℕ
  pub placed : ArePlaced c q.text numbers
  pub code : instructions ≡ piece_code c q numbers

-- The facts of each place except counts, if these connections follow in the piece: the operands,
-- and the variables that are set on every way.
pub record AreFactsOf (c : Scope) (ps : List Sort) (entry : VariableSet) (q : Piece)
    (numbers : List ℕ) (instructions : List Instruction) (fs : List PlaceFacts) : Type 0 where
  pub order : List ℕ
  pub ordered : IsOrder c.process order
  pub shaped :
      map (λ (f : PlaceFacts). f.shape) fs
      ≡ shapes_from (drafted_signals c.block) (drafted_variables c.process) ps [] instructions
  pub settled : map (λ (f : PlaceFacts). f.set) fs ≡ piece_sets c entry q order numbers

-- The counts at each place: those of its instruction and the greatest count where the code goes on.
-- The first place counts the longest path.
pub record AreCountsOf (c : Scope) (q : Piece) (instructions : List Instruction)
    (fs : List PlaceFacts) : Type 0 where
  pub counts : AreCounts (weight Instructions) instructions (map (λ (f : PlaceFacts). f.count) fs)
  pub effects : AreCounts (weight Effects) instructions (map (λ (f : PlaceFacts). f.effects) fs)
  pub longest : number_at (map (λ (f : PlaceFacts). f.count) fs) 0 ≡ piece_budget c.process q
  pub most : number_at (map (λ (f : PlaceFacts). f.effects) fs) 0 ≡ piece_effects c.process q

-- The piece of a transition whose parameters have these sorts, and which begins with these
-- variables set.
pub record IsPieceOf (c : Scope) (ps : List Sort) (entry : VariableSet) (q : Piece)
    (d : DraftPiece) : Type 0 where
  pub code : IsCodeOf c q d.code
  pub facts : AreFactsOf c ps entry q code.numbers d.code d.facts
  pub counted : AreCountsOf c q d.code d.facts
  pub certificate : IsLongestOf c q d.certificate

-- the limits of a piece
pub record IsSmall (c : Scope) (q : Piece) : Type 0 where
  pub size : piece_size c.process q ≤ MOST_INSTRUCTIONS
  pub budget : piece_budget c.process q ≤ MOST_INSTRUCTIONS
  pub depth : piece_depth c.process q ≤ MOST_OPERANDS
  pub effects : piece_effects c.process q ≤ MOST_EFFECTS
