-- The parts of a piece, for the function that makes it.
use Rattle.std.proofs.Common.{◌≡◌, ℕ, ◌<◌, List, [], ◌∷◌, length, map, get_or, refl, sym, ap, ◌∙◌, subst}
use Rattle.std.proofs.lemmas.List.{length-map}
use Rattle.std.proofs.lemmas.List.Elements.{Contains-get_or}
use Rattle.turn_code.specs.declared.value.Sort.{Sort}
use Rattle.turn_code.specs.declared.draft.DraftPiece.{DraftPiece}
use Rattle.turn_code.specs.Rules.{greatest, depths}
use Rattle.turn_code.specs.declared.instruction.Instruction.{Instruction}
use Rattle.turn_code.specs.declared.variable_set.VariableSet.{VariableSet}
use Rattle.turn_code.specs.declared.draft.PlaceFacts.{PlaceFacts}
use Rattle.sdl_sound.specs.Longest.{Piece, piece_budget, piece_depth, piece_effects}
use Rattle.sdl_sound.specs.Orders.{IsOrder}
use Rattle.sdl_meaning.specs.Outcomes.{Scope}
use Rattle.sdl_meaning.specs.Code.{ArePlaced, piece_code}
use Rattle.sdl_meaning.specs.Named.{NamedPiece}
use Rattle.sdl_compile.specs.Facts.{shapes_from, piece_sets}
use Rattle.sdl_meaning.specs.Declarations.{drafted_signals, drafted_variables}
use Rattle.sdl_compile.specs.Made.{IsPieceOf}
use Rattle.sdl_compile.specs.declared.counts.Counted.TheVariants.{Instructions, Effects}
use Rattle.sdl_compile.specs.Entries.{piece_entries}
use Rattle.sdl_compile.specs.PlaceCounts.{weight, number_at, AreCounts}
use Rattle.sdl_compile.specs.Settings.{IsReadyPiece, count_from, effects_from}
use Rattle.sdl_compile.proofs.Spots.{Spot, piece_spots, piece_instructions}
use Rattle.sdl_compile.proofs.PlaceSets.{piece_set_at}
use Rattle.sdl_compile.proofs.Depths.{facts_deep}
use Rattle.sdl_meaning.proofs.Reached.{placed_stands}
use Rattle.turn_code.proofs.Lists.{within as there_within}

-- The connections of a piece exist.
pub placed_within : (c : Scope) (q : Piece) (ns : List ℕ) → NamedPiece c q → ArePlaced c q.text ns → (k d : ℕ) → k < length ns → get_or ns k d < length c.process.connections
placed_within c q ns named placed k d lt =
    let s = placed_stands c named.connections q.text named.text.text ns placed (get_or ns k d) (Contains-get_or ns k d lt) in
    there_within c.process.connections (get_or ns k d) s.connection s.there

-- There is a set for each instruction.
pub sets_length : (c : Scope) (m : VariableSet) (q : Piece) (order ns : List ℕ) → length (piece_sets c m q order ns) ≡ length (piece_code c q ns)
sets_length c m q order ns =
    let es = piece_entries c m q order in
    let l = piece_spots [] [] [] c m q es ns in
    sym (ap length (piece_set_at [] [] [] c m q es ns)) ∙ length-map l (λ (p : Spot). p.set) ∙ sym (length-map l (λ (p : Spot). p.instruction)) ∙ ap length (piece_instructions [] [] [] c m q es ns)

pub first_count_is : (fs : List PlaceFacts) → count_from fs ≡ number_at (map (λ (f : PlaceFacts). f.count) fs) 0
first_count_is [] = refl
first_count_is (f ∷ fs) = refl

pub first_effects_are : (fs : List PlaceFacts) → effects_from fs ≡ number_at (map (λ (f : PlaceFacts). f.effects) fs) 0
first_effects_are [] = refl
first_effects_are (f ∷ fs) = refl

-- The piece, made of its code, its facts and its certificate.
module _ (c : Scope) (q : Piece) (ps : List Sort) (entry : VariableSet) (ready : IsReadyPiece c q ps) (ns : List ℕ) (placed : ArePlaced c q.text ns) (code : List Instruction) (is : code ≡ piece_code c q ns) (fs : List PlaceFacts) where
  pub is_deep : map (λ (f : PlaceFacts). f.shape) fs ≡ shapes_from (drafted_signals c.block) (drafted_variables c.process) ps [] code → greatest (depths fs) ≡ piece_depth c.process q
  is_deep shaped = facts_deep c ps q ns placed ready.named ready.sorted ready.places code fs is shaped

  pub made : (order : List ℕ) → IsOrder c.process order → map (λ (f : PlaceFacts). f.shape) fs ≡ shapes_from (drafted_signals c.block) (drafted_variables c.process) ps [] code → map (λ (f : PlaceFacts). f.set) fs ≡ piece_sets c entry q order ns
      → (counts effects : List ℕ) → map (λ (f : PlaceFacts). f.count) fs ≡ counts → map (λ (f : PlaceFacts). f.effects) fs ≡ effects → AreCounts (weight Instructions) code counts → AreCounts (weight Effects) code effects
      → number_at counts 0 ≡ piece_budget c.process q → number_at effects 0 ≡ piece_effects c.process q
      → (d : DraftPiece) → d.code ≡ code → d.facts ≡ fs → d.certificate.budget ≡ count_from fs → d.certificate.depth ≡ greatest (depths fs) → d.certificate.effects ≡ effects_from fs → IsPieceOf c ps entry q d
  made order ordered shaped settled counts effects e f counted_by effects_by longest most d dc df b dp ef =
      let map_count = λ (fs : List PlaceFacts). map (λ (f : PlaceFacts). f.count) fs in
      let map_effects = λ (fs : List PlaceFacts). map (λ (f : PlaceFacts). f.effects) fs in
      let own : IsPieceOf c ps entry q (record { code = code; facts = fs; certificate = d.certificate }) =
      record {
        code = record { numbers = ns; placed = placed; code = is };
        facts = record { order = order; ordered = ordered; shaped = shaped; settled = settled };
        counted = record {
          counts = subst (AreCounts (weight Instructions) code) (sym e) counted_by;
          effects = subst (AreCounts (weight Effects) code) (sym f) effects_by;
          longest = ap (λ l. number_at l 0) e ∙ longest;
          most = ap (λ l. number_at l 0) f ∙ most;
        };
        certificate = record {
          budget = b ∙ first_count_is fs ∙ ap (λ l. number_at l 0) e ∙ longest;
          depth = dp ∙ is_deep shaped;
          effects = ef ∙ first_effects_are fs ∙ ap (λ l. number_at l 0) f ∙ most;
        };
      } in
      subst (λ x. IsPieceOf c ps entry q (let p : DraftPiece = record { code = x; facts = d.facts; certificate = d.certificate } in p)) (sym dc)
      (subst (λ y. IsPieceOf c ps entry q (let p : DraftPiece = record { code = code; facts = y; certificate = d.certificate } in p)) (sym df) own)
