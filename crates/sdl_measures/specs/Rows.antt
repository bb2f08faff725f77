-- The limits that the transitions of a process pass.
use Rattle.std.specs.Prelude.{◌≡◌, ℕ, ◌+◌, Bool, false, ◌||◌, List, [], ◌∷◌, if◌then◌else◌, nat_lt}
use Rattle.std.specs.List.{list_any}
use Rattle.plain_laws.specs.Limits.{MOST_EFFECTS, MOST_INSTRUCTIONS, MOST_OPERANDS}
use Rattle.sdl_ast.specs.Plain.{Text, PlainStimulus, PlainProcess}
use Rattle.sdl_sound.specs.Longest.{Piece, pieces_of, text_size, text_depth, text_effects}
use Rattle.sdl_sound.specs.Longest.{piece_size, piece_depth, piece_effects}
use Rattle.sdl_measures.specs.Measures.{capped}
use Rattle.sdl_measures.specs.Counting.{measure_at}
use Rattle.sdl_measures.specs.declared.measures.Measure.{Measure}
use Rattle.sdl_measures.specs.declared.limits.Extent.{Extent}
use Rattle.sdl_measures.specs.declared.limits.Passed.{Passed}

-- whether a piece is too long or too deep, or has too many effects
abbrev pub is_long : PlainProcess → Piece → Bool
is_long p q = nat_lt MOST_INSTRUCTIONS (piece_size p q)

abbrev pub is_deep : PlainProcess → Piece → Bool
is_deep p q = nat_lt MOST_OPERANDS (piece_depth p q)

abbrev pub is_busy : PlainProcess → Piece → Bool
is_busy p q = nat_lt MOST_EFFECTS (piece_effects p q)

-- A transition with the places of a signal before it.
abbrev pub stimulus_piece : Text → PlainStimulus → Piece
stimulus_piece t s = record { places = s.places; text = t }

-- What a transition has without the places that come before it, up to the greatest count.
pub record IsExtent (p : PlainProcess) (t : Text) (x : Extent) : Type 0 where
  pub size : x.size ≡ capped (text_size p t)
  pub depth : x.depth ≡ capped (text_depth p t)
  pub effects : x.effects ≡ capped (text_effects p t)

-- The limits that one piece passes.
pub record IsPassed (p : PlainProcess) (q : Piece) (x : Passed) : Type 0 where
  pub size : x.size ≡ is_long p q
  pub depth : x.depth ≡ is_deep p q
  pub effects : x.effects ≡ is_busy p q

-- The limits that some pieces of a process pass; if one is too long, only that is stated.
pub record ArePassed (p : PlainProcess) (qs : List Piece) (x : Passed) : Type 0 where
  pub size : x.size ≡ list_any (is_long p) qs
  pub depth : x.size ≡ false → x.depth ≡ list_any (is_deep p) qs
  pub effects : x.size ≡ false → x.effects ≡ list_any (is_busy p) qs

-- The limits that all pieces of some processes pass, stated in the same way.
pub record AllPassed (ps : List PlainProcess) (x : Passed) : Type 0 where
  pub size : x.size ≡ list_any (λ p. list_any (is_long p) (pieces_of p)) ps
  pub depth : x.size ≡ false → x.depth ≡ list_any (λ p. list_any (is_deep p) (pieces_of p)) ps
  pub effects : x.size ≡ false → x.effects ≡ list_any (λ p. list_any (is_busy p) (pieces_of p)) ps

-- the sizes of the marked connections, from a number on
abbrev pub marked_from : ℕ → List Bool → List Measure → ℕ
marked_from n [] ms = 0
marked_from n (b ∷ bs) ms = (if b then (measure_at ms n).size else 0) + marked_from (n + 1) bs ms

abbrev pub marked_size : List Bool → List Measure → ℕ
marked_size bs ms = marked_from 0 bs ms

-- The limits that at least one of two passes.
pub record IsEither (a b c : Passed) : Type 0 where
  pub size : c.size ≡ (a.size || b.size)
  pub depth : c.depth ≡ (a.depth || b.depth)
  pub effects : c.effects ≡ (a.effects || b.effects)
