-- A piece means its transition.
use Rattle.std.proofs.Common.{◌≡◌, ℕ, zero, suc, Bool, true, false, cond, List, [], ◌∷◌, length, Option, Some, None, refl, ap, ◌∙◌, arith}
use Rattle.std.specs.Prelude.{slice_get, Contains}
use Rattle.std.specs.List.{filter}
use Rattle.std.specs.Option.{option_map_or}
use Rattle.std.proofs.lemmas.List.Elements.{All-contains}
use Rattle.sdl_ast.specs.declared.expression.Identifier.{Identifier}
use Rattle.sdl_ast.specs.Plain.{falls, PlainConnection}
use Rattle.turn_code.specs.declared.value.Sort.{Sort}
use Rattle.turn_code.specs.declared.variable_set.VariableSet.{VariableSet}
use Rattle.turn_code.specs.declared.draft.DraftPiece.{DraftPiece}
use Rattle.sdl_sound.specs.Joins.{reaches, reached}
use Rattle.sdl_sound.specs.Longest.{Piece, piece_size}
use Rattle.sdl_meaning.specs.Outcomes.{Scope}
use Rattle.sdl_meaning.specs.Code.{text_at, ArePlaced}
use Rattle.sdl_meaning.specs.Named.{AnswersSenders, AnswersAll}
use Rattle.sdl_compile.specs.Drafts.{MeansPiece}
use Rattle.sdl_compile.specs.Made.{IsPieceOf}
use Rattle.sdl_compile.specs.Settings.{IsReadyPiece}
use Rattle.sdl_meaning.proofs.Acts.{run_is_act}
use Rattle.sdl_meaning.proofs.Reached.{placed_reached}

-- An item that passes a test is among those that pass it.
kept_there : {A : Type 0} (test : A → Bool) (xs : List A) (n : ℕ) (x : A) → slice_get xs n ≡ Some x → test x ≡ true → Contains (filter test xs) x
kept_there test [] n x e h = absurd (let k : ⊥ = cc in k)
kept_there test (y ∷ xs) zero x e h =
    let f : y ≡ x = cc in
    by_test (test y) (ap test f ∙ h)
  where
    by_test : (t : Bool) → t ≡ true → Contains (cond t (y ∷ filter test xs) (filter test xs)) x
    by_test true g = (0, omega arith, (let f : y ≡ x = cc in f))
    by_test false g = absurd (let k : ⊥ = cc in k)
kept_there test (y ∷ xs) (suc n) x e h = by_test (test y) (kept_there test xs n x e h)
  where
    by_test : (t : Bool) → Contains (filter test xs) x → Contains (cond t (y ∷ filter test xs) (filter test xs)) x
    by_test true r = (suc r.0, omega (arith, r.1), r.2)
    by_test false r = r

module _ (c : Scope) (q : Piece) (ps : List Sort) (entry : VariableSet) (ready : IsReadyPiece c q ps) where
  -- The connections of the piece answer senders, as the text does.
  others_answer : (ns : List ℕ) → ArePlaced c q.text ns → (from : Option Identifier) → AnswersAll c from q.text → (n : ℕ) → Contains ns n → AnswersSenders c from (text_at c n)
  others_answer ns placed from answers n h = by_connection (slice_get c.process.connections n) refl
    where
      by_connection : (o : Option PlainConnection) → slice_get c.process.connections n ≡ o → AnswersSenders c from (option_map_or (λ (k : PlainConnection). k.text) o falls)
      by_connection None e = tt
      by_connection (Some k) e =
          All-contains (λ (k : PlainConnection). AnswersSenders c from k.text) (reached c.process q.text) k answers.connections
          (kept_there (λ (k : PlainConnection). reaches c.process q.text k.name.name) c.process.connections n k e
          (placed_reached c ready.named.connections q.text ready.named.text.text ns placed n k h e))

  pub means : (d : DraftPiece) → IsPieceOf c ps entry q d → length d.code ≡ piece_size c.process q → (from : Option Identifier) → AnswersAll c from q.text → MeansPiece c from q d
  means d made size from answers = record {
    run_is_act = λ x is_sent. run_is_act c from q made.code.numbers d.code x made.code.placed made.code.code ready.named is_sent answers.text (others_answer made.code.numbers made.code.placed from answers) ready.small.budget;
    code = made.code;
    certificate = made.certificate;
    size = size;
  }
