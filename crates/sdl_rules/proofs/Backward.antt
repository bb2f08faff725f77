-- If nothing goes TO SENDER, the senders don't matter.
use Rattle.std.proofs.Common.{◌≡◌, ℕ, List, [], ◌∷◌, ◌++◌, Option, None, Some, refl, ap, ◌∙◌}
use Rattle.std.specs.List.{flat_map}
use Rattle.sdl_ast.specs.declared.tree.Destination.{Destination}
use Rattle.sdl_ast.specs.declared.tree.Destination.TheVariants.{Sender, Process}
use Rattle.sdl_ast.specs.Plain.{PlainSending, task, output, set_timer, reset_timer, PlainProcess, PlainBlock}
use Rattle.sdl_sound.specs.Statements.{Statement, acts, asks, covers, finishes}
use Rattle.sdl_sound.specs.Actions.{Origin}
use Rattle.sdl_sound.specs.Receivers.{lost_sending, lost_statement}
use Rattle.sdl_rules.specs.Asked.{back_destination, back_statement}

module _ (b : PlainBlock) (p : PlainProcess) (os : List Origin) where
  to_same : (to : Option Destination) (xs : List PlainSending) → back_destination to ≡ []
      → flat_map (lost_sending b p [] to) xs ≡ flat_map (lost_sending b p os to) xs
  to_same None xs h = refl
  to_same (Some (Sender at)) xs h = let bad : at ∷ [] ≡ [] = h in absurd (cc)
  to_same (Some (Process id)) xs h = refl

  statement_same : (s : Statement) → back_statement s ≡ [] → lost_statement b p [] s ≡ lost_statement b p os s
  statement_same (acts (task at xs)) h = refl
  statement_same (acts (output at xs to)) h = to_same to xs h
  statement_same (acts (set_timer at d t)) h = refl
  statement_same (acts (reset_timer at t)) h = refl
  statement_same (asks at q c) h = refl
  statement_same (covers q ranges) h = refl
  statement_same (finishes e) h = refl

  left_none : (xs ys : List ℕ) → xs ++ ys ≡ [] → xs ≡ []
  left_none [] ys h = refl
  left_none (x ∷ xs) ys h = let bad : x ∷ (xs ++ ys) ≡ [] = h in absurd (cc)

  right_none : (xs ys : List ℕ) → xs ++ ys ≡ [] → ys ≡ []
  right_none [] ys h = h
  right_none (x ∷ xs) ys h = let bad : x ∷ (xs ++ ys) ≡ [] = h in absurd (cc)

  -- If a transition sends nothing TO SENDER, it loses the same signals for all senders.
  pub lost_same : (ss : List Statement) → flat_map back_statement ss ≡ [] → flat_map (lost_statement b p []) ss ≡ flat_map (lost_statement b p os) ss
  lost_same [] h = refl
  lost_same (s ∷ ss) h =
      ap (λ l. l ++ flat_map (lost_statement b p []) ss) (statement_same s (left_none (back_statement s) (flat_map back_statement ss) h))
      ∙ ap (λ l. lost_statement b p os s ++ l) (lost_same ss (right_none (back_statement s) (flat_map back_statement ss) h))
