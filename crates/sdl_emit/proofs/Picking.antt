-- One more answer of a DECISION, by the places where the bodies begin.
use Rattle.std.proofs.Common.{◌≡◌, ℕ, zero, suc, ◌+◌, ◌<◌, Bool, false, cond, List, [], ◌∷◌, ◌++◌, length, drop, refl, sym, ap, ◌∙◌, arith, append_assoc}
use Rattle.std.specs.Prelude.{get_or}
use Rattle.std.specs.List.{list_any}
use Rattle.std.proofs.lemmas.List.{drop_more}
use Rattle.sdl_ast.specs.declared.tree.Answer.{Answer}
use Rattle.sdl_ast.specs.declared.tree.Range.{Range}
use Rattle.sdl_ast.specs.Plain.{Text, Choice, answer}
use Rattle.sdl_ast.specs.Views.{text_of, answers_before}
use Rattle.sdl_ast.proofs.Views.{answer_of-is}
use Rattle.turn_code.specs.declared.numbers.CodePlace.{CodePlace}
use Rattle.turn_code.specs.declared.instruction.Instruction.{Instruction}
use Rattle.sdl_meaning.specs.Code.{names_truth, ranges_code}
use Rattle.sdl_emit.specs.Landing.{code_place, first_or, behind_first, picked_by, tests_by}

pub one_answer : (xs : List Answer) (i : ℕ) (a : Answer) (o : Choice) → i < length xs → a ≡ get_or xs i a → answers_before (drop i xs) o ≡ answer a.at a.ranges.items (text_of a.body) (answers_before (drop (i + 1) xs) o)
one_answer xs i a o lt is =
    ap (λ l. answers_before l o) (drop_more xs i a lt ∙ ap (λ y. y ∷ drop (i + 1) xs) (sym is)) ∙ answer_of-is a (answers_before (drop (i + 1) xs) o)

behind_suc : (k : ℕ) (starts : List CodePlace) → behind_first (drop k starts) ≡ drop (suc k) starts
behind_suc zero [] = refl
behind_suc (suc k) [] = refl
behind_suc zero (s ∷ starts) = refl
behind_suc (suc k) (s ∷ starts) = behind_suc k starts

behind_drop : (k : ℕ) (starts : List CodePlace) → behind_first (drop k starts) ≡ drop (k + 1) starts
behind_drop k starts = let e : suc k ≡ k + 1 = omega arith in behind_suc k starts ∙ ap (λ n. drop n starts) e

pub picked_skip : (p : CodePlace) (starts : List CodePlace) (k : ℕ) (choice others : Choice) (at : ℕ) (rs : List Range) (body : Text) (v : Bool) → choice ≡ answer at rs body others → list_any (names_truth v) rs ≡ false
    → picked_by p (drop k starts) choice v ≡ picked_by p (drop (k + 1) starts) others v
picked_skip p starts k choice others at rs body v is h =
    ap (λ ch. picked_by p (drop k starts) ch v) is
    ∙ ap (λ b. cond b (first_or p (drop k starts)) (picked_by p (behind_first (drop k starts)) others v)) h
    ∙ ap (λ l. picked_by p l others v) (behind_drop k starts)

pub tests_more : (starts : List CodePlace) (k : ℕ) (choice others : Choice) (at : ℕ) (rs : List Range) (body : Text) → choice ≡ answer at rs body others → (place : CodePlace) → place ≡ first_or (code_place 0) (drop k starts) → (old new all : List Instruction)
    → new ≡ old ++ ranges_code place.0 rs → old ++ tests_by (drop k starts) choice ≡ all → new ++ tests_by (drop (k + 1) starts) others ≡ all
tests_more starts k choice others at rs body is place h old new all made e =
    ap (λ l. l ++ tests_by (drop (k + 1) starts) others) made ∙ append_assoc old (ranges_code place.0 rs) (tests_by (drop (k + 1) starts) others)
    ∙ ap (λ (p : CodePlace). old ++ (ranges_code p.0 rs ++ tests_by (drop (k + 1) starts) others)) h
    ∙ ap (λ l. old ++ (ranges_code (first_or (code_place 0) (drop k starts)).0 rs ++ tests_by l others)) (sym (behind_drop k starts))
    ∙ ap (λ ch. old ++ tests_by (drop k starts) ch) (sym is) ∙ e
