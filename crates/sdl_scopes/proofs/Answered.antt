-- The rule on answers, for the list in which the code keeps the answers of a DECISION.
use Rattle.std.proofs.Common.{◌≡◌, ◌+◌, Bool, true, ◌&&◌, List, [], ◌∷◌, length, Option, None, Some, refl, sym, ap, ◌∙◌}
use Rattle.std.specs.Prelude.{nat_lt, sum_by, is_some}
use Rattle.std.specs.List.{list_all}
use Rattle.std.proofs.lemmas.List.Sums.{sum_by-cons}
use Rattle.sdl_ast.specs.declared.tree.Answer.{Answer}
use Rattle.sdl_ast.specs.declared.tree.Transition.{Transition}
use Rattle.sdl_ast.specs.Views.{answers_before, else_choice}
use Rattle.sdl_sound.specs.Decisions.{has_else, names_value, times_named, has_values}
use Rattle.sdl_ast.proofs.Views.{answer_of-is}

else-others : (o : Option Transition) → has_else (else_choice o) ≡ is_some o
else-others None = refl
else-others (Some t) = refl

pub has_else-before : (xs : List Answer) (o : Option Transition) → has_else (answers_before xs (else_choice o)) ≡ is_some o
has_else-before [] o = else-others o
has_else-before (a ∷ xs) o = ap has_else (answer_of-is a (answers_before xs (else_choice o))) ∙ has_else-before xs o

values-others : (o : Option Transition) → has_values (else_choice o) ≡ true
values-others None = refl
values-others (Some t) = refl

pub has_values-before : (xs : List Answer) (o : Option Transition)
    → has_values (answers_before xs (else_choice o)) ≡ list_all (λ (a : Answer). nat_lt 0 (length a.ranges.items)) xs
has_values-before [] o = values-others o
has_values-before (a ∷ xs) o =
    ap has_values (answer_of-is a (answers_before xs (else_choice o))) ∙ ap (λ b. nat_lt 0 (length a.ranges.items) && b) (has_values-before xs o)

times-others : (b : Bool) (o : Option Transition) → times_named b (else_choice o) ≡ 0
times-others b None = refl
times-others b (Some t) = refl

pub times_named-before : (b : Bool) (xs : List Answer) (o : Option Transition)
    → times_named b (answers_before xs (else_choice o)) ≡ sum_by (λ (a : Answer). sum_by (names_value b) a.ranges.items) xs
times_named-before b [] o = times-others b o
times_named-before b (a ∷ xs) o =
    ap (times_named b) (answer_of-is a (answers_before xs (else_choice o)))
    ∙ (ap (λ n. sum_by (names_value b) a.ranges.items + n) (times_named-before b xs o)
    ∙ sym (sum_by-cons (λ (a : Answer). sum_by (names_value b) a.ranges.items) a xs))
