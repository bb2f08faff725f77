use Rattle.std.proofs.Common.{rules, ◌≡◌, ◌++◌, [], ℕ, List, Option, None, Some, ap, ◌∙◌, subst}
use Rattle.std.specs.List.{flat_map}
use Rattle.std.proofs.lemmas.List.Elements.{Contains-append_left}
use Rattle.sdl_tables.specs.Scopes.{Marks, repeats}
use Rattle.sdl_tables.specs.Triggers.{taken_by}
use Rattle.sdl_tables.proofs.triggers.next_double.Goals as goal
use Rattle.plain_laws.proofs.Lists.{append-nil_right}

-- Appending the list of places to itself adds no new place.
again : (double : Option ℕ) (xs ys : List ℕ) → Marks double (xs ++ ys) → Marks double ((xs ++ ys) ++ ys)
again None xs ys m = ap (λ l. l ++ ys) m ∙ append-nil_right xs ys m
again (Some at) xs ys m = Contains-append_left (xs ++ ys) ys at m

pub returns-then-eq-clause-double : goal.returns-then-eq-clause-double
returns-then-eq-clause-double c = λ names old all places m.
    let same : c.args.before.now ≡ c.args.numbers.now = search (rules, c.eq.ensures, c.if-eq.true) in
    subst (λ (ns : List ℕ). Marks c.args.double ((places ++ repeats [] (flat_map (taken_by c.args.parts.now) c.args.before.now)) ++ repeats [] (flat_map (taken_by c.args.parts.now) ns)))
    same (again c.args.double places (repeats [] (flat_map (taken_by c.args.parts.now) c.args.before.now)) m)
