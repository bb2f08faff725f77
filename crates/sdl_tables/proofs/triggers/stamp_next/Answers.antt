use Rattle.std.proofs.Common.{◌≡◌, List, ℕ, Option, Some, sym, subst}
use Rattle.std.specs.Prelude.{IfSome}
use Rattle.sdl_ast.specs.declared.expression.Identifier.{Identifier}
use Rattle.sdl_tables.specs.Scopes.{Marks}
use Rattle.sdl_tables.specs.Triggers.{taken_by, Covers}
use Rattle.sdl_tables.proofs.Numbers.{repeats_covered, stamped_covered}
use Rattle.sdl_tables.proofs.triggers.stamp_next.Goals as goal

-- The preceding part is the part with this number.
covers_same : (told : ℕ → List Identifier) (before : List Identifier) (last : Option ℕ) (k n : ℕ) → last ≡ Some k → k ≡ n
    → IfSome last (λ i. Covers before (told i)) → Covers before (told n)
covers_same told before last k n is same covers =
    subst (λ (i : ℕ). Covers before (told i)) same (subst (λ (o : Option ℕ). IfSome o (λ i. Covers before (told i))) is covers)

pub returns-in-None-clause-stamped : goal.returns-in-None-clause-stamped
returns-in-None-clause-stamped c = λ names before old all _. c.stamp_number.ensures.stamped names before old all

pub returns-then-same-number-clause-double : goal.returns-then-same-number-clause-double
returns-then-same-number-clause-double c = λ names before old all covers.
    let told = taken_by c.args.parts.now in
    subst (Marks c.first_of.result)
    (sym (repeats_covered before (told c.args.number) (covers_same told before c.args.last c.in-Some.same c.args.number c.in-Some.is c.if-same-number.true covers)))
    c.first_of.ensures

pub returns-then-same-number-clause-stamped : goal.returns-then-same-number-clause-stamped
returns-then-same-number-clause-stamped c = λ names before old all covers.
    let told = taken_by c.args.parts.now in
    stamped_covered names before (told c.args.number) c.args.seen.now.items c.args.stamp old
    (covers_same told before c.args.last c.in-Some.same c.args.number c.in-Some.is c.if-same-number.true covers)

pub returns-else-same-number-clause-stamped : goal.returns-else-same-number-clause-stamped
returns-else-same-number-clause-stamped c = λ names before old all _. c.stamp_number-else-same-number.ensures.stamped names before old all
