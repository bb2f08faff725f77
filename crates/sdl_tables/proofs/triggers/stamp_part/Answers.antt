use Rattle.std.proofs.Common.{◌≡◌, ◌<◌, ◌+◌, ◌++◌, ◌∷◌, [], ℕ, List, length, map, take, get_or, arith, sym, ap, ◌∙◌, subst, append_assoc}
use Rattle.std.specs.List.{AllByRecursion}
use Rattle.std.proofs.lemmas.List.{take_all}
use Rattle.sdl_ast.specs.declared.expression.Identifier.{Identifier}
use Rattle.sdl_tables.specs.Scopes.{Marks, repeats}
use Rattle.sdl_tables.specs.Triggers.{IsNumbered, Stamped}
use Rattle.sdl_tables.specs.declared.triggers.Trigger.{Trigger}
use Rattle.sdl_tables.proofs.Numbers.{each_at, marked_more}
use Rattle.sdl_tables.proofs.triggers.stamp_part.Goals as goal
use Rattle.plain_laws.proofs.Lists.{mapped_more}

numbered_at : (names : List Identifier) (ts : List Trigger) (i : ℕ) (t : Trigger) → i < length ts → t ≡ get_or ts i t → AllByRecursion (IsNumbered names) ts → IsNumbered names t
numbered_at names ts i t lt is all = subst (IsNumbered names) (sym is) (each_at (IsNumbered names) ts i t all lt)

pub loop-trigger-preserved : goal.loop-trigger-preserved
loop-trigger-preserved c =
    let ts = c.args.triggers.now in
    let i = c.loop-trigger.trigger-index in
    let t = c.trigger-item.result in
    let ids = map (λ (u : Trigger). u.id) (take i ts) in
    let more : map (λ (u : Trigger). u.id) (take (i + 1) ts) ≡ ids ++ t.id ∷ [] = mapped_more (λ (u : Trigger). u.id) ts i t c.loop-trigger-test.true c.trigger-item.is in
    record {
      double = λ names before old all.
          subst (λ (l : List Identifier). Marks c.marked-double.result (repeats before l)) (sym more)
          (marked_more before ids t.id c.stamp_one-new.result c.marked-double.result
          (c.stamp_one-new.ensures.new names (before ++ ids) (c.loop-trigger.invariant.stamped names before old all) (numbered_at names ts i t c.loop-trigger-test.true c.trigger-item.is all))
          (c.marked-double.ensures (repeats before ids) (c.loop-trigger.invariant.double names before old all)));
      stamped = λ names before old all.
          subst (Stamped names c.stamp_one-new.new.seen.items c.args.stamp) (append_assoc before ids (t.id ∷ []) ∙ ap (λ l. before ++ l) (sym more))
          (c.stamp_one-new.ensures.stamped names (before ++ ids) (c.loop-trigger.invariant.stamped names before old all) (numbered_at names ts i t c.loop-trigger-test.true c.trigger-item.is all));
      below = λ bound lt h. c.stamp_one-new.ensures.below bound lt (c.loop-trigger.invariant.below bound lt h);
      len = c.stamp_one-new.ensures.len ∙ c.loop-trigger.invariant.len;
    }

pub returns-clause-stamped : goal.returns-clause-stamped
returns-clause-stamped c = λ names before old all.
    subst (λ (l : List Trigger). Stamped names c.loop-trigger.seen.items c.args.stamp (before ++ map (λ (u : Trigger). u.id) l))
    (take_all c.loop-trigger.trigger-index c.args.triggers.now (omega arith)) (c.loop-trigger.invariant.stamped names before old all)
