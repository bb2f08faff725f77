use Rattle.std.proofs.Common.{◌≡◌, ◌<◌, ◌+◌, ◌++◌, [], ℕ, List, length, map, take, get_or, arith, refl, sym, ap, ◌∙◌, subst}
use Rattle.std.specs.Global.{Vec}
use Rattle.std.specs.List.{flat_map}
use Rattle.sdl_ast.specs.declared.expression.Identifier.{Identifier}
use Rattle.sdl_tables.specs.Scopes.{Marks, repeats}
use Rattle.sdl_tables.specs.Triggers.{taken_by, taken_in}
use Rattle.sdl_tables.proofs.Numbers.{joined_push, stamped_fresh}
use Rattle.sdl_tables.proofs.triggers.rows_double.Goals as goal
use Rattle.plain_laws.proofs.Lists.{mapped_more}

-- One more state.
state_more : (told : ℕ → List Identifier) (rows : List (Vec ℕ)) (i : ℕ) (v : Vec ℕ) (numbers : List ℕ) → i < length rows → v ≡ get_or rows i v → numbers ≡ v.items
    → flat_map (repeats []) (map (taken_in told) (take (i + 1) rows))
    ≡ flat_map (repeats []) (map (taken_in told) (take i rows)) ++ repeats [] (flat_map told numbers)
state_more told rows i v numbers lt is same =
    ap (flat_map (repeats [])) (mapped_more (taken_in told) rows i v lt is)
    ∙ (joined_push (repeats []) (map (taken_in told) (take i rows)) (taken_in told v)
    ∙ ap (λ ns. flat_map (repeats []) (map (taken_in told) (take i rows)) ++ repeats [] (flat_map told ns)) (sym same))

pub loop-state-init : goal.loop-state-init
loop-state-init c = record {
  len = c.in_ok-seen.ensures.len;
  below = c.in_ok-seen.ensures.below;
  last = ([], refl);
  double = λ names count all. refl;
}

pub loop-state-preserved : goal.loop-state-preserved
loop-state-preserved c =
    let told = taken_by c.args.parts.now in
    let rows = c.args.rows.now in
    let i = c.loop-state.state in
    let done = flat_map (repeats []) (map (taken_in told) (take i rows)) in
    let v = c.index-rows-state.result in
    let more = state_more told rows i v c.deref.result.now c.loop-state-test.true c.index-rows-state.is c.deref.ensures.value in
    let last = c.loop-state.invariant.last in
    record {
      len = c.next_double-double.ensures.len ∙ c.loop-state.invariant.len;
      below = c.next_double-double.ensures.below (i + 1 + 1) (omega arith) (λ n. omega (arith, c.loop-state.invariant.below n));
      last = (done, more ∙ ap (λ (l : List ℕ). done ++ repeats [] (flat_map told l)) (c.deref.ensures.value ∙ sym c.deref-before.ensures.value));
      double = λ names count all.
          let fresh = stamped_fresh names c.loop-state.seen.items (i + 1) c.loop-state.invariant.below (omega (arith, count, c.loop-state.invariant.len, c.loop-state.seen.ok.0)) in
          let old : Marks c.loop-state.double (last.0 ++ repeats [] (flat_map told c.loop-state.before.now)) = subst (Marks c.loop-state.double) last.1 (c.loop-state.invariant.double names count all) in
          subst (Marks c.next_double-double.result) (ap (λ l. l ++ repeats [] (flat_map told c.deref.result.now)) (sym last.1) ∙ sym more)
          (c.next_double-double.ensures.double names fresh all last.0 old);
    }
