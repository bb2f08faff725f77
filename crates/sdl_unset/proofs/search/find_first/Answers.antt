use Rattle.sdl_unset.specs.Fates.{IsUnsetAt}
use Rattle.sdl_unset.proofs.Searches.{set_more, set_all, unset_at, first_is, first_past, first_more, first_all, some_is, none_is}
use Rattle.sdl_unset.proofs.search.find_first.Goals as goal
use Rattle.sdl_unset.proofs.search.find_first.Goals.{in-Set, in-Unset}

pub loop-variable-preserved : goal.loop-variable-preserved
loop-variable-preserved c =
    let fates = c.args.fates.now in
    let k = c.loop-variable.variable in
    let f = c.index-fates-variable.result in
    elim c.match-fate.branch [
      | in-Set w ↦ rw w.best-is (record {
        found = c.loop-variable.invariant.found;
        first = first_past fates k f w.in-Set.field-0 c.loop-variable.best c.loop-variable-test.true c.index-fates-variable.is w.in-Set.is c.loop-variable.invariant.first;
        none = λ e. set_more fates k f w.in-Set.field-0 c.loop-variable-test.true c.index-fates-variable.is w.in-Set.is (c.loop-variable.invariant.none e);
      })
      | in-Unset w ↦
          let last : IsUnsetAt fates k = unset_at fates k f w.in-Unset.field-0 c.loop-variable-test.true c.index-fates-variable.is w.in-Unset.is in
          rw w.best-is (record {
            found = first_is fates c.loop-variable.best k w.first_of.result w.first_of.ensures.one c.loop-variable.invariant.found last;
            first = first_more fates k w.first_of.result c.loop-variable.best w.first_of.ensures.other w.first_of.ensures.best c.loop-variable.invariant.none c.loop-variable.invariant.first;
            none = λ e. absurd (some_is w.first_of.result e);
          })
    ]

pub returns-clause-first : goal.returns-clause-first
returns-clause-first c =
    first_all c.args.fates.now c.loop-variable.variable c.loop-variable.best c.loop-variable-test.false c.loop-variable.invariant.first

pub returns-clause-none : goal.returns-clause-none
returns-clause-none c =
    none_is c.loop-variable.best c.args.fates.now
    (λ e. set_all c.args.fates.now c.loop-variable.variable c.loop-variable-test.false (c.loop-variable.invariant.none e))
