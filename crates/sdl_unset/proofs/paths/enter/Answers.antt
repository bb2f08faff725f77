use Rattle.std.proofs.Common.{◌≡◌, true, false, sym, ◌∙◌}
use Rattle.sdl_unset.proofs.Seen.{grows_on, enters_on, covers_more, by_passage, covers_all}
use Rattle.std.proofs.lemmas.Option.{slice_get-get_or}
use Rattle.sdl_unset.proofs.FirstPaths.{entered_past, entered_more}
use Rattle.sdl_unset.proofs.paths.enter.Goals as goal
use Rattle.sdl_unset.proofs.paths.enter.Goals.{then-contains+in_ok-see, else-contains}

pub loop-passage-preserved : goal.loop-passage-preserved
loop-passage-preserved c =
    elim c.if-contains.branch [
      | then-contains+in_ok-see w ↦
          let told = w.in_ok-see.ensures in
          let keeps = sym w.if-contains.ensures in
          rw (w.seen-is, w.visits-is) (record {
            grows = grows_on _ _ _ _ _ _ c.loop-passage.invariant.grows told.grows;
            covers = covers_more c.args.passages.now c.loop-passage.passage-index c.args.variable (record { state = 0; keeps = 0 }) _ _ c.loop-passage-test.true told.grows.stays c.loop-passage.invariant.covers (λ _. told.seen);
            enters = enters_on _ _ _ _ _ _ c.loop-passage.invariant.enters told.adds (λ _ h. h) (by_passage c.args.passages.now c.loop-passage.passage-index c.args.variable (record { state = 0; keeps = 0 }) c.args.path.now c.loop-passage-test.true keeps);
            order = λ h. told.order (c.loop-passage.invariant.order h);
            entered = entered_more c.args.passages.now c.loop-passage.passage-index _ c.args.path.now _ _ _ (slice_get-get_or c.args.passages.now c.loop-passage.passage-index (record { state = 0; keeps = 0 }) c.loop-passage-test.true) told.kept c.loop-passage.invariant.entered;
          })
      | else-contains w ↦
          rw (w.seen-is, w.visits-is) (record {
            grows = c.loop-passage.invariant.grows;
            covers = covers_more c.args.passages.now c.loop-passage.passage-index c.args.variable (record { state = 0; keeps = 0 }) _ _ c.loop-passage-test.true (λ _ h. h) c.loop-passage.invariant.covers (λ e. let no : false ≡ true = w.if-contains.ensures ∙ e in absurd (cc));
            enters = c.loop-passage.invariant.enters;
            order = c.loop-passage.invariant.order;
            entered = entered_past c.args.passages.now c.loop-passage.passage-index c.args.path.now _ _ c.loop-passage.invariant.entered;
          })
    ]

pub returns-clause-covers : goal.returns-clause-covers
returns-clause-covers c = covers_all c.args.passages.now c.loop-passage.passage-index c.args.variable _ c.loop-passage-test.false c.loop-passage.invariant.covers
