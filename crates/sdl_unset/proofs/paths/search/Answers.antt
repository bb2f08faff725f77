use Rattle.std.proofs.Common.{◌≡◌, ◌<◌, ◌≤◌, ◌+◌, ◌++◌, ◌∷◌, [], ℕ, List, rules, refl, sym, ap, subst, ◌∙◌, Some, None, length, length-append}
use Rattle.std.specs.Prelude.{slice_get}
use Rattle.std.proofs.lemmas.Option.{slice_get_read, get_or_from_slice_get}
use Rattle.sdl_unset.specs.Graph.{Reached}
use Rattle.sdl_unset.specs.Visits.{Enters, IsByInput, AreSafe, StayInOrder, ReadsBy, AreKept, AreNear, AreVisited, AreAllSorted}
use Rattle.sdl_unset.proofs.PathWalking.{Progress, progress_on, progress_past, closed_by, entered_by, expanded_by, expanded_past, found_by, some_weaker, when_none}
use Rattle.sdl_unset.proofs.Seen.{grows_not}
use Rattle.sdl_unset.specs.declared.paths.Step.{Step}
use Rattle.sdl_unset.proofs.Levels.{levels_on, shortest_by}
use Rattle.sdl_unset.proofs.FirstPaths.{first_by, quiet_inputs, reached_some, least_turn, least_past}
use Rattle.sdl_unset.specs.Order.{IsSorted}
use Rattle.sdl_unset.specs.declared.paths.Step.TheVariants.{Input}
use Rattle.sdl_unset.proofs.paths.search.Goals as goal
use Rattle.sdl_unset.proofs.paths.search.Goals.{then-state-len+in_ok-found+else-is_some+in-Some-1, then-state-len+in_ok-found+else-is_some+in-None-1, else-state-len}

pub returns-then-is_some-clause-found : goal.returns-then-is_some-clause-found
returns-then-is_some-clause-found c =
    let visits = c.loop-next.visits.items in
    let v = c.index-visit.result.now in
    let within : c.loop-next.next < length visits = search rules in
    let there : slice_get visits c.loop-next.next ≡ Some v = slice_get_read visits (length visits) c.loop-next.next v refl within (search rules) in
    let inside : v.state < length c.args.graph.now.states.items = search rules in
    let state : slice_get c.args.graph.now.states.items v.state ≡ Some c.index-inputs.result.now =
    slice_get_read c.args.graph.now.states.items (length c.args.graph.now.states.items) v.state c.index-inputs.result.now refl inside (search rules) in
    let here : Reached c.args.graph.now c.args.variable None v.path.items v.state =
    c.loop-next.invariant.reached v (c.loop-next.next, within, get_or_from_slice_get visits c.loop-next.next v v there) in
    some_weaker _ _ c.in_ok-found.found (λ longer r. found_by c.args.graph.now c.args.variable v.state v.path.items c.index-inputs.result.now longer.items here state (rw (c.deref.ensures.value, c.deref-then-state-len.ensures.value, c.in_ok-path.ensures.items, c.as_slice.ensures.value) at r)) c.in_ok-found.ensures.found

pub returns-then-is_some-clause-fewest : goal.returns-then-is_some-clause-fewest
returns-then-is_some-clause-fewest c =
    let visits = c.loop-next.visits.items in
    let v = c.index-visit.result.now in
    let within : c.loop-next.next < length visits = search rules in
    let there : slice_get visits c.loop-next.next ≡ Some v = slice_get_read visits (length visits) c.loop-next.next v refl within (search rules) in
    some_weaker _ _ c.in_ok-found.found (λ longer r.
    let by : ReadsBy c.index-inputs.result.now.items c.args.variable v.state v.path.items longer.items =
    rw (c.deref.ensures.value, c.deref-then-state-len.ensures.value, c.in_ok-path.ensures.items, c.as_slice.ensures.value) at r in
    shortest_by c.args.graph.now c.args.variable c.loop-next.next v c.loop-next.seen.items visits c.loop-next.invariant.levels c.loop-next.invariant.expanded there longer.items
    (ap length by.all ∙ length-append v.path.items _)) c.in_ok-found.ensures.found

pub returns-then-is_some-clause-first : goal.returns-then-is_some-clause-first
returns-then-is_some-clause-first c =
    let g = c.args.graph.now in
    let visits = c.loop-next.visits.items in
    let v = c.index-visit.result.now in
    let within : c.loop-next.next < length visits = search rules in
    let there : slice_get visits c.loop-next.next ≡ Some v = slice_get_read visits (length visits) c.loop-next.next v refl within (search rules) in
    let inside : v.state < length g.states.items = search rules in
    let state : slice_get g.states.items v.state ≡ Some c.index-inputs.result.now =
    slice_get_read g.states.items (length g.states.items) v.state c.index-inputs.result.now refl inside (search rules) in
    let here : Reached g c.args.variable None v.path.items v.state =
    c.loop-next.invariant.reached v (c.loop-next.next, within, get_or_from_slice_get visits c.loop-next.next v v there) in
    some_weaker _ _ c.in_ok-found.found (λ longer r sorted.
    let by : ReadsBy c.index-inputs.result.now.items c.args.variable v.state v.path.items longer.items =
    rw (c.deref.ensures.value, c.deref-then-state-len.ensures.value, c.in_ok-path.ensures.items, c.as_slice.ensures.value) at r in
    let quiet = quiet_inputs g c.args.variable v c.index-inputs.result.now by.number state by.first in
    let shortest = shortest_by g c.args.variable c.loop-next.next v c.loop-next.seen.items visits c.loop-next.invariant.levels c.loop-next.invariant.expanded there longer.items
    (ap length by.all ∙ length-append v.path.items _) in
    first_by g c.args.variable c.loop-next.next v c.loop-next.seen.items visits by.number longer.items c.loop-next.invariant.levels (c.loop-next.invariant.least sorted)
    c.loop-next.invariant.expanded there quiet (reached_some g c.args.variable v.path.items v.state here) by.all shortest) c.in_ok-found.ensures.found

pub loop-next-preserved : goal.loop-next-preserved
loop-next-preserved c =
    let visits = c.loop-next.visits.items in
    let v = c.index-visit.result.now in
    let within : c.loop-next.next < length visits = search rules in
    let there : slice_get visits c.loop-next.next ≡ Some v = slice_get_read visits (length visits) c.loop-next.next v refl within (search rules) in
    let before : Progress c.args.graph.now c.args.variable c.loop-next.seen.items visits c.loop-next.next = record {
      states = c.loop-next.invariant.states ∙ search rules;
      reached = c.loop-next.invariant.reached;
      visited = c.loop-next.invariant.visited;
      count = c.loop-next.invariant.count;
      expanded = c.loop-next.invariant.expanded;
      within = c.loop-next.invariant.within;
    } in
    elim c.if-state-len.branch [
      | then-state-len+in_ok-found+else-is_some+in-Some-1 w ↦
          let told = w.in_ok-found.ensures in
          let inside : v.state < length c.args.graph.now.states.items = search rules in
          let state : slice_get c.args.graph.now.states.items v.state ≡ Some w.index-inputs.result.now =
          slice_get_read c.args.graph.now.states.items (length c.args.graph.now.states.items) v.state w.index-inputs.result.now refl inside (search rules) in
          let path_is : w.deref-then-state-len.result.now ≡ v.path.items =
          w.deref-then-state-len.ensures.value ∙ c.in_ok-path.ensures.items ∙ c.as_slice.ensures.value in
          let enters : Enters (IsByInput w.index-inputs.result.now.items c.args.variable v.state w.deref-then-state-len.result.now) visits w.expand.new.visits.items =
          rw w.deref.ensures.value at told.enters in
          let none : AreSafe w.index-inputs.result.now.items c.args.variable w.expand.new.seen.items = rw w.deref.ensures.value at (when_none w.in_ok-found.found _ (sym w.if-is_some.ensures) told.none) in
          let p = progress_on c.args.graph.now c.args.variable c.loop-next.next v w.index-inputs.result.now w.deref-then-state-len.result.now
          c.loop-next.seen.items visits w.expand.new.seen.items w.expand.new.visits.items before there path_is state told.grows enters none in
          let P : List Step → Type 0 = λ l. StayInOrder (length l + 1) visits w.expand.new.visits.items in
          let levels_here = levels_on c.args.graph.now c.args.variable c.loop-next.next v c.loop-next.seen.items visits w.expand.new.seen.items w.expand.new.visits.items
          c.loop-next.invariant.levels there told.grows p.states p.visited
          (expanded_by c.args.graph.now c.args.variable v.state w.index-inputs.result.now w.expand.new.seen.items state none) (subst P path_is told.order) in
          let keeps : (let l = w.deref-then-state-len.result.now in AreAllSorted w.index-inputs.result.now.items → AreKept (l ++ Input v.state 0 ∷ []) 0 visits
          → (n : ℕ) × AreKept (l ++ Input v.state n ∷ []) 0 w.expand.new.visits.items) = rw w.deref.ensures.value at told.kept in
          let nears : (let l = w.deref-then-state-len.result.now in AreAllSorted w.index-inputs.result.now.items → AreKept (l ++ Input v.state 0 ∷ []) 0 visits
          → AreVisited c.loop-next.seen.items visits
          → AreNear (length c.loop-next.seen.items) c.args.variable w.expand.new.visits.items l v.state w.index-inputs.result.now.items (length w.index-inputs.result.now.items)) =
          rw w.deref.ensures.value at (when_none w.in_ok-found.found _ (sym w.if-is_some.ensures) told.near) in
          let least_here = λ (sorted : IsSorted c.args.graph.now). least_turn c.args.graph.now c.args.variable c.loop-next.next v w.index-inputs.result.now w.deref-then-state-len.result.now
          c.loop-next.seen.items visits w.expand.new.seen.items w.expand.new.visits.items sorted (c.loop-next.invariant.least sorted) there path_is state told.grows before.states before.visited keeps nears in
          rw (w.seen-is, w.visits-is) (record {
            states = told.grows.states ∙ c.loop-next.invariant.states;
            least = least_here;
            stays = λ s h. told.grows.stays s (c.loop-next.invariant.stays s h);
            reached = p.reached;
            visited = p.visited;
            count = p.count;
            expanded = p.expanded;
            levels = levels_here;
            within = p.within;
          })
      | then-state-len+in_ok-found+else-is_some+in-None-1 w ↦
          let told = w.in_ok-found.ensures in
          let inside : v.state < length c.args.graph.now.states.items = search rules in
          let state : slice_get c.args.graph.now.states.items v.state ≡ Some w.index-inputs.result.now =
          slice_get_read c.args.graph.now.states.items (length c.args.graph.now.states.items) v.state w.index-inputs.result.now refl inside (search rules) in
          let path_is : w.deref-then-state-len.result.now ≡ v.path.items =
          w.deref-then-state-len.ensures.value ∙ c.in_ok-path.ensures.items ∙ c.as_slice.ensures.value in
          let enters : Enters (IsByInput w.index-inputs.result.now.items c.args.variable v.state w.deref-then-state-len.result.now) visits w.expand.new.visits.items =
          rw w.deref.ensures.value at told.enters in
          let none : AreSafe w.index-inputs.result.now.items c.args.variable w.expand.new.seen.items = rw w.deref.ensures.value at (when_none w.in_ok-found.found _ (sym w.if-is_some.ensures) told.none) in
          let p = progress_on c.args.graph.now c.args.variable c.loop-next.next v w.index-inputs.result.now w.deref-then-state-len.result.now
          c.loop-next.seen.items visits w.expand.new.seen.items w.expand.new.visits.items before there path_is state told.grows enters none in
          let P : List Step → Type 0 = λ l. StayInOrder (length l + 1) visits w.expand.new.visits.items in
          let levels_here = levels_on c.args.graph.now c.args.variable c.loop-next.next v c.loop-next.seen.items visits w.expand.new.seen.items w.expand.new.visits.items
          c.loop-next.invariant.levels there told.grows p.states p.visited
          (expanded_by c.args.graph.now c.args.variable v.state w.index-inputs.result.now w.expand.new.seen.items state none) (subst P path_is told.order) in
          let keeps : (let l = w.deref-then-state-len.result.now in AreAllSorted w.index-inputs.result.now.items → AreKept (l ++ Input v.state 0 ∷ []) 0 visits
          → (n : ℕ) × AreKept (l ++ Input v.state n ∷ []) 0 w.expand.new.visits.items) = rw w.deref.ensures.value at told.kept in
          let nears : (let l = w.deref-then-state-len.result.now in AreAllSorted w.index-inputs.result.now.items → AreKept (l ++ Input v.state 0 ∷ []) 0 visits
          → AreVisited c.loop-next.seen.items visits
          → AreNear (length c.loop-next.seen.items) c.args.variable w.expand.new.visits.items l v.state w.index-inputs.result.now.items (length w.index-inputs.result.now.items)) =
          rw w.deref.ensures.value at (when_none w.in_ok-found.found _ (sym w.if-is_some.ensures) told.near) in
          let least_here = λ (sorted : IsSorted c.args.graph.now). least_turn c.args.graph.now c.args.variable c.loop-next.next v w.index-inputs.result.now w.deref-then-state-len.result.now
          c.loop-next.seen.items visits w.expand.new.seen.items w.expand.new.visits.items sorted (c.loop-next.invariant.least sorted) there path_is state told.grows before.states before.visited keeps nears in
          rw (w.seen-is, w.visits-is) (record {
            states = told.grows.states ∙ c.loop-next.invariant.states;
            least = least_here;
            stays = λ s h. told.grows.stays s (c.loop-next.invariant.stays s h);
            reached = p.reached;
            visited = p.visited;
            count = p.count;
            expanded = p.expanded;
            levels = levels_here;
            within = p.within;
          })
      | else-state-len w ↦
          let past : length c.args.graph.now.states.items ≤ v.state = search rules in
          let p = progress_past c.args.graph.now c.args.variable c.loop-next.next v c.loop-next.seen.items visits before there past in
          let levels_here = levels_on c.args.graph.now c.args.variable c.loop-next.next v c.loop-next.seen.items visits c.loop-next.seen.items visits
          c.loop-next.invariant.levels there (grows_not c.loop-next.seen.items visits) before.states before.visited
          (expanded_past c.args.graph.now c.args.variable v.state c.loop-next.seen.items past) (λ h. h) in
          rw (w.seen-is, w.visits-is) (record {
            states = c.loop-next.invariant.states;
            stays = c.loop-next.invariant.stays;
            reached = p.reached;
            visited = p.visited;
            count = p.count;
            expanded = p.expanded;
            levels = levels_here;
            least = λ sorted. least_past c.args.graph.now c.args.variable c.loop-next.next v visits (c.loop-next.invariant.least sorted) there past;
            within = p.within;
          })
    ]

pub returns-clause-none : goal.returns-clause-none
returns-clause-none c =
    closed_by c.args.graph.now c.args.variable c.loop-next.next c.loop-next.seen.items c.loop-next.visits.items
    (c.loop-next.invariant.states ∙ search rules) (search rules) c.loop-next.invariant.visited c.loop-next.invariant.expanded

pub returns-clause-entered : goal.returns-clause-entered
returns-clause-entered c =
    entered_by c.args.graph.now c.args.variable c.loop-next.seen.items c.loop-next.visits.items c.loop-next.invariant.reached c.loop-next.invariant.visited
