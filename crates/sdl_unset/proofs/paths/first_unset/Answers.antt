use Rattle.std.proofs.Common.{◌≡◌, ℕ, [], ◌∷◌, rules, arith, refl, sym, ap, ◌∙◌, Option, length, List, Bool, false, subst, Vec, Global}
use Rattle.std.specs.Prelude.{IfNone, replicate}
use Rattle.sdl_unset.specs.Graph.{IsClosed, AreEntered, ReadsUnset, has, Covers}
use Rattle.sdl_unset.specs.Visits.{Enters, IsBy, AreVisited, StayInOrder, AreInOrder, unseen, AreKept, AreUnder}
use Rattle.sdl_unset.specs.declared.paths.Step.{Step}
use Rattle.sdl_unset.specs.declared.paths.Visit.{Visit}
use Rattle.sdl_unset.proofs.PathWalking.{closed_set, none_with, visited_none, unseen_all, reached_from_start}
use Rattle.sdl_unset.proofs.Levels.{levels_from, order_none, shortest_start}
use Rattle.sdl_unset.proofs.FirstPaths.{kept_none, least_from, all_start, first_start}
use Rattle.sdl_unset.specs.Order.{AreSorted}
use Rattle.sdl_unset.specs.declared.paths.Step.TheVariants.{Start}
use Rattle.sdl_unset.proofs.paths.first_unset.Goals as goal

pub returns-then-contains-clause-found : goal.returns-then-contains-clause-found
returns-then-contains-clause-found c =
    let P : List Step → Type 0 = λ l. ReadsUnset c.args.graph.now c.args.variable l in
    subst P (sym c.in_ok-start.ensures) (c.args.graph.now.start, refl, sym c.if-contains.ensures)

pub returns-then-contains-clause-fewest : goal.returns-then-contains-clause-fewest
returns-then-contains-clause-fewest c = shortest_start c.args.graph.now c.args.variable _ (ap length c.in_ok-start.ensures)

pub search-requires-clause-reached : goal.search-requires-clause-reached
search-requires-clause-reached c =
    let enters : Enters (IsBy c.deref.result.now c.args.variable c.deref-2.result.now) [] c.enter.new.visits.items =
    rw c.new-visits.ensures.items at c.in_ok-enter.ensures.enters in
    reached_from_start c.args.graph.now c.args.variable c.deref.result.now c.deref-2.result.now c.enter.new.visits.items
    c.deref.ensures.value (c.deref-2.ensures.value ∙ c.in_ok-start.ensures) enters

pub search-requires-clause-visited : goal.search-requires-clause-visited
search-requires-clause-visited c =
    let blank : c.in_ok-seen.seen.items ≡ replicate (length c.args.graph.now.states.items) false = search rules in
    let P : List Bool → Type 0 = λ l. AreVisited l c.new-visits.result.items in
    let Q : List Visit → Type 0 = λ l. AreVisited (replicate (length c.args.graph.now.states.items) false) l in
    c.in_ok-enter.ensures.grows.visited (subst P (sym blank) (subst Q (sym c.new-visits.ensures.items) (visited_none (length c.args.graph.now.states.items))))

pub search-requires-clause-levels : goal.search-requires-clause-levels
search-requires-clause-levels c =
    let n = length c.args.graph.now.states.items in
    let blank : length c.in_ok-seen.seen.items ≡ n = search rules in
    let quiet : has c.args.graph.now.start.reads c.args.variable ≡ false = sym c.if-contains.ensures in
    let covers : Covers c.args.graph.now.start.passages.items c.args.variable c.enter.new.seen.items =
    rw c.deref.ensures.value at c.in_ok-enter.ensures.covers in
    let one : length c.deref-2.result.now ≡ 1 = ap length (c.deref-2.ensures.value ∙ c.in_ok-start.ensures) in
    let P : ℕ → Type 0 = λ m. StayInOrder m c.new-visits.result.items c.enter.new.visits.items in
    let Q : List Visit → Type 0 = λ l. AreInOrder 1 l in
    levels_from c.args.graph.now c.args.variable c.enter.new.seen.items c.enter.new.visits.items quiet
    (c.in_ok-enter.ensures.grows.states ∙ blank) (search-requires-clause-visited c) covers
    (subst P one c.in_ok-enter.ensures.order (subst Q (sym c.new-visits.ensures.items) (order_none 1)))

pub search-requires-clause-count : goal.search-requires-clause-count
search-requires-clause-count c =
    let n = length c.args.graph.now.states.items in
    let blank : c.in_ok-seen.seen.items ≡ replicate n false = search rules in
    let all : unseen c.in_ok-seen.seen.items ≡ n = ap unseen blank ∙ unseen_all n in
    let long : length c.in_ok-seen.seen.items ≡ n = search rules in
    let none : length c.new-visits.result.items ≡ 0 = ap length c.new-visits.ensures.items in
    omega (arith, c.in_ok-enter.ensures.grows.count, c.in_ok-enter.ensures.grows.states, all, long, none)

pub returns-clause-closed : goal.returns-clause-closed
returns-clause-closed c =
    let n = length c.args.graph.now.states.items in
    let quiet : has c.args.graph.now.start.reads c.args.variable ≡ false = sym c.if-contains.ensures in
    let covers : Covers c.args.graph.now.start.passages.items c.args.variable c.enter.new.seen.items =
    rw c.deref.ensures.value at c.in_ok-enter.ensures.covers in
    let blank : length c.in_ok-seen.seen.items ≡ n = search rules in
    let count : length c.search.new.seen.items ≡ n = c.in_ok-path.ensures.states ∙ (c.in_ok-enter.ensures.grows.states ∙ blank) in
    closed_set c.args.graph.now c.args.variable c.enter.new.seen.items c.search.new.seen.items count quiet covers c.in_ok-path.ensures.stays
    (subst (λ (o : Option (Vec Step Global)). IfNone o (IsClosed c.args.graph.now c.args.variable c.search.new.seen.items)) c.in-None.is c.in_ok-path.ensures.none)

pub returns-clause-none : goal.returns-clause-none
returns-clause-none c = none_with c.args.graph.now c.args.variable c.search.new.seen.items (returns-clause-closed c)

pub returns-clause-entered : goal.returns-clause-entered
returns-clause-entered c =
    subst (λ (o : Option (Vec Step Global)). IfNone o (AreEntered c.args.graph.now c.args.variable c.search.new.seen.items)) c.in-None.is c.in_ok-path.ensures.entered

pub returns-then-contains-clause-first : goal.returns-then-contains-clause-first
returns-then-contains-clause-first c = λ sorted. first_start c.args.graph.now c.args.variable _ c.in_ok-start.ensures

pub search-requires-clause-least : goal.search-requires-clause-least
search-requires-clause-least c = λ sorted.
    let g = c.args.graph.now in
    let n = length g.states.items in
    let one : c.deref-2.result.now ≡ Start ∷ [] = c.deref-2.ensures.value ∙ c.in_ok-start.ensures in
    let blank : length c.in_ok-seen.seen.items ≡ n = search rules in
    let covers : Covers g.start.passages.items c.args.variable c.enter.new.seen.items = rw c.deref.ensures.value at c.in_ok-enter.ensures.covers in
    let keeps : AreSorted g.start.passages.items → AreKept c.deref-2.result.now 0 c.new-visits.result.items → AreUnder c.deref-2.result.now c.enter.new.visits.items =
    rw c.deref.ensures.value at c.in_ok-enter.ensures.kept in
    let P : List Visit → Type 0 = λ l. AreKept c.deref-2.result.now 0 l in
    let under : AreUnder c.deref-2.result.now c.enter.new.visits.items = keeps sorted.start (subst P (sym c.new-visits.ensures.items) (kept_none c.deref-2.result.now 0)) in
    let Q : List Step → Type 0 = λ l. AreUnder l c.enter.new.visits.items in
    let enters : Enters (IsBy c.deref.result.now c.args.variable c.deref-2.result.now) [] c.enter.new.visits.items =
    rw c.new-visits.ensures.items at c.in_ok-enter.ensures.enters in
    least_from g c.args.variable c.enter.new.seen.items c.enter.new.visits.items (c.in_ok-enter.ensures.grows.states ∙ blank) (search-requires-clause-visited c) covers
    (subst Q one under) (all_start c.deref.result.now c.args.variable c.deref-2.result.now c.enter.new.visits.items one enters)
