use Rattle.std.proofs.Common.{◌≡◌, ◌≤◌, ◌+◌, ◌++◌, ◌∷◌, [], ℕ, List, Option, Ok, Err, Vec, Global, length, take, sym, ap, ◌∙◌, subst, arith}
use Rattle.std.specs.Prelude.{IfSome, All}
use Rattle.std.proofs.lemmas.List.{take_all}
use Rattle.sdl_ast.specs.Plain.{PlainProcess}
use Rattle.sdl_unset.specs.declared.settled.Unset.{Unset}
use Rattle.std.proofs.lemmas.List.Elements.{All-push}
use Rattle.sdl_ast.specs.Views.{process_of, block_of}
use Rattle.sdl_tables.specs.Names.{variables_of, processes_of}
use Rattle.sdl_sound.specs.Names.{process_unknown}
use Rattle.sdl_sound.specs.Actions.{in_statements}
use Rattle.sdl_sound.specs.Decisions.{statement_unanswered}
use Rattle.sdl_sound.specs.Orders.{IsOrder}
use Rattle.sdl_sound.specs.Paths.{NeverReadsUnset}
use Rattle.sdl_sound.specs.Settled.{AreSettled}
use Rattle.sdl_unset.specs.Surveys.{IsSurvey, AllSettled}
use Rattle.sdl_unset.proofs.Surveying.{within_few, within_known, within_answered, order_within, order_at, plain, all_at_table, plain_more, contains_process, among_past, shorter_is, shortest_past, shortest_more, some_unset, found_of_all, IsUnsetAmong, AreShortest}
use Rattle.std.proofs.lemmas.Slice.Zip.{all_zipped_more as all_zip_push}
use Rattle.sdl_unset.proofs.settled.settle.Goals as goal
use Rattle.sdl_unset.proofs.settled.settle.Goals.{in-Ok+in_ok-push-in-Ok, in-Err}

pub bounds-orders-number : goal.bounds-orders-number
bounds-orders-number c =
    order_within c.tables-tables.result.now (processes_of (block_of c.args.block.now)) c.args.orders.now c.loop-number.number c.tables-tables.ensures c.requires.orders c.loop-number-test.true

pub survey-requires-clause-few : goal.survey-requires-clause-few
survey-requires-clause-few c =
    all_at_table (λ p. length (variables_of p) ≤ 32) c.tables-tables.result.now (processes_of (block_of c.args.block.now)) c.loop-number.number c.index-tables-number.result
    c.tables-tables.ensures (within_few (block_of c.args.block.now) c.requires.within) c.loop-number-test.true c.index-tables-number.is

pub survey-requires-clause-known : goal.survey-requires-clause-known
survey-requires-clause-known c =
    all_at_table (λ p. process_unknown (block_of c.args.block.now) p ≡ []) c.tables-tables.result.now (processes_of (block_of c.args.block.now))
    c.loop-number.number c.index-tables-number.result c.tables-tables.ensures (within_known (block_of c.args.block.now) c.requires.within) c.loop-number-test.true c.index-tables-number.is

pub survey-requires-clause-answered : goal.survey-requires-clause-answered
survey-requires-clause-answered c =
    all_at_table (λ p. in_statements (λ from. statement_unanswered (variables_of p)) p ≡ []) c.tables-tables.result.now (processes_of (block_of c.args.block.now))
    c.loop-number.number c.index-tables-number.result c.tables-tables.ensures (within_answered (block_of c.args.block.now) c.requires.within) c.loop-number-test.true c.index-tables-number.is

pub survey-requires-clause-order : goal.survey-requires-clause-order
survey-requires-clause-order c =
    subst (IsOrder (process_of c.index-tables-number.result)) (sym c.deref.ensures.value)
    (order_at c.tables-tables.result.now (processes_of (block_of c.args.block.now)) c.args.orders.now c.loop-number.number c.index-tables-number.result c.index-orders-number.result
    c.tables-tables.ensures c.requires.orders c.loop-number-test.true c.index-tables-number.is c.index-orders-number.is)

pub loop-number-preserved : goal.loop-number-preserved
loop-number-preserved c =
    let ts = c.tables-tables.result.now in
    let k = c.loop-number.number in
    let t = c.index-tables-number.result in
    let b = block_of c.args.block.now in
    let more : plain (take (k + 1) ts) ≡ plain (take k ts) ++ process_of t ∷ [] = plain_more ts k t c.loop-number-test.true c.index-tables-number.is in
    elim c.match-branch-2.branch [
      | in-Ok+in_ok-push-in-Ok w ↦
          let told : IsSurvey b (process_of t) (Ok w.in-Ok.set) = subst (IsSurvey b (process_of t)) w.in-Ok.is c.in_ok-set.ensures in
          rw (w.best-is, w.sets-is, more) (record {
            found = among_past b (plain ts) (plain (take k ts)) (process_of t) c.loop-number.best c.loop-number.invariant.found;
            fewest = shortest_past (plain (take k ts)) (process_of t) c.loop-number.best told.1 c.loop-number.invariant.fewest;
            sets = λ e.
                subst (λ (l : List (Vec ℕ Global)). AllSettled (plain (take k ts) ++ process_of t ∷ []) l) (sym w.in_ok-push-in-Ok.ensures.items)
                (all_zip_push (λ p (v : Vec ℕ Global). AreSettled p v.items) (plain (take k ts)) c.loop-number.sets.items (process_of t) w.in-Ok.set
                (c.loop-number.invariant.sets e) told.0);
            none = λ e. All-push NeverReadsUnset (plain (take k ts)) (process_of t) (c.loop-number.invariant.none e) told.1;
          })
      | in-Err w ↦
          let told : IsSurvey b (process_of t) (Err w.in-Err.unset) = subst (IsSurvey b (process_of t)) w.in-Err.is c.in_ok-set.ensures in
          rw (w.best-is, w.sets-is, more) (record {
            found = shorter_is b (plain ts) (plain (take k ts)) (process_of t) c.loop-number.best w.in-Err.unset w.shorter.result w.shorter.ensures.one
                c.loop-number.invariant.found c.loop-number.invariant.none c.loop-number.invariant.fewest
                (contains_process ts k t c.loop-number-test.true c.index-tables-number.is) told.0 told.2;
            fewest = shortest_more (plain (take k ts)) (process_of t) c.loop-number.best w.in-Err.unset w.shorter.result w.shorter.ensures.fewer w.shorter.ensures.best
                c.loop-number.invariant.none c.loop-number.invariant.fewest told.1;
            sets = λ e. absurd (some_unset w.shorter.result e);
            none = λ e. absurd (some_unset w.shorter.result e);
          })
    ]

pub returns-in-None : goal.returns-in-None
returns-in-None c =
    let ts = c.tables-tables.result.now in
    let b = block_of c.args.block.now in
    let all : plain (take c.loop-number.number ts) ≡ processes_of b =
    ap plain (take_all c.loop-number.number ts (omega arith)) ∙ c.tables-tables.ensures in (
      subst (λ (ps : List PlainProcess). AllSettled ps c.loop-number.sets.items) all (c.loop-number.invariant.sets c.in-None.is),
      subst (λ (ps : List PlainProcess). All NeverReadsUnset ps) all (c.loop-number.invariant.none c.in-None.is),
    )

pub returns-in-Some : goal.returns-in-Some
returns-in-Some c =
    let ts = c.tables-tables.result.now in
    let b = block_of c.args.block.now in
    let far = plain (take c.loop-number.number ts) in
    let u = c.in-Some.unset in
    let all : far ≡ processes_of b = ap plain (take_all c.loop-number.number ts (omega arith)) ∙ c.tables-tables.ensures in
    found_of_all b (plain ts) far (processes_of b) u c.tables-tables.ensures all
    (subst (λ (o : Option Unset). IfSome o (IsUnsetAmong b (plain ts) far)) c.in-Some.is c.loop-number.invariant.found)
    (subst (λ (o : Option Unset). IfSome o (AreShortest far)) c.in-Some.is c.loop-number.invariant.fewest)
