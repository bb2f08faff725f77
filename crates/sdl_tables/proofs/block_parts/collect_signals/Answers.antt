use Rattle.std.proofs.Common.{[], ◌++◌, map, ap, sym, ◌∙◌}
use denote.Ref.{Bor}
use Rattle.sdl_ast.specs.declared.tree.SignalDeclaration.{SignalDeclaration}
use Rattle.sdl_ast.specs.Views.{entity_of, signal_of}
use Rattle.sdl_tables.specs.Names.{signals_in}
use Rattle.sdl_tables.proofs.Growing.{join_on, join_nothing}
use Rattle.sdl_tables.proofs.block_parts.collect_signals.Goals as goal
use Rattle.sdl_tables.proofs.block_parts.collect_signals.Goals.{in-Signals+in_ok-push_signals-in-Signals, in-Route, in-Connect, in-Synonyms, in-Process}
use Rattle.plain_laws.proofs.Lists.{mapped_more}

pub loop-entity-preserved : goal.loop-entity-preserved
loop-entity-preserved c =
    let more = mapped_more entity_of c.args.entities.now c.loop-entity.entity-index c.entity-item.result c.loop-entity-test.true c.entity-item.is in
    elim c.match-entity.branch [
      | in-Signals+in_ok-push_signals-in-Signals w ↦
          join_on signals_in [] _ _ _ _ _ more c.loop-entity.invariant (ap (λ v. map (λ (s : Bor SignalDeclaration). signal_of s.now) v.items) w.rows-is ∙ (w.in_ok-push_signals-in-Signals.ensures ∙ ap (λ l. map (λ (s : Bor SignalDeclaration). signal_of s.now) c.loop-entity.rows.items ++ map signal_of l) w.deref.ensures.value ∙ ap (λ l. map (λ (s : Bor SignalDeclaration). signal_of s.now) c.loop-entity.rows.items ++ l) (sym (ap (λ d. signals_in (entity_of d)) w.in-Signals.is))))
      | in-Route w ↦
          join_nothing signals_in [] _ _ _ _ _ more c.loop-entity.invariant (ap (λ v. map (λ (s : Bor SignalDeclaration). signal_of s.now) v.items) w.rows-is) (ap (λ d. signals_in (entity_of d)) w.in-Route.is)
      | in-Connect w ↦
          join_nothing signals_in [] _ _ _ _ _ more c.loop-entity.invariant (ap (λ v. map (λ (s : Bor SignalDeclaration). signal_of s.now) v.items) w.rows-is) (ap (λ d. signals_in (entity_of d)) w.in-Connect.is)
      | in-Synonyms w ↦
          join_nothing signals_in [] _ _ _ _ _ more c.loop-entity.invariant (ap (λ v. map (λ (s : Bor SignalDeclaration). signal_of s.now) v.items) w.rows-is) (ap (λ d. signals_in (entity_of d)) w.in-Synonyms.is)
      | in-Process w ↦
          join_nothing signals_in [] _ _ _ _ _ more c.loop-entity.invariant (ap (λ v. map (λ (s : Bor SignalDeclaration). signal_of s.now) v.items) w.rows-is) (ap (λ d. signals_in (entity_of d)) w.in-Process.is)
    ]
