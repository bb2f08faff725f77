use Rattle.std.proofs.Common.{rules, refl, arith, slice_set, Some, None, sym, ap, ◌∙◌, ◌++◌}
use Rattle.std.specs.Prelude.{slice_get}
use Rattle.link_group.specs.Commanding.{Commands, cleared_at}
use Rattle.link_group.specs.Gone.{unsure}
use Rattle.link_group.specs.Set.{LinkSet}
use Rattle.link_group.proofs.Numbered.{here, at_link, few_set}
use Rattle.link_group.proofs.ByLinks.{by_command, written, few_written, cleared_here}
use Rattle.link_group.proofs.Commands.{command_error, commanded, live_error}
use Rattle.link_group.proofs.Live.{over, commanded_by_command}
use Rattle.link_group.proofs.group.Group.command.Goals as goal

pub returns-in-Ok-clause-ok : goal.returns-in-Ok-clause-ok
returns-in-Ok-clause-ok c =
    by_command c.args.command c.args.link c.args.self.now _ c.self.inside.links.items (slice_set c.self.inside.links.items c.args.link c.command.new.self) c.as_mut_slice.result.now c.see.new.links _ c.self.inside.own c.self.inside.peer c.self.inside.unsure c.in-Ok.cleared _ c.self.inside.accepted.items c.self.inside.gone.items c.with_cleared-gone.result.items c.self.inside.table.links c.see.new.table.links (sym c.self.view_is) refl
    (commanded c.args.command c.args.link _ (slice_set c.self.inside.links.items c.args.link c.command.new.self) (at_link (Commands c.args.command None) c.args.link c.self.inside.links.items _ c.command.new.self (here c.self.inside.links.items c.args.link c.index_mut.result.now (search rules) c.index_mut.ensures.value) c.in-Ok.ensures.did))
    c.as_mut_slice.ensures.value (written c.self.inside.links.len c.see.new.links _ (search rules)) c.see.ensures.links c.see.ensures.table
    (cleared_here c.args.command c.self.inside.links.items c.args.link _ c.in-Ok.cleared (here c.self.inside.links.items c.args.link c.index_mut.result.now (search rules) c.index_mut.ensures.value) c.in-Ok.ensures.cleared) (search rules) (c.with_cleared-gone.ensures ∙ ap (λ (s : LinkSet). s.gone ++ unsure (cleared_at c.args.command (slice_get s.links c.args.link))) (sym c.self.view_is))

pub invariant_of-self : goal.invariant_of-self
invariant_of-self c = (
  few_written c.self.inside.links.len _ c.see.new.links _ (search rules) (omega (arith, c.self.invariant.0, c.self.inside.links.ok.0)),
  c.self.invariant.1,
  c.self.invariant.2,
  commanded_by_command c.args.command c.args.link (over c.self.inside.own c.self.inside.peer c.self.inside.unsure c.self.inside.accepted.items c.self.inside.gone.items c.self.inside.table.links _) _
      (by_command c.args.command c.args.link _ _ c.self.inside.links.items (slice_set c.self.inside.links.items c.args.link c.command.new.self) c.as_mut_slice.result.now c.see.new.links _ c.self.inside.own c.self.inside.peer c.self.inside.unsure c.in-Ok.cleared _ c.self.inside.accepted.items c.self.inside.gone.items c.with_cleared-gone.result.items c.self.inside.table.links c.see.new.table.links refl refl
      (commanded c.args.command c.args.link _ (slice_set c.self.inside.links.items c.args.link c.command.new.self) (at_link (Commands c.args.command None) c.args.link c.self.inside.links.items _ c.command.new.self (here c.self.inside.links.items c.args.link c.index_mut.result.now (search rules) c.index_mut.ensures.value) c.in-Ok.ensures.did))
      c.as_mut_slice.ensures.value (written c.self.inside.links.len c.see.new.links _ (search rules)) c.see.ensures.links c.see.ensures.table
      (cleared_here c.args.command c.self.inside.links.items c.args.link _ c.in-Ok.cleared (here c.self.inside.links.items c.args.link c.index_mut.result.now (search rules) c.index_mut.ensures.value) c.in-Ok.ensures.cleared) (search rules) (c.with_cleared-gone.ensures ∙ ap (λ (s : LinkSet). s.gone ++ unsure (cleared_at c.args.command (slice_get s.links c.args.link))) (sym c.self.view_is)))
      c.self.invariant.3,
)

pub invariant_of-self-in-Err : goal.invariant_of-self-in-Err
invariant_of-self-in-Err c = (
  few_set _ c.self.inside.links.items c.args.link c.command.new.self c.self.invariant.0,
  c.self.invariant.1,
  c.self.invariant.2,
  live_error c.args.command c.args.link c.self.inside.own c.self.inside.peer c.self.inside.unsure c.self.inside.accepted.items c.self.inside.gone.items c.self.inside.table.links c.self.inside.links.items (slice_set c.self.inside.links.items c.args.link c.command.new.self) _ c.in-Err.fault refl
      (at_link (Commands c.args.command (Some c.in-Err.fault)) c.args.link c.self.inside.links.items _ c.command.new.self (here c.self.inside.links.items c.args.link c.index_mut.result.now (search rules) c.index_mut.ensures.value) c.in-Err.ensures.did) c.self.invariant.3,
)

pub returns-in-Err-clause-err : goal.returns-in-Err-clause-err
returns-in-Err-clause-err c =
    command_error c.args.command c.args.link c.args.self.now _ c.self.inside.links.items (slice_set c.self.inside.links.items c.args.link c.command.new.self) _ c.self.inside.own c.self.inside.peer c.self.inside.unsure c.self.inside.accepted.items c.self.inside.gone.items c.self.inside.table.links c.in-Err.fault refl
    (at_link (Commands c.args.command (Some c.in-Err.fault)) c.args.link c.self.inside.links.items _ c.command.new.self (here c.self.inside.links.items c.args.link c.index_mut.result.now (search rules) c.index_mut.ensures.value) c.in-Err.ensures.did) refl (sym c.self.view_is)
