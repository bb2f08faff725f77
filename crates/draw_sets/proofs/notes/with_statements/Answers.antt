use Rattle.draw_sets.proofs.notes.with_statements.Goals as goal

pub returns : goal.returns
returns c = record { behind = c.in_ok-text.text.items; written = c.in_ok-text.ensures; added = c.in_ok-push_connections.ensures }
