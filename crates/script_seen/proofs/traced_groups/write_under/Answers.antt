use Rattle.std.proofs.Common.{List, ℕ, sym, subst, ◌∙◌}
use Rattle.std.specs.Io.KnownBytes.{Appends}
use Rattle.script_seen.proofs.SetTraces.{under_none, under_some}
use Rattle.script_seen.proofs.traced_groups.write_under.Goals as goal

pub returns-then-is_empty : goal.returns-then-is_empty
returns-then-is_empty g c = under_none c.args.link c.args.text.now _ (sym c.is_empty.ensures ∙ c.if-is_empty.true)

pub returns : goal.returns
returns g c =
    let N : List ℕ → Type 0 = λ bs. Appends (g.T.Write.contents c.args.trace.now) (g.T.Write.contents c.write_all.new.self) bs in
    under_some c.args.link c.args.text.now c.in_ok-name.name.items _ _ _ (sym c.is_empty.ensures ∙ c.if-is_empty.false) c.in_ok-name.ensures
    (subst N c.deref.ensures.value c.in_ok-write_all.ensures.bytes) c.in_ok-write_all-2.ensures.bytes
