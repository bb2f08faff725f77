use Rattle.std.proofs.Common.{ℕ, List, sym, subst}
use Rattle.std.specs.Prelude.{slice_get}
use Rattle.turn_check.specs.Named.{process_names, IsNamed}
use Rattle.link_processes.proofs.known.process.Goals as goal

pub unreachable-requires : goal.unreachable-requires
unreachable-requires c =
    let h = c.requires c.args.name in
    let P : List ℕ → Type 0 = λ name. IsNamed (slice_get (process_names c.args.set.now) h.0) name in
    c.in-None.ensures.none h.0 (subst P (sym c.word.ensures) h.1.there)
