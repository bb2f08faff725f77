use Rattle.std.proofs.Common.{List, ℕ, subst}
use Rattle.std.specs.Prelude.{OnOk}
use Rattle.std.specs.Io.KnownBytes.{Appends}
use Rattle.std.proofs.lemmas.List.{take-replicate}
use Rattle.line_filter.specs.Filters.{SILENCE, MOST_AHEAD, WritesPart}
use Rattle.line_filter.proofs.filter.write_ahead.Goals as goal

pub returns-clause-all : goal.returns-clause-all
returns-clause-all g c =
    let P : List ℕ → Type 0 = λ xs. OnOk c.write_part.result (Appends (g.W.Write.contents c.args.writer.now) (g.W.Write.contents c.write_part.new.writer) xs) in
    subst P (take-replicate c.args.ahead MOST_AHEAD SILENCE c.requires) c.write_part.ensures.all

pub returns-clause-part : goal.returns-clause-part
returns-clause-part g c =
    let P : List ℕ → Type 0 = λ xs. WritesPart (g.W.Write.contents c.args.writer.now) (g.W.Write.contents c.write_part.new.writer) xs in
    subst P (take-replicate c.args.ahead MOST_AHEAD SILENCE c.requires) c.write_part.ensures.part
