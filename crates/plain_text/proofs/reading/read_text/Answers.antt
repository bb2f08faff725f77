use Rattle.std.proofs.Common.{ℕ, take, refl, subst, rules}
use Rattle.std.specs.Io.KnownBytes.{Consumes}
use Rattle.plain_text.proofs.SoFar.{so_far-more, so_far-short, so_far-kept, so_far-all}
use Rattle.plain_text.proofs.reading.read_text.Goals as goal
use Rattle.plain_text.proofs.reading.read_text.Goals.{in-Ok+in_ok-keep-in-Ok, in-Err+else-ne}

pub returns-in-Ok-eq0 : goal.returns-in-Ok-eq0
returns-in-Ok-eq0 g c =
    let P : ℕ → Type 0 = λ n. Consumes (g.R.Read.remaining c.loop.reader) (g.R.Read.remaining c.read.new.self) (take n c.read.new.buf) in
    so_far-all _ _ (g.R.Read.remaining c.read.new.self) c.loop.kept.items c.loop.check _ c.loop.invariant
    (subst P c.in-Ok-eq0.field-0-test c.in-Ok-eq0.ensures.bytes.0)
    (c.in-Ok-eq0.ensures.bytes.1 c.in-Ok-eq0.field-0-test (search rules))
    refl c.is_text-is_text.ensures

pub keep-requires : goal.keep-requires
keep-requires g c = so_far-short _ _ c.loop.kept.items c.loop.check c.loop.invariant

pub loop-preserved : goal.loop-preserved
loop-preserved g c = elim c.match-read.branch [
  | in-Ok+in_ok-keep-in-Ok w ↦
      rw (w.kept-is, w.check-is)
      (so_far-more _ (g.R.Read.remaining c.loop.reader) _ c.loop.kept.items _ _ c.loop.check _ c.loop.invariant w.in-Ok.ensures.bytes.0 w.in_ok-keep-in-Ok.ensures w.push_all.ensures)
  | in-Err+else-ne w ↦
      rw (w.kept-is, w.check-is) (so_far-kept _ (g.R.Read.remaining c.loop.reader) _ c.loop.kept.items c.loop.check c.loop.invariant w.in-Err.ensures.bytes)
]
