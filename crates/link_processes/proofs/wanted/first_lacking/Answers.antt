use Rattle.std.proofs.lemmas.Bool.{iff_false}
use Rattle.link_processes.specs.declared.wanted.Wanted.TheVariants.{Process}
use Rattle.link_processes.specs.declared.words.ProcessName.TheVariants.{Lsc}
use Rattle.link_processes.proofs.Having.{lacking_here, lacking_more, all_more}
use Rattle.link_processes.proofs.wanted.first_lacking.Goals as goal

pub returns-then-not-has-clause-found : goal.returns-then-not-has-clause-found
returns-then-not-has-clause-found c =
    lacking_here c.args.set.now c.args.all.now c.loop-name.name-index (Process Lsc) c.loop-name-test.true
    (iff_false c.has.ensures c.if-not-has.true) c.loop-name.invariant.found

pub loop-name-preserved : goal.loop-name-preserved
loop-name-preserved c = record {
  found = λ name h.
      c.loop-name.invariant.found name
      (lacking_more c.args.set.now c.args.all.now c.loop-name.name-index (Process Lsc) name c.loop-name-test.true (c.has.ensures.0 c.if-not-has.false) h);
  none = λ h.
      c.loop-name.invariant.none
      (all_more c.args.set.now c.args.all.now c.loop-name.name-index (Process Lsc) c.loop-name-test.true (c.has.ensures.0 c.if-not-has.false) h);
}
