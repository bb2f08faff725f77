use Rattle.std.proofs.Common.{◌∙◌, List, ap, sym, map, subst}
use Rattle.script_lines.specs.declared.lines.Line.{Line}
use Rattle.script_lines.specs.Lines.{plain_line}
use Rattle.pool_soak.specs.Scripts.{plain_soak, empty, read, IsBadAt}
use Rattle.pool_soak.proofs.Loops.{good, unknown, fault}
use Rattle.pool_soak.proofs.script.script_in.Goals as goal

pub returns-in-Some-clause-script : goal.returns-in-Some-clause-script
returns-in-Some-clause-script c =
    let reads = ap (λ ls. read empty (map plain_line ls)) (sym c.deref.ensures.value) ∙ c.in-Ok.ensures.read in
    good c.args.text.now (map plain_line c.in_ok-lines.lines.items) (plain_soak c.in-Ok.soak) c.in-Some.field-0 c.requires c.in_ok-lines.ensures reads c.in-Some.is

pub returns-in-Ok-clause-fault : goal.returns-in-Ok-clause-fault
returns-in-Ok-clause-fault c =
    let reads = ap (λ ls. read empty (map plain_line ls)) (sym c.deref.ensures.value) ∙ c.in-Ok.ensures.read in
    unknown c.args.text.now (map plain_line c.in_ok-lines.lines.items) (plain_soak c.in-Ok.soak) c.requires c.in_ok-lines.ensures reads c.in-None.is

pub returns-clause-fault : goal.returns-clause-fault
returns-clause-fault c =
    let P : List Line → Type 0 = λ ls. IsBadAt empty (map plain_line ls) c.in-Err.fault in
    fault c.args.text.now (map plain_line c.in_ok-lines.lines.items) c.in-Err.fault c.requires c.in_ok-lines.ensures
    (subst P c.deref.ensures.value c.in-Err.ensures.bad)
