use Rattle.std.proofs.Common.{◌≡◌, ◌%◌, length, ap, arith, ◌∙◌}
use Rattle.script_ends.proofs.UnitLaws.{no_flags, flag_more, flags_end}
use Rattle.script_ends.proofs.unit_line.push_shared_flags.Goals as goal

pub loop-shared-init : goal.loop-shared-init
loop-shared-init c = no_flags _

pub loop-shared-preserved : goal.loop-shared-preserved
loop-shared-preserved c = flag_more _ _ _ _ c.loop-shared.invariant c.in_ok-push_shared_flag.ensures

pub returns-clause-whole : goal.returns-clause-whole
returns-clause-whole c =
    let over : c.bits_over-over.result ≡ length c.args.line.now.items % 8 = c.bits_over-over.ensures ∙ ap (λ l. length l % 8) c.deref.ensures.value in
    let all : c.loop-shared.shared ≡ c.bits_over-over.result = omega (arith, c.loop-shared-test.false, c.loop-shared.auto.shared-end) in
    flags_end c.args.line.now.items _ c.loop-shared.shared (omega (arith, over, all)) c.loop-shared.invariant
