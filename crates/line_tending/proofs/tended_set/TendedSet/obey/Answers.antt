use Rattle.std.proofs.Common.{◌≡◌, ◌∙◌, inl, false, true≢false, refl, sym, ap, subst, arith}
use Rattle.link_group.specs.Commanding.{is_start}
use Rattle.line_tending.specs.Rounds.{AddsOrders}
use Rattle.line_tending.specs.Tended.{Tended}
use Rattle.line_tending.proofs.Acting.{on_ok_so}
use Rattle.line_tending.proofs.Giving.{disobeyed_by}
use Rattle.line_tending.proofs.Doing.{adds_same, orders_nothing, orders_of}
use Rattle.line_tending.proofs.Reading.{put_off_of, given_of, noted_of, kept_of}
use Rattle.line_tending.proofs.tended_set.TendedSet.obey.Goals as goal

pub returns-then-link-len-clause-adds : goal.returns-then-link-len-clause-adds
returns-then-link-len-clause-adds c = orders_nothing c.args.self.now

pub returns-then-is_start-clause-adds : goal.returns-then-is_start-clause-adds
returns-then-is_start-clause-adds c = orders_of c.args.self.now c.keep.new.self (adds_same c.args.self.now c.keep.new.self c.keep.ensures)

pub returns-then-is_start-clause-other : goal.returns-then-is_start-clause-other
returns-then-is_start-clause-other c = λ other. absurd (true≢false (sym (sym c.is_start.ensures ∙ c.if-is_start.true) ∙ other))

pub returns-then-is_start-clause-ordered : goal.returns-then-is_start-clause-ordered
returns-then-is_start-clause-ordered c = λ other. absurd (true≢false (sym (sym c.is_start.ensures ∙ c.if-is_start.true) ∙ other))

pub returns-then-is_start-clause-none : goal.returns-then-is_start-clause-none
returns-then-is_start-clause-none c = λ past. absurd (omega arith)

pub returns-clause-adds : goal.returns-clause-adds
returns-clause-adds c = subst (λ (t : Tended). AddsOrders t c.carry_out.new.self) c.keep.ensures c.carry_out.ensures.adds

pub returns-clause-start : goal.returns-clause-start
returns-clause-start c = on_ok_so c.carry_out.result (λ start. absurd (true≢false (sym start ∙ (sym c.is_start.ensures ∙ c.if-is_start.false))))

pub returns-clause-put_off : goal.returns-clause-put_off
returns-clause-put_off c = put_off_of c.carry_out.result c.args.command c.args.self.now c.keep.new.self c.carry_out.new.self c.keep.ensures c.carry_out.ensures.put_off

pub returns-clause-ordered : goal.returns-clause-ordered
returns-clause-ordered c =
    noted_of c.carry_out.result c.args.link c.args.command (is_start c.args.command ≡ false) c.args.self.now c.keep.new.self c.carry_out.new.self c.keep.ensures
    c.carry_out.ensures.ordered

pub returns-clause-kept : goal.returns-clause-kept
returns-clause-kept c = kept_of c.carry_out.result c.args.self.now c.keep.new.self c.carry_out.new.self c.keep.ensures c.carry_out.ensures.kept

pub returns-clause-other : goal.returns-clause-other
returns-clause-other c =
    given_of c.carry_out.result c.args.command c.args.link (is_start c.args.command ≡ false) c.args.self.now c.keep.new.self c.carry_out.new.self c.keep.ensures c.carry_out.ensures.given

pub returns-clause-none : goal.returns-clause-none
returns-clause-none c = λ past. absurd (omega arith)

pub returns-then-link-len-clause-err : goal.returns-then-link-len-clause-err
returns-then-link-len-clause-err c = inl (omega arith, refl, refl)

pub returns-clause-err : goal.returns-clause-err
returns-clause-err c =
    disobeyed_by c.carry_out.result c.args.command c.args.link c.args.self.now c.keep.new.self c.carry_out.new.self c.keep.ensures c.carry_out.ensures.err
