-- Commands that are given to a link: obeyed, or refused with an error.
use Rattle.std.proofs.Common.{◌≡◌, inr, ℕ, Bool, true, false, Result, Ok, Err, OnOk, IfOk, IfErr, sym, ap, subst}
use Rattle.link_processes.specs.declared.commands.Command.{Command}
use Rattle.link_processes.specs.declared.commands.Command.TheVariants as command
use Rattle.link_group.specs.declared.commanding.CommandError.{CommandError}
use Rattle.link_group.specs.declared.commanding.CommandError.TheVariants as error
use Rattle.link_group.specs.Lines.{ByCommand, IsCommandError}
use Rattle.line_tending.specs.Cares.{lacks_emergency}
use Rattle.line_tending.specs.Giving.{IsOther, IsLeft, IsDisobeyed, IsGiven, WasGiven, StartsAs}
use Rattle.line_tending.specs.Tended.{Tended}
use Rattle.line_tending.specs.declared.link_duty.LinkDuty.{LinkDuty}

pub left_by : (left : CommandError → Type 0) (e : CommandError) → left e → IsLeft left e
left_by left error.NoLink is = is
left_by left error.Waiting is = is
left_by left (error.Refused refusal) is = is
left_by left error.NoMemory is = tt

pub only_memory : {A : Type 0} (left : CommandError → Type 0) (r : Result A CommandError) → IfErr r (λ (e : CommandError). e ≡ error.NoMemory) → IfErr r (IsLeft left)
only_memory left (Ok v) is = tt
only_memory left (Err e) is = subst (IsLeft left) (sym is) tt

left_of : (left : CommandError → Type 0) (e : CommandError) → IsOther e → IsLeft left e → left e
left_of left error.NoLink other is = is
left_of left error.Waiting other is = is
left_of left (error.Refused refusal) other is = is
left_of left error.NoMemory other is = absurd other

-- A command that wasn't obeyed is refused, unless memory ran out.
pub barred_by : {E : Type 0} (obeyed : Type 0) (left : CommandError → Type 0) (e : CommandError) (r : Result Bool E)
    → IsLeft left e → IfOk r (λ (took : Bool). took ≡ false) → OnOk r (IsOther e) → IfOk r (IsGiven obeyed left)
barred_by obeyed left e (Err f) is off other = tt
barred_by obeyed left e (Ok took) is off other =
    subst (IsGiven obeyed left) (sym off) (record { why = e; other = other; is_left = left_of left e other is })

-- An order that its link didn't obey.
pub disobeyed_by : {A : Type 0} (r : Result A CommandError) (k : Command) (l : ℕ) (t u w : Tended) → u ≡ t → IfErr r (IsLeft (IsCommandError k l u.set w.set))
    → IfErr r (IsDisobeyed k l t w)
disobeyed_by (Ok v) k l t u w same left = tt
disobeyed_by (Err e) k l t u w same left = inr (subst (λ (x : Tended). IsLeft (IsCommandError k l x.set w.set) e) same left)

-- A start, after the call that declares an emergency if that is necessary.
pub starts_as : {E : Type 0} (c : LinkDuty) (another : Bool) (l : ℕ) (t u v : Tended) (r : Result Bool E)
    → (lacks_emergency another c ≡ true → WasGiven (ByCommand command.Emergency l t.set u.set) (IsCommandError command.Emergency l t.set u.set))
    → (lacks_emergency another c ≡ false → u ≡ t)
    → IfOk r (IsGiven (ByCommand command.Start l u.set v.set) (IsCommandError command.Start l u.set v.set))
    → IfOk r (StartsAs c another l t.set v.set)
starts_as c another l t u v (Err e) urges rests given = tt
starts_as c another l t u v (Ok took) urges rests given = record {
  urged = u.set;
  urges = urges;
  rests = λ off. ap (λ (s : Tended). s.set) (rests off);
  starts = given;
}
