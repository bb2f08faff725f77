-- What a set has, and the first requirement that it doesn't meet.
use Rattle.std.proofs.Common.{◌≡◌, ℕ, suc, ◌+◌, ◌<◌, List, ◌∷◌, length, get_or, drop, drop-cons, sym, ap, ◌∙◌, subst, arith}
use Rattle.std.specs.Prelude.{All}
use Rattle.std.proofs.lemmas.List.Elements.{All-cons}
use Rattle.turn_code.specs.declared.draft.Draft.{Draft}
use Rattle.turn_code.specs.declared.numbers.SignalNumber.{SignalNumber}
use Rattle.link_processes.specs.Known.{IsSignal}
use Rattle.link_processes.specs.Wanted.{wanted, HasSent, HasHeard, Has, HasProcesses, HasSignals, IsFirstLacking, lacks, has_first}
use Rattle.link_processes.specs.declared.words.ProcessName.{ProcessName}
use Rattle.link_processes.specs.declared.words.ProcessName.TheVariants as process
use Rattle.link_processes.specs.declared.words.SignalName.{SignalName}
use Rattle.link_processes.specs.declared.words.SignalName.TheVariants as signal
use Rattle.link_processes.specs.declared.wanted.Wanted.{Wanted}
use Rattle.link_processes.specs.declared.wanted.Wanted.TheVariants.{Process}

-- ---- the first requirement not met

dropped : (all : List Wanted) (i : ℕ) (x : Wanted) → i < length all → drop i all ≡ get_or all i x ∷ drop (i + 1) all
dropped all i x less =
    let e : suc i ≡ i + 1 = omega arith in drop-cons all i x less ∙ ap (λ (j : ℕ). get_or all i x ∷ drop j all) e

-- the set doesn't meet this one, and meets those before it
pub lacking_here : (d : Draft) (all : List Wanted) (i : ℕ) (x : Wanted) → i < length all → (Has d (get_or all i x) → ⊥)
    → ((name : Wanted) → IsFirstLacking d name (drop i all) → IsFirstLacking d name all) → IsFirstLacking d (get_or all i x) all
lacking_here d all i x less h before =
    let P : List Wanted → Type 0 = λ ws. IsFirstLacking d (get_or all i x) ws in
    before (get_or all i x) (subst P (sym (dropped all i x less)) (lacks h))

-- the set meets one more
pub lacking_more : (d : Draft) (all : List Wanted) (i : ℕ) (x name : Wanted) → i < length all → Has d (get_or all i x)
    → IsFirstLacking d name (drop (i + 1) all) → IsFirstLacking d name (drop i all)
lacking_more d all i x name less h lacking =
    let P : List Wanted → Type 0 = λ ws. IsFirstLacking d name ws in subst P (sym (dropped all i x less)) (has_first h lacking)

pub all_more : (d : Draft) (all : List Wanted) (i : ℕ) (x : Wanted) → i < length all → Has d (get_or all i x)
    → All (Has d) (drop (i + 1) all) → All (Has d) (drop i all)
all_more d all i x less h left =
    let P : List Wanted → Type 0 = λ ws. All (Has d) ws in
    subst P (sym (dropped all i x less)) (All-cons (Has d) (get_or all i x) (drop (i + 1) all) h left)

-- ---- what follows if all are met

pub has_processes : (d : Draft) → All (Has d) wanted → HasProcesses d
has_processes d all process.Lsc = all 0 (Process process.Lsc) (omega arith)
has_processes d all process.Aerm = all 1 (Process process.Lsc) (omega arith)
has_processes d all process.Suerm = all 2 (Process process.Lsc) (omega arith)
has_processes d all process.Txc = all 3 (Process process.Lsc) (omega arith)
has_processes d all process.Rc = all 4 (Process process.Lsc) (omega arith)
has_processes d all process.Cc = all 5 (Process process.Lsc) (omega arith)

of_sent : (d : Draft) (to : ProcessName) (name : SignalName) → HasSent d to name → (k : SignalNumber) × IsSignal d k.0 name
of_sent d to name h = (h.signal, h.is_signal.named)

of_heard : (d : Draft) (name : SignalName) → HasHeard d name → (k : SignalNumber) × IsSignal d k.0 name
of_heard d name h = (h.signal, h.is_signal.named)

pub has_signals : (d : Draft) → All (Has d) wanted → HasSignals d
has_signals d all signal.PowerOn = of_sent d process.Lsc signal.PowerOn (all 6 (Process process.Lsc) (omega arith))
has_signals d all signal.StartLink = of_sent d process.Lsc signal.StartLink (all 7 (Process process.Lsc) (omega arith))
has_signals d all signal.StopLink = of_sent d process.Lsc signal.StopLink (all 8 (Process process.Lsc) (omega arith))
has_signals d all signal.Emergency = of_sent d process.Lsc signal.Emergency (all 9 (Process process.Lsc) (omega arith))
has_signals d all signal.Calm = of_sent d process.Lsc signal.Calm (all 10 (Process process.Lsc) (omega arith))
has_signals d all signal.LocalOut = of_sent d process.Lsc signal.LocalOut (all 11 (Process process.Lsc) (omega arith))
has_signals d all signal.LocalBack = of_sent d process.Lsc signal.LocalBack (all 12 (Process process.Lsc) (omega arith))
has_signals d all signal.Busy = of_sent d process.Cc signal.Busy (all 13 (Process process.Lsc) (omega arith))
has_signals d all signal.Free = of_sent d process.Cc signal.Free (all 14 (Process process.Lsc) (omega arith))
has_signals d all signal.Good = of_sent d process.Aerm signal.Good (all 15 (Process process.Lsc) (omega arith))
has_signals d all signal.Errored = of_sent d process.Aerm signal.Errored (all 17 (Process process.Lsc) (omega arith))
has_signals d all signal.AckSeen = of_sent d process.Txc signal.AckSeen (all 19 (Process process.Lsc) (omega arith))
has_signals d all signal.Bad = of_sent d process.Rc signal.Bad (all 20 (Process process.Lsc) (omega arith))
has_signals d all signal.Unit = of_sent d process.Rc signal.Unit (all 21 (Process process.Lsc) (omega arith))
has_signals d all signal.MsuSent = of_sent d process.Txc signal.MsuSent (all 22 (Process process.Lsc) (omega arith))
has_signals d all signal.Fresh = of_heard d signal.Fresh (all 23 (Process process.Lsc) (omega arith))
has_signals d all signal.Take = of_heard d signal.Take (all 24 (Process process.Lsc) (omega arith))
has_signals d all signal.Line = of_heard d signal.Line (all 25 (Process process.Lsc) (omega arith))
has_signals d all signal.Withhold = of_heard d signal.Withhold (all 26 (Process process.Lsc) (omega arith))
has_signals d all signal.InServiceNow = of_heard d signal.InServiceNow (all 27 (Process process.Lsc) (omega arith))
has_signals d all signal.Down = of_heard d signal.Down (all 28 (Process process.Lsc) (omega arith))
has_signals d all signal.RemoteOut = of_heard d signal.RemoteOut (all 29 (Process process.Lsc) (omega arith))
has_signals d all signal.RemoteBack = of_heard d signal.RemoteBack (all 30 (Process process.Lsc) (omega arith))
