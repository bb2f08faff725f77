-- Plain octets in turn.
use Rattle.std.proofs.Common.{◌≡◌, ℕ, ◌+◌, ◌*◌, ◌/◌, ◌%◌, ◌^◌, ◌<◌, ◌≤◌, Bool, List, [], ◌++◌, length, reverse, take, refl, sym, arith, subst}
use Rattle.su_octets.specs.Bits.{low_bits, bits_of}
use Rattle.bit_line.specs.Stuffing.{trailing, taken_out}
use Rattle.bit_line.specs.Flags.{inside}
use Rattle.bit_line.specs.Deframing.{Holds, LetsIn, StandsAt, has_six}
use Rattle.bit_line.specs.Parts.{Packed}
use Rattle.std.specs.Prelude.{◌≢◌}
use Rattle.bit_line.specs.Running.{with_run, IsCalm, IsPlainStep}
use Rattle.bit_line.specs.declared.receiver.Receiver.{Receiver}
use Rattle.bit_line.specs.declared.run.Run.{Run}
use Rattle.bit_line.specs.declared.events.LineEvent.{LineEvent}
use Rattle.bit_line.proofs.FewLaws.{holds-few, gathers-few, gathers-room}
use Rattle.bit_line.proofs.PassLaws.{few-late}
use Rattle.bit_line.proofs.PlainLaws.{plain_stands}

same_ones : (base : Receiver) (run : Run) (octets : List ℕ) (d : List Bool) → Holds d (with_run base run octets).gate.content → run.ones ≡ trailing d
same_ones base run octets d holds = omega (arith, run.few_ones, holds.ones)

step_holds : (base : Receiver) (run next : Run) (octet : ℕ) (whole octets : List ℕ) (d : List Bool) → length octets < 277 → IsPlainStep run octet next whole
    → Holds d (with_run base run octets).gate.content
    → Holds (reverse (low_bits 8 ((run.recent + octet * 128) % 2 ^ 8)) ++ d) (with_run base next (octets ++ whole)).gate.content
step_holds base run next octet whole octets d room step holds =
    let k : List Bool = reverse (low_bits 8 ((run.recent + octet * 128) % 2 ^ 8)) in
    let count : run.ones ≡ trailing d = same_ones base run octets d holds in
    holds-few k step.left d (with_run base run octets).gate.content (with_run base next (octets ++ whole)).gate.content next.few_ones (step.ones d count) refl (step.six d count) (step.data_bits d count)
    (gathers-few step.left (taken_out d) (with_run base run octets).gate.content.data_bits (with_run base next (octets ++ whole)).gate.content.data_bits step.few room run.part.len_fits refl (λ packed. step.packed octets (taken_out d) packed) holds.gathers) holds

calm_room : (base : Receiver) (run : Run) (octets : List ℕ) (l : List Bool) → length octets < 277 → IsCalm base → LetsIn l (with_run base run octets).gate
    → length (taken_out (inside l)) + 8 ≤ 2224
calm_room base run octets l room calm lets =
    let holds : Holds (inside l) (with_run base run octets).gate.content = lets.content calm.seen calm.wait in
    gathers-room (taken_out (inside l)) (with_run base run octets).gate.content.data_bits calm.over room run.part.len_fits holds.gathers

pub run_step : (base : Receiver) (run next : Run) (octet : ℕ) (whole octets : List ℕ) (h : List Bool) (events : List LineEvent) → length octets < 277 → IsCalm base
    → IsPlainStep run octet next whole → StandsAt h events (with_run base run octets)
    → StandsAt (reverse (low_bits 8 octet) ++ h) events (with_run base next (octets ++ whole))
run_step base run next octet whole octets h events room calm step stands =
    plain_stands 8 octet 8 ((run.recent + octet * 128) % 2 ^ 8) h events (with_run base run octets) (with_run base next (octets ++ whole)) (omega arith) calm.normal calm.normal
    (λ l lets. calm_room base run octets l room calm lets) step.plain refl step.recent
    (λ l k long ends is lets.
    few-late k l (reverse (low_bits 8 ((run.recent + octet * 128) % 2 ^ 8))) (with_run base run octets).gate (with_run base next (octets ++ whole)).gate ends is calm.seen calm.wait refl refl
    (λ d holds. step_holds base run next octet whole octets d room step holds) lets)
    stands

pub run_none : (h : List Bool) (events : List LineEvent) (d : Receiver) (line : List ℕ) → StandsAt h events d → StandsAt (reverse (bits_of (take 0 line)) ++ h) events d
unfolding bits_of
run_none h events d line stands = stands

pub run_pushed : (base : Receiver) (run next : Run) (octet : ℕ) (whole octets pushed : List ℕ) (h : List Bool) (events : List LineEvent) → pushed ≡ octets ++ whole
    → length octets < 277 → IsCalm base → IsPlainStep run octet next whole → StandsAt h events (with_run base run octets)
    → StandsAt (reverse (low_bits 8 octet) ++ h) events (with_run base next pushed)
run_pushed base run next octet whole octets pushed h events is room calm step stands =
    let P : List ℕ → Type 0 = λ os. StandsAt (reverse (low_bits 8 octet) ++ h) events (with_run base next os) in
    subst P (sym is) (run_step base run next octet whole octets h events room calm step stands)

pub nothing_run : (h : List Bool) (events : List LineEvent) (d : Receiver) → StandsAt h events d → StandsAt (reverse (bits_of []) ++ h) events d
unfolding bits_of
nothing_run h events d stands = stands

-- ---- one octet, as the number of its bits after the newest seven
pub plain_step : (run next : Run) (octet w : ℕ) (whole : List ℕ) (left : List Bool) → w ≡ run.recent + octet * 128 → octet < 256 → ((m : ℕ) → m < 8 → w / 2 ^ m % 128 ≢ 126) → next.recent ≡ w / 256
    → length left ≤ 8 → ((h : List Bool) → run.ones ≡ trailing h → taken_out (reverse (low_bits 8 (w % 256)) ++ h) ≡ left ++ taken_out h)
    → ((h : List Bool) → run.ones ≡ trailing h → next.ones ≡ trailing (reverse (low_bits 8 (w % 256)) ++ h))
    → ((h : List Bool) → run.ones ≡ trailing h → has_six (reverse (low_bits 8 (w % 256)) ++ h) ≡ has_six h)
    → ((octets : List ℕ) (h : List Bool) → Packed octets run.part.bits run.part.len h → Packed (octets ++ whole) next.part.bits next.part.len (left ++ h)) → IsPlainStep run octet next whole
plain_step run next octet w whole left is small plain recent few data_bits ones six packed =
    let Plain : ℕ → Type 0 = λ n. (m : ℕ) → m < 8 → n / 2 ^ m % 128 ≢ 126 in
    let Left : ℕ → Type 0 = λ n. (h : List Bool) → run.ones ≡ trailing h → taken_out (reverse (low_bits 8 (n % 256)) ++ h) ≡ left ++ taken_out h in
    let Ones : ℕ → Type 0 = λ n. (h : List Bool) → run.ones ≡ trailing h → next.ones ≡ trailing (reverse (low_bits 8 (n % 256)) ++ h) in
    let Six : ℕ → Type 0 = λ n. (h : List Bool) → run.ones ≡ trailing h → has_six (reverse (low_bits 8 (n % 256)) ++ h) ≡ has_six h in
    record {
      plain = subst Plain is plain;
      recent = omega (arith, run.recent_fits);
      left = left;
      few = few;
      data_bits = subst Left is data_bits;
      ones = subst Ones is ones;
      six = subst Six is six;
      packed = packed;
    }

pub run_zero : (n : ℕ) (h : List Bool) (events : List LineEvent) (d : Receiver) (line : List ℕ) → n ≡ 0 → StandsAt (reverse (bits_of (take n line)) ++ h) events d → StandsAt h events d
unfolding bits_of
run_zero n h events d line none stands =
    let P : ℕ → Type 0 = λ m. StandsAt (reverse (bits_of (take m line)) ++ h) events d in subst P none stands

pub same_run : (k l h : List Bool) (events : List LineEvent) (d : Receiver) → k ≡ l → StandsAt (reverse k ++ h) events d → StandsAt (reverse l ++ h) events d
same_run k l h events d same stands = let P : List Bool → Type 0 = λ x. StandsAt (reverse x ++ h) events d in subst P same stands
