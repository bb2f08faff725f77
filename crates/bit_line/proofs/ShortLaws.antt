-- A unit of five octets and the flag after it, at once.
use Rattle.std.proofs.Common.{◌≡◌, ℕ, ◌+◌, ◌-◌, ◌*◌, ◌/◌, ◌%◌, ◌^◌, ◌<◌, ◌≤◌, zero, suc, Bool, true, false, Option, None, Some, List, [], ◌∷◌, ◌++◌, length, reverse, take, drop, get_or, refl, sym, ap, ◌∙◌, arith, subst}
use Rattle.std.specs.Prelude.{◌==◌}
use Rattle.std.proofs.Math.Seq.{take-add}
use Rattle.std.proofs.lemmas.Nat.{shr-shr}
use Rattle.std.proofs.lemmas.List.{append-nil, reverse-reverse, length-reverse, length-drop, length-take-le}
use Rattle.su_octets.specs.Bits.{low_bits, bits_of, AreOctets}
use Rattle.bit_line.specs.Stuffing.{trailing, stuffed, taken_out}
use Rattle.bit_line.specs.Flags.{ends_flag, since_flag, inside}
use Rattle.bit_line.specs.Events.{AreUnit, IsCorrect, Correct, Runs, mode_after, reports}
use Rattle.bit_line.specs.Laws.{unit_events}
use Rattle.bit_line.specs.Deframing.{LetsIn, Fits, StandsAt, newest, has_six}
use Rattle.bit_line.specs.declared.gate.Gate.{Gate}
use Rattle.bit_line.specs.declared.receiver.Receiver.{Receiver}
use Rattle.bit_line.specs.declared.events.LineEvent.{LineEvent}
use Rattle.bit_line.proofs.FewLaws.{joined}
use Rattle.bit_line.proofs.FrontLaws.{more_bits}
use Rattle.bit_line.proofs.StuffLaws.{stuffed-taken_out, with_zero-other}
use Rattle.bit_line.proofs.FlagLaws.{ends_flag-zero}
use Rattle.bit_line.proofs.GateLaws.{seen_by, inside-some, latest-some, closes-gate}
use Rattle.bit_line.proofs.PassLaws.{clear_inside}
use Rattle.bit_line.proofs.Newest.{Window, window, six_when, newest-flag}
use Rattle.bit_line.proofs.PlainLaws.{Quietly, quietly, none_mode, bits_more}
use Rattle.bit_line.proofs.StandLaws.{goes_on, flag_closes}
use Rattle.bit_line.proofs.EventLaws.{at_few}
use Rattle.bit_line.proofs.RunLaws.{same_run}
use Rattle.su_octets.proofs.BitLists.{length-low_bits, low_bits-split, low_bits-mod, bits_of-append, length-bits_of, octet_bits as one_bits}
use Rattle.plain_laws.proofs.Lists.{front_same}

-- ---- seven octets as a number
two_of : (os : List ℕ) → 7 ≤ length os → take 7 os ≡ take 5 os ++ (get_or os 5 0 ∷ get_or os 6 0 ∷ [])
two_of [] long = absurd (omega (arith, long))
two_of (a ∷ []) long = absurd (omega (arith, long))
two_of (a ∷ b ∷ []) long = absurd (omega (arith, long))
two_of (a ∷ b ∷ c ∷ []) long = absurd (omega (arith, long))
two_of (a ∷ b ∷ c ∷ d ∷ []) long = absurd (omega (arith, long))
two_of (a ∷ b ∷ c ∷ d ∷ e ∷ []) long = absurd (omega (arith, long))
two_of (a ∷ b ∷ c ∷ d ∷ e ∷ f ∷ []) long = absurd (omega (arith, long))
two_of (a ∷ b ∷ c ∷ d ∷ e ∷ f ∷ g ∷ os) long = refl

pub seven_bits : (os : List ℕ) (word : ℕ) → 7 ≤ length os → word < 2 ^ 40 → low_bits 40 word ≡ bits_of (take 5 os) → get_or os 5 0 < 256
    → low_bits 56 (word + (get_or os 5 0 + get_or os 6 0 * 256) * 2 ^ 40) ≡ bits_of (take 7 os)
seven_bits os word long fits front small =
    let a : ℕ = get_or os 5 0 in
    let b : ℕ = get_or os 6 0 in
    joined word 40 (a + b * 256) 16 fits ∙ ap (λ l. l ++ low_bits 16 (a + b * 256)) front
    ∙ ap (λ l. bits_of (take 5 os) ++ l) (more_bits a b 8 (b ∷ []) small (sym (one_bits b)))
    ∙ sym (ap bits_of (two_of os long) ∙ bits_of-append (take 5 os) (a ∷ b ∷ []))

-- ---- the octets of a number
cut : (x k : ℕ) (os : List ℕ) → bits_of os ≡ low_bits k (x / 256) → bits_of (x % 256 ∷ os) ≡ low_bits (8 + k) x
unfolding bits_of
cut x k os rest = ap (λ l. low_bits 8 (x % 256) ++ l) rest ∙ ap (λ l. l ++ low_bits k (x / 256)) (low_bits-mod 8 x) ∙ sym (low_bits-split 8 k x)

cut_none : (x : ℕ) → bits_of [] ≡ low_bits 0 x
unfolding bits_of low_bits
cut_none x = refl

pub forty : (x : ℕ)
    → bits_of (x % 256 ∷ x / 256 % 256 ∷ x / 256 / 256 % 256 ∷ x / 256 / 256 / 256 % 256 ∷ x / 256 / 256 / 256 / 256 % 256 ∷ []) ≡ low_bits 40 x
forty x =
    let y : ℕ = x / 256 / 256 / 256 / 256 in
    cut x 32 _ (cut (x / 256) 24 _ (cut (x / 256 / 256) 16 _ (cut (x / 256 / 256 / 256) 8 _ (cut y 0 [] (cut_none (y / 256))))))

-- ---- line bits of a unit
pub short_correct : (len bits n y : ℕ) (octets : List ℕ) → taken_out (reverse (low_bits len bits) ++ []) ≡ reverse (low_bits n y) ++ taken_out []
    → trailing (reverse (low_bits len bits)) ≤ 4 → has_six (reverse (low_bits len bits) ++ []) ≡ has_six [] → n ≡ 40 → bits_of octets ≡ low_bits 40 y
    → AreOctets octets → AreUnit octets → IsCorrect (reverse (low_bits len bits)) octets
unfolding has_six taken_out
short_correct len bits n y octets taken few six all is fit unit =
    let h : List Bool = reverse (low_bits len bits) in
    let alone : h ++ [] ≡ h = append-nil h in
    let none : has_six h ≡ false = ap has_six (sym alone) ∙ six in
    let left : taken_out h ≡ reverse (low_bits 40 y) = ap taken_out (sym alone) ∙ taken ∙ append-nil (reverse (low_bits n y)) ∙ ap (λ m. reverse (low_bits m y)) all in
    let back : reverse (bits_of octets) ≡ taken_out h = ap reverse is ∙ sym left in
    record {
      unit = unit;
      octets_fit = fit;
      stuffing = sym (ap stuffed back ∙ stuffed-taken_out h none ∙ with_zero-other h (λ five. omega (arith, few, five)));
    }

-- ---- the newest seven bits and the place of the flag
over : (recent word place : ℕ) → recent < 128 → (recent + word * 128) / 2 ^ place / 2 ^ 7 ≡ word / 2 ^ place
over recent word place small =
    let all : ℕ = recent + word * 128 in
    let high : all / 2 ^ 7 ≡ word = omega (arith, small) in
    shr-shr all place 7 ∙ ap (λ e. all / 2 ^ e) (let e : place + 7 ≡ 7 + place = omega arith in e) ∙ sym (shr-shr all 7 place) ∙ ap (λ n. n / 2 ^ place) high

room : (h : List Bool) → inside h ≡ [] → length (taken_out (inside h)) + 55 ≤ 2224
unfolding taken_out
room h none = omega (arith, ap (λ l. length (taken_out l)) none)

missing : (h c : List Bool) (g : Gate) → LetsIn h g → since_flag h ≡ Some c → inside h ≡ [] → 7 ≡ length c + g.wait
missing h c g lets some nothing =
    let was : g.wait ≡ 7 - length c = lets.wait ∙ ap (λ d. 7 - length d) (latest-some h c some) in
    let none : length (drop 7 c) ≡ 0 = ap length (sym (inside-some h c some) ∙ nothing) in
    omega (arith, was, none, length-drop 7 c)

pub unit_stands : (word place : ℕ) (octets : List ℕ) (h : List Bool) (es : List LineEvent) (old new : Receiver) → old.counter.count ≡ None → new.counter.count ≡ None
    → old.gate.seen ≡ true → ((l : List Bool) → LetsIn l old.gate → inside l ≡ []) → old.gate.wait ≤ place → place ≤ 55
    → ((m : ℕ) → (m ≡ place → ⊥) → (old.recent + word * 128) / 2 ^ m % 128 ≡ 126 → ⊥) → (old.recent + word * 128) / 2 ^ place % 256 ≡ 126
    → IsCorrect (reverse (low_bits (place - old.gate.wait) ((old.recent + word * 128) % 2 ^ place / 2 ^ old.gate.wait))) octets
    → new.recent ≡ 63 → new.gate.seen ≡ true → new.gate.wait ≡ 7 → StandsAt h es old → StandsAt (reverse (low_bits (place + 1) word) ++ h) (es ++ unit_events (octets ∷ [])) new
unfolding StandsAt mode_after reports
unit_stands word place octets h es old new was normal some fresh less few plain flag correct recent seen wait stands =
    let all : ℕ = old.recent + word * 128 in
    let fits : Fits h stands.0 old = stands.2 in
    let k : List Bool = reverse (low_bits place word) in
    let M : Option ℕ → Type 0 = λ m. Runs h m es in
    let runs : Runs h None es = subst M (none_mode stands.0 old.counter.count fits.counting was) stands.1 in
    let nothing : inside h ≡ [] = fresh h fits.gate in
    let q : Quietly k h es =
    quietly 55 old.recent word place h es old.recent_fits fits.recent few (λ i below is. plain i (λ same. omega (arith, same, below)) is) (room h nothing) runs in
    let w : Window old.recent word place h = window old.recent word place h old.recent_fits fits.recent in
    let at : all / 2 ^ place % 128 ≡ 126 = omega (arith, flag) in
    let now : low_bits 7 126 ≡ reverse (newest 7 (k ++ h)) = ap (λ n. low_bits 7 n) (sym at) ∙ low_bits-mod 7 (all / 2 ^ place) ∙ w.next in
    let ends : ends_flag (false ∷ (k ++ h)) ≡ true = ends_flag-zero (k ++ h) ∙ six_when 126 (k ++ h) now refl in
    let late : drop 7 (k ++ newest 7 h) ≡ reverse (low_bits place (all % 2 ^ place)) =
    sym (reverse-reverse (drop 7 (k ++ newest 7 h))) ∙ ap reverse (sym w.late ∙ sym (low_bits-mod place all)) in
    let since : (c : List Bool) × (since_flag h ≡ Some c) = seen_by h old.gate fits.gate some in
    let content : inside (k ++ h) ≡ reverse (low_bits (place - old.gate.wait) (all % 2 ^ place / 2 ^ old.gate.wait)) =
    clear_inside k h since.0 (all % 2 ^ place) place old.gate.wait (length-reverse (low_bits place word) ∙ length-low_bits place word) q.ends late since.1
    (missing h since.0 old.gate fits.gate since.1 nothing) less in
    let Q : List Bool → Type 0 = λ l. IsCorrect l octets in
    let next : StandsAt (false ∷ (k ++ h)) (es ++ unit_events (octets ∷ [])) new =
    goes_on false (k ++ h) None es (unit_events (octets ∷ [])) (Correct octets) new q.runs (flag_closes (k ++ h) (Correct octets) ends (subst Q (sym content) correct)) refl
    (record {
      recent = ap (λ n. low_bits 7 n) recent ∙ newest-flag 126 (k ++ h) now refl;
      gate = closes-gate (k ++ h) new.gate ends seen wait;
      counting = normal;
    }) in
    let even : all / 2 ^ place / 2 ^ 7 % 2 ≡ 0 = omega (arith, flag) in
    let zero_bit : word / 2 ^ place % 2 ≡ 0 = ap (λ n. n % 2) (sym (over old.recent word place old.recent_fits)) ∙ even in
    let P : List Bool → Type 0 = λ l. StandsAt (l ++ h) (es ++ unit_events (octets ∷ [])) new in
    subst P (sym (bits_more place word ∙ ap (λ n. (n == 1) ∷ reverse (low_bits place word)) zero_bit)) next

-- ---- the bits after the flag in its last octet
shifted : (v x i : ℕ) → v ≡ 126 + 256 * x → i < 7 → (63 + x % 128 * 128) / 2 ^ i % 128 ≡ v / 2 ^ (1 + i) % 128
shifted v x zero is few = omega (arith, is)
shifted v x (suc zero) is few = omega (arith, is)
shifted v x (suc (suc zero)) is few = omega (arith, is)
shifted v x (suc (suc (suc zero))) is few = omega (arith, is)
shifted v x (suc (suc (suc (suc zero)))) is few = omega (arith, is)
shifted v x (suc (suc (suc (suc (suc zero))))) is few = omega (arith, is)
shifted v x (suc (suc (suc (suc (suc (suc zero)))))) is few = omega (arith, is)
shifted v x (suc (suc (suc (suc (suc (suc (suc i))))))) is few = absurd (omega (arith, few))

pub plain_behind : (recent word place i : ℕ) → recent < 128 → ((m : ℕ) → (m ≡ place → ⊥) → (recent + word * 128) / 2 ^ m % 128 ≡ 126 → ⊥)
    → (recent + word * 128) / 2 ^ place % 256 ≡ 126 → i < 7 → (63 + word / 2 ^ place / 2 % 128 * 128) / 2 ^ i % 128 ≡ 126 → ⊥
plain_behind recent word place i small plain flag few is =
    let v : ℕ = (recent + word * 128) / 2 ^ place in
    let x : ℕ = word / 2 ^ place / 2 in
    let high : v / 2 ^ 7 ≡ word / 2 ^ place = over recent word place small in
    let half : v / 2 ^ 7 / 2 ≡ x = ap (λ n. n / 2) high in
    let parts : v ≡ 126 + 256 * x = omega (arith, flag, half) in
    plain (place + (1 + i)) (λ same. omega (arith, same))
    (ap (λ n. n % 128) (sym (shr-shr (recent + word * 128) place (1 + i))) ∙ sym (shifted v x i parts few) ∙ is)

less_low : (r x : ℕ) → r ≤ 7 → low_bits r (x % 128) ≡ low_bits r x
less_low r x few =
    let y : ℕ = x % 128 in
    let more : ℕ = 7 - r in
    let sum : r + more ≡ 7 = omega (arith, few) in
    let same : low_bits r y ++ low_bits more (y / 2 ^ r) ≡ low_bits r x ++ low_bits more (x / 2 ^ r) =
    sym (low_bits-split r more y) ∙ ap (λ n. low_bits n y) sum ∙ low_bits-mod 7 x ∙ ap (λ n. low_bits n x) (sym sum) ∙ low_bits-split r more x in
    (front_same (low_bits r y) (low_bits r x) (low_bits more (y / 2 ^ r)) (low_bits more (x / 2 ^ r)) (length-low_bits r y ∙ sym (length-low_bits r x)) same).0

front_bits : (word n : ℕ) (os : List ℕ) → n ≤ 7 → 7 ≤ length os → low_bits 56 word ≡ bits_of (take 7 os) → low_bits (8 * n) word ≡ bits_of (take n os)
front_bits word n os few long is =
    let more : ℕ = 56 - 8 * n in
    let rest : List ℕ = take (7 - n) (drop n os) in
    let whole : low_bits (8 * n) word ++ low_bits more (word / 2 ^ (8 * n)) ≡ bits_of (take n os) ++ bits_of rest =
    sym (low_bits-split (8 * n) more word) ∙ ap (λ m. low_bits m word) (let e : 8 * n + more ≡ 56 = omega (arith, few) in e) ∙ is
    ∙ ap bits_of (ap (λ m. take m os) (let e : 7 ≡ n + (7 - n) = omega (arith, few) in e) ∙ take-add n (7 - n) os) ∙ bits_of-append (take n os) rest in
    let taken : length (take n os) ≡ n = length-take-le n os (omega (arith, few, long)) in
    (front_same (low_bits (8 * n) word) (bits_of (take n os)) (low_bits more (word / 2 ^ (8 * n))) (bits_of rest)
    (omega (arith, length-low_bits (8 * n) word, length-bits_of (take n os), taken)) whole).0

pub behind_flag : (word place r : ℕ) (os : List ℕ) (h : List Bool) (es : List LineEvent) (d : Receiver) → place ≤ 55 → 7 ≤ length os → low_bits 56 word ≡ bits_of (take 7 os)
    → r ≡ 7 - place % 8 → StandsAt (reverse (low_bits r (word / 2 ^ place / 2 % 128)) ++ (reverse (low_bits (place + 1) word) ++ h)) es d
    → StandsAt (reverse (bits_of (take (place / 8 + 1) os)) ++ h) es d
behind_flag word place r os h es d few long is rest stands =
    let n : ℕ = place / 8 + 1 in
    let Q : List Bool → Type 0 = λ l. StandsAt (reverse l ++ (reverse (low_bits (place + 1) word) ++ h)) es d in
    let same : low_bits r (word / 2 ^ place / 2 % 128) ≡ low_bits r (word / 2 ^ (place + 1)) =
    less_low r (word / 2 ^ place / 2) (omega (arith, rest)) ∙ ap (λ m. low_bits r m) (shr-shr word place 1) in
    let all : low_bits (place + 1 + r) word ≡ bits_of (take n os) =
    ap (λ m. low_bits m word) (let e : place + 1 + r ≡ 8 * n = omega (arith, rest) in e) ∙ front_bits word n os (omega (arith, few)) long is in
    same_run (low_bits (place + 1 + r) word) (bits_of (take n os)) h es d all (at_few (place + 1) r word h es d (subst Q same stands))
