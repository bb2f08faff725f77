-- Units sent one after another.
use Rattle.std.proofs.Common.{◌≡◌, ℕ, ◌+◌, ◌-◌, ◌*◌, ◌<◌, ◌≤◌, zero, suc, true, Option, None, List, [], ◌∷◌, ◌++◌, refl, sym, ap, ◌∙◌, subst, append-nil, append_assoc, arith}
use Rattle.std.specs.Option.{option_to_list}
use Rattle.su_octets.specs.Frame.{Frame, SpareBitsAreZero}
use Rattle.su_octets.specs.declared.units.Unit as units
use Rattle.bit_line.specs.Stuffers.{Gave}
use Rattle.bit_line.specs.declared.stuffer.Stuffer.{Stuffer}
use Rattle.link_processes.specs.declared.processes.Processes.{Processes}
use Rattle.link_processes.specs.Machine.{sent, tidied, is_low}
use Rattle.link_term.specs.Term.{Term}
use Rattle.link_term.specs.Speaking.{AreFrames, Speaks, given, left, Spoke, IsSpoken}

frames_joined : (fs gs : List (List ℕ)) (us vs : List units.Unit) → AreFrames fs us → AreFrames gs vs → AreFrames (fs ++ gs) (us ++ vs)
frames_joined [] gs [] vs f g = g
frames_joined [] gs (u ∷ us) vs f g = absurd f
frames_joined (x ∷ fs) gs [] vs f g = absurd f
frames_joined (x ∷ fs) gs (u ∷ us) vs f g = (f.0, frames_joined fs gs us vs f.1 g)

pub speaks_nothing : (s : Stuffer) (before : List ℕ) → Speaks s before [] s before
speaks_nothing s before = record {
  frames = [];
  are = tt;
  more = [];
  behind = sym (append-nil before);
  gave = λ gone sent gave.
      let P : List ℕ → Type 0 = λ xs. Gave xs (sent ++ []) s in
      let Q : List (List ℕ) → Type 0 = λ xs. Gave gone xs s in
      subst P (sym (append-nil gone)) (subst Q (sym (append-nil sent)) gave);
}

pub speaks_joined : (r s t : Stuffer) (a b c : List ℕ) (us vs : List units.Unit) → Speaks r a us s b → Speaks s b vs t c → Speaks r a (us ++ vs) t c
speaks_joined r s t a b c us vs first second = record {
  frames = first.frames ++ second.frames;
  are = frames_joined first.frames second.frames us vs first.are second.are;
  more = first.more ++ second.more;
  behind = second.behind ∙ ap (λ (xs : List ℕ). xs ++ second.more) first.behind ∙ append_assoc a first.more second.more;
  gave = λ gone sent gave.
      let P : List ℕ → Type 0 = λ xs. Gave xs (sent ++ (first.frames ++ second.frames)) t in
      let Q : List (List ℕ) → Type 0 = λ xs. Gave ((gone ++ first.more) ++ second.more) xs t in
      subst P (append_assoc gone first.more second.more)
      (subst Q (append_assoc sent first.frames second.frames)
      (second.gave (gone ++ first.more) (sent ++ first.frames) (first.gave gone sent gave)));
}

pub speaks_one : (s t : Stuffer) (before after more octets : List ℕ) (u : units.Unit) → Frame octets u → SpareBitsAreZero octets
    → after ≡ before ++ more → ((gone : List ℕ) (sent : List (List ℕ)) → Gave gone sent s → Gave (gone ++ more) (sent ++ octets ∷ []) t)
    → Speaks s before (u ∷ []) t after
speaks_one s t before after more octets u frame spare behind gave =
    record { frames = octets ∷ []; are = ((frame, spare), tt); more = more; behind = behind; gave = gave }

suc_more : (k : ℕ) → suc k + 1 ≡ suc (k + 1)
suc_more k = omega arith

left_next : (k : ℕ) (t : Processes) → left (k + 1) t ≡ left 1 (left k t)
left_next zero t = refl
left_next (suc k) t = ap (λ (j : ℕ). left j t) (suc_more k) ∙ left_next k (sent (tidied t)).processes

given_next : (k : ℕ) (t : Processes) → given (k + 1) t ≡ given k t ++ given 1 (left k t)
given_next zero t = refl
given_next (suc k) t =
    ap (λ (j : ℕ). given j t) (suc_more k)
    ∙ ap (λ (us : List units.Unit). option_to_list (sent (tidied t)).unit ++ us) (given_next k (sent (tidied t)).processes)
    ∙ sym (append_assoc (option_to_list (sent (tidied t)).unit) (given k (sent (tidied t)).processes) (given 1 (left k (sent (tidied t)).processes)))

pub spoke_more : (t m u : Term) (a b c : List ℕ) (n : ℕ) → Spoke t a n m b → Spoke m b 1 u c → Spoke t a (n + 1) u c
spoke_more t m u a b c n first second =
    let P : List units.Unit → Type 0 = λ us. Speaks t.sending a us u.sending c in
    let next : Speaks m.sending b (given 1 (left n t.processes)) u.sending c =
    subst (λ (h : Processes). Speaks m.sending b (given 1 h) u.sending c) first.processes second.speaks in
    record {
      processes = second.processes ∙ ap (left 1) first.processes ∙ sym (left_next n t.processes);
      line = second.line ∙ first.line;
      speaks = subst P (sym (given_next n t.processes))
          (speaks_joined t.sending m.sending u.sending a b c (given n t.processes) (given 1 (left n t.processes)) first.speaks next);
    }

none_given : (o : Option units.Unit) → o ≡ None → [] ≡ option_to_list o ++ []
none_given o h = sym (ap (λ (x : Option units.Unit). option_to_list x ++ []) h)

-- before the first Line signal
pub spoke_none : (t u : Term) (a b : List ℕ) → None ≡ (sent (tidied t.processes)).unit → u.processes ≡ (sent (tidied t.processes)).processes → u.line ≡ t.line
    → u.sending ≡ t.sending → b ≡ a → Spoke t a 1 u b
spoke_none t u a b unit processes line sending same =
    let P : List units.Unit → Type 0 = λ us. Speaks t.sending a us u.sending b in
    let Q : Stuffer → Type 0 = λ s. Speaks t.sending a [] s b in
    let R : List ℕ → Type 0 = λ xs. Speaks t.sending a [] t.sending xs in
    record {
      processes = processes;
      line = line;
      speaks = subst P (none_given (sent (tidied t.processes)).unit (sym unit))
          (subst Q (sym sending) (subst R (sym same) (speaks_nothing t.sending a)));
    }

pub spoke_same : (t m u : Term) (a b c : List ℕ) (n : ℕ) → u ≡ m → c ≡ b → Spoke t a n m b → Spoke t a n u c
spoke_same t m u a b c n h k spoke =
    let P : Term → Type 0 = λ x. Spoke t a n x c in
    let Q : List ℕ → Type 0 = λ xs. Spoke t a n m xs in
    subst P (sym h) (subst Q (sym k) spoke)

not_below : (n : ℕ) → n < n → ⊥
not_below n h = omega (arith, h)

pub spoken : (t u : Term) (n : ℕ) (octets : List ℕ) → Spoke t [] n u octets → IsSpoken t n u octets
spoken t u n octets spoke = record {
  count = n;
  most = omega arith;
  first = λ h. h;
  fewer = λ h. let f : ⊥ = not_below n h in absurd f;
  spoke = spoke;
}

at_least_one : (n : ℕ) → 1 ≤ n → 0 < n
at_least_one n h = omega (arith, h)

pub spoken_less : (t m u : Term) (n asked : ℕ) (b octets : List ℕ) → 1 ≤ n → n < asked → Spoke t [] n m b → u ≡ m → octets ≡ b
    → is_low m.processes ≡ true → IsSpoken t asked u octets
spoken_less t m u n asked b octets one less spoke h k low = record {
  count = n;
  most = omega (arith, less);
  first = λ some. at_least_one n one;
  fewer = λ fewer. let P : Term → Type 0 = λ x. is_low x.processes ≡ true in subst P (sym h) low;
  spoke = spoke_same t m u [] b octets n h k spoke;
}

pub spoken_all : (t u : Term) (n asked : ℕ) (octets : List ℕ) → n ≡ asked → Spoke t [] n u octets → IsSpoken t asked u octets
spoken_all t u n asked octets h spoke = let P : ℕ → Type 0 = λ k. IsSpoken t k u octets in subst P h (spoken t u n octets spoke)

pub room_left : (len cap new_len new_cap units gone : ℕ) → gone < units → len + (units - gone) * 352 ≤ cap → new_len ≤ len + 352 → cap ≤ new_cap
    → new_len + (units - (gone + 1)) * 352 ≤ new_cap
room_left len cap new_len new_cap units gone h room more kept = omega (arith, h, room, more, kept)
