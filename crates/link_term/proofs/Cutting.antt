-- Octets passed in several calls.
use Rattle.std.proofs.Common.{◌≡◌, ℕ, ◌+◌, ◌-◌, Bool, List, [], ◌∷◌, ◌++◌, length, take, drop, refl, sym, ap, ◌∙◌, subst, append-nil, append_assoc, arith}
use Rattle.std.proofs.lemmas.List.{take_all, length-drop}
use Rattle.std.proofs.Math.Seq.{take-add}
use Rattle.su_octets.specs.Bits.{low_bits, bits_of}
use Rattle.su_octets.proofs.BitLists.{bits_of-append}
use Rattle.bit_line.specs.Deframing.{Stands}
use Rattle.bit_line.specs.Events.{AreEvents}
use Rattle.bit_line.specs.declared.events.LineEvent.{LineEvent}
use Rattle.link_processes.specs.declared.processes.Processes.{Processes}
use Rattle.link_processes.specs.Machine.{counting_told}
use Rattle.link_term.specs.Term.{Term, with_processes}
use Rattle.link_term.specs.Hearing.{Hears, silent, octet, Heard}
use Rattle.link_term.specs.Laws.{CuttingsAgree}

bits_behind : (bits : List Bool) (xs ys : List ℕ) → (bits ++ bits_of xs) ++ bits_of ys ≡ bits ++ bits_of (xs ++ ys)
bits_behind bits xs ys =
    append_assoc bits (bits_of xs) (bits_of ys) ∙ ap (λ (b : List Bool). bits ++ b) (sym (bits_of-append xs ys))

pub no_bits : (bits : List Bool) → bits ++ bits_of [] ≡ bits
unfolding bits_of
no_bits bits = append-nil bits

pub next_bits : (bits : List Bool) (x : ℕ) (xs : List ℕ) → bits ++ bits_of (x ∷ xs) ≡ (bits ++ low_bits 8 x) ++ bits_of xs
unfolding bits_of
next_bits bits x xs = sym (append_assoc bits (low_bits 8 x) (bits_of xs))

hears_joined : (bits : List Bool) (all mid now : List LineEvent) (t m u : Processes) (xs ys : List ℕ) → Hears bits all t xs mid m
    → Hears (bits ++ bits_of xs) mid m ys now u → Hears bits all t (xs ++ ys) now u
hears_joined _ _ _ now _ _ u _ ys (silent bits all t) h =
    let P : List Bool → Type 0 = λ b. Hears b all t ys now u in subst P (no_bits bits) h
hears_joined _ _ _ now _ _ u _ ys (octet bits all given t v m x xs mid on room are taken counts hears) h =
    let P : List Bool → Type 0 = λ b. Hears b mid m ys now u in
    octet bits all given t v u x (xs ++ ys) now on room are taken counts
    (hears_joined (bits ++ low_bits 8 x) (all ++ given) mid now (counting_told on v) m u xs ys hears (subst P (next_bits bits x xs) h))

pub heard_joined : CuttingsAgree
heard_joined t m u xs ys first second = record {
  stands = λ bits stands.
      let P : List Bool → Type 0 = λ b. Stands b u.line in
      subst P (bits_behind bits xs ys) (second.stands (bits ++ bits_of xs) (first.stands bits stands));
  hears = λ bits all stands are.
      let one = first.hears bits all stands are in
      let two = second.hears (bits ++ bits_of xs) one.0 (first.stands bits stands) one.1 in
      let P : List Bool → Type 0 = λ b. AreEvents b two.0 in
      (two.0, subst P (bits_behind bits xs ys) two.1, hears_joined bits all one.0 two.0 t.processes m.processes u.processes xs ys one.2 two.2);
  sending = second.sending ∙ first.sending;
}

pub heard_nothing : (t : Term) → Heard t [] t
heard_nothing t = record {
  stands = λ bits stands. let P : List Bool → Type 0 = λ b. Stands b t.line in subst P (sym (no_bits bits)) stands;
  hears = λ bits all stands are.
      let P : List Bool → Type 0 = λ b. AreEvents b all in
      (all, subst P (sym (no_bits bits)) are, silent bits all t.processes);
  sending = refl;
}

pub one_bits : (bits : List Bool) (x : ℕ) → bits ++ bits_of (x ∷ []) ≡ bits ++ low_bits 8 x
one_bits bits x = next_bits bits x [] ∙ no_bits (bits ++ low_bits 8 x)

rest_is : (i : ℕ) (octets : List ℕ) → take (length octets - i) (drop i octets) ≡ drop i octets
rest_is i octets = take_all (length octets - i) (drop i octets) (omega (arith, length-drop i octets))

pub rest_length : (i : ℕ) (octets : List ℕ) → length (take (length octets - i) (drop i octets)) ≡ length octets - i
rest_length i octets = ap length (rest_is i octets) ∙ length-drop i octets

-- some more octets of a slice
pub heard_more : (t m u : Term) (octets : List ℕ) (i n : ℕ) → Heard t (take i octets) m → Heard m (take n (take (length octets - i) (drop i octets))) u
    → Heard t (take (i + n) octets) u
heard_more t m u octets i n first second =
    let P : List ℕ → Type 0 = λ xs. Heard t xs u in
    let rest : List ℕ = take (length octets - i) (drop i octets) in
    let is : take (i + n) octets ≡ take i octets ++ take n rest =
    take-add i n octets ∙ ap (λ (xs : List ℕ). take i octets ++ take n xs) (sym (rest_is i octets)) in
    subst P (sym is) (heard_joined t m u (take i octets) (take n rest) first second)

pub heard_from : (old inside new : Term) (xs : List ℕ) → inside ≡ old → Heard inside xs new → Heard old xs new
heard_from old inside new xs h heard = let P : Term → Type 0 = λ t. Heard t xs new in subst P h heard

-- nothing was taken, and nothing changed
pub heard_none : (old t : Term) (h : Processes) → t ≡ old → h ≡ t.processes → Heard old [] (with_processes t h)
heard_none old t h is same =
    let P : Processes → Type 0 = λ x. Heard old [] (with_processes t x) in
    subst P (sym same) (heard_from old t t [] is (heard_nothing t))
