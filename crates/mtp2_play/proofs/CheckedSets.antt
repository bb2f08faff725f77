-- What `check` printed of a text, with its warnings or without.
use Rattle.std.proofs.Common.{◌≡◌, ◌⊎◌, ℕ, List, Option, None, Some, Result, Ok, Err, IfOk, inl, inr, sym, subst, ◌∙◌, arith}
use Rattle.std.specs.Prelude.{IsUtf8}
use Rattle.std.specs.Io.KnownBytes.{Appends}
use Rattle.std.specs.declared.alloc.AllocError.{AllocError}
use Rattle.plain_text.specs.Reading.{IsReading}
use Rattle.plain_text.specs.declared.reading.TextRead.{TextRead}
use Rattle.script_check.specs.Checked.{IsGiven, IsFaultOf, IsRefusal, IsTooLong, PrintsCosts, PrintsRefusal}
use Rattle.script_check.specs.declared.sets.Refusal.{Refusal}
use Rattle.script_check.specs.Printed.{refusal_line}
use Rattle.mtp2_words.specs.Own.{text_of}
use Rattle.mtp2_words.specs.mtp2_text_types.own.OwnSet.{OwnSet}
use Rattle.mtp2_words.specs.declared.requests.Named.{Named}
use Rattle.mtp2_words.specs.declared.requests.Named.TheVariants.{Own}
use Rattle.mtp2_words.specs.declared.requests.Warned.{Warned}
use Rattle.mtp2_words.specs.declared.requests.Warned.TheVariants.{Unsaid, Counted}
use Rattle.mtp2_play.specs.Sets.{own_text_of}
use Rattle.mtp2_play.specs.Checking.{IsWarned, IsUnwarned, PrintsWarned, PrintsUnwarned, IsCheckedPlainly, IsCheckedBytes}

some_bytes : (known : Option (List ℕ)) (P : List ℕ → Type 0) → IsGiven known P → IsGiven None P
some_bytes known P g = record { bytes = g.bytes; are_known = tt; holds = g.holds }

-- one more fact of the text
also : (text : List ℕ) (P Q : List ℕ → Type 0) → IsGiven (Some text) P → Q text → IsGiven (Some text) (λ bytes. P bytes × Q bytes)
also text P Q g q = record { bytes = g.bytes; are_known = g.are_known; holds = (g.holds, subst Q (sym g.are_known) q) }

-- the text is accepted
pub accepted : (bytes text : List ℕ) (warned : Warned) (status : ℕ) (old new : Option (List ℕ)) → bytes ≡ text → IsGiven (Some bytes) (PrintsCosts old new)
    → (status ≡ 1 → warned ≡ Counted) → (status ≡ 1 → IsWarned text) → (warned ≡ Counted → status ≡ 0 → IsUnwarned text) → (status ≡ 0) ⊎ (status ≡ 1) ⊎ (status ≡ 4)
    → IsCheckedBytes (Some text) warned status old new
accepted bytes text warned status old new same given asked counted clean ends = record {
  costs = λ zero. of_text;
  asked = asked;
  counted = λ one. also text (PrintsCosts old new) IsWarned of_text (counted one);
  clean = λ wanted zero. also text (PrintsCosts old new) IsUnwarned of_text (clean wanted zero);
  refusal = λ two. absurd (elim ends [
    | inl zero ↦ (let bad : ⊥ = omega (arith, two, zero) in bad)
    | inr other ↦ elim other [
      | inl one ↦ (let bad : ⊥ = omega (arith, two, one) in bad)
      | inr four ↦ (let bad : ⊥ = omega (arith, two, four) in bad)
    ]
  ]);
  ends = elim ends [
    | inl zero ↦ inl zero
    | inr other ↦ elim other [
      | inl one ↦ inr (inl one)
      | inr four ↦ inr (inr (inr four))
    ]
  ];
}
  where
    of_text : IsGiven (Some text) (PrintsCosts old new)
    of_text = let P : List ℕ → Type 0 = λ l. IsGiven (Some l) (PrintsCosts old new) in subst P same given

-- it is refused, or something failed
pub turned_down : (known : Option (List ℕ)) (warned : Warned) (status : ℕ) (old new : Option (List ℕ)) → (status ≡ 2 → IsGiven known (PrintsRefusal old new)) → (status ≡ 2) ⊎ (status ≡ 4)
    → IsCheckedBytes known warned status old new
turned_down known warned status old new refusal ends = record {
  costs = λ zero. absurd (no_other 0 zero (omega arith) (omega arith));
  asked = λ one. absurd (no_other 1 one (omega arith) (omega arith));
  counted = λ one. absurd (no_other 1 one (omega arith) (omega arith));
  clean = λ asked zero. absurd (no_other 0 zero (omega arith) (omega arith));
  refusal = refusal;
  ends = inr (inr ends);
}
  where
    no_other : (n : ℕ) → status ≡ n → (n ≡ 2 → ⊥) → (n ≡ 4 → ⊥) → ⊥
    no_other n is two four = elim ends [
      | inl e ↦ two (sym is ∙ e)
      | inr e ↦ four (sym is ∙ e)
    ]

-- it isn't accepted
judged : (known : Option (List ℕ)) (warned : Warned) (status : ℕ) (old new : Option (List ℕ)) → (status ≡ 0 → ⊥) → (status ≡ 2 → IsGiven known (PrintsRefusal old new))
    → (status ≡ 0) ⊎ ((status ≡ 2) ⊎ (status ≡ 4)) → IsCheckedBytes known warned status old new
judged known warned status old new other refusal (inl zero) = absurd (other zero)
judged known warned status old new other refusal (inr ends) = turned_down known warned status old new refusal ends

-- this text isn't accepted
pub not_accepted : (bytes text : List ℕ) (warned : Warned) (status : ℕ) (old new : Option (List ℕ)) → bytes ≡ text → (status ≡ 0 → ⊥)
    → (status ≡ 2 → IsGiven (Some bytes) (PrintsRefusal old new)) → (status ≡ 0) ⊎ ((status ≡ 2) ⊎ (status ≡ 4)) → IsCheckedBytes (Some text) warned status old new
not_accepted bytes text warned status old new same other refusal ends =
    let P : List ℕ → Type 0 = λ l. IsCheckedBytes (Some l) warned status old new in subst P same (judged (Some bytes) warned status old new other refusal ends)

pub failed : (known : Option (List ℕ)) (warned : Warned) (status : ℕ) (old new : Option (List ℕ)) → status ≡ 4 → IsCheckedBytes known warned status old new
failed known warned status old new four = turned_down known warned status old new (λ two. absurd (let bad : ⊥ = omega (arith, two, four) in bad)) (inr four)

-- without warnings
pub plainly : (known : Option (List ℕ)) (warned : Warned) (status : ℕ) (old new : Option (List ℕ)) → warned ≡ Unsaid → IsCheckedPlainly known status old new
    → IsCheckedBytes known warned status old new
plainly known warned status old new unsaid plain = record {
  costs = plain.costs;
  asked = λ one. absurd (no_one one);
  counted = λ one. absurd (no_one one);
  clean = λ asked zero. absurd (let bad : Unsaid ≡ Counted = sym unsaid ∙ asked in cc);
  refusal = plain.refusal;
  ends = elim plain.ends [
    | inl zero ↦ inl zero
    | inr other ↦ inr (inr other)
  ];
}
  where
    no_one : status ≡ 1 → ⊥
    no_one one = elim plain.ends [
      | inl zero ↦ (let bad : ⊥ = omega (arith, one, zero) in bad)
      | inr other ↦ elim other [
        | inl two ↦ (let bad : ⊥ = omega (arith, one, two) in bad)
        | inr four ↦ (let bad : ⊥ = omega (arith, one, four) in bad)
      ]
    ]

-- of some text
pub of_some : (known : Option (List ℕ)) (warned : Warned) (status : ℕ) (old new : Option (List ℕ)) → IsCheckedBytes known warned status old new → IsCheckedBytes None warned status old new
of_some known warned status old new c = record {
  costs = λ zero. some_bytes known (PrintsCosts old new) (c.costs zero);
  asked = c.asked;
  counted = λ one. some_bytes known (PrintsWarned old new) (c.counted one);
  clean = λ asked zero. some_bytes known (PrintsUnwarned old new) (c.clean asked zero);
  refusal = λ two. some_bytes known (PrintsRefusal old new) (c.refusal two);
  ends = c.ends;
}

-- of a built-in set
pub of_own : (own : OwnSet) (text : List ℕ) (set : Named) (warned : Warned) (status : ℕ) (old new : Option (List ℕ)) → text ≡ text_of own → set ≡ Own own
    → IsCheckedBytes (Some text) warned status old new → IsCheckedBytes (own_text_of set) warned status old new
of_own own text set warned status old new is named c =
    let P : List ℕ → Type 0 = λ l. IsCheckedBytes (Some l) warned status old new in
    let Q : Named → Type 0 = λ s. IsCheckedBytes (own_text_of s) warned status old new in
    subst Q (sym named) (subst P is c)

-- after its warnings were printed, or couldn't be
pub same_or_failed : (known : Option (List ℕ)) (warned : Warned) (status result : ℕ) (old new : Option (List ℕ)) → IsCheckedBytes known warned status old new
    → (result ≡ status) ⊎ (result ≡ 4) → IsCheckedBytes known warned result old new
same_or_failed known warned status result old new c ends = elim ends [
  | inl same ↦ (let P : ℕ → Type 0 = λ n. IsCheckedBytes known warned n old new in subst P (sym same) c)
  | inr four ↦ failed known warned result old new four
]

-- the exit status then
pub ends_told : (known : Option (List ℕ)) (warned : Warned) (status result : ℕ) (old new : Option (List ℕ)) → IsCheckedBytes known warned status old new
    → (result ≡ status) ⊎ (result ≡ 4) → (result ≡ 0) ⊎ (result ≡ 1) ⊎ (result ≡ 2) ⊎ (result ≡ 4)
ends_told known warned status result old new c ends = (same_or_failed known warned status result old new c ends).ends

-- ---- refusals of what was read

pub printed : (r : Refusal) (refusal : Result Refusal AllocError) (bytes : List ℕ) (old new : Option (List ℕ)) → refusal ≡ Ok r → IsRefusal r.fault → Appends old new (refusal_line r.fault)
    → IfOk refusal (λ x. IsFaultOf bytes x.fault) → PrintsRefusal old new bytes
printed r refusal bytes old new is judged written fault =
    let P : Result Refusal AllocError → Type 0 = λ o. IfOk o (λ x. IsFaultOf bytes x.fault) in
    record { fault = r.fault; judged = judged; is_so = subst P is fault; printed = written }

-- of bytes that aren't UTF-8
pub of_bytes : (refusal : Result Refusal AllocError) (bytes : List ℕ) → (IsUtf8 bytes → ⊥) → IfOk refusal (λ r. (all : List ℕ) → (IsUtf8 all → ⊥) → IsFaultOf all r.fault)
    → IfOk refusal (λ r. IsFaultOf bytes r.fault)
of_bytes (Ok r) bytes none told = told bytes none
of_bytes (Err e) bytes none told = tt

-- of a text that is too long
pub of_long : (refusal : Result Refusal AllocError) (bytes kept : List ℕ) → IsUtf8 bytes → IsTooLong bytes kept
    → IfOk refusal (λ r. (all : List ℕ) → IsUtf8 all → IsTooLong all kept → IsFaultOf all r.fault) → IfOk refusal (λ r. IsFaultOf bytes r.fault)
of_long (Ok r) bytes kept text long told = told bytes text long
of_long (Err e) bytes kept text long told = tt

pub refused : (bytes : List ℕ) (warned : Warned) (status : ℕ) (old new : Option (List ℕ)) → (status ≡ 2 → PrintsRefusal old new bytes) → (status ≡ 2) ⊎ (status ≡ 4)
    → IsCheckedBytes None warned status old new
refused bytes warned status old new refusal ends = turned_down None warned status old new (λ two. record { bytes = bytes; are_known = tt; holds = refusal two }) ends

-- the bytes that were read are those of the reader, whatever is known of them
pub read_of_some : (known : Option (List ℕ)) (read : TextRead) → IsReading known read → IsReading None read
read_of_some known read reading = record { bytes = reading.bytes; are_known = tt; keeps = reading.keeps }
