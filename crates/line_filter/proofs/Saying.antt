-- The octets sent are those of the terminal's units.
use Rattle.std.proofs.Common.{◌≡◌, ℕ, ◌+◌, Bool, true, List, [], ◌∷◌, ◌++◌, length, Option, refl, sym, ap, ◌∙◌, subst, append_assoc, append-nil}
use Rattle.std.specs.Prelude.{replicate}
use Rattle.su_octets.specs.Bits.{low_bits, bits_of}
use Rattle.bit_line.specs.Sending.{line_of}
use Rattle.bit_line.specs.Stuffers.{Gave}
use Rattle.bit_line.specs.declared.stuffer.Stuffer.{Stuffer}
use Rattle.line_filter.specs.Acts.{Act}
use Rattle.line_filter.specs.Speaking.{Voice, IsSilent, Gives, fixed, fresh, silent}
use Rattle.line_filter.specs.Reporting.{ToldLine}
use Rattle.line_filter.specs.Runs.{State, Behind, between, eighth, Runs, begins, octet}
use Rattle.line_filter.specs.Laws.{nothing, unit, silence, answer_of, answers_along, Speaks}

bits_joined : (xs ys : List ℕ) → bits_of (xs ++ ys) ≡ bits_of xs ++ bits_of ys
unfolding bits_of
bits_joined [] ys = refl
bits_joined (x ∷ xs) ys = ap (λ bs. low_bits 8 x ++ bs) (bits_joined xs ys) ∙ sym (append_assoc (low_bits 8 x) (bits_of xs) (bits_of ys))

one_by_one : (out ready rest : List ℕ) (o : ℕ) → ready ≡ o ∷ rest → (out ++ o ∷ []) ++ rest ≡ out ++ ready
one_by_one out ready rest o is = append_assoc out (o ∷ []) rest ∙ ap (λ l. out ++ l) (sym is)

all_out : (out ready before since : List ℕ) → ready ≡ [] → out ++ ready ≡ before ++ since → out ≡ before ++ since
all_out out ready before since none parts = sym (append-nil out) ∙ (ap (λ l. out ++ l) (sym none) ∙ parts)

gave_by : (given : List ℕ) (frames : List (List ℕ)) (old new : Stuffer) → new ≡ old → Gave given frames old → Gave given frames new
gave_by given frames old new is gave = let P : Stuffer → Type 0 = λ s. Gave given frames s in subst P (sym is) gave

gives_speaks : {T : Type 0} (acts : T → Act → T → Type 0) (t : T) (v : Voice) (o : ℕ) (u : T) (w : Voice) (out : List ℕ) (answers : List (Option (List ℕ)))
    → Speaks answers out v → (g : Gives acts t v o u w) → Speaks (answer_of g ++ answers) (out ++ o ∷ []) w
gives_speaks acts t v o u w out answers s (fixed ready sending same) = record {
  bits = s.bits;
  frames = s.frames;
  said = s.said;
  before = s.before;
  since = s.since;
  parts = one_by_one out v.ready w.ready o ready ∙ s.parts;
  bits_before = s.bits_before;
  gave = gave_by s.since s.frames v.sending w.sending sending s.gave;
}
gives_speaks acts t v o u w out answers s (fresh x ready act stuffs) = record {
  bits = s.bits;
  frames = s.frames ++ stuffs.frame ∷ [];
  said = unit stuffs.frame s.said;
  before = s.before;
  since = s.since ++ o ∷ w.ready;
  parts =
      append_assoc out (o ∷ []) w.ready
      ∙ (ap (λ l. l ++ o ∷ w.ready) (all_out out v.ready s.before s.since ready s.parts) ∙ append_assoc s.before s.since (o ∷ w.ready));
  bits_before = s.bits_before;
  gave = stuffs.gave s.since s.frames s.gave;
}
gives_speaks acts t v o u w out answers s (silent ready act none fills) = record {
  bits = s.bits ++ (line_of s.frames ++ replicate fills.ones true);
  frames = [];
  said = silence fills.ones fills.some fills.few s.said;
  before = out ++ o ∷ [];
  since = [];
  parts = ap (λ l. (out ++ o ∷ []) ++ l) none;
  bits_before =
      ap (λ l. bits_of (l ++ o ∷ [])) (all_out out v.ready s.before s.since ready s.parts)
      ∙ (ap bits_of (append_assoc s.before s.since (o ∷ []))
      ∙ (bits_joined s.before (s.since ++ o ∷ []) ∙ (ap (λ l. l ++ bits_of (s.since ++ o ∷ [])) s.bits_before ∙ ap (λ l. s.bits ++ l) (fills.bits s.since s.frames s.gave))));
  gave = fills.anew;
}

behind_voice : {T : Type 0} (acts : T → Act → T → Type 0) (count : ℕ) (s t : State T) (bytes : List ToldLine) (goes_on : Bool) → Behind acts count s bytes goes_on t → t.voice ≡ s.voice
behind_voice acts count s _ _ _ (between not) = refl
behind_voice acts count s _ _ _ (eighth is minds) = minds.obeys.voice ∙ minds.voice

speaks_as : (answers : List (Option (List ℕ))) (xs ys : List ℕ) (v w : Voice) → xs ≡ ys → w ≡ v → Speaks answers xs v → Speaks answers ys w
speaks_as answers xs ys v w h k s =
    let P : List ℕ → Type 0 = λ l. Speaks answers l v in
    let Q : Voice → Type 0 = λ x. Speaks answers ys x in
    subst Q (sym k) (subst P h s)

runs_speak : {T : Type 0} (acts : T → Act → T → Type 0) (count : ℕ) (s : State T) (t : State T) (goes_on : Bool) (come out : List ℕ) (bytes : List ToldLine) → Speaks [] [] s.voice
    → (r : Runs acts count s come out bytes goes_on t) → Speaks (answers_along r) out t.voice
runs_speak acts count s _ _ _ _ _ first begins = first
runs_speak acts count s _ _ _ _ _ first (octet {come} {out} {bytes} {t} comes gives more goes last rest steps) =
    speaks_as (answer_of steps.exchanges.out ++ answers_along rest) (out ++ gives ∷ []) (out ++ gives ∷ []) steps.middle.voice last.voice refl
    (behind_voice acts ((count + length come) + 1) steps.middle last steps.second goes steps.behind)
    (gives_speaks acts t.term t.voice gives steps.exchanges.asked steps.middle.voice out (answers_along rest) (runs_speak acts count s t true come out bytes first rest) steps.exchanges.out)

no_bits : bits_of [] ≡ []
unfolding bits_of
no_bits = refl

pub all_said : {T : Type 0} (acts : T → Act → T → Type 0) (count : ℕ) (s t : State T) (goes_on : Bool) (come out : List ℕ) (bytes : List ToldLine) → IsSilent s.voice
    → (r : Runs acts count s come out bytes goes_on t) → Speaks (answers_along r) out t.voice
all_said acts count s t goes_on come out bytes none runs =
    runs_speak acts count s t goes_on come out bytes
    (record {
      bits = [];
      frames = [];
      said = nothing;
      before = [];
      since = [];
      parts = none.ready;
      bits_before = no_bits;
      gave = none.sending;
    }) runs
