-- The trace of changeover messages: from the printed line it follows which were sent and answered.
use Rattle.std.proofs.Common.{◌≡◌, ◌∙◌, ℕ, zero, suc, ◌%◌, ◌<◌, ◌==◌, List, [], ◌∷◌, ◌++◌, drop, get_or, Option, None, Some, Result, arith, refl, sym, ap, subst}
use Rattle.std.specs.Prelude.{◌↔◌, codes, unwrap_or}
use Rattle.std.proofs.lemmas.Bool.{false≢true}
use Rattle.std.proofs.lemmas.Option.{none-some}
use Rattle.hex.specs.Hex.{encode_upper, IsBytes}
use Rattle.hex.specs.declared.error.FromHexError.{FromHexError}
use Rattle.hex.proofs.HexLemmas.{decode_of-encode_upper}
use Rattle.script_links.specs.Octets.{octets_by, octets_of}
use Rattle.script_links.specs.GroupCommands.{PlainGroupCommand}
use Rattle.script_links.specs.GroupCommands as group
use Rattle.script_links.specs.declared.words.GroupWord.{GroupWord}
use Rattle.script_links.specs.declared.words.GroupWord.TheVariants as words
use Rattle.su_octets.specs.Bits.{AreOctets}
use Rattle.group_changeover.specs.Changeovers.{behind_label, IsKind, without_spare, Reads, Says}
use Rattle.link_group.specs.Changing.{IsRead, reply_to, fail_fault, order_at}
use Rattle.link_group.specs.Set.{LinkSet}
use Rattle.script_ends.specs.TermRuns.{latest}
use Rattle.script_ends.specs.GroupAnswers.{Playing, octets_line, Fails, fails_refused, fails_begins, IsReplied, IsHeard, Obeys}
use Rattle.group_changeover.specs.declared.changeover.Changeover.{Changeover}
use Rattle.group_changeover.specs.declared.changeover.Kind.{Kind}
use Rattle.group_changeover.specs.declared.changeover.Kind.TheVariants as kind
use Rattle.group_changeover.specs.declared.errors.FailError.{FailError}
use Rattle.script_seen.specs.TracedGroups.{message_text, heard_text, said_text, order_unless, IsChangeoverTold}
use Rattle.script_seen.specs.TracingGroups.{IsMessageTold, AreSaid, says_none, says_some, IsSaidTold, IsLastTold, AreBothTold, IsWordTold, IsToldBy}

-- ---- decoded messages

one_reading : (octets : List ℕ) (r m : Option Changeover) → ((x : Changeover) → (r ≡ Some x) ↔ Reads octets x) → IsRead octets m → r ≡ m
one_reading octets r (Some x) exact is = (exact x).1 is
one_reading octets None None exact is = refl
one_reading octets (Some x) None exact is = absurd (is x ((exact x).0 refl))

pub message_told : (clock : ℕ) (way octets text : List ℕ) (r : Option Changeover) → ((x : Changeover) → (r ≡ Some x) ↔ Reads octets x)
    → text ≡ message_text clock way r → IsMessageTold clock way octets text
message_told clock way octets text r exact is m read = is ∙ ap (message_text clock way) (one_reading octets r m exact read)

-- a number below 128 is unchanged modulo 128
small : (a : ℕ) → a < 128 → a % 128 ≡ a
small a within = omega (arith, within)

same_kind : (k : Kind) → IsKind k → without_spare (behind_label k) ≡ behind_label k
same_kind (kind.Order a) within = ap (λ (n : ℕ). 17 ∷ n ∷ []) (small a within)
same_kind (kind.Acknowledgement a) within = ap (λ (n : ℕ). 33 ∷ n ∷ []) (small a within)
same_kind kind.EmergencyOrder within = refl
same_kind kind.EmergencyAcknowledgement within = refl

reads : (octets : List ℕ) (m : Changeover) → Says octets m → Reads octets m
reads octets m says = record {
  kind = says.kind;
  label = says.label;
  rest = ap without_spare says.rest ∙ same_kind m.kind says.kind;
}

no_message : (m : Changeover) → Reads [] m → ⊥
no_message m read = none-some m.label read.label

-- ---- lines of octets

bytes : (xs : List ℕ) → AreOctets xs → IsBytes xs
bytes [] are i = omega arith
bytes (x ∷ xs) are zero = are.0
bytes (x ∷ xs) are (suc i) = bytes xs are.1 i

digits_back : (sif : List ℕ) → AreOctets sif → unwrap_or (octets_of (encode_upper sif)) [] ≡ sif
digits_back sif are = ap (λ (r : Result (List ℕ) FromHexError). unwrap_or (octets_by r) []) (decode_of-encode_upper sif (bytes sif are))

said_back : (sif digits : List ℕ) → AreOctets sif → octets_line sif ≡ codes "ok " ++ digits → unwrap_or (octets_of digits) [] ≡ sif
said_back sif digits are is =
    let same : encode_upper sif ≡ digits = ap (drop 3) is in
    ap (λ (ds : List ℕ). unwrap_or (octets_of ds) []) (sym same) ∙ digits_back sif are

too_short : (digits : List ℕ) → codes "ok" ≡ codes "ok " ++ digits → ⊥
too_short digits is = false≢true (ap (λ (xs : List ℕ). get_or xs 2 0 == 32) is)

another : (why digits : List ℕ) → codes "refused " ++ why ≡ codes "ok " ++ digits → ⊥
another why digits is = false≢true (ap (λ (xs : List ℕ). get_or xs 0 0 == 111) is)

-- the line of an answer to a message
reply_read : (r : Option Changeover) (line octets : List ℕ) → IsReplied r line → AreSaid line octets → IsRead octets r
reply_read None line _ replied (says_none none) = no_message
reply_read None line _ replied (says_some digits is) = absurd (too_short digits (sym replied ∙ is))
reply_read (Some m) line _ replied (says_none none) = absurd (none (encode_upper replied.0) replied.3)
reply_read (Some m) line _ replied (says_some digits is) =
    let R : List ℕ → Type 0 = λ octets. Reads octets m in
    subst R (sym (said_back replied.0 digits replied.1 (sym replied.3 ∙ is))) (reads replied.0 m replied.2)

-- the line of a refusal
refused_read : (why octets : List ℕ) → AreSaid (codes "refused " ++ why) octets → (m : Changeover) → Reads octets m → ⊥
refused_read why _ (says_none none) = no_message
refused_read why _ (says_some digits is) = absurd (another why digits is)

-- the line of `fail`
order_read : (l : ℕ) (c d : LinkSet) (line octets : List ℕ) → Fails l c line d → AreSaid line octets
    → IsRead octets (order_unless (fail_fault c l) (order_at c l))
order_read l c _ _ octets (fails_refused e fault) said =
    let P : Option FailError → Type 0 = λ o. IsRead octets (order_unless o (order_at c l)) in
    subst P (sym fault) (refused_read _ octets said)
order_read l c _ _ octets (fails_begins sif fault are says) said =
    let P : Option FailError → Type 0 = λ o. IsRead octets (order_unless o (order_at c l)) in
    subst P (sym fault) (reply_read (Some (order_at c l)) (octets_line sif) octets (sif, are, says, refl) said)

-- ---- commands

heard_so : (clock : ℕ) (octets : List ℕ) (c d : LinkSet) (line text : List ℕ) → IsHeard octets c line d → AreBothTold clock octets (Some line) text
    → (m : Option Changeover) → IsRead octets m → text ≡ heard_text clock m ++ said_text clock (reply_to c m)
heard_so clock octets c d line text h told m read =
    let s = told.is_said in
    let heard : told.heard ≡ heard_text clock m = told.is_heard m read in
    let said : told.said ≡ said_text clock (reply_to c m) =
    s.told (reply_to c m) (reply_read (reply_to c m) line s.octets (h.says m read) s.are_said) in
    told.are ∙ (ap (λ (t : List ℕ). t ++ told.said) heard ∙ ap (λ (t : List ℕ). heard_text clock m ++ t) said)

fails_so : (clock l : ℕ) (c d : LinkSet) (line text : List ℕ) → Fails l c line d → IsSaidTold clock line text
    → text ≡ said_text clock (order_unless (fail_fault c l) (order_at c l))
fails_so clock l c d line text fails told = told.told (order_unless (fail_fault c l) (order_at c l)) (order_read l c d line told.octets fails told.are_said)

word_so : (clock : ℕ) (w : GroupWord) (p q : Playing) (lines : List (List ℕ)) (last : Option (List ℕ)) (text : List ℕ) → Obeys (group.own w) p lines q
    → IsWordTold clock w (latest last lines) text → IsChangeoverTold clock (group.own w) p text
word_so clock words.Fail p q lines last text obeys told =
    let L : List (List ℕ) → Type 0 = λ ls. IsLastTold clock (latest last ls) text in
    fails_so clock p.on p.set q.set obeys.text text obeys.answers.set (subst L obeys.one told)
word_so clock words.Retrieve p q lines last text obeys told = told
word_so clock words.Abandon p q lines last text obeys told = told
word_so clock words.Divert p q lines last text obeys told = told
word_so clock words.Rebalance p q lines last text obeys told = told
word_so clock words.Table p q lines last text obeys told = told
word_so clock words.Held p q lines last text obeys told = told
word_so clock words.Unsure p q lines last text obeys told = told
word_so clock words.Link p q lines last text obeys told = told

-- the trace made from the printed line is that of the messages sent and answered
pub told_so : (clock : ℕ) (c : PlainGroupCommand) (p q : Playing) (lines : List (List ℕ)) (last : Option (List ℕ)) (text : List ℕ) → Obeys c p lines q
    → IsToldBy clock c (latest last lines) text → IsChangeoverTold clock c p text
told_so clock (group.order o) p q lines last text obeys told = told
told_so clock (group.unit octets) p q lines last text obeys told = told
told_so clock (group.line octets) p q lines last text obeys told = told
told_so clock (group.out n) p q lines last text obeys told = told
told_so clock (group.ticks n) p q lines last text obeys told = told
told_so clock (group.state process) p q lines last text obeys told = told
told_so clock (group.shown process variable) p q lines last text obeys told = told
told_so clock (group.expected said) p q lines last text obeys told = told
told_so clock (group.on link) p q lines last text obeys told = told
told_so clock (group.sending octets) p q lines last text obeys told = told
told_so clock (group.bound octets) p q lines last text obeys told = told
told_so clock (group.message octets) p q lines last text obeys told =
    let L : List (List ℕ) → Type 0 = λ ls. AreBothTold clock octets (latest last ls) text in
    heard_so clock octets p.set q.set obeys.text text obeys.answers.set (subst L obeys.one told)
told_so clock (group.admitting way) p q lines last text obeys told = told
told_so clock (group.own w) p q lines last text obeys told = word_so clock w p q lines last text obeys told

-- ---- the trace as the code makes it

pub last_as : (clock : ℕ) (last : Option (List ℕ)) (line given text : List ℕ) → last ≡ Some line → given ≡ line → IsSaidTold clock given text
    → IsLastTold clock last text
last_as clock last line given text is same told =
    let S : List ℕ → Type 0 = λ it. IsSaidTold clock it text in
    let L : Option (List ℕ) → Type 0 = λ it. IsLastTold clock it text in
    subst L (sym is) (subst S same told)

pub last_none : (clock : ℕ) (last : Option (List ℕ)) (text : List ℕ) → last ≡ None → text ≡ [] → IsLastTold clock last text
last_none clock last text is empty = let L : Option (List ℕ) → Type 0 = λ it. IsLastTold clock it text in subst L (sym is) empty

pub fail_as : (clock : ℕ) (w : GroupWord) (last : Option (List ℕ)) (text : List ℕ) → w ≡ words.Fail → IsLastTold clock last text → IsWordTold clock w last text
fail_as clock w last text is told = let W : GroupWord → Type 0 = λ it. IsWordTold clock it last text in subst W (sym is) told

pub message_as : (clock : ℕ) (c : PlainGroupCommand) (octets given : List ℕ) (last : Option (List ℕ)) (text : List ℕ) → c ≡ group.message octets → given ≡ octets
    → AreBothTold clock given last text → IsToldBy clock c last text
message_as clock c octets given last text is same told =
    let B : List ℕ → Type 0 = λ it. AreBothTold clock it last text in
    let C : PlainGroupCommand → Type 0 = λ it. IsToldBy clock it last text in
    subst C (sym is) (subst B same told)

pub word_as : (clock : ℕ) (c : PlainGroupCommand) (w : GroupWord) (last : Option (List ℕ)) (text : List ℕ) → c ≡ group.own w → IsWordTold clock w last text
    → IsToldBy clock c last text
word_as clock c w last text is told = let C : PlainGroupCommand → Type 0 = λ it. IsToldBy clock it last text in subst C (sym is) told
