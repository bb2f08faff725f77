-- The limits of forced retransmission (Q.703, 6.4) that a text has, and those of a terminal that
-- runs it.
use Rattle.std.specs.Prelude.{◌≡◌, ℕ, ℤ, pos, negsuc, List, Option, None, Some, codes, nat_lt}
use Rattle.std.specs.Prelude.{if◌then◌else◌}
use Rattle.resend_store.specs.Limits.{N1 as MOST_N1, N2 as MOST_N2, LEAST_N2}
use Rattle.resend_store.specs.Messages.{usual_limits}
use Rattle.resend_store.specs.declared.messages.Mode.{Mode}
use Rattle.resend_store.specs.declared.messages.Mode.TheVariants.{Basic, Cyclic}
use Rattle.resend_store.specs.declared.messages.RoundLimits.{RoundLimits}
use Rattle.sdl_ast.specs.Plain.{PlainBlock}
use Rattle.turn_verify.specs.Meanings.{integer_synonym}
use Rattle.mtp2_text.specs.declared.limits.TextLimits.{TextLimits}
use Rattle.mtp2_text.specs.declared.limits.LimitName.{LimitName}
use Rattle.mtp2_text.specs.declared.limits.LimitName.TheVariants.{N1, N2}

abbrev pub limit_text : LimitName → List ℕ
limit_text N1 = codes "N1"
limit_text N2 = codes "N2"

-- ---- the text's limits

-- these are the Integer synonyms N1 and N2 of the text's block, if it has them
pub record AreLimitsOf (b : PlainBlock) (limits : TextLimits) : Type 0 where
  pub messages : limits.messages ≡ integer_synonym b (codes "N1")
  pub octets : limits.octets ≡ integer_synonym b (codes "N2")

-- those of a text whose block has neither
abbrev pub no_limits : TextLimits
no_limits = record { messages = None; octets = None }

-- ---- the terminal's limits

-- a number in a range
abbrev pub within : ℕ → ℕ → ℕ → Option ℕ
within least most n = if nat_lt n least then None else (if nat_lt most n then None else Some n)

abbrev pub in_range : ℕ → ℕ → ℤ → Option ℕ
in_range least most (pos n) = within least most n
in_range least most (negsuc n) = None

-- the text's limit, else the usual one; none if the text's is out of its range
abbrev pub own_or : ℕ → ℕ → ℕ → Option ℤ → Option ℕ
own_or least most usual None = Some usual
own_or least most usual (Some x) = in_range least most x

-- the chosen limit, else that of the text
abbrev pub chosen_or : Option ℕ → Option ℕ → Option ℕ
chosen_or (Some n) own = Some n
chosen_or None own = own

abbrev pub messages_over : Option ℤ → Option ℕ → Option ℕ
messages_over own chosen = chosen_or chosen (own_or 1 MOST_N1 usual_limits.messages own)

abbrev pub octets_over : Option ℤ → Option ℕ → Option ℕ
octets_over own chosen = chosen_or chosen (own_or LEAST_N2 MOST_N2 usual_limits.octets own)

abbrev pub both_limits : Option ℕ → Option ℕ → Option RoundLimits
both_limits None octets = None
both_limits (Some m) None = None
both_limits (Some m) (Some n) = Some (record { messages = m; octets = n })

abbrev pub limits_over : TextLimits → Option ℕ → Option ℕ → Option RoundLimits
limits_over l messages octets =
    both_limits (messages_over l.messages messages) (octets_over l.octets octets)

abbrev pub first_wrong : Option ℕ → Option ℕ → Option LimitName
first_wrong None octets = Some N1
first_wrong (Some m) None = Some N2
first_wrong (Some m) (Some n) = None

-- the first limit that isn't chosen and is out of its range
abbrev pub wrong_limit : TextLimits → Option ℕ → Option ℕ → Option LimitName
wrong_limit l messages octets =
    first_wrong (messages_over l.messages messages) (octets_over l.octets octets)

-- with basic error correction no limit is used: the usual ones, whatever is chosen
abbrev pub limits_in : Mode → TextLimits → Option ℕ → Option ℕ → Option RoundLimits
limits_in Basic l messages octets = Some usual_limits
limits_in Cyclic l messages octets = limits_over l messages octets

abbrev pub wrong_in : Mode → TextLimits → Option ℕ → Option ℕ → Option LimitName
wrong_in Basic l messages octets = None
wrong_in Cyclic l messages octets = wrong_limit l messages octets
