-- How the table of a link set and the state of a link are printed.
use Rattle.std.specs.Prelude.{ℕ, zero, suc, Bool, true, false, not, if◌then◌else◌, List, ◌++◌}
use Rattle.std.specs.Prelude.{Option, None, Some, codes}
use Rattle.std.specs.Fmt.{decimal}
use Rattle.group_changeover.specs.Sharing.{link_of}
use Rattle.link_group.specs.declared.state.LinkState.{LinkState}

abbrev pub entry_text : ℕ → Option ℕ → List ℕ
entry_text s None = decimal s ++ codes " -"
entry_text s (Some l) = decimal s ++ codes " " ++ decimal l

-- A selection and its link.
abbrev pub entry_at : List (Option ℕ) → ℕ → List ℕ
entry_at ts s = entry_text s (link_of ts s)

-- The entries from selection 0 to this one.
unfoldable pub entries_to : List (Option ℕ) → ℕ → List ℕ
entries_to ts zero = entry_at ts zero
entries_to ts (suc s) = entries_to ts s ++ codes ", " ++ entry_at ts (suc s)

abbrev pub table_line : List (Option ℕ) → List ℕ
table_line ts = entries_to ts 15

-- ---- a link

abbrev pub told_if : Bool → List ℕ → List ℕ → List ℕ
told_if b text before = if b then before ++ text else before

abbrev pub waited_text : Option ℕ → List ℕ → List ℕ
waited_text None before = before
waited_text (Some n) before = before ++ codes ", changeover " ++ decimal n

abbrev pub service_text : Bool → List ℕ
service_text true = codes "in service"
service_text false = codes "out of service"

-- The state of a link, as it is printed.
abbrev pub link_text : LinkState → List ℕ
link_text s =
    told_if (not s.admitted) (codes ", not admitted")
    (waited_text s.changeover
    (told_if s.held (codes ", held")
    (told_if s.failed (codes ", failed") (service_text s.in_service))))
