-- The first report of a run of a set, and delays of its rounds.
use Rattle.std.specs.Prelude.{ℕ, ◌+◌, ◌-◌, ◌^◌, nat_le, nat_lt, min, if◌then◌else◌, List, ◌++◌}
use Rattle.std.specs.Prelude.{codes}
use Rattle.line_filter.specs.Reporting.{Stand, TellsLines, kept}
use Rattle.line_filter.specs.declared.reports.Wait.TheVariants.{Other}

-- the report, with this date: the version of the program, the name of the text and its digest
abbrev pub begin_text : List ℕ → List ℕ → List ℕ → List ℕ
begin_text date name sum =
    codes "begins "
    ++ (date
    ++ (codes " " ++ (codes "1.0" ++ (codes " " ++ (name ++ (codes " " ++ sum))))))

-- it is reported, at millisecond 0, and waits for its reader
pub record TellsBegin (name sum : List ℕ) (old new : Stand) : Type 0 where
  pub date : List ℕ
  pub tells : TellsLines old new (kept Other 0 (begin_text date name sum))

-- A round is late by more than 4 ms. That is reported once it is 100 ms more than was reported
-- since a round was in time; 0 reports nothing.
abbrev pub late_from : ℕ → ℕ
late_from told = min (2 ^ 64 - 1) (told + 100)

abbrev pub late_of : ℕ → ℕ → ℕ
late_of told behind =
    if nat_le behind 4 then 0 else (if nat_lt behind (late_from told) then 0 else behind)

abbrev pub told_of : ℕ → ℕ → ℕ
told_of told behind =
    if nat_le behind 4 then 0 else (if nat_lt behind (late_from told) then told else behind)
