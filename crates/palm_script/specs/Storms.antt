-- Stormy runs: the callers of a section call beside each other, so that a section's history has the calls of each caller
-- in the caller's own order, and those of several callers in any order, in batches of any lengths.
use Rattle.std.specs.Prelude.{◌≡◌, ◌≤◌, ℕ, ◌+◌, ◌==◌, List, [], ◌∷◌, ◌++◌, map, count_by}
use Rattle.std.specs.List.{AllByRecursion, range_with_len}
use Rattle.palm_base.specs.History.{calls_of, entries_of, KeepsOrder, IsCutting}
use Rattle.palm_base.specs.declared.call.Call.{Call}
use Rattle.palm_base.specs.declared.call.Entry.{Entry}
use Rattle.palm_script.specs.Transcript.{Section, straight}
use Rattle.palm_script.specs.declared.line.TheConstants.{MOST_CALLER}
use Rattle.palm_script.specs.declared.line.Line.{Line}

-- The callers that a script may have: 0, 1, 2 and so on up to 63.
unfoldable pub callers : List ℕ
callers = range_with_len 0 (MOST_CALLER + 1)

-- How many of these entries each caller has, which is the place of its next one. So after (3, 0, x), (0, 0, y), (3, 1, z)
-- the places are 1, 0, 0, 2, and 0 for each later caller.
abbrev pub places_after : List Entry → List ℕ
places_after entries = map (λ caller. count_by (λ entry. entry.caller == caller) entries) callers

-- The calls of each caller among these entries, in their order. So of (3, 0, x), (0, 0, y), (3, 1, z) the caller 0 has the
-- call y, the caller 3 has x, z, and each other caller has none.
abbrev pub calls_by_caller : List Entry → List (List Call)
calls_by_caller entries = map (λ caller. calls_of (entries_of caller entries)) callers

-- A section that may stand in a stormy run in place of its own, the one of the straight run, after the entries before it.
-- So where its own has the history (3, 0, x), (0, 0, y), (3, 1, z), the section may have (0, 0, y), (3, 0, x), (3, 1, z) in
-- batches of 1 and 2, and may not have (3, 1, z) before (3, 0, x).
pub record IsStormySection (most : ℕ) (before : List Entry) (own section : Section) : Type 0 where
  -- each caller makes the calls that its own section has of it, whole and in order, placed after those before
  pub keeps : KeepsOrder (places_after before) (calls_by_caller own.history) section.history
  -- in batches, none of them empty
  pub cuts : IsCutting section.history section.cutting
  -- and none longer than `most`
  pub few : AllByRecursion (λ n. n ≤ most) section.cutting
  -- and dumped where its own is
  pub dumps : section.dumps ≡ own.dumps

-- Sections that may stand in place of their own, one for one, after the entries before them.
-- So after no entry and with 4 for `most`, (3, 0, x) and (0, 0, y), sections of one batch each, may stand in their own place,
-- and one section can't stand in place of the two.
abbrev pub IsStormyFrom : ℕ → List Entry → List Section → List Section → Type 0
IsStormyFrom most before [] [] = Unit {0}
IsStormyFrom most before [] (section ∷ sections) = ⊥
IsStormyFrom most before (own ∷ owns) [] = ⊥
IsStormyFrom most before (own ∷ owns) (section ∷ sections) =
    IsStormySection most before own section × IsStormyFrom most (before ++ own.history) owns sections

-- A run of these items whose callers call beside each other within a section, in batches of `most` calls or fewer. A `cut`
-- or a `dump` in the script still parts what stands before it from what stands behind it.
-- So where the caller 3 makes x, the caller 0 then y and 3 then z, the section y, x, z in batches of 1 is such a run, and where
-- a `cut` stands behind x it isn't.
abbrev pub IsStormy : List Line → ℕ → List Section → Type 0
IsStormy items most run = IsStormyFrom most [] (straight items most) run
