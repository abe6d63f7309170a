-- The sections of a run in the order of the lines join to the script's entries.
use Rattle.std.proofs.Common.{◌≡◌, ℕ, List, [], ◌∷◌, ◌++◌, take, drop, ap, append-nil, ◌∙◌}
use Rattle.std.proofs.lemmas.List.{take-append-drop}
use Rattle.palm_base.specs.declared.call.Entry.{Entry}
use Rattle.palm_script.specs.Laws.{SectionsJoin}
use Rattle.palm_script.specs.Script.{entries_from, ends_from}
use Rattle.palm_script.specs.Transcript.{history_of, sections_by}
use Rattle.palm_script.specs.declared.script.SectionEnd.{SectionEnd}

-- Cut at any ends, entries are joined again by their sections.
parts_join : (most : ℕ) (entries : List Entry) (ends : List SectionEnd) → history_of (sections_by most entries ends) ≡ entries
parts_join most entries [] = append-nil entries
parts_join most entries (end ∷ ends) =
    ap (λ (rest : List Entry). take end.calls entries ++ rest) (parts_join most (drop end.calls entries) ends) ∙ take-append-drop end.calls entries

pub sections_join : SectionsJoin
sections_join items most = parts_join most (entries_from [] items) (ends_from 0 items)
