-- The sections of a run that are left at an end: the first of them, and the others.
use Rattle.std.proofs.Common.{◌≡◌, ℕ, ◌+◌, ◌<◌, ◌≤◌, false, List, [], ◌∷◌, ◌++◌, Option, length, take, drop, get_or, sym, ap, ◌∙◌}
use Rattle.std.specs.Prelude.{sum_by}
use Rattle.std.specs.Io.KnownBytes.{Appends}
use Rattle.std.proofs.lemmas.List.{at_drop_more, drop_all}
use Rattle.std.proofs.lemmas.List.Sums.{sum_by-cons}
use Rattle.palm_base.specs.declared.call.Entry.{Entry}
use Rattle.palm_script.specs.Transcript.{Progress, Section, section_by, sections_by, section_text, sections_text, after_section, after_sections}
use Rattle.palm_script.specs.declared.dump.DumpWhen.{DumpWhen}
use Rattle.palm_script.specs.declared.script.SectionEnd.{SectionEnd}
use Rattle.palm_cli.specs.Costs.{batches_cost, sections_cost}
use Rattle.palm_cli.specs.Streams.{AppendsFront}
use Rattle.palm_cli.proofs.Fronts.{AppendsBut, but_more, but_front}

-- ---- the first section that is left

-- The end at i, and where there is none, one of no calls.
abbrev pub end_at : List SectionEnd → ℕ → SectionEnd
end_at ends i = get_or ends i (record { calls = 0; dumps = false })

-- The first of some sections, and the others: the calls up to the first end, and those behind it.
next_section : (most : ℕ) (rest calls after : List Entry) (end : SectionEnd) (ends : List SectionEnd) → calls ≡ take end.calls rest → after ≡ drop end.calls rest
    → sections_by most rest (end ∷ ends) ≡ section_by most calls end.dumps ∷ sections_by most after ends
next_section most rest calls after end ends front back =
    ap (λ (l : List Entry). section_by most l end.dumps ∷ sections_by most (drop end.calls rest) ends) (sym front)
    ∙ ap (λ (l : List Entry). section_by most calls end.dumps ∷ sections_by most l ends) (sym back)

-- The section at i: the calls up to the i-th end are the first section that is left, and the calls behind it have the others.
pub section_at : (most : ℕ) (rest : List Entry) {calls after : List Entry} (ends : List SectionEnd) (i : ℕ) → i < length ends
    → calls ≡ take (end_at ends i).calls rest → after ≡ drop (end_at ends i).calls rest
    → sections_by most rest (drop i ends) ≡ section_by most calls (end_at ends i).dumps ∷ sections_by most after (drop (i + 1) ends)
section_at most rest {calls} {after} ends i more front back =
    at_drop_more (sections_by most rest) ends i (record { calls = 0; dumps = false }) more ∙ next_section most rest calls after (end_at ends i) (drop (i + 1) ends) front back

-- The last section: behind the last end the calls that are left are one section, with no dump.
pub last_section : (most : ℕ) (rest : List Entry) (ends : List SectionEnd) (i : ℕ) → length ends ≤ i
    → sections_by most rest (drop i ends) ≡ section_by most rest false ∷ []
last_section most rest ends i none = ap (sections_by most rest) (drop_all i ends none)

-- The ends from i on have the calls of the i-th, and those of the ends behind it.
pub calls_at : (ends : List SectionEnd) (i : ℕ) → i < length ends
    → sum_by (λ (end : SectionEnd). end.calls) (drop i ends) ≡ (end_at ends i).calls + sum_by (λ (end : SectionEnd). end.calls) (drop (i + 1) ends)
calls_at ends i more =
    at_drop_more (sum_by (λ (end : SectionEnd). end.calls)) ends i (record { calls = 0; dumps = false }) more
    ∙ sum_by-cons (λ (end : SectionEnd). end.calls) (end_at ends i) (drop (i + 1) ends)

-- ---- it was run: what is left of `sections` behind the first of them. Behind the last section that is nothing

-- Its text was written: with the text of the others it makes the whole.
pub section_written : (dump : DumpWhen) (at : Progress) (a b c : Option (List ℕ)) {next : Progress} {section : Section} {sections others : List Section} {all : List ℕ}
    → sections ≡ section ∷ others → after_section at section ≡ next → AppendsBut a b (sections_text dump at sections) all → Appends b c (section_text dump at section)
    → AppendsBut a c (sections_text dump next others) all
section_written dump at a b c {next} {section} {sections} {others} opened came old took =
    let text = ap (sections_text dump at) opened ∙ ap (λ (to : Progress). section_text dump at section ++ sections_text dump to others) came in
    but_more a b c (section_text dump at section) (sections_text dump next others) text old took

-- A front of its text was written: with what was written before it begins the whole.
pub section_begun : (dump : DumpWhen) (at : Progress) (a b c : Option (List ℕ)) {section : Section} {sections others : List Section} {all : List ℕ}
    → sections ≡ section ∷ others → AppendsBut a b (sections_text dump at sections) all → AppendsFront b c (section_text dump at section) → AppendsFront a c all
section_begun dump at a b c {section} {others = others} opened old more =
    but_front a b c (section_text dump at section) (sections_text dump (after_section at section) others) (ap (sections_text dump at) opened) old more

-- The others come to where all come to.
pub section_run : (at : Progress) {next all : Progress} {section : Section} {sections others : List Section}
    → sections ≡ section ∷ others → after_section at section ≡ next → after_sections at sections ≡ all → after_sections next others ≡ all
section_run at {others = others} opened came whole = ap (λ (to : Progress). after_sections to others) (sym came) ∙ ap (after_sections at) (sym opened) ∙ whole

-- What it and the others may take is what all might.
pub section_cost : (at : Progress) {next : Progress} {section : Section} {sections others : List Section} → sections ≡ section ∷ others → after_section at section ≡ next
    → sections_cost at.tree sections ≡ batches_cost at.tree section.history section.cutting + sections_cost next.tree others
section_cost at {section = section} {others = others} opened came =
    ap (sections_cost at.tree) opened ∙ ap (λ (to : Progress). batches_cost at.tree section.history section.cutting + sections_cost to.tree others) came
