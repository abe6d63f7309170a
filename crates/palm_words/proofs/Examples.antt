-- Worked examples of words, which the checker computes.
use Rattle.std.proofs.Common.{◌≡◌, [], ◌∷◌, Some, None, refl, codes}
use Rattle.palm_words.specs.declared.settings.Mode.TheVariants.{Replay, Deck, Gen}
use Rattle.palm_script.specs.declared.dump.DumpWhen.TheVariants.{Never, AtEnd}
use Rattle.palm_words.specs.declared.settings.Settings.{Settings}
use Rattle.palm_words.specs.Items.{items_from, option, mode_word}
use Rattle.palm_words.specs.Settings.{option_names, settings_of}

abbrev defaults : Settings
defaults = record { mode = Replay; workers = 1; batch = 4_096; window = 16; dump = Never; seed = 0; calls = 1_000 }

-- ---- items

-- VALUE begins after the first sign, and may be empty.
items-signs : items_from option_names None (codes "--dump=a=b" ∷ codes "--seed=" ∷ codes "" ∷ []) ≡ Some (option (codes "dump") (codes "a=b") ∷ option (codes "seed") [] ∷ mode_word [] ∷ [])
items-signs = refl

-- After `--` all words are mode words.
items-ended : items_from option_names None (codes "--" ∷ codes "--batch" ∷ codes "--" ∷ []) ≡ Some (mode_word (codes "--batch") ∷ mode_word (codes "--") ∷ [])
items-ended = refl

-- A VALUE in its own word may begin with a dash, and one in the next word may not.
items-dashes : items_from option_names None (codes "--batch=-4" ∷ []) ≡ Some (option (codes "batch") (codes "-4") ∷ [])
items-dashes = refl

items-refused : items_from option_names None (codes "--batch" ∷ codes "-4" ∷ []) ≡ None
items-refused = refl

-- ---- words of the form

of_form-mode : settings_of (codes "replay" ∷ []) ≡ Some defaults
of_form-mode = refl

of_form-deck : settings_of (codes "deck" ∷ []) ≡ Some (record defaults { mode = Deck })
of_form-deck = refl

of_form-gen : settings_of (codes "gen" ∷ codes "--seed" ∷ codes "7" ∷ codes "--calls=5" ∷ []) ≡ Some (record defaults { mode = Gen; seed = 7; calls = 5 })
of_form-gen = refl

of_form-both_forms : settings_of (codes "replay" ∷ codes "--batch" ∷ codes "4" ∷ codes "--window=007" ∷ []) ≡ Some (record defaults { batch = 4; window = 7 })
of_form-both_forms = refl

of_form-before : settings_of (codes "--dump" ∷ codes "end" ∷ codes "replay" ∷ []) ≡ Some (record defaults { dump = AtEnd })
of_form-before = refl

of_form-after_end : settings_of (codes "--" ∷ codes "replay" ∷ []) ≡ Some defaults
of_form-after_end = refl

-- ---- words that aren't

refused-none : settings_of [] ≡ None
refused-none = refl

refused-two_modes : settings_of (codes "replay" ∷ codes "replay" ∷ []) ≡ None
refused-two_modes = refl

refused-unknown : settings_of (codes "list" ∷ []) ≡ None
refused-unknown = refl

refused-twice : settings_of (codes "replay" ∷ codes "--batch=4" ∷ codes "--batch" ∷ codes "4" ∷ []) ≡ None
refused-twice = refl

refused-sign : settings_of (codes "replay" ∷ codes "--batch" ∷ codes "+4" ∷ []) ≡ None
refused-sign = refl

refused-bound : settings_of (codes "replay" ∷ codes "--workers=65" ∷ []) ≡ None
refused-bound = refl

refused-near_name : settings_of (codes "replay" ∷ codes "--bat=4" ∷ []) ≡ None
refused-near_name = refl

refused-no_name : settings_of (codes "replay" ∷ codes "--=4" ∷ []) ≡ None
refused-no_name = refl

refused-help : settings_of (codes "replay" ∷ codes "--help" ∷ []) ≡ None
refused-help = refl

refused-end_as_value : settings_of (codes "replay" ∷ codes "--batch" ∷ codes "--" ∷ []) ≡ None
refused-end_as_value = refl

refused-option_as_mode : settings_of (codes "--" ∷ codes "--batch" ∷ []) ≡ None
refused-option_as_mode = refl

refused-dash : settings_of (codes "-" ∷ []) ≡ None
refused-dash = refl
