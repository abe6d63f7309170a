use Rattle.std.proofs.Common.{◌≡◌, map, take}
use Rattle.clap.specs.Words.{app_of}
use Rattle.palm_words.specs.Command.{command_with, option_rule}
use Rattle.palm_words.proofs.command.command_for.Given as goal

abbrev pub invariant-loop-name : goal.invariant-loop-name
invariant-loop-name l = app_of l.command ≡ command_with (map option_rule (map (λ s. s.now) (take l.name-index l.names)))
